-- What nodes say from which nothing is missing below: a row of an index.
use Rattle.std.proofs.Common.{◌≡◌, ℕ, ◌+◌, ◌*◌, ◌-◌, ◌<◌, ◌≤◌, ◌^◌, nat_lt, Bool, true, false, List, [], ◌∷◌, ◌++◌, Option, Some, None, length, map, take, refl, ap, sym, ◌∙◌, subst, inl, inr, arith, append_assoc}
use Rattle.std.specs.Prelude.{◌==◌, ◌&&◌, ◌||◌, not, if◌then◌else◌, All, IsTrue}
use Rattle.std.specs.List.{AllByRecursion, find}
use Rattle.std.specs.Option.{option_map, option_map_or}
use Rattle.std.proofs.lemmas.Bool.{and_parts, cases_Bool, cases_eq, eqb-true, le-leb, lt-ltb, ltb-false, ltb-true, not-false, or_parts}
use Rattle.std.proofs.lemmas.List.Elements.{All-append, All-cons, All-nil}
use Rattle.ubifs_base.specs.Key.{IsKey, key_words}
use Rattle.ubifs_base.specs.declared.key.Key.{Key}
use Rattle.ubifs_base.specs.declared.key.Key.TheVariants.{Ino, Block, Dent, Xent}
use Rattle.ubifs_base.specs.declared.raw_geometry.RawGeometry.{RawGeometry}
use Rattle.media_lpt.specs.declared.lprop.Lprop.{Lprop}
use Rattle.media_sys.specs.Index.{Index, in_order, is_entry, may_follow}
use Rattle.media_sys.specs.declared.branch.Branch.{Branch}
use Rattle.media_sys.specs.declared.master.Master.{Master}
use Rattle.index_tree.specs.Order.{key_rank}
use Rattle.index_tree.specs.Shape.{contents as leaves_in, count, fits as nodes_fit}
use Rattle.index_tree.specs.declared.leaf.Leaf.{Leaf}
use Rattle.index_media.specs.Keys.{AreBounded, IsAtMost, bound_before, branch_rank}
use Rattle.index_media.specs.PlacedRow.{PlacedRow, all_nodes, branch_to, branches_of, ended, leaf_at, leaf_of, lebs_of, node_at, plain}
use Rattle.index_media.specs.Stored.{AreStored, IsIndexNodeAt}
use Rattle.sound_image.specs.Index.{HasIndex, root_branch}
use Rattle.sound_image.specs.IndexBreaches.{NodeWanted, index_misfit, is_above, is_below, is_off_level, is_out, key_misfit, most_below, root_wanted}
use Rattle.sound_image.specs.Properties.{is_marked_index}
use Rattle.sound_image.specs.Wrong.{Misfit, differs}
use Rattle.index_check.proofs.Levels.{leaves_all, leaves_none, nodes_above, nodes_none}
use Rattle.index_check.specs.IndexWalk.{leaves_below, nodes_below, told_branch, wanted_below}

-- ---- what it means that nothing is wrong with a node
chosen : {X : Type 0} (b : Bool) (x : X) (rest : Option X) → (if b then Some x else rest) ≡ None → (b ≡ false) × (rest ≡ None)
chosen true x rest h = absurd cc
chosen false x rest h = (refl, h)

none_mapped : {X Y : Type 0} (f : X → Y) (o : Option X) → option_map f o ≡ None → o ≡ None
none_mapped f None h = refl
none_mapped f (Some x) h = absurd cc

pub record IsRight (geo : RawGeometry) (props : List Lprop) (wanted : NodeWanted) (said : Index) : Type 0 where
  pub few : length said.branches ≤ geo.fanout
  pub marked : is_marked_index geo props wanted.branch.lnum ≡ true
  pub level : is_off_level wanted said ≡ false
  pub keys : find (is_out wanted) said.branches ≡ None

pub right_parts : (geo : RawGeometry) (props : List Lprop) (wanted : NodeWanted) (said : Index) → index_misfit geo props wanted said ≡ None → IsRight geo props wanted said
right_parts geo props wanted said h =
    let many = nat_lt geo.fanout (length said.branches) in
    let marked = is_marked_index geo props wanted.branch.lnum in
    let out = option_map (λ (branch : Branch). key_misfit wanted branch.key) (find (is_out wanted) said.branches) in
    let off : Option Misfit = if is_off_level wanted said then Some (differs (option_map_or (λ (level : ℕ). level) wanted.level 0) said.level) else out in
    let a = chosen many (differs geo.fanout (length said.branches)) (if not marked then Some (differs 1 0) else off) h in
    let b = chosen (not marked) (differs 1 0) off a.1 in
    let c = chosen (is_off_level wanted said) (differs (option_map_or (λ (level : ℕ). level) wanted.level 0) said.level) out b.1 in
    record {
      few = ltb-false geo.fanout (length said.branches) a.0;
      marked = not-false marked b.0;
      level = c.0;
      keys = none_mapped (λ (branch : Branch). key_misfit wanted branch.key) (find (is_out wanted) said.branches) c.1;
    }

-- ---- keys ascend
words_low : (key : Key) → IsKey key → (key_words key).1 < 2 ^ 33
words_low (Ino ino) h = omega arith
words_low (Block ino block) h = let low = h.1 in omega (arith, low)
words_low (Dent dir hash) h = let low = h.1 in omega (arith, low)
words_low (Xent ino hash) h = let low = h.1 in omega (arith, low)

not_left : (a b : Bool) → a ≡ false → (a || b) ≡ true → b ≡ true
not_left true b e h = absurd cc
not_left false b e h = h

words_follow : (a b c d : ℕ) (entry : Bool) → b < 2 ^ 33 → d < 2 ^ 33 → (nat_lt a c || (a == c && (nat_lt b d || (b == d && entry)))) ≡ true → a * 2 ^ 33 + b ≤ c * 2 ^ 33 + d
words_follow a b c d entry lowb lowd h = elim (cases_Bool (nat_lt a c)) [
  | inl less ↦ let l = ltb-true a c less in omega (arith, l, lowb, lowd)
  | inr more ↦
      let p = and_parts (a == c) (nat_lt b d || (b == d && entry)) (not_left (nat_lt a c) (a == c && (nat_lt b d || (b == d && entry))) more h) in
      let e = eqb-true a c p.0 in
      elim (cases_Bool (nat_lt b d)) [
        | inl low ↦ let l = ltb-true b d low in omega (arith, e, l)
        | inr high ↦
            let q = and_parts (b == d) entry (not_left (nat_lt b d) (b == d && entry) high p.1) in
            let f = eqb-true b d q.0 in
            omega (arith, e, f)
      ]
]

follows : (a b : Key) → IsKey a → IsKey b → may_follow (Some a) b ≡ true → key_rank a ≤ key_rank b
unfolding key_rank
follows a b x y h = words_follow (key_words a).0 (key_words a).1 (key_words b).0 (key_words b).1 (is_entry b) (words_low a x) (words_low b y) h

at_most : (most : Option Key) (key : Key) → option_map_or (λ (m : Key). nat_lt (key_rank m) (key_rank key)) most false ≡ false → IsAtMost (key_rank key) (option_map key_rank most)
at_most None key h = tt
at_most (Some most) key h = ltb-false (key_rank most) (key_rank key) h

found_none : {X : Type 0} (test : X → Bool) (x : X) (xs : List X) → find test (x ∷ xs) ≡ None → (test x ≡ false) × (find test xs ≡ None)
found_none test x xs h = chosen (test x) x (find test xs) h

-- each key is at least the one before it, and at most the most
abbrev AscendTo : ℕ → Option ℕ → List Branch → Type 0
AscendTo least most [] = Unit {0}
AscendTo least most (branch ∷ rest) = (least ≤ branch_rank branch) × IsAtMost (branch_rank branch) most × AscendTo (branch_rank branch) most rest

ascend_behind : (wanted : NodeWanted) (before : Key) (branches : List Branch) → IsKey before → AllByRecursion (λ (branch : Branch). IsKey branch.key) branches → in_order (Some before) branches ≡ true → find (is_out wanted) branches ≡ None
    → AscendTo (key_rank before) (option_map key_rank wanted.most) branches
ascend_behind wanted before [] k keys order none = tt
ascend_behind wanted before (branch ∷ rest) k keys order none =
    let o = and_parts (may_follow (Some before) branch.key) (in_order (Some branch.key) rest) order in
    let n = found_none (is_out wanted) branch rest none in
    let out = or_parts (is_below wanted branch.key) (is_above wanted branch.key) n.0 in
    (follows before branch.key k keys.0 o.0, at_most wanted.most branch.key out.1, ascend_behind wanted branch.key rest keys.0 keys.1 o.1 n.1)

pub ascend : (wanted : NodeWanted) (branches : List Branch) → AllByRecursion (λ (branch : Branch). IsKey branch.key) branches → in_order None branches ≡ true → find (is_out wanted) branches ≡ None
    → AscendTo (key_rank wanted.branch.key) (option_map key_rank wanted.most) branches
ascend wanted [] keys order none = tt
ascend wanted (branch ∷ rest) keys order none =
    let n = found_none (is_out wanted) branch rest none in
    let out = or_parts (is_below wanted branch.key) (is_above wanted branch.key) n.0 in
    (ltb-false (key_rank branch.key) (key_rank wanted.branch.key) out.0, at_most wanted.most branch.key out.1, ascend_behind wanted branch.key rest keys.0 keys.1 order n.1)

-- ---- rows
-- Where a node is wanted one stands with these children, and all below it is in order.
pub record IsBelow (contents : ℕ → List ℕ) (geo : RawGeometry) (props : List Lprop) (wanted : NodeWanted) (children : PlacedRow) : Type 0 where
  pub levels : ℕ
  pub node : IsIndexNodeAt contents wanted.branch (record { level = levels; branches = branches_of children })
  pub level : is_off_level wanted (record { level = levels; branches = branches_of children }) ≡ false
  pub stored : AreStored contents levels children
  pub fit : nodes_fit geo.fanout (plain children) ≡ true
  pub some : 0 < length (branches_of children)
  pub few : length (branches_of children) ≤ geo.fanout
  pub bounded : AreBounded (key_rank wanted.branch.key) (option_map key_rank wanted.most) children
  pub marked : is_marked_index geo props wanted.branch.lnum ≡ true
  pub all_marked : All (λ lnum. IsTrue (is_marked_index geo props lnum)) (lebs_of children)

-- a row of such nodes, one for each that is wanted
abbrev pub AreBelow : (ℕ → List ℕ) → RawGeometry → List Lprop → List NodeWanted → PlacedRow → Type 0
AreBelow contents geo props [] row = row ≡ ended
AreBelow contents geo props (wanted ∷ rest) row =
    (children : PlacedRow) × (others : PlacedRow) × (row ≡ node_at (told_branch wanted (branches_of children)) children others) × IsBelow contents geo props wanted children × AreBelow contents geo props rest others

count_is : (row : PlacedRow) → count (plain row) ≡ length (branches_of row)
count_is ended = refl
count_is (leaf_at x rest) = let e = count_is rest in omega (arith, e)
count_is (node_at branch children rest) = let e = count_is rest in omega (arith, e)

fit_from : (fanout : ℕ) (branch : Branch) (children rest : PlacedRow) → 0 < length (branches_of children) → length (branches_of children) ≤ fanout → nodes_fit fanout (plain children) ≡ true → nodes_fit fanout (plain rest) ≡ true
    → nodes_fit fanout (plain (node_at branch children rest)) ≡ true
fit_from fanout branch children rest some few fit others =
    let c = count (plain children) in
    let e = count_is children in
    let a = lt-ltb 0 c (omega (arith, some, e)) in
    let b = le-leb c fanout (omega (arith, few, e)) in
    rw (a, b, fit, others) refl

-- LEBs of a row
abbrev leb_of : Branch → ℕ
leb_of branch = branch.lnum

map_both : (xs ys : List Branch) → map leb_of (xs ++ ys) ≡ map leb_of xs ++ map leb_of ys
map_both [] ys = refl
map_both (x ∷ xs) ys = ap (λ (ls : List ℕ). x.lnum ∷ ls) (map_both xs ys)

marked_from : (P : ℕ → Type 0) (branch : Branch) (children rest : PlacedRow) → P branch.lnum → All P (lebs_of children) → All P (lebs_of rest) → All P (lebs_of (node_at branch children rest))
marked_from P branch children rest own below beside =
    let Q : List ℕ → Type 0 = λ ls. All P ls in
    All-cons P branch.lnum (map leb_of (all_nodes children ++ all_nodes rest)) own (subst Q (sym (map_both (all_nodes children) (all_nodes rest))) (All-append P (map leb_of (all_nodes children)) (map leb_of (all_nodes rest)) below beside))

-- ---- leaves
abbrev leaf_row : List Branch → PlacedRow
leaf_row [] = ended
leaf_row (branch ∷ rest) = leaf_at (leaf_of branch) (leaf_row rest)

leaf_branches : (branches : List Branch) → branches_of (leaf_row branches) ≡ branches
leaf_branches [] = refl
leaf_branches (branch ∷ rest) = ap (λ (bs : List Branch). branch ∷ bs) (leaf_branches rest)

leaf_leaves : (branches : List Branch) → leaves_in (plain (leaf_row branches)) ≡ map leaf_of branches
leaf_leaves [] = refl
leaf_leaves (branch ∷ rest) = ap (λ (ls : List Leaf). leaf_of branch ∷ ls) (leaf_leaves rest)

leaf_nodes : (branches : List Branch) → all_nodes (leaf_row branches) ≡ []
leaf_nodes [] = refl
leaf_nodes (branch ∷ rest) = leaf_nodes rest

leaf_fit : (fanout : ℕ) (branches : List Branch) → nodes_fit fanout (plain (leaf_row branches)) ≡ true
leaf_fit fanout [] = refl
leaf_fit fanout (branch ∷ rest) = leaf_fit fanout rest

leaf_stored : (contents : ℕ → List ℕ) (branches : List Branch) → AreStored contents 0 (leaf_row branches)
unfolding AreStored
leaf_stored contents [] = tt
leaf_stored contents (branch ∷ rest) = (refl, leaf_stored contents rest)

leaf_bounded : (least : ℕ) (most : Option ℕ) (branches : List Branch) → AscendTo least most branches → AreBounded least most (leaf_row branches)
leaf_bounded least most [] h = tt
leaf_bounded least most (branch ∷ rest) h = (h.0, h.1, leaf_bounded (branch_rank branch) most rest h.2)

-- ---- nodes side by side
record IsRowOf (contents : ℕ → List ℕ) (geo : RawGeometry) (props : List Lprop) (level : ℕ) (branches : List Branch) (children : PlacedRow) : Type 0 where
  says : branches_of children ≡ branches
  stored : AreStored contents level children
  fit : nodes_fit geo.fanout (plain children) ≡ true
  marked : All (λ lnum. IsTrue (is_marked_index geo props lnum)) (lebs_of children)

same_bound : (most : Option Key) (behind : List Branch) (rest : PlacedRow) → branches_of rest ≡ behind → bound_before rest (option_map key_rank most) ≡ option_map key_rank (most_below behind most)
same_bound most behind rest e = by rest ∙ ap (λ (branches : List Branch). option_map key_rank (most_below branches most)) e
  where
    by : (row : PlacedRow) → bound_before row (option_map key_rank most) ≡ option_map key_rank (most_below (branches_of row) most)
    by ended = refl
    by (leaf_at x row) = refl
    by (node_at branch children row) = refl

of_level : (levels level : ℕ) (branches : List Branch) (wanted : NodeWanted) → wanted.level ≡ Some level → is_off_level wanted (record { level = levels; branches = branches }) ≡ false → levels ≡ level
of_level levels level branches wanted e h =
    eqb-true levels level (not-false (levels == level) (sym (ap (λ (o : Option ℕ). option_map_or (λ n. not (levels == n)) o false) e) ∙ h))

-- a child is told by its branch
told_child : (branch : Branch) (level : ℕ) (most : Option Key) (branches : List Branch) → told_branch (record { branch = branch; level = Some level; most = most }) branches ≡ branch
told_child branch level most [] = refl
told_child branch level most (first ∷ behind) = refl

-- the row of the nodes that are wanted below one, from which nothing is missing
row_below : (contents : ℕ → List ℕ) (geo : RawGeometry) (props : List Lprop) (level : ℕ) (most : Option Key) (branches : List Branch) (row : PlacedRow) → AreBelow contents geo props (wanted_below level most branches) row → IsRowOf contents geo props (level + 1) branches row
unfolding AreStored
row_below contents geo props level most [] row h =
    let P : PlacedRow → Type 0 = λ r. IsRowOf contents geo props (level + 1) [] r in
    subst P (sym h) (record { says = refl; stored = tt; fit = refl; marked = All-nil (λ lnum. IsTrue (is_marked_index geo props lnum)) })
row_below contents geo props level most (branch ∷ behind) row (children, others, e, own, more) =
    let beside = row_below contents geo props level most behind others more in
    let wanted : NodeWanted = record { branch = branch; level = Some level; most = most_below behind most } in
    let P : PlacedRow → Type 0 = λ r. IsRowOf contents geo props (level + 1) (branch ∷ behind) r in
    let same : own.levels ≡ level = of_level own.levels level (branches_of children) wanted refl own.level in
    let down : level + 1 - 1 ≡ own.levels = omega (arith, same) in
    let N : ℕ → Type 0 = λ n. IsIndexNodeAt contents branch (record { level = n; branches = branches_of children }) in
    let S : ℕ → Type 0 = λ n. AreStored contents n children in
    let told : told_branch wanted (branches_of children) ≡ branch = told_child branch level (most_below behind most) (branches_of children) in
    subst P (sym (e ∙ ap (λ (b : Branch). node_at b children others) told)) (record {
      says = ap (λ (bs : List Branch). branch ∷ bs) beside.says;
      stored = (omega arith, subst N (sym down) own.node, subst S (sym down) own.stored, beside.stored);
      fit = fit_from geo.fanout branch children others own.some own.few own.fit beside.fit;
      marked = marked_from (λ lnum. IsTrue (is_marked_index geo props lnum)) branch children others own.marked own.all_marked beside.marked;
    })

-- and its keys
row_bounded : (contents : ℕ → List ℕ) (geo : RawGeometry) (props : List Lprop) (level least : ℕ) (most : Option Key) (branches : List Branch) (row : PlacedRow) → AreBelow contents geo props (wanted_below level most branches) row
    → AscendTo least (option_map key_rank most) branches → AreBounded least (option_map key_rank most) row
row_bounded contents geo props level least most [] row h up = let P : PlacedRow → Type 0 = λ r. AreBounded least (option_map key_rank most) r in subst P (sym h) tt
row_bounded contents geo props level least most (branch ∷ behind) row (children, others, e, own, more) up =
    let beside = row_below contents geo props level most behind others more in
    let wanted : NodeWanted = record { branch = branch; level = Some level; most = most_below behind most } in
    let P : PlacedRow → Type 0 = λ r. AreBounded least (option_map key_rank most) r in
    let B : Option ℕ → Type 0 = λ n. AreBounded (branch_rank branch) n children in
    let told : told_branch wanted (branches_of children) ≡ branch = told_child branch level (most_below behind most) (branches_of children) in
    subst P (sym (e ∙ ap (λ (b : Branch). node_at b children others) told)) (
      up.0,
      up.1,
      subst B (sym (same_bound most behind others beside.says)) own.bounded,
      row_bounded contents geo props level (branch_rank branch) most behind others more up.2,
    )

-- ---- a row is that of the nodes below one, and that of those beside it
pub record IsSplit (contents : ℕ → List ℕ) (geo : RawGeometry) (props : List Lprop) (xs ys : List NodeWanted) (row : PlacedRow) : Type 0 where
  pub front : PlacedRow
  pub back : PlacedRow
  pub front_is : AreBelow contents geo props xs front
  pub back_is : AreBelow contents geo props ys back
  pub leaves : leaves_in (plain row) ≡ leaves_in (plain front) ++ leaves_in (plain back)
  pub nodes : all_nodes row ≡ all_nodes front ++ all_nodes back

split_row : (contents : ℕ → List ℕ) (geo : RawGeometry) (props : List Lprop) (xs ys : List NodeWanted) (row : PlacedRow) → AreBelow contents geo props (xs ++ ys) row → IsSplit contents geo props xs ys row
split_row contents geo props [] ys row h = record { front = ended; back = row; front_is = refl; back_is = h; leaves = refl; nodes = refl }
split_row contents geo props (x ∷ xs) ys row (children, others, e, own, more) =
    let rest = split_row contents geo props xs ys others more in
    let told = told_branch x (branches_of children) in
    record {
      front = node_at told children rest.front;
      back = rest.back;
      front_is = (children, rest.front, refl, own, rest.front_is);
      back_is = rest.back_is;
      leaves = ap (λ (r : PlacedRow). leaves_in (plain r)) e ∙ ap (λ (ls : List Leaf). leaves_in (plain children) ++ ls) rest.leaves ∙ sym (append_assoc (leaves_in (plain children)) (leaves_in (plain rest.front)) (leaves_in (plain rest.back)));
      nodes = ap all_nodes e ∙ ap (λ (ns : List Branch). told ∷ (all_nodes children ++ ns)) rest.nodes ∙ ap (λ (ns : List Branch). told ∷ ns) (sym (append_assoc (all_nodes children) (all_nodes rest.front) (all_nodes rest.back)));
    }

-- ---- a node that was taken
-- what a row says with a node in front of those that wait
pub record IsJoined (contents : ℕ → List ℕ) (geo : RawGeometry) (props : List Lprop) (wanted : NodeWanted) (said : Index) (rest : List NodeWanted) (row : PlacedRow) : Type 0 where
  pub whole : PlacedRow
  pub is : AreBelow contents geo props (wanted ∷ rest) whole
  pub leaves : leaves_in (plain whole) ≡ leaves_below said ++ leaves_in (plain row)
  pub nodes : all_nodes whole ≡ told_branch wanted said.branches ∷ all_nodes row

below_from : (contents : ℕ → List ℕ) (geo : RawGeometry) (props : List Lprop) (wanted : NodeWanted) (said : Index) (children : PlacedRow) → IsIndexNodeAt contents wanted.branch said → index_misfit geo props wanted said ≡ None → branches_of children ≡ said.branches
    → AreStored contents said.level children → nodes_fit geo.fanout (plain children) ≡ true → AreBounded (key_rank wanted.branch.key) (option_map key_rank wanted.most) children → All (λ lnum. IsTrue (is_marked_index geo props lnum)) (lebs_of children)
    → IsBelow contents geo props wanted children
below_from contents geo props wanted said children stands right e stored fit bounded marked =
    let r = right_parts geo props wanted said right in
    let N : List Branch → Type 0 = λ bs. IsIndexNodeAt contents wanted.branch (record { level = said.level; branches = bs }) in
    let some = stands.is.is.some in
    let few = r.few in
    let l = ap length e in
    record {
      levels = said.level;
      node = subst N (sym e) stands;
      level = r.level;
      stored = stored;
      fit = fit;
      some = omega (arith, some, l);
      few = omega (arith, few, l);
      bounded = bounded;
      marked = r.marked;
      all_marked = marked;
    }

join_leaves : (contents : ℕ → List ℕ) (geo : RawGeometry) (props : List Lprop) (wanted : NodeWanted) (said : Index) (rest : List NodeWanted) (row : PlacedRow) → said.level ≡ 0 → IsIndexNodeAt contents wanted.branch said → index_misfit geo props wanted said ≡ None
    → AreBelow contents geo props rest row → IsJoined contents geo props wanted said rest row
join_leaves contents geo props wanted said rest row none stands right h =
    let branches = said.branches in
    let children = leaf_row branches in
    let r = right_parts geo props wanted said right in
    let S : ℕ → Type 0 = λ n. AreStored contents n children in
    let M : List Branch → Type 0 = λ ns. All (λ lnum. IsTrue (is_marked_index geo props lnum)) (map leb_of ns) in
    let same = leaf_branches branches in
    let own = below_from contents geo props wanted said children stands right same (subst S (sym none) (leaf_stored contents branches)) (leaf_fit geo.fanout branches)
    (leaf_bounded (key_rank wanted.branch.key) (option_map key_rank wanted.most) branches (ascend wanted branches stands.is.is.keys stands.is.is.order r.keys)) (subst M (sym (leaf_nodes branches)) (All-nil (λ lnum. IsTrue (is_marked_index geo props lnum)))) in
    record {
      whole = node_at (told_branch wanted (branches_of children)) children row;
      is = (children, row, refl, own, h);
      leaves = ap (λ (ls : List Leaf). ls ++ leaves_in (plain row)) (leaf_leaves branches ∙ sym (leaves_all said none));
      nodes = ap (λ (bs : List Branch). told_branch wanted bs ∷ (all_nodes children ++ all_nodes row)) same ∙ ap (λ (ns : List Branch). told_branch wanted branches ∷ (ns ++ all_nodes row)) (leaf_nodes branches);
    }

-- the row of nodes below one has no leaves of its own
join_nodes : (contents : ℕ → List ℕ) (geo : RawGeometry) (props : List Lprop) (wanted : NodeWanted) (said : Index) (rest : List NodeWanted) (row : PlacedRow) → 0 < said.level → IsIndexNodeAt contents wanted.branch said → index_misfit geo props wanted said ≡ None
    → AreBelow contents geo props (wanted_below (said.level - 1) wanted.most said.branches ++ rest) row → IsJoined contents geo props wanted said rest row
join_nodes contents geo props wanted said rest row some stands right h =
    let level = said.level - 1 in
    let branches = said.branches in
    let s = split_row contents geo props (wanted_below level wanted.most branches) rest row h in
    let children = s.front in
    let r = right_parts geo props wanted said right in
    let all = row_below contents geo props level wanted.most branches children s.front_is in
    let up : level + 1 ≡ said.level = omega (arith, some) in
    let S : ℕ → Type 0 = λ n. AreStored contents n children in
    let own = below_from contents geo props wanted said children stands right all.says (subst S up all.stored) all.fit
    (row_bounded contents geo props level (key_rank wanted.branch.key) wanted.most branches children s.front_is (ascend wanted branches stands.is.is.keys stands.is.is.order r.keys)) all.marked in
    record {
      whole = node_at (told_branch wanted (branches_of children)) children s.back;
      is = (children, s.back, refl, own, s.back_is);
      leaves = sym s.leaves ∙ ap (λ (ls : List Leaf). ls ++ leaves_in (plain row)) (sym (leaves_none said some));
      nodes = ap (λ (bs : List Branch). told_branch wanted bs ∷ (all_nodes children ++ all_nodes s.back)) all.says ∙ ap (λ (ns : List Branch). told_branch wanted branches ∷ ns) (sym s.nodes);
    }

pub join_row : (contents : ℕ → List ℕ) (geo : RawGeometry) (props : List Lprop) (wanted : NodeWanted) (said : Index) (rest : List NodeWanted) (row : PlacedRow) → IsIndexNodeAt contents wanted.branch said → index_misfit geo props wanted said ≡ None
    → AreBelow contents geo props (nodes_below wanted said ++ rest) row → IsJoined contents geo props wanted said rest row
join_row contents geo props wanted said rest row stands right h =
    let P : List NodeWanted → Type 0 = λ ws. AreBelow contents geo props (ws ++ rest) row in
    elim (cases_eq said.level 0) [
      | inl none ↦ join_leaves contents geo props wanted said rest row none stands right (subst P (nodes_none wanted said none) h)
      | inr other ↦
          let some : 0 < said.level = omega (arith, other) in
          join_nodes contents geo props wanted said rest row some stands right (subst P (nodes_above wanted said some) h)
    ]

-- ---- the root
first_same : (a b : Branch) (xs ys : List Branch) → a ∷ xs ≡ b ∷ ys → a ≡ b
first_same a b xs ys k = cc

keyed_bounded : (least : ℕ) (most : Option ℕ) (first : Branch) (behind : List Branch) (row : PlacedRow) → branches_of row ≡ first ∷ behind → AreBounded least most row → AreBounded (branch_rank first) most row
keyed_bounded least most first behind ended e h = absurd cc
keyed_bounded least most first behind (leaf_at x rest) e h =
    let same : key_rank x.key ≡ branch_rank first = ap branch_rank (first_same (branch_to x) first (branches_of rest) behind e) in
    (omega (arith, same), h.1, h.2)
keyed_bounded least most first behind (node_at b c rest) e h =
    let same : branch_rank b ≡ branch_rank first = ap branch_rank (first_same b first (branches_of rest) behind e) in
    (omega (arith, same), h.1, h.2, h.3)

root_by : (contents : ℕ → List ℕ) (geo : RawGeometry) (master : Master) (props : List Lprop) (placed children : PlacedRow) (branches : List Branch) → branches_of children ≡ branches → placed ≡ node_at (told_branch (root_wanted master) branches) children ended
    → IsBelow contents geo props (root_wanted master) children → HasIndex contents geo master props placed
unfolding AreStored
root_by contents geo master props placed children [] e is own = let some = own.some in let l = ap length e in absurd (omega (arith, some, l))
root_by contents geo master props placed children (first ∷ behind) e is own =
    let root = root_branch master first.key in
    let levels = own.levels + 1 in
    let down : own.levels + 1 - 1 ≡ own.levels = omega arith in
    let N : ℕ → Type 0 = λ n. IsIndexNodeAt contents root (record { level = n; branches = branches_of children }) in
    let S : ℕ → Type 0 = λ n. AreStored contents n children in
    let T : PlacedRow → Type 0 = λ row. AreStored contents levels row in
    let F : PlacedRow → Type 0 = λ row. nodes_fit geo.fanout (plain row) ≡ true in
    let B : PlacedRow → Type 0 = λ row. AreBounded 0 None row in
    let M : PlacedRow → Type 0 = λ row. All (λ lnum. IsTrue (is_marked_index geo props lnum)) (lebs_of row) in
    let bounded : AreBounded (branch_rank first) None children = keyed_bounded (key_rank (root_wanted master).branch.key) None first behind children e own.bounded in
    let there : IsIndexNodeAt contents root (record { level = own.levels; branches = branches_of children }) = record { sqnum = own.node.sqnum; group = own.node.group; room = own.node.room; is = own.node.is } in
    record {
      key = first.key;
      index = record {
        children = children;
        whole = is;
        levels = levels;
        stored = subst T (sym is) (omega arith, subst N (sym down) there, subst S (sym down) own.stored, tt);
        fits = subst F (sym is) (fit_from geo.fanout root children ended own.some own.few own.fit refl);
        bounded = subst B (sym is) (omega arith, tt, bounded, tt);
      };
      first = ap (λ (bs : List Branch). map (λ (b : Branch). b.key) (take 1 bs)) e;
      marked = subst M (sym is) (marked_from (λ lnum. IsTrue (is_marked_index geo props lnum)) root children ended own.marked own.all_marked (All-nil (λ lnum. IsTrue (is_marked_index geo props lnum))));
    }

-- the root with nothing missing below it is an index
pub whole_index : (contents : ℕ → List ℕ) (geo : RawGeometry) (master : Master) (props : List Lprop) (placed : PlacedRow) → AreBelow contents geo props (root_wanted master ∷ []) placed → HasIndex contents geo master props placed
whole_index contents geo master props placed (children, others, is, own, none) =
    root_by contents geo master props placed children (branches_of children) refl (is ∙ ap (node_at (told_branch (root_wanted master) (branches_of children)) children) none) own
