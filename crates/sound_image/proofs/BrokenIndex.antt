-- An index in which something is wrong doesn't meet its rule.
use Rattle.std.proofs.Common.{◌≡◌, ℕ, zero, suc, ◌-◌, ◌<◌, ◌≤◌, nat_lt, true, false, List, [], ◌∷◌, ◌++◌, Option, Some, None, length, take, drop, map, refl, ap, sym, ◌∙◌, subst, inl, inr, arith}
use Rattle.std.specs.Prelude.{◌==◌, ◌&&◌, nat_le, not, All, IsTrue}
use Rattle.std.specs.List.{find}
use Rattle.std.specs.Option.{option_map, option_map_or}
use Rattle.std.proofs.lemmas.Bool.{cases_lt, eq-eqb, le-ltb, leb-true, or_from}
use Rattle.std.proofs.lemmas.List.{length-drop, length-take-le}
use Rattle.std.proofs.lemmas.List.Elements.{All-nil, All-cons, All-head, All-tail}
use Rattle.ubifs_base.specs.NodeLaws.{IsBytes}
use Rattle.ubifs_base.specs.declared.key.Key.{Key}
use Rattle.ubifs_base.specs.declared.raw_geometry.RawGeometry.{RawGeometry}
use Rattle.media_lpt.specs.declared.lprop.Lprop.{Lprop}
use Rattle.media_sys.specs.Index.{Index}
use Rattle.media_sys.specs.SystemNode.{index}
use Rattle.media_sys.specs.declared.branch.Branch.{Branch}
use Rattle.media_sys.specs.declared.master.Master.{Master}
use Rattle.index_tree.specs.Order.{key_rank, leaf_rank}
use Rattle.index_tree.specs.Shape.{count, fits as nodes_fit}
use Rattle.index_media.specs.Keys.{AreBounded, IsAtMost, bound_before, branch_rank}
use Rattle.index_media.specs.PlacedRow.{PlacedRow, all_nodes, branch_to, branches_of, ended, leaf_at, lebs_of, node_at, plain}
use Rattle.index_media.specs.Stored.{AreStored, IsIndexNodeAt}
use Rattle.small_areas.specs.MasterLaws.{OneNode}
use Rattle.sound_image.specs.Index.{HasIndex, root_branch}
use Rattle.sound_image.specs.IndexBreaches.{HasIndexNodeOf, IsWanted, IsWrongIndex, LacksIndexNode, NodeWanted, is_above, is_below, is_off_level, is_out, most_below, index_misfit, root_wanted}
use Rattle.sound_image.specs.Properties.{is_marked_index}
use Rattle.sound_image.specs.Wrong.{Misfit, Wrong}
use Rattle.sound_image.proofs.KnownNodes.{bytes_drop, same_front}
use Rattle.sound_image.proofs.Lists.{cons_parts, two_true}
use Rattle.sound_image.proofs.OneReads.{part_bytes}

-- Where a node is wanted, one stands with these children, and all below it is in order.
record IsInOrder (contents : ℕ → List ℕ) (geo : RawGeometry) (props : List Lprop) (wanted : NodeWanted) : Type 0 where
  children : PlacedRow
  levels : ℕ
  node : IsIndexNodeAt contents wanted.branch (record { level = levels; branches = branches_of children })
  below : AreStored contents levels children
  level : is_off_level wanted (record { level = levels; branches = branches_of children }) ≡ false
  few : length (branches_of children) ≤ geo.fanout
  fit : nodes_fit geo.fanout (plain children) ≡ true
  least : ℕ
  low : key_rank wanted.branch.key ≤ least
  bounded : AreBounded least (option_map key_rank wanted.most) children
  marked : is_marked_index geo props wanted.branch.lnum ≡ true
  all_marked : All (λ lnum. IsTrue (is_marked_index geo props lnum)) (lebs_of children)

count_is : (row : PlacedRow) → count (plain row) ≡ length (branches_of row)
count_is ended = refl
count_is (leaf_at x rest) = let e = count_is rest in omega (arith, e)
count_is (node_at branch children rest) = let e = count_is rest in omega (arith, e)

-- a node has at most fanout children, which are in order themselves
fit_parts : (fanout : ℕ) (branch : Branch) (children rest : PlacedRow) → nodes_fit fanout (plain (node_at branch children rest)) ≡ true
    → (length (branches_of children) ≤ fanout) × (nodes_fit fanout (plain children) ≡ true) × (nodes_fit fanout (plain rest) ≡ true)
fit_parts fanout branch children rest h =
    let c = count (plain children) in
    let a = two_true (nat_lt 0 c && nat_le c fanout && nodes_fit fanout (plain children)) (nodes_fit fanout (plain rest)) h in
    let b = two_true (nat_lt 0 c && nat_le c fanout) (nodes_fit fanout (plain children)) a.0 in
    let d = two_true (nat_lt 0 c) (nat_le c fanout) b.0 in
    let most = leb-true c fanout d.1 in
    let e = count_is children in
    (omega (arith, most, e), b.1, a.1)

-- ---- keys in bounds
not_above : (key : Key) (most : Option Key) → IsAtMost (key_rank key) (option_map key_rank most) → option_map_or (λ m. nat_lt (key_rank m) (key_rank key)) most false ≡ false
not_above key None h = refl
not_above key (Some most) h = le-ltb (key_rank most) (key_rank key) h

none_found : (wanted : NodeWanted) (least : ℕ) (row : PlacedRow) → key_rank wanted.branch.key ≤ least → AreBounded least (option_map key_rank wanted.most) row → find (is_out wanted) (branches_of row) ≡ None
none_found wanted least ended low h = refl
none_found wanted least (leaf_at x rest) low h =
    let own = h.0 in
    let out : is_out wanted (branch_to x) ≡ false = or_from (is_below wanted x.key) (is_above wanted x.key) (le-ltb (key_rank x.key) (key_rank wanted.branch.key) (omega (arith, low, own))) (not_above x.key wanted.most h.1) in
    rw (out) (none_found wanted (leaf_rank x) rest (omega (arith, low, own)) h.2)
none_found wanted least (node_at branch children rest) low h =
    let own = h.0 in
    let out : is_out wanted branch ≡ false = or_from (is_below wanted branch.key) (is_above wanted branch.key) (le-ltb (key_rank branch.key) (key_rank wanted.branch.key) (omega (arith, low, own))) (not_above branch.key wanted.most h.1) in
    rw (out) (none_found wanted (branch_rank branch) rest (omega (arith, low, own)) h.3)

-- nothing is wrong with such a node
none_wrong : (contents : ℕ → List ℕ) (geo : RawGeometry) (props : List Lprop) (wanted : NodeWanted) (h : IsInOrder contents geo props wanted) → index_misfit geo props wanted (record { level = h.levels; branches = branches_of h.children }) ≡ None
none_wrong contents geo props wanted h =
    let few = le-ltb geo.fanout (length (branches_of h.children)) h.few in
    let marked = h.marked in
    let level = h.level in
    let keys = none_found wanted h.least h.children h.low h.bounded in
    rw (few, marked, level, keys) refl

index_same : (a b : Index) → index a ≡ index b → a ≡ b
index_same a b h = cc

-- one index node stands where a branch leads
pub one_said : OneNode → (contents : ℕ → List ℕ) (branch : Branch) (a b : Index) → ((k : ℕ) → IsBytes (contents k)) → IsIndexNodeAt contents branch a → IsIndexNodeAt contents branch b → a ≡ b
one_said one contents branch a b fits x y =
    index_same a b (one (take branch.len (drop branch.offs (contents branch.lnum))) x.sqnum x.group y.sqnum y.group (index a) (index b) (part_bytes branch.len branch.offs (contents branch.lnum) (fits branch.lnum)) x.is y.is).2

-- ---- LEBs of a row
abbrev leb_of : Branch → ℕ
leb_of branch = branch.lnum

split_all : (P : ℕ → Type 0) (xs ys : List Branch) → All P (map leb_of (xs ++ ys)) → All P (map leb_of xs) × All P (map leb_of ys)
split_all P [] ys h = (All-nil P, h)
split_all P (x ∷ xs) ys h =
    let rest = split_all P xs ys (All-tail P x.lnum (map leb_of (xs ++ ys)) h) in
    (All-cons P x.lnum (map leb_of xs) (All-head P x.lnum (map leb_of (xs ++ ys)) h) rest.0, rest.1)

-- what holds of a node's LEB and those of the nodes below it and beside it
marked_parts : (P : ℕ → Type 0) (branch : Branch) (children rest : PlacedRow) → All P (lebs_of (node_at branch children rest)) → P branch.lnum × All P (lebs_of children) × All P (lebs_of rest)
marked_parts P branch children rest h =
    let behind = map leb_of (all_nodes children ++ all_nodes rest) in
    let both = split_all P (all_nodes children) (all_nodes rest) (All-tail P branch.lnum behind h) in
    (All-head P branch.lnum behind h, both.0, both.1)

-- ---- the root
root_in_order : (contents : ℕ → List ℕ) (geo : RawGeometry) (master : Master) (props : List Lprop) (placed : PlacedRow) → HasIndex contents geo master props placed → IsInOrder contents geo props (root_wanted master)
unfolding AreStored key_rank
root_in_order contents geo master props placed h =
    let key = h.key in
    let children = h.index.children in
    let root = root_branch master key in
    let S : PlacedRow → Type 0 = λ row. AreStored contents h.index.levels row in
    let F : PlacedRow → Type 0 = λ row. nodes_fit geo.fanout (plain row) ≡ true in
    let B : PlacedRow → Type 0 = λ row. AreBounded 0 None row in
    let P : ℕ → Type 0 = λ lnum. IsTrue (is_marked_index geo props lnum) in
    let M : PlacedRow → Type 0 = λ row. All P (lebs_of row) in
    let stored = subst S h.index.whole h.index.stored in
    let fit = fit_parts geo.fanout root children ended (subst F h.index.whole h.index.fits) in
    let bounded = subst B h.index.whole h.index.bounded in
    let marked = marked_parts P root children ended (subst M h.index.whole h.marked) in
    record {
      children = children;
      levels = h.index.levels - 1;
      node = record { sqnum = stored.1.sqnum; group = stored.1.group; room = stored.1.room; is = stored.1.is };
      below = stored.2;
      level = refl;
      few = fit.0;
      fit = fit.1;
      least = branch_rank root;
      low = omega arith;
      bounded = bounded.2;
      marked = marked.0;
      all_marked = marked.1;
    }

-- ---- a child
same_key : (most : Option Key) (behind : List Branch) (rest : PlacedRow) → branches_of rest ≡ behind → bound_before rest (option_map key_rank most) ≡ option_map key_rank (most_below behind most)
same_key most behind rest e = by rest ∙ ap (λ (branches : List Branch). option_map key_rank (most_below branches most)) e
  where
    by : (row : PlacedRow) → bound_before row (option_map key_rank most) ≡ option_map key_rank (most_below (branches_of row) most)
    by ended = refl
    by (leaf_at x row) = refl
    by (node_at branch children row) = refl

on_level : (levels : ℕ) (branches : List Branch) (wanted : NodeWanted) → wanted.level ≡ Some levels → is_off_level wanted (record { level = levels; branches = branches }) ≡ false
on_level levels branches wanted e = ap (λ (level : Option ℕ). option_map_or (λ n. not (levels == n)) level false) e ∙ ap not (eq-eqb levels levels refl)

child_in_order : (contents : ℕ → List ℕ) (geo : RawGeometry) (props : List Lprop) (most : Option Key) (wanted : NodeWanted) (levels least : ℕ) (before behind : List Branch) (row : PlacedRow) → 0 < levels → AreStored contents levels row
    → branches_of row ≡ before ++ (wanted.branch ∷ behind) → nodes_fit geo.fanout (plain row) ≡ true → AreBounded least (option_map key_rank most) row → All (λ lnum. IsTrue (is_marked_index geo props lnum)) (lebs_of row)
    → wanted.level ≡ Some (levels - 1) → wanted.most ≡ most_below behind most → IsInOrder contents geo props wanted
unfolding AreStored
child_in_order contents geo props most wanted levels least [] behind ended some stored e fit bounded marked level above = absurd cc
child_in_order contents geo props most wanted levels least (b ∷ before) behind ended some stored e fit bounded marked level above = absurd cc
child_in_order contents geo props most wanted levels least before behind (leaf_at x rest) some stored e fit bounded marked level above = let none = stored.0 in absurd (omega (arith, some, none))
child_in_order contents geo props most wanted levels least [] behind (node_at branch children rest) some stored e fit bounded marked level above =
    let same = cons_parts branch wanted.branch (branches_of rest) behind e in
    let P : ℕ → Type 0 = λ lnum. IsTrue (is_marked_index geo props lnum) in
    let parts = marked_parts P branch children rest marked in
    let own = fit_parts geo.fanout branch children rest fit in
    let N : Branch → Type 0 = λ b. IsIndexNodeAt contents b (record { level = levels - 1; branches = branches_of children }) in
    let M : Branch → Type 0 = λ b. P b.lnum in
    let B : Option ℕ → Type 0 = λ n. AreBounded (branch_rank branch) n children in
    let bound = same_key most behind rest same.1 ∙ ap (option_map key_rank) (sym above) in
    let rank : branch_rank branch ≡ key_rank wanted.branch.key = ap branch_rank same.0 in
    record {
      children = children;
      levels = levels - 1;
      node = subst N same.0 stored.1;
      below = stored.2;
      level = on_level (levels - 1) (branches_of children) wanted level;
      few = own.0;
      fit = own.1;
      least = branch_rank branch;
      low = omega (arith, rank);
      bounded = subst B bound bounded.2;
      marked = subst M same.0 parts.0;
      all_marked = parts.1;
    }
child_in_order contents geo props most wanted levels least (b ∷ before) behind (node_at branch children rest) some stored e fit bounded marked level above =
    let same = cons_parts branch b (branches_of rest) (before ++ (wanted.branch ∷ behind)) e in
    let P : ℕ → Type 0 = λ lnum. IsTrue (is_marked_index geo props lnum) in
    child_in_order contents geo props most wanted levels (branch_rank branch) before behind rest some stored.3 same.1 (fit_parts geo.fanout branch children rest fit).2 bounded.3 (marked_parts P branch children rest marked).2 level above

-- ---- all
all_in_order : OneNode → (contents : ℕ → List ℕ) (geo : RawGeometry) (master : Master) (props : List Lprop) (placed : PlacedRow) (depth : ℕ) (wanted : NodeWanted) → ((k : ℕ) → IsBytes (contents k)) → HasIndex contents geo master props placed
    → IsWanted contents geo master props depth wanted → IsInOrder contents geo props wanted
all_in_order one contents geo master props placed zero wanted fits h is = let P : NodeWanted → Type 0 = λ w. IsInOrder contents geo props w in subst P (sym is) (root_in_order contents geo master props placed h)
all_in_order one contents geo master props placed (suc depth) wanted fits h (above, said, there, stands, right, some, before, behind, e, level, most) =
    let own = all_in_order one contents geo master props placed depth above fits h there in
    let same = one_said one contents above.branch said (record { level = own.levels; branches = branches_of own.children }) fits stands own.node in
    let levels : said.level ≡ own.levels = ap (λ (i : Index). i.level) same in
    let L : ℕ → Type 0 = λ n. 0 < n in
    child_in_order contents geo props above.most wanted own.levels own.least before behind own.children (subst L levels some) own.below (ap (λ (i : Index). i.branches) (sym same) ∙ e) own.fit own.bounded own.all_marked
    (level ∙ ap (λ (n : ℕ). Some (n - 1)) levels) most

-- no node of another length stands where one of this length does
one_length : (contents : ℕ → List ℕ) (branch : Branch) (said : Index) (len : ℕ) → ((k : ℕ) → IsBytes (contents k)) → IsIndexNodeAt contents branch said → HasIndexNodeOf contents branch len → len ≡ branch.len
one_length contents branch said len fits x y =
    let rest = drop branch.offs (contents branch.lnum) in
    let part = bytes_drop branch.offs (contents branch.lnum) (fits branch.lnum) in
    let room = length-drop branch.offs (contents branch.lnum) in
    let r = x.room in
    let q = y.room in
    let a : length (take len rest) ≡ len = length-take-le len rest (omega (arith, room, q)) in
    let b : length (take branch.len rest) ≡ branch.len = length-take-le branch.len rest (omega (arith, room, r)) in
    let same : take len rest ≡ take branch.len rest = elim (cases_lt len branch.len) [
      | inl less ↦ same_front rest y.is.body x.is.body len branch.len 9 9 y.sqnum x.sqnum y.group x.group part (omega (arith, less)) y.is.framed x.is.framed
      | inr high ↦ sym (same_front rest x.is.body y.is.body branch.len len 9 9 x.sqnum y.sqnum x.group y.group part high x.is.framed y.is.framed)
    ] in
    sym a ∙ ap length same ∙ b

pub lacks_none : (contents : ℕ → List ℕ) (branch : Branch) (said : Index) (misfit : Misfit) → ((k : ℕ) → IsBytes (contents k)) → IsIndexNodeAt contents branch said → LacksIndexNode contents branch misfit → ⊥
lacks_none contents branch said misfit fits x (inl (none, values)) = none branch.len (record { sqnum = x.sqnum; group = x.group; said = said; room = x.room; is = x.is })
lacks_none contents branch said misfit fits x (inr (len, other, ne, values)) = ne (one_length contents branch said len fits x other)

pub index_broken : OneNode → (contents : ℕ → List ℕ) (geo : RawGeometry) (master : Master) (props : List Lprop) (placed : PlacedRow) (at : Wrong) → ((k : ℕ) → IsBytes (contents k)) → IsWrongIndex contents geo master props at → HasIndex contents geo master props placed → ⊥
index_broken one contents geo master props placed at fits wrong h =
    let own = all_in_order one contents geo master props placed wrong.depth wrong.node fits h wrong.wanted in
    let is : Index = record { level = own.levels; branches = branches_of own.children } in
    elim wrong.wrong [
      | inl lacks ↦ lacks_none contents wrong.node.branch is at.misfit fits own.node lacks
      | inr (said, stands, misfit) ↦
          let same = one_said one contents wrong.node.branch said is fits stands own.node in
          let e : None ≡ Some at.misfit = sym (none_wrong contents geo props wrong.node own) ∙ ap (index_misfit geo props wrong.node) (sym same) ∙ misfit in
          absurd cc
    ]
