-- The walk over an index: what holds while nodes wait, and in the end.
use Rattle.std.proofs.Common.{◌≡◌, ◌⊎◌, ℕ, suc, ◌+◌, ◌*◌, ◌-◌, ◌<◌, ◌≤◌, ◌^◌, false, List, [], ◌∷◌, ◌++◌, Option, Some, None, length, refl, ap, sym, ◌∙◌, subst, inl, inr, arith, append_assoc, append-nil}
use Rattle.std.specs.Prelude.{◌==◌, not}
use Rattle.std.specs.List.{AllByRecursion}
use Rattle.std.specs.Option.{option_map_or}
use Rattle.std.proofs.Math.Nat.{mul-le-mul_right, mul_comm, one-le-pow, pow-le-pow_right, pow-suc, suc-mul, zero-mul}
use Rattle.std.proofs.lemmas.Bool.{cases_eq, eqb-true, not-false}
use Rattle.ubifs_base.specs.NodeLaws.{IsBytes}
use Rattle.ubifs_base.specs.declared.key.Key.{Key}
use Rattle.ubifs_base.specs.declared.raw_geometry.RawGeometry.{RawGeometry}
use Rattle.media_lpt.specs.declared.lprop.Lprop.{Lprop}
use Rattle.media_sys.specs.Index.{Index}
use Rattle.media_sys.specs.declared.branch.Branch.{Branch}
use Rattle.media_sys.specs.declared.master.Master.{Master}
use Rattle.index_tree.specs.Shape.{contents as leaves_in}
use Rattle.index_tree.specs.declared.leaf.Leaf.{Leaf}
use Rattle.index_media.specs.PlacedRow.{PlacedRow, all_nodes, ended, plain}
use Rattle.index_media.specs.Stored.{IsIndexNodeAt}
use Rattle.sound_image.specs.Index.{HasIndex}
use Rattle.sound_image.specs.IndexBreaches.{IsWanted, IsWrongIndex, NodeWanted, index_misfit, is_off_level, root_wanted}
use Rattle.sound_image.specs.Wrong.{IsFirstWrong, Wrong, comes_before}
use Rattle.index_check.specs.FoundIndex.{IsFoundIndex}
use Rattle.index_check.specs.IndexWalk.{HasKeys, HasPassed, HasTaken, BeginsAtRoot, IsIndexStep, IsWrongWanted, leaves_below, nodes_below, told_branch, waiting_in, wanted_below, wanted_of}
use Rattle.image_check.specs.WrongValues.{sooner_of, wrong_at}
use Rattle.image_check.specs.declared.wrong_value.WrongValue.{WrongValue}
use Rattle.index_check.specs.declared.index_found.IndexFound.{IndexFound}
use Rattle.index_check.specs.declared.index_walk.IndexWalk.{IndexWalk}
use Rattle.index_check.specs.declared.wanted.Wanted.{Wanted}
use Rattle.index_check.proofs.SoonerKept.{IsKeptBefore, kept_is, never_none, new_kept, older_kept}
use Rattle.index_check.proofs.Levels.{nodes_above, nodes_none, pushed}
use Rattle.index_check.proofs.Reached.{IsLeft, IsSomeWanted, from_root, left_passed, left_taken, wanted_keys, wanted_taken}
use Rattle.index_check.proofs.Rows.{AreBelow, join_row, right_parts, whole_index}
use Rattle.index_check.proofs.StandingNodes.{IsOneNode, none_wrong_there, one_wrong_there}

-- whatever is wrong where this node is wanted, something is kept before which it doesn't come
abbrev pub IsTold : (ℕ → List ℕ) → RawGeometry → List Lprop → Option WrongValue → NodeWanted → Type 0
IsTold contents geo props first node = (at : Wrong) → IsWrongWanted contents geo props node at → IsKeptBefore at first

-- While nodes wait: they are wanted; what is kept is wrong; each node that is wanted was told, or waits, or is below one that waits;
-- and if nothing is wrong so far, whatever those that wait say, the root says it behind what was taken.
pub record IsUnderWay (contents : ℕ → List ℕ) (geo : RawGeometry) (master : Master) (props : List Lprop) (waiting : List NodeWanted) (walk : IndexWalk) : Type 0 where
  pub wanted : AllByRecursion (IsSomeWanted contents geo master props) waiting
  pub wrong : (node : WrongValue) → walk.first ≡ Some node → IsWrongIndex contents geo master props (wrong_at node)
  pub seen : (depth : ℕ) (node : NodeWanted) → IsWanted contents geo master props depth node → IsTold contents geo props walk.first node ⊎ IsLeft contents geo props waiting node
  pub tree : walk.first ≡ None → (row : PlacedRow) → AreBelow contents geo props waiting row
      → (placed : PlacedRow) × AreBelow contents geo props (root_wanted master ∷ []) placed × (leaves_in (plain placed) ≡ walk.leaves.items ++ leaves_in (plain row)) × (all_nodes placed ≡ walk.nodes.items ++ all_nodes row)

-- ---- the start
pub walk_start : (contents : ℕ → List ℕ) (geo : RawGeometry) (master : Master) (props : List Lprop) (walk : IndexWalk) → BeginsAtRoot geo master walk → IsUnderWay contents geo master props (waiting_in walk.waiting.items) walk
walk_start contents geo master props walk b =
    let P : List NodeWanted → Type 0 = λ ws. IsUnderWay contents geo master props ws walk in
    subst P (sym b.waiting) (record {
      wanted = ((0, refl), tt);
      wrong = λ node e. absurd (some_none node (sym e ∙ b.first));
      seen = λ depth node is. inr (inl (depth, from_root contents geo master props depth node is));
      tree = λ none row h. (
        row,
        h,
        ap (λ (ls : List Leaf). ls ++ leaves_in (plain row)) (sym b.leaves),
        ap (λ (ns : List Branch). ns ++ all_nodes row) (sym b.nodes),
      );
    })
  where
    some_none : (n : WrongValue) → Some n ≡ None → ⊥
    some_none n e = cc

-- ---- a step
told_on : (contents : ℕ → List ℕ) (geo : RawGeometry) (props : List Lprop) (first : Option WrongValue) (broken : WrongValue) (node : NodeWanted) → IsTold contents geo props first node → IsTold contents geo props (sooner_of first (Some broken)) node
told_on contents geo props first broken node h at wrong = older_kept at first broken (h at wrong)

wrong_here : (contents : ℕ → List ℕ) (geo : RawGeometry) (master : Master) (props : List Lprop) (wanted : NodeWanted) (at : Wrong) → IsSomeWanted contents geo master props wanted → IsWrongWanted contents geo props wanted at → IsWrongIndex contents geo master props at
wrong_here contents geo master props wanted at (depth, is) wrong = record { depth = depth; node = wanted; wanted = is; lnum = wrong.lnum; offs = wrong.offs; wrong = wrong.wrong }

step_taken : IsOneNode → (contents : ℕ → List ℕ) (geo : RawGeometry) (master : Master) (props : List Lprop) (wanted : NodeWanted) (rest : List NodeWanted) (said : Index) (old new : IndexWalk) → ((k : ℕ) → IsBytes (contents k)) → IsIndexNodeAt contents wanted.branch said
    → index_misfit geo props wanted said ≡ None → HasTaken wanted said old new → waiting_in old.waiting.items ≡ rest → IsUnderWay contents geo master props (wanted ∷ rest) old → IsUnderWay contents geo master props (waiting_in new.waiting.items) new
step_taken one contents geo master props wanted rest said old new fits stands right taken same h =
    let now = nodes_below wanted said ++ rest in
    let P : List NodeWanted → Type 0 = λ ws. IsUnderWay contents geo master props ws new in
    let none : (node : NodeWanted) → node ≡ wanted → IsTold contents geo props new.first node = λ node e at wrong.
    let W : NodeWanted → Type 0 = λ w. IsWrongWanted contents geo props w at in
    absurd (none_wrong_there one contents geo props wanted said at fits stands right (subst W e wrong)) in
    let T : Option WrongValue → NodeWanted → Type 0 = λ o node. IsTold contents geo props o node in
    subst P (sym (taken.waiting ∙ ap (λ (ws : List NodeWanted). nodes_below wanted said ++ ws) same)) (record {
      wanted = wanted_taken contents geo master props wanted said rest stands right h.wanted;
      wrong = λ node e. h.wrong node (sym taken.first ∙ e);
      seen = λ depth node is. elim (h.seen depth node is) [
        | inl told ↦ inl (subst (λ (o : Option WrongValue). T o node) (sym taken.first) told)
        | inr left ↦ elim (left_taken one contents geo props wanted said rest node fits stands left) [ inl here ↦ inl (none node here) | inr below ↦ inr below ]
      ];
      tree = λ clean row k.
          let j = join_row contents geo props wanted said rest row stands right k in
          let t = h.tree (sym taken.first ∙ clean) j.whole j.is in (
            t.0,
            t.1,
            t.2 ∙ ap (λ (ls : List Leaf). old.leaves.items ++ ls) j.leaves ∙ sym (append_assoc old.leaves.items (leaves_below said) (leaves_in (plain row))) ∙ ap (λ (ls : List Leaf). ls ++ leaves_in (plain row)) (sym taken.leaves),
            t.3 ∙ ap (λ (ns : List Branch). old.nodes.items ++ ns) j.nodes ∙ sym (append_assoc old.nodes.items (told_branch wanted said.branches ∷ []) (all_nodes row)) ∙ ap (λ (ns : List Branch). ns ++ all_nodes row) (sym taken.nodes),
          );
    })

step_passed : IsOneNode → (contents : ℕ → List ℕ) (geo : RawGeometry) (master : Master) (props : List Lprop) (wanted : NodeWanted) (rest : List NodeWanted) (broken : WrongValue) (old new : IndexWalk) → ((k : ℕ) → IsBytes (contents k))
    → IsWrongWanted contents geo props wanted (wrong_at broken) → HasPassed broken old new → waiting_in old.waiting.items ≡ rest → IsUnderWay contents geo master props (wanted ∷ rest) old → IsUnderWay contents geo master props (waiting_in new.waiting.items) new
step_passed one contents geo master props wanted rest broken old new fits wrong passed same h =
    let P : List NodeWanted → Type 0 = λ ws. IsUnderWay contents geo master props ws new in
    let T : NodeWanted → Option WrongValue → Type 0 = λ node o. IsTold contents geo props o node in
    let here : (node : NodeWanted) → node ≡ wanted → IsTold contents geo props (sooner_of old.first (Some broken)) node = λ node e at other.
    let W : NodeWanted → Type 0 = λ w. IsWrongWanted contents geo props w at in
    new_kept at old.first broken (one_wrong_there one contents geo props wanted at (wrong_at broken) fits (subst W e other) wrong) in
    subst P (sym (ap waiting_in passed.waiting ∙ same)) (record {
      wanted = h.wanted.1;
      wrong = λ node e. kept_is (λ n. IsWrongIndex contents geo master props (wrong_at n)) old.first broken node h.wrong (wrong_here contents geo master props wanted (wrong_at broken) h.wanted.0 wrong) (sym passed.first ∙ e);
      seen = λ depth node is. elim (h.seen depth node is) [
        | inl told ↦ inl (subst (T node) (sym passed.first) (told_on contents geo props old.first broken node told))
        | inr left ↦ elim (left_passed one contents geo props wanted (wrong_at broken) rest node fits wrong left) [ inl own ↦ inl (subst (T node) (sym passed.first) (here node own)) | inr below ↦ inr below ]
      ];
      tree = λ clean. absurd (never_none old.first broken (sym passed.first ∙ clean));
    })

same_walk : (contents : ℕ → List ℕ) (geo : RawGeometry) (master : Master) (props : List Lprop) (waiting : List NodeWanted) (before old : IndexWalk) → old.nodes.items ≡ before.nodes.items → old.leaves.items ≡ before.leaves.items → old.first ≡ before.first
    → IsUnderWay contents geo master props waiting before → IsUnderWay contents geo master props waiting old
same_walk contents geo master props waiting before old nodes leaves first w = record {
  wanted = w.wanted;
  wrong = λ node i. w.wrong node (sym first ∙ i);
  seen = λ depth node is. elim (w.seen depth node is) [
    | inl told ↦ inl (subst (λ (o : Option WrongValue). IsTold contents geo props o node) (sym first) told)
    | inr left ↦ inr left
  ];
  tree = λ clean row i.
      let t = w.tree (sym first ∙ clean) row i in (
        t.0,
        t.1,
        t.2 ∙ ap (λ (ls : List Leaf). ls ++ leaves_in (plain row)) (sym leaves),
        t.3 ∙ ap (λ (ns : List Branch). ns ++ all_nodes row) (sym nodes),
      );
}

pub walk_next : IsOneNode → (contents : ℕ → List ℕ) (geo : RawGeometry) (master : Master) (props : List Lprop) (wanted : Wanted) (before old new : IndexWalk) → ((k : ℕ) → IsBytes (contents k)) → before.waiting.items ≡ old.waiting.items ++ wanted ∷ []
    → old.nodes.items ≡ before.nodes.items → old.leaves.items ≡ before.leaves.items → old.first ≡ before.first → IsIndexStep contents geo props (wanted_of wanted) old new → IsUnderWay contents geo master props (waiting_in before.waiting.items) before
    → IsUnderWay contents geo master props (waiting_in new.waiting.items) new
walk_next one contents geo master props wanted before old new fits pop nodes leaves first step h =
    let rest = waiting_in old.waiting.items in
    let P : List NodeWanted → Type 0 = λ ws. IsUnderWay contents geo master props ws before in
    let g = subst P (pushed old.waiting.items before.waiting.items wanted pop) h in
    let now : IsUnderWay contents geo master props (wanted_of wanted ∷ rest) old = same_walk contents geo master props (wanted_of wanted ∷ rest) before old nodes leaves first g in
    elim step [
      | inl (said, stands, right, taken) ↦ step_taken one contents geo master props (wanted_of wanted) rest said old new fits stands right taken refl now
      | inr (broken, wrong, passed) ↦ step_passed one contents geo master props (wanted_of wanted) rest broken old new fits wrong passed refl now
    ]

-- the keys of the next
pub next_keys : (contents : ℕ → List ℕ) (geo : RawGeometry) (master : Master) (props : List Lprop) (wanted : Wanted) (walk : IndexWalk) (items left : List Wanted) → items ≡ left ++ wanted ∷ [] → IsUnderWay contents geo master props (waiting_in items) walk → HasKeys wanted
next_keys contents geo master props wanted walk items left pop h =
    let P : List NodeWanted → Type 0 = λ ws. IsUnderWay contents geo master props ws walk in
    let own = (subst P (pushed left items wanted pop) h).wanted.0 in
    let keys = wanted_keys contents geo master props own.0 (wanted_of wanted) own.1 in
    record { least = keys.0; most = keys.1 }

-- ---- the end
none_left : (contents : ℕ → List ℕ) (geo : RawGeometry) (master : Master) (props : List Lprop) (walk : IndexWalk) (items : List Wanted) → length items ≡ 0 → IsUnderWay contents geo master props (waiting_in items) walk → IsUnderWay contents geo master props [] walk
none_left contents geo master props walk [] z h = h
none_left contents geo master props walk (x ∷ items) z h = absurd (omega (arith, z))

pub walk_met : (contents : ℕ → List ℕ) (geo : RawGeometry) (master : Master) (props : List Lprop) (walk : IndexWalk) (found : IndexFound) → length walk.waiting.items ≡ 0 → walk.first ≡ None → found.leaves.items ≡ walk.leaves.items → found.nodes.items ≡ walk.nodes.items
    → IsUnderWay contents geo master props (waiting_in walk.waiting.items) walk → (placed : PlacedRow) × HasIndex contents geo master props placed × IsFoundIndex placed found
walk_met contents geo master props walk found z none leaves nodes h =
    let g = none_left contents geo master props walk walk.waiting.items z h in
    let t = g.tree none ended refl in (
      t.0,
      whole_index contents geo master props t.0 t.1,
      record { leaves = leaves ∙ sym (t.2 ∙ append-nil walk.leaves.items); nodes = nodes ∙ sym (t.3 ∙ append-nil walk.nodes.items) },
    )

pub walk_broken : (contents : ℕ → List ℕ) (geo : RawGeometry) (master : Master) (props : List Lprop) (walk : IndexWalk) (node : WrongValue) → length walk.waiting.items ≡ 0 → walk.first ≡ Some node
    → IsUnderWay contents geo master props (waiting_in walk.waiting.items) walk → IsFirstWrong (IsWrongIndex contents geo master props) (wrong_at node)
walk_broken contents geo master props walk node z is h =
    let g = none_left contents geo master props walk walk.waiting.items z h in
    record {
      wrong = g.wrong node is;
      least = λ other wrong. elim (g.seen wrong.depth wrong.node wrong.wanted) [
        | inl told ↦
            let k = told other (record { lnum = wrong.lnum; offs = wrong.offs; wrong = wrong.wrong }) in
            let P : WrongValue → Type 0 = λ n. comes_before other (wrong_at n) ≡ false in
            subst P (some_broken k.0 node (sym k.1 ∙ is)) k.2
        | inr left ↦ absurd left
      ];
    }
  where
    some_broken : (a b : WrongValue) → Some a ≡ Some b → a ≡ b
    some_broken a b e = cc

-- ---- how much is left: each node that waits as much as all that can be below it
abbrev pub level_within : ℕ → Option ℕ → ℕ
level_within top None = top
level_within top (Some level) = level

unfoldable pub work : ℕ → ℕ → List NodeWanted → ℕ
work base top [] = 0
work base top (wanted ∷ rest) = base ^ (level_within top wanted.level + 1) + work base top rest

work_both : (base top : ℕ) (xs ys : List NodeWanted) → work base top (xs ++ ys) ≡ work base top xs + work base top ys
unfolding work
work_both base top [] ys = let none : work base top [] ≡ 0 = refl in omega (arith, none)
work_both base top (x ∷ xs) ys = let e = work_both base top xs ys in omega (arith, e)

work_below : (base top level : ℕ) (most : Option Key) (branches : List Branch) → work base top (wanted_below level most branches) ≡ length branches * base ^ (level + 1)
unfolding work
work_below base top level most [] = sym (zero-mul (base ^ (level + 1)))
work_below base top level most (branch ∷ behind) =
    let e = work_below base top level most behind in
    let more = suc-mul (length behind) (base ^ (level + 1)) in
    omega (arith, e, more)

on_level : (top level : ℕ) (wanted : NodeWanted) (branches : List Branch) → level < top → is_off_level wanted (record { level = level; branches = branches }) ≡ false → level ≤ level_within top wanted.level
on_level top level wanted branches low off = by wanted.level off
  where
    by : (o : Option ℕ) → option_map_or (λ n. not (level == n)) o false ≡ false → level ≤ level_within top o
    by None h = omega (arith, low)
    by (Some n) h = let e = eqb-true level n (not-false (level == n) h) in omega (arith, e)

-- fewer than the base, each of a power, are less than the next power
fewer : (base n p : ℕ) → n < base → 0 < p → n * p < p * base
fewer base n p less some =
    let a : suc n * p ≤ base * p = mul-le-mul_right p less in
    let b : suc n * p ≡ n * p + p = suc-mul n p in
    let c : base * p ≡ p * base = mul_comm base p in
    omega (arith, a, b, c, some)

taken_less : (geo : RawGeometry) (props : List Lprop) (top : ℕ) (wanted : NodeWanted) (said : Index) → index_misfit geo props wanted said ≡ None → said.level < top → work (geo.fanout + 1) top (nodes_below wanted said) < (geo.fanout + 1) ^ (level_within top wanted.level + 1)
unfolding work
taken_less geo props top wanted said right low =
    let base = geo.fanout + 1 in
    let within = level_within top wanted.level in
    let r = right_parts geo props wanted said right in
    let some : 0 < base = omega arith in
    elim (cases_eq said.level 0) [
      | inl none ↦
          let now = ap (work base top) (nodes_none wanted said none) in
          let one = one-le-pow (within + 1) base some in
          omega (arith, now, one)
      | inr above ↦
          let high_up : 0 < said.level = omega (arith, above) in
          let now = ap (work base top) (nodes_above wanted said high_up) in
          let few = r.few in
          let n = length said.branches in
          let p = base ^ said.level in
          let own = work_below base top (said.level - 1) wanted.most said.branches in
          let same : said.level - 1 + 1 ≡ said.level = omega (arith, above) in
          let all : n * base ^ (said.level - 1 + 1) ≡ n * p = ap (λ (k : ℕ). n * base ^ k) same in
          let less = fewer base n p (omega (arith, few)) (one-le-pow said.level base some) in
          let next = pow-suc base said.level in
          let up = on_level top said.level wanted said.branches low r.level in
          let high : base ^ suc said.level ≤ base ^ (within + 1) = pow-le-pow_right {n = base} some (omega (arith, up)) in
          omega (arith, now, own, all, less, next, high)
    ]

-- a step leaves less to do
pub less_left : (contents : ℕ → List ℕ) (geo : RawGeometry) (props : List Lprop) (top : ℕ) (wanted : Wanted) (old new : IndexWalk) (items : List Wanted) → 2 ^ 16 ≤ top → items ≡ old.waiting.items ++ wanted ∷ [] → IsIndexStep contents geo props (wanted_of wanted) old new
    → work (geo.fanout + 1) top (waiting_in new.waiting.items) < work (geo.fanout + 1) top (waiting_in items)
unfolding work
less_left contents geo props top wanted old new items wide pop step =
    let base = geo.fanout + 1 in
    let rest = waiting_in old.waiting.items in
    let W : List NodeWanted → ℕ = λ ws. work base top ws in
    let before = ap W (pushed old.waiting.items items wanted pop) in
    elim step [
      | inl (said, stands, right, taken) ↦
          let level = taken.level in
          let less = taken_less geo props top (wanted_of wanted) said right (omega (arith, level, wide)) in
          let now = ap W taken.waiting ∙ work_both base top (nodes_below (wanted_of wanted) said) rest in
          omega (arith, before, less, now)
      | inr (broken, wrong, passed) ↦
          let some = one-le-pow (level_within top wanted.level + 1) base (omega arith) in
          let now = ap W (ap waiting_in passed.waiting) in
          omega (arith, before, some, now)
    ]
