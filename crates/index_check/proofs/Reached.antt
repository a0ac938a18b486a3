-- Which nodes are reached from those that wait.
use Rattle.std.proofs.Common.{◌≡◌, ◌⊎◌, ℕ, zero, suc, ◌-◌, ◌<◌, List, [], ◌∷◌, ◌++◌, Option, Some, None, IfSome, refl, sym, ◌∙◌, subst, inl, inr, arith, append_assoc}
use Rattle.std.specs.List.{AllByRecursion}
use Rattle.std.proofs.lemmas.Bool.{cases_eq}
use Rattle.ubifs_base.specs.Key.{IsKey}
use Rattle.ubifs_base.specs.NodeLaws.{IsBytes}
use Rattle.ubifs_base.specs.declared.key.Key.{Key}
use Rattle.ubifs_base.specs.declared.raw_geometry.RawGeometry.{RawGeometry}
use Rattle.media_lpt.specs.declared.lprop.Lprop.{Lprop}
use Rattle.media_sys.specs.Index.{Index}
use Rattle.media_sys.specs.declared.branch.Branch.{Branch}
use Rattle.media_sys.specs.declared.master.Master.{Master}
use Rattle.index_media.specs.Stored.{IsIndexNodeAt}
use Rattle.sound_image.specs.IndexBreaches.{IsWanted, NodeWanted, index_misfit, most_below, root_wanted}
use Rattle.sound_image.specs.Wrong.{Wrong}
use Rattle.index_check.specs.IndexWalk.{IsWrongWanted, nodes_below, wanted_below}
use Rattle.index_check.proofs.Levels.{nodes_above, nodes_none}
use Rattle.index_check.proofs.StandingNodes.{IsOneNode, none_wrong_there, one_said}

-- a node is wanted below one with which nothing is wrong
abbrev pub IsChildOf : (ℕ → List ℕ) → RawGeometry → List Lprop → NodeWanted → NodeWanted → Type 0
IsChildOf contents geo props above wanted =
    (said : Index) × IsIndexNodeAt contents above.branch said × (index_misfit geo props above said ≡ None) × (0 < said.level)
    × (before : List Branch) × (behind : List Branch) × (said.branches ≡ before ++ (wanted.branch ∷ behind))
    × (wanted.level ≡ Some (said.level - 1)) × (wanted.most ≡ most_below behind above.most)

-- so far below another
abbrev pub IsReached : (ℕ → List ℕ) → RawGeometry → List Lprop → NodeWanted → ℕ → NodeWanted → Type 0
IsReached contents geo props from zero node = node ≡ from
IsReached contents geo props from (suc depth) node = (above : NodeWanted) × IsReached contents geo props from depth above × IsChildOf contents geo props above node

-- a node that waits, or is below one that does
abbrev pub IsLeft : (ℕ → List ℕ) → RawGeometry → List Lprop → List NodeWanted → NodeWanted → Type 0
IsLeft contents geo props [] node = ⊥
IsLeft contents geo props (from ∷ rest) node = ((depth : ℕ) × IsReached contents geo props from depth node) ⊎ IsLeft contents geo props rest node

-- ---- from the root
pub from_root : (contents : ℕ → List ℕ) (geo : RawGeometry) (master : Master) (props : List Lprop) (depth : ℕ) (node : NodeWanted) → IsWanted contents geo master props depth node → IsReached contents geo props (root_wanted master) depth node
from_root contents geo master props zero node h = h
from_root contents geo master props (suc depth) node (above, said, there, stands, right, some, before, behind, e, level, most) = (above, from_root contents geo master props depth above there, (said, stands, right, some, before, behind, e, level, most))

-- ---- the first step down
first_step : (contents : ℕ → List ℕ) (geo : RawGeometry) (props : List Lprop) (from : NodeWanted) (depth : ℕ) (node : NodeWanted) → IsReached contents geo props from (suc depth) node
    → (child : NodeWanted) × IsChildOf contents geo props from child × ((below : ℕ) × IsReached contents geo props child below node)
first_step contents geo props from zero node (above, same, is) =
    let P : NodeWanted → Type 0 = λ w. IsChildOf contents geo props w node in
    (node, subst P same is, (0, refl))
first_step contents geo props from (suc depth) node (above, reached, is) =
    let step = first_step contents geo props from depth above reached in
    (step.0, step.1, (suc step.2.0, (above, step.2.1, is)))

left_front : (contents : ℕ → List ℕ) (geo : RawGeometry) (props : List Lprop) (xs ys : List NodeWanted) (node : NodeWanted) → IsLeft contents geo props xs node → IsLeft contents geo props (xs ++ ys) node
left_front contents geo props [] ys node h = absurd h
left_front contents geo props (x ∷ xs) ys node (inl here) = inl here
left_front contents geo props (x ∷ xs) ys node (inr more) = inr (left_front contents geo props xs ys node more)

left_behind : (contents : ℕ → List ℕ) (geo : RawGeometry) (props : List Lprop) (xs ys : List NodeWanted) (node : NodeWanted) → IsLeft contents geo props ys node → IsLeft contents geo props (xs ++ ys) node
left_behind contents geo props [] ys node h = h
left_behind contents geo props (x ∷ xs) ys node h = inr (left_behind contents geo props xs ys node h)

same_wanted : (a b : NodeWanted) → a.branch ≡ b.branch → a.level ≡ b.level → a.most ≡ b.most → a ≡ b
same_wanted a b e f g = rw (e, f, g) refl

-- a child is among the nodes that are wanted below
among : (contents : ℕ → List ℕ) (geo : RawGeometry) (props : List Lprop) (level : ℕ) (most : Option Key) (child node : NodeWanted) (before behind : List Branch) (depth : ℕ) → child.level ≡ Some level → child.most ≡ most_below behind most
    → IsReached contents geo props child depth node → IsLeft contents geo props (wanted_below level most (before ++ (child.branch ∷ behind))) node
among contents geo props level most child node [] behind depth e f h =
    let first : NodeWanted = record { branch = child.branch; level = Some level; most = most_below behind most } in
    let P : NodeWanted → Type 0 = λ w. IsReached contents geo props w depth node in
    inl (depth, subst P (same_wanted child first refl e f) h)
among contents geo props level most child node (b ∷ before) behind depth e f h = inr (among contents geo props level most child node before behind depth e f h)

-- below a node that was taken
below_taken : IsOneNode → (contents : ℕ → List ℕ) (geo : RawGeometry) (props : List Lprop) (wanted : NodeWanted) (said : Index) (node child : NodeWanted) (depth : ℕ) → ((k : ℕ) → IsBytes (contents k)) → IsIndexNodeAt contents wanted.branch said
    → IsChildOf contents geo props wanted child → IsReached contents geo props child depth node → IsLeft contents geo props (nodes_below wanted said) node
below_taken one contents geo props wanted said node child depth fits stands (also, there, right, some, before, behind, e, level, most) h =
    let same = one_said one contents wanted.branch also said fits there stands in
    let P : Index → Type 0 = λ s. IsLeft contents geo props (nodes_below wanted s) node in
    let Q : List Branch → Type 0 = λ bs. IsLeft contents geo props (wanted_below (also.level - 1) wanted.most bs) node in
    let R : List NodeWanted → Type 0 = λ ws. IsLeft contents geo props ws node in
    subst P same (subst R (sym (nodes_above wanted also some)) (subst Q (sym e) (among contents geo props (also.level - 1) wanted.most child node before behind depth level most h)))

-- what waited, or was below, is the node that was taken, or waits now, or is below
pub left_taken : IsOneNode → (contents : ℕ → List ℕ) (geo : RawGeometry) (props : List Lprop) (wanted : NodeWanted) (said : Index) (rest : List NodeWanted) (node : NodeWanted) → ((k : ℕ) → IsBytes (contents k)) → IsIndexNodeAt contents wanted.branch said
    → IsLeft contents geo props (wanted ∷ rest) node → (node ≡ wanted) ⊎ IsLeft contents geo props (nodes_below wanted said ++ rest) node
left_taken one contents geo props wanted said rest node fits stands (inl (zero, same)) = inl same
left_taken one contents geo props wanted said rest node fits stands (inl (suc depth, reached)) =
    let step = first_step contents geo props wanted depth node reached in
    inr (left_front contents geo props (nodes_below wanted said) rest node (below_taken one contents geo props wanted said node step.0 step.2.0 fits stands step.1 step.2.1))
left_taken one contents geo props wanted said rest node fits stands (inr more) = inr (left_behind contents geo props (nodes_below wanted said) rest node more)

-- nothing is below a node that is wrong
pub left_passed : IsOneNode → (contents : ℕ → List ℕ) (geo : RawGeometry) (props : List Lprop) (wanted : NodeWanted) (at : Wrong) (rest : List NodeWanted) (node : NodeWanted) → ((k : ℕ) → IsBytes (contents k)) → IsWrongWanted contents geo props wanted at
    → IsLeft contents geo props (wanted ∷ rest) node → (node ≡ wanted) ⊎ IsLeft contents geo props rest node
left_passed one contents geo props wanted at rest node fits wrong (inl (zero, same)) = inl same
left_passed one contents geo props wanted at rest node fits wrong (inl (suc depth, reached)) =
    let step = first_step contents geo props wanted depth node reached in
    absurd (none_wrong_there one contents geo props wanted step.1.0 at fits step.1.1 step.1.2 wrong)
left_passed one contents geo props wanted at rest node fits wrong (inr more) = inr more

-- ---- what waits is wanted
abbrev pub IsSomeWanted : (ℕ → List ℕ) → RawGeometry → Master → List Lprop → NodeWanted → Type 0
IsSomeWanted contents geo master props node = (depth : ℕ) × IsWanted contents geo master props depth node

all_below : (contents : ℕ → List ℕ) (geo : RawGeometry) (master : Master) (props : List Lprop) (wanted : NodeWanted) (depth : ℕ) (said : Index) (before left : List Branch) (rest : List NodeWanted) → IsWanted contents geo master props depth wanted → IsIndexNodeAt contents wanted.branch said
    → index_misfit geo props wanted said ≡ None → 0 < said.level → said.branches ≡ before ++ left → AllByRecursion (IsSomeWanted contents geo master props) rest → AllByRecursion (IsSomeWanted contents geo master props) (wanted_below (said.level - 1) wanted.most left ++ rest)
all_below contents geo master props wanted depth said before [] rest is stands right some e h = h
all_below contents geo master props wanted depth said before (b ∷ left) rest is stands right some e h = (
  (suc depth, (wanted, said, is, stands, right, some, before, left, e, refl, refl)),
  all_below contents geo master props wanted depth said (before ++ b ∷ []) left rest is stands right some (e ∙ sym (append_assoc before (b ∷ []) left)) h,
)

below_leaves_none : (contents : ℕ → List ℕ) (geo : RawGeometry) (master : Master) (props : List Lprop) (wanted : NodeWanted) (depth : ℕ) (said : Index) (rest : List NodeWanted) → IsWanted contents geo master props depth wanted → IsIndexNodeAt contents wanted.branch said
    → index_misfit geo props wanted said ≡ None → AllByRecursion (IsSomeWanted contents geo master props) rest → AllByRecursion (IsSomeWanted contents geo master props) (nodes_below wanted said ++ rest)
below_leaves_none contents geo master props wanted depth said rest is stands right h =
    let P : List NodeWanted → Type 0 = λ ws. AllByRecursion (IsSomeWanted contents geo master props) (ws ++ rest) in
    elim (cases_eq said.level 0) [
      | inl none ↦ subst P (sym (nodes_none wanted said none)) h
      | inr other ↦
          let some : 0 < said.level = omega (arith, other) in
          subst P (sym (nodes_above wanted said some)) (all_below contents geo master props wanted depth said [] said.branches rest is stands right some refl h)
    ]

pub wanted_taken : (contents : ℕ → List ℕ) (geo : RawGeometry) (master : Master) (props : List Lprop) (wanted : NodeWanted) (said : Index) (rest : List NodeWanted) → IsIndexNodeAt contents wanted.branch said → index_misfit geo props wanted said ≡ None
    → AllByRecursion (IsSomeWanted contents geo master props) (wanted ∷ rest) → AllByRecursion (IsSomeWanted contents geo master props) (nodes_below wanted said ++ rest)
wanted_taken contents geo master props wanted said rest stands right ((depth, is), more) = below_leaves_none contents geo master props wanted depth said rest is stands right more

-- ---- keys
key_at : (b : Branch) (before behind : List Branch) → AllByRecursion (λ (x : Branch). IsKey x.key) (before ++ (b ∷ behind)) → IsKey b.key × AllByRecursion (λ (x : Branch). IsKey x.key) behind
key_at b [] behind h = h
key_at b (x ∷ before) behind h = key_at b before behind h.1

most_key : (behind : List Branch) (most : Option Key) → AllByRecursion (λ (x : Branch). IsKey x.key) behind → IfSome most IsKey → IfSome (most_below behind most) IsKey
most_key [] most h k = k
most_key (next ∷ behind) most h k = h.0

pub wanted_keys : (contents : ℕ → List ℕ) (geo : RawGeometry) (master : Master) (props : List Lprop) (depth : ℕ) (node : NodeWanted) → IsWanted contents geo master props depth node → IsKey node.branch.key × IfSome node.most IsKey
wanted_keys contents geo master props zero node is =
    let P : NodeWanted → Type 0 = λ w. IsKey w.branch.key × IfSome w.most IsKey in
    subst P (sym is) (omega arith, tt)
wanted_keys contents geo master props (suc depth) node (above, said, there, stands, right, some, before, behind, e, level, most) =
    let Q : List Branch → Type 0 = λ bs. AllByRecursion (λ (x : Branch). IsKey x.key) bs in
    let R : Option Key → Type 0 = λ k. IfSome k IsKey in
    let own = key_at node.branch before behind (subst Q e stands.is.is.keys) in
    (own.0, subst R (sym most) (most_key behind above.most own.1 (wanted_keys contents geo master props depth above there).1))
