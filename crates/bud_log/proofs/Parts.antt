-- What was found is a first part of what was written.
use Rattle.std.proofs.Common.{◌≡◌, ◌⊎◌, inl, inr, ℕ, suc, ◌+◌, ◌≤◌, true, List, [], ◌∷◌, ◌++◌, length, take, drop, Some, refl, ap, sym, ◌∙◌, subst, arith}
use Rattle.std.specs.Prelude.{◌≢◌, ◌==◌, ⊤}
use Rattle.std.proofs.lemmas.Bool.{cases_Bool, eqb-true}
use Rattle.ubifs_base.specs.NodeType.{type_number}
use Rattle.ubifs_base.specs.declared.node_type.NodeType.{NodeType}
use Rattle.ubifs_base.specs.declared.node_type.NodeType.TheVariants as types
use Rattle.leb_scan.specs.TypeLaws.{type_same}
use Rattle.media_sys.specs.SystemNode.{SystemNode, padding, superblock, master, reference, index, commit_start, orphans, node_type, written, IsRef}
use Rattle.media_sys.specs.declared.ref_node.RefNode.{RefNode}
use Rattle.leb_scan.specs.declared.found.Found.{Found}
use Rattle.bud_log.specs.LogText.{Refer, first_found_node, others, is_one_start, is_start_alone}
use Rattle.bud_log.specs.Writing.{reference_in, references_in, IsNodeSpelled, AreSpelled, IsFoundWhole, ArePart}
use Rattle.bud_log.specs.References.{OneSystemNode, others_skip, others_keep, one_parts}

-- the first of the nodes found, if any were laid
abbrev pub FirstIs : ℕ → ℕ → List SystemNode → List Found → Type 0
FirstIs place number [] found = ⊤
FirstIs place number (node ∷ nodes) found = (first : Found) × (first_found_node found ≡ Some first) × (first.offs ≡ place) × (first.sqnum ≡ number + 1) × (first.kind ≡ node_type node)

-- a node of another type is no reference
pub none_in : (node : SystemNode) → node_type node ≢ types.Reference → reference_in node ≡ []
none_in (padding node) ne = refl
none_in (superblock node) ne = refl
none_in (master node) ne = refl
none_in (reference node) ne = absurd (ne refl)
none_in (index node) ne = refl
none_in (commit_start node) ne = refl
none_in (orphans node) ne = refl

-- and one of the type of references is
pub one_in : (node : SystemNode) → node_type node ≡ types.Reference → (r : RefNode) × (node ≡ reference r)
one_in (padding node) e = absurd cc
one_in (superblock node) e = absurd cc
one_in (master node) e = absurd cc
one_in (reference node) e = (node, refl)
one_in (index node) e = absurd cc
one_in (commit_start node) e = absurd cc
one_in (orphans node) e = absurd cc

-- These references are those of the first of these nodes, so many. If there is none, padding alone was found.
abbrev pub FirstIn : List SystemNode → List RefNode → List Found → Type 0
FirstIn nodes references found = (n : ℕ) × (n ≤ length nodes) × (references ≡ references_in (take n nodes)) × (n ≡ 0 → others found ≡ [])

-- these references are a node's, and those of the first behind it
abbrev pub FirstBehind : SystemNode → List SystemNode → List RefNode → List Found → Type 0
FirstBehind node more references found = (n : ℕ) × (n ≤ length more) × (references ≡ references_in (node ∷ take n more)) × (n ≡ 0 → others found ≡ [])

-- a node was found whole, and behind it the first of others
whole_first : OneSystemNode → (left : List ℕ) (f : Found) (found : List Found) (place number : ℕ) (node : SystemNode) (more : List SystemNode) (references : List RefNode) → IsNodeSpelled number node → IsFoundWhole left place number node f → Refer left (f ∷ found) references
    → ((rest : List RefNode) → Refer left found rest → FirstIn more rest found) → FirstBehind node more references found
whole_first one left f found place number node more references spelled whole (inl (other, h)) behind =
    let rest = behind references h in
    let none = none_in node (λ eight. other (whole.kind ∙ eight)) in
    let S : List RefNode → Type 0 = λ r. references ≡ r ++ references_in (take rest.0 more) in
    (rest.0, rest.1, subst S (sym none) rest.2, rest.3)
whole_first one left f found place number node more references spelled whole (inr (eight, r, others, is, e, h)) behind =
    let rest = behind others h in
    let that = one_in node (sym whole.kind ∙ eight) in
    let B : ℕ → Type 0 = λ o. IsRef (take f.len (drop o left)) f.sqnum f.group r in
    let C : List ℕ → Type 0 = λ b. IsRef b f.sqnum f.group r in
    let there : IsRef (written number 0 node) f.sqnum f.group r = subst C whole.bytes (subst B whole.offs is) in
    let same : reference r ≡ node = (one (written number 0 node) f.sqnum f.group number 0 (reference r) node spelled.bytes there spelled.is).2 in
    let S : SystemNode → Type 0 = λ n. references ≡ reference_in n ++ references_in (take rest.0 more) in
    (rest.0, rest.1, subst S same (e ∙ ap (λ (rs : List RefNode). r ∷ rs) rest.2), rest.3)

-- what was found has the references of the first nodes
pub part_first : OneSystemNode → (left : List ℕ) (found : List Found) (place number : ℕ) (nodes : List SystemNode) (references : List RefNode) → AreSpelled number nodes → ArePart left place number nodes found → Refer left found references → FirstIn nodes references found
part_first one left [] place number nodes references spelled part h = (0, omega arith, h, λ e. refl)
part_first one left (f ∷ found) place number [] references spelled part (inl (other, h)) =
    let rest = part_first one left found place number [] references spelled part.1 h in
    let five : (type_number f.kind == 5) ≡ true = ap (λ (kind : NodeType). type_number kind == 5) part.0 in
    (rest.0, rest.1, rest.2, λ e. others_skip f found five ∙ rest.3 e)
part_first one left (f ∷ found) place number [] references spelled part (inr (eight, r, others, is, e, h)) = let padding = part.0 in absurd cc
part_first one left (f ∷ found) place number (node ∷ more) references spelled part h =
    let first = whole_first one left f found place (number + 1) node more references spelled.0 part.0 h (λ rest k. part_first one left found (place + f.len) (number + 1) more rest spelled.1 part.1 k) in
    let few = first.1 in
    (suc first.0, omega (arith, few), first.2, λ e. absurd (omega (arith, e)))

not_gap : (f : Found) (found : List Found) (node : SystemNode) → f.kind ≡ node_type node → node_type node ≢ types.Padding → others (f ∷ found) ≡ f ∷ others found
not_gap f found node kind other = elim (cases_Bool (type_number f.kind == 5)) [
  | inl is_gap ↦ absurd (other (sym kind ∙ type_same f.kind types.Padding (eqb-true (type_number f.kind) 5 is_gap)))
  | inr no_gap ↦ others_keep f found no_gap
]

-- Of a node and others nothing was found, or that one at the place, and behind it the first of the others. If none of those was found, and
-- the node is a commit start, it stands alone; and nothing else does.
abbrev pub Begins : ℕ → ℕ → SystemNode → List SystemNode → List RefNode → List Found → Type 0
Begins place number node more references found =
    FirstIs place number (node ∷ more) found
    × (is_start_alone found ≡ true → node_type node ≡ types.CommitStart)
    × ((n : ℕ) × (n ≤ length more) × (references ≡ references_in (node ∷ take n more)) × (n ≡ 0 → node_type node ≡ types.CommitStart → is_start_alone found ≡ true))

pub part_begins : OneSystemNode → (left : List ℕ) (found : List Found) (place number : ℕ) (node : SystemNode) (more : List SystemNode) (references : List RefNode) → AreSpelled number (node ∷ more) → ArePart left place number (node ∷ more) found → Refer left found references
    → (found ≡ []) ⊎ Begins place number node more references found
part_begins one left [] place number node more references spelled part h = inl refl
part_begins one left (f ∷ found) place number node more references spelled part h =
    let kind = part.0.kind in
    let keep = not_gap f found node kind spelled.0.other in
    let first = whole_first one left f found place (number + 1) node more references spelled.0 part.0 h (λ rest k. part_first one left found (place + f.len) (number + 1) more rest spelled.1 part.1 k) in
    inr (
      (f, refl, part.0.offs, part.0.sqnum, kind),
      λ alone. sym kind ∙ (one_parts f (others found) (ap is_one_start (sym keep) ∙ alone)).1,
      (
        first.0,
        first.1,
        first.2,
        λ none start.
            let ten : (type_number f.kind == 10) ≡ true = ap (λ (k : NodeType). type_number k == 10) (kind ∙ start) in
            ap is_one_start (keep ∙ ap (λ (rest : List Found). f ∷ rest) (first.3 none)) ∙ ten,
      ),
    )
