-- Leaves that stand at copies, told by the LEBs that stay.
use Rattle.std.proofs.Common.{◌≡◌, ℕ, Bool, true, false, cond, not, ◌&&◌, ◌||◌, List, [], ◌∷◌, length, map, refl, ap, ◌∙◌, arith}
use Rattle.std.specs.Prelude.{◌==◌, is_some}
use Rattle.std.specs.BTreeMap.{is_at}
use Rattle.std.specs.List.{list_any}
use Rattle.std.specs.Ordering.{nat_cmp}
use Rattle.std.proofs.lemmas.Bool.{eqb-true, eq-eqb}
use Rattle.fs_laws.specs.Orders.{numbers}
use Rattle.media_sys.specs.declared.ref_node.RefNode.{RefNode}
use Rattle.journal_scan.specs.declared.journal_node.JournalNode.{JournalNode}
use Rattle.leaf_recovery.specs.declared.recovered_leaf.RecoveredLeaf.{RecoveredLeaf}
use Rattle.leaf_recovery.specs.Moved.{all_moved_told, copy_of_told, is_bare_told, is_copied_told, moved_to_copy, moved_told, moved_unless}
use Rattle.leaf_recovery.specs.Named.{is_named_told}
use Rattle.leaf_recovery.proofs.Seeing.{test_at}

lnum_at : (a b : ℕ) → is_at (nat_cmp a) b ≡ (a == b)
lnum_at a b = test_at nat_cmp numbers a b (a == b) (λ h. eqb-true a b h) (λ e. eq-eqb a b e)

-- a LEB stays if one of its leaves has no copy
bare_is : (copies : List JournalNode) (lnum : ℕ) (kept : List RecoveredLeaf) → list_any (is_bare_told copies lnum) kept ≡ not (is_copied_told copies kept lnum)
bare_is copies lnum [] = refl
bare_is copies lnum (x ∷ kept) =
    ap (λ (b : Bool). (b && not (is_some (copy_of_told copies x))) || list_any (is_bare_told copies lnum) kept) (lnum_at x.leaf.lnum lnum)
    ∙ ap (λ (b : Bool). ((x.leaf.lnum == lnum) && not (is_some (copy_of_told copies x))) || b) (bare_is copies lnum kept)
    ∙ by (x.leaf.lnum == lnum) (is_some (copy_of_told copies x)) (is_copied_told copies kept lnum)
  where
    by : (a b c : Bool) → ((a && not b) || not c) ≡ not ((not a || b) && c)
    by true true c = refl
    by true false c = refl
    by false b c = refl

one_is : (references : List RefNode) (copies : List JournalNode) (kept : List RecoveredLeaf) (stays : ℕ → Bool) → ((lnum : ℕ) → stays lnum ≡ list_any (is_bare_told copies lnum) kept)
    → (x : RecoveredLeaf) → moved_unless references copies stays x ≡ moved_told references copies kept x
one_is references copies kept stays h x =
    ap (λ (b : Bool). cond (is_named_told references x.leaf.lnum || b) x (moved_to_copy x (copy_of_told copies x))) (h x.leaf.lnum ∙ bare_is copies x.leaf.lnum kept)
    ∙ by (is_named_told references x.leaf.lnum) (is_copied_told copies kept x.leaf.lnum)
  where
    by : (a b : Bool) → cond (a || not b) x (moved_to_copy x (copy_of_told copies x)) ≡ cond (not a && b) (moved_to_copy x (copy_of_told copies x)) x
    by true b = refl
    by false true = refl
    by false false = refl

pub moved_is : (references : List RefNode) (copies : List JournalNode) (kept : List RecoveredLeaf) (stays : ℕ → Bool) → ((lnum : ℕ) → stays lnum ≡ list_any (is_bare_told copies lnum) kept)
    → map (moved_unless references copies stays) kept ≡ all_moved_told references copies kept
moved_is references copies kept stays h = by kept
  where
    by : (xs : List RecoveredLeaf) → map (moved_unless references copies stays) xs ≡ map (moved_told references copies kept) xs
    by [] = refl
    by (x ∷ xs) = ap (λ z. z ∷ map (moved_unless references copies stays) xs) (one_is references copies kept stays h x) ∙ ap (λ z. moved_told references copies kept x ∷ z) (by xs)

stays_there : (references : List RefNode) (kept : List RecoveredLeaf) (x : RecoveredLeaf) → x ≡ moved_told references [] kept x
stays_there references kept x = by (not (is_named_told references x.leaf.lnum) && is_copied_told [] kept x.leaf.lnum)
  where
    by : (b : Bool) → x ≡ cond b x x
    by true = refl
    by false = refl

-- without copies none moves
pub none_moved : (references : List RefNode) (copies : List JournalNode) (kept : List RecoveredLeaf) → length copies ≡ 0 → kept ≡ all_moved_told references copies kept
none_moved references [] kept e = by kept
  where
    by : (xs : List RecoveredLeaf) → xs ≡ map (moved_told references [] kept) xs
    by [] = refl
    by (x ∷ xs) = ap (λ z. z ∷ xs) (stays_there references kept x) ∙ ap (λ z. moved_told references [] kept x ∷ z) (by xs)
none_moved references (c ∷ copies) kept e = absurd (omega (arith, e))
