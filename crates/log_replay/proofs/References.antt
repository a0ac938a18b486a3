-- From which offset on LEBs are named, after one more reference.
use Rattle.std.proofs.Common.{◌≡◌, ℕ, Bool, true, false, cond, ◌&&◌, ◌||◌, List, ◌∷◌, min, refl, sym, ap, ◌∙◌, arith, Option, Some, None}
use Rattle.std.specs.Prelude.{is_some, nat_le}
use Rattle.std.specs.BTreeMap.{BTreeMap, get, is_at}
use Rattle.std.specs.Ordering.{nat_cmp}
use Rattle.std.proofs.lemmas.Bool.Decides.{nat_tests}
use Rattle.index_tree.specs.declared.leaf.Leaf.{Leaf}
use Rattle.leaf_map.specs.Parts.{Named, in_bud, is_named}
use Rattle.journal_scan.specs.Places.{named_by}
use Rattle.journal_scan.specs.declared.bud_text.BudText.{BudText}
use Rattle.log_replay.specs.Named.{IsNamed, in_named, is_from, lower}
use Rattle.log_replay.proofs.Noted.{number_at}

least : (a b n : ℕ) → nat_le (min a b) n ≡ (nat_le a n || nat_le b n)
least a b n = grind (arith, nat_tests)

from_lower : (leaf : Leaf) (from : ℕ) (o : Option ℕ) → is_from leaf (Some (lower from o)) ≡ (nat_le from leaf.offs || is_from leaf o)
from_lower leaf from None = by (nat_le from leaf.offs)
  where
    by : (b : Bool) → b ≡ (b || false)
    by true = refl
    by false = refl
from_lower leaf from (Some other) = least from other leaf.offs

pub named_on : (bud : BudText) (references : List Named) (old new : BTreeMap ℕ ℕ) → IsNamed references old
    → ((q : ℕ) → get nat_cmp new q ≡ cond (is_at (nat_cmp bud.lnum) q) (Some (lower bud.from (get nat_cmp old q))) (get nat_cmp old q)) → IsNamed (named_by bud ∷ references) new
named_on bud references old new is h = record { bud = λ leaf. place leaf (is_at (nat_cmp bud.lnum) leaf.lnum) refl; leb = λ lnum. leb lnum (is_at (nat_cmp bud.lnum) lnum) refl }
  where
    got : (q : ℕ) (b : Bool) → is_at (nat_cmp bud.lnum) q ≡ b → get nat_cmp new q ≡ cond b (Some (lower bud.from (get nat_cmp old q))) (get nat_cmp old q)
    got q b e = h q ∙ ap (λ (z : Bool). cond z (Some (lower bud.from (get nat_cmp old q))) (get nat_cmp old q)) e

    place : (leaf : Leaf) (b : Bool) → is_at (nat_cmp bud.lnum) leaf.lnum ≡ b → in_named new leaf ≡ in_bud (named_by bud ∷ references) leaf
    place leaf true e =
        ap (is_from leaf) (got leaf.lnum true e) ∙ from_lower leaf bud.from (get nat_cmp old leaf.lnum) ∙ ap (λ (z : Bool). nat_le bud.from leaf.offs || z) (is.bud leaf)
        ∙ sym (ap (λ (z : Bool). (z && nat_le bud.from leaf.offs) || in_bud references leaf) (number_at bud.lnum leaf.lnum ∙ e))
    place leaf false e = ap (is_from leaf) (got leaf.lnum false e) ∙ is.bud leaf ∙ sym (ap (λ (z : Bool). (z && nat_le bud.from leaf.offs) || in_bud references leaf) (number_at bud.lnum leaf.lnum ∙ e))

    leb : (lnum : ℕ) (b : Bool) → is_at (nat_cmp bud.lnum) lnum ≡ b → is_some (get nat_cmp new lnum) ≡ is_named (named_by bud ∷ references) lnum
    leb lnum true e = ap (λ (o : Option ℕ). is_some o) (got lnum true e) ∙ sym (ap (λ (z : Bool). z || is_named references lnum) (number_at bud.lnum lnum ∙ e))
    leb lnum false e = ap (λ (o : Option ℕ). is_some o) (got lnum false e) ∙ is.leb lnum ∙ sym (ap (λ (z : Bool). z || is_named references lnum) (number_at bud.lnum lnum ∙ e))
