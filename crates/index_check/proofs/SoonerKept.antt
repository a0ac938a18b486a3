-- What is kept of two places at which something is wrong.
use Rattle.std.proofs.Common.{◌≡◌, Bool, true, false, Option, Some, None, refl, sym, subst}
use Rattle.std.specs.Prelude.{if◌then◌else◌}
use Rattle.sound_image.specs.Wrong.{Wrong, comes_before}
use Rattle.image_check.specs.FirstLaws.{before_not, not_before_itself, not_before_then}
use Rattle.image_check.specs.WrongValues.{sooner_of, wrong_at}
use Rattle.image_check.specs.declared.wrong_value.WrongValue.{WrongValue}

-- something is kept before which this doesn't come
abbrev pub IsKeptBefore : Wrong → Option WrongValue → Type 0
IsKeptBefore other first = (node : WrongValue) × (first ≡ Some node) × (comes_before other (wrong_at node) ≡ false)

some_value : (a b : WrongValue) → Some a ≡ Some b → a ≡ b
some_value a b h = cc

older_of : (b : Bool) (other : Wrong) (first node : WrongValue) → comes_before (wrong_at node) (wrong_at first) ≡ b → comes_before other (wrong_at first) ≡ false → IsKeptBefore other (if b then Some node else Some first)
older_of true other first node e h = (node, refl, not_before_then (wrong_at node) (wrong_at first) other (before_not (wrong_at node) (wrong_at first) e) h)
older_of false other first node e h = (first, refl, h)

pub older_kept : (other : Wrong) (first : Option WrongValue) (node : WrongValue) → IsKeptBefore other first → IsKeptBefore other (sooner_of first (Some node))
older_kept other None node (old, e, h) = absurd cc
older_kept other (Some first) node (old, e, h) =
    let P : WrongValue → Type 0 = λ n. comes_before other (wrong_at n) ≡ false in
    older_of (comes_before (wrong_at node) (wrong_at first)) other first node refl (subst P (sym (some_value first old e)) h)

newer_of : (b : Bool) (first node : WrongValue) → comes_before (wrong_at node) (wrong_at first) ≡ b → IsKeptBefore (wrong_at node) (if b then Some node else Some first)
newer_of true first node e = (node, refl, not_before_itself (wrong_at node))
newer_of false first node e = (first, refl, e)

newer_kept : (first : Option WrongValue) (node : WrongValue) → IsKeptBefore (wrong_at node) (sooner_of first (Some node))
newer_kept None node = (node, refl, not_before_itself (wrong_at node))
newer_kept (Some first) node = newer_of (comes_before (wrong_at node) (wrong_at first)) first node refl

pub new_kept : (other : Wrong) (first : Option WrongValue) (node : WrongValue) → other ≡ wrong_at node → IsKeptBefore other (sooner_of first (Some node))
new_kept other first node e = let P : Wrong → Type 0 = λ w. IsKeptBefore w (sooner_of first (Some node)) in subst P (sym e) (newer_kept first node)

either_of : (b : Bool) (P : WrongValue → Type 0) (first node kept : WrongValue) → P first → P node → (if b then Some node else Some first) ≡ Some kept → P kept
either_of true P first node kept old new e = subst P (some_value node kept e) new
either_of false P first node kept old new e = subst P (some_value first kept e) old

-- what holds of what was kept and of the node holds of what is kept
pub kept_is : (P : WrongValue → Type 0) (first : Option WrongValue) (node kept : WrongValue) → ((old : WrongValue) → first ≡ Some old → P old) → P node → sooner_of first (Some node) ≡ Some kept → P kept
kept_is P None node kept old new e = subst P (some_value node kept e) new
kept_is P (Some first) node kept old new e = either_of (comes_before (wrong_at node) (wrong_at first)) P first node kept (old first refl) new e

some_kept : (b : Bool) (first node : WrongValue) → (if b then Some node else Some first) ≡ None → ⊥
some_kept true first node h = absurd cc
some_kept false first node h = absurd cc

-- something is kept
pub never_none : (first : Option WrongValue) (node : WrongValue) → sooner_of first (Some node) ≡ None → ⊥
never_none None node h = absurd cc
never_none (Some first) node h = some_kept (comes_before (wrong_at node) (wrong_at first)) first node h
