-- The marks of a LEB by its number and by its place.
use Rattle.std.proofs.Common.{◌≡◌, ℕ, ◌+◌, ◌-◌, Bool, false, List, Option, get_or, length, ap, sym, ◌∙◌, arith}
use Rattle.std.specs.Prelude.{◌==◌, ◌&&◌, ◌||◌, not}
use Rattle.std.specs.List.{find, range_with_len}
use Rattle.std.specs.Option.{option_map_or}
use Rattle.image_space.specs.Uses.{counts_in, is_bare_use, is_indexed_in, is_vain_in, is_vain_use, unused, use_in}
use Rattle.image_space.specs.declared.leb_use.LebUse.{LebUse}

pub use_at : (first at : ℕ) (uses : List LebUse) → use_in first uses (first + at) ≡ get_or uses at unused
use_at first at uses = let e : first + at - first ≡ at = omega arith in ap (λ (n : ℕ). get_or uses n unused) e

pub indexed_at : (first at : ℕ) (uses : List LebUse) (b : Bool) → (get_or uses at unused).indexed ≡ b → is_indexed_in first uses (first + at) ≡ b
indexed_at first at uses b h = ap (λ (u : LebUse). u.indexed) (use_at first at uses) ∙ h

pub vain_at : (first at : ℕ) (uses : List LebUse) (b c : Bool) → b ≡ is_vain_use (get_or uses at unused) → b ≡ c → is_vain_in first uses (first + at) ≡ c
vain_at first at uses b c is h = ap is_vain_use (use_at first at uses) ∙ sym is ∙ h

pub empty_at : (first at lnum : ℕ) (uses : List LebUse) (opened : Option ℕ) (b c : Bool) → lnum ≡ first + at → opened ≡ find (is_vain_in first uses) (range_with_len first (length uses))
    → b ≡ (is_bare_use (get_or uses at unused) && (not (get_or uses at unused).named || option_map_or (λ n. n == lnum) opened false)) → b ≡ c → counts_in first uses (first + at) ≡ c
empty_at first at lnum uses opened b c here e is h =
    ap (λ (u : LebUse). is_bare_use u && (not u.named || option_map_or (λ n. n == first + at) (find (is_vain_in first uses) (range_with_len first (length uses))) false)) (use_at first at uses)
    ∙ ap (λ (o : Option ℕ). is_bare_use (get_or uses at unused) && (not (get_or uses at unused).named || option_map_or (λ n. n == first + at) o false)) (sym e)
    ∙ ap (λ (m : ℕ). is_bare_use (get_or uses at unused) && (not (get_or uses at unused).named || option_map_or (λ n. n == m) opened false)) (sym here)
    ∙ sym is ∙ h
