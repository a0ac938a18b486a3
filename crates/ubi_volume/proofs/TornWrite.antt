-- A write into which a cut falls is a write under way.
use Rattle.std.proofs.Common.{◌≡◌, ℕ, ◌+◌, ◌-◌, ◌/◌, ◌≤◌, Bool, true, false, List, ◌++◌, length, take, drop, replicate, refl, subst, sym, ◌∙◌, arith, length-append, length-take, length-drop}
use Rattle.std.specs.Prelude.{if◌then◌else◌, ◌==◌}
use Rattle.std.proofs.lemmas.List.{length-replicate}
use Rattle.ubi_volume.specs.Volume.{put, Torn}
use Rattle.ubi_volume.specs.TornLaws.{Torn-put, Torn-then, Torn-none}
use Rattle.ubi_volume.specs.Patterns.{unit_left, write_left}

cond_len : (b : Bool) (x y : List ℕ) (n : ℕ) → length x ≡ n → length y ≡ n → length (if b then x else y) ≡ n
cond_len true x y n h k = h
cond_len false x y n h k = k

half_len : (new : List ℕ) → length (take (length new / 2) new ++ replicate (length new - length new / 2) 255) ≡ length new
half_len new = simp (length-append, length-take, length-replicate) (omega arith)

-- a unit keeps its length
pub unit_left_len : (digit : ℕ) (old new : List ℕ) → length old ≡ length new → length (unit_left digit old new) ≡ length new
unfolding unit_left
unit_left_len digit old new same =
    cond_len (digit == 0) old _ (length new) same
    (cond_len (digit == 1) new _ (length new) refl
    (cond_len (digit == 2) (replicate (length new) 0) _ (length new) (length-replicate (length new) 0) (half_len new)))

pub write_left-torn : (unit n digit offs : ℕ) (bytes old : List ℕ) → n + unit ≤ length bytes → offs + length bytes ≤ length old
    → Torn offs (length bytes) old (write_left unit n digit offs bytes old)
unfolding write_left
write_left-torn unit n digit offs bytes old inside fits =
    let begun = put offs (take n bytes) old in
    let front : length (take n bytes) ≡ n = rw length-take (omega (arith, inside)) in
    let A : ℕ → Type 0 = λ k. Torn offs k old begun in
    let first : Torn offs n old begun = subst A front (Torn-put offs (take n bytes) old (omega (arith, front, inside, fits))) in
    let long : length begun ≡ length old = first.len in
    let under = unit_left digit (take unit (drop (offs + n) begun)) (take unit (drop n bytes)) in
    let new_len : length (take unit (drop n bytes)) ≡ unit = simp (length-take, length-drop) (omega (arith, inside)) in
    let old_len : length (take unit (drop (offs + n) begun)) ≡ unit = rw (length-take, length-drop, long) (omega (arith, inside, fits)) in
    let u : length under ≡ unit = unit_left_len digit (take unit (drop (offs + n) begun)) (take unit (drop n bytes)) (old_len ∙ sym new_len) ∙ new_len in
    let whole = put (offs + n) under begun in
    let B : ℕ → Type 0 = λ k. Torn (offs + n) k begun whole in
    let second : Torn (offs + n) unit begun whole = subst B u (Torn-put (offs + n) under begun (omega (arith, u, long, inside, fits))) in
    let both : Torn offs (n + unit) old whole = Torn-then offs n unit old begun whole first second in
    let rest = length bytes - (n + unit) in
    let e : n + unit + rest ≡ length bytes = omega (arith, inside) in
    let C : ℕ → Type 0 = λ k. Torn offs k old whole in
    subst C e (Torn-then offs (n + unit) rest old whole whole both (Torn-none (offs + (n + unit)) rest whole whole refl))
