-- A level and those above it.
use Rattle.std.proofs.Common.{◌≡◌, ℕ, ◌+◌, ◌*◌, ◌^◌, ◌<◌, ◌≤◌, List, [], ◌∷◌, ◌++◌, length, ap, sym, ◌∙◌, subst, arith, append-nil, length-append, inl, inr}
use Rattle.std.specs.Int.{div_ceil}
use Rattle.std.proofs.Math.Nat.{mul-le-mul_right}
use Rattle.std.proofs.lemmas.Bool.{cases_lt}
use Rattle.std.proofs.lemmas.Grind.{pow_more}
use Rattle.std.proofs.lemmas.Nat.{pow_below}
use Rattle.ubifs_base.specs.declared.raw_geometry.RawGeometry.{RawGeometry}
use Rattle.media_sys.specs.declared.branch.Branch.{Branch}
use Rattle.laid_index.specs.Opened.{AreNodesReady, Lays, taken_after, bytes_taken_of}
use Rattle.laid_index.specs.Packing.{len_over, lens_above, level_lens}
use Rattle.laid_index.specs.declared.open_leb.OpenLeb.{OpenLeb}
use Rattle.laid_index.proofs.Making.{more_taken}
use Rattle.laid_index.proofs.Packs.{lens_level, lens_root, level_count, packed_nil}

-- an index of so few siblings has few levels
pub level_low : (n level : ℕ) → 0 < n → n * 2 ^ level < 2 ^ 64 → level < 64
level_low n level some h = elim (cases_lt level 64) [
  | inl lt ↦ lt
  | inr ge ↦
      let one : 1 * 2 ^ level ≤ n * 2 ^ level = mul-le-mul_right (2 ^ level) some in
      let big : 2 ^ 64 ≤ 2 ^ level = grown level ge in
      absurd (omega (arith, one, big, h))
]
  where
    grown : (level : ℕ) → 64 ≤ level → 2 ^ 64 ≤ 2 ^ level
    grown level ge = elim (cases_lt 64 level) [
      | inl lt ↦ let b = pow_below 64 level lt in omega (arith, b)
      | inr le ↦ let e : level ≡ 64 = omega (arith, ge, le) in let p = ap (λ (k : ℕ). 2 ^ k) e in omega (arith, p)
    ]

-- the level above has at most half as many, and is one higher
pub level_high : (n q level : ℕ) → 2 * q ≤ n → n * 2 ^ level < 2 ^ 64 → q * 2 ^ (level + 1) < 2 ^ 64
level_high n q level half h =
    let p = 2 ^ level in
    let e : 2 ^ (level + 1) ≡ p * 2 = pow_more 2 level in
    let f = ap (λ (k : ℕ). q * k) e in
    let g : q * (p * 2) ≡ 2 * q * p = omega arith in
    let m : 2 * q * p ≤ n * p = mul-le-mul_right p half in
    omega (arith, f, g, m, h)

pub ready_level : (geo : RawGeometry) (n : ℕ) (leb : OpenLeb) (was : ℕ → List ℕ) → 3 ≤ geo.fanout → geo.fanout < n → AreNodesReady geo (lens_above n geo.fanout n) leb was → AreNodesReady geo (level_lens geo.fanout n) leb was
ready_level geo n leb was wide lt ready =
    let f = geo.fanout in
    let above = lens_above (div_ceil n f) f (div_ceil n f) in
    let e = lens_level f n wide lt in
    let a = ap (λ (l : List ℕ). length (taken_after geo leb l)) e in
    let b = more_taken geo (level_lens f n) above leb in
    let c = ap length e in
    let d = length-append (level_lens f n) above in
    let room = ready.room in
    let number = ready.number in
    record { is_open = ready.is_open; room = omega (arith, a, b, room); number = omega (arith, c, d, number) }

pub ready_root : (geo : RawGeometry) (n : ℕ) (leb : OpenLeb) (was : ℕ → List ℕ) → 0 < n → n ≤ geo.fanout → AreNodesReady geo (lens_above n geo.fanout n) leb was → AreNodesReady geo (len_over n ∷ []) leb was
ready_root geo n leb was some le ready = let P : List ℕ → Type 0 = λ l. AreNodesReady geo l leb was in subst P (lens_root geo.fanout n some le) ready

-- how many nodes a level has
pub made_count : (geo : RawGeometry) (n : ℕ) (made : List Branch) (old new : OpenLeb) (was now : ℕ → List ℕ) → Lays geo (level_lens geo.fanout n) made old was new now → length made ≡ div_ceil n geo.fanout
made_count geo n made old new was now lays = lays.many ∙ level_count geo.fanout n

-- a level, and those above it, by its nodes
pub lens_made : (geo : RawGeometry) (n : ℕ) (made : List Branch) (old new : OpenLeb) (was now : ℕ → List ℕ) → 3 ≤ geo.fanout → geo.fanout < n → Lays geo (level_lens geo.fanout n) made old was new now
    → lens_above n geo.fanout n ≡ level_lens geo.fanout n ++ lens_above (length made) geo.fanout (length made)
lens_made geo n made old new was now wide lt lays =
    lens_level geo.fanout n wide lt ∙ ap (λ (q : ℕ). level_lens geo.fanout n ++ lens_above q geo.fanout q) (sym (made_count geo n made old new was now lays))

pub ready_above : (geo : RawGeometry) (n : ℕ) (made : List Branch) (old new : OpenLeb) (was now : ℕ → List ℕ) → 3 ≤ geo.fanout → geo.fanout < n → AreNodesReady geo (lens_above n geo.fanout n) old was
    → Lays geo (level_lens geo.fanout n) made old was new now → AreNodesReady geo (lens_above (length made) geo.fanout (length made)) new now
ready_above geo n made old new was now wide lt ready lays =
    let f = geo.fanout in
    let above = lens_above (length made) f (length made) in
    let e = lens_made geo n made old new was now wide lt lays in
    let a = ap (λ (l : List ℕ). length (taken_after geo old l)) e in
    let b = ap length (lays.after above) in
    let c = ap length e in
    let d = length-append (level_lens f n) above in
    let first = lays.first in
    let counted = lays.number in
    let many = lays.many in
    let room = ready.room in
    let number = ready.number in
    record { is_open = lays.is_open; room = omega (arith, a, b, room, first); number = omega (arith, c, d, number, counted, many) }

-- the LEBs of a level, and those of the levels above, are among those of all
pub level_within : (geo : RawGeometry) (n : ℕ) (leb : OpenLeb) → 3 ≤ geo.fanout → geo.fanout < n
    → leb.first + length (taken_after geo leb (level_lens geo.fanout n)) ≤ leb.first + length (taken_after geo leb (lens_above n geo.fanout n))
level_within geo n leb wide lt =
    let f = geo.fanout in
    let above = lens_above (div_ceil n f) f (div_ceil n f) in
    let a = ap (λ (l : List ℕ). length (taken_after geo leb l)) (lens_level f n wide lt) in
    let b = more_taken geo (level_lens f n) above leb in
    omega (arith, a, b)

pub above_within : (geo : RawGeometry) (n : ℕ) (made : List Branch) (old new : OpenLeb) (was now : ℕ → List ℕ) → 3 ≤ geo.fanout → geo.fanout < n → Lays geo (level_lens geo.fanout n) made old was new now
    → new.first + length (taken_after geo new (lens_above (length made) geo.fanout (length made))) ≡ old.first + length (taken_after geo old (lens_above n geo.fanout n))
above_within geo n made old new was now wide lt lays =
    let f = geo.fanout in
    let above = lens_above (length made) f (length made) in
    let a = ap (λ (l : List ℕ). length (taken_after geo old l)) (lens_made geo n made old new was now wide lt lays) in
    let b = ap length (lays.after above) in
    let first = lays.first in
    omega (arith, a, b, first)

-- what is taken once all are laid
pub lays_taken : (geo : RawGeometry) (lens : List ℕ) (made : List Branch) (old new : OpenLeb) (was now : ℕ → List ℕ) → Lays geo lens made old was new now → bytes_taken_of new ≡ taken_after geo old lens
lays_taken geo lens made old new was now lays =
    ap (λ (l : List ℕ). new.used.items ++ l) (sym (packed_nil geo.leb_size (length new.bytes.items))) ∙ lays.after [] ∙ ap (taken_after geo old) (append-nil lens)
