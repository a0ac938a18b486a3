-- LEBs and numbers of a caller's steps.
use Rattle.std.proofs.Common.{◌≡◌, ℕ, ◌+◌, ◌-◌, ◌*◌, ◌<◌, ◌≤◌, List, [], ◌∷◌, ◌++◌, length, sym, ◌∙◌, subst, arith, inl, inr}
use Rattle.std.specs.Prelude.{All, OnOk, Ok, Err, Result}
use Rattle.std.proofs.Math.Nat.{mul-suc}
use Rattle.std.proofs.lemmas.List.Elements.{All-weaker}
use Rattle.commit_steps.specs.UnderWayLaws.{all_given, given_all, given_behind, given_front, given_of}
use Rattle.index_commit.specs.Lebs.{AreLebsApart, AreGivable, IsGiven}
use Rattle.index_commit.specs.declared.index_fault.IndexFault.{IndexFault}
use Rattle.ubi_volume.specs.Geometry.{IsGeometryOf}
use Rattle.ubi_volume.specs.Volume.{SameShape, VolumeState}
use Rattle.ubifs_base.specs.RawOf.{raw_of}
use Rattle.ubifs_base.specs.declared.geometry.Geometry.{Geometry}
use Rattle.ubifs_base.specs.declared.raw_geometry.RawGeometry.{RawGeometry}

pub on_ok_more : {T : Type 0} {P Q : Type 0} (r : Result T IndexFault) → (P → Q) → OnOk r P → OnOk r Q
on_ok_more (Ok x) f p = f p
on_ok_more (Err e) f p = tt

geometry_then : (geo : RawGeometry) (a b : VolumeState) → SameShape a b → IsGeometryOf geo a → IsGeometryOf geo b
geometry_then geo a b shape h =
    let P : ℕ → Type 0 = λ n. geo.leb_cnt ≤ n in
    record { leb_size = h.leb_size ∙ sym shape.leb_size; min_io = h.min_io ∙ sym shape.min_io; leb_cnt = subst P (sym shape.leb_cnt) h.leb_cnt }

-- the geometry that an index has still is that of the volume
pub geometry_now : (own now : Geometry) (a b : VolumeState) → now ≡ own → SameShape a b → IsGeometryOf (raw_of own) a → IsGeometryOf (raw_of now) b
geometry_now own now a b same shape h = let G : Geometry → Type 0 = λ g. IsGeometryOf (raw_of g) b in subst G (sym same) (geometry_then (raw_of own) a b shape h)

pub givable_now : (a b : VolumeState) (lebs : List ℕ) → SameShape a b → AreGivable a.leb_cnt lebs → AreGivable b.leb_cnt lebs
givable_now a b lebs shape h = let G : ℕ → Type 0 = λ n. AreGivable n lebs in subst G (sym shape.leb_cnt) h

pub apart_later : (others : List ℕ) (lnum : ℕ) (rest : List ℕ) → AreLebsApart others (lnum ∷ rest) → AreLebsApart others rest
apart_later others lnum rest h k own one = h k own (inr one)

pub apart_first : (others : List ℕ) (lnum : ℕ) (rest : List ℕ) → AreLebsApart others (lnum ∷ rest) → AreLebsApart others (lnum ∷ [])
apart_first others lnum rest h k own one = elim one [ inl e ↦ h k own (inl e) | inr none ↦ none ]

-- once a LEB is given, the others are apart from it too
pub apart_then : (lebs : List ℕ) (lnum : ℕ) (rest : List ℕ) → (IsGiven rest lnum → ⊥) → AreLebsApart lebs (lnum ∷ rest) → AreLebsApart (lnum ∷ lebs) rest
apart_then lebs lnum rest first h k one other =
    let G : ℕ → Type 0 = λ m. IsGiven rest m in
    elim one [ inl e ↦ first (subst G e other) | inr before ↦ h k before (inr other) ]

-- LEBs of a commit that was given some of these, and the ones behind them
pub apart_since : (lebs given kept since rest : List ℕ) → All (IsGiven (lebs ++ given)) since → AreLebsApart lebs rest → AreLebsApart (given ++ kept) rest → AreLebsApart (since ++ kept) rest
apart_since lebs given kept since rest among two apart k one other = elim (given_of since kept k one) [
  | inl own ↦ elim (given_of lebs given k (all_given (IsGiven (lebs ++ given)) since among k own)) [
    | inl front ↦ two k front other
    | inr before ↦ apart k (given_front given kept k before) other
  ]
  | inr old ↦ apart k (given_behind given kept k old) other
]

-- without a step, the LEBs that a commit was given are those that it was given before
pub given_at_first : (lebs given : List ℕ) → All (IsGiven (lebs ++ given)) given
given_at_first lebs given = given_all (IsGiven (lebs ++ given)) given (λ k one. given_behind lebs given k one)

-- after a step, the next LEB is one of them
pub given_since : (lnum : ℕ) (rest given now : List ℕ) → All (IsGiven (rest ++ (lnum ∷ given))) now → All (IsGiven (lnum ∷ (rest ++ given))) now
given_since lnum rest given now all =
    let more : (k : ℕ) → IsGiven (rest ++ (lnum ∷ given)) k → IsGiven (lnum ∷ (rest ++ given)) k = λ k one. elim (given_of rest (lnum ∷ given) k one) [
      | inl later ↦ inr (given_front rest given k later)
      | inr before ↦ elim before [ inl e ↦ inl e | inr old ↦ inr (given_behind rest given k old) ]
    ] in
    All-weaker (IsGiven (rest ++ (lnum ∷ given))) (IsGiven (lnum ∷ (rest ++ given))) more now all

-- some LEBs, and more
pub given_both : (one rest given since now : List ℕ) → All (IsGiven (one ++ given)) since → All (IsGiven (rest ++ since)) now → All (IsGiven ((one ++ rest) ++ given)) now
given_both one rest given since now first then =
    let more : (k : ℕ) → IsGiven (rest ++ since) k → IsGiven ((one ++ rest) ++ given) k = λ k at. elim (given_of rest since k at) [
      | inl later ↦ given_front (one ++ rest) given k (given_behind one rest k later)
      | inr before ↦ elim (given_of one given k (all_given (IsGiven (one ++ given)) since first k before)) [
        | inl front ↦ given_front (one ++ rest) given k (given_front one rest k front)
        | inr old ↦ given_behind (one ++ rest) given k old
      ]
    ] in
    All-weaker (IsGiven (rest ++ since)) (IsGiven ((one ++ rest) ++ given)) more now then

-- ---- numbers
pub number_later : (q n i j : ℕ) (lebs : List ℕ) (lnum : ℕ) (rest : List ℕ) → lebs ≡ lnum ∷ rest → j - i ≤ q → i + q * length lebs < n → j + q * length rest < n
number_later q n i j lebs lnum rest is most small =
    let L : List ℕ → Type 0 = λ l. i + q * length l < n in
    let one = subst L is small in
    let sum : q * length (lnum ∷ rest) ≡ q * length rest + q = mul-suc q (length rest) in
    omega (arith, one, sum, most)

pub number_most : (q i j k : ℕ) (lebs : List ℕ) (lnum : ℕ) (rest : List ℕ) → lebs ≡ lnum ∷ rest → j - i ≤ q → k ≤ j + q * length rest → k ≤ i + q * length lebs
number_most q i j k lebs lnum rest is most later =
    let L : List ℕ → Type 0 = λ l. k ≤ i + q * length l in
    let sum : q * length (lnum ∷ rest) ≡ q * length rest + q = mul-suc q (length rest) in
    subst L (sym is) (omega (arith, sum, most, later))

pub number_first : (q n i : ℕ) (first : ℕ) (rest : List ℕ) → i + q * length (first ∷ rest) < n → i + q * length (first ∷ []) < n
number_first q n i first rest small =
    let sum : q * length (first ∷ rest) ≡ q * length rest + q = mul-suc q (length rest) in
    let one : q * length (first ∷ []) ≡ q * 0 + q = mul-suc q 0 in
    omega (arith, small, sum, one)

pub number_rest : (q n i j first : ℕ) (rest : List ℕ) → j ≤ i + q * length (first ∷ []) → i + q * length (first ∷ rest) < n → j + q * length rest < n
number_rest q n i j first rest most small =
    let sum : q * length (first ∷ rest) ≡ q * length rest + q = mul-suc q (length rest) in
    let one : q * length (first ∷ []) ≡ q * 0 + q = mul-suc q 0 in
    omega (arith, small, most, sum, one)

-- of LEBs of which no two are the same, the first is apart from the rest
pub first_apart : (first : ℕ) (rest : List ℕ) → (IsGiven rest first → ⊥) → AreLebsApart (first ∷ []) rest
first_apart first rest two k one other = let G : ℕ → Type 0 = λ m. IsGiven rest m in elim one [ inl e ↦ two (subst G e other) | inr none ↦ none ]
