-- Answers of calls that lay nodes, one after another.
use Rattle.std.proofs.Common.{◌≡◌, ℕ, ◌+◌, ◌≤◌, List, refl, sym, subst, ◌∙◌, arith, inl, inr}
use Rattle.std.specs.Prelude.{Result, Ok, Err}
use Rattle.std.specs.Result.{IsErrAnd}
use Rattle.ubi_volume.specs.Geometry.{IsGeometryOf}
use Rattle.ubifs_base.specs.declared.raw_geometry.RawGeometry.{RawGeometry}
use Rattle.ubi_volume.specs.FaultLaws.{HasAreaCause-before}
use Rattle.ubi_volume.specs.FrameLaws.{IsSameLeb-none, IsSameLeb-then, IsSameLeb-works}
use Rattle.ubi_volume.specs.Volume.{SameShape, VolumeState, WorksOn}
use Rattle.ubi_volume.specs.VolumeLaws.{SameShape-then}
use Rattle.ubi_volume.specs.declared.fault.AreaFault.{AreaFault}
use Rattle.ubi_volume.specs.declared.fault.AreaFault.TheVariants.{Memory, Volume}
use Rattle.laid_index.specs.Answered.{AreOthersSame, IsLayingAnswered}

shape_none : (a : VolumeState) → SameShape a a
shape_none a = record { leb_size = refl; min_io = refl; leb_cnt = refl }

-- nothing was done yet
pub answered_none : {T : Type 0} (first last : ℕ) (a : VolumeState) (x : T) → IsLayingAnswered first last a a (Ok x)
answered_none first last a x = record {
  others = λ k out. IsSameLeb-none a k;
  spent = λ h. h;
  shape = shape_none a;
  cause = omega arith;
  sure = λ s. inr (s, (refl, tt));
}

pub answered_memory : {T : Type 0} {U : Type 0} (first last : ℕ) (a b : VolumeState) (x : U) → IsLayingAnswered first last a b (Ok x) → IsLayingAnswered {T = T} first last a b (Err Memory)
answered_memory first last a b x h = record { others = h.others; spent = h.spent; shape = h.shape; cause = h.cause; sure = h.sure }

pub answered_ok : {T : Type 0} {U : Type 0} (first last : ℕ) (a b : VolumeState) (x : U) (y : T) → IsLayingAnswered first last a b (Ok x) → IsLayingAnswered first last a b (Ok y)
answered_ok first last a b x y h = record { others = h.others; spent = h.spent; shape = h.shape; cause = h.cause; sure = h.sure }

pub answered_err : {T : Type 0} {U : Type 0} (first last : ℕ) (a b : VolumeState) (e : AreaFault) → IsLayingAnswered {T = U} first last a b (Err e) → IsLayingAnswered {T = T} first last a b (Err e)
answered_err first last a b Memory h = record { others = h.others; spent = h.spent; shape = h.shape; cause = h.cause; sure = h.sure }
answered_err first last a b (Volume count) h = record { others = h.others; spent = h.spent; shape = h.shape; cause = h.cause; sure = h.sure }

-- it worked on no other LEBs than these, so on none out of more
pub answered_wider : {T : Type 0} (first last low high : ℕ) (a b : VolumeState) (r : Result T AreaFault) → low ≤ first → last ≤ high → IsLayingAnswered first last a b r → IsLayingAnswered low high a b r
answered_wider first last low high a b r le ge h = record {
  others = λ k out. h.others k (elim out [ inl lt ↦ inl (omega (arith, lt, le)) | inr up ↦ inr (omega (arith, up, ge)) ]);
  spent = h.spent;
  shape = h.shape;
  cause = h.cause;
  sure = h.sure;
}

-- one call, and then another
pub answered_then : {T : Type 0} {U : Type 0} (first last : ℕ) (a b c : VolumeState) (x : U) (r : Result T AreaFault) → IsLayingAnswered first last a b (Ok x) → IsLayingAnswered first last b c r → IsLayingAnswered first last a c r
answered_then first last a b c x r h k = record {
  others = λ n out. IsSameLeb-then a b c n (h.others n out) (k.others n out);
  spent = λ s. k.spent (h.spent s);
  shape = SameShape-then a b c h.shape k.shape;
  cause = HasAreaCause-before a.faults b.faults c.faults r h.cause k.cause;
  sure = λ s. elim (h.sure s) [
    | inl spent ↦ inl (k.spent spent)
    | inr ok ↦ elim (k.sure ok.0) [
      | inl spent ↦ inl spent
      | inr more ↦ inr (more.0, (more.1.0 ∙ ok.1.0, more.1.1))
    ]
  ];
}

-- a call on one LEB
pub others_works : (a b : VolumeState) (lnum : ℕ) (P : List ℕ → Type 0) → WorksOn a b lnum P → AreOthersSame lnum (lnum + 1) a b
others_works a b lnum P works k out = IsSameLeb-works a b lnum k P (elim out [ inl lt ↦ λ e. absurd (omega (arith, e, lt)) | inr up ↦ λ e. absurd (omega (arith, e, up)) ]) works

-- nothing went wrong so far
abbrev pub IsWell : ℕ → ℕ → VolumeState → VolumeState → Type 0
IsWell first last a b = IsLayingAnswered {T = ℕ} first last a b (Ok 0)

-- the exit of a `?`
pub exit_answered : {T : Type 0} (first last : ℕ) (a b : VolumeState) (fault : AreaFault) (r : Result T AreaFault) → IsErrAnd r (λ y. y ≡ fault) → IsLayingAnswered {T = T} first last a b (Err fault) → IsLayingAnswered first last a b r
exit_answered first last a b fault (Ok x) e h = absurd e
exit_answered {T = T} first last a b fault (Err y) e h = let P : AreaFault → Type 0 = λ f. IsLayingAnswered {T = T} first last a b (Err f) in subst P (sym e) h

-- the geometry stays that of the volume
pub geometry_kept : (geo : RawGeometry) (a b : VolumeState) → IsGeometryOf geo a → SameShape a b → IsGeometryOf geo b
geometry_kept geo a b of shape =
    let count = shape.leb_cnt in
    let most = of.leb_cnt in
    record { leb_size = of.leb_size ∙ sym shape.leb_size; min_io = of.min_io ∙ sym shape.min_io; leb_cnt = omega (arith, count, most) }
