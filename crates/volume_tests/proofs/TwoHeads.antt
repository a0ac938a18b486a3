-- Two heads of a blank volume in memory.
use Rattle.std.proofs.Common.{◌≡◌, ℕ, ◌%◌, ◌<◌, sym, subst, ◌∙◌, inl, inr, arith}
use Rattle.std.proofs.lemmas.Option.{none-some}
use Rattle.ubi_volume.specs.MemVolume.{IsBlank}
use Rattle.ubi_volume.specs.Volume.{VolumeState}
use Rattle.ubi_volume.specs.declared.mem_volume.VolShape.{VolShape}
use Rattle.journal_heads.specs.declared.heads.Heads.{Heads}
use Rattle.journal_heads.specs.Heads.{AreOpen, IsEmptyLeb, IsFree, attached, fresh}
use Rattle.journal_heads.specs.HeadLaws.{AreOpen-attached, AreOpen-fresh, IsOn-attached, buffer_of-fresh}

-- each LEB of it is empty
pub blank_empty : (shape : VolShape) (state : VolumeState) (unit lnum : ℕ) → IsBlank shape state → unit ≡ shape.min_io → shape.leb_size % shape.min_io ≡ 0 → lnum < shape.leb_cnt → IsEmptyLeb state unit lnum
blank_empty shape state unit lnum is same whole inside =
    let count = is.leb_cnt in
    record {
      inside = omega (arith, count, inside);
      unit_is = same ∙ sym is.min_io;
      units = rw (is.leb_size, is.min_io) whole;
      written = is.written lnum;
      settled = is.left lnum;
    }

fresh_free : (unit size lnum : ℕ) → IsFree (fresh unit size) lnum
fresh_free unit size lnum = λ head on. none-some lnum (sym (buffer_of-fresh unit size head).0 ∙ on)

-- heads 1 and 2, turned to LEBs 2 and 0
pub two_open : (state : VolumeState) (unit size : ℕ) (heads : Heads) → heads ≡ attached (attached (fresh unit size) 1 2) 2 0 → size ≡ state.leb_size → IsEmptyLeb state unit 2 → IsEmptyLeb state unit 0 → AreOpen state heads
two_open state unit size heads same whole second first =
    let P : Heads → Type 0 = λ h. AreOpen state h in
    let one = AreOpen-attached state (fresh unit size) 1 2 (omega arith) (AreOpen-fresh state unit size whole) (fresh_free unit size 2) second in
    let free : IsFree (attached (fresh unit size) 1 2) 0 = λ head on. elim (IsOn-attached (fresh unit size) 1 2 head 0 (omega arith) on) [
      | inl (here, same_leb) ↦ absurd (omega (arith, same_leb))
      | inr (there, before) ↦ fresh_free unit size 0 head before
    ] in
    subst P (sym same) (AreOpen-attached state (attached (fresh unit size) 1 2) 2 0 (omega arith) one free first)
