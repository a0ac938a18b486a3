use Rattle.std.proofs.Common.{◌≡◌, arith, refl, ◌+◌, ℕ, subst, sym, ◌∙◌}
use Rattle.ubifs_base.specs.RawOf.{raw_of}
use Rattle.media_lpt.specs.Nodes.{lnum_fields, lnum_bits}
use Rattle.media_lpt.specs.Packed.{IsFree}
use Rattle.media_lpt.specs.PackedLaws.{IsPut-none, AllFit-item}
use Rattle.media_lpt.proofs.ItemLemmas.{put_step, next_place}
use Rattle.media_lpt.proofs.TableLemmas.{bits_len-lnum}
use Rattle.media_lpt.proofs.lsave.put_lnums.Goals as goal

pub loop-lnum-init : goal.loop-lnum-init
loop-lnum-init c = record { put = IsPut-none c.args.out.now 20; free = c.requires.free; place = omega arith; long = refl }

pub put_lnum-requires-clause-fits : goal.put_lnum-requires-clause-fits
put_lnum-requires-clause-fits c = AllFit-item (lnum_fields (raw_of c.args.geo.now)) c.args.lnums.now c.loop-lnum.lnum-index _ c.loop-lnum-test.true c.requires.fits

pub loop-lnum-preserved : goal.loop-lnum-preserved
loop-lnum-preserved c =
    let width : c.lnum-step.result ≡ lnum_bits (raw_of c.args.geo.now) = c.lnum-step.ensures.number in
    let before = c.loop-lnum.invariant in
    record {
      put = put_step (lnum_fields (raw_of c.args.geo.now)) c.lnum-step.result c.args.lnums.now c.loop-lnum.lnum-index _ c.args.out.now c.loop-lnum.out c.put_lnum.new.out 20 c.loop-lnum.at
          (λ p. bits_len-lnum (raw_of c.args.geo.now) p ∙ sym width) c.loop-lnum-test.true before.place before.put c.put_lnum.ensures.put;
      free = (let P : ℕ → Type 0 = λ n. IsFree c.put_lnum.new.out (c.loop-lnum.at + n) in subst P (sym width) c.put_lnum.ensures.free);
      place = next_place 20 c.loop-lnum.lnum-index c.lnum-step.result c.loop-lnum.at before.place;
      long = c.put_lnum.ensures.put.same_len ∙ before.long;
    }
