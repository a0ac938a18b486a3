use Rattle.std.proofs.Common.{◌≡◌, arith, refl, ◌+◌, ◌*◌, ℕ, subst, sym, ◌∙◌, ap}
use Rattle.ubifs_base.specs.RawOf.{raw_of}
use Rattle.media_lpt.specs.Nodes.{lprop_fields}
use Rattle.media_lpt.specs.Packed.{IsFree}
use Rattle.media_lpt.specs.PackedLaws.{IsPut-none, AllFit-item}
use Rattle.media_lpt.proofs.ItemLemmas.{put_step, next_place}
use Rattle.media_lpt.proofs.NodeLemmas.{bits_len-lprop}
use Rattle.media_lpt.proofs.pnode.put_props.Goals as goal

pub loop-prop-init : goal.loop-prop-init
loop-prop-init c = record { put = IsPut-none c.args.out.now c.args.bit; free = c.requires.free; place = omega arith; long = refl }

pub put-requires-clause-fits : goal.put-requires-clause-fits
put-requires-clause-fits c = AllFit-item (lprop_fields (raw_of c.args.geo.now)) c.args.props.now c.loop-prop.prop-index _ c.loop-prop-test.true c.requires.fits

pub loop-prop-preserved : goal.loop-prop-preserved
loop-prop-preserved c =
    let width : 2 * c.space.result + 1 ≡ _ = ap (λ n. 2 * n + 1) c.space.ensures.number in
    let before = c.loop-prop.invariant in
    record {
      put = put_step (lprop_fields (raw_of c.args.geo.now)) (2 * c.space.result + 1) c.args.props.now c.loop-prop.prop-index _ c.args.out.now c.loop-prop.out c.put.new.out c.args.bit c.loop-prop.at
          (λ p. bits_len-lprop (raw_of c.args.geo.now) p ∙ sym width) c.loop-prop-test.true before.place before.put c.put.ensures.put;
      free = (let P : ℕ → Type 0 = λ n. IsFree c.put.new.out (c.loop-prop.at + n) in subst P (sym width) c.put.ensures.free);
      place = next_place c.args.bit c.loop-prop.prop-index (2 * c.space.result + 1) c.loop-prop.at before.place;
      long = c.put.ensures.put.same_len ∙ before.long;
    }
