use Rattle.std.proofs.Common.{◌≡◌, arith, refl, ◌+◌, ℕ, subst, sym, ◌∙◌, ap}
use Rattle.ubifs_base.specs.Properties.{place_lnum_bits}
use Rattle.ubifs_base.specs.RawOf.{raw_of}
use Rattle.media_lpt.specs.Nodes.{place_fields, IsPlace}
use Rattle.media_lpt.specs.Packed.{IsFree}
use Rattle.media_lpt.specs.PackedLaws.{IsPut-none, AllFit-item}
use Rattle.media_lpt.proofs.ItemLemmas.{put_step, next_place, all_item}
use Rattle.media_lpt.proofs.NodeLemmas.{bits_len-place}
use Rattle.media_lpt.proofs.nnode.put_places.Goals as goal

pub loop-place-init : goal.loop-place-init
loop-place-init c = record { put = IsPut-none c.args.out.now c.args.bit; free = c.requires.free; place = omega arith; long = refl }

pub put-requires-clause-fits : goal.put-requires-clause-fits
put-requires-clause-fits c = AllFit-item (place_fields (raw_of c.args.geo.now)) c.args.places.now c.loop-place.place-index _ c.loop-place-test.true c.requires.fits

pub put-requires-clause-place : goal.put-requires-clause-place
put-requires-clause-place c = all_item (IsPlace (raw_of c.args.geo.now)) c.args.places.now c.loop-place.place-index _ c.loop-place-test.true c.requires.places

pub loop-place-preserved : goal.loop-place-preserved
loop-place-preserved c =
    let width : c.place_lnum.result + c.place_offs.result ≡ _ = ap (λ n. n + c.place_offs.result) c.place_lnum.ensures.number ∙ ap (λ n. place_lnum_bits (raw_of c.args.geo.now) + n) c.place_offs.ensures.number in
    let before = c.loop-place.invariant in
    record {
      put = put_step (place_fields (raw_of c.args.geo.now)) (c.place_lnum.result + c.place_offs.result) c.args.places.now c.loop-place.place-index _ c.args.out.now c.loop-place.out c.put.new.out c.args.bit c.loop-place.at
          (λ p. bits_len-place (raw_of c.args.geo.now) p ∙ sym width) c.loop-place-test.true before.place before.put c.put.ensures.put;
      free = (let P : ℕ → Type 0 = λ n. IsFree c.put.new.out (c.loop-place.at + n) in subst P (sym width) c.put.ensures.free);
      place = next_place c.args.bit c.loop-place.place-index (c.place_lnum.result + c.place_offs.result) c.loop-place.at before.place;
      long = c.put.ensures.put.same_len ∙ before.long;
    }
