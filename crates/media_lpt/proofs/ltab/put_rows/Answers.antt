use Rattle.std.proofs.Common.{◌≡◌, arith, refl, ◌+◌, ◌*◌, ℕ, subst, sym, ◌∙◌, ap}
use Rattle.ubifs_base.specs.Properties.{fls}
use Rattle.ubifs_base.specs.RawOf.{raw_of}
use Rattle.media_lpt.specs.Nodes.{row_fields}
use Rattle.media_lpt.specs.Packed.{IsFree}
use Rattle.media_lpt.specs.PackedLaws.{IsPut-none, AllFit-item}
use Rattle.media_lpt.proofs.ItemLemmas.{put_step, next_place}
use Rattle.media_lpt.proofs.TableLemmas.{bits_len-row}
use Rattle.media_lpt.proofs.ltab.put_rows.Goals as goal

pub loop-row-init : goal.loop-row-init
loop-row-init c = record { put = IsPut-none c.args.out.now 20; free = c.requires.free; place = omega arith; long = refl }

pub put-requires-clause-fits : goal.put-requires-clause-fits
put-requires-clause-fits c = AllFit-item (row_fields (raw_of c.args.geo.now)) c.args.rows.now c.loop-row.row-index _ c.loop-row-test.true c.requires.fits

pub loop-row-preserved : goal.loop-row-preserved
loop-row-preserved c =
    let width : 2 * c.row_space.result ≡ 2 * fls c.args.geo.now.leb_size = ap (λ n. 2 * n) c.row_space.ensures.number in
    let before = c.loop-row.invariant in
    record {
      put = put_step (row_fields (raw_of c.args.geo.now)) (2 * c.row_space.result) c.args.rows.now c.loop-row.row-index _ c.args.out.now c.loop-row.out c.put.new.out 20 c.loop-row.at
          (λ p. bits_len-row (raw_of c.args.geo.now) p ∙ sym width) c.loop-row-test.true before.place before.put c.put.ensures.put;
      free = (let P : ℕ → Type 0 = λ n. IsFree c.put.new.out (c.loop-row.at + n) in subst P (sym width) c.put.ensures.free);
      place = next_place 20 c.loop-row.row-index (2 * c.row_space.result) c.loop-row.at before.place;
      long = c.put.ensures.put.same_len ∙ before.long;
    }
