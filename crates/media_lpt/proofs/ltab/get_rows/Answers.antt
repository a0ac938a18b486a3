use Rattle.std.proofs.Common.{arith, ◌+◌, ◌*◌, ◌∷◌, [], List, subst, sym, ◌∙◌, ap, length, length-append}
use Rattle.std.specs.List.{flat_map}
use Rattle.ubifs_base.specs.RawOf.{raw_of}
use Rattle.media_lpt.specs.declared.ltab.LptRow.{LptRow}
use Rattle.media_lpt.specs.Nodes.{row_fields}
use Rattle.media_lpt.specs.Packed.{IsAt}
use Rattle.media_lpt.specs.PackedLaws.{IsAt-none}
use Rattle.media_lpt.proofs.ItemLemmas.{at_step, next_place}
use Rattle.media_lpt.proofs.TableLemmas.{bits_len-row}
use Rattle.media_lpt.proofs.ltab.get_rows.Goals as goal

pub loop-row-init : goal.loop-row-init
loop-row-init c =
    let P : List LptRow → Type 0 = λ rows. IsAt c.args.bytes.now 20 (flat_map (row_fields (raw_of c.args.geo.now)) rows) in
    record { at = subst P (sym c.new-rows.ensures.items) (IsAt-none c.args.bytes.now 20); place = omega arith; count = ap length c.new-rows.ensures.items }

pub loop-row-preserved : goal.loop-row-preserved
loop-row-preserved c =
    let step = 2 * c.row_space.result in
    let before = c.loop-row.invariant in
    let P : List LptRow → Type 0 = λ rows. IsAt c.args.bytes.now 20 (flat_map (row_fields (raw_of c.args.geo.now)) rows) in
    record {
      at = subst P (sym c.in_ok-push.ensures.items) (at_step (row_fields (raw_of c.args.geo.now)) step c.args.bytes.now 20 c.loop-row.at c.loop-row.rows.items c.get.result
          (λ row. bits_len-row (raw_of c.args.geo.now) row ∙ ap (λ n. 2 * n) (sym c.row_space.ensures.number)) (before.place ∙ ap (λ n. 20 + n * step) (sym before.count)) before.at c.get.ensures);
      place = next_place 20 c.loop-row._row step c.loop-row.at before.place;
      count = ap length c.in_ok-push.ensures.items ∙ length-append c.loop-row.rows.items (c.get.result ∷ []) ∙ ap (λ n. n + 1) before.count;
    }
