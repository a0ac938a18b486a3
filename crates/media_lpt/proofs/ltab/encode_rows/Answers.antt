use Rattle.std.proofs.Common.{◌≡◌, ap, sym, ◌∙◌, ◌+◌, ◌*◌}
use Rattle.std.specs.List.{flat_map}
use Rattle.ubifs_base.specs.RawOf.{raw_of}
use Rattle.ubifs_base.specs.Properties.{fls, node_head_bits, bytes_for}
use Rattle.media_lpt.specs.Nodes.{row_fields}
use Rattle.media_lpt.specs.Packed.{bits_len}
use Rattle.media_lpt.specs.PackedLaws.{put-packed}
use Rattle.media_lpt.proofs.FrameLemmas.{still_open}
use Rattle.media_lpt.proofs.TableLemmas.{bits_len-rows}
use Rattle.media_lpt.proofs.ltab.encode_rows.Goals as goal

pub seal-requires-clause-open : goal.seal-requires-clause-open
seal-requires-clause-open c = still_open c.start.new.out c.put_rows.new.out 2 (flat_map (row_fields (raw_of c.args.geo.now)) c.args.rows.now) c.start.ensures.number c.put_rows.ensures

pub returns : goal.returns
returns c =
    let geo = raw_of c.args.geo.now in
    let fields = flat_map (row_fields geo) c.args.rows.now in
    let len : node_head_bits + geo.lpt_lebs * (2 * fls geo.leb_size) ≡ node_head_bits + bits_len fields = ap (λ n. node_head_bits + n) (sym (bits_len-rows geo c.args.rows.now c.requires.table.whole)) in
    record {
      is = c.requires.table;
      packed = put-packed c.start.new.out c.put_rows.new.out c.seal.new.out 2 fields c.start.ensures.number c.put_rows.ensures c.seal.ensures.sum
          (c.seal.ensures.len ∙ c.put_rows.ensures.same_len ∙ c.start.ensures.len ∙ c.requires.room ∙ ap bytes_for len);
    }
