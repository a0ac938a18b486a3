use Rattle.std.proofs.Common.{◌≡◌, arith, ap, sym, ◌∙◌, ◌+◌, ◌*◌}
use Rattle.std.specs.List.{flat_map}
use Rattle.ubifs_base.specs.RawOf.{raw_of}
use Rattle.ubifs_base.specs.Properties.{node_head_bits, bytes_for}
use Rattle.media_lpt.specs.Nodes.{lnum_bits, lnum_fields}
use Rattle.media_lpt.specs.Packed.{bits_len}
use Rattle.media_lpt.specs.PackedLaws.{put-packed}
use Rattle.media_lpt.proofs.FrameLemmas.{still_open}
use Rattle.media_lpt.proofs.TableLemmas.{bits_len-lnums}
use Rattle.media_lpt.proofs.lsave.encode_lnums.Goals as goal

pub put_lnums-requires-clause-near : goal.put_lnums-requires-clause-near
put_lnums-requires-clause-near c = omega (arith, c.requires.table.whole)

pub seal-requires-clause-open : goal.seal-requires-clause-open
seal-requires-clause-open c = still_open c.start.new.out c.put_lnums.new.out 3 (flat_map (lnum_fields (raw_of c.args.geo.now)) c.args.lnums.now) c.start.ensures.number c.put_lnums.ensures

pub returns : goal.returns
returns c =
    let geo = raw_of c.args.geo.now in
    let fields = flat_map (lnum_fields geo) c.args.lnums.now in
    let len : node_head_bits + geo.lsave_cnt * lnum_bits geo ≡ node_head_bits + bits_len fields = ap (λ n. node_head_bits + n) (sym (bits_len-lnums geo c.args.lnums.now c.requires.table.whole)) in
    record {
      is = c.requires.table;
      packed = put-packed c.start.new.out c.put_lnums.new.out c.seal.new.out 3 fields c.start.ensures.number c.put_lnums.ensures c.seal.ensures.sum
          (c.seal.ensures.len ∙ c.put_lnums.ensures.same_len ∙ c.start.ensures.len ∙ c.requires.room ∙ ap bytes_for len);
    }
