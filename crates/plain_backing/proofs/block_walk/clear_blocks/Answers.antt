use Rattle.std.proofs.Common.{◌+◌, ap, ◌∙◌}
use Rattle.std.specs.Prelude.{sum_by}
use Rattle.std.specs.Map.{keys_of, values_of}
use Rattle.fs_model.specs.Cover.{block_bytes}
use Rattle.plain_backing.specs.BlockWalk.{is_block_cut}
use Rattle.plain_backing.specs.Cells.{seen_cells}
use Rattle.plain_backing.proofs.Seen.{seen-cleared, keys-cleared}
use Rattle.plain_backing.proofs.block_walk.clear_blocks.Goals as goal

pub returns : goal.returns
returns c =
    let test = is_block_cut c.args.ino c.args.size in
    let cut = ap seen_cells c.empty_cells.ensures ∙ seen-cleared test c.args.map.now.entries in
    record {
      cut = cut;
      keys = ap keys_of c.empty_cells.ensures ∙ keys-cleared test c.args.map.now.entries;
      freed = ap (λ es. sum_by block_bytes (values_of es) + c.cut_bytes-freed.result) cut ∙ c.cut_bytes-freed.ensures;
    }
