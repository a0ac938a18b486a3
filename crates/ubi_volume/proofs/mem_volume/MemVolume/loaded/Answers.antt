use Rattle.ubi_volume.proofs.LoadedLebs.{loaded-sizes, loaded-state, final_lebs}
use Rattle.ubi_volume.proofs.mem_volume.MemVolume.loaded.Goals as goal

pub invariant_of-result : goal.invariant_of-result
invariant_of-result c = record {
  shape_ok = c.requires;
  all = c.in_ok-lebs.ensures.len;
  sizes = loaded-sizes c.args.shape.leb_size c.args.shape.min_io c.args.bytes.now c.in_ok-lebs.lebs.items c.in_ok-lebs.ensures.loaded;
}

pub returns-clause-loaded : goal.returns-clause-loaded
returns-clause-loaded c =
    let lebs = c.in_ok-lebs.lebs in
    let loaded = c.in_ok-lebs.ensures.loaded in
    let sizes = loaded-sizes c.args.shape.leb_size c.args.shape.min_io c.args.bytes.now lebs.items loaded in
    loaded-state (record { shape = c.args.shape; lebs = lebs; arming = c.new.result; shape_ok = c.requires; all = c.in_ok-lebs.ensures.len; sizes = sizes }) c.args.bytes.now c.new.ensures loaded

pub returns-clause-no_past : goal.returns-clause-no_past
returns-clause-no_past c =
    let lebs = c.in_ok-lebs.lebs.items in
    final_lebs lebs c.new.result c.new.ensures (λ k leb there. (c.in_ok-lebs.ensures.loaded.each k leb there).undo)
