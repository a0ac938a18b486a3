use Rattle.std.proofs.Common.{◌+◌, ◌<◌, ◌^◌, subst, sym, ◌∙◌}
use Rattle.std.specs.Prelude.{sum_by}
use Rattle.fs_model.specs.Cover.{entry_bytes}
use Rattle.vfs_plans.proofs.Sizes.{dir_is_small}
use Rattle.vfs_plans.proofs.stats.of_dir.Goals as goal

pub dir_size-size-requires : goal.dir_size-size-requires
dir_size-size-requires g c =
    let state = g.B.Backing.state c.args.backing.now in
    let small = g.met.B.Backing.small c.args.backing.now c.requires.kept.proper in
    let few = dir_is_small state.tree c.args.ino state.space.used (g.met.B.Backing.used c.args.backing.now) small.used in
    subst (λ es. 160 + sum_by entry_bytes es < 2 ^ 64) (sym (c.deref.ensures.value ∙ c.in_ok-entries.ensures.found)) few
