use Rattle.std.proofs.Common.{List, [], arith, inl, refl, subst, sym}
use Rattle.fs_model.specs.declared.change.Change.{Change}
use Rattle.fs_model.specs.declared.space.Class.TheVariants.{Ordinary}
use Rattle.vfs_ops.specs.Fs.{files_state}
use Rattle.vfs_ops.specs.Passing.{MayApply}
use Rattle.operation_tests.proofs.vfs_ops_fs_tests.nothing_put.Goals as goal

pub apply_group-requires : goal.apply_group-requires
apply_group-requires c =
    let ready = c.args.fs.now.ready in
    let none : MayApply (files_state c.args.fs.now) [] (record { credits = 0; bytes = 0; nodes = 0; class = Ordinary }) = record {
      modest = record { credits = omega arith; bytes = omega arith; nodes = omega arith };
      credits = refl;
      fits = record { are_nodes = refl; nodes = omega arith; bytes = omega arith; limit = omega arith; revives_none = refl; drops = refl; proper = ready.sound.proper };
      orphans = inl (omega arith);
      names = tt;
      sound = ready.sound;
    } in
    record { group = subst (λ (group : List Change). MayApply (files_state c.args.fs.now) group (record { credits = 0; bytes = 0; nodes = 0; class = Ordinary })) (sym c.new.ensures) none }
