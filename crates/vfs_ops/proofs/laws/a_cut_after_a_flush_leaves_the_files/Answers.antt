use Rattle.std.proofs.Common.{ap, subst, sym, ◌∙◌}
use Rattle.fs_model.specs.declared.backing_answers.Mode.{Mode}
use Rattle.fs_model.specs.declared.op.Op.TheVariants.{Flush}
use Rattle.fs_model.specs.declared.reply.Reply.TheVariants.{Done}
use Rattle.fs_model.specs.Orphan.{without_nameless}
use Rattle.vfs_ops.specs.Events.{HasSynced}
use Rattle.vfs_ops.proofs.laws.a_cut_after_a_flush_leaves_the_files.Goals as goal

pub returns : goal.returns
returns c old new caller now grant rest left mode fits told step may =
    let synced = subst (λ (m : Mode). HasSynced m new.backing old.kept new.kept caller Flush Done) mode step.written in
    let alone = c.a_cut_keeps_what_was_synced.ensures.now new.backing told synced.0 left may in
    let same = c.clean_files_are_those_of_the_backing.ensures new.backing.tree new.kept fits synced.1 in
    alone ∙ ap without_nameless (sym same)
