use Rattle.std.proofs.Common.{subst}
use Rattle.std.specs.BTreeMap.{insert_entry}
use Rattle.fs_model.specs.Files.{pair_cmp}
use Rattle.fs_model.specs.Outcome.{Outcome, files_in}
use Rattle.fs_laws.specs.Sound.{IsSound}
use Rattle.buffered_files.specs.Present.{present}
use Rattle.vfs_ops.proofs.Closing.{handles_kept, handles_sound}
use Rattle.vfs_ops.proofs.States.{tree_on}
use Rattle.vfs_ops.proofs.handles.open.Goals as goal

pub returns-clause-kept : goal.returns-clause-kept
returns-clause-kept g c =
    handles_kept (g.B.Backing.state c.opened.new.backing).tree (g.B.Backing.state c.args.backing.now).tree c.args.kept.now c.insert.new.self (tree_on c.opened.ensures.looks) c.requires.kept

pub returns-clause-sound : goal.returns-clause-sound
returns-clause-sound g c =
    let tree = (g.B.Backing.state c.args.backing.now).tree in
    let kept = c.args.kept.now in
    let files = present tree kept in
    let law = c.an_opened_file_keeps_trees_proper.ensures files c.args.caller 0 c.args.path.now c.args.slot c.requires.sound in
    let sound = subst (λ (o : Outcome). IsSound (files_in files o)) c.in_ok-ino.ensures.found law.sound in
    handles_sound (g.B.Backing.state c.opened.new.backing).tree tree kept c.insert.new.self (insert_entry pair_cmp kept.handles (c.args.caller, c.args.slot) c.in_ok-ino.ino) (tree_on c.opened.ensures.looks) c.in_ok-insert.ensures.ok sound
