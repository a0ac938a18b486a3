use Rattle.std.proofs.Common.{◌≡◌, Some, Option, sym, ap, subst, ◌∙◌}
use Rattle.std.specs.Prelude.{IfOk}
use Rattle.fs_model.specs.declared.inode.Inode.{Inode}
use Rattle.buffered_files.proofs.Reading.{seen_kept, seen_below}
use Rattle.buffered_files.proofs.reads.inode.Goals as goal

pub returns-in_ok-copy_of-in-Some-clause-found : goal.returns-in_ok-copy_of-in-Some-clause-found
returns-in_ok-copy_of-in-Some-clause-found g c =
    ap (λ (i : Inode). Some i) c.in_ok-copy_of-in-Some.ensures ∙ sym (seen_kept (g.B.Backing.state c.args.backing.now).tree c.args.kept.now c.args.ino c.in-Some.inode.now c.requires (sym c.in-Some.ensures))

pub returns-in-None-clause-found : goal.returns-in-None-clause-found
returns-in-None-clause-found g c =
    let P : Option Inode → Type 0 = λ seen. IfOk c.inode.result (λ found. found ≡ seen) in
    subst P (sym (seen_below (g.B.Backing.state c.args.backing.now).tree c.args.kept.now c.args.ino c.requires (sym c.in-None.ensures))) c.inode.ensures.found
