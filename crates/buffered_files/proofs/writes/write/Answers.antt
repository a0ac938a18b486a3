use Rattle.std.proofs.Common.{ap, sym, subst, ◌∙◌, arith}
use Rattle.fs_model.specs.Making.{touched}
use Rattle.fs_model.specs.Files.{Tree}
use Rattle.buffered_files.specs.Present.{IsKept, newly_dirty}
use Rattle.buffered_files.proofs.Reading.{Reads-tree}
use Rattle.buffered_files.proofs.Written.{Writing, AfterWrite, after_write, after_fault, is_written}
use Rattle.buffered_files.proofs.writes.write.Given.{Over}
use Rattle.buffered_files.proofs.writes.write.Goals as goal

pub returns-in_err-pages-clause-kept : goal.returns-in_err-pages-clause-kept
returns-in_err-pages-clause-kept g c =
    subst (λ (tree : Tree). IsKept tree c.args.kept.now) (sym (Reads-tree (g.B.Backing.state c.args.backing.now) (g.B.Backing.state c.written_pages.new.backing) c.written_pages.ensures.reads)) c.requires.kept

pub returns-in_err-keep-clause-kept : goal.returns-in_err-keep-clause-kept
returns-in_err-keep-clause-kept g c =
    let after = after_fault (g.B.Backing.state c.args.backing.now) (g.B.Backing.state c.written_pages.new.backing) c.args.kept.now c.keep.new.kept c.args.ino (newly_dirty c.args.kept.now.pages.dirty c.args.ino c.args.offs c.args.n) c.in_ok-pages.pages.items
    c.written_pages.ensures.reads c.requires.kept c.requires.paid c.in_err-keep.ensures.err c.in_err-keep.ensures.taken c.keep.ensures.handles in
    after.fits

done : (g : Over) (c : goal.In_ok-keep g) → AfterWrite (g.B.Backing.state c.args.backing.now) (g.B.Backing.state c.written_pages.new.backing) c.args.kept.now c.keep.new.kept c.args.ino c.args.inode c.args.offs c.args.n c.args.byte c.args.now
done g c =
    let tree = (g.B.Backing.state c.args.backing.now).tree in
    let w : Writing tree c.args.kept.now c.args.ino c.args.inode c.args.size c.args.offs c.args.n c.args.byte c.args.now = record {
      fits = c.requires.kept;
      once = c.dirty-dirty.ensures.cache.dirty_once;
      seen = c.requires.present;
      file = c.requires.file;
      sized = c.requires.size;
      some = c.requires.some;
      range = c.requires.range;
      low = omega arith;
      below = omega arith;
      long = omega arith;
      soon = omega arith;
    } in
    let size = ap (λ size. touched c.args.now (record c.args.inode { size = size })) c.max.ensures in
    let is = is_written tree c.args.kept.now c.keep.new.kept c.args.ino c.args.inode c.args.size c.args.offs c.args.n c.args.byte c.args.now c.written_inode-inode.result c.in_ok-pages.pages.items
    c.in_ok-keep.ensures.inodes (c.written_inode-inode.ensures ∙ size) c.in_ok-keep.ensures.pages c.in_ok-pages.ensures.pages c.keep.ensures.handles in
    after_write (g.B.Backing.state c.args.backing.now) (g.B.Backing.state c.written_pages.new.backing) c.args.kept.now c.keep.new.kept c.args.ino c.args.inode c.args.size c.args.offs c.args.n c.args.byte c.args.now
    c.written_pages.ensures.reads w c.requires.paid is

pub returns-clause-kept : goal.returns-clause-kept
returns-clause-kept g c = (done g c).fits

pub returns-clause-paid : goal.returns-clause-paid
returns-clause-paid g c = (done g c).paid

pub returns-clause-written : goal.returns-clause-written
returns-clause-written g c = (done g c).written

pub returns-clause-count : goal.returns-clause-count
returns-clause-count g c = (done g c).count
