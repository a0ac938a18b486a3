use Rattle.std.proofs.Common.{sym, subst, arith}
use Rattle.fs_model.specs.Files.{Tree}
use Rattle.buffered_files.specs.Present.{IsKept}
use Rattle.buffered_files.specs.CallLaws.{Goes-then}
use Rattle.buffered_files.proofs.Reading.{Reads-tree}
use Rattle.buffered_files.proofs.Written.{pages_begin, pages_more, pages_end}
use Rattle.buffered_files.proofs.written_pages.written_pages.Goals as goal

pub loop-page-init : goal.loop-page-init
loop-page-init g c = pages_begin (g.B.Backing.outlook c.args.backing.now) (g.B.Backing.state c.args.backing.now) c.args.kept.now c.args.ino c.args.offs c.args.n c.args.byte c.new-pages.result.items c.requires.some c.new-pages.ensures.items

pub written_page-requires-clause-kept : goal.written_page-requires-clause-kept
written_page-requires-clause-kept g c =
    let P : Tree → Type 0 = λ tree. IsKept tree c.args.kept.now in
    subst P (sym (Reads-tree (g.B.Backing.state c.args.backing.now) (g.B.Backing.state c.loop-page.backing) c.loop-page.invariant.reads)) c.requires.kept

pub loop-page-preserved : goal.loop-page-preserved
loop-page-preserved g c =
    pages_more (g.B.Backing.outlook c.args.backing.now) (g.B.Backing.outlook c.loop-page.backing) (g.B.Backing.outlook c.written_page.new.backing)
    (g.B.Backing.state c.args.backing.now) (g.B.Backing.state c.loop-page.backing) (g.B.Backing.state c.written_page.new.backing) c.args.kept.now c.args.ino c.args.offs c.args.n c.args.byte c.loop-page.page _ c.loop-page.pages.items c.add_page.new.pages.items c.in_ok-bytes.bytes
    c.loop-page.invariant (omega arith) c.in_ok-bytes.ensures.bytes c.in_ok-add_page.ensures c.written_page.ensures.reads c.written_page.ensures.goes c.written_page.ensures.sure

pub returns-clause-pages : goal.returns-clause-pages
returns-clause-pages g c =
    pages_end (g.B.Backing.outlook c.args.backing.now) (g.B.Backing.outlook c.loop-page.backing) (g.B.Backing.state c.args.backing.now) (g.B.Backing.state c.loop-page.backing) c.args.kept.now c.args.ino c.args.offs c.args.n c.args.byte c.loop-page.page _ c.loop-page.pages.items c.loop-page.invariant (omega arith)

pub returns-in_err-bytes-clause-goes : goal.returns-in_err-bytes-clause-goes
returns-in_err-bytes-clause-goes g c =
    Goes-then 0 0 (g.B.Backing.state c.args.backing.now) (g.B.Backing.state c.loop-page.backing) (g.B.Backing.state c.written_page.new.backing) c.loop-page.invariant.goes c.written_page.ensures.goes

pub returns-in_err-add_page-clause-goes : goal.returns-in_err-add_page-clause-goes
returns-in_err-add_page-clause-goes g c =
    Goes-then 0 0 (g.B.Backing.state c.args.backing.now) (g.B.Backing.state c.loop-page.backing) (g.B.Backing.state c.written_page.new.backing) c.loop-page.invariant.goes c.written_page.ensures.goes
