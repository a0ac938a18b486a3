use Rattle.std.proofs.Common.{sym, ◌∙◌}
use Rattle.std.proofs.lemmas.Bool.{eqb-false, eqb-true}
use Rattle.buffered_files.specs.PagePut.{page_at}
use Rattle.vfs_ops.specs.Background.{version_at}
use Rattle.vfs_ops.proofs.Picking.{encoded_bytes, encoded_version, encoded_yes}
use Rattle.vfs_ops.proofs.pages.is_as_picked.Goals as goal

pub returns-then-not-is_version-clause-no : goal.returns-then-not-is_version-clause-no
returns-then-not-is_version-clause-no c unlike same =
    let kept = c.args.kept.now in
    let page = c.args.page.now in
    eqb-false c.args.now page.version (sym c.is_version.ensures ∙ c.if-not-is_version.true) (c.requires ∙ encoded_version (page_at kept page.ino page.block) page (version_at kept page.ino page.block) same)

pub returns-clause-yes : goal.returns-clause-yes
returns-clause-yes c alike =
    let kept = c.args.kept.now in
    let page = c.args.page.now in
    encoded_yes (page_at kept page.ino page.block) page (version_at kept page.ino page.block) (sym c.requires ∙ eqb-true c.args.now page.version (sym c.is_version.ensures ∙ c.if-not-is_version.false)) (c.has_bytes.ensures.yes alike)

pub returns-clause-no : goal.returns-clause-no
returns-clause-no c unlike same =
    let kept = c.args.kept.now in
    let page = c.args.page.now in
    c.has_bytes.ensures.no unlike (encoded_bytes (page_at kept page.ino page.block) page (version_at kept page.ino page.block) same)
