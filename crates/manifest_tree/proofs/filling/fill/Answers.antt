use Rattle.std.proofs.Common.{◌≡◌, ◌+◌, ◌/◌, arith, rules}
use Rattle.manifest_tree.specs.ManifestTree.{with_copies, with_copies_page}
use Rattle.manifest_tree.proofs.Pages.{pages_go}
use Rattle.manifest_tree.proofs.filling.fill.Goals as goal

pub loop-page-preserved : goal.loop-page-preserved
loop-page-preserved c =
    let put : c.put_page.new.tree ≡ with_copies_page c.args.ino c.args.mode c.args.len c.args.byte c.loop-page.tree c.loop-page.page = search rules in
    record {
      filled = pages_go (with_copies_page c.args.ino c.args.mode c.args.len c.args.byte) c.loop-page.tree c.put_page.new.tree (with_copies c.args.ino c.args.mode c.args.len c.args.byte c.args.tree.now) c.loop-page.page ((c.args.len + 4095) / 4096) (omega arith) put c.loop-page.invariant.filled;
      proper = c.put_page.ensures.proper;
    }
