use Rattle.std.proofs.Common.{◌≡◌, ◌+◌, ◌/◌, arith, length, rules}
use Rattle.manifest_tree.specs.CopiedFiles.{with_bytes, with_bytes_page}
use Rattle.manifest_tree.proofs.Pages.{pages_go}
use Rattle.manifest_tree.proofs.file_bytes.fill_bytes.Goals as goal

pub loop-page-preserved : goal.loop-page-preserved
loop-page-preserved c =
    let put : c.put_bytes.new.tree ≡ with_bytes_page c.args.ino c.args.bytes.now c.loop-page.tree c.loop-page.page = search rules in
    record {
      filled = pages_go (with_bytes_page c.args.ino c.args.bytes.now) c.loop-page.tree c.put_bytes.new.tree (with_bytes c.args.ino c.args.bytes.now c.args.tree.now) c.loop-page.page ((length c.args.bytes.now + 4095) / 4096) (omega arith) put c.loop-page.invariant.filled;
      proper = c.put_bytes.ensures.proper;
    }
