use Rattle.std.proofs.Common.{◌≡◌, false, arith, rules, Some}
use Rattle.std.specs.Prelude.{OnOk}
use Rattle.fs_model.specs.declared.inode.Inode.{Inode}
use Rattle.fs_model.specs.declared.inode.Kind.TheVariants.{File}
use Rattle.fs_model.specs.Files.{inode_at}
use Rattle.fs_model.specs.Making.{is_bad_mode}
use Rattle.manifest_tree.specs.ManifestTree.{copies_page, with_copies_page}
use Rattle.manifest_tree.proofs.Pages.{is_file_page, settled}
use Rattle.manifest_tree.proofs.filling.put_page.Goals as goal

pub returns-clause-proper : goal.returns-clause-proper
returns-clause-proper c =
    let tree = c.args.tree.now in
    let page = copies_page c.args.ino c.args.mode c.args.len c.args.byte c.args.page in
    let single : (inode : Inode) × (inode_at tree c.args.ino ≡ Some inode) × (inode.kind ≡ File) × (inode.nlink ≡ 1) = search rules in
    let good : is_bad_mode c.args.mode ≡ false = search rules in
    let fits = c.a_page_keeps_trees_proper.ensures tree page c.requires.proper
    (is_file_page tree c.args.ino c.args.mode c.args.len c.args.byte c.args.page single.0 single.1 single.2 single.3 (λ e. omega (arith, e)) good (omega arith) c.requires.few (omega arith) c.requires.within) in
    let put : OnOk c.apply.result (c.apply.new.self ≡ with_copies_page c.args.ino c.args.mode c.args.len c.args.byte tree c.args.page) = search rules in
    settled c.apply.result tree c.apply.new.self (with_copies_page c.args.ino c.args.mode c.args.len c.args.byte tree c.args.page) put c.apply.ensures.err c.requires.proper fits.proper
