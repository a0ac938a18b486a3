use Rattle.std.proofs.Common.{◌≡◌, ◌*◌, ◌∙◌, min, Some, arith, length, rules, [], ◌∷◌}
use Rattle.std.specs.Prelude.{OnOk, drop, take}
use Rattle.std.proofs.lemmas.Result.{on_ok_weaker}
use Rattle.fs_model.specs.declared.change.Change.TheVariants.{SetBlock, SetInode}
use Rattle.fs_model.specs.declared.inode.Kind.TheVariants.{File}
use Rattle.fs_model.specs.Change.{apply}
use Rattle.fs_model.specs.Files.{inode_at}
use Rattle.manifest_tree.specs.CopiedFiles.{bytes_page, with_bytes_page}
use Rattle.manifest_tree.proofs.BytesPages.{bytes_proper, bytes_put, given_bytes, is_bytes_page, take_few}
use Rattle.manifest_tree.proofs.Pages.{settled}
use Rattle.manifest_tree.proofs.file_bytes.put_bytes.Goals as goal

pub returns-clause-put : goal.returns-clause-put
returns-clause-put c =
    let tree = c.args.tree.now in
    let inode = c.in-Some.inode in
    let left = drop (4096 * c.args.page) c.args.bytes.now in
    let there : inode_at tree c.args.ino ≡ Some inode = search rules in
    let raw : c.in_ok-block.block ≡ take (min (length left) 4096) left = search rules in
    let put : OnOk c.apply.result (c.apply.new.self ≡ apply tree (SetInode c.args.ino (record inode { size = length c.args.bytes.now }) ∷ SetBlock c.args.ino c.args.page c.in_ok-block.block ∷ [])) = search rules in
    on_ok_weaker c.apply.result (λ e. bytes_put tree c.apply.new.self c.args.ino c.args.page inode c.args.bytes.now c.in_ok-block.block there (raw ∙ take_few left 4096) e) put

pub returns-clause-proper : goal.returns-clause-proper
returns-clause-proper c =
    let tree = c.args.tree.now in
    let inode = c.in-Some.inode in
    let bytes = c.args.bytes.now in
    let there : inode_at tree c.args.ino ≡ Some inode = search rules in
    let kind : inode.kind ≡ File = search rules in
    let fits = c.a_page_keeps_trees_proper.ensures tree (bytes_page c.args.ino inode bytes c.args.page) c.requires.proper
    (is_bytes_page tree c.args.ino c.args.page inode bytes c.requires.proper there kind (omega arith) (given_bytes bytes (λ i. omega (arith, c.type_inv.bytes i))) c.requires.few c.requires.within) in
    settled c.apply.result tree c.apply.new.self (with_bytes_page c.args.ino bytes tree c.args.page) (returns-clause-put c) c.apply.ensures.err c.requires.proper (bytes_proper tree c.args.ino c.args.page inode bytes there fits.proper)
