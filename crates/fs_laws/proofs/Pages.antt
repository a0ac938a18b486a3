-- A page of a file that is written back.
use Rattle.std.proofs.Common.{◌≡◌, ℕ, Bool, true, false, ◌||◌, List, [], ◌∷◌, refl, sym, ap, ◌∙◌, arith}
use Rattle.std.specs.List.{list_all}
use Rattle.std.proofs.lemmas.Bool.{false≢true, and_from}
use Rattle.fs_model.specs.declared.change.Change.{Change}
use Rattle.fs_model.specs.declared.change.Change.TheVariants.{SetInode, SetBlock}
use Rattle.fs_model.specs.declared.inode.Inode.{Inode}
use Rattle.fs_model.specs.declared.inode.Kind.TheVariants.{File}
use Rattle.fs_model.specs.declared.page_node.PageNode.{PageNode}
use Rattle.fs_model.specs.Backing.{FitsPage, is_node, page_group}
use Rattle.fs_model.specs.Change.{apply}
use Rattle.fs_model.specs.Files.{Tree, Files}
use Rattle.fs_model.specs.Path.{is_empty}
use Rattle.fs_model.specs.Proper.{IsProper, same_kind, has_data, is_block_node}
use Rattle.fs_laws.specs.Sound.{IsSound, IsFilePage, KeepsSound}
use Rattle.fs_laws.proofs.Groups.{set_keeps}
use Rattle.fs_laws.proofs.InodeKinds.{same_is}
use Rattle.fs_laws.proofs.Nodes.{node_of}
use Rattle.fs_laws.proofs.Rel.{there_of}
use Rattle.fs_laws.proofs.Sizes.{cap_plain}
use Rattle.fs_laws.proofs.Truncates.{set_block_inodes}

no_extra : (i : Inode) → has_data i.kind ≡ false → (is_empty i.extra || has_data i.kind) ≡ true → i.extra ≡ []
no_extra i plain own = by i.extra (has_data i.kind) plain own
  where
    by : (extra : List ℕ) (d : Bool) → d ≡ false → (is_empty extra || d) ≡ true → extra ≡ []
    by [] d p t = refl
    by (x ∷ extra) d p t = absurd (false≢true (sym p ∙ t))

-- the inode of a page is still that of a regular file
regular : (tree : Tree) (page : PageNode) → IsFilePage tree page → same_kind page.inode.kind File ≡ true
regular tree page it = let old = there_of tree.inodes page.ino File it.file in ap (λ k. same_kind k File) (it.kind old.inode old.found) ∙ old.same

-- the inode and the block of a page
pub page_keeps : (files : Files) (page : PageNode) → IsSound files → IsFilePage files.tree page → KeepsSound files (page_group page)
page_keeps files page sound it =
    let old = there_of files.tree.inodes page.ino File it.file in
    let rest : List Change = SetBlock page.ino page.block page.bytes ∷ [] in
    let nodes : list_all is_node rest ≡ true = and_from (is_block_node ((page.ino, page.block), page.bytes)) true it.block refl in
    let same = set_block_inodes (apply files.tree (SetInode page.ino page.inode ∷ [])) page.ino page.block page.bytes in
    let plain = cap_plain page.ino page.inode File refl (regular files.tree page it) in
    set_keeps files page.ino old.inode page.inode rest sound old.found (it.kind old.inode old.found) (it.links old.inode old.found) it.inode nodes refl refl (omega (arith, plain)) same.0 same.1

pub page_fits : (tree : Tree) (page : PageNode) → IsProper tree → IsFilePage tree page → FitsPage tree page
page_fits tree page proper it =
    let keeps = page_keeps (record { tree = tree; handles = [] }) page (record { proper = proper; handles = refl }) it in
    let nothing = no_extra page.inode (ap has_data (same_is page.inode.kind File (regular tree page it))) (node_of page.ino page.inode it.inode).own in
    record { block = it.block; inode = it.inode; file = it.file; no_data = nothing; revives_none = keeps.revives_none; proper = keeps.proper }
