-- What a group keeps, from what is said by look-ups.
use Rattle.std.proofs.Common.{◌≡◌, ℕ, ◌≤◌, true, List, [], ◌∷◌, Some, refl, sym, ap, ◌∙◌, arith}
use Rattle.std.specs.Prelude.{sum_by}
use Rattle.std.specs.List.{list_all}
use Rattle.std.specs.BTreeMap.{insert_entry}
use Rattle.std.specs.Ordering.{nat_cmp}
use Rattle.std.proofs.lemmas.Bool.{and_from}
use Rattle.fs_model.specs.declared.change.Change.{Change}
use Rattle.fs_model.specs.declared.change.Change.TheVariants.{SetInode}
use Rattle.fs_model.specs.declared.inode.Inode.{Inode}
use Rattle.fs_model.specs.declared.inode.Kind.TheVariants.{File}
use Rattle.fs_model.specs.Backing.{is_node}
use Rattle.fs_model.specs.Change.{apply, applied}
use Rattle.fs_model.specs.declared.share.Share.{Share}
use Rattle.fs_model.specs.Directory.{counted}
use Rattle.fs_model.specs.Files.{Tree, Files, inode_at}
use Rattle.fs_model.specs.Making.{touching, touched}
use Rattle.fs_model.specs.Need.{change_bytes}
use Rattle.fs_model.specs.Orphan.{revives_none, all_revive_none, all_drop_named}
use Rattle.fs_model.specs.Proper.{IsProper, is_inode_node}
use Rattle.fs_laws.specs.Sound.{IsSound, KeepsSound}
use Rattle.fs_laws.proofs.Climb.{proper_of}
use Rattle.fs_laws.proofs.Linked.{are_linked, linked_same}
use Rattle.fs_laws.proofs.Local.{local_of, local_group}
use Rattle.fs_laws.specs.Maps.{all_at, all_weaken}
use Rattle.fs_laws.specs.Orders.{numbers}
use Rattle.fs_laws.proofs.Rel.{Rel, rel_of, kind_is}
use Rattle.fs_laws.proofs.Revives.{kept_revives}
use Rattle.fs_laws.proofs.Sizes.{cap, group_within}
use Rattle.fs_laws.proofs.Steps.{KeepsKinds, keeps_kinds, rel_touched, some_same}

-- directories keep their links
abbrev pub KeepsLinks : Tree → List Change → Type 0
KeepsLinks tree group = are_linked tree.inodes ≡ true → are_linked (apply tree group).inodes ≡ true

pub bytes_few : (files : Files) (group : List Change) → IsSound files → list_all is_node group ≡ true → sum_by cap group ≤ 5280 → sum_by (change_bytes files.tree) group ≤ 5280
bytes_few files group sound nodes few = let within = group_within files.tree group sound.proper.inode_nodes nodes in omega (arith, few, within)

-- a group that takes no inode away
pub keeps_sound : (files : Files) (group : List Change) → IsSound files → list_all is_node group ≡ true → all_revive_none files.tree group ≡ true → all_drop_named files.tree group ≡ true → sum_by cap group ≤ 5280 → Rel (apply files.tree group).inodes (apply files.tree group).entries → KeepsKinds files.tree.inodes (apply files.tree group).inodes → KeepsLinks files.tree group → KeepsSound files group
keeps_sound files group sound nodes revives drops few rel keeps linked = record {
  revives_none = revives;
  drops = drops;
  nodes = nodes;
  limit = bytes_few files group sound nodes few;
  proper = proper_of (apply files.tree group) (local_group group files.tree nodes (local_of files.tree sound.proper)) rel (linked sound.proper.linked);
  handles = all_weaken (λ handle. kind_is files.tree.inodes handle.1 File) (λ handle. kind_is (apply files.tree group).inodes handle.1 File) (λ handle t. keeps handle.1 File t) files.handles sound.handles;
}

pub keeps_nothing : (files : Files) → IsSound files → KeepsSound files []
keeps_nothing files sound = record { revives_none = refl; drops = refl; nodes = refl; limit = omega arith; proper = sound.proper; handles = sound.handles }

pub node_at : (tree : Tree) → IsProper tree → (ino : ℕ) (i : Inode) → inode_at tree ino ≡ Some i → is_inode_node (ino, i) ≡ true
node_at tree proper ino i f = all_at nat_cmp numbers is_inode_node tree.inodes ino i proper.inode_nodes f

pub touching_is : (tree : Tree) (dir now : ℕ) (came gone : Share) (i : Inode) → inode_at tree dir ≡ Some i → touching tree dir now came gone ≡ SetInode dir (touched now (counted came gone i)) ∷ []
touching_is tree dir now came gone i f = rw f refl

-- one inode that is set with its kind and links as they were
pub set_keeps : (files : Files) (ino : ℕ) (old new : Inode) (rest : List Change) → IsSound files → inode_at files.tree ino ≡ Some old → new.kind ≡ old.kind → new.nlink ≡ old.nlink → is_inode_node (ino, new) ≡ true → list_all is_node rest ≡ true → all_revive_none (applied files.tree (SetInode ino new)) rest ≡ true → all_drop_named (applied files.tree (SetInode ino new)) rest ≡ true → sum_by cap (SetInode ino new ∷ rest) ≤ 5280
    → (apply files.tree (SetInode ino new ∷ rest)).inodes ≡ insert_entry nat_cmp files.tree.inodes ino new → (apply files.tree (SetInode ino new ∷ rest)).entries ≡ files.tree.entries → KeepsSound files (SetInode ino new ∷ rest)
set_keeps files ino old new rest sound f kind nlink node nodes revives drops few inodes entries =
    let rel = rel_touched files.tree.inodes files.tree.entries ino old new f kind (λ d. nlink) (rel_of files.tree sound.proper) in
    let keeps = keeps_kinds files.tree.inodes ino new (λ o g. kind ∙ ap (λ (i : Inode). i.kind) (some_same (sym f ∙ g))) in
    keeps_sound files (SetInode ino new ∷ rest) sound (and_from (is_inode_node (ino, new)) (list_all is_node rest) node nodes) (and_from (revives_none files.tree (SetInode ino new)) (all_revive_none (applied files.tree (SetInode ino new)) rest) (kept_revives files.tree ino old new f nlink) revives) drops few (rw (inodes, entries) rel) (rw inodes keeps) (λ h. rw inodes (linked_same files.tree.inodes ino old new f kind nlink h))
