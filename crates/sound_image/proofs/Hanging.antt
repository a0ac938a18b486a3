-- The rules one by one, and the tree of a sound image.
use Rattle.std.proofs.Common.{◌≡◌, ℕ, Bool, true, false, List, [], ◌∷◌, Option, Some, None, refl}
use Rattle.std.specs.Prelude.{◌==◌, ◌&&◌, ◌||◌, not, nat_lt, if◌then◌else◌, All, length}
use Rattle.std.specs.List.{list_all}
use Rattle.std.specs.Map.{values_of}
use Rattle.std.proofs.lemmas.List.Elements.{All-nil}
use Rattle.std.proofs.lemmas.Map.Views.{All-values-insert_entry}
use Rattle.fs_model.specs.declared.change.Change.{Change}
use Rattle.fs_model.specs.declared.change.Change.TheVariants.{SetBlock, SetEntry, SetInode, DropEntry, CutBlocks, DropInode}
use Rattle.fs_model.specs.declared.inode.Entry.{Entry}
use Rattle.fs_model.specs.declared.inode.Inode.{Inode}
use Rattle.fs_model.specs.Files.{Entries, Tree, name_cmp}
use Rattle.fs_model.specs.Path.{is_dir}
use Rattle.fs_model.specs.Proper.{is_sound_dir, is_sound_entry, is_sound_inode, names_of}
use Rattle.leaf_map.specs.Kept.{Kept, shown_by}
use Rattle.leaf_map.specs.Shown.{entries_of, with_entry}
use Rattle.sound_image.specs.Image.{Image}
use Rattle.sound_image.specs.Rules.{MeetsRule}
use Rattle.sound_image.specs.Sound.{SoundImage}
use Rattle.sound_image.specs.Tree.{has_its_links, is_in_place, is_named_well}
use Rattle.sound_image.specs.declared.rule.Rule.{Rule}
use Rattle.sound_image.specs.declared.rule.Rule.TheVariants.{Superblock, Masters, Properties, Index, Log, Buds, Leaves, Sums, Ends, Orphans, Tree as OfTree, Links}
use Rattle.sound_image.proofs.Lists.{two_true}

pub meets_each : (contents : ℕ → List ℕ) (image : Image) (rule : Rule) → SoundImage contents image → MeetsRule contents image rule
meets_each contents image Superblock h = h.superblock
meets_each contents image Masters h = h.masters
meets_each contents image Properties h = h.properties
meets_each contents image Index h = h.index
meets_each contents image Log h = h.log
meets_each contents image Buds h = h.buds
meets_each contents image Leaves h = h.leaves
meets_each contents image Sums h = h.sums
meets_each contents image Ends h = h.ends
meets_each contents image Orphans h = h.orphans
meets_each contents image OfTree h = h.tree
meets_each contents image Links h = h.links

pub meets_all : (contents : ℕ → List ℕ) (image : Image) → ((rule : Rule) → MeetsRule contents image rule) → SoundImage contents image
meets_all contents image h = record {
  superblock = h Superblock;
  masters = h Masters;
  properties = h Properties;
  index = h Index;
  log = h Log;
  buds = h Buds;
  leaves = h Leaves;
  sums = h Sums;
  ends = h Ends;
  orphans = h Orphans;
  tree = h OfTree;
  links = h Links;
}

-- a test of a directory, and one of anything else
both_tests : (dir place some same : Bool) → (not dir || place) ≡ true → (dir || (some && same)) ≡ true → (if dir then place else same) ≡ true
both_tests true place some same a b = a
both_tests false place true same a b = b
both_tests false place false same a b = absurd cc

both_true : (a b : Bool) → a ≡ true → b ≡ true → (a && b) ≡ true
both_true true b h k = k
both_true false b h k = absurd cc

one_inode : (tree : Tree) (e : ℕ × Inode) → is_in_place tree e ≡ true → has_its_links tree e ≡ true → is_sound_inode tree e ≡ true
one_inode tree (ino, inode) a b = both_tests (is_dir inode.kind) (is_sound_dir tree ino) (nat_lt 0 inode.nlink) (inode.nlink == length (names_of tree ino)) a b

pub sound_inodes : (tree : Tree) (inodes : List (ℕ × Inode)) → list_all (is_in_place tree) inodes ≡ true → list_all (has_its_links tree) inodes ≡ true → list_all (is_sound_inode tree) inodes ≡ true
sound_inodes tree [] a b = refl
sound_inodes tree (e ∷ inodes) a b =
    let x = two_true (is_in_place tree e) (list_all (is_in_place tree) inodes) a in
    let y = two_true (has_its_links tree e) (list_all (has_its_links tree) inodes) b in
    both_true (is_sound_inode tree e) (list_all (is_sound_inode tree) inodes) (one_inode tree e x.0 y.0) (sound_inodes tree inodes x.1 y.1)

-- ---- entries
in_entries : (tree : Tree) (shown : Option Change) (entries : Entries) → is_named_well tree shown ≡ true → All (λ (e : Entry). is_sound_entry tree e ≡ true) (values_of entries) → All (λ (e : Entry). is_sound_entry tree e ≡ true) (values_of (with_entry shown entries))
in_entries tree None entries own h = h
in_entries tree (Some (SetEntry e)) entries own h = All-values-insert_entry name_cmp (e.dir, e.name) e (λ (x : Entry). is_sound_entry tree x ≡ true) entries h own
in_entries tree (Some (SetInode ino inode)) entries own h = h
in_entries tree (Some (SetBlock ino number bytes)) entries own h = h
in_entries tree (Some (DropEntry dir name)) entries own h = h
in_entries tree (Some (CutBlocks ino old_size new_size)) entries own h = h
in_entries tree (Some (DropInode ino)) entries own h = h

-- what leaves show soundly is sound among the entries of their tree
pub sound_entries : (tree : Tree) (kept : List Kept) → list_all (λ x. is_named_well tree (shown_by x)) kept ≡ true → All (λ (e : Entry). is_sound_entry tree e ≡ true) (values_of (entries_of kept))
sound_entries tree [] h = All-nil (λ (e : Entry). is_sound_entry tree e ≡ true)
sound_entries tree (x ∷ kept) h =
    let both = two_true (is_named_well tree (shown_by x)) (list_all (λ y. is_named_well tree (shown_by y)) kept) h in
    in_entries tree (shown_by x) (entries_of kept) both.0 (sound_entries tree kept both.1)
