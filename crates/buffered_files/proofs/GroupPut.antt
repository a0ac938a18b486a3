-- A group that was put and followed, after which credits were given back.
use Rattle.std.proofs.Common.{◌≡◌, ℕ, ◌<◌, ◌⊎◌, inl, inr, List, [], ◌∷◌, Some, sym, ap, subst, ◌∙◌, arith}
use Rattle.std.specs.Prelude.{filter}
use Rattle.std.specs.Map.{lookup}
use Rattle.std.specs.BTreeMap.{is_at}
use Rattle.std.specs.Ordering.{nat_cmp}
use Rattle.fs_model.specs.declared.change.Change.{Change}
use Rattle.fs_model.specs.declared.change.Change.TheVariants.{SetInode, SetEntry, DropEntry, SetBlock, CutBlocks, DropInode}
use Rattle.fs_model.specs.declared.inode.Inode.{Inode}
use Rattle.fs_model.specs.declared.space.Grant.{Grant}
use Rattle.fs_model.specs.Backing.{BackingState, FitsGroup, Goes, IsGroupPut, given_back}
use Rattle.fs_model.specs.Change.{apply}
use Rattle.fs_model.specs.Files.{Tree, inode_at}
use Rattle.fs_model.specs.Path.{is_dir}
use Rattle.buffered_files.specs.declared.kept.Kept.{Kept}
use Rattle.buffered_files.specs.Follow.{followed, is_of_inode, KeepsSize, IsOfNames, AreOfNames}
use Rattle.buffered_files.specs.Present.{covered, present, IsKept}
use Rattle.buffered_files.proofs.Following.{IsSized, IsOfKept, AreOfKept, followed_inodes, followed_is, fits_of, kept_of}
use Rattle.buffered_files.proofs.Putting.{numbered}
use Rattle.buffered_files.proofs.Reading.{seen_kept}

-- a change of what callers see leaves the kind and the size of what is kept
of_kept : (tree : Tree) (kept : Kept) (change : Change) → IsKept tree kept → IsOfNames (present tree kept).tree change → IsOfKept kept change
of_kept tree kept (SetInode ino inode) is names = λ old found. by old found (seen_kept tree kept ino old is found) names
  where
    by : (old : Inode) → lookup (is_at (nat_cmp ino)) kept.inodes ≡ Some old → inode_at (present tree kept).tree ino ≡ Some old
        → ((seen : Inode) × (inode_at (present tree kept).tree ino ≡ Some seen) × KeepsSize seen inode) ⊎ (tree.highest < ino) → IsSized old inode
    by old found seen (inl there) =
        let both : Some there.0 ≡ Some old = sym there.1 ∙ seen in
        let same : there.0 ≡ old = cc both in
        let keeps = subst (λ i. KeepsSize i inode) same there.2 in
        record { kind = keeps.kind; size = keeps.size (ap is_dir (is.inodes ino old found).kind) }
    by old found seen (inr new) =
        let below = is.inodes ino old found in
        let low = numbered tree ino below.below.0 is.proper below.below.1 in
        absurd (omega (arith, low, new))
of_kept tree kept (SetEntry entry) is names = tt
of_kept tree kept (DropEntry dir name) is names = tt
of_kept tree kept (SetBlock ino block bytes) is names = names
of_kept tree kept (CutBlocks ino old_size new_size) is names = names
of_kept tree kept (DropInode ino) is names = tt

all_of_kept : (tree : Tree) (kept : Kept) (group : List Change) → IsKept tree kept → AreOfNames (present tree kept).tree group → AreOfKept kept group
all_of_kept tree kept [] is all = all
all_of_kept tree kept (change ∷ group) is all = (of_kept tree kept change is all.0, all_of_kept tree kept group is all.1)

-- what is kept fits, and callers see the group's changes and no others
pub record GroupPut (old new : Tree) (kept after : Kept) (group : List Change) : Type 0 where
  pub fits : IsKept new after
  pub seen : present new after ≡ record (present old kept) { tree = apply (present old kept).tree group }

tree_put : (tree : Tree) (kept : Kept) (group : List Change) (grant : Grant) → IsKept tree kept → AreOfNames (present tree kept).tree group → FitsGroup tree grant group → GroupPut tree (apply tree group) kept (followed kept group) group
tree_put tree kept group grant is names fits =
    let it = followed_is group tree kept (fits_of tree kept is) fits.are_nodes (all_of_kept tree kept group is names) in
    record {
      fits = kept_of (apply tree group) (followed kept group) fits.proper it.fits;
      seen = ap (λ z. record { tree = z; handles = (followed kept group).handles }) it.seen ∙ ap (λ z. record { tree = apply (covered tree kept.inodes kept.pages.dirty) group; handles = z }) it.handles;
    }

pub group_put : (old put new : BackingState) (kept after : Kept) (group copies : List Change) (grant : Grant) (credits : ℕ) → IsKept old.tree kept → AreOfNames (present old.tree kept).tree group → FitsGroup old.tree grant group → IsGroupPut old put group
    → copies ≡ filter is_of_inode group → after ≡ followed kept copies → new ≡ given_back put credits → GroupPut old.tree new.tree kept after group
group_put old put new kept after group copies grant credits is names fits made copied follow given =
    let tree : new.tree ≡ apply old.tree group = ap (λ s. s.tree) given ∙ made.tree in
    let whole : after ≡ followed kept group = follow ∙ ap (λ c. followed kept c) copied ∙ followed_inodes group kept in
    subst (λ t. GroupPut old.tree t kept after group) (sym tree)
    (subst (λ k. GroupPut old.tree (apply old.tree group) kept k group) (sym whole) (tree_put old.tree kept group grant is names fits))

-- to give credits back puts nothing
pub goes_given : (nodes : ℕ) (old put new : BackingState) (credits : ℕ) → Goes nodes old put → new ≡ given_back put credits → Goes nodes old new
goes_given nodes old put new credits goes given = subst (λ s. Goes nodes old s) (sym given) record {
  geometry = goes.geometry;
  orphan_limit = goes.orphan_limit;
  mode = goes.mode;
  faults = goes.faults;
  weight = goes.weight;
  index = goes.index;
  nodes_put = goes.nodes_put;
  told = goes.told;
}
