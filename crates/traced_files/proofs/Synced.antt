-- What a cut leaves behind a sync of one file: the file as callers see it, all names, and each inode that isn't a file's.
use Rattle.std.proofs.Common.{◌≡◌, ◌⊎◌, inl, inr, ℕ, Bool, true, false, cond, ◌||◌, Option, Some, None, List, [], ◌∷◌, Ok, refl, sym, ap, subst, ◌∙◌}
use Rattle.std.specs.Prelude.{◌==◌, fold, not, unwrap_or}
use Rattle.std.specs.BTreeMap.{is_at}
use Rattle.std.specs.Map.{lookup}
use Rattle.std.specs.Option.{option_map_or}
use Rattle.std.specs.Ordering.{nat_cmp}
use Rattle.std.proofs.lemmas.Bool.{eqb-true, false≢true}
use Rattle.std.proofs.lemmas.Bool.Decides.{eqb_tells}
use Rattle.fs_model.specs.declared.inode.Inode.{Inode}
use Rattle.fs_model.specs.declared.op.Op.{Op}
use Rattle.fs_model.specs.declared.op.Op.TheVariants.{Flush, Fsync}
use Rattle.fs_model.specs.declared.refusal.Refusal.TheVariants.{Einval}
use Rattle.fs_model.specs.declared.reply.Reply.{Reply}
use Rattle.fs_model.specs.declared.reply.Reply.TheVariants.{Done}
use Rattle.fs_model.specs.Change.{without_inode}
use Rattle.fs_model.specs.Files.{Blocks, Entries, Files, Inodes, Tree, block_at, handle_at, inode_at, name_cmp, pair_cmp}
use Rattle.fs_model.specs.Handles.{is_bad_slot}
use Rattle.fs_model.specs.Operation.{files_in, outcome_of}
use Rattle.fs_model.specs.Orphan.{is_nameless, nameless, without_nameless}
use Rattle.fs_model.specs.Outcome.{Outcome, refuse, with_open}
use Rattle.fs_model.specs.Path.{is_file}
use Rattle.fs_model.specs.Proper.{IsInOrder, IsProper}
use Rattle.fs_model.specs.Same.{trimmed}
use Rattle.fs_laws.specs.Forgotten.{found_block, found_inode}
use Rattle.fs_laws.specs.Maps.{set_other}
use Rattle.fs_laws.specs.Orders.{pairs}
use Rattle.buffered_files.specs.declared.kept.Kept.{Kept}
use Rattle.buffered_files.specs.Cuts.{TreePlace, ValuesOf, value_at}
use Rattle.buffered_files.specs.Cuts.TreePlace.{BlockAt, EntryAt, InodeAt}
use Rattle.buffered_files.specs.Cuts.Value.{ABlock, AnEntry, AnInode}
use Rattle.buffered_files.specs.Present.{DirtyPages, IsKept, has_dirty, present, with_page}
use Rattle.buffered_files.proofs.Reading.{seen_below, seen_kept}
use Rattle.traced_files.specs.Seen.{IsFileStored, is_file_at, is_synced_by, lasts_with}

-- a block of a file no page of which is dirty is the tree's
other_block : (dirty : DirtyPages) (blocks : Blocks) (ino block : ℕ) → has_dirty dirty ino ≡ false → block_at (fold with_page blocks dirty) ino block ≡ block_at blocks ino block
other_block [] blocks ino block none = refl
other_block (e ∷ dirty) blocks ino block none = elim (eqb_tells e.0.0 ino) [
  | inl same ↦ let no = rw same.0 at none in absurd (false≢true (sym no))
  | inr other ↦
      other_block dirty (with_page blocks e) ino block (rw other.0 at none)
      ∙ ap (λ found. unwrap_or found []) (set_other pair_cmp pairs blocks e.0 e.1.bytes (ino, block) (λ same. other.1 (sym (ap (λ (q : ℕ × ℕ). q.0) same))))
]

-- and its inode is the tree's too
pub file_stored : (tree : Tree) (kept : Kept) (ino : ℕ) → IsKept tree kept → has_dirty kept.pages.dirty ino ≡ false → IsFileStored tree (present tree kept).tree ino
file_stored tree kept ino fits none = record { inode = by (lookup (is_at (nat_cmp ino)) kept.inodes) refl; blocks = λ block. sym (other_block kept.pages.dirty tree.blocks ino block none) }
  where
    by : (found : Option Inode) → lookup (is_at (nat_cmp ino)) kept.inodes ≡ found → inode_at tree ino ≡ inode_at (present tree kept).tree ino
    by None e = sym (seen_below tree kept ino fits e)
    by (Some inode) e = fits.settled ino inode e none ∙ sym (seen_kept tree kept ino inode fits e)

-- so is an inode that isn't a file's: the inodes that are kept are those of files
other_stored : (tree : Tree) (kept : Kept) (ino : ℕ) → IsKept tree kept → is_file_at (present tree kept).tree ino ≡ false → inode_at tree ino ≡ inode_at (present tree kept).tree ino
other_stored tree kept ino fits other = by (lookup (is_at (nat_cmp ino)) kept.inodes) refl
  where
    by : (found : Option Inode) → lookup (is_at (nat_cmp ino)) kept.inodes ≡ found → inode_at tree ino ≡ inode_at (present tree kept).tree ino
    by None e = sym (seen_below tree kept ino fits e)
    by (Some inode) e =
        let found : is_file_at (present tree kept).tree ino ≡ is_file inode.kind = ap (λ (o : Option Inode). option_map_or (λ (i : Inode). is_file i.kind) o false) (seen_kept tree kept ino inode fits e) in
        let file : is_file inode.kind ≡ true = ap is_file (fits.inodes ino inode e).kind in
        absurd (false≢true (sym other ∙ found ∙ file))

-- once what has no name is forgotten, an inode that two trees have alike is alike in both
inode_left : (a b : Tree) (ino : ℕ) → IsInOrder a → IsInOrder b → inode_at a ino ≡ inode_at b ino → value_at (without_nameless a) (InodeAt ino) ≡ value_at (without_nameless b) (InodeAt ino)
inode_left a b ino order there same = ap AnInode (found_inode a ino order ∙ ap (λ (o : Option Inode). cond (option_map_or (λ (i : Inode). i.nlink == 0) o false) None o) same ∙ sym (found_inode b ino there))

bytes_left : (lost : Bool) (found : Option (List ℕ)) → unwrap_or (cond lost None found) [] ≡ cond lost [] (unwrap_or found [])
bytes_left true found = refl
bytes_left false found = refl

block_found : (tree : Tree) (ino block : ℕ) → IsInOrder tree → block_at (without_nameless tree).blocks ino block ≡ cond (is_nameless tree ino) [] (block_at tree.blocks ino block)
block_found tree ino block order =
    ap (λ (found : Option (List ℕ)). unwrap_or found []) (found_block tree (ino, block) order) ∙ bytes_left (is_nameless tree ino) (lookup (is_at (pair_cmp (ino, block))) tree.blocks)

-- and so is a block of it
block_left : (a b : Tree) (ino block : ℕ) → IsInOrder a → IsInOrder b → inode_at a ino ≡ inode_at b ino → block_at a.blocks ino block ≡ block_at b.blocks ino block
    → value_at (without_nameless a) (BlockAt ino block) ≡ value_at (without_nameless b) (BlockAt ino block)
block_left a b ino block order there inodes blocks =
    let lost : is_nameless a ino ≡ is_nameless b ino = ap (λ (o : Option Inode). option_map_or (λ (i : Inode). i.nlink == 0) o false) inodes in
    ap (λ (bytes : List ℕ). ABlock (trimmed bytes))
    (block_found a ino block order ∙ ap (λ (z : Bool). cond z [] (block_at a.blocks ino block)) lost ∙ ap (λ (bytes : List ℕ). cond (is_nameless b ino) [] bytes) blocks ∙ sym (block_found b ino block there))

entries_left : (gone : List ℕ) (tree : Tree) → (fold without_inode tree gone).entries ≡ tree.entries
entries_left [] tree = refl
entries_left (ino ∷ gone) tree = entries_left gone (without_inode tree ino)

tree_in_order : (tree : Tree) → IsProper tree → IsInOrder tree
tree_in_order tree proper = record { inodes = proper.inodes_ascend; blocks = proper.blocks_ascend; entries = proper.entries_ascend }

-- What lasts with a file no page of which is dirty is the tree's, and callers see it so.
pub file_left : (tree : Tree) (kept : Kept) (ino : ℕ) (place : TreePlace) → IsKept tree kept → IsProper (present tree kept).tree → has_dirty kept.pages.dirty ino ≡ false → lasts_with (present tree kept).tree (Some ino) place ≡ true
    → ValuesOf (present tree kept).tree place (value_at (without_nameless tree) place)
file_left tree kept ino place fits proper none lasts = by place lasts
  where
    seen : Tree
    seen = (present tree kept).tree

    order : IsInOrder tree
    order = tree_in_order tree fits.proper

    there : IsInOrder seen
    there = tree_in_order seen proper

    stored : IsFileStored tree seen ino
    stored = file_stored tree kept ino fits none

    same_inode : (other : ℕ) (own file : Bool) → (other == ino) ≡ own → is_file_at seen other ≡ file → (own || not file) ≡ true → inode_at tree other ≡ inode_at seen other
    same_inode other true file own is lasting = subst (λ (n : ℕ). inode_at tree n ≡ inode_at seen n) (sym (eqb-true other ino own)) stored.inode
    same_inode other false false own is lasting = other_stored tree kept other fits is
    same_inode other false true own is lasting = absurd (false≢true lasting)

    by : (place : TreePlace) → lasts_with seen (Some ino) place ≡ true → ValuesOf seen place (value_at (without_nameless tree) place)
    by (InodeAt other) is = inr (inode_left tree seen other order there (same_inode other (other == ino) (is_file_at seen other) refl refl is))
    by (BlockAt other block) is =
        let own : ℕ → Type 0 = λ n. value_at (without_nameless tree) (BlockAt n block) ≡ value_at (without_nameless seen) (BlockAt n block) in
        inr (subst own (sym (eqb-true other ino is)) (block_left tree seen ino block order there stored.inode (stored.blocks block)))
    by (EntryAt dir name) is = inl (ap (λ (entries : Entries). AnEntry (lookup (is_at (name_cmp (dir, name))) entries)) (entries_left (nameless tree) tree))

-- which inodes are files' is told by the inodes alone
pub lasts_alike : (a b : Tree) (ino : ℕ) (place : TreePlace) → a.inodes ≡ b.inodes → lasts_with a (Some ino) place ≡ lasts_with b (Some ino) place
lasts_alike a b ino (InodeAt other) same = ap (λ (inodes : Inodes). (other == ino) || not (option_map_or (λ (i : Inode). is_file i.kind) (lookup (is_at (nat_cmp other)) inodes) false)) same
lasts_alike a b ino (BlockAt other block) same = refl
lasts_alike a b ino (EntryAt dir name) same = refl

-- an `fsync` that was done, on an open file with which a place lasts
pub record IsFsyncOf (files : Files) (caller : ℕ) (op : Op) (reply : Reply) (place : TreePlace) : Type 0 where
  pub slot : ℕ
  pub ino : ℕ
  pub called : op ≡ Fsync slot
  pub done : reply ≡ Done
  pub held : handle_at files caller slot ≡ Some ino
  pub lasts : lasts_with files.tree (Some ino) place ≡ true

-- what syncs a place is a flush or such an `fsync`
pub sync_is : (files : Files) (caller : ℕ) (op : Op) (reply : Reply) (place : TreePlace) → is_synced_by files caller op reply place ≡ true → ((op ≡ Flush) × (reply ≡ Done)) ⊎ IsFsyncOf files caller op reply place
sync_is files caller Flush Done place e = inl (refl, refl)
sync_is files caller (Fsync slot) Done place e = by (handle_at files caller slot) refl e
  where
    by : (found : Option ℕ) → handle_at files caller slot ≡ found → lasts_with files.tree found place ≡ true → ((◌≡◌ {A = Op} (Fsync slot) Flush) × (◌≡◌ {A = Reply} Done Done)) ⊎ IsFsyncOf files caller (Fsync slot) Done place
    by None there e = absurd (false≢true e)
    by (Some ino) there e = inr (record { slot = slot; ino = ino; called = refl; done = refl; held = there; lasts = e })
sync_is files caller op reply place e = absurd (false≢true e)

-- an `fsync` leaves the files
pub fsync_leaves : (files : Files) (caller now slot : ℕ) (reply : Reply) (after : Files) → outcome_of files caller now (Fsync slot) ≡ Ok (reply, after) → after ≡ files
fsync_leaves files caller now slot reply after e = good (is_bad_slot slot) e
  where
    done : Outcome
    done = Ok (Done, files)

    held : (found : Option ℕ) → with_open found (λ ino. done) ≡ Ok (reply, after) → after ≡ files
    held None e = absurd cc
    held (Some ino) e = sym (ap (files_in files) e)

    good : (bad : Bool) → refuse bad Einval (with_open (handle_at files caller slot) (λ ino. done)) ≡ Ok (reply, after) → after ≡ files
    good true e = absurd cc
    good false e = held (handle_at files caller slot) e
