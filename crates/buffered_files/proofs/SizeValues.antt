-- Which values the group of a new size gives, on whichever tree it is replayed.
use Rattle.std.proofs.Common.{◌≡◌, ℕ, ◌⊎◌, inl, inr, Bool, true, false, cond, not, ◌&&◌, List, [], ◌∷◌, Option, Some, None, refl, sym, ap, subst, ◌∙◌}
use Rattle.std.specs.Prelude.{◌==◌, ◌/◌, ◌%◌, Result, Ok, Err, is_some, unwrap_or, nat_lt, take, length}
use Rattle.std.specs.Result.{IsErr}
use Rattle.std.specs.BTreeMap.{is_at}
use Rattle.std.specs.Map.{lookup}
use Rattle.std.specs.Ordering.{nat_cmp}
use Rattle.std.proofs.lemmas.Bool.{false≢true}
use Rattle.fs_model.specs.declared.backing_answers.StoreFault.{StoreFault}
use Rattle.fs_model.specs.declared.change.Change.{Change}
use Rattle.fs_model.specs.declared.change.Change.TheVariants.{SetInode, SetBlock, CutBlocks, DropInode}
use Rattle.fs_model.specs.declared.inode.Inode.{Inode}
use Rattle.fs_model.specs.Backing.{put_by}
use Rattle.fs_model.specs.Change.{applied, cut_blocks}
use Rattle.fs_model.specs.Files.{Tree, Blocks, inode_at, block_at, pair_cmp, size_of, with_block}
use Rattle.fs_model.specs.Journal.{Journal, Leaves, base_head}
use Rattle.fs_model.specs.Making.{touched}
use Rattle.fs_model.specs.Orphan.{all_revive_none}
use Rattle.fs_model.specs.Proper.{IsInOrder}
use Rattle.fs_model.specs.Recovery.{as_replayed}
use Rattle.fs_model.specs.Same.{trimmed}
use Rattle.fs_model.specs.Truncation.{shortening, truncating}
use Rattle.fs_laws.specs.Maps.{set_here, set_other, removed_here, key_cases}
use Rattle.fs_laws.specs.Orders.{numbers, pairs}
use Rattle.buffered_files.specs.Calls.{refusal_of}
use Rattle.buffered_files.specs.CutLaws.{Puts-none, Puts-with, Refused-none}
use Rattle.buffered_files.specs.Cuts.{TreePlace, Value, value_at, ValuesOf, ValuesWith, replayed_on, GivesOnly, PutsWith, put_fate, refused_fate}
use Rattle.buffered_files.specs.Cuts.TreePlace.{InodeAt, EntryAt, BlockAt}
use Rattle.buffered_files.specs.Cuts.GroupFate.{WasPut}
use Rattle.buffered_files.specs.Cuts.Value.{ABlock}
use Rattle.buffered_files.specs.Resized.{IsResizing}
use Rattle.buffered_files.proofs.Clean.{stays_found}
use Rattle.buffered_files.proofs.PlaceValues.{Steady, steady_drop, steady_inode, steady_then, gives_by, put_as_told}
use Rattle.buffered_files.proofs.PartsLeft.{gone_found}
use Rattle.buffered_files.proofs.Resizing.{begins_before}

-- a block that is cut isn't found
cut_none : (blocks : Blocks) (ino size : ℕ) (q : ℕ × ℕ) → begins_before ino size q ≡ false → lookup (is_at (pair_cmp q)) (cut_blocks blocks ino size) ≡ None
cut_none blocks ino size q gone = by (lookup (is_at (pair_cmp q)) (cut_blocks blocks ino size)) refl
  where
    by : (o : Option (List ℕ)) → lookup (is_at (pair_cmp q)) (cut_blocks blocks ino size) ≡ o → o ≡ None
    by None found = refl
    by (Some bytes) found = absurd (false≢true (sym gone ∙ gone_found (begins_before ino size) blocks q bytes found))

abbrev block_of : Option (List ℕ) → Value
block_of found = ABlock (trimmed (unwrap_or found []))

-- the key of a block
abbrev pair : ℕ → ℕ → ℕ × ℕ
pair ino block = (ino, block)

steady_cut : (ino old size : ℕ) (t u : Tree) (place : TreePlace) → Steady place t (applied t (CutBlocks ino old size)) u (applied u (CutBlocks ino old size))
steady_cut ino old size t u (InodeAt q) = inl (refl, refl)
steady_cut ino old size t u (EntryAt dir name) = inl (refl, refl)
steady_cut ino old size t u (BlockAt q block) = by (begins_before ino size (q, block)) refl
  where
    by : (b : Bool) → begins_before ino size (q, block) ≡ b → Steady (BlockAt q block) t (applied t (CutBlocks ino old size)) u (applied u (CutBlocks ino old size))
    by true s = inl (ap block_of (stays_found (begins_before ino size) t.blocks (q, block) s), ap block_of (stays_found (begins_before ino size) u.blocks (q, block) s))
    by false s = inr (ap block_of (cut_none t.blocks ino size (q, block) s ∙ sym (cut_none u.blocks ino size (q, block) s)))

-- an inode is in both trees or in neither
abbrev AreBoth : ℕ → Tree → Tree → Type 0
AreBoth ino t u = is_some (inode_at t ino) ≡ is_some (inode_at u ino)

steady_block : (ino block : ℕ) (bytes : List ℕ) (t u : Tree) → AreBoth ino t u → (place : TreePlace) → Steady place t (applied t (SetBlock ino block bytes)) u (applied u (SetBlock ino block bytes))
steady_block ino block bytes t u both place = by (is_some (inode_at t ino)) (is_some (inode_at u ino)) refl refl place
  where
    Goal : TreePlace → Type 0
    Goal place = Steady place t (applied t (SetBlock ino block bytes)) u (applied u (SetBlock ino block bytes))

    set : (x : Tree) → is_some (inode_at x ino) ≡ true → (q number : ℕ) → value_at (applied x (SetBlock ino block bytes)) (BlockAt q number) ≡ block_of (lookup (is_at (pair_cmp (q, number))) (with_block x.blocks ino block bytes))
    set x there q number = rw there refl

    kept : (x : Tree) → is_some (inode_at x ino) ≡ false → (place : TreePlace) → value_at (applied x (SetBlock ino block bytes)) place ≡ value_at x place
    kept x none (InodeAt q) = rw none refl
    kept x none (EntryAt dir name) = rw none refl
    kept x none (BlockAt q number) = rw none refl

    same_inodes : (x : Tree) (b : Bool) → is_some (inode_at x ino) ≡ b → (q : ℕ) → value_at (applied x (SetBlock ino block bytes)) (InodeAt q) ≡ value_at x (InodeAt q)
    same_inodes x true t q = rw t refl
    same_inodes x false t q = rw t refl

    same_entries : (x : Tree) (b : Bool) → is_some (inode_at x ino) ≡ b → (dir : ℕ) (name : List ℕ) → value_at (applied x (SetBlock ino block bytes)) (EntryAt dir name) ≡ value_at x (EntryAt dir name)
    same_entries x true t dir name = rw t refl
    same_entries x false t dir name = rw t refl

    at : (q number : ℕ) → is_some (inode_at t ino) ≡ true → is_some (inode_at u ino) ≡ true → (pair q number ≡ pair ino block) ⊎ (pair q number ≡ pair ino block → ⊥) → Goal (BlockAt q number)
    at q number a b (inl same) =
        let found : (x : Tree) → lookup (is_at (pair_cmp (q, number))) (with_block x.blocks ino block bytes) ≡ Some bytes = λ x.
        subst (λ (k : ℕ × ℕ). lookup (is_at (pair_cmp k)) (with_block x.blocks ino block bytes) ≡ Some bytes) (sym same) (set_here pair_cmp pairs x.blocks (ino, block) bytes) in
        inr (set t a q number ∙ ap block_of (found t) ∙ sym (set u b q number ∙ ap block_of (found u)))
    at q number a b (inr two) =
        inl (set t a q number ∙ ap block_of (set_other pair_cmp pairs t.blocks (ino, block) bytes (q, number) two), set u b q number ∙ ap block_of (set_other pair_cmp pairs u.blocks (ino, block) bytes (q, number) two))

    by : (b c : Bool) → is_some (inode_at t ino) ≡ b → is_some (inode_at u ino) ≡ c → (place : TreePlace) → Goal place
    by b c a e (InodeAt q) = inl (same_inodes t b a q, same_inodes u c e q)
    by b c a e (EntryAt dir name) = inl (same_entries t b a dir name, same_entries u c e dir name)
    by true true a e (BlockAt q number) = at q number a e (key_cases pair_cmp pairs (pair q number) (pair ino block))
    by false false a e (BlockAt q number) = inl (kept t a (BlockAt q number), kept u e (BlockAt q number))
    by true false a e (BlockAt q number) = let n : true ≡ false = sym a ∙ both ∙ e in absurd (false≢true (sym n))
    by false true a e (BlockAt q number) = let n : false ≡ true = sym a ∙ both ∙ e in absurd (false≢true n)

module _ (ino : ℕ) (set : Inode) where
  first_steady : (t u : Tree) → IsInOrder t → IsInOrder u → (place : TreePlace) → Steady place t (applied t (as_replayed (SetInode ino set))) u (applied u (as_replayed (SetInode ino set)))
  first_steady t u h i place = by (set.nlink == 0)
    where
      by : (b : Bool) → Steady place t (applied t (cond b (DropInode ino) (SetInode ino set))) u (applied u (cond b (DropInode ino) (SetInode ino set)))
      by true = steady_drop ino t u h i place
      by false = steady_inode ino set t u place

  first_both : (t u : Tree) → IsInOrder t → IsInOrder u → AreBoth ino (applied t (as_replayed (SetInode ino set))) (applied u (as_replayed (SetInode ino set)))
  first_both t u h i = by (set.nlink == 0)
    where
      by : (b : Bool) → AreBoth ino (applied t (cond b (DropInode ino) (SetInode ino set))) (applied u (cond b (DropInode ino) (SetInode ino set)))
      by true = ap is_some (removed_here nat_cmp numbers t.inodes ino h.inodes ∙ sym (removed_here nat_cmp numbers u.inodes ino i.inodes))
      by false = ap is_some (set_here nat_cmp numbers t.inodes ino set ∙ sym (set_here nat_cmp numbers u.inodes ino set))

  rest_steady : (old size block : ℕ) (bytes : List ℕ) (shorter : Bool) (t u : Tree) → IsInOrder t → IsInOrder u → (place : TreePlace)
      → Steady place t (replayed_on t (SetInode ino set ∷ CutBlocks ino old size ∷ cond shorter (SetBlock ino block bytes ∷ []) [])) u (replayed_on u (SetInode ino set ∷ CutBlocks ino old size ∷ cond shorter (SetBlock ino block bytes ∷ []) []))
  rest_steady old size block bytes shorter t u h i place = by shorter
    where
      t1 : Tree
      t1 = applied t (as_replayed (SetInode ino set))

      u1 : Tree
      u1 = applied u (as_replayed (SetInode ino set))

      cut : Steady place t (applied t1 (CutBlocks ino old size)) u (applied u1 (CutBlocks ino old size))
      cut = steady_then place t t1 (applied t1 (CutBlocks ino old size)) u u1 (applied u1 (CutBlocks ino old size)) (first_steady t u h i place) (steady_cut ino old size t1 u1 place)

      by : (b : Bool) → Steady place t (replayed_on t (SetInode ino set ∷ CutBlocks ino old size ∷ cond b (SetBlock ino block bytes ∷ []) [])) u (replayed_on u (SetInode ino set ∷ CutBlocks ino old size ∷ cond b (SetBlock ino block bytes ∷ []) []))
      by false = cut
      by true =
          let t2 = applied t1 (CutBlocks ino old size) in
          let u2 = applied u1 (CutBlocks ino old size) in
          steady_then place t t2 (applied t2 (SetBlock ino block bytes)) u u2 (applied u2 (SetBlock ino block bytes)) cut (steady_block ino block bytes t2 u2 (first_both t u h i) place)

-- A new size leaves a place of every tree as it is, or gives every tree the same value there.
steady_size : (tree : Tree) (ino : ℕ) (inode : Inode) (size now : ℕ) (t u : Tree) → IsInOrder t → IsInOrder u → (place : TreePlace) → Steady place t (replayed_on t (truncating tree ino inode size now)) u (replayed_on u (truncating tree ino inode size now))
steady_size tree ino inode size now t u h i place = by (nat_lt size (size_of tree ino inode))
  where
    set : Inode
    set = touched now (record inode { size = size })

    by : (b : Bool) → Steady place t (replayed_on t (SetInode ino set ∷ cond b (CutBlocks ino (size_of tree ino inode) size ∷ shortening tree.blocks ino size) [])) u (replayed_on u (SetInode ino set ∷ cond b (CutBlocks ino (size_of tree ino inode) size ∷ shortening tree.blocks ino size) []))
    by true = rest_steady ino set (size_of tree ino inode) size (size / 4096) (take (size % 4096) (block_at tree.blocks ino (size / 4096))) (not (size % 4096 == 0) && nat_lt (size % 4096) (length (block_at tree.blocks ino (size / 4096)))) t u h i place
    by false = first_steady ino set t u h i place

pub size_gives : (tree : Tree) (group : List Change) → IsInOrder tree → IsResizing tree group → all_revive_none tree group ≡ true → GivesOnly (ValuesWith tree group) group
size_gives tree group order r revives =
    gives_by tree group order revives (λ t u h i place. subst (λ g. Steady place t (replayed_on t g) u (replayed_on u g)) (sym r.group_is) (steady_size tree r.ino r.inode r.size r.now t u h i place))

-- done, it was put
pub size_done_cut : (tree : Tree) (group : List Change) (a b : Journal) → IsInOrder tree → IsResizing tree group → all_revive_none tree group ≡ true → Leaves a b ((base_head, group) ∷ []) → PutsWith tree group WasPut a b
size_done_cut tree group a b order r revives cut = put_as_told {T = Unit {0}} tree group a b (Ok tt) (size_gives tree group order r revives) cut

-- and with this fault it was or wasn't
pub size_failed_cut : (T : Type 0) (tree : Tree) (group : List Change) (a b : Journal) (fault : StoreFault) → IsInOrder tree → IsResizing tree group → all_revive_none tree group ≡ true
    → Leaves a b (put_by {T = T} (Err fault) ((base_head, group) ∷ [])) → PutsWith tree group (put_fate {T = T} (Err fault)) a b
size_failed_cut T tree group a b fault order r revives = put_as_told {T = T} tree group a b (Err fault) (size_gives tree group order r revives)

-- nothing was put where a fault came first
pub none_by_fault : (T : Type 0) (result : Result T StoreFault) (tree : Tree) (group : List Change) (a : Journal) → IsErr result → PutsWith tree group (put_fate result) a a
none_by_fault T (Ok x) tree group a err = absurd (false≢true err)
none_by_fault T (Err fault) tree group a err = Puts-with tree group (refused_fate (refusal_of fault)) a a (Refused-none (refusal_of fault) group) (Puts-none (ValuesOf tree) a)
