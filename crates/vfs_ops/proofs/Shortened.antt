-- A new size leaves the same values, on whichever of two files that are alike its group was reckoned.
use Rattle.std.proofs.Common.{◌≡◌, ℕ, ◌<◌, ◌*◌, ◌/◌, ◌⊎◌, inl, inr, Bool, true, false, cond, not, ◌&&◌, List, [], ◌∷◌, Option, None, length, refl, sym, ap, subst, ◌∙◌, arith}
use Rattle.std.specs.Prelude.{◌==◌, ◌%◌, fold, is_some, nat_le, nat_lt, suc, take, unwrap_or, zero}
use Rattle.std.specs.BTreeMap.{is_at}
use Rattle.std.specs.Map.{lookup}
use Rattle.std.specs.Option.{option_map_or}
use Rattle.std.specs.Ordering.{nat_cmp}
use Rattle.std.proofs.lemmas.Bool.{false≢true, lt-leb, ltb-false}
use Rattle.std.proofs.lemmas.Bool.Decides.{eqb_tells}
use Rattle.std.proofs.lemmas.List.{take_all}
use Rattle.std.proofs.lemmas.Map.Entries.{lookup-filter-keys}
use Rattle.fs_model.specs.declared.change.Change.{Change}
use Rattle.fs_model.specs.declared.change.Change.TheVariants.{SetInode, SetBlock, CutBlocks}
use Rattle.fs_model.specs.declared.inode.Entry.{Entry}
use Rattle.fs_model.specs.declared.inode.Inode.{Inode}
use Rattle.fs_model.specs.Change.{applied, apply, without_inode}
use Rattle.fs_model.specs.Files.{Blocks, Files, Inodes, Tree, block_at, inode_at, name_cmp, pair_cmp, size_of, with_block}
use Rattle.fs_model.specs.Making.{touched}
use Rattle.fs_model.specs.Orphan.{is_nameless, nameless, without_nameless}
use Rattle.fs_model.specs.Proper.{IsInOrder, IsProper}
use Rattle.fs_model.specs.Same.{before_zeros, trimmed}
use Rattle.fs_model.specs.Truncation.{shortening, truncating}
use Rattle.fs_laws.specs.Forgotten.{apply_in_order, found_block}
use Rattle.fs_laws.specs.Maps.{apart, key_cases, set_here, set_other}
use Rattle.fs_laws.specs.Orders.{numbers, pairs}
use Rattle.buffered_files.specs.CutLaws.{AreAmong}
use Rattle.buffered_files.specs.Cuts.{TreePlace, ValuesOf, ValuesWith, value_at}
use Rattle.buffered_files.specs.Cuts.TreePlace.{InodeAt, EntryAt, BlockAt}
use Rattle.buffered_files.specs.Cuts.Value.{AnInode, AnEntry, ABlock}
use Rattle.fs_laws.specs.Sound.{IsSound}
use Rattle.fs_model.specs.declared.op.Op.{Op}
use Rattle.fs_model.specs.declared.op.Op.TheVariants.{Truncate}
use Rattle.fs_model.specs.Operation.{group_of}
use Rattle.fs_model.specs.Outcome.{group_in as planned}
use Rattle.buffered_files.specs.Alike.{IsAlike}
use Rattle.vfs_plans.specs.Operations.{is_truncate}
use Rattle.vfs_ops.specs.declared.event.Event.{Event}
use Rattle.vfs_ops.specs.declared.event.Event.TheVariants.{Call}
use Rattle.vfs_ops.specs.Events.{group_in, sets_size}
use Rattle.vfs_ops.proofs.Answering.{trimmed_at, with_blocks, with_same}
use Rattle.vfs_ops.proofs.Asking.{same_group}
use Rattle.vfs_ops.proofs.Fewer.{shortened_inodes}
use Rattle.vfs_ops.proofs.Truncating.{sizes_related}

-- the bytes of a block as callers see them
abbrev shown : Blocks → ℕ × ℕ → List ℕ
shown blocks q = trimmed (unwrap_or (lookup (is_at (pair_cmp q)) blocks) [])

-- two trees that callers can't tell apart, place by place
record LookSame (s t : Tree) : Type 0 where
  pub inodes : s.inodes ≡ t.inodes
  pub entries : s.entries ≡ t.entries
  pub blocks : (q : ℕ × ℕ) → shown s.blocks q ≡ shown t.blocks q

same_place : (s t : Tree) → LookSame s t → (place : TreePlace) → value_at s place ≡ value_at t place
same_place s t h (InodeAt q) = ap (λ (es : Inodes). AnInode (lookup (is_at (nat_cmp q)) es)) h.inodes
same_place s t h (EntryAt dir name) = ap (λ (es : List ((ℕ × List ℕ) × Entry)). AnEntry (lookup (is_at (name_cmp (dir, name))) es)) h.entries
same_place s t h (BlockAt q block) = ap ABlock (h.blocks (q, block))

entries_left : (gone : List ℕ) (tree : Tree) → (fold without_inode tree gone).entries ≡ tree.entries
entries_left [] tree = refl
entries_left (ino ∷ gone) tree = entries_left gone (without_inode tree ino)

same_named : (s t : Tree) → LookSame s t → IsInOrder s → IsInOrder t → LookSame (without_nameless s) (without_nameless t)
same_named s t h o p = record {
  inodes = ap (λ (es : Inodes). (without_nameless (record s { inodes = es })).inodes) h.inodes ∙ others t.inodes;
  entries = entries_left (nameless s) s ∙ h.entries ∙ sym (entries_left (nameless t) t);
  blocks = λ q.
      let lost : is_nameless s q.0 ≡ is_nameless t q.0 = ap (λ (es : Inodes). option_map_or (λ (inode : Inode). inode.nlink == 0) (lookup (is_at (nat_cmp q.0)) es) false) h.inodes in
      ap bytes_of (found_block s q o) ∙ ap (λ z. bytes_of (cond z None (lookup (is_at (pair_cmp q)) s.blocks))) lost ∙ by q (is_nameless t q.0) ∙ sym (ap bytes_of (found_block t q p));
}
  where
    bytes_of : Option (List ℕ) → List ℕ
    bytes_of found = trimmed (unwrap_or found [])

    by : (q : ℕ × ℕ) (z : Bool) → bytes_of (cond z None (lookup (is_at (pair_cmp q)) s.blocks)) ≡ bytes_of (cond z None (lookup (is_at (pair_cmp q)) t.blocks))
    by q true = refl
    by q false = h.blocks q

    left : (gone : List ℕ) (x y : Tree) → x.inodes ≡ y.inodes → (fold without_inode x gone).inodes ≡ (fold without_inode y gone).inodes
    left [] x y same = same
    left (ino ∷ gone) x y same = left gone (without_inode x ino) (without_inode y ino) (ap (λ (es : Inodes). (without_inode (record x { inodes = es }) ino).inodes) same)

    others : (es : Inodes) → (without_nameless (record s { inodes = es })).inodes ≡ (without_nameless (record t { inodes = es })).inodes
    others es = left (nameless (record s { inodes = es })) (record s { inodes = es }) (record t { inodes = es }) refl

same_among : (s t : Tree) → LookSame s t → IsInOrder s → IsInOrder t → AreAmong (ValuesOf s) (ValuesOf t)
same_among s t h o p place value (inl is) = inl (is ∙ same_place s t h place)
same_among s t h o p place value (inr is) = inr (is ∙ same_place (without_nameless s) (without_nameless t) (same_named s t h o p) place)

-- what is left of bytes is seen from what was seen of them
cut_trimmed : (n : ℕ) (bytes : List ℕ) → trimmed (take n bytes) ≡ trimmed (take n (trimmed bytes))
cut_trimmed zero bytes = refl
cut_trimmed (suc n) [] = refl
cut_trimmed (suc n) (x ∷ bytes) = by (trimmed bytes) (cut_trimmed n bytes)
  where
    nothing : (k : ℕ) → trimmed (take {A = ℕ} k []) ≡ []
    nothing zero = refl
    nothing (suc k) = refl

    at : (b : Bool) → (x == 0) ≡ b → cond b [] (x ∷ []) ≡ trimmed (take (suc n) (cond b [] (x ∷ [])))
    at true is = refl
    at false is = sym (ap (λ z. before_zeros x z) (nothing n) ∙ rw is refl)

    by : (t : List ℕ) → trimmed (take n bytes) ≡ trimmed (take n t) → before_zeros x (trimmed (take n bytes)) ≡ trimmed (take (suc n) (before_zeros x t))
    by [] more = ap (λ z. before_zeros x z) (more ∙ nothing n) ∙ at (x == 0) refl
    by (z ∷ zs) more = ap (λ w. before_zeros x w) more

cut_alike : (n : ℕ) (a b : List ℕ) → trimmed a ≡ trimmed b → trimmed (take n a) ≡ trimmed (take n b)
cut_alike n a b same = cut_trimmed n a ∙ ap (λ t. trimmed (take n t)) same ∙ sym (cut_trimmed n b)

-- the key of a block
abbrev key : ℕ → ℕ → ℕ × ℕ
key ino block = (ino, block)

-- the block in which a size ends begins before it
kept_by : (ino size : ℕ) → (size % 4096 == 0) ≡ false → (q : ℕ × ℕ) → is_at (pair_cmp (key ino (size / 4096))) q ≡ true → not ((q.0 == ino) && nat_le size (4096 * q.1)) ≡ true
kept_by ino size uneven q found = elim (key_cases pair_cmp pairs (key ino (size / 4096)) q) [
  | inl same ↦ subst (λ (k : ℕ × ℕ). not ((k.0 == ino) && nat_le size (4096 * k.1)) ≡ true) same (begins (ino == ino))
  | inr other ↦ absurd (false≢true (sym (apart pair_cmp pairs (key ino (size / 4096)) q other) ∙ found))
]
  where
    before : 4096 * (size / 4096) < size
    before = elim (eqb_tells (size % 4096) 0) [
      | inl even ↦ absurd (false≢true (sym uneven ∙ even.0))
      | inr more ↦ (let n = more.1 in omega (arith, n))
    ]

    begins : (b : Bool) → not (b && nat_le size (4096 * (size / 4096))) ≡ true
    begins true = ap not (lt-leb size (4096 * (size / 4096)) before)
    begins false = refl

-- A block that is shortened where it is too long shows what its first bytes do.
shortened_here : (tree : Tree) (ino block n : ℕ) (bytes : List ℕ) → is_some (inode_at tree ino) ≡ true → shown tree.blocks (ino, block) ≡ trimmed bytes
    → shown (apply tree (cond (nat_lt n (length bytes)) (SetBlock ino block (take n bytes) ∷ []) [])).blocks (ino, block) ≡ trimmed (take n bytes)
shortened_here tree ino block n bytes there same = by (nat_lt n (length bytes)) refl
  where
    by : (b : Bool) → nat_lt n (length bytes) ≡ b → shown (apply tree (cond b (SetBlock ino block (take n bytes) ∷ []) [])).blocks (ino, block) ≡ trimmed (take n bytes)
    by true longer = rw there (ap (λ (o : Option (List ℕ)). trimmed (unwrap_or o [])) (set_here pair_cmp pairs tree.blocks (ino, block) (take n bytes)))
    by false short = same ∙ ap (λ (z : List ℕ). trimmed z) (sym (take_all n bytes (ltb-false n (length bytes) short)))

shortened_other : (tree : Tree) (ino block : ℕ) (bytes : List ℕ) (b : Bool) (q : ℕ × ℕ) → (q ≡ key ino block → ⊥) → shown (apply tree (cond b (SetBlock ino block bytes ∷ []) [])).blocks q ≡ shown tree.blocks q
shortened_other tree ino block bytes false q other = refl
shortened_other tree ino block bytes true q other = by (is_some (inode_at tree ino))
  where
    by : (b : Bool) → shown (cond b (record tree { blocks = with_block tree.blocks ino block bytes }) tree).blocks q ≡ shown tree.blocks q
    by true = ap (λ (o : Option (List ℕ)). trimmed (unwrap_or o [])) (set_other pair_cmp pairs tree.blocks (ino, block) bytes q other)
    by false = refl

shortened_entries : (tree : Tree) (ino block : ℕ) (bytes : List ℕ) (b : Bool) → (apply tree (cond b (SetBlock ino block bytes ∷ []) [])).entries ≡ tree.entries
shortened_entries tree ino block bytes false = refl
shortened_entries tree ino block bytes true = by (is_some (inode_at tree ino))
  where
    by : (b : Bool) → (cond b (record tree { blocks = with_block tree.blocks ino block bytes }) tree).entries ≡ tree.entries
    by true = refl
    by false = refl

-- The last block shortened, from either bytes.
shortened_same : (tree : Tree) (ino block n : ℕ) (ys xs : List ℕ) (uneven : Bool) → (uneven ≡ true → shown tree.blocks (ino, block) ≡ trimmed xs) → trimmed ys ≡ trimmed xs → is_some (inode_at tree ino) ≡ true
    → LookSame (apply tree (cond (uneven && nat_lt n (length ys)) (SetBlock ino block (take n ys) ∷ []) [])) (apply tree (cond (uneven && nat_lt n (length xs)) (SetBlock ino block (take n xs) ∷ []) []))
shortened_same tree ino block n ys xs false stands same there = record { inodes = refl; entries = refl; blocks = λ q. refl }
shortened_same tree ino block n ys xs true stands same there = record {
  inodes = shortened_inodes tree ino block (take n ys) (nat_lt n (length ys)) ∙ sym (shortened_inodes tree ino block (take n xs) (nat_lt n (length xs)));
  entries = shortened_entries tree ino block (take n ys) (nat_lt n (length ys)) ∙ sym (shortened_entries tree ino block (take n xs) (nat_lt n (length xs)));
  blocks = λ q. at q (key_cases pair_cmp pairs q (key ino block));
}
  where
    here : shown (apply tree (cond (nat_lt n (length ys)) (SetBlock ino block (take n ys) ∷ []) [])).blocks (ino, block) ≡ shown (apply tree (cond (nat_lt n (length xs)) (SetBlock ino block (take n xs) ∷ []) [])).blocks (ino, block)
    here = shortened_here tree ino block n ys there (stands refl ∙ sym same) ∙ cut_alike n ys xs same ∙ sym (shortened_here tree ino block n xs there (stands refl))

    at : (q : ℕ × ℕ) → (q ≡ key ino block) ⊎ (q ≡ key ino block → ⊥)
        → shown (apply tree (cond (nat_lt n (length ys)) (SetBlock ino block (take n ys) ∷ []) [])).blocks q ≡ shown (apply tree (cond (nat_lt n (length xs)) (SetBlock ino block (take n xs) ∷ []) [])).blocks q
    at q (inl same) =
        subst (λ (k : ℕ × ℕ). shown (apply tree (cond (nat_lt n (length ys)) (SetBlock ino block (take n ys) ∷ []) [])).blocks k ≡ shown (apply tree (cond (nat_lt n (length xs)) (SetBlock ino block (take n xs) ∷ []) [])).blocks k) (sym same) here
    at q (inr other) = shortened_other tree ino block (take n ys) (nat_lt n (length ys)) q other ∙ sym (shortened_other tree ino block (take n xs) (nat_lt n (length xs)) q other)

-- the group of a new size of a file that has a size, over these blocks
abbrev sizing : ℕ → Inode → ℕ → ℕ → ℕ → Blocks → List Change
sizing ino inode present size now blocks = SetInode ino (touched now (record inode { size = size })) ∷ (cond (nat_lt size present) (CutBlocks ino present size ∷ shortening blocks ino size) [])

sized_same : (tree : Tree) (ino : ℕ) (inode : Inode) (present size now : ℕ) (blocks : Blocks) → trimmed (block_at blocks ino (size / 4096)) ≡ trimmed (block_at tree.blocks ino (size / 4096))
    → LookSame (apply tree (sizing ino inode present size now blocks)) (apply tree (sizing ino inode present size now tree.blocks))
sized_same tree ino inode present size now blocks same = by (nat_lt size present)
  where
    set : Tree
    set = applied tree (SetInode ino (touched now (record inode { size = size })))

    cut : Tree
    cut = applied set (CutBlocks ino present size)

    there : is_some (inode_at cut ino) ≡ true
    there = ap (λ (o : Option Inode). is_some o) (set_here nat_cmp numbers tree.inodes ino (touched now (record inode { size = size })))

    stands : not (size % 4096 == 0) ≡ true → shown cut.blocks (ino, size / 4096) ≡ trimmed (block_at tree.blocks ino (size / 4096))
    stands uneven =
        ap (λ (o : Option (List ℕ)). trimmed (unwrap_or o [])) (lookup-filter-keys (is_at (pair_cmp (key ino (size / 4096)))) (λ (q : ℕ × ℕ). not ((q.0 == ino) && nat_le size (4096 * q.1))) true (kept_by ino size (even (size % 4096 == 0) uneven)) tree.blocks)
      where
        even : (b : Bool) → not b ≡ true → b ≡ false
        even true h = absurd (false≢true h)
        even false h = refl

    by : (b : Bool) → LookSame (apply tree (SetInode ino (touched now (record inode { size = size })) ∷ (cond b (CutBlocks ino present size ∷ shortening blocks ino size) [])))
        (apply tree (SetInode ino (touched now (record inode { size = size })) ∷ (cond b (CutBlocks ino present size ∷ shortening tree.blocks ino size) [])))
    by true = shortened_same cut ino (size / 4096) (size % 4096) (block_at blocks ino (size / 4096)) (block_at tree.blocks ino (size / 4096)) (not (size % 4096 == 0)) stands same there
    by false = record { inodes = refl; entries = refl; blocks = λ q. refl }

in_order : (tree : Tree) → IsProper tree → IsInOrder tree
in_order tree proper = record { inodes = proper.inodes_ascend; blocks = proper.blocks_ascend; entries = proper.entries_ascend }

-- The values with a group of a new size that was reckoned on other blocks, which are alike.
pub size_values : (tree : Tree) (blocks : Blocks) (ino : ℕ) (inode : Inode) (size now : ℕ) → IsProper tree → trimmed (block_at blocks ino (size / 4096)) ≡ trimmed (block_at tree.blocks ino (size / 4096))
    → size_of (record tree { blocks = blocks }) ino inode ≡ size_of tree ino inode
    → AreAmong (ValuesWith tree (truncating (record tree { blocks = blocks }) ino inode size now)) (ValuesWith tree (truncating tree ino inode size now))
size_values tree blocks ino inode size now proper same sizes place value (inl is) = inl is
size_values tree blocks ino inode size now proper same sizes place value (inr is) =
    let group : truncating (record tree { blocks = blocks }) ino inode size now ≡ sizing ino inode (size_of tree ino inode) size now blocks = ap (λ n. sizing ino inode n size now blocks) sizes in
    let there = subst (λ g. ValuesOf (apply tree g) place value) group is in
    let o = in_order tree proper in
    inr (same_among (apply tree (sizing ino inode (size_of tree ino inode) size now blocks)) (apply tree (sizing ino inode (size_of tree ino inode) size now tree.blocks)) (sized_same tree ino inode (size_of tree ino inode) size now blocks same)
    (apply_in_order (sizing ino inode (size_of tree ino inode) size now blocks) tree o) (apply_in_order (sizing ino inode (size_of tree ino inode) size now tree.blocks) tree o) place value there)

-- The values with the group of an operation are those with its group on files that are alike.
call_values : (a b : Files) (caller now : ℕ) (op : Op) → IsAlike a b → (is_truncate op ≡ true → IsSound a) → AreAmong (ValuesWith a.tree (group_of b caller now op)) (ValuesWith a.tree (group_of a caller now op))
call_values a b caller now op h sound = by op sound
  where
    sized : (slot size : ℕ) → IsSound a → AreAmong (ValuesWith a.tree (group_of b caller now (Truncate slot size))) (ValuesWith a.tree (group_of a caller now (Truncate slot size)))
    sized slot size sound =
        let same = with_same a b h in
        let again : IsAlike a (with_blocks a b.tree.blocks) = subst (λ f. IsAlike a f) (sym same) h in
        subst (λ f. AreAmong (ValuesWith a.tree (group_of f caller now (Truncate slot size))) (ValuesWith a.tree (group_of a caller now (Truncate slot size)))) same
        (sizes_related (λ p q. AreAmong (ValuesWith a.tree (planned q)) (ValuesWith a.tree (planned p))) a b.tree.blocks caller now slot size sound (λ e place value is. is) (λ ino inode is plain.
        size_values a.tree b.tree.blocks ino inode size now sound.proper (sym (trimmed_at b.tree.blocks ino (size / 4096)) ∙ ap (λ (blocks : Blocks). block_at blocks ino (size / 4096)) (sym h.blocks) ∙ trimmed_at a.tree.blocks ino (size / 4096))
        (sym (again.sizes ino inode is plain))))

    by : (op : Op) → (is_truncate op ≡ true → IsSound a) → AreAmong (ValuesWith a.tree (group_of b caller now op)) (ValuesWith a.tree (group_of a caller now op))
    by (Truncate slot size) sound = sized slot size (sound refl)
    by op sound = subst (λ group. AreAmong (ValuesWith a.tree group) (ValuesWith a.tree (group_of a caller now op))) (same_group a b caller now op refl h) (λ place value is. is)

pub event_values : (a b : Files) (event : Event) → IsAlike a b → (sets_size event ≡ true → IsSound a) → AreAmong (ValuesWith a.tree (group_in b event)) (ValuesWith a.tree (group_in a event))
event_values a b (Call caller now grant op) h sound = call_values a b caller now op h sound
event_values a b event h sound = λ place value is. is
