-- A new size leaves files alike that were alike, though the block that is shortened may have other zeros at its end.
use Rattle.std.proofs.Common.{◌≡◌, ℕ, zero, suc, ◌+◌, ◌*◌, ◌/◌, ◌%◌, ◌<◌, ◌≤◌, ◌⊎◌, inl, inr, Bool, true, false, cond, max, not, ◌&&◌, List, [], ◌∷◌, length, take, take_all, Option, Some, None, refl, sym, ap, subst, ◌∙◌, arith}
use Rattle.std.specs.Prelude.{◌==◌, filter, nat_le, nat_lt, unwrap_or}
use Rattle.std.specs.List.{IsDistinct}
use Rattle.std.specs.Option.{option_map}
use Rattle.std.specs.Map.{lookup, keys_of}
use Rattle.std.specs.BTreeMap.{insert_entry, is_at}
use Rattle.std.specs.Ordering.{nat_cmp}
use Rattle.std.proofs.lemmas.Bool.{cases_lt}
use Rattle.std.proofs.lemmas.Bool.Decides.{nat_tests, eqb_tells}
use Rattle.fs_model.specs.declared.change.Change.TheVariants.{SetInode, SetBlock, CutBlocks}
use Rattle.fs_model.specs.declared.inode.Inode.{Inode}
use Rattle.fs_model.specs.Change.{apply, cut_blocks}
use Rattle.fs_model.specs.Files.{Tree, Files, Blocks, blocks_end, block_at, inode_at, pair_cmp, size_of, with_block}
use Rattle.fs_model.specs.Making.{touched}
use Rattle.fs_model.specs.Path.{is_dir}
use Rattle.fs_model.specs.Proper.{IsProper, ascends}
use Rattle.fs_model.specs.Same.{trimmed, before_zeros, trimmed_blocks}
use Rattle.fs_model.specs.Truncation.{truncating}
use Rattle.fs_laws.specs.Maps.{filter_ascends, key_cases, set_here, set_other}
use Rattle.fs_laws.specs.Orders.{numbers, pairs}
use Rattle.page_cache.specs.Pages.{is_page}
use Rattle.buffered_files.specs.declared.kept.Kept.{Kept}
use Rattle.buffered_files.specs.Alike.{IsAlike}
use Rattle.buffered_files.specs.Present.{IsKept}
use Rattle.buffered_files.proofs.Applied.{trimmed_filter}
use Rattle.buffered_files.proofs.Clean.{stays_found}
use Rattle.buffered_files.proofs.Ends.{insert_other_ends}
use Rattle.buffered_files.proofs.Inserts.{insert_same}
use Rattle.buffered_files.proofs.Putting.{numbered}
use Rattle.buffered_files.proofs.Resizing.{apply_set, apply_cut, apply_shortened, begins_before, cut_even, cut_inside, le_false, other_begins, tree_with}
use Rattle.buffered_files.proofs.Trimmed.{trimmed-insert}
use Rattle.buffered_files.proofs.WrittenAlike.{head_told, tail_told, zero_told}

take_none : (n : ℕ) → take {A = ℕ} n [] ≡ []
take_none zero = refl
take_none (suc n) = refl

take_trimmed : (n : ℕ) (a b : List ℕ) → trimmed a ≡ trimmed b → trimmed (take n a) ≡ trimmed (take n b)
take_trimmed zero a b h = refl
take_trimmed (suc n) [] [] h = refl
take_trimmed (suc n) [] (y ∷ b) h =
    let none = zero_told y (trimmed b) h in
    let rest : trimmed (take n b) ≡ [] = sym (take_trimmed n [] b none.1) ∙ ap (λ z. trimmed z) (take_none n) in
    let y_is : y ≡ 0 = none.0 in
    rw (rest, y_is) refl
take_trimmed (suc n) (x ∷ a) [] h =
    let none = zero_told x (trimmed a) (sym h) in
    let rest : trimmed (take n a) ≡ [] = sym (take_trimmed n [] a none.1) ∙ ap (λ z. trimmed z) (take_none n) in
    let x_is : x ≡ 0 = none.0 in
    rw (rest, x_is) refl
take_trimmed (suc n) (x ∷ a) (y ∷ b) h = ap (λ z. before_zeros z (trimmed (take n a))) (head_told x y (trimmed a) (trimmed b) h) ∙ ap (λ z. before_zeros y z) (take_trimmed n a b (tail_told x y (trimmed a) (trimmed b) h))

told_at : (blocks : Blocks) (q : ℕ × ℕ) → lookup (is_at (pair_cmp q)) (trimmed_blocks blocks) ≡ option_map trimmed (lookup (is_at (pair_cmp q)) blocks)
told_at [] q = refl
told_at (e ∷ blocks) q = by (told_at blocks q) (is_at (pair_cmp q) e.0)
  where
    by : lookup (is_at (pair_cmp q)) (trimmed_blocks blocks) ≡ option_map trimmed (lookup (is_at (pair_cmp q)) blocks) → (b : Bool) → cond b (Some (trimmed e.1)) (lookup (is_at (pair_cmp q)) (trimmed_blocks blocks)) ≡ option_map trimmed (cond b (Some e.1) (lookup (is_at (pair_cmp q)) blocks))
    by more true = refl
    by more false = more

-- the blocks of another file end where they did
ends_left : (test : ℕ × ℕ → Bool) (i : ℕ) → ((k : ℕ × ℕ) → k.0 ≡ i → test k ≡ true) → (blocks : Blocks) → blocks_end (filter (λ b. test b.0) blocks) i ≡ blocks_end blocks i
ends_left test i each [] = refl
ends_left test i each (e ∷ blocks) = by (ends_left test i each blocks) (eqb_tells e.0.0 i)
  where
    skip : blocks_end (filter (λ b. test b.0) blocks) i ≡ blocks_end blocks i → (e.0.0 == i) ≡ false → (t : Bool) → blocks_end (cond t (e ∷ filter (λ b. test b.0) blocks) (filter (λ b. test b.0) blocks)) i ≡ blocks_end (e ∷ blocks) i
    skip more other true = rw other more
    skip more other false = rw other more

    by : blocks_end (filter (λ b. test b.0) blocks) i ≡ blocks_end blocks i → (((e.0.0 == i) ≡ true) × (e.0.0 ≡ i)) ⊎ (((e.0.0 == i) ≡ false) × (e.0.0 ≡ i → ⊥)) → blocks_end (filter (λ b. test b.0) (e ∷ blocks)) i ≡ blocks_end (e ∷ blocks) i
    by more (inl same) = let passes = each e.0 same.1 in rw (passes, same.0) (ap (λ n. max (4096 * e.0.1 + length e.1) n) more)
    by more (inr two) = skip more two.0 (test e.0)

none_twice : IsDistinct is_page []
unfolding IsDistinct
none_twice = tt

module _ (ino size : ℕ) where
  -- the blocks of a tree once a file ends there sooner
  abbrev shorter : Blocks → Blocks
  shorter blocks =
      let bytes = block_at blocks ino (size / 4096) in
      cond (not (size % 4096 == 0) && nat_lt (size % 4096) (length bytes)) (with_block (cut_blocks blocks ino size) ino (size / 4096) (take (size % 4096) bytes)) (cut_blocks blocks ino size)

  abbrev at : ℕ × ℕ
  at = (ino, size / 4096)

  starts : 0 < size % 4096 → begins_before ino size at ≡ true
  starts some = let less = le_false size (4096 * (size / 4096)) (omega (arith, some)) in by (eqb_tells ino ino) less
    where
      by : (((ino == ino) ≡ true) × (ino ≡ ino)) ⊎ (((ino == ino) ≡ false) × (ino ≡ ino → ⊥)) → nat_le size (4096 * (size / 4096)) ≡ false → begins_before ino size at ≡ true
      by (inl same) less = rw (same.0, less) refl
      by (inr two) less = absurd (two.1 refl)

  -- what is told of them where the block is there
  told_there : (blocks : Blocks) (x : List ℕ) → ascends pair_cmp (keys_of blocks) ≡ true → 0 < size % 4096 → lookup (is_at (pair_cmp at)) blocks ≡ Some x
      → trimmed_blocks (shorter blocks) ≡ insert_entry pair_cmp (trimmed_blocks (cut_blocks blocks ino size)) at (trimmed (take (size % 4096) x))
  told_there blocks x up some found = by (cases_lt (size % 4096) (length x))
    where
      cut : Blocks
      cut = cut_blocks blocks ino size

      cut_up : ascends pair_cmp (keys_of cut) ≡ true
      cut_up = filter_ascends pair_cmp pairs (λ b. begins_before ino size b.0) blocks up

      there : lookup (is_at (pair_cmp at)) cut ≡ Some x
      there = stays_found (begins_before ino size) blocks at (starts some) ∙ found

      nonzero : (size % 4096 == 0) ≡ false
      nonzero = elim (eqb_tells (size % 4096) 0) [
        | inl same ↦ let none = same.1 in absurd (omega (arith, none, some))
        | inr other ↦ other.0
      ]

      bytes_is : block_at blocks ino (size / 4096) ≡ x
      bytes_is = ap (λ o. unwrap_or o []) found

      by : (size % 4096 < length x) ⊎ (length x ≤ size % 4096) → trimmed_blocks (shorter blocks) ≡ insert_entry pair_cmp (trimmed_blocks cut) at (trimmed (take (size % 4096) x))
      by (inl long) =
          let less : nat_lt (size % 4096) (length x) ≡ true = grind (arith, nat_tests) in
          rw (bytes_is, nonzero, less) (trimmed-insert cut at (take (size % 4096) x))
      by (inr short) =
          let less : nat_lt (size % 4096) (length x) ≡ false = grind (arith, nat_tests) in
          let all : take (size % 4096) x ≡ x = take_all (size % 4096) x short in
          let same : insert_entry pair_cmp cut at x ≡ cut = insert_same pair_cmp pairs cut at x cut_up there in
          rw (bytes_is, nonzero, less) (ap (λ z. trimmed_blocks z) (sym same) ∙ trimmed-insert cut at x ∙ ap (λ z. insert_entry pair_cmp (trimmed_blocks cut) at (trimmed z)) (sym all))

  told_cut : (a b : Blocks) → trimmed_blocks a ≡ trimmed_blocks b → trimmed_blocks (cut_blocks a ino size) ≡ trimmed_blocks (cut_blocks b ino size)
  told_cut a b h = trimmed_filter (begins_before ino size) a ∙ ap (λ blocks. cut_blocks blocks ino size) h ∙ sym (trimmed_filter (begins_before ino size) b)

  told_shorter : (a b : Blocks) → ascends pair_cmp (keys_of a) ≡ true → ascends pair_cmp (keys_of b) ≡ true → trimmed_blocks a ≡ trimmed_blocks b → trimmed_blocks (shorter a) ≡ trimmed_blocks (shorter b)
  told_shorter a b up also h = by (eqb_tells (size % 4096) 0)
    where
      Told : Option (List ℕ) → Option (List ℕ) → Type 0
      Told o p = option_map trimmed o ≡ option_map trimmed p

      both : Told (lookup (is_at (pair_cmp at)) a) (lookup (is_at (pair_cmp at)) b)
      both = sym (told_at a at) ∙ ap (λ blocks. lookup (is_at (pair_cmp at)) blocks) h ∙ told_at b at

      missing : (blocks : Blocks) → lookup (is_at (pair_cmp at)) blocks ≡ None → shorter blocks ≡ cut_blocks blocks ino size
      missing blocks none =
          let bytes_is : block_at blocks ino (size / 4096) ≡ [] = ap (λ o. unwrap_or o []) none in
          rw bytes_is (no_less (not (size % 4096 == 0)))
        where
          no_less : (t : Bool) → cond (t && nat_lt (size % 4096) 0) (with_block (cut_blocks blocks ino size) ino (size / 4096) (take (size % 4096) [])) (cut_blocks blocks ino size) ≡ cut_blocks blocks ino size
          no_less true = let less : nat_lt (size % 4096) 0 ≡ false = grind (arith, nat_tests) in rw less refl
          no_less false = refl

      some : 0 < size % 4096 → (o p : Option (List ℕ)) → lookup (is_at (pair_cmp at)) a ≡ o → lookup (is_at (pair_cmp at)) b ≡ p → Told o p → trimmed_blocks (shorter a) ≡ trimmed_blocks (shorter b)
      some more None None fa fb told = ap (λ z. trimmed_blocks z) (missing a fa) ∙ told_cut a b h ∙ ap (λ z. trimmed_blocks z) (sym (missing b fb))
      some more (Some x) (Some y) fa fb told =
          let same : trimmed x ≡ trimmed y = cc told in
          told_there a x up more fa
          ∙ ap (λ z. insert_entry pair_cmp z at (trimmed (take (size % 4096) x))) (told_cut a b h)
          ∙ ap (λ z. insert_entry pair_cmp (trimmed_blocks (cut_blocks b ino size)) at z) (take_trimmed (size % 4096) x y same)
          ∙ sym (told_there b y also more fb)
      some more None (Some y) fa fb told = absurd cc
      some more (Some x) None fa fb told = absurd cc

      by : (((size % 4096 == 0) ≡ true) × (size % 4096 ≡ 0)) ⊎ (((size % 4096 == 0) ≡ false) × (size % 4096 ≡ 0 → ⊥)) → trimmed_blocks (shorter a) ≡ trimmed_blocks (shorter b)
      by (inl even) = rw even.0 (told_cut a b h)
      by (inr other) = some (positive (size % 4096) other.1) (lookup (is_at (pair_cmp at)) a) (lookup (is_at (pair_cmp at)) b) refl refl both
        where
          positive : (n : ℕ) → (n ≡ 0 → ⊥) → 0 < n
          positive zero two = absurd (two refl)
          positive (suc n) two = omega arith

  -- the file ends there
  shorter_end : (tree : Tree) → IsProper tree → blocks_end (shorter tree.blocks) ino ≤ size
  shorter_end tree proper = by (not (size % 4096 == 0) && nat_lt (size % 4096) (length (block_at tree.blocks ino (size / 4096)))) refl
    where
      none_kept : Kept
      none_kept = record { pages = record { dirty = []; clean = []; most = 0; calls = 0 }; inodes = []; handles = [] }

      is : IsKept tree none_kept
      is = record { proper = proper; ascends = refl; inodes = λ i inode found. absurd cc; ends = λ i inode found. absurd cc; pages = tt; settled = λ i inode found none. absurd cc; clean = tt; covers = tt }

      by : (b : Bool) → (not (size % 4096 == 0) && nat_lt (size % 4096) (length (block_at tree.blocks ino (size / 4096)))) ≡ b
          → blocks_end (cond b (with_block (cut_blocks tree.blocks ino size) ino (size / 4096) (take (size % 4096) (block_at tree.blocks ino (size / 4096)))) (cut_blocks tree.blocks ino size)) ino ≤ size
      by true t = (cut_inside tree none_kept ino size is none_twice t).end
      by false t = (cut_even tree none_kept ino size is none_twice t).end

  -- another file ends where it did
  shorter_other : (blocks : Blocks) (i : ℕ) → (i ≡ ino → ⊥) → blocks_end (shorter blocks) i ≡ blocks_end blocks i
  shorter_other blocks i two = by (not (size % 4096 == 0) && nat_lt (size % 4096) (length (block_at blocks ino (size / 4096))))
    where
      left : blocks_end (cut_blocks blocks ino size) i ≡ blocks_end blocks i
      left = ends_left (begins_before ino size) i (λ k same. other_begins ino size k (λ e. two (sym same ∙ e))) blocks

      by : (b : Bool) → blocks_end (cond b (with_block (cut_blocks blocks ino size) ino (size / 4096) (take (size % 4096) (block_at blocks ino (size / 4096)))) (cut_blocks blocks ino size)) i ≡ blocks_end blocks i
      by true = insert_other_ends (cut_blocks blocks ino size) (ino, size / 4096) (take (size % 4096) (block_at blocks ino (size / 4096))) i (λ e. two (sym e)) ∙ left
      by false = left

-- the tree after a new size
apply_smaller : (t : Tree) (ino : ℕ) (inode : Inode) (size now : ℕ) → ino ≤ t.highest → nat_lt size (size_of t ino inode) ≡ true
    → apply t (truncating t ino inode size now) ≡ tree_with t ino (touched now (record inode { size = size })) (shorter ino size t.blocks)
apply_smaller t ino inode size now low less = rw less (by (not (size % 4096 == 0) && nat_lt (size % 4096) (length (block_at t.blocks ino (size / 4096)))))
  where
    set : Inode
    set = touched now (record inode { size = size })

    by : (b : Bool) → apply t (SetInode ino set ∷ CutBlocks ino (size_of t ino inode) size ∷ cond b (SetBlock ino (size / 4096) (take (size % 4096) (block_at t.blocks ino (size / 4096))) ∷ []) [])
        ≡ tree_with t ino set (cond b (with_block (cut_blocks t.blocks ino size) ino (size / 4096) (take (size % 4096) (block_at t.blocks ino (size / 4096)))) (cut_blocks t.blocks ino size))
    by true = apply_shortened t ino size (size_of t ino inode) (size / 4096) (take (size % 4096) (block_at t.blocks ino (size / 4096))) set low
    by false = apply_cut t ino size (size_of t ino inode) set low

apply_greater : (t : Tree) (ino : ℕ) (inode : Inode) (size now : ℕ) → ino ≤ t.highest → nat_lt size (size_of t ino inode) ≡ false
    → apply t (truncating t ino inode size now) ≡ tree_with t ino (touched now (record inode { size = size })) t.blocks
apply_greater t ino inode size now low less = rw less (apply_set t ino (touched now (record inode { size = size })) low)

module _ (a b : Files) (ino : ℕ) (inode : Inode) (size now : ℕ) (pa : IsProper a.tree) (pb : IsProper b.tree) (found : inode_at a.tree ino ≡ Some inode) (plain : is_dir inode.kind ≡ false) (h : IsAlike a b) where
  abbrev to : Inode
  to = touched now (record inode { size = size })

  same_size : size_of a.tree ino inode ≡ size_of b.tree ino inode
  same_size = h.sizes ino inode found plain

  -- files in which the inode is set alike, and of which blocks end alike
  set_alike : (p q : Blocks) → trimmed_blocks p ≡ trimmed_blocks q → size_of (tree_with a.tree ino to p) ino to ≡ size_of (tree_with b.tree ino to q) ino to
      → ((i : ℕ) → (i ≡ ino → ⊥) → (blocks_end p i ≡ blocks_end a.tree.blocks i) × (blocks_end q i ≡ blocks_end b.tree.blocks i))
      → IsAlike (record a { tree = tree_with a.tree ino to p }) (record b { tree = tree_with b.tree ino to q })
  set_alike p q blocks here others = record {
    inodes = ap (λ inodes. insert_entry nat_cmp inodes ino to) h.inodes;
    blocks = blocks;
    entries = h.entries;
    highest = h.highest;
    handles = h.handles;
    sizes = λ i x there file. by i x there file (key_cases nat_cmp numbers i ino);
  }
    where
      by : (i : ℕ) (x : Inode) → inode_at (tree_with a.tree ino to p) i ≡ Some x → is_dir x.kind ≡ false → (i ≡ ino) ⊎ (i ≡ ino → ⊥) → size_of (tree_with a.tree ino to p) i x ≡ size_of (tree_with b.tree ino to q) i x
      by i x there file (inl e) =
          let first = set_here nat_cmp numbers a.tree.inodes ino to in
          let both : Some to ≡ Some x = sym first ∙ subst (λ k. inode_at (tree_with a.tree ino to p) k ≡ Some x) e there in
          let x_is : to ≡ x = cc both in
          let P : ℕ → Type 0 = λ k. size_of (tree_with a.tree ino to p) k x ≡ size_of (tree_with b.tree ino to q) k x in
          let Q : Inode → Type 0 = λ y. size_of (tree_with a.tree ino to p) ino y ≡ size_of (tree_with b.tree ino to q) ino y in
          subst P (sym e) (subst Q x_is here)
      by i x there file (inr other) =
          let was = sym (set_other nat_cmp numbers a.tree.inodes ino to i other) ∙ there in
          let before = h.sizes i x was file in
          let ends = others i other in
          ap (λ m. max x.size m) ends.0 ∙ before ∙ ap (λ m. max x.size m) (sym ends.1)

  resized_alike : IsAlike (record a { tree = apply a.tree (truncating a.tree ino inode size now) }) (record b { tree = apply b.tree (truncating b.tree ino inode size now) })
  resized_alike = by (nat_lt size (size_of a.tree ino inode)) refl
    where
      low : ino ≤ a.tree.highest
      low = numbered a.tree ino inode pa found

      low_b : ino ≤ b.tree.highest
      low_b = let high = h.highest in let l = low in omega (arith, l, high)

      by : (t : Bool) → nat_lt size (size_of a.tree ino inode) ≡ t → IsAlike (record a { tree = apply a.tree (truncating a.tree ino inode size now) }) (record b { tree = apply b.tree (truncating b.tree ino inode size now) })
      by true less =
          let also : nat_lt size (size_of b.tree ino inode) ≡ true = ap (λ n. nat_lt size n) (sym same_size) ∙ less in
          let p = shorter_end ino size a.tree pa in
          let q = shorter_end ino size b.tree pb in
          let alike = set_alike (shorter ino size a.tree.blocks) (shorter ino size b.tree.blocks) (told_shorter ino size a.tree.blocks b.tree.blocks pa.blocks_ascend pb.blocks_ascend h.blocks) (omega (arith, p, q)) (λ i two. (shorter_other ino size a.tree.blocks i two, shorter_other ino size b.tree.blocks i two)) in
          subst (λ t. IsAlike (record a { tree = t }) (record b { tree = apply b.tree (truncating b.tree ino inode size now) })) (sym (apply_smaller a.tree ino inode size now low less))
          (subst (λ t. IsAlike (record a { tree = tree_with a.tree ino to (shorter ino size a.tree.blocks) }) (record b { tree = t })) (sym (apply_smaller b.tree ino inode size now low_b also)) alike)
      by false less =
          let also : nat_lt size (size_of b.tree ino inode) ≡ false = ap (λ n. nat_lt size n) (sym same_size) ∙ less in
          let first : size_of a.tree ino inode ≤ size = grind (arith, nat_tests) in
          let second : size_of b.tree ino inode ≤ size = let s = same_size in omega (arith, s, first) in
          let alike = set_alike a.tree.blocks b.tree.blocks h.blocks (omega (arith, first, second)) (λ i two. (refl, refl)) in
          subst (λ t. IsAlike (record a { tree = t }) (record b { tree = apply b.tree (truncating b.tree ino inode size now) })) (sym (apply_greater a.tree ino inode size now low less))
          (subst (λ t. IsAlike (record a { tree = tree_with a.tree ino to a.tree.blocks }) (record b { tree = t })) (sym (apply_greater b.tree ino inode size now low_b also)) alike)

-- a new size leaves files alike that were alike
pub sizes_alike : (a b : Files) (ino : ℕ) (inode : Inode) (size now : ℕ) → IsProper a.tree → IsProper b.tree → inode_at a.tree ino ≡ Some inode → is_dir inode.kind ≡ false → IsAlike a b
    → IsAlike (record a { tree = apply a.tree (truncating a.tree ino inode size now) }) (record b { tree = apply b.tree (truncating b.tree ino inode size now) })
sizes_alike a b ino inode size now pa pb found plain h = resized_alike a b ino inode size now pa pb found plain h
