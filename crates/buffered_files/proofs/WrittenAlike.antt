-- A write over files that are alike leaves files that are alike.
use Rattle.std.proofs.Common.{◌≡◌, ℕ, zero, suc, ◌+◌, ◌-◌, ◌*◌, ◌/◌, ◌<◌, ◌≤◌, ◌⊎◌, inl, inr, min, max, Bool, true, false, cond, List, [], ◌∷◌, ◌++◌, length, take, drop, Some, refl, sym, ap, subst, ◌∙◌, arith}
use Rattle.std.specs.Prelude.{◌==◌, eqb, fold, replicate, unwrap_or}
use Rattle.std.specs.List.{range_with_len}
use Rattle.std.specs.Map.{lookup}
use Rattle.std.specs.BTreeMap.{insert_entry, is_at}
use Rattle.std.specs.Ordering.{nat_cmp}
use Rattle.std.proofs.lemmas.Bool.Decides.{nat_tests}
use Rattle.fs_model.specs.declared.inode.Inode.{Inode}
use Rattle.fs_model.specs.Files.{Files, Blocks, inode_at, pair_cmp, block_at, blocks_end, size_of, overlaid, page_written, pages_of, blocks_written, with_page as write_page}
use Rattle.fs_model.specs.Handles.{tree_written}
use Rattle.fs_model.specs.Making.{touched}
use Rattle.fs_model.specs.Path.{is_dir}
use Rattle.fs_model.specs.Same.{trimmed, before_zeros, trimmed_blocks}
use Rattle.fs_laws.specs.Maps.{key_cases, set_here, set_other}
use Rattle.fs_laws.specs.Orders.{numbers}
use Rattle.buffered_files.specs.Alike.{IsAlike}
use Rattle.buffered_files.proofs.Ends.{insert_ends, insert_other_ends}
use Rattle.buffered_files.proofs.Nodes.{written_ends}
use Rattle.buffered_files.proofs.Trimmed.{trimmed-insert}

trimmed-join : (front a b : List ℕ) → trimmed a ≡ trimmed b → trimmed (front ++ a) ≡ trimmed (front ++ b)
trimmed-join [] a b h = h
trimmed-join (x ∷ front) a b h = ap (λ z. before_zeros x z) (trimmed-join front a b h)

-- what follows the first byte is told by what is told of both
pub tail_told : (x y : ℕ) (a b : List ℕ) → before_zeros x a ≡ before_zeros y b → a ≡ b
tail_told x y [] [] h = refl
tail_told x y [] (n ∷ b) h = by (x == 0) h
  where
    by : (t : Bool) → cond t [] (x ∷ []) ≡ y ∷ n ∷ b → [] ≡ n ∷ b
    by true e = absurd cc
    by false e = absurd cc
tail_told x y (m ∷ a) [] h = by (y == 0) h
  where
    by : (t : Bool) → x ∷ m ∷ a ≡ cond t [] (y ∷ []) → m ∷ a ≡ []
    by true e = absurd cc
    by false e = absurd cc
tail_told x y (m ∷ a) (n ∷ b) h = cc h

-- and so is the first
pub head_told : (x y : ℕ) (a b : List ℕ) → before_zeros x a ≡ before_zeros y b → x ≡ y
head_told x y [] [] h = by (x == 0) refl (y == 0) refl h
  where
    by : (s : Bool) → (x == 0) ≡ s → (t : Bool) → (y == 0) ≡ t → cond s [] (x ∷ []) ≡ cond t [] (y ∷ []) → x ≡ y
    by true i true j e = let p : x ≡ 0 = grind (arith, nat_tests) in let q : y ≡ 0 = grind (arith, nat_tests) in p ∙ sym q
    by true i false j e = absurd cc
    by false i true j e = absurd cc
    by false i false j e = cc e
head_told x y [] (n ∷ b) h = by (x == 0) h
  where
    by : (t : Bool) → cond t [] (x ∷ []) ≡ y ∷ n ∷ b → x ≡ y
    by true e = absurd cc
    by false e = absurd cc
head_told x y (m ∷ a) [] h = by (y == 0) h
  where
    by : (t : Bool) → x ∷ m ∷ a ≡ cond t [] (y ∷ []) → x ≡ y
    by true e = absurd cc
    by false e = absurd cc
head_told x y (m ∷ a) (n ∷ b) h = cc h

-- where nothing is told of bytes, each is zero
pub zero_told : (y : ℕ) (b : List ℕ) → [] ≡ before_zeros y b → (y ≡ 0) × ([] ≡ b)
zero_told y [] h = by (y == 0) refl h
  where
    empty : List ℕ
    empty = []

    by : (t : Bool) → (y == 0) ≡ t → [] ≡ cond t [] (y ∷ []) → (y ≡ 0) × (empty ≡ empty)
    by true i e = (grind (arith, nat_tests), refl)
    by false i e = absurd cc
zero_told y (n ∷ b) h = absurd cc

drop-none : (n : ℕ) → drop {A = ℕ} n [] ≡ []
drop-none zero = refl
drop-none (suc n) = refl

trimmed-drop : (n : ℕ) (a b : List ℕ) → trimmed a ≡ trimmed b → trimmed (drop n a) ≡ trimmed (drop n b)
trimmed-drop zero a b h = h
trimmed-drop (suc n) [] [] h = refl
trimmed-drop (suc n) [] (y ∷ b) h = ap (λ z. trimmed z) (sym (drop-none n)) ∙ trimmed-drop n [] b (zero_told y (trimmed b) h).1
trimmed-drop (suc n) (x ∷ a) [] h = sym (ap (λ z. trimmed z) (sym (drop-none n)) ∙ trimmed-drop n [] a (zero_told x (trimmed a) (sym h)).1)
trimmed-drop (suc n) (x ∷ a) (y ∷ b) h = trimmed-drop n a b (tail_told x y (trimmed a) (trimmed b) h)

-- the first n bytes, with zeros where there are none
abbrev leading : ℕ → List ℕ → List ℕ
leading zero xs = []
leading (suc n) [] = 0 ∷ leading n []
leading (suc n) (x ∷ xs) = x ∷ leading n xs

leading_is : (n : ℕ) (xs : List ℕ) → take n (xs ++ replicate (n - length xs) 0) ≡ leading n xs
leading_is zero xs = refl
leading_is (suc n) [] = let e : suc n - 0 ≡ suc n = omega arith in let f : n - 0 ≡ n = omega arith in let rest = leading_is n [] in let more : take n (replicate n 0) ≡ leading n [] = rw f at rest in rw e (ap (λ z. 0 ∷ z) more)
leading_is (suc n) (x ∷ xs) = let e : suc n - suc (length xs) ≡ n - length xs = omega arith in rw e (ap (λ z. x ∷ z) (leading_is n xs))

leading_same : (n : ℕ) (a b : List ℕ) → trimmed a ≡ trimmed b → leading n a ≡ leading n b
leading_same zero a b h = refl
leading_same (suc n) [] [] h = refl
leading_same (suc n) [] (y ∷ b) h = let none = zero_told y (trimmed b) h in ap (λ z. z ∷ leading n []) (sym none.0) ∙ ap (λ z. y ∷ z) (leading_same n [] b none.1)
leading_same (suc n) (x ∷ a) [] h = let none = zero_told x (trimmed a) (sym h) in ap (λ z. z ∷ leading n a) none.0 ∙ ap (λ z. 0 ∷ z) (sym (leading_same n [] a none.1))
leading_same (suc n) (x ∷ a) (y ∷ b) h = ap (λ z. z ∷ leading n a) (head_told x y (trimmed a) (trimmed b) h) ∙ ap (λ z. y ∷ z) (leading_same n a b (tail_told x y (trimmed a) (trimmed b) h))

overlaid_same : (a b : List ℕ) (from to byte : ℕ) → trimmed a ≡ trimmed b → trimmed (overlaid a from to byte) ≡ trimmed (overlaid b from to byte)
overlaid_same a b from to byte h =
    let front : take from (a ++ replicate (from - length a) 0) ≡ take from (b ++ replicate (from - length b) 0) = leading_is from a ∙ leading_same from a b h ∙ sym (leading_is from b) in
    ap (λ z. trimmed (z ++ replicate (to - from) byte ++ drop to a)) front
    ∙ trimmed-join (take from (b ++ replicate (from - length b) 0) ++ replicate (to - from) byte) (drop to a) (drop to b) (trimmed-drop to a b h)

trimmed_at : (blocks : Blocks) (k : ℕ × ℕ) → unwrap_or (lookup (is_at (pair_cmp k)) (trimmed_blocks blocks)) [] ≡ trimmed (unwrap_or (lookup (is_at (pair_cmp k)) blocks) [])
trimmed_at [] k = refl
trimmed_at (e ∷ blocks) k = by (trimmed_at blocks k) (is_at (pair_cmp k) e.0)
  where
    by : unwrap_or (lookup (is_at (pair_cmp k)) (trimmed_blocks blocks)) [] ≡ trimmed (unwrap_or (lookup (is_at (pair_cmp k)) blocks) []) → (t : Bool)
        → unwrap_or (cond t (Some (trimmed e.1)) (lookup (is_at (pair_cmp k)) (trimmed_blocks blocks))) [] ≡ trimmed (unwrap_or (cond t (Some e.1) (lookup (is_at (pair_cmp k)) blocks)) [])
    by more true = refl
    by more false = more

step_same : (ino place n byte page : ℕ) (a b : Blocks) → trimmed_blocks a ≡ trimmed_blocks b → trimmed_blocks (write_page ino place n byte a page) ≡ trimmed_blocks (write_page ino place n byte b page)
step_same ino place n byte page a b h =
    let at : trimmed (block_at a ino page) ≡ trimmed (block_at b ino page) = sym (trimmed_at a (ino, page)) ∙ ap (λ z. unwrap_or (lookup (is_at (pair_cmp (ino, page))) z) []) h ∙ trimmed_at b (ino, page) in
    let bytes = overlaid_same (block_at a ino page) (block_at b ino page) (place - 4096 * page) (min (place + n - 4096 * page) 4096) byte at in
    trimmed-insert a (ino, page) (page_written a ino place n byte page)
    ∙ ap (λ z. insert_entry pair_cmp z (ino, page) (trimmed (page_written a ino place n byte page))) h
    ∙ ap (λ z. insert_entry pair_cmp (trimmed_blocks b) (ino, page) z) bytes
    ∙ sym (trimmed-insert b (ino, page) (page_written b ino place n byte page))

steps_same : (ino place n byte : ℕ) (pages : List ℕ) (a b : Blocks) → trimmed_blocks a ≡ trimmed_blocks b → trimmed_blocks (fold (write_page ino place n byte) a pages) ≡ trimmed_blocks (fold (write_page ino place n byte) b pages)
steps_same ino place n byte [] a b h = h
steps_same ino place n byte (page ∷ pages) a b h = steps_same ino place n byte pages (write_page ino place n byte a page) (write_page ino place n byte b page) (step_same ino place n byte page a b h)

-- the blocks of a file that is written end within its size
steps_end : (ino place n byte size first count : ℕ) (blocks : Blocks) → place + n ≤ size → blocks_end blocks ino ≤ size → ((p : ℕ) → first ≤ p → p < first + count → (4096 * p < place + n) × (place < 4096 * (p + 1)))
    → blocks_end (fold (write_page ino place n byte) blocks (range_with_len first count)) ino ≤ size
steps_end ino place n byte size first zero blocks all ends each = ends
steps_end ino place n byte size first (suc count) blocks all ends each =
    let here = each first (omega arith) (omega arith) in
    steps_end ino place n byte size (first + 1) count (write_page ino place n byte blocks first) all
    (insert_ends blocks (ino, first) (page_written blocks ino place n byte first) ino size ends (λ e. written_ends blocks ino place n byte first size ends all here.0 here.1))
    (λ p low high. each p (omega (arith, low)) (omega (arith, high)))

-- and those of another stay
steps_other : (ino place n byte other : ℕ) (pages : List ℕ) (blocks : Blocks) → (ino ≡ other → ⊥) → blocks_end (fold (write_page ino place n byte) blocks pages) other ≡ blocks_end blocks other
steps_other ino place n byte other [] blocks two = refl
steps_other ino place n byte other (page ∷ pages) blocks two =
    steps_other ino place n byte other pages (write_page ino place n byte blocks page) two
    ∙ insert_other_ends blocks (ino, page) (page_written blocks ino place n byte page) other two

written_end : (blocks : Blocks) (ino place n byte size : ℕ) → 0 < n → place + n ≤ size → blocks_end blocks ino ≤ size → blocks_end (blocks_written blocks ino place n byte) ino ≤ size
written_end blocks ino place n byte size some all ends =
    let more : eqb n 0 ≡ false = grind (arith, nat_tests) in
    let pages : pages_of place n ≡ range_with_len (place / 4096) (suc ((place + n - 1) / 4096 - place / 4096)) = rw more refl in
    subst (λ ps. blocks_end (fold (write_page ino place n byte) blocks ps) ino ≤ size) (sym pages)
    (steps_end ino place n byte size (place / 4096) (suc ((place + n - 1) / 4096 - place / 4096)) blocks all ends (λ p low high. (omega (arith, low, high, some), omega (arith, low))))

-- what a write leaves of files that are alike is alike
pub written_alike : (a b : Files) (ino : ℕ) (inode : Inode) (now place n byte : ℕ) → 0 < n → inode_at a.tree ino ≡ Some inode → is_dir inode.kind ≡ false → IsAlike a b
    → IsAlike (record a { tree = tree_written a.tree ino inode now place n byte }) (record b { tree = tree_written b.tree ino inode now place n byte })
written_alike a b ino inode now place n byte some found file h = record {
  inodes = ap (λ inodes. insert_entry nat_cmp inodes ino (grown (size_of a.tree ino inode))) h.inodes ∙ ap (λ size. insert_entry nat_cmp b.tree.inodes ino (grown size)) same;
  blocks = steps_same ino place n byte (pages_of place n) a.tree.blocks b.tree.blocks h.blocks;
  entries = h.entries;
  highest = h.highest;
  handles = h.handles;
  sizes = λ i x there plain. by i x there plain (key_cases nat_cmp numbers i ino);
}
  where
    grown : ℕ → Inode
    grown size = touched now (record inode { size = max size (place + n) })

    same : size_of a.tree ino inode ≡ size_of b.tree ino inode
    same = h.sizes ino inode found file

    here : size_of (tree_written a.tree ino inode now place n byte) ino (grown (size_of a.tree ino inode)) ≡ size_of (tree_written b.tree ino inode now place n byte) ino (grown (size_of a.tree ino inode))
    here =
        let s = same in
        let p = written_end a.tree.blocks ino place n byte (max (size_of a.tree ino inode) (place + n)) some (omega arith) (omega arith) in
        let q = written_end b.tree.blocks ino place n byte (max (size_of a.tree ino inode) (place + n)) some (omega arith) (omega (arith, s)) in
        omega (arith, p, q)

    by : (i : ℕ) (x : Inode) → lookup (is_at (nat_cmp i)) (insert_entry nat_cmp a.tree.inodes ino (grown (size_of a.tree ino inode))) ≡ Some x → is_dir x.kind ≡ false → (i ≡ ino) ⊎ (i ≡ ino → ⊥)
        → size_of (tree_written a.tree ino inode now place n byte) i x ≡ size_of (tree_written b.tree ino inode now place n byte) i x
    by i x there plain (inl e) =
        let first = set_here nat_cmp numbers a.tree.inodes ino (grown (size_of a.tree ino inode)) in
        let both : Some (grown (size_of a.tree ino inode)) ≡ Some x = sym first ∙ subst (λ k. lookup (is_at (nat_cmp k)) (insert_entry nat_cmp a.tree.inodes ino (grown (size_of a.tree ino inode))) ≡ Some x) e there in
        let x_is : grown (size_of a.tree ino inode) ≡ x = cc both in
        let P : ℕ → Type 0 = λ k. size_of (tree_written a.tree ino inode now place n byte) k x ≡ size_of (tree_written b.tree ino inode now place n byte) k x in
        let Q : Inode → Type 0 = λ y. size_of (tree_written a.tree ino inode now place n byte) ino y ≡ size_of (tree_written b.tree ino inode now place n byte) ino y in
        subst P (sym e) (subst Q x_is here)
    by i x there plain (inr other) =
        let was = sym (set_other nat_cmp numbers a.tree.inodes ino (grown (size_of a.tree ino inode)) i other) ∙ there in
        let before = h.sizes i x was plain in
        let p = steps_other ino place n byte i (pages_of place n) a.tree.blocks (λ e. other (sym e)) in
        let q = steps_other ino place n byte i (pages_of place n) b.tree.blocks (λ e. other (sym e)) in
        ap (λ m. max x.size m) p ∙ before ∙ ap (λ m. max x.size m) (sym q)
