-- What changes make of the blocks that leaves show.
use Rattle.std.proofs.Common.{◌≡◌, ℕ, ◌+◌, ◌*◌, ◌^◌, ◌<◌, ◌≤◌, Bool, true, false, cond, not, ◌&&◌, List, [], ◌∷◌, refl, sym, ap, ◌∙◌, arith, inl, inr, Option, Some}
use Rattle.std.specs.Prelude.{◌==◌, nat_le, filter}
use Rattle.std.specs.List.{list_all, AllByRecursion}
use Rattle.std.specs.BTreeMap.{insert_entry}
use Rattle.std.specs.Ordering.{is_lt}
use Rattle.std.specs.declared.cmp.Ordering.TheVariants.{Less}
use Rattle.std.proofs.lemmas.Bool.{false≢true, and_parts, eqb-true, leb-true, leb-false}
use Rattle.std.proofs.lemmas.Bool.Decides.{nat_tests, eqb_tells}
use Rattle.index_tree.specs.Order.{leaf_rank, ordered_from}
use Rattle.fs_model.specs.declared.change.Change.{Change}
use Rattle.fs_model.specs.declared.change.Change.TheVariants.{SetBlock, CutBlocks, DropInode}
use Rattle.fs_model.specs.Change.{cut_blocks, without_blocks}
use Rattle.fs_model.specs.Files.{Blocks, pair_cmp}
use Rattle.fs_laws.specs.Orders.{pairs}
use Rattle.leaf_map.specs.After.{goes, is_gone, put_leaf}
use Rattle.leaf_map.specs.Kept.{Kept, shown_by}
use Rattle.leaf_map.specs.LeafMap.{HasKeyOf, IsKeyed}
use Rattle.leaf_map.specs.RankLaws.{rank_is, rank_shown}
use Rattle.leaf_map.specs.Shown.{blocks_shown_by, with_shown_block}
use Rattle.fs_laws.specs.Insertions.{reversed}
use Rattle.leaf_map.proofs.Maps.{insert_front, less_is, equal_is}
use Rattle.leaf_map.proofs.Ranks.{leaves, are_from, ordered_all}
use Rattle.leaf_map.proofs.Steps.{Reads, put_here, put_past, put_before}

pub read_blocks : Reads with_shown_block blocks_shown_by
read_blocks = record { step = λ x kept. refl }

-- the place of a block
abbrev place : ℕ → ℕ → ℕ
place ino number = ino * 2 ^ 33 + (2 ^ 29 + number)

lower : (i n j m : ℕ) → n < 2 ^ 29 → m < 2 ^ 29 → ((i == j) && (n == m)) ≡ false → place i n ≤ place j m → pair_cmp (i, n) (j, m) ≡ Less
lower i n j m a b differ l = elim (eqb_tells i j) [
  | inl same ↦
      let apart : (n == m) ≡ false = rw same.0 at differ in
      let less : n < m = grind (arith, nat_tests) in
      rw (equal_is i j same.1) (less_is n m less)
  | inr other ↦
      let less : i < j = grind (arith, nat_tests) in
      rw (less_is i j less) refl
]

block_here : (ino number : ℕ) (bytes : List ℕ) (s : Option Change) (rest : Blocks) → goes (SetBlock ino number bytes) s ≡ true → ((ino, number), bytes) ∷ rest ≡ insert_entry pair_cmp (with_shown_block s rest) (ino, number) bytes
block_here ino number bytes (Some (SetBlock other at old)) rest h =
    let p = and_parts (other == ino) (at == number) h in
    let a = eqb-true other ino p.0 in
    let b = eqb-true at number p.1 in
    rw (equal_is ino other (sym a), equal_is number at (sym b)) (ap (λ (n : ℕ). ((n, number), bytes) ∷ rest) (sym a) ∙ ap (λ (n : ℕ). ((other, n), bytes) ∷ rest) (sym b))
block_here ino number bytes s rest h = absurd (false≢true h)

-- the leaf's block has a number of 29 bits
abbrev pub HasNumber : Option Change → Type 0
HasNumber (Some (SetBlock other at old)) = at < 2 ^ 29
HasNumber s = Unit {0}

pub has_number : (x : Kept) (s : Option Change) → HasKeyOf x.leaf s → HasNumber s
has_number x (Some (SetBlock other at old)) h = h.1
has_number x s h = tt

block_past : (ino number : ℕ) (bytes : List ℕ) (s : Option Change) (rest : Blocks) → number < 2 ^ 29 → HasNumber s → goes (SetBlock ino number bytes) s ≡ false → rank_shown s ≤ place ino number
    → with_shown_block s (insert_entry pair_cmp rest (ino, number) bytes) ≡ insert_entry pair_cmp (with_shown_block s rest) (ino, number) bytes
block_past ino number bytes (Some (SetBlock other at old)) rest small fits h l = rw (reversed pair_cmp pairs (other, at) (ino, number) Less (lower other at ino number fits small h l)) refl
block_past ino number bytes s rest small fits h l = refl

turned : (a b c d : ℕ) → ((a == b) && (c == d)) ≡ false → ((b == a) && (d == c)) ≡ false
turned a b c d h = elim (eqb_tells a b) [
  | inl same ↦ let apart : (c == d) ≡ false = rw same.0 at h in grind (arith, nat_tests)
  | inr other ↦ let apart : (b == a) ≡ false = grind (arith, nat_tests) in rw apart refl
]

block_before : (ino number : ℕ) (bytes : List ℕ) (s : Option Change) (rest : Blocks) → number < 2 ^ 29 → HasNumber s → goes (SetBlock ino number bytes) s ≡ false → place ino number ≤ rank_shown s
    → list_all (λ e. is_lt (pair_cmp (ino, number) e.0)) rest ≡ true → ((ino, number), bytes) ∷ with_shown_block s rest ≡ insert_entry pair_cmp (with_shown_block s rest) (ino, number) bytes
block_before ino number bytes (Some (SetBlock other at old)) rest small fits h l above = rw (lower ino number other at small fits (turned other ino at number h) l) refl
block_before ino number bytes s rest small fits h l above = sym (insert_front pair_cmp rest (ino, number) bytes above)

above_step : (ino number : ℕ) (s : Option Change) (rest : Blocks) → number < 2 ^ 29 → HasNumber s → place ino number < rank_shown s → list_all (λ e. is_lt (pair_cmp (ino, number) e.0)) rest ≡ true → list_all (λ e. is_lt (pair_cmp (ino, number) e.0)) (with_shown_block s rest) ≡ true
above_step ino number (Some (SetBlock other at old)) rest small fits l h =
    let differ : ((ino == other) && (number == at)) ≡ false = elim (eqb_tells ino other) [
      | inl same ↦ let less : number < at = omega (arith, l, same.1) in let apart : (number == at) ≡ false = grind (arith, nat_tests) in rw (same.0, apart) refl
      | inr apart ↦ rw apart.0 refl
    ] in
    rw (lower ino number other at small fits differ (omega (arith, l))) h
above_step ino number s rest small fits l h = h

-- the same where a block has another key and no lower place
pub block_above_step : (ino number : ℕ) (bytes : List ℕ) (s : Option Change) (rest : Blocks) → number < 2 ^ 29 → HasNumber s → not (goes (SetBlock ino number bytes) s) ≡ true → place ino number ≤ rank_shown s → list_all (λ e. is_lt (pair_cmp (ino, number) e.0)) rest ≡ true
    → list_all (λ e. is_lt (pair_cmp (ino, number) e.0)) (with_shown_block s rest) ≡ true
block_above_step ino number bytes (Some (SetBlock other at old)) rest small fits n l h = by (goes (SetBlock ino number bytes) (Some (SetBlock other at old))) refl n
  where
    by : (b : Bool) → goes (SetBlock ino number bytes) (Some (SetBlock other at old)) ≡ b → not b ≡ true → list_all (λ e. is_lt (pair_cmp (ino, number) e.0)) (((other, at), old) ∷ rest) ≡ true
    by true e t = absurd (false≢true t)
    by false e t = rw (lower ino number other at small fits (turned other ino at number e) l) h
block_above_step ino number bytes s rest small fits n l h = h

blocks_above : (ino number low : ℕ) (kept : List Kept) → number < 2 ^ 29 → AllByRecursion IsKeyed kept → place ino number < low → are_from low kept ≡ true → list_all (λ e. is_lt (pair_cmp (ino, number) e.0)) (blocks_shown_by kept) ≡ true
blocks_above ino number low [] small k l h = refl
blocks_above ino number low (x ∷ kept) small k l h =
    let p = and_parts (nat_le low (leaf_rank x.leaf)) (are_from low kept) h in
    let here = leb-true low (leaf_rank x.leaf) p.0 in
    let rank = rank_is x.leaf (shown_by x) k.0 in
    above_step ino number (shown_by x) (blocks_shown_by kept) small (has_number x (shown_by x) k.0) (omega (arith, l, here, rank)) (blocks_above ino number low kept small k.1 l p.1)

-- a block that is put is set
pub put_blocks : (ino number : ℕ) (bytes : List ℕ) (new : Kept) (low : ℕ) (kept : List Kept) → number < 2 ^ 29 → shown_by new ≡ Some (SetBlock ino number bytes) → leaf_rank new.leaf ≡ place ino number → AllByRecursion IsKeyed kept → ordered_from low (leaves kept) ≡ true
    → blocks_shown_by (put_leaf (is_gone (SetBlock ino number bytes)) new kept) ≡ insert_entry pair_cmp (blocks_shown_by kept) (ino, number) bytes
put_blocks ino number bytes new low [] small s r k o = ap (λ z. with_shown_block z []) s
put_blocks ino number bytes new low (x ∷ kept) small s r k o =
    let p = and_parts (nat_le low (leaf_rank x.leaf)) (ordered_from (leaf_rank x.leaf) (leaves kept)) o in
    by p.1 (put_blocks ino number bytes new (leaf_rank x.leaf) kept small s r k.1 p.1) (goes (SetBlock ino number bytes) (shown_by x)) refl (nat_le (leaf_rank x.leaf) (leaf_rank new.leaf)) refl
  where
    old : Kept → Bool
    old = is_gone (SetBlock ino number bytes)

    rank : leaf_rank x.leaf ≡ rank_shown (shown_by x)
    rank = rank_is x.leaf (shown_by x) k.0

    fits : HasNumber (shown_by x)
    fits = has_number x (shown_by x) k.0

    by : ordered_from (leaf_rank x.leaf) (leaves kept) ≡ true → blocks_shown_by (put_leaf old new kept) ≡ insert_entry pair_cmp (blocks_shown_by kept) (ino, number) bytes → (b : Bool) → goes (SetBlock ino number bytes) (shown_by x) ≡ b → (l : Bool) → nat_le (leaf_rank x.leaf) (leaf_rank new.leaf) ≡ l
        → blocks_shown_by (put_leaf old new (x ∷ kept)) ≡ insert_entry pair_cmp (blocks_shown_by (x ∷ kept)) (ino, number) bytes
    by rest more true g l e = ap blocks_shown_by (put_here old new x kept g) ∙ ap (λ z. with_shown_block z (blocks_shown_by kept)) s ∙ block_here ino number bytes (shown_by x) (blocks_shown_by kept) g
    by rest more false g true e =
        let le = leb-true (leaf_rank x.leaf) (leaf_rank new.leaf) e in
        let here = rank in
        ap blocks_shown_by (put_past old new x kept g e) ∙ ap (with_shown_block (shown_by x)) more ∙ block_past ino number bytes (shown_by x) (blocks_shown_by kept) small fits g (omega (arith, le, r, here))
    by rest more false g false e =
        let gt = leb-false (leaf_rank x.leaf) (leaf_rank new.leaf) e in
        let here = rank in
        let above = blocks_above ino number (leaf_rank x.leaf) kept small k.1 (omega (arith, gt, r)) (ordered_all (leaf_rank x.leaf) (leaf_rank x.leaf) kept (omega arith) rest) in
        ap blocks_shown_by (put_before old new x kept g e) ∙ ap (λ z. with_shown_block z (blocks_shown_by (x ∷ kept))) s ∙ block_before ino number bytes (shown_by x) (blocks_shown_by kept) small fits g (omega (arith, gt, r, here)) above

cut_step : (ino old_size new_size : ℕ) (s : Option Change) (rest : Blocks) → (b : Bool) → goes (CutBlocks ino old_size new_size) s ≡ b → cond (not b) (with_shown_block s (cut_blocks rest ino new_size)) (cut_blocks rest ino new_size) ≡ cut_blocks (with_shown_block s rest) ino new_size
cut_step ino old_size new_size (Some (SetBlock other at old)) rest true h = rw h refl
cut_step ino old_size new_size (Some (SetBlock other at old)) rest false h = rw h refl
cut_step ino old_size new_size s rest true h = absurd (false≢true h)
cut_step ino old_size new_size s rest false h = refl

-- a truncation cuts off the blocks of leaves as it does of a tree
pub cut_leaves : (ino old_size new_size : ℕ) (kept : List Kept) → blocks_shown_by (filter (λ x. not (is_gone (CutBlocks ino old_size new_size) x)) kept) ≡ cut_blocks (blocks_shown_by kept) ino new_size
cut_leaves ino old_size new_size [] = refl
cut_leaves ino old_size new_size (x ∷ kept) = by (cut_leaves ino old_size new_size kept) (is_gone (CutBlocks ino old_size new_size) x) refl
  where
    stay : Kept → Bool
    stay = λ x. not (is_gone (CutBlocks ino old_size new_size) x)

    by : blocks_shown_by (filter stay kept) ≡ cut_blocks (blocks_shown_by kept) ino new_size → (b : Bool) → is_gone (CutBlocks ino old_size new_size) x ≡ b → blocks_shown_by (cond (not b) (x ∷ filter stay kept) (filter stay kept)) ≡ cut_blocks (blocks_shown_by (x ∷ kept)) ino new_size
    by more true h = more ∙ cut_step ino old_size new_size (shown_by x) (blocks_shown_by kept) true h
    by more false h = ap (with_shown_block (shown_by x)) more ∙ cut_step ino old_size new_size (shown_by x) (blocks_shown_by kept) false h

drop_step : (ino : ℕ) (s : Option Change) (rest : Blocks) → (b : Bool) → goes (DropInode ino) s ≡ b → cond (not b) (with_shown_block s (without_blocks rest ino)) (without_blocks rest ino) ≡ without_blocks (with_shown_block s rest) ino
drop_step ino (Some (SetBlock other at old)) rest true h = rw h refl
drop_step ino (Some (SetBlock other at old)) rest false h = rw h refl
drop_step ino s rest true h = refl
drop_step ino s rest false h = refl

-- and an inode that goes takes its blocks
pub drop_blocks : (ino : ℕ) (kept : List Kept) → blocks_shown_by (filter (λ x. not (is_gone (DropInode ino) x)) kept) ≡ without_blocks (blocks_shown_by kept) ino
drop_blocks ino [] = refl
drop_blocks ino (x ∷ kept) = by (drop_blocks ino kept) (is_gone (DropInode ino) x) refl
  where
    stay : Kept → Bool
    stay = λ x. not (is_gone (DropInode ino) x)

    by : blocks_shown_by (filter stay kept) ≡ without_blocks (blocks_shown_by kept) ino → (b : Bool) → is_gone (DropInode ino) x ≡ b → blocks_shown_by (cond (not b) (x ∷ filter stay kept) (filter stay kept)) ≡ without_blocks (blocks_shown_by (x ∷ kept)) ino
    by more true h = more ∙ drop_step ino (shown_by x) (blocks_shown_by kept) true h
    by more false h = ap (with_shown_block (shown_by x)) more ∙ drop_step ino (shown_by x) (blocks_shown_by kept) false h
