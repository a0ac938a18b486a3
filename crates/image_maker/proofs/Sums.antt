-- What the nodes of a tree come to, part by part.
use Rattle.std.proofs.Common.{◌≡◌, ℕ, ◌+◌, ◌<◌, ◌≤◌, Bool, true, false, cond, List, [], ◌∷◌, refl, sym, ◌∙◌, ap, arith}
use Rattle.std.specs.Prelude.{◌==◌, nat_lt, filter, map, fold, count_by}
use Rattle.std.specs.BTreeMap.{insert_entry}
use Rattle.std.specs.List.{sum_by}
use Rattle.std.specs.Map.{values_of}
use Rattle.std.specs.Ordering.{match_ordering}
use Rattle.std.specs.declared.cmp.Ordering.{Ordering}
use Rattle.std.specs.declared.cmp.Ordering.TheVariants.{Less, Equal, Greater}
use Rattle.std.proofs.lemmas.Bool.Decides.{nat_tests}
use Rattle.std.proofs.lemmas.List.Sums.{sum_by-cons}
use Rattle.ubifs_base.specs.R5.{r5_of}
use Rattle.fs_model.specs.declared.inode.Entry.{Entry}
use Rattle.fs_model.specs.Cover.{block_bytes, entry_bytes}
use Rattle.fs_model.specs.Directory.{by_hash}
use Rattle.fs_model.specs.Files.{Blocks, name_cmp}
use Rattle.fs_model.specs.Path.{is_dir}
use Rattle.group_nodes.specs.Texts.{padded_leaf_bytes}
use Rattle.image_maker.specs.Leaves.{block_leaf, entry_leaf}

-- ---- rows by the number that they belong to
abbrev pub part : {R : Type 0} → (R → ℕ) → (R → Bool) → List R → ℕ
part weight test rows = sum_by weight (filter test rows)

pub part_cons : {R : Type 0} (weight : R → ℕ) (test : R → Bool) (r : R) (rows : List R) → part weight test (r ∷ rows) ≡ cond (test r) (weight r) 0 + part weight test rows
part_cons weight test r rows = by (test r)
  where
    by : (b : Bool) → sum_by weight (cond b (r ∷ filter test rows) (filter test rows)) ≡ cond b (weight r) 0 + sum_by weight (filter test rows)
    by true = sum_by-cons weight r (filter test rows)
    by false = omega arith

pub part_le : {R : Type 0} (weight : R → ℕ) (test : R → Bool) (rows : List R) → part weight test rows ≤ sum_by weight rows
part_le weight test [] = omega arith
part_le weight test (r ∷ rows) =
    let more = part_le weight test rows in
    let here = part_cons weight test r rows in
    let sum = sum_by-cons weight r rows in
    let one : cond (test r) (weight r) 0 ≤ weight r = by (test r) in
    omega (arith, more, here, sum, one)
  where
    by : (b : Bool) → cond b (weight r) 0 ≤ weight r
    by true = omega arith
    by false = omega arith

one_row : (a i k w : ℕ) → a < i → cond (k == i) w 0 + cond (nat_lt i k) w 0 ≤ cond (nat_lt a k) w 0
one_row a i k w h = by (k == i) (nat_lt i k) (nat_lt a k) refl refl refl
  where
    by : (p q r : Bool) → (k == i) ≡ p → nat_lt i k ≡ q → nat_lt a k ≡ r → cond p w 0 + cond q w 0 ≤ cond r w 0
    by true true r e f g =
        let same : k ≡ i = grind (arith, nat_tests) in
        let less : i < k = grind (arith, nat_tests) in
        absurd (omega (arith, same, less))
    by true false true e f g = omega arith
    by true false false e f g =
        let same : k ≡ i = grind (arith, nat_tests) in
        let less : k ≤ a = grind (arith, nat_tests) in
        absurd (omega (arith, same, less, h))
    by false true true e f g = omega arith
    by false true false e f g =
        let more : i < k = grind (arith, nat_tests) in
        let less : k ≤ a = grind (arith, nat_tests) in
        absurd (omega (arith, more, less, h))
    by false false r e f g = omega arith

-- those of one number and those past it are among those past a smaller one
pub part_step : {R : Type 0} (weight key : R → ℕ) (a i : ℕ) → a < i → (rows : List R)
    → part weight (λ r. key r == i) rows + part weight (λ r. nat_lt i (key r)) rows ≤ part weight (λ r. nat_lt a (key r)) rows
part_step weight key a i h [] = omega arith
part_step weight key a i h (r ∷ rows) =
    let more = part_step weight key a i h rows in
    let here = part_cons weight (λ r. key r == i) r rows in
    let past = part_cons weight (λ r. nat_lt i (key r)) r rows in
    let all = part_cons weight (λ r. nat_lt a (key r)) r rows in
    let one = one_row a i (key r) (weight r) h in
    omega (arith, more, here, past, all, one)

-- ---- blocks
abbrev pub block_weight : (ℕ × ℕ) × List ℕ → ℕ
block_weight stored = block_bytes stored.1

pub sum_by-block_leaves : (blocks : Blocks) → sum_by padded_leaf_bytes (map block_leaf blocks) ≡ sum_by block_weight blocks
sum_by-block_leaves [] = refl
sum_by-block_leaves (b ∷ blocks) =
    sum_by-cons padded_leaf_bytes (block_leaf b) (map block_leaf blocks)
    ∙ ap (λ n. block_bytes b.1 + n) (sum_by-block_leaves blocks)
    ∙ sym (sum_by-cons block_weight b blocks)

pub sum_by-blocks : (blocks : Blocks) → sum_by block_bytes (values_of blocks) ≡ sum_by block_weight blocks
sum_by-blocks [] = refl
sum_by-blocks (b ∷ blocks) =
    sum_by-cons block_bytes b.1 (values_of blocks)
    ∙ ap (λ n. block_bytes b.1 + n) (sum_by-blocks blocks)
    ∙ sym (sum_by-cons block_weight b blocks)

-- ---- entries
pub sum_by-entry_leaves : (entries : List Entry) → sum_by padded_leaf_bytes (map entry_leaf entries) ≡ sum_by entry_bytes entries
sum_by-entry_leaves [] = refl
sum_by-entry_leaves (e ∷ entries) =
    sum_by-cons padded_leaf_bytes (entry_leaf e) (map entry_leaf entries)
    ∙ ap (λ n. entry_bytes e + n) (sum_by-entry_leaves entries)
    ∙ sym (sum_by-cons entry_bytes e entries)

abbrev Rows : Type 0
Rows = List ((ℕ × List ℕ) × Entry)

sum_by-insert : (w : Entry → ℕ) (rows : Rows) (k : ℕ × List ℕ) (e : Entry) → sum_by w (values_of (insert_entry name_cmp rows k e)) ≤ sum_by w (values_of rows) + w e
sum_by-insert w [] k e = let one = sum_by-cons w e [] in omega (arith, one)
sum_by-insert w (r ∷ rows) k e = by (sum_by-insert w rows k e) (name_cmp k r.0)
  where
    by : sum_by w (values_of (insert_entry name_cmp rows k e)) ≤ sum_by w (values_of rows) + w e → (o : Ordering) → sum_by w (values_of (match_ordering o ((k, e) ∷ r ∷ rows) ((r.0, e) ∷ rows) (r ∷ insert_entry name_cmp rows k e))) ≤ sum_by w (values_of (r ∷ rows)) + w e
    by more Less = let new = sum_by-cons w e (values_of (r ∷ rows)) in omega (arith, new)
    by more Equal =
        let new = sum_by-cons w e (values_of rows) in
        let old = sum_by-cons w r.1 (values_of rows) in
        omega (arith, new, old)
    by more Greater =
        let new = sum_by-cons w r.1 (values_of (insert_entry name_cmp rows k e)) in
        let old = sum_by-cons w r.1 (values_of rows) in
        omega (arith, more, new, old)

sum_by-sorted : (w : Entry → ℕ) (rows : Rows) (entries : List Entry) → sum_by w (values_of (fold (λ sorted e. insert_entry name_cmp sorted (r5_of e.name, e.name) e) rows entries)) ≤ sum_by w (values_of rows) + sum_by w entries
sum_by-sorted w rows [] = omega arith
sum_by-sorted w rows (e ∷ entries) =
    let more = sum_by-sorted w (insert_entry name_cmp rows (r5_of e.name, e.name) e) entries in
    let here = sum_by-insert w rows (r5_of e.name, e.name) e in
    let sum = sum_by-cons w e entries in
    omega (arith, more, here, sum)

-- sorted by hash they are no more
pub sum_by-by_hash : (w : Entry → ℕ) (entries : List Entry) → sum_by w (by_hash entries) ≤ sum_by w entries
sum_by-by_hash w entries = let all = sum_by-sorted w [] entries in omega (arith, all)

-- each entry takes bytes
pub count_le-sum_by : (entries : List Entry) → count_by (λ e. is_dir e.kind) entries ≤ sum_by entry_bytes entries
count_le-sum_by [] = omega arith
count_le-sum_by (e ∷ entries) =
    let more = count_le-sum_by entries in
    let sum = sum_by-cons entry_bytes e entries in
    let count : count_by (λ e. is_dir e.kind) (e ∷ entries) ≡ cond (is_dir e.kind) 1 0 + count_by (λ e. is_dir e.kind) entries = sum_by-cons (λ e. cond (is_dir e.kind) 1 0) e entries in
    let here : 1 ≤ entry_bytes e = omega arith in
    let one : cond (is_dir e.kind) 1 0 ≤ 1 = by (is_dir e.kind) in
    omega (arith, more, sum, count, here, one)
  where
    by : (b : Bool) → cond b 1 0 ≤ 1
    by true = omega arith
    by false = omega arith
