-- A directory has one name, so there are no more links to directories than there are numbers.
use Rattle.std.proofs.Common.{◌≡◌, ℕ, zero, suc, ◌+◌, ◌<◌, ◌≤◌, ◌⊎◌, inl, inr, Bool, true, false, cond, not, List, [], ◌∷◌, length, map, Some, None, Option, refl, sym, ap, subst, ◌∙◌, arith, eqb}
use Rattle.std.specs.Ordering.{nat_cmp}
use Rattle.std.specs.Prelude.{filter, count_by, ◌==◌, ◌&&◌, ◌||◌, nat_le}
use Rattle.std.specs.List.{AllByRecursion, IsDistinct, list_any, list_all}
use Rattle.std.specs.Map.{values_of, lookup}
use Rattle.std.proofs.lemmas.Bool.{and_parts, eqb-true, eq-eqb, false≢true, leb-true, le-ltb}
use Rattle.std.proofs.lemmas.Bool.Decides.{eqb_tells}
use Rattle.std.proofs.lemmas.List.{length-map}
use Rattle.std.proofs.lemmas.List.Sums.{length-filter, sum_by-cons}
use Rattle.std.proofs.lemmas.Map.Steps.{length-le_from_distinct_below}
use Rattle.fs_model.specs.declared.inode.Inode.{Inode}
use Rattle.fs_model.specs.declared.inode.Entry.{Entry}
use Rattle.fs_model.specs.declared.inode.Kind.{Kind}
use Rattle.fs_model.specs.declared.inode.Kind.TheVariants.{File, Dir, Symlink, Block, Char, Fifo, Socket}
use Rattle.fs_model.specs.Directory.{dir_links, entries_in, is_linked_out}
use Rattle.fs_model.specs.Files.{Tree, Inodes, inode_at}
use Rattle.fs_model.specs.Path.{is_dir}
use Rattle.fs_laws.specs.Maps.{all_at, values_all}
use Rattle.fs_laws.specs.Orders.{numbers}
use Rattle.std.specs.Option.{option_map_or}
use Rattle.fs_model.specs.Proper.{IsProper, climbs, same_kind, has_kind, is_sound_dir, is_sound_entry, is_sound_inode, names_of}

abbrev named : ℕ → Entry → Bool
named n e = e.ino == n

-- the numbers of directories among those entries that stand in one
abbrev dirs : ℕ → List Entry → List ℕ
dirs dir es = map (λ e. e.ino) (filter (λ e. is_dir e.kind) (filter (λ e. e.dir == dir) es))

skipped : (dir : ℕ) (P : List ℕ → Type 0) (e : Entry) (es : List Entry) → P (dirs dir es) → (is_dir e.kind ≡ true → P (e.ino ∷ dirs dir es)) → P (dirs dir (e ∷ es))
skipped dir P e es rest here = by (e.dir == dir) (is_dir e.kind) refl refl
  where
    by : (a b : Bool) → (e.dir == dir) ≡ a → is_dir e.kind ≡ b → P (dirs dir (e ∷ es))
    by false b x y = rw x rest
    by true false x y = rw (x, y) rest
    by true true x y = rw (x, y) (here y)

counted : (n : ℕ) (e : Entry) (es : List Entry) → count_by (named n) (e ∷ es) ≡ cond (e.ino == n) 1 0 + count_by (named n) es
counted n e es = sum_by-cons (λ x. cond (named n x) 1 0) e es

-- a number that no entry has
absent : (dir n : ℕ) (es : List Entry) → count_by (named n) es ≡ 0 → AllByRecursion (λ m. eqb n m ≡ false) (dirs dir es)
absent dir n [] none = tt
absent dir n (e ∷ es) none = by (eqb_tells e.ino n) (absent dir n es)
  where
    by : ((e.ino == n) ≡ true) × (e.ino ≡ n) ⊎ ((e.ino == n) ≡ false) × (e.ino ≡ n → ⊥) → (count_by (named n) es ≡ 0 → AllByRecursion (λ m. eqb n m ≡ false) (dirs dir es)) → AllByRecursion (λ m. eqb n m ≡ false) (dirs dir (e ∷ es))
    by (inl same) more = let one = counted n e es ∙ ap (λ b. cond b 1 0 + count_by (named n) es) same.0 in absurd (omega (arith, one, none))
    by (inr other) more =
        let rest = counted n e es ∙ ap (λ b. cond b 1 0 + count_by (named n) es) other.0 in
        let gone = more (omega (arith, rest, none)) in
        skipped dir (λ ms. AllByRecursion (λ m. eqb n m ≡ false) ms) e es gone (λ d. (apart, gone))
      where
        apart : eqb n e.ino ≡ false
        apart = elim (eqb_tells n e.ino) [ inl s ↦ absurd (other.1 (sym s.1)) | inr o ↦ o.0 ]

-- where each directory has one name, none is listed twice
distinct : (dir : ℕ) (all es : List Entry) → ((n : ℕ) → count_by (named n) es ≤ count_by (named n) all) → AllByRecursion (λ e. is_dir e.kind ≡ true → count_by (named e.ino) all ≤ 1) es → IsDistinct eqb (dirs dir es)
unfolding IsDistinct
distinct dir all [] few one = tt
distinct dir all (e ∷ es) few one = by (distinct dir all es (λ n. let f = few n in let c = counted n e es in omega (arith, f, c)) one.1)
  where
    none : is_dir e.kind ≡ true → count_by (named e.ino) es ≡ 0
    none d =
        let f = few e.ino in
        let o = one.0 d in
        let here = counted e.ino e es ∙ ap (λ b. cond b 1 0 + count_by (named e.ino) es) (eq-eqb e.ino e.ino refl) in
        omega (arith, f, o, here)

    by : IsDistinct eqb (dirs dir es) → IsDistinct eqb (dirs dir (e ∷ es))
    by rest = skipped dir (λ ms. IsDistinct eqb ms) e es rest (λ d. (absent dir e.ino es (none d), rest))

-- no number passes the highest
within : (dir highest : ℕ) (es : List ((ℕ × List ℕ) × Entry)) → list_all (λ e. nat_le e.0.0 highest && nat_le e.1.ino highest) es ≡ true → (k : ℕ) → list_any (eqb k) (dirs dir (values_of es)) ≡ true → k < highest + 1
within dir highest [] low k found = absurd (false≢true found)
within dir highest (e ∷ es) low k found =
    skipped dir (λ ms. list_any (eqb k) ms ≡ true → k < highest + 1) e.1 (values_of es) (within dir highest es parts.1 k)
    (λ d f. by (eqb_tells k e.1.ino) f (within dir highest es parts.1 k)) found
  where
    parts : ((nat_le e.0.0 highest && nat_le e.1.ino highest) ≡ true) × (list_all (λ e. nat_le e.0.0 highest && nat_le e.1.ino highest) es ≡ true)
    parts = and_parts (nat_le e.0.0 highest && nat_le e.1.ino highest) (list_all (λ e. nat_le e.0.0 highest && nat_le e.1.ino highest) es) low

    low_here : e.1.ino ≤ highest
    low_here = leb-true e.1.ino highest (and_parts (nat_le e.0.0 highest) (nat_le e.1.ino highest) parts.0).1

    by : ((eqb k e.1.ino ≡ true) × (k ≡ e.1.ino)) ⊎ ((eqb k e.1.ino ≡ false) × (k ≡ e.1.ino → ⊥)) → list_any (eqb k) (e.1.ino ∷ dirs dir (values_of es)) ≡ true → (list_any (eqb k) (dirs dir (values_of es)) ≡ true → k < highest + 1) → k < highest + 1
    by (inl s) found more = let same = s.1 in let low = low_here in omega (arith, same, low)
    by (inr o) found more = more (rw o.0 at found)

-- a directory's kind
kind_is : (kind : Kind) → is_dir kind ≡ true → kind ≡ Dir
kind_is Dir d = refl
kind_is File d = absurd (false≢true d)
kind_is Symlink d = absurd (false≢true d)
kind_is Block d = absurd (false≢true d)
kind_is Char d = absurd (false≢true d)
kind_is Fifo d = absurd (false≢true d)
kind_is Socket d = absurd (false≢true d)

-- a directory's inode, of which its kind was seen
dir_is : (a b : Kind) → is_dir b ≡ true → same_kind a b ≡ true → is_dir a ≡ true
dir_is a b d s = by a (subst (λ k. same_kind a k ≡ true) (kind_is b d) s)
  where
    by : (k : Kind) → same_kind k Dir ≡ true → is_dir k ≡ true
    by Dir t = refl
    by File t = absurd (false≢true t)
    by Symlink t = absurd (false≢true t)
    by Block t = absurd (false≢true t)
    by Char t = absurd (false≢true t)
    by Fifo t = absurd (false≢true t)
    by Socket t = absurd (false≢true t)

-- a directory that isn't the root has one name
one_name : (tree : Tree) → IsProper tree → (e : Entry) → is_sound_entry tree e ≡ true → is_dir e.kind ≡ true → count_by (named e.ino) (values_of tree.entries) ≤ 1
one_name tree proper e sound dir = by (inode_at tree e.ino) refl parts.0.1
  where
    parts : ((has_kind tree e.dir Dir ≡ true) × (has_kind tree e.ino e.kind ≡ true)) × (not (e.ino == 1) ≡ true)
    parts =
        let a = and_parts (has_kind tree e.dir Dir && has_kind tree e.ino e.kind) (not (e.ino == 1)) sound in
        (and_parts (has_kind tree e.dir Dir) (has_kind tree e.ino e.kind) a.0, a.1)

    named_once : (b : Bool) → (e.ino == 1) ≡ b → not b ≡ true → (b || ((length (names_of tree e.ino) == 1) && climbs tree (length tree.inodes) e.ino)) ≡ true → length (names_of tree e.ino) ≡ 1
    named_once true x n s = absurd (false≢true n)
    named_once false x n s = eqb-true (length (names_of tree e.ino)) 1 (and_parts (length (names_of tree e.ino) == 1) (climbs tree (length tree.inodes) e.ino) s).0

    here : (inode : Inode) → inode_at tree e.ino ≡ Some inode → is_dir inode.kind ≡ true → count_by (named e.ino) (values_of tree.entries) ≤ 1
    here inode found d =
        let s = all_at nat_cmp numbers (is_sound_inode tree) tree.inodes e.ino inode proper.inodes found in
        let hangs = rw d at s in
        let one = named_once (e.ino == 1) refl parts.1 hangs in
        let counts : count_by (named e.ino) (values_of tree.entries) ≡ 1 = sym (length-filter (named e.ino) (values_of tree.entries)) ∙ one in
        omega (arith, counts)

    by : (o : Option Inode) → inode_at tree e.ino ≡ o → option_map_or (λ inode. same_kind inode.kind e.kind) o false ≡ true → count_by (named e.ino) (values_of tree.entries) ≤ 1
    by None f t = absurd (false≢true t)
    by (Some inode) f t = here inode f (dir_is inode.kind e.kind dir t)

all_named : (tree : Tree) → IsProper tree → (es : List Entry) → list_all (is_sound_entry tree) es ≡ true → AllByRecursion (λ e. is_dir e.kind ≡ true → count_by (named e.ino) (values_of tree.entries) ≤ 1) es
all_named tree proper [] all = tt
all_named tree proper (e ∷ es) all =
    let parts = and_parts (is_sound_entry tree e) (list_all (is_sound_entry tree) es) all in
    (one_name tree proper e parts.0, all_named tree proper es parts.1)

few_links : (tree : Tree) (dir : ℕ) → IsProper tree → tree.highest < 64997 → is_linked_out (dir_links tree dir) ≡ false
few_links tree dir proper low =
    let es = values_of tree.entries in
    let ns = dirs dir es in
    let inodes_low = list_all (λ (e : ℕ × Inode). nat_le e.0 tree.highest) tree.inodes in
    let blocks_low = list_all (λ (e : (ℕ × ℕ) × List ℕ). nat_le e.0.0 tree.highest) tree.blocks in
    let entries_low = list_all (λ (e : (ℕ × List ℕ) × Entry). nat_le e.0.0 tree.highest && nat_le e.1.ino tree.highest) tree.entries in
    let low_numbers = (and_parts (inodes_low && blocks_low) entries_low proper.numbers).1 in
    let few : length ns ≤ tree.highest + 1 = length-le_from_distinct_below ns (tree.highest + 1) (distinct dir es es (λ n. omega arith) (all_named tree proper es proper.entries)) (within dir tree.highest tree.entries low_numbers) in
    let same : length ns ≡ count_by (λ e. is_dir e.kind) (entries_in tree dir) = length-map (filter (λ e. is_dir e.kind) (entries_in tree dir)) (λ (e : Entry). e.ino) ∙ length-filter (λ e. is_dir e.kind) (entries_in tree dir) in
    let below : dir_links tree dir ≤ 64999 = omega (arith, few, same, low) in
    le-ltb 64999 (dir_links tree dir) below

pub not_full : (tree : Tree) (dir : ℕ) (kind : Kind) → IsProper tree → tree.highest < 64997 → false ≡ (is_dir kind && is_linked_out (dir_links tree dir))
not_full tree dir kind proper low = by (is_dir kind)
  where
    by : (b : Bool) → false ≡ (b && is_linked_out (dir_links tree dir))
    by true = sym (few_links tree dir proper low)
    by false = refl
