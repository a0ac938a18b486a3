-- What is shown tells the place of a leaf in the order of keys.
use Rattle.std.proofs.Common.{◌≡◌, ℕ, ◌+◌, ◌*◌, ◌^◌, ◌≤◌, Bool, true, List, [], ◌∷◌, map, refl, ap, ◌∙◌, arith, Option, Some}
use Rattle.std.specs.Prelude.{◌==◌, nat_le}
use Rattle.std.specs.List.{list_all}
use Rattle.std.specs.Cmp.Lexicographic.{slice_cmp}
use Rattle.std.specs.Ordering.{nat_cmp, is_eq}
use Rattle.std.specs.declared.cmp.Ordering.{Ordering}
use Rattle.std.specs.declared.cmp.Ordering.TheVariants.{Less, Equal, Greater}
use Rattle.std.proofs.lemmas.Bool.{false≢true, and_parts, and_from, eqb-true, leb-true, le-leb}
use Rattle.std.proofs.lemmas.Map.Lookups.{exact_bytes}
use Rattle.ubifs_base.specs.R5.{r5_of}
use Rattle.index_tree.specs.declared.leaf.Leaf.{Leaf}
use Rattle.index_tree.specs.Order.{leaf_rank, ordered_from}
use Rattle.fs_model.specs.declared.change.Change.{Change}
use Rattle.fs_model.specs.declared.change.Change.TheVariants.{SetInode, SetEntry, SetBlock}
use Rattle.fs_model.specs.Path.{is_same_name}
use Rattle.leaf_map.specs.After.{goes, is_set}
use Rattle.leaf_map.specs.Kept.{Kept}
use Rattle.leaf_map.specs.RankLaws.{rank_shown}

-- names that are told as the same are
pub name_is : (a b : List ℕ) → is_same_name a b ≡ true → a ≡ b
name_is a b h = by (slice_cmp nat_cmp a b) refl h
  where
    by : (o : Ordering) → slice_cmp nat_cmp a b ≡ o → is_eq o ≡ true → a ≡ b
    by Less e t = absurd (false≢true t)
    by Equal e t = exact_bytes a b e
    by Greater e t = absurd (false≢true t)

-- what a change sets has the place of what it makes obsolete
pub same_rank : (change : Change) (s : Option Change) → is_set change ≡ true → goes change s ≡ true → rank_shown s ≡ rank_shown (Some change)
same_rank (SetInode ino inode) (Some (SetInode other old)) set h = ap (λ n. n * 2 ^ 33) (eqb-true other ino h)
same_rank (SetInode ino inode) s set h = absurd (false≢true h)
same_rank (SetEntry e) (Some (SetEntry old)) set h =
    let p = and_parts (old.dir == e.dir) (is_same_name old.name e.name) h in
    ap (λ n. n * 2 ^ 33 + (2 ^ 30 + r5_of old.name)) (eqb-true old.dir e.dir p.0) ∙ ap (λ name. e.dir * 2 ^ 33 + (2 ^ 30 + r5_of name)) (name_is old.name e.name p.1)
same_rank (SetEntry e) s set h = absurd (false≢true h)
same_rank (SetBlock ino number bytes) (Some (SetBlock other at old)) set h =
    let p = and_parts (other == ino) (at == number) h in
    ap (λ n. n * 2 ^ 33 + (2 ^ 29 + at)) (eqb-true other ino p.0) ∙ ap (λ n. ino * 2 ^ 33 + (2 ^ 29 + n)) (eqb-true at number p.1)
same_rank (SetBlock ino number bytes) s set h = absurd (false≢true h)
same_rank change s set h = absurd (false≢true set)

-- the leaves of a list
abbrev pub leaves : List Kept → List Leaf
leaves kept = map (λ x. x.leaf) kept

-- whether no leaf has a lower place
abbrev pub are_from : ℕ → List Kept → Bool
are_from low kept = list_all (λ x. nat_le low (leaf_rank x.leaf)) kept

le_trans : (a b c : ℕ) → a ≤ b → nat_le b c ≡ true → nat_le a c ≡ true
le_trans a b c l h = let k = leb-true b c h in le-leb a c (omega (arith, l, k))

-- leaves in order have no lower place than the first
pub ordered_all : (low mark : ℕ) (kept : List Kept) → low ≤ mark → ordered_from mark (leaves kept) ≡ true → are_from low kept ≡ true
ordered_all low mark [] l h = refl
ordered_all low mark (x ∷ kept) l h =
    let p = and_parts (nat_le mark (leaf_rank x.leaf)) (ordered_from (leaf_rank x.leaf) (leaves kept)) h in
    let here = leb-true mark (leaf_rank x.leaf) p.0 in
    and_from (nat_le low (leaf_rank x.leaf)) (are_from low kept) (le-leb low (leaf_rank x.leaf) (omega (arith, l, here))) (ordered_all low (leaf_rank x.leaf) kept (omega (arith, l, here)) p.1)
