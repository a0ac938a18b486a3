-- Where nothing is out of its place, the leaves and their tree are as the rule on the tree says.
use Rattle.std.proofs.Common.{◌≡◌, ℕ, Bool, true, false, List, [], ◌∷◌, ◌++◌, Option, Some, None, refl, sym, subst, ◌∙◌, inl, inr, append_assoc}
use Rattle.std.specs.Prelude.{◌&&◌, ◌==◌, not, cond}
use Rattle.std.specs.BTreeMap.{is_at}
use Rattle.std.specs.List.{list_all, list_any}
use Rattle.std.specs.Map.{lookup}
use Rattle.std.specs.Ordering.{is_eq, nat_cmp}
use Rattle.std.specs.declared.cmp.Ordering.{Ordering}
use Rattle.std.specs.declared.cmp.Ordering.TheVariants.{Less, Equal, Greater}
use Rattle.std.proofs.lemmas.Bool.{and_from, cases_Bool, eq-eqb, not_from_false, or_left, or_right, or_parts, not-false}
use Rattle.std.proofs.lemmas.List.Folds.{list_any-append}
use Rattle.fs_laws.specs.Orders.{numbers}
use Rattle.fs_model.specs.declared.change.Change.{Change}
use Rattle.fs_model.specs.declared.change.Change.TheVariants.{SetBlock, SetEntry, SetInode, DropEntry, CutBlocks, DropInode}
use Rattle.fs_model.specs.declared.inode.Kind.TheVariants.{Dir}
use Rattle.fs_model.specs.Files.{Tree}
use Rattle.fs_model.specs.Proper.{has_kind}
use Rattle.leaf_map.specs.Kept.{Kept, shown_by}
use Rattle.leaf_map.specs.LeafMap.{are_apart, shows_same}
use Rattle.leaf_map.specs.Shown.{inodes_of, tree_of, with_shown_inode}
use Rattle.sound_image.specs.Breaches.{IsOutOfPlace, is_misfit, inode_number_of}
use Rattle.sound_image.specs.Tree.{is_in_place, is_named_well}
use Rattle.sound_image.specs.Wrong.{IsOneOf, Wrong, differs}
use Rattle.image_check.specs.WrongValues.{IsFirstOf}
use Rattle.tree_check.specs.Places.{AreInPlace, IsOutOfPlaceAt}
use Rattle.tree_check.proofs.Firsts.{one_more}

-- nothing is wrong with these leaves
abbrev NoneIsWrong : List Kept → Tree → ℕ × ℕ → Type 0
NoneIsWrong kept tree root = (at : Wrong) → IsOutOfPlaceAt kept tree root at → ⊥

no_leaf : (kept : List Kept) (tree : Tree) (root : ℕ × ℕ) → NoneIsWrong kept tree root → (x : Kept) → IsOneOf x kept → IsOutOfPlace kept tree x → ⊥
no_leaf kept tree root none x one out = none (record { lnum = x.leaf.lnum; offs = x.leaf.offs; misfit = differs (inode_number_of x) 0 }) (inl (x, one, out, refl))

no_misfit : (kept : List Kept) (tree : Tree) (root : ℕ × ℕ) → NoneIsWrong kept tree root → (x : Kept) → IsOneOf x kept → is_misfit tree (shown_by x) ≡ false
no_misfit kept tree root none x one = elim (cases_Bool (is_misfit tree (shown_by x))) [ inl misfit ↦ absurd (no_leaf kept tree root none x one (inl misfit)) | inr right ↦ right ]

-- ---- names
named_well : (tree : Tree) (c : Option Change) → is_misfit tree c ≡ false → is_named_well tree c ≡ true
named_well tree (Some (SetInode ino inode)) h = refl
named_well tree (Some (SetEntry e)) h = not-false (is_named_well tree (Some (SetEntry e))) h
named_well tree None h = refl
named_well tree (Some (SetBlock ino number bytes)) h = refl
named_well tree (Some (DropEntry dir name)) h = refl
named_well tree (Some (CutBlocks ino old_size new_size)) h = refl
named_well tree (Some (DropInode ino)) h = refl

all_named : (kept part : List Kept) (tree : Tree) (root : ℕ × ℕ) → NoneIsWrong kept tree root → ((x : Kept) → IsOneOf x part → IsOneOf x kept) → list_all (λ x. is_named_well tree (shown_by x)) part ≡ true
all_named kept [] tree root none within = refl
all_named kept (x ∷ part) tree root none within =
    and_from (is_named_well tree (shown_by x)) (list_all (λ y. is_named_well tree (shown_by y)) part) (named_well tree (shown_by x) (no_misfit kept tree root none x (within x ([], part, refl))))
    (all_named kept part tree root none (λ y one. within y (one_more y x part one)))

-- ---- directories
all_placed : (kept part : List Kept) (tree : Tree) (root : ℕ × ℕ) → NoneIsWrong kept tree root → ((x : Kept) → IsOneOf x part → IsOneOf x kept) → list_all (is_in_place tree) (inodes_of part) ≡ true
all_placed kept [] tree root none within = refl
all_placed kept (x ∷ part) tree root none within =
    by (all_placed kept part tree root none (λ y one. within y (one_more y x part one))) (shown_by x) (no_misfit kept tree root none x (within x ([], part, refl)))
  where
    by : list_all (is_in_place tree) (inodes_of part) ≡ true → (c : Option Change) → is_misfit tree c ≡ false → list_all (is_in_place tree) (with_shown_inode c (inodes_of part)) ≡ true
    by more (Some (SetInode ino inode)) h =
        and_from (is_in_place tree (ino, inode)) (list_all (is_in_place tree) (inodes_of part)) (not-false (is_in_place tree (ino, inode)) (or_parts (not (is_in_place tree (ino, inode))) ((ino == 1) && not (has_kind tree 1 Dir)) h).0) more
    by more None h = more
    by more (Some (SetBlock ino number bytes)) h = more
    by more (Some (SetEntry entry)) h = more
    by more (Some (DropEntry dir name)) h = more
    by more (Some (CutBlocks ino old_size new_size)) h = more
    by more (Some (DropInode ino)) h = more

-- ---- the root
-- inode 1 is found at a leaf that shows it, or a test fails at none
at_one : (ino : ℕ) (o : Ordering) → nat_cmp 1 ino ≡ o → is_eq o ≡ true → (ino == 1) ≡ true
at_one ino Less e k = absurd cc
at_one ino Equal e k = eq-eqb ino 1 (sym (numbers.exact 1 ino e))
at_one ino Greater e k = absurd cc

with_true : (a b : Bool) → a ≡ true → (a && not b) ≡ false → b ≡ true
with_true true true e h = refl
with_true true false e h = absurd cc
with_true false b e h = absurd cc

root_kind : (kept part : List Kept) (tree : Tree) (root : ℕ × ℕ) → NoneIsWrong kept tree root → ((x : Kept) → IsOneOf x part → IsOneOf x kept) → (lookup (is_at (nat_cmp 1)) (inodes_of part) ≡ None → ⊥) → has_kind tree 1 Dir ≡ true
root_kind kept [] tree root none within there = absurd (there refl)
root_kind kept (x ∷ part) tree root none within there =
    by (root_kind kept part tree root none (λ y one. within y (one_more y x part one))) (shown_by x) (no_misfit kept tree root none x (within x ([], part, refl))) there
  where
    by : ((lookup (is_at (nat_cmp 1)) (inodes_of part) ≡ None → ⊥) → has_kind tree 1 Dir ≡ true) → (c : Option Change) → is_misfit tree c ≡ false → (lookup (is_at (nat_cmp 1)) (with_shown_inode c (inodes_of part)) ≡ None → ⊥) → has_kind tree 1 Dir ≡ true
    by more (Some (SetInode ino inode)) h k = elim (cases_Bool (is_at (nat_cmp 1) ino)) [
      | inl here ↦ with_true (ino == 1) (has_kind tree 1 Dir) (at_one ino (nat_cmp 1 ino) refl here) (or_parts (not (is_in_place tree (ino, inode))) ((ino == 1) && not (has_kind tree 1 Dir)) h).1
      | inr other ↦
          let P : Bool → Type 0 = λ b. cond b (Some inode) (lookup (is_at (nat_cmp 1)) (inodes_of part)) ≡ None → ⊥ in
          more (subst P other k)
    ]
    by more None h k = more k
    by more (Some (SetBlock ino number bytes)) h k = more k
    by more (Some (SetEntry entry)) h k = more k
    by more (Some (DropEntry dir name)) h k = more k
    by more (Some (CutBlocks ino old_size new_size)) h k = more k
    by more (Some (DropInode ino)) h k = more k

-- ---- no leaf is there twice
apart_behind : (kept : List Kept) (tree : Tree) (root : ℕ × ℕ) → NoneIsWrong kept tree root → (first mid rest : List Kept) (x : Kept) → kept ≡ first ++ (x ∷ (mid ++ rest)) → list_all (λ y. not (shows_same (shown_by x) (shown_by y))) rest ≡ true
apart_behind kept tree root none first mid [] x parts = refl
apart_behind kept tree root none first mid (y ∷ rest) x parts =
    and_from (not (shows_same (shown_by x) (shown_by y))) (list_all (λ z. not (shows_same (shown_by x) (shown_by z))) rest) (not_from_false (shows_same (shown_by x) (shown_by y)) other)
    (apart_behind kept tree root none first (mid ++ y ∷ []) rest x (parts ∙ (let e : first ++ (x ∷ (mid ++ (y ∷ rest))) ≡ first ++ (x ∷ ((mid ++ y ∷ []) ++ rest)) = simp append_assoc in e)))
  where
    split : kept ≡ (first ++ (x ∷ mid)) ++ (y ∷ rest)
    split = parts ∙ (let e : first ++ (x ∷ (mid ++ (y ∷ rest))) ≡ (first ++ (x ∷ mid)) ++ (y ∷ rest) = simp append_assoc in e)

    other : shows_same (shown_by x) (shown_by y) ≡ false
    other = elim (cases_Bool (shows_same (shown_by x) (shown_by y))) [
      | inl same ↦
          let test = λ (z : Kept). shows_same (shown_by z) (shown_by y) in
          let any = list_any-append test first (x ∷ mid) ∙ or_right (list_any test first) (list_any test (x ∷ mid)) (or_left (test x) (list_any test mid) same) in
          absurd (no_leaf kept tree root none y (first ++ (x ∷ mid), rest, split) (inr (first ++ (x ∷ mid), rest, split, any)))
      | inr apart ↦ apart
    ]

all_apart : (kept : List Kept) (tree : Tree) (root : ℕ × ℕ) → NoneIsWrong kept tree root → (first rest : List Kept) → kept ≡ first ++ rest → are_apart rest ≡ true
all_apart kept tree root none first [] parts = refl
all_apart kept tree root none first (x ∷ rest) parts =
    and_from (list_all (λ y. not (shows_same (shown_by x) (shown_by y))) rest) (are_apart rest) (apart_behind kept tree root none first [] rest x parts)
    (all_apart kept tree root none (first ++ x ∷ []) rest (parts ∙ (let e : first ++ (x ∷ rest) ≡ (first ++ x ∷ []) ++ rest = simp append_assoc in e)))

pub places_right : (kept : List Kept) (highest : ℕ) (root : ℕ × ℕ) → IsFirstOf (IsOutOfPlaceAt kept (tree_of kept highest) root) None → AreInPlace kept (tree_of kept highest)
places_right kept highest root none = record {
  apart = all_apart kept (tree_of kept highest) root none [] kept refl;
  root = root_kind kept kept (tree_of kept highest) root none (λ x one. one) (λ missing. none (record { lnum = root.0; offs = root.1; misfit = differs 1 0 }) (inr (missing, refl)));
  entries = all_named kept kept (tree_of kept highest) root none (λ x one. one);
  dirs = all_placed kept kept (tree_of kept highest) root none (λ x one. one);
}
