-- The first of leaves, by the numbers by which they are named.
use Rattle.std.proofs.Common.{◌≡◌, ℕ, List, [], ◌∷◌, fold, refl, ap, sym, ◌∙◌, subst, Option, Some, None}
use Rattle.ubifs_base.specs.Key.{key_words}
use Rattle.fs_model.specs.declared.change.Change.{Change}
use Rattle.fs_model.specs.declared.change.Change.TheVariants as changes
use Rattle.index_tree.specs.declared.leaf.Leaf.{Leaf}
use Rattle.leaf_map.specs.Kept.{Kept, shown_by}
use Rattle.leaf_recovery.specs.Told.{Pairwise}
use Rattle.sound_image.specs.Breaches.{inode_number_of}
use Rattle.sound_image.specs.Wrong.{Wrong, differs}
use Rattle.image_check.specs.WrongValues.{IsFirstOf, sooner_of, wrong_at}
use Rattle.image_check.specs.declared.wrong_value.WrongValue.{WrongValue}
use Rattle.tree_check.specs.Places.{misplaced_at, number_shown}
use Rattle.tree_check.specs.Told.{AreShownBy, IsShownBy, shown_told}
use Rattle.tree_check.specs.declared.shown_leaf.Shown.{Shown}
use Rattle.tree_check.specs.declared.shown_leaf.ShownLeaf.{ShownLeaf}
use Rattle.image_tree.specs.Sources.{empty_at}
use Rattle.image_tree.specs.Trees.{IsNamedIn}
use Rattle.image_tree.proofs.Members.{IsAtOne, first_told, same_pairs}

some_same : (a b : Shown) → Some a ≡ Some b → a ≡ b
some_same a b h = cc

number_is : (x : Kept) (c : Option Change) (s : Shown) → shown_by x ≡ c → shown_told c ≡ Some s → number_shown (key_words x.leaf.key).0 s ≡ inode_number_of x
number_is x None s f e = ap (number_shown (key_words x.leaf.key).0) (sym (some_same _ s e)) ∙ rw f refl
number_is x (Some (changes.SetInode ino inode)) s f e = ap (number_shown (key_words x.leaf.key).0) (sym (some_same _ s e)) ∙ rw f refl
number_is x (Some (changes.SetEntry entry)) s f e = ap (number_shown (key_words x.leaf.key).0) (sym (some_same _ s e)) ∙ rw f refl
number_is x (Some (changes.DropEntry dir name)) s f e = ap (number_shown (key_words x.leaf.key).0) (sym (some_same _ s e)) ∙ rw f refl
number_is x (Some (changes.SetBlock ino number bytes)) s f e = ap (number_shown (key_words x.leaf.key).0) (sym (some_same _ s e)) ∙ rw f refl
number_is x (Some (changes.CutBlocks ino old_size new_size)) s f e = ap (number_shown (key_words x.leaf.key).0) (sym (some_same _ s e)) ∙ rw f refl
number_is x (Some (changes.DropInode ino)) s f e = absurd cc

abbrev pub wrong_named : Kept → Wrong
wrong_named x = record { lnum = x.leaf.lnum; offs = x.leaf.offs; misfit = differs (inode_number_of x) 0 }

named_is : (x : Kept) (leaf : ShownLeaf) → IsShownBy x leaf → wrong_at (misplaced_at leaf) ≡ wrong_named x
named_is x leaf h =
    ap (λ (n : ℕ). record { lnum = n; offs = leaf.offs; misfit = differs (number_shown leaf.number leaf.shown) 0 }) h.lnum
    ∙ ap (λ (n : ℕ). record { lnum = x.leaf.lnum; offs = n; misfit = differs (number_shown leaf.number leaf.shown) 0 }) h.offs
    ∙ ap (λ (n : ℕ). record { lnum = x.leaf.lnum; offs = x.leaf.offs; misfit = differs (number_shown n leaf.shown) 0 }) h.number
    ∙ ap (λ (n : ℕ). record { lnum = x.leaf.lnum; offs = x.leaf.offs; misfit = differs n 0 }) (number_is x (shown_by x) leaf.shown refl h.shown)

shown_pairs : (kept : List Kept) (leaves : List ShownLeaf) → AreShownBy kept leaves → Pairwise IsShownBy kept leaves
shown_pairs [] [] h = tt
shown_pairs [] (leaf ∷ leaves) h = absurd h
shown_pairs (x ∷ kept) [] h = absurd h
shown_pairs (x ∷ kept) (leaf ∷ leaves) h = (h.0, shown_pairs kept leaves h.1)

pub named_first : (kept : List Kept) (leaves : List ShownLeaf) → AreShownBy kept leaves → IsFirstOf (IsNamedIn kept) (fold (λ first leaf. sooner_of first (Some (misplaced_at leaf))) None leaves)
named_first kept leaves h = first_told wrong_named misplaced_at IsShownBy named_is kept leaves (shown_pairs kept leaves h)

abbrev pub wrong_empty : Leaf → Wrong
wrong_empty leaf = record { lnum = leaf.lnum; offs = leaf.offs; misfit = differs 0 0 }

empty_first : (leaves : List Leaf) → IsFirstOf (IsAtOne wrong_empty leaves) (fold (λ first leaf. sooner_of first (Some (empty_at leaf))) None leaves)
empty_first leaves = first_told wrong_empty empty_at (λ a b. a ≡ b) (λ x y e. ap wrong_empty (sym e)) leaves leaves (same_pairs leaves)

-- of leaves that are these names, once they were gone over
pub empty_named : (leaves names : List Leaf) (first : Option WrongValue) → leaves ≡ names → first ≡ fold (λ first leaf. sooner_of first (Some (empty_at leaf))) None leaves → IsFirstOf (IsAtOne wrong_empty names) first
empty_named leaves names first same is =
    let E : List Leaf → Type 0 = λ ls. IsFirstOf (IsAtOne wrong_empty ls) first in
    let F : Option WrongValue → Type 0 = λ o. IsFirstOf (IsAtOne wrong_empty leaves) o in
    subst E same (subst F (sym is) (empty_first leaves))

pub no_empty : (leaves : List Leaf) → ((at : Wrong) → IsAtOne wrong_empty leaves at → ⊥) → leaves ≡ []
no_empty [] none = refl
no_empty (x ∷ leaves) none = absurd (none (wrong_empty x) (x, ([], leaves, refl), refl))
