-- The links of a tree are right, or one inode's are wrong first.
use Rattle.std.proofs.Common.{◌≡◌, ℕ, Bool, true, false, List, [], ◌∷◌, ◌++◌, length, Option, Some, None, refl, sym, subst, inl, inr}
use Rattle.std.specs.Prelude.{◌⊎◌, ◌&&◌, if◌then◌else◌}
use Rattle.std.specs.List.{list_all}
use Rattle.fs_model.specs.declared.change.Change.{Change}
use Rattle.fs_model.specs.declared.change.Change.TheVariants.{SetBlock, SetEntry, SetInode, DropEntry, CutBlocks, DropInode}
use Rattle.fs_model.specs.declared.inode.Inode.{Inode}
use Rattle.fs_model.specs.Files.{Tree}
use Rattle.fs_model.specs.Proper.{names_of}
use Rattle.leaf_map.specs.Kept.{Kept, shown_by}
use Rattle.leaf_map.specs.Parts.{Parts}
use Rattle.leaf_map.specs.Recovered.{recovered_of, tree_found}
use Rattle.leaf_map.specs.Shown.{inodes_of, with_shown_inode}
use Rattle.sound_image.specs.Breaches.{IsWrongLink}
use Rattle.sound_image.specs.Tree.{HasLinks, has_its_links}
use Rattle.sound_image.specs.Wrong.{IsFirstWrong, IsOneOf, Wrong, comes_before, differs}
use Rattle.sound_image.proofs.FirstOf.{head_or, one_is_first}
use Rattle.sound_image.proofs.Lists.{none_of, one_more}

-- what is wrong at a leaf that shows an inode
abbrev at_link : Tree → Kept → ℕ → Inode → Wrong
at_link tree x ino inode = record { lnum = x.leaf.lnum; offs = x.leaf.offs; misfit = differs (length (names_of tree ino)) inode.nlink }

abbrev if_wrong : Tree → Kept → Option Change → List Wrong → List Wrong
if_wrong tree x (Some (SetInode ino inode)) rest = if has_its_links tree (ino, inode) then rest else at_link tree x ino inode ∷ rest
if_wrong tree x other rest = rest

-- what is wrong with the links of leaves
abbrev wrong_links : Tree → List Kept → List Wrong
wrong_links tree [] = []
wrong_links tree (x ∷ kept) = if_wrong tree x (shown_by x) (wrong_links tree kept)

-- each is wrong at one of the leaves
record IsLinkOf (tree : Tree) (kept : List Kept) (at : Wrong) : Type 0 where
  x : Kept
  one : IsOneOf x kept
  ino : ℕ
  inode : Inode
  shows : shown_by x ≡ Some (SetInode ino inode)
  other : has_its_links tree (ino, inode) ≡ false
  is : at ≡ at_link tree x ino inode

link_more : (tree : Tree) (y : Kept) (kept : List Kept) (at : Wrong) → IsLinkOf tree kept at → IsLinkOf tree (y ∷ kept) at
link_more tree y kept at h = record { x = h.x; one = one_more h.x y kept h.one; ino = h.ino; inode = h.inode; shows = h.shows; other = h.other; is = h.is }

are_links : (tree : Tree) (kept : List Kept) (at : Wrong) → IsOneOf at (wrong_links tree kept) → IsLinkOf tree kept at
are_links tree [] at h = absurd (none_of at [] h refl)
are_links tree (x ∷ kept) at h = by (λ k. link_more tree x kept at (are_links tree kept at k)) (shown_by x) refl h
  where
    by : (IsOneOf at (wrong_links tree kept) → IsLinkOf tree (x ∷ kept) at) → (s : Option Change) → shown_by x ≡ s → IsOneOf at (if_wrong tree x s (wrong_links tree kept)) → IsLinkOf tree (x ∷ kept) at
    by more (Some (SetInode ino inode)) e k = test (has_its_links tree (ino, inode)) refl k
      where
        test : (b : Bool) → has_its_links tree (ino, inode) ≡ b → IsOneOf at (if b then wrong_links tree kept else at_link tree x ino inode ∷ wrong_links tree kept) → IsLinkOf tree (x ∷ kept) at
        test true f l = more l
        test false f l = elim (head_or (at_link tree x ino inode) at (wrong_links tree kept) l) [
          | inl own ↦ record { x = x; one = ([], kept, refl); ino = ino; inode = inode; shows = e; other = f; is = sym own }
          | inr rest ↦ more rest
        ]
    by more None e k = more k
    by more (Some (SetBlock ino number bytes)) e k = more k
    by more (Some (SetEntry entry)) e k = more k
    by more (Some (DropEntry dir name)) e k = more k
    by more (Some (CutBlocks ino old_size new_size)) e k = more k
    by more (Some (DropInode ino)) e k = more k

-- and each that is wrong is among them
in_rest : (tree : Tree) (y : Kept) (s : Option Change) (at : Wrong) (rest : List Wrong) → IsOneOf at rest → IsOneOf at (if_wrong tree y s rest)
in_rest tree y (Some (SetInode ino inode)) at rest h = by (has_its_links tree (ino, inode))
  where
    by : (b : Bool) → IsOneOf at (if b then rest else at_link tree y ino inode ∷ rest)
    by true = h
    by false = one_more at (at_link tree y ino inode) rest h
in_rest tree y None at rest h = h
in_rest tree y (Some (SetBlock ino number bytes)) at rest h = h
in_rest tree y (Some (SetEntry entry)) at rest h = h
in_rest tree y (Some (DropEntry dir name)) at rest h = h
in_rest tree y (Some (CutBlocks ino old_size new_size)) at rest h = h
in_rest tree y (Some (DropInode ino)) at rest h = h

at_front : (tree : Tree) (before behind : List Kept) (x : Kept) (ino : ℕ) (inode : Inode) → shown_by x ≡ Some (SetInode ino inode) → has_its_links tree (ino, inode) ≡ false → IsOneOf (at_link tree x ino inode) (wrong_links tree (before ++ (x ∷ behind)))
at_front tree [] behind x ino inode e f =
    let P : Option Change → Type 0 = λ s. IsOneOf (at_link tree x ino inode) (if_wrong tree x s (wrong_links tree behind)) in
    let Q : Bool → Type 0 = λ b. IsOneOf (at_link tree x ino inode) (if b then wrong_links tree behind else at_link tree x ino inode ∷ wrong_links tree behind) in
    subst P (sym e) (subst Q (sym f) ([], wrong_links tree behind, refl))
at_front tree (y ∷ before) behind x ino inode e f = in_rest tree y (shown_by y) (at_link tree x ino inode) (wrong_links tree (before ++ (x ∷ behind))) (at_front tree before behind x ino inode e f)

among : (tree : Tree) (kept : List Kept) (x : Kept) (ino : ℕ) (inode : Inode) → IsOneOf x kept → shown_by x ≡ Some (SetInode ino inode) → has_its_links tree (ino, inode) ≡ false → IsOneOf (at_link tree x ino inode) (wrong_links tree kept)
among tree kept x ino inode (before, behind, parts) e f = let P : List Kept → Type 0 = λ xs. IsOneOf (at_link tree x ino inode) (wrong_links tree xs) in subst P (sym parts) (at_front tree before behind x ino inode e f)

-- where there is none, all are right
both : (a b : Bool) → a ≡ true → b ≡ true → (a && b) ≡ true
both a b e f = rw (e, f) refl

all_right : (tree : Tree) (kept : List Kept) → wrong_links tree kept ≡ [] → list_all (has_its_links tree) (inodes_of kept) ≡ true
all_right tree [] h = refl
all_right tree (x ∷ kept) h = by (all_right tree kept) (shown_by x) h
  where
    by : (wrong_links tree kept ≡ [] → list_all (has_its_links tree) (inodes_of kept) ≡ true) → (s : Option Change) → if_wrong tree x s (wrong_links tree kept) ≡ [] → list_all (has_its_links tree) (with_shown_inode s (inodes_of kept)) ≡ true
    by more (Some (SetInode ino inode)) k = test (has_its_links tree (ino, inode)) refl k
      where
        test : (b : Bool) → has_its_links tree (ino, inode) ≡ b → (if b then wrong_links tree kept else at_link tree x ino inode ∷ wrong_links tree kept) ≡ [] → (has_its_links tree (ino, inode) && list_all (has_its_links tree) (inodes_of kept)) ≡ true
        test true f l = both (has_its_links tree (ino, inode)) (list_all (has_its_links tree) (inodes_of kept)) f (more l)
        test false f l = absurd cc
    by more None k = more k
    by more (Some (SetBlock ino number bytes)) k = more k
    by more (Some (SetEntry entry)) k = more k
    by more (Some (DropEntry dir name)) k = more k
    by more (Some (CutBlocks ino old_size new_size)) k = more k
    by more (Some (DropInode ino)) k = more k

abbrev LinksOrFirst : Parts → Type 0
LinksOrFirst parts = HasLinks (tree_found parts) ⊎ ((at : Wrong) × IsFirstWrong (IsWrongLink parts) at)

as_wrong : (parts : Parts) (at : Wrong) → IsLinkOf (tree_found parts) (recovered_of parts).kept at → IsWrongLink parts at
as_wrong parts at h = record { x = h.x; one = h.one; ino = h.ino; inode = h.inode; shows = h.shows; other = h.other; is = h.is }

pub links_or_first : (parts : Parts) → LinksOrFirst parts
links_or_first parts = by (wrong_links (tree_found parts) (recovered_of parts).kept) refl
  where
    by : (wrongs : List Wrong) → wrong_links (tree_found parts) (recovered_of parts).kept ≡ wrongs → LinksOrFirst parts
    by [] e = inl (all_right (tree_found parts) (recovered_of parts).kept e)
    by (w ∷ wrongs) e =
        let f = one_is_first w wrongs in
        let P : List Wrong → Type 0 = λ ws. IsOneOf f.0 ws in
        inr (
          f.0,
          record {
            wrong = as_wrong parts f.0 (are_links (tree_found parts) (recovered_of parts).kept f.0 (subst P (sym e) f.1));
            least = λ other wrong.
                let Q : List Wrong → Type 0 = λ ws. IsOneOf (at_link (tree_found parts) wrong.x wrong.ino wrong.inode) ws in
                subst (λ (o : Wrong). comes_before o f.0 ≡ false) (sym wrong.is) (f.2 (at_link (tree_found parts) wrong.x wrong.ino wrong.inode) (subst Q e (among (tree_found parts) (recovered_of parts).kept wrong.x wrong.ino wrong.inode wrong.one wrong.shows wrong.other)));
          },
        )
