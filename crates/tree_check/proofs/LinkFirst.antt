-- The first inode whose links are wrong.
use Rattle.std.proofs.Common.{◌≡◌, ◌⊎◌, ℕ, Bool, true, false, List, [], ◌∷◌, length, Option, Some, None, refl, sym, ap, subst, ◌∙◌, inl, inr}
use Rattle.std.specs.Prelude.{◌||◌, ◌&&◌, ◌==◌, nat_lt, map, if◌then◌else◌, IfSome}
use Rattle.std.specs.List.{list_all}
use Rattle.std.proofs.lemmas.Bool.{and_from, cases_Bool}
use Rattle.fs_model.specs.declared.change.Change.{Change}
use Rattle.fs_model.specs.declared.change.Change.TheVariants.{SetBlock, SetEntry, SetInode, DropEntry, CutBlocks, DropInode}
use Rattle.fs_model.specs.declared.inode.Inode.{Inode}
use Rattle.fs_model.specs.Files.{Tree}
use Rattle.fs_model.specs.Path.{is_dir}
use Rattle.fs_model.specs.Proper.{names_of}
use Rattle.leaf_map.specs.Kept.{Kept, shown_by}
use Rattle.leaf_map.specs.Shown.{inodes_of, tree_of, with_shown_inode}
use Rattle.sound_image.specs.Breaches.{IsWrongLinkOf}
use Rattle.sound_image.specs.Tree.{HasLinks, has_its_links}
use Rattle.sound_image.specs.Wrong.{IsOneOf, Wrong, differs}
use Rattle.image_check.specs.WrongValues.{IsFirstOf, wrong_at}
use Rattle.image_check.specs.FirstLaws.{first_same}
use Rattle.image_check.specs.declared.wrong_value.WrongValue.{WrongValue}
use Rattle.tree_check.specs.declared.shown_leaf.Shown.{Shown}
use Rattle.tree_check.specs.declared.shown_leaf.Shown.TheVariants as shows
use Rattle.tree_check.specs.declared.shown_leaf.ShownLeaf.{ShownLeaf}
use Rattle.tree_check.specs.LinkFindings.{are_right, soonest_of, link_wrong, wrong_link}
use Rattle.tree_check.specs.Links.{count_to, links_shown}
use Rattle.tree_check.specs.Told.{AreShownBy, IsShownBy, shown_told}
use Rattle.tree_check.proofs.Firsts.{IsFoundAmong, first_over, kept_of, map_one, one_map, one_more, told_of}
use Rattle.tree_check.proofs.TestLaws.{told_all}
use Rattle.tree_check.proofs.Trees.{names_told}

-- what is wrong at a leaf
abbrev at_link : Tree → Kept → ℕ → Inode → Wrong
at_link tree x ino inode = record { lnum = x.leaf.lnum; offs = x.leaf.offs; misfit = differs (length (names_of tree ino)) inode.nlink }

abbrev place : (ℕ → ℕ) → ShownLeaf → ℕ → Inode → WrongValue
place names leaf ino inode = record { lnum = leaf.lnum; offs = leaf.offs; wanted = names ino; found = inode.nlink }

same_right : (tree : Tree) (names : ℕ → ℕ) → ((q : ℕ) → names q ≡ length (names_of tree q)) → (ino : ℕ) (inode : Inode) → are_right inode.kind inode.nlink (names ino) ≡ has_its_links tree (ino, inode)
same_right tree names same ino inode = ap (λ n. is_dir inode.kind || (nat_lt 0 inode.nlink && (inode.nlink == n))) (same ino)

same_place : (tree : Tree) (names : ℕ → ℕ) → ((q : ℕ) → names q ≡ length (names_of tree q)) → (x : Kept) (leaf : ShownLeaf) → IsShownBy x leaf → (ino : ℕ) (inode : Inode) → at_link tree x ino inode ≡ wrong_at (place names leaf ino inode)
same_place tree names same x leaf h ino inode = rw (same ino, h.lnum, h.offs) refl

-- ---- from the tree to what is told
link_told : (tree : Tree) (names : ℕ → ℕ) → ((q : ℕ) → names q ≡ length (names_of tree q)) → (x : Kept) (leaf : ShownLeaf) → IsShownBy x leaf → (ino : ℕ) (inode : Inode) → shown_by x ≡ Some (SetInode ino inode) → has_its_links tree (ino, inode) ≡ false
    → wrong_link names leaf ≡ Some (place names leaf ino inode)
link_told tree names same x leaf h ino inode shown other =
    let e : shown_told (Some (SetInode ino inode)) ≡ Some leaf.shown = subst (λ c. shown_told c ≡ Some leaf.shown) shown h.shown in
    let P : Shown → Type 0 = λ t. link_wrong names leaf t ≡ Some (place names leaf ino inode) in
    let wrong = same_right tree names same ino inode ∙ other in
    let is : shows.Inode ino inode.kind inode.nlink ≡ leaf.shown = cc in
    subst P is (ap (λ b. if b then None else Some (place names leaf ino inode)) wrong)

-- ---- and back
pub record IsLinkAt (tree : Tree) (x : Kept) (names : ℕ → ℕ) (leaf : ShownLeaf) (d : WrongValue) : Type 0 where
  ino : ℕ
  inode : Inode
  shows : shown_by x ≡ Some (SetInode ino inode)
  other : has_its_links tree (ino, inode) ≡ false
  is : d ≡ place names leaf ino inode

link_back : (tree : Tree) (names : ℕ → ℕ) → ((q : ℕ) → names q ≡ length (names_of tree q)) → (x : Kept) (leaf : ShownLeaf) (d : WrongValue) → IsShownBy x leaf → wrong_link names leaf ≡ Some d → IsLinkAt tree x names leaf d
link_back tree names same x leaf d h wrong = told_all (λ c s. shown_by x ≡ c → link_wrong names leaf s ≡ Some d → IsLinkAt tree x names leaf d) all (shown_by x) leaf.shown h.shown refl wrong
  where
    test : (ino : ℕ) (inode : Inode) → shown_by x ≡ Some (SetInode ino inode) → (b : Bool) → are_right inode.kind inode.nlink (names ino) ≡ b → (if b then None else Some (place names leaf ino inode)) ≡ Some d → IsLinkAt tree x names leaf d
    test ino inode shown true e k = absurd cc
    test ino inode shown false e k = let same_d : d ≡ place names leaf ino inode = cc in record { ino = ino; inode = inode; shows = shown; other = sym (same_right tree names same ino inode) ∙ e; is = same_d }

    all : (c : Option Change) → IfSome (shown_told c) (λ s. shown_by x ≡ c → link_wrong names leaf s ≡ Some d → IsLinkAt tree x names leaf d)
    all (Some (SetInode ino inode)) = λ shown k. test ino inode shown (are_right inode.kind inode.nlink (names ino)) refl k
    all (Some (DropInode ino)) = tt
    all c = λ shown k. absurd cc

-- ---- the first of them
pub link_first : (leaves : List ShownLeaf) (names : ℕ → ℕ) → ((q : ℕ) → names q ≡ count_to (links_shown leaves) q) → (kept : List Kept) (highest : ℕ) → AreShownBy kept leaves
    → IsFirstOf (IsWrongLinkOf kept (tree_of kept highest)) (soonest_of None (map (wrong_link names) leaves))
link_first leaves names counted kept highest h =
    let tree = tree_of kept highest in
    first_same (λ at. ⊥ ⊎ IsFoundAmong (map (wrong_link names) leaves) at) (IsWrongLinkOf kept tree) (soonest_of None (map (wrong_link names) leaves)) to from
    (first_over (map (wrong_link names) leaves) None (λ at. ⊥) (λ at none. none))
  where
    same : (q : ℕ) → names q ≡ length (names_of (tree_of kept highest) q)
    same q = counted q ∙ sym (names_told kept highest leaves h q)

    found : (at : Wrong) → IsFoundAmong (map (wrong_link names) leaves) at → IsWrongLinkOf kept (tree_of kept highest) at
    found at f =
        let l = one_map (wrong_link names) (Some f.0) leaves f.1 in
        let x = kept_of kept leaves h l.0 l.1 in
        let r = link_back (tree_of kept highest) names same x.0 l.0 f.0 x.2 l.2 in
        record {
          x = x.0;
          one = x.1;
          ino = r.ino;
          inode = r.inode;
          shows = r.shows;
          other = r.other;
          is = f.2 ∙ ap wrong_at r.is ∙ sym (same_place (tree_of kept highest) names same x.0 l.0 x.2 r.ino r.inode);
        }

    to : (at : Wrong) → ⊥ ⊎ IsFoundAmong (map (wrong_link names) leaves) at → IsWrongLinkOf kept (tree_of kept highest) at
    to at (inl none) = absurd none
    to at (inr f) = found at f

    from : (at : Wrong) → IsWrongLinkOf kept (tree_of kept highest) at → ⊥ ⊎ IsFoundAmong (map (wrong_link names) leaves) at
    from at w =
        let l = told_of kept leaves h w.x w.one in
        let d = place names l.0 w.ino w.inode in
        let P : Option WrongValue → Type 0 = λ o. IsOneOf o (map (wrong_link names) leaves) in
        inr (
          d,
          subst P (link_told (tree_of kept highest) names same w.x l.0 l.2 w.ino w.inode w.shows w.other) (map_one (wrong_link names) l.0 leaves l.1),
          w.is ∙ same_place (tree_of kept highest) names same w.x l.0 l.2 w.ino w.inode,
        )

-- ---- where there is none, all are right
all_right : (tree : Tree) (all part : List Kept) → ((x : Kept) → IsOneOf x part → IsOneOf x all) → ((at : Wrong) → IsWrongLinkOf all tree at → ⊥) → list_all (has_its_links tree) (inodes_of part) ≡ true
all_right tree all [] within none = refl
all_right tree all (x ∷ part) within none = by (all_right tree all part (λ y one. within y (one_more y x part one)) none) (shown_by x) refl
  where
    by : list_all (has_its_links tree) (inodes_of part) ≡ true → (c : Option Change) → shown_by x ≡ c → list_all (has_its_links tree) (with_shown_inode c (inodes_of part)) ≡ true
    by more (Some (SetInode ino inode)) e = elim (cases_Bool (has_its_links tree (ino, inode))) [
      | inl right ↦ and_from (has_its_links tree (ino, inode)) (list_all (has_its_links tree) (inodes_of part)) right more
      | inr wrong ↦ absurd (none (at_link tree x ino inode) (record { x = x; one = within x ([], part, refl); ino = ino; inode = inode; shows = e; other = wrong; is = refl }))
    ]
    by more None e = more
    by more (Some (SetBlock ino number bytes)) e = more
    by more (Some (SetEntry entry)) e = more
    by more (Some (DropEntry dir name)) e = more
    by more (Some (CutBlocks ino old_size new_size)) e = more
    by more (Some (DropInode ino)) e = more

pub links_right : (kept : List Kept) (highest : ℕ) → IsFirstOf (IsWrongLinkOf kept (tree_of kept highest)) None → HasLinks (tree_of kept highest)
links_right kept highest none = all_right (tree_of kept highest) kept kept (λ x one. one) none
