-- A tree in which something is wrong doesn't meet the rules on it.
use Rattle.std.proofs.Common.{◌≡◌, ℕ, Bool, true, false, List, [], ◌∷◌, ◌++◌, Option, Some, None, refl, ap, sym, ◌∙◌, subst, inl, inr}
use Rattle.std.specs.Prelude.{◌==◌, ◌&&◌, ◌||◌, not, if◌then◌else◌, map, IsSome}
use Rattle.std.specs.List.{list_all, list_any}
use Rattle.std.specs.Option.{option_map_or}
use Rattle.std.proofs.lemmas.Bool.{not_from_true}
use Rattle.std.proofs.lemmas.Map.Keys.{IsDistinct-head, IsDistinct-tail}
use Rattle.media_sys.specs.declared.master.Master.{Master}
use Rattle.index_tree.specs.Distinct.{AreDistinct}
use Rattle.index_tree.specs.Removal.{holds, same_leaf}
use Rattle.index_tree.specs.declared.leaf.Leaf.{Leaf}
use Rattle.fs_model.specs.declared.change.Change.{Change}
use Rattle.fs_model.specs.declared.change.Change.TheVariants.{SetBlock, SetEntry, SetInode, DropEntry, CutBlocks, DropInode}
use Rattle.fs_model.specs.declared.inode.Inode.{Inode}
use Rattle.fs_model.specs.declared.inode.Kind.TheVariants.{Dir}
use Rattle.fs_model.specs.Files.{Inodes, Tree, inode_at}
use Rattle.fs_model.specs.Proper.{has_kind, same_kind}
use Rattle.group_nodes.specs.Nodes.{change_of}
use Rattle.leaf_map.specs.Kept.{Kept, Placed, shown_by}
use Rattle.leaf_map.specs.LeafMap.{are_apart, shows_same}
use Rattle.leaf_map.specs.Lost.{empty_names}
use Rattle.leaf_map.specs.Parts.{Parts}
use Rattle.leaf_map.specs.Recovered.{recovered_of, tree_found}
use Rattle.leaf_map.specs.Shown.{inodes_of, with_shown_inode}
use Rattle.sound_image.specs.Breaches.{IsCommittedTwice, IsWrongInTree, IsWrongLink, IsWrongNode, IsWrongThere, is_misfit}
use Rattle.sound_image.specs.Tree.{HasLinks, HasTree, IsCopy, ShowsItsNode, has_its_links, is_in_place, is_named_well}
use Rattle.sound_image.specs.Wrong.{IsOneOf, Wrong}
use Rattle.sound_image.proofs.Lists.{all_at, each_at, none_of, one_more, test_at, two_true}

-- an inode that a leaf shows is one of the tree's
in_front : (shown : Option Change) (e : ℕ × Inode) (inodes : Inodes) → IsOneOf e inodes → IsOneOf e (with_shown_inode shown inodes)
in_front None e inodes h = h
in_front (Some (SetInode ino inode)) e inodes h = one_more e (ino, inode) inodes h
in_front (Some (SetBlock ino number bytes)) e inodes h = h
in_front (Some (SetEntry entry)) e inodes h = h
in_front (Some (DropEntry dir name)) e inodes h = h
in_front (Some (CutBlocks ino old_size new_size)) e inodes h = h
in_front (Some (DropInode ino)) e inodes h = h

shown_inode : (before behind : List Kept) (x : Kept) (ino : ℕ) (inode : Inode) → shown_by x ≡ Some (SetInode ino inode) → IsOneOf (ino, inode) (inodes_of (before ++ (x ∷ behind)))
shown_inode [] behind x ino inode e = ([], inodes_of behind, ap (λ (s : Option Change). with_shown_inode s (inodes_of behind)) e)
shown_inode (y ∷ before) behind x ino inode e = in_front (shown_by y) (ino, inode) (inodes_of (before ++ (x ∷ behind))) (shown_inode before behind x ino inode e)

pub one_inode_shown : (kept : List Kept) (x : Kept) (ino : ℕ) (inode : Inode) → IsOneOf x kept → shown_by x ≡ Some (SetInode ino inode) → IsOneOf (ino, inode) (inodes_of kept)
one_inode_shown kept x ino inode (before, behind, e) shows = let P : List Kept → Type 0 = λ xs. IsOneOf (ino, inode) (inodes_of xs) in subst P (sym e) (shown_inode before behind x ino inode shows)

-- no leaf shows what one before it shows
none_before : (before behind : List Kept) (x : Kept) → are_apart (before ++ (x ∷ behind)) ≡ true → list_any (λ y. shows_same (shown_by y) (shown_by x)) before ≡ false
none_before [] behind x h = refl
none_before (b ∷ before) behind x h =
    let both = two_true (list_all (λ y. not (shows_same (shown_by b) (shown_by y))) (before ++ (x ∷ behind))) (are_apart (before ++ (x ∷ behind))) h in
    let own = test_at (λ (y : Kept). not (shows_same (shown_by b) (shown_by y))) x (before ++ (x ∷ behind)) (before, behind, refl) both.0 in
    neither (shows_same (shown_by b) (shown_by x)) (list_any (λ y. shows_same (shown_by y) (shown_by x)) before) own (none_before before behind x both.1)
  where
    neither : (p q : Bool) → not p ≡ true → q ≡ false → (p || q) ≡ false
    neither true q e f = absurd cc
    neither false q e f = f

-- nothing is out of its place
both_false : (a b : Bool) → a ≡ true → b ≡ false → (not a || b) ≡ false
both_false true b e f = f
both_false false b e f = absurd cc

not_both : (a b : Bool) → b ≡ true → (a && not b) ≡ false
not_both true true e = refl
not_both false true e = refl
not_both a false e = absurd cc

in_its_place : (tree : Tree) (kept : List Kept) (x : Kept) (shown : Option Change) → tree.inodes ≡ inodes_of kept → IsOneOf x kept → shown_by x ≡ shown → list_all (λ y. is_named_well tree (shown_by y)) kept ≡ true
    → list_all (is_in_place tree) tree.inodes ≡ true → has_kind tree 1 Dir ≡ true → is_misfit tree shown ≡ false
in_its_place tree kept x (Some (SetInode ino inode)) inodes one e names dirs root =
    let L : List (ℕ × Inode) → Type 0 = λ xs. IsOneOf (ino, inode) xs in
    both_false (is_in_place tree (ino, inode)) ((ino == 1) && not (has_kind tree 1 Dir))
    (test_at (is_in_place tree) (ino, inode) tree.inodes (subst L (sym inodes) (one_inode_shown kept x ino inode one e)) dirs) (not_both (ino == 1) (has_kind tree 1 Dir) root)
in_its_place tree kept x (Some (SetEntry entry)) inodes one e names dirs root = not_from_true (is_named_well tree (Some (SetEntry entry))) (ap (is_named_well tree) (sym e) ∙ test_at (λ (y : Kept). is_named_well tree (shown_by y)) x kept one names)
in_its_place tree kept x None inodes one e names dirs root = refl
in_its_place tree kept x (Some (SetBlock ino number bytes)) inodes one e names dirs root = refl
in_its_place tree kept x (Some (DropEntry dir name)) inodes one e names dirs root = refl
in_its_place tree kept x (Some (CutBlocks ino old_size new_size)) inodes one e names dirs root = refl
in_its_place tree kept x (Some (DropInode ino)) inodes one e names dirs root = refl

there_broken : (contents : ℕ → List ℕ) (parts : Parts) (x : Kept) → IsOneOf x (recovered_of parts).kept → HasTree contents parts → IsWrongThere contents parts x → ⊥
there_broken contents parts x one h (inl hidden) = hidden (all_at (ShowsItsNode contents) x (recovered_of parts).kept one h.shown)
there_broken contents parts x one h (inr (inl misfit)) =
    let e : true ≡ false = sym misfit ∙ in_its_place (tree_found parts) (recovered_of parts).kept x (shown_by x) refl one refl h.entries h.dirs h.root in
    absurd cc
there_broken contents parts x one h (inr (inr (before, behind, e, again))) =
    let P : List Kept → Type 0 = λ xs. are_apart xs ≡ true in
    let f : true ≡ false = sym again ∙ none_before before behind x (subst P e h.apart) in
    absurd cc

node_broken : (contents : ℕ → List ℕ) (parts : Parts) (at : Wrong) → HasTree contents parts → IsWrongNode parts at → ⊥
node_broken contents parts at h (x, inl (one, none), is) =
    let some = all_at (λ (y : Placed). IsSome (change_of y.node)) x parts.nodes one h.changes in
    let P : Option Change → Type 0 = λ o. IsSome o in
    let e = subst P none some in
    absurd cc
node_broken contents parts at h (x, inr (one, other), is) = other (all_at (IsCopy parts) x parts.copies one h.copies)

-- no leaf is there before itself, if leaves are distinct
not_held : (before behind : List Leaf) (leaf : Leaf) → AreDistinct (before ++ (leaf ∷ behind)) → holds leaf before ≡ false
not_held [] behind leaf h = refl
not_held (b ∷ before) behind leaf h =
    let apart = each_at (λ (y : Leaf). same_leaf b y ≡ false) leaf (before ++ (leaf ∷ behind)) (before, behind, refl) (IsDistinct-head same_leaf b (before ++ (leaf ∷ behind)) h) in
    ap (λ (c : Bool). if c then true else holds leaf before) apart ∙ not_held before behind leaf (IsDistinct-tail same_leaf b (before ++ (leaf ∷ behind)) h)

twice_broken : (parts : Parts) (at : Wrong) → IsCommittedTwice parts at → AreDistinct (map (λ x. x.leaf) parts.committed) → ⊥
twice_broken parts at (leaf, before, behind, e, again, is) h =
    let P : List Leaf → Type 0 = λ xs. AreDistinct xs in
    let f : true ≡ false = sym again ∙ not_held before behind leaf (subst P e h) in
    absurd cc

-- a tree with a root has its inode
no_root : (tree : Tree) → has_kind tree 1 Dir ≡ true → inode_at tree 1 ≡ None → ⊥
no_root tree root none = let e : true ≡ false = sym root ∙ ap (λ (o : Option Inode). option_map_or (λ inode. same_kind inode.kind Dir) o false) none in absurd cc

pub tree_broken : (contents : ℕ → List ℕ) (master : Master) (parts : Parts) (at : Wrong) → IsWrongInTree contents master parts at → HasTree contents parts → ⊥
tree_broken contents master parts at (inl node) h = node_broken contents parts at h node
tree_broken contents master parts at (inr (inl twice)) h = twice_broken parts at twice h.distinct
tree_broken contents master parts at (inr (inr (inl (x, before, behind, e, again, is)))) h =
    let P : List Kept → Type 0 = λ xs. are_apart xs ≡ true in
    let f : true ≡ false = sym again ∙ none_before before behind x (subst P e h.found) in
    absurd cc
tree_broken contents master parts at (inr (inr (inr (inl (x, one, is, there))))) h = there_broken contents parts x one h there
tree_broken contents master parts at (inr (inr (inr (inr (inl (leaf, one, is)))))) h = none_of leaf (empty_names parts) one h.named
tree_broken contents master parts at (inr (inr (inr (inr (inr (none, is)))))) h = no_root (tree_found parts) h.root none

pub links_broken : (parts : Parts) (at : Wrong) → IsWrongLink parts at → HasLinks (tree_found parts) → ⊥
links_broken parts at wrong h =
    let tree = tree_found parts in
    let one = one_inode_shown (recovered_of parts).kept wrong.x wrong.ino wrong.inode wrong.one wrong.shows in
    let e : true ≡ false = sym (test_at (has_its_links tree) (wrong.ino, wrong.inode) tree.inodes one h) ∙ wrong.other in
    absurd cc
