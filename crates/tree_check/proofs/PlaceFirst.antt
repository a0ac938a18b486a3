-- The first leaf that is out of its place.
use Rattle.std.proofs.Common.{◌≡◌, ◌⊎◌, ℕ, Bool, true, false, List, [], ◌∷◌, ◌++◌, length, Option, Some, None, refl, sym, ap, subst, ◌∙◌, inl, inr, append_assoc, append-nil}
use Rattle.std.specs.Prelude.{◌||◌, ◌&&◌, ◌==◌, IfSome, not}
use Rattle.std.specs.List.{list_any}
use Rattle.std.specs.Option.{option_map, option_map_or}
use Rattle.std.proofs.lemmas.Bool.{or_cases, or_left, or_right}
use Rattle.ubifs_base.specs.Key.{key_words}
use Rattle.fs_model.specs.declared.change.Change.{Change}
use Rattle.fs_model.specs.declared.change.Change.TheVariants.{SetBlock, SetEntry, SetInode, DropEntry, CutBlocks, DropInode}
use Rattle.fs_model.specs.declared.inode.Inode.{Inode}
use Rattle.fs_model.specs.declared.inode.Kind.{Kind}
use Rattle.fs_model.specs.declared.inode.Kind.TheVariants.{Dir}
use Rattle.fs_model.specs.Files.{Tree, inode_at}
use Rattle.fs_model.specs.Path.{is_dir}
use Rattle.fs_model.specs.Proper.{climbs, has_kind, names_of, same_kind}
use Rattle.leaf_map.specs.After.{goes}
use Rattle.leaf_map.specs.Kept.{Kept, shown_by}
use Rattle.leaf_map.specs.LeafMap.{shows_same}
use Rattle.leaf_map.specs.Shown.{tree_of}
use Rattle.sound_image.specs.Breaches.{IsOutOfPlace, is_misfit, inode_number_of}
use Rattle.sound_image.specs.Wrong.{IsOneOf, Wrong, differs}
use Rattle.image_check.specs.WrongValues.{IsFirstOf, wrong_at}
use Rattle.image_check.specs.FirstLaws.{first_alone, first_same}
use Rattle.image_check.specs.declared.wrong_value.WrongValue.{WrongValue}
use Rattle.tree_check.specs.declared.shown_leaf.Shown.{Shown}
use Rattle.tree_check.specs.declared.shown_leaf.ShownLeaf.{ShownLeaf}
use Rattle.tree_check.specs.Facts.{AreFactsOf, Facts, is_kind, is_misplaced}
use Rattle.tree_check.specs.Kinds.{inodes_shown}
use Rattle.tree_check.specs.LinkFindings.{soonest_of}
use Rattle.tree_check.specs.Places.{IsOutOfPlaceAt, is_wrong_behind, number_shown, misplaced_at, wrong_if, wrong_root, wrongs_behind}
use Rattle.tree_check.specs.Seen.{cuts_block, same_block, same_inode, same_name, same_told}
use Rattle.tree_check.specs.Told.{AreShownBy, IsShownBy, shown_told}
use Rattle.tree_check.proofs.Firsts.{IsFoundAmong, first_over, head_or, none_of, one_more}
use Rattle.tree_check.proofs.TestLaws.{told_all}
use Rattle.tree_check.proofs.Trees.{climbs_told, has_kind_told, inodes_told, kinds_told, names_told}

-- ---- the same is shown
goes_inode : (ino : ℕ) (inode : Inode) (c : Option Change) → IfSome (shown_told c) (λ s. goes (SetInode ino inode) c ≡ same_inode ino s)
goes_inode ino inode (Some (DropInode n)) = tt
goes_inode ino inode c = refl

goes_entry : (dir : ℕ) (name : List ℕ) (ino : ℕ) (kind : Kind) (c : Option Change) → IfSome (shown_told c) (λ s. goes (SetEntry (record { dir = dir; name = name; ino = ino; kind = kind })) c ≡ same_name dir name s)
goes_entry dir name ino kind (Some (DropInode n)) = tt
goes_entry dir name ino kind c = refl

goes_name : (dir : ℕ) (name : List ℕ) (c : Option Change) → IfSome (shown_told c) (λ s. goes (DropEntry dir name) c ≡ same_name dir name s)
goes_name dir name (Some (DropInode n)) = tt
goes_name dir name c = refl

goes_block : (ino number : ℕ) (bytes : List ℕ) (c : Option Change) → IfSome (shown_told c) (λ s. goes (SetBlock ino number bytes) c ≡ same_block ino number s)
goes_block ino number bytes (Some (DropInode n)) = tt
goes_block ino number bytes c = refl

goes_cut : (ino old_size new_size : ℕ) (c : Option Change) → IfSome (shown_told c) (λ s. goes (CutBlocks ino old_size new_size) c ≡ cuts_block ino new_size s)
goes_cut ino old_size new_size (Some (DropInode n)) = tt
goes_cut ino old_size new_size c = refl

same_shown : (a b : Option Change) (s t : Shown) → shown_told a ≡ Some s → shown_told b ≡ Some t → shows_same a b ≡ same_told s t
same_shown a b s t e f = told_all (λ c z. shows_same c b ≡ same_told z t) all a s e
  where
    all : (c : Option Change) → IfSome (shown_told c) (λ z. shows_same c b ≡ same_told z t)
    all None = refl
    all (Some (SetInode ino inode)) = told_all (λ c z. goes (SetInode ino inode) c ≡ same_inode ino z) (goes_inode ino inode) b t f
    all (Some (SetEntry n)) = told_all (λ c z. goes (SetEntry n) c ≡ same_name n.dir n.name z) (goes_entry n.dir n.name n.ino n.kind) b t f
    all (Some (DropEntry dir name)) = told_all (λ c z. goes (DropEntry dir name) c ≡ same_name dir name z) (goes_name dir name) b t f
    all (Some (SetBlock ino number bytes)) = told_all (λ c z. goes (SetBlock ino number bytes) c ≡ same_block ino number z) (goes_block ino number bytes) b t f
    all (Some (CutBlocks ino old_size new_size)) = told_all (λ c z. goes (CutBlocks ino old_size new_size) c ≡ cuts_block ino new_size z) (goes_cut ino old_size new_size) b t f
    all (Some (DropInode ino)) = tt

any_told : (before : List Kept) (shown : List ShownLeaf) → AreShownBy before shown → (c : Option Change) (s : Shown) → shown_told c ≡ Some s → list_any (λ y. shows_same (shown_by y) c) before ≡ list_any (λ (y : ShownLeaf). same_told y.shown s) shown
any_told [] [] h c s e = refl
any_told [] (leaf ∷ shown) h c s e = absurd h
any_told (x ∷ before) [] h c s e = absurd h
any_told (x ∷ before) (leaf ∷ shown) h c s e = rw (same_shown (shown_by x) c leaf.shown s h.0.shown e, any_told before shown h.1 c s e) refl

-- ---- what is out of its place by itself
record FactsOfTree (tree : Tree) (facts : Facts) : Type 0 where
  kind : (q : ℕ) (k : Kind) → has_kind tree q k ≡ is_kind facts q k
  names : (q : ℕ) → length (names_of tree q) ≡ facts.names q
  reached : (q : ℕ) → climbs tree (length tree.inodes) q ≡ facts.reached q

facts_of_tree : (kept : List Kept) (highest : ℕ) (leaves : List ShownLeaf) (facts : Facts) → AreShownBy kept leaves → AreFactsOf leaves facts → FactsOfTree (tree_of kept highest) facts
facts_of_tree kept highest leaves facts h f = record {
  kind = λ q k. has_kind_told kept highest leaves h q k ∙ ap (λ (o : Option Kind). option_map_or (λ kind. same_kind kind k) o false) (sym (f.kind q));
  names = λ q. names_told kept highest leaves h q ∙ sym (f.names q);
  reached = λ q. ap (λ n. climbs (tree_of kept highest) n q) (inodes_told kept leaves h) ∙ climbs_told kept highest leaves h (inodes_shown leaves) q ∙ sym (f.reached q);
}

misfit_told : (tree : Tree) (facts : Facts) → FactsOfTree tree facts → (c : Option Change) (s : Shown) → shown_told c ≡ Some s → is_misfit tree c ≡ is_misplaced facts s
misfit_told tree facts f = told_all (λ c s. is_misfit tree c ≡ is_misplaced facts s) all
  where
    all : (c : Option Change) → IfSome (shown_told c) (λ s. is_misfit tree c ≡ is_misplaced facts s)
    all (Some (SetInode ino inode)) =
        ap (λ n. not (not (is_dir inode.kind) || ((ino == 1) || ((n == 1) && climbs tree (length tree.inodes) ino))) || ((ino == 1) && not (has_kind tree 1 Dir))) (f.names ino)
        ∙ ap (λ r. not (not (is_dir inode.kind) || ((ino == 1) || ((facts.names ino == 1) && r))) || ((ino == 1) && not (has_kind tree 1 Dir))) (f.reached ino)
        ∙ ap (λ k. not (not (is_dir inode.kind) || ((ino == 1) || ((facts.names ino == 1) && facts.reached ino))) || ((ino == 1) && not k)) (f.kind 1 Dir)
    all (Some (SetEntry n)) =
        ap (λ a. not (a && has_kind tree n.ino n.kind && not (n.ino == 1))) (f.kind n.dir Dir)
        ∙ ap (λ b. not (is_kind facts n.dir Dir && b && not (n.ino == 1))) (f.kind n.ino n.kind)
    all (Some (DropInode ino)) = tt
    all None = refl
    all (Some (DropEntry dir name)) = refl
    all (Some (SetBlock ino number bytes)) = refl
    all (Some (CutBlocks ino old_size new_size)) = refl

-- ---- the number by which a leaf is named
number_by : ℕ → Option Change → ℕ
number_by number (Some (SetEntry e)) = e.ino
number_by number other = number

number_is : (x : Kept) (c : Option Change) → shown_by x ≡ c → inode_number_of x ≡ number_by (key_words x.leaf.key).0 c
unfolding number_by
number_is x c e = rw (sym e) refl

number_told : (number : ℕ) (c : Option Change) (s : Shown) → shown_told c ≡ Some s → number_by number c ≡ number_shown number s
unfolding number_by
number_told number = told_all (λ c s. number_by number c ≡ number_shown number s) all
  where
    all : (c : Option Change) → IfSome (shown_told c) (λ s. number_by number c ≡ number_shown number s)
    all (Some (DropInode ino)) = tt
    all (Some (SetEntry n)) = refl
    all (Some (SetInode ino inode)) = refl
    all None = refl
    all (Some (DropEntry dir name)) = refl
    all (Some (SetBlock ino number bytes)) = refl
    all (Some (CutBlocks ino old_size new_size)) = refl

-- what is wrong at a leaf
abbrev at_leaf : Kept → Wrong
at_leaf x = record { lnum = x.leaf.lnum; offs = x.leaf.offs; misfit = differs (inode_number_of x) 0 }

place_told : (x : Kept) (leaf : ShownLeaf) → IsShownBy x leaf → wrong_at (misplaced_at leaf) ≡ at_leaf x
place_told x leaf h =
    let n = number_is x (shown_by x) refl ∙ number_told (key_words x.leaf.key).0 (shown_by x) leaf.shown h.shown in
    let m : number_shown leaf.number leaf.shown ≡ inode_number_of x = ap (λ k. number_shown k leaf.shown) h.number ∙ sym n in
    rw (m, h.lnum, h.offs) refl

-- ---- from what is told to the tree
shown_push : (before : List Kept) (shown : List ShownLeaf) (x : Kept) (leaf : ShownLeaf) → AreShownBy before shown → IsShownBy x leaf → AreShownBy (before ++ x ∷ []) (shown ++ leaf ∷ [])
shown_push [] [] x leaf h k = (k, tt)
shown_push [] (l ∷ shown) x leaf h k = absurd h
shown_push (y ∷ before) [] x leaf h k = absurd h
shown_push (y ∷ before) (l ∷ shown) x leaf h k = (h.0, shown_push before shown x leaf h.1 k)

record IsPlacedWrong (all : List Kept) (tree : Tree) (d : WrongValue) : Type 0 where
  x : Kept
  one : IsOneOf x all
  out : IsOutOfPlace all tree x
  is : wrong_at d ≡ at_leaf x

found_out : (all : List Kept) (tree : Tree) (facts : Facts) → FactsOfTree tree facts → (before kept : List Kept) (shown leaves : List ShownLeaf) → AreShownBy before shown → AreShownBy kept leaves → all ≡ before ++ kept
    → (d : WrongValue) → IsOneOf (Some d) (wrongs_behind facts shown leaves) → IsPlacedWrong all tree d
found_out all tree facts f before [] shown [] hb hk parts d one = absurd (none_of (Some d) one)
found_out all tree facts f before [] shown (leaf ∷ leaves) hb hk parts d one = absurd hk
found_out all tree facts f before (x ∷ kept) shown [] hb hk parts d one = absurd hk
found_out all tree facts f before (x ∷ kept) shown (leaf ∷ leaves) hb hk parts d one =
    elim (head_or (Some d) (wrong_if (is_wrong_behind facts shown leaf) leaf) (wrongs_behind facts (shown ++ leaf ∷ []) leaves) one) [
      | inl here ↦ test (is_wrong_behind facts shown leaf) refl here
      | inr rest ↦
          found_out all tree facts f (before ++ x ∷ []) kept (shown ++ leaf ∷ []) leaves (shown_push before shown x leaf hb hk.0) hk.1
          (parts ∙ (let e : before ++ (x ∷ kept) ≡ (before ++ x ∷ []) ++ kept = simp append_assoc in e)) d rest
    ]
  where
    out : is_wrong_behind facts shown leaf ≡ true → IsOutOfPlace all tree x
    out e = elim (or_cases (is_misplaced facts leaf.shown) (list_any (λ (y : ShownLeaf). same_told y.shown leaf.shown) shown) e) [
      | inl misplaced ↦ inl (misfit_told tree facts f (shown_by x) leaf.shown hk.0.shown ∙ misplaced)
      | inr repeated ↦ inr (before, kept, parts, any_told before shown hb (shown_by x) leaf.shown hk.0.shown ∙ repeated)
    ]

    test : (b : Bool) → is_wrong_behind facts shown leaf ≡ b → wrong_if b leaf ≡ Some d → IsPlacedWrong all tree d
    test true e k = let same : misplaced_at leaf ≡ d = cc in record { x = x; one = (before, kept, parts); out = out e; is = ap wrong_at (sym same) ∙ place_told x leaf hk.0 }
    test false e k = absurd cc

-- ---- and back
record IsToldAt (wrongs : List (Option WrongValue)) (x : Kept) : Type 0 where
  leaf : ShownLeaf
  told : IsShownBy x leaf
  one : IsOneOf (Some (misplaced_at leaf)) wrongs

told_more : (w : Option WrongValue) (wrongs : List (Option WrongValue)) (x : Kept) → IsToldAt wrongs x → IsToldAt (w ∷ wrongs) x
told_more w wrongs x t = record { leaf = t.leaf; told = t.told; one = one_more (Some (misplaced_at t.leaf)) w wrongs t.one }

told_here : (b : Bool) (leaf : ShownLeaf) (wrongs : List (Option WrongValue)) (x : Kept) → IsShownBy x leaf → b ≡ true → IsToldAt (wrong_if b leaf ∷ wrongs) x
told_here b leaf wrongs x h e =
    let P : Bool → Type 0 = λ t. IsToldAt (wrong_if t leaf ∷ wrongs) x in
    subst P (sym e) (record { leaf = leaf; told = h; one = ([], wrongs, refl) })

misfit_found : (tree : Tree) (facts : Facts) → FactsOfTree tree facts → (kept : List Kept) (shown leaves : List ShownLeaf) → AreShownBy kept leaves → (x : Kept) → IsOneOf x kept → is_misfit tree (shown_by x) ≡ true → IsToldAt (wrongs_behind facts shown leaves) x
misfit_found tree facts f [] shown leaves h x one e = absurd (none_of x one)
misfit_found tree facts f (y ∷ kept) shown [] h x one e = absurd h
misfit_found tree facts f (y ∷ kept) shown (leaf ∷ leaves) h x one e = elim (head_or x y kept one) [
  | inl here ↦
      let k = subst (λ z. IsShownBy z leaf) here h.0 in
      told_here (is_wrong_behind facts shown leaf) leaf (wrongs_behind facts (shown ++ leaf ∷ []) leaves) x k
      (or_left (is_misplaced facts leaf.shown) (list_any (λ (y : ShownLeaf). same_told y.shown leaf.shown) shown) (sym (misfit_told tree facts f (shown_by x) leaf.shown k.shown) ∙ e))
  | inr rest ↦ told_more (wrong_if (is_wrong_behind facts shown leaf) leaf) (wrongs_behind facts (shown ++ leaf ∷ []) leaves) x (misfit_found tree facts f kept (shown ++ leaf ∷ []) leaves h.1 x rest e)
]

-- where a leaf shows what one of those before it shows, which are these and then those
repeat_found : (facts : Facts) (first before behind : List Kept) (x : Kept) (shown leaves : List ShownLeaf) → AreShownBy first shown → AreShownBy (before ++ (x ∷ behind)) leaves
    → list_any (λ y. shows_same (shown_by y) (shown_by x)) (first ++ before) ≡ true → IsToldAt (wrongs_behind facts shown leaves) x
repeat_found facts first [] behind x shown [] hf h e = absurd h
repeat_found facts first [] behind x shown (leaf ∷ leaves) hf h e =
    let none : first ++ [] ≡ first = simp append-nil in
    let P : List Kept → Type 0 = λ ks. list_any (λ y. shows_same (shown_by y) (shown_by x)) ks ≡ true in
    told_here (is_wrong_behind facts shown leaf) leaf (wrongs_behind facts (shown ++ leaf ∷ []) leaves) x h.0
    (or_right (is_misplaced facts leaf.shown) (list_any (λ (y : ShownLeaf). same_told y.shown leaf.shown) shown) (sym (any_told first shown hf (shown_by x) leaf.shown h.0.shown) ∙ subst P none e))
repeat_found facts first (y ∷ before) behind x shown [] hf h e = absurd h
repeat_found facts first (y ∷ before) behind x shown (leaf ∷ leaves) hf h e =
    let same : first ++ (y ∷ before) ≡ (first ++ y ∷ []) ++ before = simp append_assoc in
    let P : List Kept → Type 0 = λ ks. list_any (λ z. shows_same (shown_by z) (shown_by x)) ks ≡ true in
    told_more (wrong_if (is_wrong_behind facts shown leaf) leaf) (wrongs_behind facts (shown ++ leaf ∷ []) leaves) x
    (repeat_found facts (first ++ y ∷ []) before behind x (shown ++ leaf ∷ []) leaves (shown_push first shown y leaf hf h.0) h.1 (subst P same e))

-- ---- the first of them
root_first : (o : Option Kind) (root : ℕ × ℕ) → IsFirstOf (λ at. (o ≡ None) × (at ≡ record { lnum = root.0; offs = root.1; misfit = differs 1 0 })) (wrong_root o root)
root_first None root = let none : Option Kind = None in first_alone (λ at. (none ≡ None) × (at ≡ record { lnum = root.0; offs = root.1; misfit = differs 1 0 })) (record { lnum = root.0; offs = root.1; wanted = 1; found = 0 }) (refl, refl) (λ at h. h.1)
root_first (Some kind) root = λ at h. let e = h.0 in absurd cc

none_mapped : (o : Option Inode) → option_map (λ (i : Inode). i.kind) o ≡ None → o ≡ None
none_mapped None e = refl
none_mapped (Some i) e = absurd cc

pub place_first : (leaves : List ShownLeaf) (facts : Facts) (root : ℕ × ℕ) → AreFactsOf leaves facts → (kept : List Kept) (highest : ℕ) → AreShownBy kept leaves
    → IsFirstOf (IsOutOfPlaceAt kept (tree_of kept highest) root) (soonest_of (wrong_root (facts.kind 1) root) (wrongs_behind facts [] leaves))
place_first leaves facts root are kept highest h =
    first_same (λ at. ((facts.kind 1 ≡ None) × (at ≡ record { lnum = root.0; offs = root.1; misfit = differs 1 0 })) ⊎ IsFoundAmong (wrongs_behind facts [] leaves) at) (IsOutOfPlaceAt kept (tree_of kept highest) root)
    (soonest_of (wrong_root (facts.kind 1) root) (wrongs_behind facts [] leaves)) to from
    (first_over (wrongs_behind facts [] leaves) (wrong_root (facts.kind 1) root) (λ at. (facts.kind 1 ≡ None) × (at ≡ record { lnum = root.0; offs = root.1; misfit = differs 1 0 })) (root_first (facts.kind 1) root))
  where
    f : FactsOfTree (tree_of kept highest) facts
    f = facts_of_tree kept highest leaves facts h are

    kind_there : option_map (λ (i : Inode). i.kind) (inode_at (tree_of kept highest) 1) ≡ facts.kind 1
    kind_there = kinds_told kept leaves h 1 ∙ sym (are.kind 1)

    to : (at : Wrong) → ((facts.kind 1 ≡ None) × (at ≡ record { lnum = root.0; offs = root.1; misfit = differs 1 0 })) ⊎ IsFoundAmong (wrongs_behind facts [] leaves) at → IsOutOfPlaceAt kept (tree_of kept highest) root at
    to at (inl missing) = inr (none_mapped (inode_at (tree_of kept highest) 1) (kind_there ∙ missing.0), missing.1)
    to at (inr found) =
        let r = found_out kept (tree_of kept highest) facts f [] kept [] leaves tt h refl found.0 found.1 in
        inl (r.x, r.one, r.out, found.2 ∙ r.is)

    there : (at : Wrong) (x : Kept) → at ≡ at_leaf x → IsToldAt (wrongs_behind facts [] leaves) x → IsFoundAmong (wrongs_behind facts [] leaves) at
    there at x e t = (misplaced_at t.leaf, t.one, e ∙ sym (place_told x t.leaf t.told))

    told_out : (x : Kept) → IsOneOf x kept → IsOutOfPlace kept (tree_of kept highest) x → IsToldAt (wrongs_behind facts [] leaves) x
    told_out x one (inl misfit) = misfit_found (tree_of kept highest) facts f kept [] leaves h x one misfit
    told_out x one (inr (before, behind, parts, repeated)) = repeat_found facts [] before behind x [] leaves tt (subst (λ ks. AreShownBy ks leaves) parts h) repeated

    from : (at : Wrong) → IsOutOfPlaceAt kept (tree_of kept highest) root at → ((facts.kind 1 ≡ None) × (at ≡ record { lnum = root.0; offs = root.1; misfit = differs 1 0 })) ⊎ IsFoundAmong (wrongs_behind facts [] leaves) at
    from at (inl (x, one, out, is)) = inr (there at x is (told_out x one out))
    from at (inr (none, is)) = inl (sym kind_there ∙ ap (option_map (λ (i : Inode). i.kind)) none, is)
