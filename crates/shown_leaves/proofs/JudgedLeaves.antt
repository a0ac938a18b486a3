-- Leaves whose nodes were read: what they show, and whether they show what stands at their places.
use Rattle.std.proofs.Common.{◌≡◌, ◌⊎◌, ℕ, Bool, true, false, cond, ◌&&◌, List, [], ◌∷◌, ◌++◌, Option, Some, None, take, drop, length, ◌+◌, ◌≤◌, refl, ap, sym, subst, ◌∙◌, inl, inr, append-nil, append_assoc}
use Rattle.std.specs.Prelude.{◌==◌, ◌↔◌, All, IfNone, IsTrue}
use Rattle.std.specs.List.{AllByRecursion}
use Rattle.std.proofs.lemmas.List.Elements.{All-from_recursion}
use Rattle.std.specs.Option.{option_map}
use Rattle.std.proofs.lemmas.Bool.{and_from, and_parts, eqb-true, false≢true}
use Rattle.ubifs_base.specs.Key.{key_words}
use Rattle.ubifs_base.specs.NodeLaws.{IsBytes}
use Rattle.media_leaf.specs.LeafNode.{IsLeafNode, LeafNode}
use Rattle.index_tree.specs.declared.leaf.Leaf.{Leaf}
use Rattle.fs_model.specs.declared.change.Change.{Change}
use Rattle.fs_model.specs.declared.change.Change.TheVariants as changes
use Rattle.leaf_map.specs.Kept.{Kept, Placed, shown, shown_by}
use Rattle.leaf_map.specs.Parts.{is_shown}
use Rattle.leaf_map.specs.Recovered.{stand_in}
use Rattle.sound_image.specs.Breaches.{inode_number_of}
use Rattle.sound_image.specs.Leaves.{IsPlacedIn}
use Rattle.sound_image.specs.Tree.{ShowsItsNode}
use Rattle.sound_image.specs.Wrong.{Wrong, differs}
use Rattle.sound_image.specs.WrongLaws.{is_one_at_end, front_or_end, in_front, one_of_none}
use Rattle.image_check.specs.FirstLaws.{first_alone, first_of_both, first_same}
use Rattle.image_check.specs.WrongValues.{IsFirstOf, sooner_of, wrong_at}
use Rattle.image_check.specs.declared.wrong_value.WrongValue.{WrongValue}
use Rattle.shown_leaves.specs.Judged.{is_at_source, is_shown_told, judged_of, known_in_place, source_in_place, unlike_told}
use Rattle.tree_check.specs.Places.{number_shown}
use Rattle.tree_check.specs.Told.{AreShownBy, IsShownBy, shown_told}
use Rattle.shown_leaves.specs.Sources.{AreSourced, IsReadFrom, HasSource, IsKnownBlock, IsSourced, IsUnlike, IsUnlikeIn, StandsAtLeaf, bytes_of}
use Rattle.shown_leaves.specs.Stored.{IsStoredIn, leaf_node}
use Rattle.tree_check.specs.declared.shown_leaf.Shown.{Shown}
use Rattle.tree_check.specs.declared.shown_leaf.Shown.TheVariants.{Block}
use Rattle.tree_check.specs.declared.shown_leaf.ShownLeaf.{ShownLeaf}
use Rattle.shown_leaves.specs.declared.sourced_leaf.KnownBlock.{KnownBlock}
use Rattle.shown_leaves.specs.declared.sourced_leaf.Source.{Source}
use Rattle.shown_leaves.specs.declared.sourced_leaf.SourcedLeaf.{SourcedLeaf}
use Rattle.shown_leaves.specs.declared.stored_node.StoredNode.{StoredNode}
use Rattle.shown_leaves.proofs.Rights.{all_end, right_both, right_more}
use Rattle.shown_leaves.proofs.Stored.{IsOneNode, part_bytes, read_is}

-- ---- where a leaf's node was read
-- the bytes at a source
abbrev pub bytes_from : (ℕ → List ℕ) → Source → List ℕ
bytes_from contents source = take source.len (drop source.offs (contents source.lnum))

pub some_same : {X : Type 0} (a b : X) → Some a ≡ Some b → a ≡ b
some_same a b h = cc

-- a node that stands where it was read is what those bytes are
stands_from : (contents : ℕ → List ℕ) (source : Source) (node : Placed) → IsReadFrom source node → IsPlacedIn contents node → IsLeafNode (bytes_from contents source) node.sqnum node.group node.node
stands_from contents source node from placed =
    let P : ℕ → Type 0 = λ lnum. IsLeafNode (take node.len (drop node.offs (contents lnum))) node.sqnum node.group node.node in
    let Q : ℕ → Type 0 = λ offs. IsLeafNode (take node.len (drop offs (contents source.lnum))) node.sqnum node.group node.node in
    let R : ℕ → Type 0 = λ len. IsLeafNode (take len (drop source.offs (contents source.lnum))) node.sqnum node.group node.node in
    subst R from.len (subst Q from.offs (subst P from.lnum placed.is))

-- what is read there is the leaf's node
pub source_is : IsOneNode → (contents : ℕ → List ℕ) → ((k : ℕ) → IsBytes (contents k)) → (x : Kept) (leaf : SourcedLeaf) (source : Source) (found : Option StoredNode) → leaf.source ≡ Some source → IsStoredIn (bytes_from contents source) found
    → IsSourced contents x leaf → option_map leaf_node found ≡ Some x.node
source_is one contents fits x leaf source found is read sourced =
    let from : HasSource contents x (Some source) = subst (HasSource contents x) is sourced.source in
    let node = from.0 in
    let there = stands_from contents source node from.1 from.2 in
    read_is one (bytes_from contents source) node.sqnum node.group node.node found (part_bytes source.offs source.len (contents source.lnum) (fits source.lnum)) there read ∙ ap (λ (n : LeafNode). Some n) from.3

-- without one, what stands in for it
pub stand_in_is : (contents : ℕ → List ℕ) (x : Kept) (leaf : SourcedLeaf) (found : Option StoredNode) → leaf.source ≡ None → option_map leaf_node found ≡ stand_in leaf.leaf.key → IsSourced contents x leaf → option_map leaf_node found ≡ Some x.node
stand_in_is contents x leaf found is made sourced =
    let from : HasSource contents x None = subst (HasSource contents x) is sourced.source in
    made ∙ ap (λ (l : Leaf). stand_in l.key) sourced.is ∙ from

-- ---- whether it stands at its place
-- where a leaf stands at its source
pub in_place : (contents : ℕ → List ℕ) (x : Kept) (leaf : SourcedLeaf) → is_at_source leaf ≡ true → IsSourced contents x leaf → StandsAtLeaf contents x.leaf x.node
in_place contents x leaf here sourced = by leaf.source refl
  where
    by : (o : Option Source) → leaf.source ≡ o → StandsAtLeaf contents x.leaf x.node
    by None e = let f = sym here ∙ ap (λ (o : Option Source). is_at_source (record leaf { source = o })) e in absurd cc
    by (Some source) e =
        let same = sym (ap (λ (o : Option Source). is_at_source (record leaf { source = o })) e) ∙ here in
        let p = and_parts (source.lnum == leaf.leaf.lnum) ((source.offs == leaf.leaf.offs) && (source.len == leaf.leaf.len)) same in
        let q = and_parts (source.offs == leaf.leaf.offs) (source.len == leaf.leaf.len) p.1 in
        let from : HasSource contents x (Some source) = subst (HasSource contents x) e sourced.source in
        let node = from.0 in
        let P : LeafNode → Type 0 = λ n. IsLeafNode (bytes_from contents source) node.sqnum node.group n in
        let there = subst P from.3 (stands_from contents source node from.1 from.2) in
        let L : ℕ → Type 0 = λ lnum. IsLeafNode (take source.len (drop source.offs (contents lnum))) node.sqnum node.group x.node in
        let O : ℕ → Type 0 = λ offs. IsLeafNode (take source.len (drop offs (contents leaf.leaf.lnum))) node.sqnum node.group x.node in
        let N : ℕ → Type 0 = λ len. IsLeafNode (take len (drop leaf.leaf.offs (contents leaf.leaf.lnum))) node.sqnum node.group x.node in
        let moved = subst N (eqb-true source.len leaf.leaf.len q.1) (subst O (eqb-true source.offs leaf.leaf.offs q.0) (subst L (eqb-true source.lnum leaf.leaf.lnum p.0) there)) in
        let W : Leaf → Type 0 = λ l. StandsAtLeaf contents l x.node in
        subst W sourced.is (node.sqnum, node.group, moved)

-- where nothing is read, it doesn't
pub stands_not : (contents : ℕ → List ℕ) (x : Kept) (leaf : SourcedLeaf) → IsStoredIn (bytes_of contents leaf.leaf) None → leaf.leaf ≡ x.leaf → StandsAtLeaf contents x.leaf x.node → ⊥
stands_not contents x leaf none is (s, g, h) =
    let P : Leaf → Type 0 = λ l. IsLeafNode (bytes_of contents l) s g x.node in
    none s g x.node (subst P (sym is) h)

-- where a node is read, it does if that is the same
pub stands_if : IsOneNode → (contents : ℕ → List ℕ) → ((k : ℕ) → IsBytes (contents k)) → (x : Kept) (leaf : SourcedLeaf) (there node : StoredNode) (same : Bool) → IsStoredIn (bytes_of contents leaf.leaf) (Some there) → leaf.leaf ≡ x.leaf
    → leaf_node node ≡ x.node → (IsTrue same ↔ (leaf_node there ≡ leaf_node node)) → IsTrue same ↔ StandsAtLeaf contents x.leaf x.node
stands_if one contents fits x leaf there node same (s, g, h) is named tests =
    let P : Leaf → Type 0 = λ l. IsLeafNode (bytes_of contents l) s g (leaf_node there) in
    let here = subst P is h in
    let Q : LeafNode → Type 0 = λ n. IsLeafNode (bytes_of contents x.leaf) s g n in (
      (λ yes. (s, g, subst Q (tests.0 yes ∙ named) here)),
      (λ stands. tests.1 ((one (bytes_of contents x.leaf) s g stands.0 stands.1 (leaf_node there) x.node (part_bytes x.leaf.offs x.leaf.len (contents x.leaf.lnum) (fits x.leaf.lnum)) here stands.2).2 ∙ sym named)),
    )

-- a block that is known, where it stands
pub known_here : (leaf : SourcedLeaf) (known : KnownBlock) → known_in_place leaf ≡ Some known → (is_at_source leaf ≡ true) × (leaf.block ≡ Some known)
known_here leaf known e = by (is_at_source leaf) refl e
  where
    by : (b : Bool) → is_at_source leaf ≡ b → cond b leaf.block None ≡ Some known → (is_at_source leaf ≡ true) × (leaf.block ≡ Some known)
    by true h e = (h, e)
    by false h e = absurd cc

-- where a leaf stands at its source
pub source_here : (leaf : SourcedLeaf) (source : Source) → source_in_place leaf ≡ Some source → (is_at_source leaf ≡ true) × (leaf.source ≡ Some source)
source_here leaf source e = by (is_at_source leaf) refl e
  where
    by : (b : Bool) → is_at_source leaf ≡ b → cond b leaf.source None ≡ Some source → (is_at_source leaf ≡ true) × (leaf.source ≡ Some source)
    by true h e = (h, e)
    by false h e = absurd cc

pub block_shown : (node : LeafNode) (known : KnownBlock) → IsKnownBlock node (Some known) → shown_told (shown node) ≡ Some (Block known.ino known.number)
block_shown node known (bytes, e) = ap (λ (n : LeafNode). shown_told (shown n)) e

-- ---- what is told of it
is_shown_is : (c : Option Change) (s : Shown) → shown_told c ≡ Some s → is_shown_told s ≡ is_shown c
is_shown_is None s e = ap is_shown_told (sym (some_same _ s e))
is_shown_is (Some (changes.SetInode ino inode)) s e = ap is_shown_told (sym (some_same _ s e))
is_shown_is (Some (changes.SetEntry entry)) s e = ap is_shown_told (sym (some_same _ s e))
is_shown_is (Some (changes.DropEntry dir name)) s e = ap is_shown_told (sym (some_same _ s e))
is_shown_is (Some (changes.SetBlock ino number bytes)) s e = ap is_shown_told (sym (some_same _ s e))
is_shown_is (Some (changes.CutBlocks ino old_size new_size)) s e = ap is_shown_told (sym (some_same _ s e))
is_shown_is (Some (changes.DropInode ino)) s e = absurd cc

number_told : (x : Kept) (c : Option Change) (s : Shown) → shown_by x ≡ c → shown_told c ≡ Some s → number_shown (key_words x.leaf.key).0 s ≡ inode_number_of x
number_told x None s f e = ap (number_shown (key_words x.leaf.key).0) (sym (some_same _ s e)) ∙ rw f refl
number_told x (Some (changes.SetInode ino inode)) s f e = ap (number_shown (key_words x.leaf.key).0) (sym (some_same _ s e)) ∙ rw f refl
number_told x (Some (changes.SetEntry entry)) s f e = ap (number_shown (key_words x.leaf.key).0) (sym (some_same _ s e)) ∙ rw f refl
number_told x (Some (changes.DropEntry dir name)) s f e = ap (number_shown (key_words x.leaf.key).0) (sym (some_same _ s e)) ∙ rw f refl
number_told x (Some (changes.SetBlock ino number bytes)) s f e = ap (number_shown (key_words x.leaf.key).0) (sym (some_same _ s e)) ∙ rw f refl
number_told x (Some (changes.CutBlocks ino old_size new_size)) s f e = ap (number_shown (key_words x.leaf.key).0) (sym (some_same _ s e)) ∙ rw f refl
number_told x (Some (changes.DropInode ino)) s f e = absurd cc

-- a leaf is judged
pub record IsWellJudged (contents : ℕ → List ℕ) (x : Kept) (leaf : ShownLeaf) (unlike : Option WrongValue) : Type 0 where
  pub shows : IsShownBy x leaf
  pub first : IsFirstOf (IsUnlike contents x) unlike
  pub right : IfNone unlike (ShowsItsNode contents x)

unlike_first : (contents : ℕ → List ℕ) (x : Kept) (leaf : SourcedLeaf) (s : Shown) (stands : Bool) → leaf.leaf ≡ x.leaf → shown_told (shown_by x) ≡ Some s → (IsTrue stands ↔ StandsAtLeaf contents x.leaf x.node)
    → IsFirstOf (IsUnlike contents x) (unlike_told leaf s stands)
unlike_first contents x leaf s stands is e tests = by (stands && is_shown_told s) refl
  where
    d : WrongValue
    d = record { lnum = leaf.leaf.lnum; offs = leaf.leaf.offs; wanted = number_shown (key_words leaf.leaf.key).0 s; found = 0 }

    here : wrong_at d ≡ record { lnum = x.leaf.lnum; offs = x.leaf.offs; misfit = differs (inode_number_of x) 0 }
    here =
        ap (λ (l : Leaf). record { lnum = l.lnum; offs = l.offs; misfit = differs (number_shown (key_words l.key).0 s) 0 }) is
        ∙ ap (λ (n : ℕ). record { lnum = x.leaf.lnum; offs = x.leaf.offs; misfit = differs n 0 }) (number_told x (shown_by x) s refl e)

    by : (b : Bool) → (stands && is_shown_told s) ≡ b → IsFirstOf (IsUnlike contents x) (cond b None (Some d))
    by true right =
        let p = and_parts stands (is_shown_told s) right in
        let there = tests.0 p.0 in
        λ at wrong. wrong.0 (record { sqnum = there.0; group = there.1; is = there.2; shown = sym (is_shown_is (shown_by x) s e) ∙ p.1 })
    by false right =
        first_alone (IsUnlike contents x) d
        ((λ shows. (let yes : (stands && is_shown_told s) ≡ true = and_from stands (is_shown_told s) (tests.1 (shows.sqnum, shows.group, shows.is)) (is_shown_is (shown_by x) s e ∙ shows.shown) in false≢true (sym right ∙ yes))), here)
        (λ at wrong. wrong.1 ∙ sym here)

unlike_right : (contents : ℕ → List ℕ) (x : Kept) (leaf : SourcedLeaf) (s : Shown) (stands : Bool) → shown_told (shown_by x) ≡ Some s → (IsTrue stands ↔ StandsAtLeaf contents x.leaf x.node) → IfNone (unlike_told leaf s stands) (ShowsItsNode contents x)
unlike_right contents x leaf s stands e tests = by (stands && is_shown_told s) refl
  where
    d : WrongValue
    d = record { lnum = leaf.leaf.lnum; offs = leaf.leaf.offs; wanted = number_shown (key_words leaf.leaf.key).0 s; found = 0 }

    by : (b : Bool) → (stands && is_shown_told s) ≡ b → IfNone (cond b None (Some d)) (ShowsItsNode contents x)
    by true right =
        let p = and_parts stands (is_shown_told s) right in
        let there = tests.0 p.0 in
        record { sqnum = there.0; group = there.1; is = there.2; shown = sym (is_shown_is (shown_by x) s e) ∙ p.1 }
    by false right = tt

pub judged_is : (contents : ℕ → List ℕ) (x : Kept) (leaf : SourcedLeaf) (s : Shown) (stands : Bool) → leaf.leaf ≡ x.leaf → shown_told (shown_by x) ≡ Some s → (IsTrue stands ↔ StandsAtLeaf contents x.leaf x.node)
    → IsWellJudged contents x (judged_of leaf s stands).leaf (judged_of leaf s stands).unlike
judged_is contents x leaf s stands is e tests = record {
  shows = record {
    lnum = ap (λ (l : Leaf). l.lnum) is;
    offs = ap (λ (l : Leaf). l.offs) is;
    number = ap (λ (l : Leaf). (key_words l.key).0) is;
    shown = e;
  };
  first = unlike_first contents x leaf s stands is e tests;
  right = unlike_right contents x leaf s stands e tests;
}

-- ---- contents that are the same
placed_moved : (a b : ℕ → List ℕ) (node : Placed) → b node.lnum ≡ a node.lnum → IsPlacedIn a node → IsPlacedIn b node
placed_moved a b node e h =
    let P : List ℕ → Type 0 = λ leb. node.offs + node.len ≤ length leb in
    let Q : List ℕ → Type 0 = λ leb. IsLeafNode (take node.len (drop node.offs leb)) node.sqnum node.group node.node in
    record { room = subst P (sym e) h.room; is = subst Q (sym e) h.is }

pub sourced_moved : (a b : ℕ → List ℕ) → ((k : ℕ) → b k ≡ a k) → (x : Kept) (leaf : SourcedLeaf) → IsSourced a x leaf → IsSourced b x leaf
sourced_moved a b e x leaf h = record { is = h.is; source = by leaf.source h.source; known = h.known }
  where
    by : (o : Option Source) → HasSource a x o → HasSource b x o
    by None s = s
    by (Some source) s = (s.0, s.1, placed_moved a b s.0 (e s.0.lnum) s.2, s.3)

pub stands_moved : (a b : ℕ → List ℕ) → ((k : ℕ) → b k ≡ a k) → (leaf : Leaf) (node : LeafNode) → StandsAtLeaf a leaf node → StandsAtLeaf b leaf node
stands_moved a b e leaf node (s, g, h) = let P : List ℕ → Type 0 = λ leb. IsLeafNode (take leaf.len (drop leaf.offs leb)) s g node in (s, g, subst P (sym (e leaf.lnum)) h)

shows_moved : (a b : ℕ → List ℕ) → ((k : ℕ) → b k ≡ a k) → (x : Kept) → ShowsItsNode a x → ShowsItsNode b x
shows_moved a b e x h = let P : List ℕ → Type 0 = λ leb. IsLeafNode (take x.leaf.len (drop x.leaf.offs leb)) h.sqnum h.group x.node in record { sqnum = h.sqnum; group = h.group; is = subst P (sym (e x.leaf.lnum)) h.is; shown = h.shown }

pub judged_moved : (a b : ℕ → List ℕ) → ((k : ℕ) → b k ≡ a k) → (x : Kept) (leaf : ShownLeaf) (unlike : Option WrongValue) → IsWellJudged a x leaf unlike → IsWellJudged b x leaf unlike
judged_moved a b e x leaf unlike h = record {
  shows = h.shows;
  first = first_same (IsUnlike a x) (IsUnlike b x) unlike
      (λ at w. ((λ s. w.0 (shows_moved b a (λ k. sym (e k)) x s)), w.1)) (λ at w. ((λ s. w.0 (shows_moved a b e x s)), w.1)) h.first;
  right = right_more unlike (ShowsItsNode a x) (ShowsItsNode b x) (shows_moved a b e x) h.right;
}

-- ---- one leaf after another
-- of these leaves those in front were told
pub record ToldSoFar (contents : ℕ → List ℕ) (kept : List Kept) (left : List SourcedLeaf) (made : List ShownLeaf) (unlike : Option WrongValue) : Type 0 where
  pub done : List Kept
  pub rest : List Kept
  pub all : done ++ rest ≡ kept
  pub sourced : AreSourced contents rest left
  pub shown : AreShownBy done made
  pub first : IsFirstOf (IsUnlikeIn contents done) unlike
  pub right : IfNone unlike (AllByRecursion (ShowsItsNode contents) done)

pub told_start : (contents : ℕ → List ℕ) (kept : List Kept) (leaves : List SourcedLeaf) → AreSourced contents kept leaves → ToldSoFar contents kept leaves [] None
told_start contents kept leaves sourced = record {
  done = [];
  rest = kept;
  all = refl;
  sourced = sourced;
  shown = tt;
  first = λ at wrong. one_of_none wrong.0 wrong.1;
  right = tt;
}

shown_next : (done : List Kept) (made : List ShownLeaf) (x : Kept) (leaf : ShownLeaf) → AreShownBy done made → IsShownBy x leaf → AreShownBy (done ++ x ∷ []) (made ++ leaf ∷ [])
shown_next [] [] x leaf all one = (one, tt)
shown_next [] (y ∷ made) x leaf all one = absurd all
shown_next (z ∷ done) [] x leaf all one = absurd all
shown_next (z ∷ done) (y ∷ made) x leaf all one = (all.0, shown_next done made x leaf all.1 one)

unlike_next : (contents : ℕ → List ℕ) (done : List Kept) (x : Kept) (a b : Option WrongValue) → IsFirstOf (IsUnlikeIn contents done) a → IsFirstOf (IsUnlike contents x) b → IsFirstOf (IsUnlikeIn contents (done ++ x ∷ [])) (sooner_of a b)
unlike_next contents done x a b h k = first_same (λ at. IsUnlikeIn contents done at ⊎ IsUnlike contents x at) (IsUnlikeIn contents (done ++ x ∷ [])) (sooner_of a b) to from (first_of_both (IsUnlikeIn contents done) (IsUnlike contents x) a b h k)
  where
    to : (at : Wrong) → IsUnlikeIn contents done at ⊎ IsUnlike contents x at → IsUnlikeIn contents (done ++ x ∷ []) at
    to at (inl (y, one, wrong)) = (y, in_front y x done one, wrong)
    to at (inr wrong) = (x, is_one_at_end x done, wrong)

    from : (at : Wrong) → IsUnlikeIn contents (done ++ x ∷ []) at → IsUnlikeIn contents done at ⊎ IsUnlike contents x at
    from at (y, one, wrong) = elim (front_or_end y x done one) [
      | inl there ↦ inl (y, there, wrong)
      | inr e ↦ inr (subst (λ z. IsUnlike contents z at) e wrong)
    ]

pub told_next : (contents : ℕ → List ℕ) (kept : List Kept) (left rest : List SourcedLeaf) (leaf : SourcedLeaf) (made more : List ShownLeaf) (one : ShownLeaf) (unlike other next : Option WrongValue) → left ≡ leaf ∷ rest → more ≡ made ++ one ∷ [] → next ≡ sooner_of unlike other
    → ((x : Kept) → IsSourced contents x leaf → IsWellJudged contents x one other) → ToldSoFar contents kept left made unlike → ToldSoFar contents kept rest more next
told_next contents kept left rest leaf made more one unlike other next cut grown sooner judged before = by before.rest refl (subst (AreSourced contents before.rest) cut before.sourced)
  where
    by : (xs : List Kept) → before.rest ≡ xs → AreSourced contents xs (leaf ∷ rest) → ToldSoFar contents kept rest more next
    by [] e sourced = absurd sourced
    by (x ∷ xs) e sourced =
        let j = judged x sourced.0 in
        record {
          done = before.done ++ x ∷ [];
          rest = xs;
          all = append_assoc before.done (x ∷ []) xs ∙ ap (λ ys. before.done ++ ys) (sym e) ∙ before.all;
          sourced = sourced.1;
          shown = subst (AreShownBy (before.done ++ x ∷ [])) (sym grown) (shown_next before.done made x one before.shown j.shows);
          first = subst (IsFirstOf (IsUnlikeIn contents (before.done ++ x ∷ []))) (sym sooner) (unlike_next contents before.done x unlike other before.first j.first);
          right = subst (λ (o : Option WrongValue). IfNone o (AllByRecursion (ShowsItsNode contents) (before.done ++ x ∷ []))) (sym sooner)
              (right_both unlike other (AllByRecursion (ShowsItsNode contents) before.done) (ShowsItsNode contents x) (AllByRecursion (ShowsItsNode contents) (before.done ++ x ∷ []))
              (λ all one. all_end (ShowsItsNode contents) before.done x all one) before.right j.right);
        }

none_behind : (contents : ℕ → List ℕ) (rest : List Kept) → AreSourced contents rest [] → rest ≡ []
none_behind contents [] h = refl
none_behind contents (x ∷ rest) h = absurd h

-- all were
pub all_told : (contents : ℕ → List ℕ) (kept : List Kept) (left : List SourcedLeaf) (made : List ShownLeaf) (unlike : Option WrongValue) → left ≡ [] → ToldSoFar contents kept left made unlike → AreShownBy kept made × IsFirstOf (IsUnlikeIn contents kept) unlike
all_told contents kept left made unlike none told =
    let empty = none_behind contents told.rest (subst (AreSourced contents told.rest) none told.sourced) in
    let e : told.done ≡ kept = sym (append-nil told.done) ∙ ap (λ ys. told.done ++ ys) (sym empty) ∙ told.all in
    (subst (λ ks. AreShownBy ks made) e told.shown, subst (λ ks. IsFirstOf (IsUnlikeIn contents ks) unlike) e told.first)

-- where none is wrong, each shows what stands at its place
pub all_right : (contents : ℕ → List ℕ) (kept : List Kept) (left : List SourcedLeaf) (made : List ShownLeaf) (unlike : Option WrongValue) → left ≡ [] → ToldSoFar contents kept left made unlike → IfNone unlike (All (ShowsItsNode contents) kept)
all_right contents kept left made unlike none told =
    let empty = none_behind contents told.rest (subst (AreSourced contents told.rest) none told.sourced) in
    let e : told.done ≡ kept = sym (append-nil told.done) ∙ ap (λ ys. told.done ++ ys) (sym empty) ∙ told.all in
    right_more unlike (AllByRecursion (ShowsItsNode contents) told.done) (All (ShowsItsNode contents) kept) (λ all. All-from_recursion (ShowsItsNode contents) kept (subst (AllByRecursion (ShowsItsNode contents)) e all)) told.right
