-- What is told of copies by the place of their keys in the order: as they are put there, dropped and taken.
use Rattle.std.proofs.Common.{◌≡◌, ℕ, Bool, true, false, cond, not, ◌&&◌, List, [], ◌∷◌, map, refl, sym, ap, subst, ◌∙◌, Option, Some, None}
use Rattle.std.specs.Prelude.{◌==◌, filter, slice_get}
use Rattle.std.specs.BTreeMap.{is_at}
use Rattle.std.specs.List.{AllByRecursion, find}
use Rattle.std.specs.Option.{option_map}
use Rattle.std.specs.Ordering.{nat_cmp}
use Rattle.std.proofs.lemmas.Bool.{false≢true, and_from, and_parts, eqb-true, eq-eqb}
use Rattle.ubifs_base.specs.R5.{r5_of}
use Rattle.ubifs_base.specs.declared.key.Key.TheVariants.{Ino, Block, Dent}
use Rattle.index_tree.specs.declared.leaf.Leaf.{Leaf}
use Rattle.index_tree.specs.Order.{key_rank, leaf_rank}
use Rattle.media_leaf.specs.LeafNode.{LeafNode}
use Rattle.fs_model.specs.declared.change.Change.{Change}
use Rattle.fs_model.specs.declared.change.Change.TheVariants.{SetInode, SetEntry, SetBlock}
use Rattle.leaf_map.specs.Kept.{Kept, Placed, kept_at, shown, shown_by}
use Rattle.leaf_map.specs.LeafMap.{HasKeyOf, shows_same}
use Rattle.leaf_map.specs.Parts.{is_shown}
use Rattle.leaf_map.specs.Recovered.{copy_of_leaf}
use Rattle.journal_scan.specs.Content.{node_content_of, told}
use Rattle.journal_scan.specs.declared.journal_node.JournalNode.{JournalNode}
use Rattle.log_replay.specs.Changes.{place_of_node}
use Rattle.log_replay.specs.Copies.{at_rank, copy_place, first_taken, is_of_rank, other_leaf_nodes, Ranked}
use Rattle.log_replay.specs.Settling.{HasCopies, copy_at, copies_of_rank}
use Rattle.log_replay.specs.Things.{is_same_told}
use Rattle.log_replay.specs.Told.{IsSetting, told_leaf}
use Rattle.log_replay.proofs.Noted.{number_at}
use Rattle.log_replay.proofs.Telling.{has_key, set_key, told_same}
use Rattle.log_replay.proofs.Tests.{key, name_here, name_is, number_same}

-- what has the key of what it shows, whatever number a block has
abbrev pub KeyIs : Leaf → Option Change → Type 0
KeyIs leaf (Some (SetInode ino inode)) = leaf.key ≡ Ino ino
KeyIs leaf (Some (SetBlock ino number bytes)) = leaf.key ≡ Block ino number
KeyIs leaf (Some (SetEntry e)) = leaf.key ≡ Dent e.dir (r5_of e.name)
KeyIs leaf other = ⊥

pub key_is : (leaf : Leaf) (s : Option Change) → HasKeyOf leaf s → KeyIs leaf s
key_is leaf (Some (SetInode ino inode)) h = h
key_is leaf (Some (SetBlock ino number bytes)) h = h.0
key_is leaf (Some (SetEntry e)) h = h
key_is leaf s h = absurd h

-- what shows the same has one key
pub one_key : (l m : Leaf) (s t : Option Change) → KeyIs l s → KeyIs m t → shows_same s t ≡ true → m.key ≡ l.key
one_key l m (Some (SetInode a x)) (Some (SetInode b y)) h g e = g ∙ ap (λ (n : ℕ). Ino n) (eqb-true b a e) ∙ sym h
one_key l m (Some (SetBlock a n x)) (Some (SetBlock b k y)) h g e =
    let p = and_parts (b == a) (k == n) e in
    g ∙ ap (λ (i : ℕ). Block i k) (eqb-true b a p.0) ∙ ap (λ (i : ℕ). Block a i) (eqb-true k n p.1) ∙ sym h
one_key l m (Some (SetEntry p)) (Some (SetEntry q)) h g e = g ∙ ap (λ (w : ℕ × List ℕ). Dent w.0 (r5_of w.1)) (name_is (key p) q e) ∙ sym h
one_key l m (Some (SetInode a x)) t h g e = absurd (false≢true e)
one_key l m (Some (SetBlock a n x)) t h g e = absurd (false≢true e)
one_key l m (Some (SetEntry p)) t h g e = absurd (false≢true e)
one_key l m s t h g e = absurd h

-- a leaf's place in the order is that of each copy which shows the same
abbrev pub RankIs : ℕ → LeafNode → Type 0
RankIs r a = (c : Placed) → IsSetting c.node → shows_same (shown a) (shown c.node) ≡ true → leaf_rank (kept_at c).leaf ≡ r

pub rank_of_key : (leaf : Leaf) (a : LeafNode) → KeyIs leaf (shown a) → RankIs (leaf_rank leaf) a
rank_of_key leaf a k c is e = ap key_rank (one_key leaf (kept_at c).leaf (shown a) (shown c.node) k (key_is (kept_at c).leaf (shown c.node) (has_key c is)) e)

pub rank_itself : (d : Placed) → IsSetting d.node → RankIs (leaf_rank (kept_at d).leaf) d.node
rank_itself d is = rank_of_key (kept_at d).leaf d.node (key_is (kept_at d).leaf (shown d.node) (has_key d is))

number_here : (r : ℕ) → is_at (nat_cmp r) r ≡ true
number_here r = sym (number_at r r) ∙ eq-eqb r r refl

-- ---- put
rank_told : (r : ℕ) (x : Placed) → IsSetting x.node → is_of_rank r (told x) ≡ is_at (nat_cmp (leaf_rank (kept_at x).leaf)) r
rank_told r x is = rw (set_key x.node is) refl

ranked_told : (r : ℕ) (xs : List Placed) → AllByRecursion (λ c. IsSetting c.node) xs → filter (is_of_rank r) (map told xs) ≡ map told (copies_of_rank r xs)
ranked_told r [] a = refl
ranked_told r (x ∷ xs) a = rw (rank_told r x a.0) (by (is_at (nat_cmp (leaf_rank (kept_at x).leaf)) r) (ranked_told r xs a.1))
  where
    by : (b : Bool) → filter (is_of_rank r) (map told xs) ≡ map told (copies_of_rank r xs) → cond b (told x ∷ filter (is_of_rank r) (map told xs)) (filter (is_of_rank r) (map told xs)) ≡ map told (cond b (x ∷ copies_of_rank r xs) (copies_of_rank r xs))
    by true more = ap (λ z. told x ∷ z) more
    by false more = more

pub has_copies : (items : List JournalNode) (copies : List Placed) (ranked : Ranked) → AllByRecursion (λ c. IsSetting c.node) copies → items ≡ map told copies
    → ((r : ℕ) → at_rank ranked r ≡ filter (is_of_rank r) items) → HasCopies copies ranked
has_copies items copies ranked a e h r = h r ∙ ap (filter (is_of_rank r)) e ∙ ranked_told r copies a

-- ---- dropped
-- the copies that show another thing than a node
abbrev pub beside : LeafNode → List Placed → List Placed
beside a copies = filter (λ c. not (shows_same (shown a) (shown c.node))) copies

others_told : (a : LeafNode) (xs : List Placed) → is_shown (shown a) ≡ true → AllByRecursion (λ c. IsSetting c.node) xs → other_leaf_nodes (node_content_of a) (map told xs) ≡ map told (beside a xs)
others_told a [] s all = refl
others_told a (x ∷ xs) s all = rw (told_same a x.node s all.0.leaf) (by (shows_same (shown a) (shown x.node)) (others_told a xs s all.1))
  where
    by : (b : Bool) → other_leaf_nodes (node_content_of a) (map told xs) ≡ map told (beside a xs) → cond (not b) (told x ∷ other_leaf_nodes (node_content_of a) (map told xs)) (other_leaf_nodes (node_content_of a) (map told xs)) ≡ map told (cond (not b) (x ∷ beside a xs) (beside a xs))
    by true more = more
    by false more = ap (λ z. told x ∷ z) more

pub filter_all : (Q : Placed → Type 0) (p : Placed → Bool) (xs : List Placed) → AllByRecursion Q xs → AllByRecursion Q (filter p xs)
filter_all Q p [] a = tt
filter_all Q p (x ∷ xs) a = by (p x) (filter_all Q p xs a.1)
  where
    by : (b : Bool) → AllByRecursion Q (filter p xs) → AllByRecursion Q (cond b (x ∷ filter p xs) (filter p xs))
    by true more = (a.0, more)
    by false more = more

pub filter_setting : (p : Placed → Bool) (xs : List Placed) → AllByRecursion (λ c. IsSetting c.node) xs → AllByRecursion (λ c. IsSetting c.node) (filter p xs)
filter_setting p xs a = filter_all (λ c. IsSetting c.node) p xs a

-- of one place in the order those go that show the same as a node of that place, and of the others none
dropped_at : (r q : ℕ) (a : LeafNode) (xs : List Placed) → RankIs r a → AllByRecursion (λ c. IsSetting c.node) xs → cond (is_at (nat_cmp r) q) (beside a (copies_of_rank q xs)) (copies_of_rank q xs) ≡ copies_of_rank q (beside a xs)
dropped_at r q a xs h all = by (is_at (nat_cmp r) q) refl xs all
  where
    by : (b : Bool) → is_at (nat_cmp r) q ≡ b → (ys : List Placed) → AllByRecursion (λ c. IsSetting c.node) ys → cond b (beside a (copies_of_rank q ys)) (copies_of_rank q ys) ≡ copies_of_rank q (beside a ys)
    by true e [] all = refl
    by false e [] all = refl
    by true e (y ∷ ys) all = one (is_at (nat_cmp (leaf_rank (kept_at y).leaf)) q) refl (shows_same (shown a) (shown y.node)) refl (by true e ys all.1)
      where
        one : (c : Bool) → is_at (nat_cmp (leaf_rank (kept_at y).leaf)) q ≡ c → (s : Bool) → shows_same (shown a) (shown y.node) ≡ s → beside a (copies_of_rank q ys) ≡ copies_of_rank q (beside a ys)
            → beside a (cond c (y ∷ copies_of_rank q ys) (copies_of_rank q ys)) ≡ copies_of_rank q (cond (not s) (y ∷ beside a ys) (beside a ys))
        one true f true g more = rw g more
        one true f false g more = rw (f, g) (ap (λ z. y ∷ z) more)
        one false f true g more = more
        one false f false g more = rw f more
    by false e (y ∷ ys) all = one (is_at (nat_cmp (leaf_rank (kept_at y).leaf)) q) refl (shows_same (shown a) (shown y.node)) refl (by false e ys all.1)
      where
        one : (c : Bool) → is_at (nat_cmp (leaf_rank (kept_at y).leaf)) q ≡ c → (s : Bool) → shows_same (shown a) (shown y.node) ≡ s → copies_of_rank q ys ≡ copies_of_rank q (beside a ys)
            → cond c (y ∷ copies_of_rank q ys) (copies_of_rank q ys) ≡ copies_of_rank q (cond (not s) (y ∷ beside a ys) (beside a ys))
        one true f true g more = absurd (false≢true (sym e ∙ ap (λ (n : ℕ). is_at (nat_cmp n) q) (sym (h y all.0 g)) ∙ f))
        one true f false g more = rw f (ap (λ z. y ∷ z) more)
        one false f true g more = more
        one false f false g more = rw f more

pub drops : (r : ℕ) (a : LeafNode) (left : List Placed) (old new : Ranked) → is_shown (shown a) ≡ true → RankIs r a → AllByRecursion (λ c. IsSetting c.node) left → HasCopies left old
    → ((q : ℕ) → at_rank new q ≡ cond (is_at (nat_cmp r) q) (other_leaf_nodes (node_content_of a) (at_rank old q)) (at_rank old q)) → HasCopies (beside a left) new
drops r a left old new s h all has d q =
    d q ∙ ap (λ z. cond (is_at (nat_cmp r) q) (other_leaf_nodes (node_content_of a) z) z) (has q)
    ∙ ap (λ z. cond (is_at (nat_cmp r) q) z (map told (copies_of_rank q left))) (others_told a (copies_of_rank q left) s (filter_all (λ c. IsSetting c.node) (λ c. is_at (nat_cmp (leaf_rank (kept_at c).leaf)) q) left all))
    ∙ out (is_at (nat_cmp r) q) ∙ ap (map told) (dropped_at r q a left h all)
  where
    out : (b : Bool) → cond b (map told (beside a (copies_of_rank q left))) (map told (copies_of_rank q left)) ≡ map told (cond b (beside a (copies_of_rank q left)) (copies_of_rank q left))
    out true = refl
    out false = refl

-- ---- taken
pub first_told : (r : ℕ) (xs : List Placed) → slice_get (map told (copies_of_rank r xs)) 0 ≡ option_map told (find (λ c. leaf_rank (kept_at c).leaf == r) xs)
first_told r [] = refl
first_told r (x ∷ xs) = by (is_at (nat_cmp (leaf_rank (kept_at x).leaf)) r) (leaf_rank (kept_at x).leaf == r) (number_at (leaf_rank (kept_at x).leaf) r) (first_told r xs)
  where
    by : (b d : Bool) → d ≡ b → slice_get (map told (copies_of_rank r xs)) 0 ≡ option_map told (find (λ c. leaf_rank (kept_at c).leaf == r) xs)
        → slice_get (map told (cond b (x ∷ copies_of_rank r xs) (copies_of_rank r xs))) 0 ≡ option_map told (cond d (Some x) (find (λ c. leaf_rank (kept_at c).leaf == r) xs))
    by true true e more = refl
    by false false e more = more
    by true false e more = absurd (false≢true e)
    by false true e more = absurd (false≢true (sym e))

-- where one is found, the others of its key are those behind it
taken_told : (r : ℕ) (d : Placed) (xs : List Placed) → is_same_told (node_content_of d.node) (node_content_of d.node) ≡ true → find (λ c. leaf_rank (kept_at c).leaf == r) xs ≡ Some d
    → first_taken (map told (copies_of_rank r xs)) ≡ other_leaf_nodes (node_content_of d.node) (map told (copies_of_rank r xs))
taken_told r d xs self f = by (copies_of_rank r xs) (sym (ap (option_map told) f) ∙ sym (first_told r xs))
  where
    by : (ys : List Placed) → Some (told d) ≡ slice_get (map told ys) 0 → first_taken (map told ys) ≡ other_leaf_nodes (node_content_of d.node) (map told ys)
    by [] e = absurd cc
    by (y ∷ ys) e =
        let same : told d ≡ told y = cc in
        let content : node_content_of y.node ≡ node_content_of d.node = ap (λ (n : JournalNode). n.content) (sym same) in
        rw (content, self) refl

pub find_all : (Q : Placed → Type 0) (p : Placed → Bool) (ds : List Placed) (d : Placed) → AllByRecursion Q ds → find p ds ≡ Some d → Q d
find_all Q p [] d a f = absurd cc
find_all Q p (e ∷ ds) d a f = by (find_all Q p ds d a.1) (p e) f
  where
    by : (find p ds ≡ Some d → Q d) → (b : Bool) → cond b (Some e) (find p ds) ≡ Some d → Q d
    by more true g = let same : e ≡ d = cc in subst Q same a.0
    by more false g = more g

pub itself : (d : Placed) → IsSetting d.node → shows_same (shown d.node) (shown d.node) ≡ true
itself d is = by (shown d.node) is.shown
  where
    by : (s : Option Change) → is_shown s ≡ true → shows_same s s ≡ true
    by (Some (SetInode ino set)) t = eq-eqb ino ino refl
    by (Some (SetBlock ino number bytes)) t = and_from (ino == ino) (number == number) (eq-eqb ino ino refl) (eq-eqb number number refl)
    by (Some (SetEntry e)) t = name_here (key e) e refl
    by s t = absurd (false≢true t)

pub found_rank : (r : ℕ) (xs : List Placed) (d : Placed) → find (λ c. leaf_rank (kept_at c).leaf == r) xs ≡ Some d → leaf_rank (kept_at d).leaf ≡ r
found_rank r [] d f = absurd cc
found_rank r (x ∷ xs) d f = by (leaf_rank (kept_at x).leaf == r) refl f (found_rank r xs d)
  where
    by : (b : Bool) → (leaf_rank (kept_at x).leaf == r) ≡ b → cond b (Some x) (find (λ c. leaf_rank (kept_at c).leaf == r) xs) ≡ Some d → (find (λ c. leaf_rank (kept_at c).leaf == r) xs ≡ Some d → leaf_rank (kept_at d).leaf ≡ r) → leaf_rank (kept_at d).leaf ≡ r
    by true e g more = let same : x ≡ d = cc in subst (λ (z : Placed). leaf_rank (kept_at z).leaf ≡ r) same (eqb-true (leaf_rank (kept_at x).leaf) r e)
    by false e g more = more g

pub takes : (r : ℕ) (d : Placed) (left : List Placed) (old new : Ranked) → AllByRecursion (λ c. IsSetting c.node) left → find (λ c. leaf_rank (kept_at c).leaf == r) left ≡ Some d → HasCopies left old
    → ((q : ℕ) → at_rank new q ≡ cond (is_at (nat_cmp r) q) (first_taken (at_rank old q)) (at_rank old q)) → HasCopies (beside d.node left) new
takes r d left old new all f has t =
    let is = find_all (λ c. IsSetting c.node) (λ c. leaf_rank (kept_at c).leaf == r) left d all f in
    let self = told_same d.node d.node is.shown is.leaf ∙ itself d is in
    let rank = found_rank r left d f in
    drops r d.node left old new is.shown (subst (λ (n : ℕ). RankIs n d.node) rank (rank_itself d is)) all has (λ q. t q ∙ same self q (is_at (nat_cmp r) q) refl)
  where
    same : is_same_told (node_content_of d.node) (node_content_of d.node) ≡ true → (q : ℕ) (b : Bool) → is_at (nat_cmp r) q ≡ b → cond b (first_taken (at_rank old q)) (at_rank old q) ≡ cond b (other_leaf_nodes (node_content_of d.node) (at_rank old q)) (at_rank old q)
    same self q false e = refl
    same self q true e =
        let here : r ≡ q = number_same r q e in
        ap first_taken (has q) ∙ taken_told q d left self (subst (λ (n : ℕ). find (λ c. leaf_rank (kept_at c).leaf == n) left ≡ Some d) here f) ∙ sym (ap (other_leaf_nodes (node_content_of d.node)) (has q))

-- where none is found, none is there
pub takes_none : (r : ℕ) (left : List Placed) (old new : Ranked) → find (λ c. leaf_rank (kept_at c).leaf == r) left ≡ None → HasCopies left old
    → ((q : ℕ) → at_rank new q ≡ cond (is_at (nat_cmp r) q) (first_taken (at_rank old q)) (at_rank old q)) → HasCopies left new
takes_none r left old new f has t q = t q ∙ by (is_at (nat_cmp r) q) refl ∙ has q
  where
    none : (ys : List Placed) → slice_get (map told ys) 0 ≡ None → first_taken (map told ys) ≡ map told ys
    none [] e = refl
    none (y ∷ ys) e = absurd cc

    by : (b : Bool) → is_at (nat_cmp r) q ≡ b → cond b (first_taken (at_rank old q)) (at_rank old q) ≡ at_rank old q
    by false e = refl
    by true e =
        let here : r ≡ q = number_same r q e in
        let empty : slice_get (map told (copies_of_rank q left)) 0 ≡ None = first_told q left ∙ ap (option_map told) (subst (λ (n : ℕ). find (λ c. leaf_rank (kept_at c).leaf == n) left ≡ None) here f) in
        ap first_taken (has q) ∙ none (copies_of_rank q left) empty ∙ sym (has q)

-- ---- found
pub copy_told : (k : Kept) (r : ℕ) (copies : List Placed) → is_shown (shown_by k) ≡ true → RankIs r k.node → AllByRecursion (λ c. IsSetting c.node) copies → copy_place (told_leaf k) (map told (copies_of_rank r copies)) ≡ copy_at copies k
copy_told k r [] s h all = refl
copy_told k r (x ∷ copies) s h all = by (is_at (nat_cmp (leaf_rank (kept_at x).leaf)) r) refl (copy_told k r copies s h all.1)
  where
    whole : ((x.sqnum == k.sqnum) && is_same_told (node_content_of k.node) (node_content_of x.node)) ≡ ((x.sqnum == k.sqnum) && shows_same (shown_by k) (shown x.node))
    whole = ap (λ (b : Bool). (x.sqnum == k.sqnum) && b) (told_same k.node x.node s all.0.leaf)

    test : (b : Bool) → copy_place (told_leaf k) (map told (copies_of_rank r copies)) ≡ copy_at copies k
        → option_map place_of_node (cond b (Some (told x)) (find (λ c. (c.sqnum == k.sqnum) && is_same_told (node_content_of k.node) c.content) (map told (copies_of_rank r copies))))
        ≡ option_map (λ (c : Placed). record { lnum = c.lnum; offs = c.offs; len = c.len }) (cond b (Some x) (copy_of_leaf copies k))
    test true more = refl
    test false more = more

    none : (b : Bool) → shows_same (shown_by k) (shown x.node) ≡ b → is_at (nat_cmp (leaf_rank (kept_at x).leaf)) r ≡ false → copy_at copies k ≡ copy_at (x ∷ copies) k
    none true e f = absurd (false≢true (sym f ∙ ap (λ (n : ℕ). is_at (nat_cmp n) r) (h x all.0 e) ∙ number_here r))
    none false e f = rw e (both (x.sqnum == k.sqnum))
      where
        both : (b : Bool) → copy_at copies k ≡ option_map (λ (c : Placed). record { lnum = c.lnum; offs = c.offs; len = c.len }) (cond (b && false) (Some x) (copy_of_leaf copies k))
        both true = refl
        both false = refl

    by : (b : Bool) → is_at (nat_cmp (leaf_rank (kept_at x).leaf)) r ≡ b → copy_place (told_leaf k) (map told (copies_of_rank r copies)) ≡ copy_at copies k → copy_place (told_leaf k) (map told (cond b (x ∷ copies_of_rank r copies) (copies_of_rank r copies))) ≡ copy_at (x ∷ copies) k
    by true e more = rw whole (test ((x.sqnum == k.sqnum) && shows_same (shown_by k) (shown x.node)) more)
    by false e more = more ∙ none (shows_same (shown_by k) (shown x.node)) refl e
