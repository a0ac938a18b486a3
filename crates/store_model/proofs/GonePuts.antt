-- What is gone since a commit stays so through a put.
use Rattle.std.proofs.Common.{◌≡◌, ◌⊎◌, ◌∙◌, ◌+◌, ◌-◌, ℕ, zero, suc, arith, Bool, true, false, cond, not, List, [], ◌∷◌, ◌++◌, append-nil, length, length-append, map, refl, sym, ap, subst, inl, inr, Option, Some, None}
use Rattle.std.specs.Prelude.{◌==◌, ◌||◌, filter, fold, get_or, take}
use Rattle.std.specs.List.{AllByRecursion, find, list_all, list_any}
use Rattle.std.specs.Option.{option_map, option_map_or}
use Rattle.std.proofs.lemmas.Bool.{eq-eqb, eqb-true, false≢true}
use Rattle.std.proofs.lemmas.List.Folds.{list_any-append}
use Rattle.fs_model.specs.declared.change.Change.{Change}
use Rattle.fs_model.specs.declared.change.Change.TheVariants.{CutBlocks, DropEntry, DropInode, SetBlock, SetEntry, SetInode}
use Rattle.fs_model.specs.Change.{apply}
use Rattle.fs_model.specs.Files.{Tree}
use Rattle.fs_model.specs.Orphan.{is_nameless, nameless}
use Rattle.fs_model.specs.Proper.{IsProper}
use Rattle.fs_model.specs.Recovery.{as_replayed}
use Rattle.leaf_map.specs.After.{goes, is_gone, is_idle}
use Rattle.leaf_map.specs.Allowed.{sets_inode}
use Rattle.leaf_map.specs.Kept.{Kept, shown_by}
use Rattle.store_model.specs.Events.{after_change, after_part, end_at, Held, in_next, orphan_in, Part}
use Rattle.store_model.specs.Fits.{Faced, faced_now}
use Rattle.store_model.specs.Gone.{drops_inode, group_does, is_lost, LostItsName, some_does, some_synced_does}
use Rattle.store_model.specs.Heads.{changes_of, groups_of_head, has_bud, with_head_group}
use Rattle.store_model.specs.Invariant.{AreRolesApart, faced_later, HasGone, HasSince, is_listed, IsSince, OfBoth, OfNext}
use Rattle.store_model.specs.Lebs.{is_among}
use Rattle.store_model.specs.Legal.{FitHead, IsLegalPart}
use Rattle.store_model.specs.Store.{At, Bud, Carried, Next, Orphan, Store}
use Rattle.store_model.proofs.Apart.{groups_other}
use Rattle.store_model.proofs.BackingPuts.{groups_added, has_last}
use Rattle.store_model.proofs.BegunEvents.{one_less, two_less}
use Rattle.store_model.proofs.GoneLeaves.{either_more}
use Rattle.store_model.proofs.GoneTrees.{group_lost, group_newly}
use Rattle.store_model.proofs.JournalEvents.{in_order, listed_nameless}
use Rattle.store_model.proofs.LebPuts.{end_bud}
use Rattle.store_model.proofs.OfViews.{each_both, each_weaker}
use Rattle.store_model.proofs.Orphans.{both_orphans, more_orphans, nameless_among}
use Rattle.store_model.proofs.RecoveryOrder.{or_left, or_right}

-- ---- the groups of a view, with one more
-- groups come behind those that are there, and as much is synced
pub record HasGrown (f g : Faced) (group : List Carried) : Type 0 where
  pub base : List (List Carried)
  pub base_is : groups_of_head 1 g.view.buds ≡ groups_of_head 1 f.view.buds ++ base
  pub data_nodes : List (List Carried)
  pub data_is : groups_of_head 2 g.view.buds ≡ groups_of_head 2 f.view.buds ++ data_nodes
  pub base_synced : get_or g.synced 1 0 ≡ get_or f.synced 1 0
  pub data_synced : get_or g.synced 2 0 ≡ get_or f.synced 2 0
  pub tree : g.view.tree ≡ f.view.tree
  pub kept : g.view.kept ≡ f.view.kept
  pub does : (t : Change → Bool) → some_does t g.view.buds ≡ (some_does t f.view.buds || group_does t group)

turn_base : (a d b : Bool) → ((a || (d || false)) || b) ≡ ((a || b) || d)
turn_base true d b = refl
turn_base false true true = refl
turn_base false true false = refl
turn_base false false true = refl
turn_base false false false = refl

turn_data : (a d b : Bool) → (a || (b || (d || false))) ≡ ((a || b) || d)
turn_data true d b = refl
turn_data false d true = refl
turn_data false true false = refl
turn_data false false false = refl

-- a group at head 1, or at head 2
grown_base : (t : Change → Bool) (group : List Carried) (a b p q : List (List Carried)) → p ≡ a ++ group ∷ [] → q ≡ b → (list_any (group_does t) p || list_any (group_does t) q) ≡ ((list_any (group_does t) a || list_any (group_does t) b) || group_does t group)
grown_base t group a b p q e f =
    ap (λ (gs : List (List Carried)). list_any (group_does t) gs || list_any (group_does t) q) e ∙ ap (λ (gs : List (List Carried)). list_any (group_does t) (a ++ group ∷ []) || list_any (group_does t) gs) f
    ∙ ap (λ (z : Bool). z || list_any (group_does t) b) (list_any-append (group_does t) a (group ∷ [])) ∙ turn_base (list_any (group_does t) a) (group_does t group) (list_any (group_does t) b)

grown_data : (t : Change → Bool) (group : List Carried) (a b p q : List (List Carried)) → p ≡ a → q ≡ b ++ group ∷ [] → (list_any (group_does t) p || list_any (group_does t) q) ≡ ((list_any (group_does t) a || list_any (group_does t) b) || group_does t group)
grown_data t group a b p q e f =
    ap (λ (gs : List (List Carried)). list_any (group_does t) gs || list_any (group_does t) q) e ∙ ap (λ (gs : List (List Carried)). list_any (group_does t) a || list_any (group_does t) gs) f
    ∙ ap (λ (z : Bool). list_any (group_does t) a || z) (list_any-append (group_does t) b (group ∷ [])) ∙ turn_data (list_any (group_does t) a) (group_does t group) (list_any (group_does t) b)

grown : (f g : Faced) (head : ℕ) (group : List Carried) → (head ≡ 1) ⊎ (head ≡ 2) → has_bud head f.view.buds ≡ true → g.view.buds ≡ with_head_group head group f.view.buds → g.view.tree ≡ f.view.tree → g.view.kept ≡ f.view.kept
    → get_or g.synced 1 0 ≡ get_or f.synced 1 0 → get_or g.synced 2 0 ≡ get_or f.synced 2 0 → HasGrown f g group
grown f g head group (inl e) has buds tree kept one two =
    let first : groups_of_head 1 g.view.buds ≡ groups_of_head 1 f.view.buds ++ group ∷ [] = ap (groups_of_head 1) buds ∙ subst (λ (k : ℕ). groups_of_head k (with_head_group head group f.view.buds) ≡ groups_of_head k f.view.buds ++ group ∷ []) e (groups_added head group f.view.buds has) in
    let second : groups_of_head 2 g.view.buds ≡ groups_of_head 2 f.view.buds = ap (groups_of_head 2) buds ∙ groups_other 2 head group f.view.buds (ap (λ (k : ℕ). k == 2) e) in
    record {
      base = group ∷ [];
      base_is = first;
      data_nodes = [];
      data_is = second ∙ sym (append-nil (groups_of_head 2 f.view.buds));
      base_synced = one;
      data_synced = two;
      tree = tree;
      kept = kept;
      does = λ t. grown_base t group (groups_of_head 1 f.view.buds) (groups_of_head 2 f.view.buds) (groups_of_head 1 g.view.buds) (groups_of_head 2 g.view.buds) first second;
    }
grown f g head group (inr e) has buds tree kept one two =
    let first : groups_of_head 1 g.view.buds ≡ groups_of_head 1 f.view.buds = ap (groups_of_head 1) buds ∙ groups_other 1 head group f.view.buds (ap (λ (k : ℕ). k == 1) e) in
    let second : groups_of_head 2 g.view.buds ≡ groups_of_head 2 f.view.buds ++ group ∷ [] = ap (groups_of_head 2) buds ∙ subst (λ (k : ℕ). groups_of_head k (with_head_group head group f.view.buds) ≡ groups_of_head k f.view.buds ++ group ∷ []) e (groups_added head group f.view.buds has) in
    record {
      base = [];
      base_is = first ∙ sym (append-nil (groups_of_head 1 f.view.buds));
      data_nodes = group ∷ [];
      data_is = second;
      base_synced = one;
      data_synced = two;
      tree = tree;
      kept = kept;
      does = λ t. grown_data t group (groups_of_head 1 f.view.buds) (groups_of_head 2 f.view.buds) (groups_of_head 1 g.view.buds) (groups_of_head 2 g.view.buds) first second;
    }

-- of what came since a commit began as much is synced: both views got the group
same_rest : (s a b p q : ℕ) → (p ≡ a) × (q ≡ b) ⊎ (p ≡ a + 1) × (q ≡ b + 1) → s - (p - q) ≡ s - (a - b)
same_rest s a b p q (inl (e, f)) = omega (arith, e, f)
same_rest s a b p q (inr (e, f)) = omega (arith, e, f)

lengths : (head k : ℕ) (group : List Carried) (old new : List Bud) → has_bud head old ≡ true → has_bud head new ≡ true
    → (length (groups_of_head k (with_head_group head group old)) ≡ length (groups_of_head k old)) × (length (groups_of_head k (with_head_group head group new)) ≡ length (groups_of_head k new))
    ⊎ (length (groups_of_head k (with_head_group head group old)) ≡ length (groups_of_head k old) + 1) × (length (groups_of_head k (with_head_group head group new)) ≡ length (groups_of_head k new) + 1)
lengths head k group old new in_old in_new = by (head == k) refl
  where
    more : (buds : List Bud) → has_bud head buds ≡ true → head ≡ k → length (groups_of_head k (with_head_group head group buds)) ≡ length (groups_of_head k buds) + 1
    more buds has e = ap length (subst (λ (i : ℕ). groups_of_head i (with_head_group head group buds) ≡ groups_of_head i buds ++ group ∷ []) e (groups_added head group buds has)) ∙ length-append (groups_of_head k buds) (group ∷ [])

    by : (b : Bool) → (head == k) ≡ b
        → (length (groups_of_head k (with_head_group head group old)) ≡ length (groups_of_head k old)) × (length (groups_of_head k (with_head_group head group new)) ≡ length (groups_of_head k new))
        ⊎ (length (groups_of_head k (with_head_group head group old)) ≡ length (groups_of_head k old) + 1) × (length (groups_of_head k (with_head_group head group new)) ≡ length (groups_of_head k new) + 1)
    by true e = inr (more old in_old (eqb-true head k e), more new in_new (eqb-true head k e))
    by false e = inl (ap length (groups_other k head group old e), ap length (groups_other k head group new e))

pub grown_now : (m : Store) (part : Part) (at : At) → IsLegalPart m part → AreRolesApart m → end_at m.ends part.head ≡ Some at → HasGrown (faced_now m) (faced_now (after_part m part)) part.group
grown_now m part at is a e = grown (faced_now m) (faced_now (after_part m part)) part.head part.group is.head (has_last m.now.buds part.head at.lnum (end_bud m.now.buds 0 part.head part.head m.ends at (omega arith) a.ends e)) refl refl refl refl refl

pub grown_later : (m : Store) (part : Part) (at : At) (next : Next) → IsLegalPart m part → AreRolesApart m → IsSince m next.view → end_at m.ends part.head ≡ Some at
    → HasGrown (faced_later m next) (faced_later (after_part m part) (in_next (with_head_group part.head part.group) (length part.group) next)) part.group
grown_later m part at next is a s e = grown (faced_later m next) (faced_later k after) part.head part.group is.head new refl refl refl
    (one_less m.synced _ _ _ ∙ same_rest (get_or m.synced 1 0) _ _ _ _ (lengths part.head 1 part.group m.now.buds next.view.buds old new) ∙ sym (one_less m.synced _ _ _))
    (two_less m.synced _ _ _ ∙ same_rest (get_or m.synced 2 0) _ _ _ _ (lengths part.head 2 part.group m.now.buds next.view.buds old new) ∙ sym (two_less m.synced _ _ _))
  where
    k : Store
    k = after_part m part

    after : Next
    after = in_next (with_head_group part.head part.group) (length part.group) next

    old : has_bud part.head m.now.buds ≡ true
    old = has_last m.now.buds part.head at.lnum (end_bud m.now.buds 0 part.head part.head m.ends at (omega arith) a.ends e)

    new : has_bud part.head next.view.buds ≡ true
    new = has_last next.view.buds part.head at.lnum (end_bud next.view.buds 0 part.head part.head m.ends at (omega arith) s.ends e)

-- ---- what the groups did they do
any_added : {X : Type 0} (t : X → Bool) (n : ℕ) (xs ys : List X) → list_any t (take n xs) ≡ true → list_any t (take n (xs ++ ys)) ≡ true
any_added t zero xs ys h = absurd (false≢true h)
any_added t (suc n) [] ys h = absurd (false≢true h)
any_added t (suc n) (x ∷ xs) ys h = by (λ g. any_added t n xs ys g) (t x) h
  where
    by : (list_any t (take n xs) ≡ true → list_any t (take n (xs ++ ys)) ≡ true) → (b : Bool) → (b || list_any t (take n xs)) ≡ true → (b || list_any t (take n (xs ++ ys))) ≡ true
    by rest true h = refl
    by rest false h = rest h

first_grown : (t : List Carried → Bool) (n k : ℕ) (a b more : List (List Carried)) → k ≡ n → b ≡ a ++ more → list_any t (take n a) ≡ true → list_any t (take k b) ≡ true
first_grown t n k a b more e f h = ap (λ (i : ℕ). list_any t (take i b)) e ∙ ap (λ (gs : List (List Carried)). list_any t (take n gs)) f ∙ any_added t n a more h

pub synced_grown : (f g : Faced) (group : List Carried) (t : Change → Bool) → HasGrown f g group → some_synced_does t f.synced f.view.buds ≡ true → some_synced_does t g.synced g.view.buds ≡ true
synced_grown f g group t s h =
    either_more (list_any (group_does t) (take (get_or f.synced 1 0) (groups_of_head 1 f.view.buds))) (list_any (group_does t) (take (get_or f.synced 2 0) (groups_of_head 2 f.view.buds)))
    (list_any (group_does t) (take (get_or g.synced 1 0) (groups_of_head 1 g.view.buds))) (list_any (group_does t) (take (get_or g.synced 2 0) (groups_of_head 2 g.view.buds)))
    (first_grown (group_does t) (get_or f.synced 1 0) (get_or g.synced 1 0) (groups_of_head 1 f.view.buds) (groups_of_head 1 g.view.buds) s.base s.base_synced s.base_is)
    (first_grown (group_does t) (get_or f.synced 2 0) (get_or g.synced 2 0) (groups_of_head 2 f.view.buds) (groups_of_head 2 g.view.buds) s.data_nodes s.data_synced s.data_is) h

name_grown : (f g : Faced) (group : List Carried) (o : Orphan) → HasGrown f g group → LostItsName f o → LostItsName g o
name_grown f g group o s (inl (un, does)) = inl (un, s.does (drops_inode o.ino) ∙ or_left (some_does (drops_inode o.ino) f.view.buds) (group_does (drops_inode o.ino) group) does)
name_grown f g group o s (inr (is, inl does)) = inr (is, inl (synced_grown f g group (drops_inode o.ino) s does))
name_grown f g group o s (inr (is, inr lost)) = inr (is, inr (ap (λ (t : Tree). is_nameless t o.ino) s.tree ∙ lost))

-- ---- orphans
named_or : (g : Faced) (n : ℕ) (os : List Orphan) → AllByRecursion (LostItsName g) os → (list_any (λ o. o.ino == n) os ≡ false → LostItsName g (record { ino = n; synced = false })) → LostItsName g (orphan_in os n)
named_or g n [] h fresh = fresh refl
named_or g n (o ∷ os) h fresh = by (λ new. named_or g n os h.1 new) (o.ino == n) refl
  where
    rest : Orphan
    rest = record { ino = n; synced = false }

    by : ((list_any (λ o. o.ino == n) os ≡ false → LostItsName g rest) → LostItsName g (orphan_in os n)) → (b : Bool) → (o.ino == n) ≡ b → LostItsName g (option_map_or (λ (o : Orphan). o) (cond b (Some o) (find (λ o. o.ino == n) os)) rest)
    by more true e = h.0
    by more false e = more (λ none. fresh (ap (λ (b : Bool). b || list_any (λ o. o.ino == n) os) e ∙ none))

all_named : (g : Faced) (os : List Orphan) (inos : List ℕ) → AllByRecursion (LostItsName g) os → AllByRecursion (λ n. list_any (λ o. o.ino == n) os ≡ false → LostItsName g (record { ino = n; synced = false })) inos → AllByRecursion (LostItsName g) (map (orphan_in os) inos)
all_named g os [] h fresh = tt
all_named g os (n ∷ inos) h fresh = (named_or g n os h fresh.0, all_named g os inos h fresh.1)

ino_among : (os : List Orphan) (n : ℕ) → list_any (λ o. o.ino == n) os ≡ is_among (map (λ orphan. orphan.ino) os) n
ino_among [] n = refl
ino_among (o ∷ os) n = ap (λ (b : Bool). (o.ino == n) || b) (ino_among os n)

among_self : (P : ℕ → Type 0) (ns : List ℕ) → ((n : ℕ) → is_among ns n ≡ true → P n) → AllByRecursion P ns
among_self P [] one = tt
among_self P (n ∷ ns) one = (one n (or_left (n == n) (is_among ns n) (eq-eqb n n refl)), among_self P ns (λ k h. one k (or_right (n == k) (is_among ns k) h)))

not_nameless : (tree : Tree) (n : ℕ) → is_among (nameless tree) n ≡ false → is_nameless tree n ≡ false
not_nameless tree n h = by (is_nameless tree n) refl
  where
    by : (b : Bool) → is_nameless tree n ≡ b → is_nameless tree n ≡ false
    by true e = absurd (false≢true (sym h ∙ nameless_among tree.inodes n e))
    by false e = e

-- ---- held leaves
replayed_gone : (change : Change) (x : Kept) → is_gone change x ≡ true → is_gone (as_replayed change) x ≡ true
replayed_gone (SetInode ino inode) x h = by (inode.nlink == 0)
  where
    goes_too : (s : Option Change) → goes (SetInode ino inode) s ≡ true → goes (DropInode ino) s ≡ true
    goes_too (Some (SetInode other old)) h = h
    goes_too (Some (SetEntry e)) h = absurd (false≢true h)
    goes_too (Some (DropEntry dir name)) h = absurd (false≢true h)
    goes_too (Some (SetBlock a b c)) h = absurd (false≢true h)
    goes_too (Some (CutBlocks a b c)) h = absurd (false≢true h)
    goes_too (Some (DropInode a)) h = absurd (false≢true h)
    goes_too None h = absurd (false≢true h)

    by : (b : Bool) → is_gone (cond b (DropInode ino) (SetInode ino inode)) x ≡ true
    by true = goes_too (shown_by x) h
    by false = h
replayed_gone (SetEntry e) x h = h
replayed_gone (DropEntry dir name) x h = h
replayed_gone (SetBlock a b c) x h = h
replayed_gone (CutBlocks a b c) x h = h
replayed_gone (DropInode a) x h = h

filter_each : (P : Kept → Type 0) (t : Kept → Bool) → ((x : Kept) → t x ≡ true → P x) → (xs : List Kept) → AllByRecursion P (filter t xs)
filter_each P t one [] = tt
filter_each P t one (x ∷ xs) = by (filter_each P t one xs) (t x) refl
  where
    by : AllByRecursion P (filter t xs) → (b : Bool) → t x ≡ b → AllByRecursion P (cond b (x ∷ filter t xs) (filter t xs))
    by rest true e = (one x e, rest)
    by rest false e = rest

held_each : (P : Kept → Type 0) (group : List Carried) (h : Held) → AllByRecursion (λ c. (x : Kept) → is_gone c.change x ≡ true → P x) group → AllByRecursion P h.held → AllByRecursion P (fold after_change h group).held
held_each P [] h one e = e
held_each P (c ∷ group) h one e = held_each P group (after_change h c) one.1 (each_both P h.held _ e (by (is_idle h.live c.change)))
  where
    by : (b : Bool) → AllByRecursion P (cond b [] (filter (is_gone c.change) h.live))
    by true = tt
    by false = filter_each P (is_gone c.change) one.0 h.live

-- a group does what one of its changes does
each_does : (group : List Carried) → AllByRecursion (λ c. (t : Change → Bool) → t (as_replayed c.change) ≡ true → group_does t group ≡ true) group
each_does [] = tt
each_does (c ∷ group) = (λ t h. or_left (t (as_replayed c.change)) (group_does t group) h, further group (each_does group))
  where
    further : (ds : List Carried) → AllByRecursion (λ d. (t : Change → Bool) → t (as_replayed d.change) ≡ true → group_does t group ≡ true) ds → AllByRecursion (λ d. (t : Change → Bool) → t (as_replayed d.change) ≡ true → group_does t (c ∷ group) ≡ true) ds
    further [] h = tt
    further (d ∷ ds) h = (λ t e. or_right (t (as_replayed c.change)) (group_does t group) (h.0 t e), further ds h.1)

all_does : (P : Kept → Type 0) (group : List Carried) → ((x : Kept) → group_does (λ change. is_gone change x) group ≡ true → P x) → (ds : List Carried) → AllByRecursion (λ c. (t : Change → Bool) → t (as_replayed c.change) ≡ true → group_does t group ≡ true) ds
    → AllByRecursion (λ c. (x : Kept) → is_gone c.change x ≡ true → P x) ds
all_does P group one [] h = tt
all_does P group one (d ∷ ds) h = (λ x e. one x (h.0 (λ change. is_gone change x) (replayed_gone d.change x e)), all_does P group one ds h.1)

-- ---- a part
neither : (a b : Bool) → not a ≡ true → b ≡ false → not (a || b) ≡ true
neither true b h e = absurd (false≢true h)
neither false b h e = ap not e

part_face : (m : Store) (part : Part) (f g : Faced) → IsLegalPart m part → IsProper m.tree → map (λ orphan. orphan.ino) m.orphans ≡ nameless m.tree → HasGrown f g part.group → HasGone m f → HasGone (after_part m part) g
part_face m part f g is proper names s h = record {
  lost = subst (λ (kept : List Kept). list_all (λ x. is_listed (is_lost after) (shown_by x)) kept ≡ true) (sym s.kept) (more_orphans (is_lost m.tree) (is_lost after) (λ n e. (lost n e).0) f.view.kept h.lost);
  unset = subst (λ (kept : List Kept). list_all (λ x. is_listed (λ ino. not (some_does (sets_inode ino) g.view.buds)) (shown_by x)) kept ≡ true) (sym s.kept)
      (both_orphans (is_lost m.tree) (λ ino. not (some_does (sets_inode ino) f.view.buds)) (λ ino. not (some_does (sets_inode ino) g.view.buds))
      (λ n e u. ap not (s.does (sets_inode n)) ∙ neither (some_does (sets_inode n) f.view.buds) (group_does (sets_inode n) part.group) u (lost n e).1) f.view.kept h.lost h.unset);
  held = held_each P part.group (record { live = m.live; held = m.held }) (all_does P part.group (λ x e. s.does (λ change. is_gone change x) ∙ or_right (some_does (λ change. is_gone change x) f.view.buds) (group_does (λ change. is_gone change x) part.group) e) part.group (each_does part.group))
      (each_weaker _ P (λ x e. s.does (λ change. is_gone change x) ∙ or_left (some_does (λ change. is_gone change x) f.view.buds) (group_does (λ change. is_gone change x) part.group) e) m.held h.held);
  orphans = all_named g m.orphans (nameless after) (each_weaker (LostItsName f) (LostItsName g) (λ o e. name_grown f g part.group o s e) m.orphans h.orphans) (among_self _ (nameless after) fresh);
}
  where
    after : Tree
    after = apply m.tree (changes_of part.group)

    P : Kept → Type 0
    P x = some_does (λ change. is_gone change x) g.view.buds ≡ true

    lost : (n : ℕ) → is_lost m.tree n ≡ true → (is_lost after n ≡ true) × (list_any (λ change. sets_inode n (as_replayed change)) (changes_of part.group) ≡ false)
    lost n e = group_lost (changes_of part.group) m.tree n (in_order m.tree proper) is.keeps.revives_none e

    fresh : (n : ℕ) → is_among (nameless after) n ≡ true → list_any (λ o. o.ino == n) m.orphans ≡ false → LostItsName g (record { ino = n; synced = false })
    fresh n among none =
        let un = not_nameless m.tree n (sym (ap (λ (ns : List ℕ). is_among ns n) names) ∙ sym (ino_among m.orphans n) ∙ none) in
        let new = group_newly (changes_of part.group) m.tree n un (listed_nameless after.inodes n is.keeps.proper.inodes_ascend among) in
        inl (refl, s.does (drops_inode n) ∙ or_right (some_does (drops_inode n) f.view.buds) (group_does (drops_inode n) part.group) new)

pub part_gone : (m : Store) (part : Part) → IsLegalPart m part → IsProper m.tree → map (λ orphan. orphan.ino) m.orphans ≡ nameless m.tree → AreRolesApart m → HasSince m m.next → OfBoth m (HasGone m) → OfBoth (after_part m part) (HasGone (after_part m part))
part_gone m part is proper names a since h = by (end_at m.ends part.head) refl is.fits
  where
    k : Store
    k = after_part m part

    later : (at : At) → end_at m.ends part.head ≡ Some at → (next : Option Next) → HasSince m next → OfNext m next (HasGone m) → OfNext k (option_map (in_next (with_head_group part.head part.group) (length part.group)) next) (HasGone k)
    later at e None s g = tt
    later at e (Some next) s g = part_face m part (faced_later m next) (faced_later k (in_next (with_head_group part.head part.group) (length part.group) next)) is proper names (grown_later m part at next is a s e) g

    by : (o : Option At) → end_at m.ends part.head ≡ o → FitHead m o (map (λ c. c.placed) part.group) → OfBoth k (HasGone k)
    by None e fits = absurd fits
    by (Some at) e fits = (part_face m part (faced_now m) (faced_now k) is proper names (grown_now m part at is a e) h.0, later at e m.next since h.1)
