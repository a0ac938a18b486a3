-- Whole or left LEBs after a sync, a drop, a copy, a freed victim, and a commit's writing and end: a LEB that is emptied has no leaf that need stand.
use Rattle.std.proofs.Common.{◌≡◌, ◌⊎◌, ◌≤◌, ◌∙◌, ℕ, zero, suc, arith, Bool, true, false, cond, not, List, [], ◌∷◌, map, refl, sym, ap, subst, inl, inr, Option, Some, None}
use Rattle.std.specs.Prelude.{◌==◌, ◌&&◌, ◌||◌, get_or, nat_le, take}
use Rattle.std.specs.List.{AllByRecursion, list_all, list_any}
use Rattle.std.proofs.lemmas.Bool.{and_from, and_parts, eq-eqb, false≢true}
use Rattle.media_lpt.specs.declared.leb_kind.LebKind.{LebKind}
use Rattle.media_lpt.specs.declared.leb_kind.LebKind.TheVariants as kind
use Rattle.fs_model.specs.declared.change.Change.{Change}
use Rattle.fs_model.specs.declared.change.Change.TheVariants.{CutBlocks, DropEntry, DropInode, SetBlock, SetEntry, SetInode}
use Rattle.fs_model.specs.Recovery.{as_replayed, KeepsSynced, Numbered, taken}
use Rattle.leaf_map.specs.After.{is_gone}
use Rattle.leaf_map.specs.Allowed.{sets_inode}
use Rattle.leaf_map.specs.Kept.{Kept, Placed, shown_by}
use Rattle.leaf_map.specs.Parts.{in_bud, Named}
use Rattle.store_model.specs.Fits.{AreLeavesLeft, Faced, IsLeafLeft, IsOfNameless, IsUnset, named_by_log}
use Rattle.store_model.specs.Heads.{copies_of, heads_of}
use Rattle.store_model.specs.Invariant.{are_within, AreWhole, IsAccountedFor, IsBareOfLeaves, IsMeantIn, IsMoved, LeafStands, takes_leaves}
use Rattle.store_model.specs.Lebs.{emptied_leb, freed, has_leaf, is_role, is_victim_of, stands_in, tidied_store}
use Rattle.store_model.specs.Legal.{IsLeafOf}
use Rattle.store_model.specs.Store.{Bud, Leb, Moving, Store, View}
use Rattle.store_model.proofs.BareLebs.{meant_none}
use Rattle.store_model.proofs.LebRows.{has_row, rows}
use Rattle.store_model.proofs.LiveLeaves.{changed_number, stands_map}
use Rattle.store_model.proofs.RecoveryCopies.{either_of}
use Rattle.store_model.proofs.RecoveryOrder.{or_left, or_right}

-- ---- a LEB that is emptied
pub record IsEmptied (k : Store) (n : ℕ) : Type 0 where
  pub live : list_any (stands_in n) k.live ≡ false
  pub held : list_any (stands_in n) k.held ≡ false
  pub victim : is_victim_of k.moving n ≡ false

stands_there : (n : ℕ) (xs : List Kept) (x : Kept) → IsLeafOf xs x → x.leaf.lnum ≡ n → list_any (stands_in n) xs ≡ true
stands_there n [] x h at = absurd h
stands_there n (y ∷ xs) x (inl e) at = or_left (stands_in n y) (list_any (stands_in n) xs) (eq-eqb y.leaf.lnum n (ap (λ (z : Kept). z.leaf.lnum) e ∙ at))
stands_there n (y ∷ xs) x (inr h) at = or_right (stands_in n y) (list_any (stands_in n) xs) (stands_there n xs x h at)

left_one : (k : Store) (f : Faced) (n : ℕ) (x : Kept) → IsEmptied k n → x.leaf.lnum ≡ n → IsAccountedFor k f x → IsLeafLeft f x
left_one k f n x e at (inl live) = absurd (false≢true (sym e.live ∙ stands_there n k.live x live at))
left_one k f n x e at (inr (inl held)) = absurd (false≢true (sym e.held ∙ stands_there n k.held x held at))
left_one k f n x e at (inr (inr (inl moved))) = by k.moving e.victim moved
  where
    by : (moving : Option Moving) → is_victim_of moving n ≡ false → IsMoved moving f x → IsLeafLeft f x
    by None v moved = absurd moved
    by (Some moving) v moved = absurd (false≢true (sym v ∙ eq-eqb moving.victim n (sym moved.0 ∙ at)))
left_one k f n x e at (inr (inr (inr left))) = left

pub all_left : (k : Store) (f : Faced) (n : ℕ) (kept : List Kept) → IsEmptied k n → AllByRecursion (IsAccountedFor k f) kept → AreLeavesLeft f n kept
all_left k f n [] e h = tt
all_left k f n (x ∷ kept) e h = (λ at. left_one k f n x e at h.0, all_left k f n kept e h.1)

-- ---- a LEB that keeps what stands in it
pub record KeepsLeb (m k : Store) (f g : Faced) (n : ℕ) : Type 0 where
  pub named : map named_by_log g.view.buds ≡ map named_by_log f.view.buds
  pub stand : (x : Kept) → x.leaf.lnum ≡ n → LeafStands m.lebs x → LeafStands k.lebs x
  pub left : (x : Kept) → IsLeafLeft f x → IsLeafLeft g x

whole_keeps : (m k : Store) (f g : Faced) (n : ℕ) (kept : List Kept) → KeepsLeb m k f g n → AreWhole m f.view n kept → AreWhole k g.view n kept
whole_keeps m k f g n [] s h = tt
whole_keeps m k f g n (x ∷ kept) s h = (λ at. (s.stand x at (h.0 at).0, ap (λ (ns : List Named). not (in_bud ns x.leaf)) s.named ∙ (h.0 at).1), whole_keeps m k f g n kept s h.1)

left_keeps : (f g : Faced) (n : ℕ) (kept : List Kept) → ((x : Kept) → IsLeafLeft f x → IsLeafLeft g x) → AreLeavesLeft f n kept → AreLeavesLeft g n kept
left_keeps f g n [] more h = tt
left_keeps f g n (x ∷ kept) more h = (λ at. more x (h.0 at), left_keeps f g n kept more h.1)

abbrev pub EitherLeb : Store → Faced → List Kept → ℕ → Type 0
EitherLeb m f kept n = AreWhole m f.view n kept ⊎ AreLeavesLeft f n kept

pub keeps_either : (m k : Store) (f g : Faced) (n : ℕ) (kept : List Kept) → KeepsLeb m k f g n → EitherLeb m f kept n → EitherLeb k g kept n
keeps_either m k f g n kept s (inl whole) = inl (whole_keeps m k f g n kept s whole)
keeps_either m k f g n kept s (inr left) = inr (left_keeps f g n kept s.left left)

-- ---- leaf LEBs without a leaf are emptied
freed_keep : (s : Store) (lebs : List Leb) (x : Kept) → (not (has_leaf s x.leaf.lnum) && not (is_victim_of s.moving x.leaf.lnum)) ≡ false → LeafStands lebs x → LeafStands (map (freed s) lebs) x
freed_keep s lebs x used st =
    stands_map (freed s) x lebs (λ leb. changed_number 0 emptied_leb (λ leb. refl) leb (test leb)) (λ leb same is. by leb is (is_role kind.Leaf leb.role) (not (has_leaf s leb.lnum)) (not (is_victim_of s.moving leb.lnum))
    (subst (λ (n : ℕ). (not (has_leaf s n) && not (is_victim_of s.moving n)) ≡ false) (sym same) used)) st
  where
    test : Leb → Bool
    test leb = is_role kind.Leaf leb.role && not (has_leaf s leb.lnum) && not (is_victim_of s.moving leb.lnum)

    by : (leb : Leb) → IsMeantIn x leb.text → (a b c : Bool) → (b && c) ≡ false → IsMeantIn x (cond (a && b && c) (emptied_leb leb) leb).text
    by leb is false b c e = is
    by leb is true false c e = is
    by leb is true true false e = is
    by leb is true true true e = absurd (false≢true (sym e))

emptied_or : (s : Store) (n : ℕ) → IsEmptied s n ⊎ ((not (has_leaf s n) && not (is_victim_of s.moving n)) ≡ false)
emptied_or s n = by (list_any (stands_in n) s.live) refl (list_any (stands_in n) s.held) refl (is_victim_of s.moving n) refl
  where
    by : (a : Bool) → list_any (stands_in n) s.live ≡ a → (b : Bool) → list_any (stands_in n) s.held ≡ b → (c : Bool) → is_victim_of s.moving n ≡ c → IsEmptied s n ⊎ ((not (has_leaf s n) && not (is_victim_of s.moving n)) ≡ false)
    by true e b f c g = inr (ap (λ (z : Bool). not (z || list_any (stands_in n) s.held) && not (is_victim_of s.moving n)) e)
    by false e true f c g = inr (ap (λ (z : Bool). not (z || list_any (stands_in n) s.held) && not (is_victim_of s.moving n)) e ∙ ap (λ (z : Bool). not z && not (is_victim_of s.moving n)) f)
    by false e false f true g = inr (ap (λ (z : Bool). not (z || list_any (stands_in n) s.held) && not (is_victim_of s.moving n)) e ∙ ap (λ (z : Bool). not z && not (is_victim_of s.moving n)) f ∙ ap not g)
    by false e false f false g = inl (record { live = e; held = f; victim = g })

pub tidied_either : (m s : Store) (f g : Faced) (n : ℕ) (kept : List Kept) → KeepsLeb m s f g n → AllByRecursion (IsAccountedFor (tidied_store s) g) kept → EitherLeb m f kept n → EitherLeb (tidied_store s) g kept n
tidied_either m s f g n kept keeps accounted h = by (emptied_or s n)
  where
    by : IsEmptied s n ⊎ ((not (has_leaf s n) && not (is_victim_of s.moving n)) ≡ false) → EitherLeb (tidied_store s) g kept n
    by (inl e) = inr (all_left (tidied_store s) g n kept (record { live = e.live; held = e.held; victim = e.victim }) accounted)
    by (inr used) = keeps_either m (tidied_store s) f g n kept (record {
      named = keeps.named;
      stand = λ x at st. freed_keep s s.lebs x (subst (λ (i : ℕ). (not (has_leaf s i) && not (is_victim_of s.moving i)) ≡ false) (sym at) used) (keeps.stand x at st);
      left = keeps.left;
    }) h

-- ---- more is synced
less_synced : (buds : List Bud) (a b : List ℕ) → get_or a 1 0 ≤ get_or b 1 0 → get_or a 2 0 ≤ get_or b 2 0 → (counts : List ℕ) → KeepsSynced (heads_of buds b) counts → KeepsSynced (heads_of buds a) counts
less_synced buds a b one two [] keeps = absurd keeps
less_synced buds a b one two (x ∷ []) (l, h, rest) = absurd rest
less_synced buds a b one two (x ∷ y ∷ []) (l, h, (m, i, rest)) = absurd rest
less_synced buds a b one two (x ∷ y ∷ z ∷ []) (l, h, (m, i, (n, j, rest))) = (l, h, (omega (arith, one, m), i, (omega (arith, two, n), j, tt)))
less_synced buds a b one two (x ∷ y ∷ z ∷ w ∷ counts) (l, h, (m, i, (n, j, rest))) = absurd rest

same_taken : (buds : List Bud) (a b counts : List ℕ) → taken (heads_of buds a) counts ≡ taken (heads_of buds b) counts
same_taken buds a b [] = refl
same_taken buds a b (x ∷ []) = refl
same_taken buds a b (x ∷ y ∷ []) = refl
same_taken buds a b (x ∷ y ∷ z ∷ counts) = refl

take_up : (t : Placed → Bool) (n k : ℕ) (xs : List Placed) → n ≤ k → list_any t (take n xs) ≡ true → list_any t (take k xs) ≡ true
take_up t zero k xs up h = absurd (false≢true h)
take_up t (suc n) zero xs up h = absurd (omega (arith, up))
take_up t (suc n) (suc k) [] up h = h
take_up t (suc n) (suc k) (x ∷ xs) up h = by (λ g. take_up t n k xs (omega (arith, up)) g) (t x) h
  where
    by : (list_any t (take n xs) ≡ true → list_any t (take k xs) ≡ true) → (b : Bool) → (b || list_any t (take n xs)) ≡ true → (b || list_any t (take k xs)) ≡ true
    by rest true h = refl
    by rest false h = rest h

unset_more : (buds : List Bud) (a b : List ℕ) (ino : ℕ) → get_or a 1 0 ≤ get_or b 1 0 → get_or a 2 0 ≤ get_or b 2 0 → IsUnset (heads_of buds a) ino → IsUnset (heads_of buds b) ino
unset_more buds a b ino one two h counts keeps = subst (λ (cs : Numbered). list_all (λ c. not (sets_inode ino (as_replayed c.1))) cs ≡ true) (same_taken buds a b counts) (h counts (less_synced buds a b one two counts keeps))

nameless_synced : (view : View) (a b : List ℕ) (lists : List (List ℕ)) → get_or a 1 0 ≤ get_or b 1 0 → get_or a 2 0 ≤ get_or b 2 0 → (s : Option Change)
    → IsOfNameless (record { view = view; synced = a; lists = lists }) s → IsOfNameless (record { view = view; synced = b; lists = lists }) s
nameless_synced view a b lists one two (Some (SetInode ino inode)) h = (h.0, unset_more view.buds a b ino one two h.1)
nameless_synced view a b lists one two (Some (SetBlock ino block bytes)) h = (h.0, unset_more view.buds a b ino one two h.1)
nameless_synced view a b lists one two (Some (SetEntry entry)) h = absurd h
nameless_synced view a b lists one two (Some (DropEntry dir name)) h = absurd h
nameless_synced view a b lists one two (Some (CutBlocks ino old new)) h = absurd h
nameless_synced view a b lists one two (Some (DropInode ino)) h = absurd h
nameless_synced view a b lists one two None h = absurd h

pub left_synced : (view : View) (a b : List ℕ) (lists : List (List ℕ)) (x : Kept) → get_or a 0 0 ≤ get_or b 0 0 → get_or a 1 0 ≤ get_or b 1 0 → get_or a 2 0 ≤ get_or b 2 0
    → IsLeafLeft (record { view = view; synced = a; lists = lists }) x → IsLeafLeft (record { view = view; synced = b; lists = lists }) x
left_synced view a b lists x none one two (inl copy) = inl (take_up _ (get_or a 0 0) (get_or b 0 0) (copies_of view.buds) none copy)
left_synced view a b lists x none one two (inr (inl touched)) =
    inr (inl (λ counts keeps. subst (λ (cs : Numbered). list_any (λ c. is_gone (as_replayed c.1) x) cs ≡ true) (same_taken view.buds a b counts) (touched counts (less_synced view.buds a b one two counts keeps))))
left_synced view a b lists x none one two (inr (inr (of, lost))) = inr (inr (of, nameless_synced view a b lists one two (shown_by x) lost))

-- no more is synced than there is
pub within_at : (a b : List ℕ) (i : ℕ) → are_within a b ≡ true → get_or a i 0 ≤ get_or b i 0
within_at [] b i h = omega arith
within_at (n ∷ a) [] i h = absurd (false≢true h)
within_at (n ∷ a) (k ∷ b) zero h = let up = (and_parts (nat_le n k) (are_within a b) h).0 in grind (arith, up)
within_at (n ∷ a) (k ∷ b) (suc i) h = within_at a b i (and_parts (nat_le n k) (are_within a b) h).1

-- ---- a leaf that stands is in a leaf LEB or in a bud
pub stood_role : (x : Kept) (lebs : List Leb) → AllByRecursion IsBareOfLeaves lebs → LeafStands lebs x → (has_row kind.Leaf (rows lebs) x.leaf.lnum || has_row kind.Bud (rows lebs) x.leaf.lnum) ≡ true
stood_role x [] bare s = absurd s
stood_role x (leb ∷ lebs) bare (inl (at, is)) = by leb.role refl
  where
    here : (leb.lnum == x.leaf.lnum) ≡ true
    here = eq-eqb leb.lnum x.leaf.lnum at

    by : (role : LebKind) → leb.role ≡ role → (has_row kind.Leaf (rows (leb ∷ lebs)) x.leaf.lnum || has_row kind.Bud (rows (leb ∷ lebs)) x.leaf.lnum) ≡ true
    by kind.Leaf e = or_left (has_row kind.Leaf (rows (leb ∷ lebs)) x.leaf.lnum) (has_row kind.Bud (rows (leb ∷ lebs)) x.leaf.lnum) (or_left ((leb.lnum == x.leaf.lnum) && is_role kind.Leaf leb.role) (has_row kind.Leaf (rows lebs) x.leaf.lnum) (and_from (leb.lnum == x.leaf.lnum) (is_role kind.Leaf leb.role) here (ap (is_role kind.Leaf) e)))
    by kind.Bud e = or_right (has_row kind.Leaf (rows (leb ∷ lebs)) x.leaf.lnum) (has_row kind.Bud (rows (leb ∷ lebs)) x.leaf.lnum) (or_left ((leb.lnum == x.leaf.lnum) && is_role kind.Bud leb.role) (has_row kind.Bud (rows lebs) x.leaf.lnum) (and_from (leb.lnum == x.leaf.lnum) (is_role kind.Bud leb.role) here (ap (is_role kind.Bud) e)))
    by kind.Free e = absurd (meant_none x leb.text (bare.0 (ap takes_leaves e)) is)
    by kind.Index e = absurd (meant_none x leb.text (bare.0 (ap takes_leaves e)) is)
    by kind.Taken e = absurd (meant_none x leb.text (bare.0 (ap takes_leaves e)) is)
stood_role x (leb ∷ lebs) bare (inr s) = by (either_of (has_row kind.Leaf (rows lebs) x.leaf.lnum) (has_row kind.Bud (rows lebs) x.leaf.lnum) (stood_role x lebs bare.1 s))
  where
    by : (has_row kind.Leaf (rows lebs) x.leaf.lnum ≡ true) ⊎ (has_row kind.Bud (rows lebs) x.leaf.lnum ≡ true) → (has_row kind.Leaf (rows (leb ∷ lebs)) x.leaf.lnum || has_row kind.Bud (rows (leb ∷ lebs)) x.leaf.lnum) ≡ true
    by (inl h) = or_left (has_row kind.Leaf (rows (leb ∷ lebs)) x.leaf.lnum) (has_row kind.Bud (rows (leb ∷ lebs)) x.leaf.lnum) (or_right ((leb.lnum == x.leaf.lnum) && is_role kind.Leaf leb.role) (has_row kind.Leaf (rows lebs) x.leaf.lnum) h)
    by (inr h) = or_right (has_row kind.Leaf (rows (leb ∷ lebs)) x.leaf.lnum) (has_row kind.Bud (rows (leb ∷ lebs)) x.leaf.lnum) (or_right ((leb.lnum == x.leaf.lnum) && is_role kind.Bud leb.role) (has_row kind.Bud (rows lebs) x.leaf.lnum) h)
