-- What a commit's end makes of LEBs: those that it took are the index's, those without a node of it are empty, and those that the log names no longer hold leaves.
use Rattle.std.proofs.Common.{◌≡◌, ◌⊎◌, ℕ, ◌+◌, Bool, true, false, cond, not, List, [], ◌∷◌, map, refl, sym, ap, subst, ◌∙◌, inl, inr, Option, Some, None}
use Rattle.std.specs.Prelude.{◌==◌, ◌&&◌, ◌||◌, get_or}
use Rattle.std.specs.List.{flat_map, list_all, list_any}
use Rattle.std.proofs.lemmas.Bool.{and_parts, and_from, eqb-true, eq-eqb, false≢true}
use Rattle.media_lpt.specs.declared.leb_kind.LebKind.{LebKind}
use Rattle.media_lpt.specs.declared.leb_kind.LebKind.TheVariants as kind
use Rattle.leaf_map.specs.Kept.{Kept}
use Rattle.store_model.specs.Events.{end_commit, node_items, offer, offered, role_after, role_then, view_branchings, write_index}
use Rattle.store_model.specs.Invariant.{AreRolesApart, HasSince, IsSince, IsTaking, is_used, lebs_taken}
use Rattle.store_model.specs.Heads.{synced_since}
use Rattle.store_model.specs.Legal.{are_distinct}
use Rattle.store_model.specs.Lebs.{changed_leb, has_leaf, has_node, has_role, is_among, is_role}
use Rattle.store_model.specs.Store.{Bud, Item, Leb, Moving, Next, IndexNodePlace, Store, View}
use Rattle.store_model.proofs.LebFrees.{AreNearly, both_all, tidied_from}
use Rattle.store_model.proofs.LebPuts.{same_taken}
use Rattle.store_model.proofs.LebRows.{AreRows, Row, Uses, all_in, all_weaker, from_rows, has_row, numbers_kept, role_row, rows, to_rows, used_follows, used_stays, victim_row}
use Rattle.store_model.proofs.RecoveryCopies.{either_of}
use Rattle.store_model.proofs.RecoveryOrder.{or_left, or_right}

abbrev pub after_row : View → Row → Row
after_row view (n, kind.Free) = (n, kind.Free)
after_row view (n, kind.Leaf) = (n, kind.Leaf)
after_row view (n, kind.Index) = cond (has_node view.places n) (n, kind.Index) (n, kind.Free)
after_row view (n, kind.Bud) = cond (list_any (λ bud. bud.lnum == n) view.buds) (n, kind.Bud) (n, kind.Leaf)
after_row view (n, kind.Taken) = (n, kind.Index)

-- two rows are one
abbrev IsRow : Row → Row → Type 0
IsRow a b = a ≡ b

row_is : (view : View) (leb : Leb) (role : LebKind) → leb.role ≡ role → IsRow ((role_then view leb role).lnum, (role_then view leb role).role) (after_row view (leb.lnum, role))
row_is view leb kind.Free e = ap (λ (r : LebKind). (leb.lnum, r)) e
row_is view leb kind.Leaf e = ap (λ (r : LebKind). (leb.lnum, r)) e
row_is view leb kind.Taken e = refl
row_is view leb kind.Index e = by (has_node view.places leb.lnum)
  where
    by : (b : Bool) → IsRow ((cond b leb (record leb { role = kind.Free; text = [] })).lnum, (cond b leb (record leb { role = kind.Free; text = [] })).role) (cond b (leb.lnum, kind.Index) (leb.lnum, kind.Free))
    by true = ap (λ (r : LebKind). (leb.lnum, r)) e
    by false = refl
row_is view leb kind.Bud e = by (list_any (λ bud. bud.lnum == leb.lnum) view.buds)
  where
    by : (b : Bool) → IsRow ((cond b leb (record leb { role = kind.Leaf })).lnum, (cond b leb (record leb { role = kind.Leaf })).role) (cond b (leb.lnum, kind.Bud) (leb.lnum, kind.Leaf))
    by true = ap (λ (r : LebKind). (leb.lnum, r)) e
    by false = refl

pub after_rows : (view : View) (lebs : List Leb) → rows (map (role_after view) lebs) ≡ map (after_row view) (rows lebs)
after_rows view [] = refl
after_rows view (leb ∷ lebs) =
    ap (λ (r : Row). r ∷ rows (map (role_after view) lebs)) (row_is view leb leb.role refl) ∙ ap (λ (z : List Row). after_row view (leb.lnum, leb.role) ∷ z) (after_rows view lebs)

pub after_number : (view : View) (r : Row) → (after_row view r).0 ≡ r.0
after_number view (n, kind.Free) = refl
after_number view (n, kind.Leaf) = refl
after_number view (n, kind.Taken) = refl
after_number view (n, kind.Index) = by (has_node view.places n)
  where
    by : (b : Bool) → (cond {A = Row} b (n, kind.Index) (n, kind.Free)).0 ≡ n
    by true = refl
    by false = refl
after_number view (n, kind.Bud) = by (list_any (λ bud. bud.lnum == n) view.buds)
  where
    by : (b : Bool) → (cond {A = Row} b (n, kind.Bud) (n, kind.Leaf)).0 ≡ n
    by true = refl
    by false = refl

-- ---- of one LEB
abbrev One : View → LebKind → LebKind → ℕ → Type 0
One view old new n = (r : Row) → (r.0 == n) ≡ true → is_role old r.1 ≡ true → is_role new (after_row view r).1 ≡ true

one_after : (view : View) (old new : LebKind) (n : ℕ) → One view old new n → (rs : List Row) → has_row old rs n ≡ true → has_row new (map (after_row view) rs) n ≡ true
one_after view old new n one [] h = absurd (false≢true h)
one_after view old new n one (r ∷ rs) h = by (one_after view old new n one rs) (either_of ((r.0 == n) && is_role old r.1) (has_row old rs n) h)
  where
    by : (has_row old rs n ≡ true → has_row new (map (after_row view) rs) n ≡ true) → (((r.0 == n) && is_role old r.1) ≡ true) ⊎ (has_row old rs n ≡ true) → has_row new (map (after_row view) (r ∷ rs)) n ≡ true
    by rest (inl e) =
        let p = and_parts (r.0 == n) (is_role old r.1) e in
        or_left (((after_row view r).0 == n) && is_role new (after_row view r).1) (has_row new (map (after_row view) rs) n)
        (and_from ((after_row view r).0 == n) (is_role new (after_row view r).1) (ap (λ (k : ℕ). k == n) (after_number view r) ∙ p.0) (one r p.0 p.1))
    by rest (inr e) = or_right (((after_row view r).0 == n) && is_role new (after_row view r).1) (has_row new (map (after_row view) rs) n) (rest e)

leaf_one : (view : View) (n : ℕ) → One view kind.Leaf kind.Leaf n
leaf_one view n (k, kind.Leaf) e h = refl
leaf_one view n (k, role) e h = absurd (false≢true h)

taken_one : (view : View) (n : ℕ) → One view kind.Taken kind.Index n
taken_one view n (k, kind.Taken) e h = refl
taken_one view n (k, role) e h = absurd (false≢true h)

index_one : (view : View) (n : ℕ) → has_node view.places n ≡ true → One view kind.Index kind.Index n
index_one view n has (k, kind.Index) e h = by (has_node view.places k) (subst (λ (z : ℕ). has_node view.places z ≡ true) (sym (eqb-true k n e)) has)
  where
    by : (b : Bool) → b ≡ true → is_role kind.Index (cond {A = Row} b (k, kind.Index) (k, kind.Free)).1 ≡ true
    by true same = refl
    by false same = absurd (false≢true same)
index_one view n has (k, role) e h = absurd (false≢true h)

bud_one : (view : View) (n : ℕ) → list_any (λ bud. bud.lnum == n) view.buds ≡ true → One view kind.Bud kind.Bud n
bud_one view n has (k, kind.Bud) e h = by (list_any (λ bud. bud.lnum == k) view.buds) (subst (λ (z : ℕ). list_any (λ bud. bud.lnum == z) view.buds ≡ true) (sym (eqb-true k n e)) has)
  where
    by : (b : Bool) → b ≡ true → is_role kind.Bud (cond {A = Row} b (k, kind.Bud) (k, kind.Leaf)).1 ≡ true
    by true same = refl
    by false same = absurd (false≢true same)
bud_one view n has (k, role) e h = absurd (false≢true h)

-- a bud stays one, or holds leaves
bud_or_leaf : (view : View) (rs : List Row) (n : ℕ) → has_row kind.Bud rs n ≡ true → (has_row kind.Leaf (map (after_row view) rs) n || has_row kind.Bud (map (after_row view) rs) n) ≡ true
bud_or_leaf view rs n h = by (list_any (λ bud. bud.lnum == n) view.buds) refl
  where
    none : list_any (λ bud. bud.lnum == n) view.buds ≡ false → One view kind.Bud kind.Leaf n
    none away (k, kind.Bud) e h = one (list_any (λ bud. bud.lnum == k) view.buds) (subst (λ (z : ℕ). list_any (λ bud. bud.lnum == z) view.buds ≡ false) (sym (eqb-true k n e)) away)
      where
        one : (b : Bool) → b ≡ false → is_role kind.Leaf (cond {A = Row} b (k, kind.Bud) (k, kind.Leaf)).1 ≡ true
        one true same = absurd (false≢true (sym same))
        one false same = refl
    none away (k, role) e h = absurd (false≢true h)

    by : (b : Bool) → list_any (λ bud. bud.lnum == n) view.buds ≡ b → (has_row kind.Leaf (map (after_row view) rs) n || has_row kind.Bud (map (after_row view) rs) n) ≡ true
    by true e = or_right (has_row kind.Leaf (map (after_row view) rs) n) (has_row kind.Bud (map (after_row view) rs) n) (one_after view kind.Bud kind.Bud n (bud_one view n e) rs h)
    by false e = or_left (has_row kind.Leaf (map (after_row view) rs) n) (has_row kind.Bud (map (after_row view) rs) n) (one_after view kind.Bud kind.Leaf n (none e) rs h)

-- each bud, and each place, is among all
all_buds : (buds : List Bud) → list_all (λ bud. list_any (λ b. b.lnum == bud.lnum) buds) buds ≡ true
all_buds [] = refl
all_buds (bud ∷ buds) =
    and_from (list_any (λ b. b.lnum == bud.lnum) (bud ∷ buds)) (list_all (λ c. list_any (λ b. b.lnum == c.lnum) (bud ∷ buds)) buds)
    (or_left (bud.lnum == bud.lnum) (list_any (λ b. b.lnum == bud.lnum) buds) (eq-eqb bud.lnum bud.lnum refl))
    (all_weaker (λ (c : Bud). list_any (λ b. b.lnum == c.lnum) buds) (λ c. list_any (λ b. b.lnum == c.lnum) (bud ∷ buds)) (λ c h. or_right (bud.lnum == c.lnum) (list_any (λ b. b.lnum == c.lnum) buds) h) buds (all_buds buds))

pub all_places : (places : List IndexNodePlace) → list_all (λ place. has_node places place.lnum) places ≡ true
all_places [] = refl
all_places (place ∷ places) =
    and_from (has_node (place ∷ places) place.lnum) (list_all (λ c. has_node (place ∷ places) c.lnum) places)
    (or_left (place.lnum == place.lnum) (has_node places place.lnum) (eq-eqb place.lnum place.lnum refl))
    (all_weaker (λ (c : IndexNodePlace). has_node places c.lnum) (λ c. has_node (place ∷ places) c.lnum) (λ c h. or_right (place.lnum == c.lnum) (has_node places c.lnum) h) places (all_places places))

pub among_all : (test : ℕ → Bool) (taken : List ℕ) (n : ℕ) → list_all test taken ≡ true → is_among taken n ≡ true → test n ≡ true
among_all test [] n h i = absurd (false≢true i)
among_all test (k ∷ taken) n h i = let p = and_parts (test k) (list_all test taken) h in by p.0 (among_all test taken n p.1) (either_of (k == n) (is_among taken n) i)
  where
    by : test k ≡ true → (is_among taken n ≡ true → test n ≡ true) → ((k == n) ≡ true) ⊎ (is_among taken n ≡ true) → test n ≡ true
    by first rest (inl e) = subst (λ (z : ℕ). test z ≡ true) (eqb-true k n e) first
    by first rest (inr e) = rest e

-- ---- the event
abbrev pub ended_store : Store → Next → Store
ended_store m next = record m {
  now = next.view;
  next = None;
  synced = synced_since m next;
  lebs = map (role_after next.view) m.lebs;
  listed = next.listed;
  sqnum = m.sqnum + 1;
}

end_use : (m : Store) (next : Next) (r : Row) → is_used m r.0 r.1 ≡ true → (is_used (ended_store m next) (after_row next.view r).0 (after_row next.view r).1 || is_role kind.Leaf (after_row next.view r).1) ≡ true
end_use m next (n, kind.Free) h = or_left (not (has_leaf m n)) false h
end_use m next (n, kind.Leaf) h = or_right (is_used (ended_store m next) n kind.Leaf) true refl
end_use m next (n, kind.Taken) h = or_left (not (has_leaf m n)) false (and_parts (not (has_leaf m n)) (is_among (lebs_taken m.next) n) h).0
end_use m next (n, kind.Index) h = by (has_node next.view.places n)
  where
    by : (b : Bool) → (is_used (ended_store m next) (cond {A = Row} b (n, kind.Index) (n, kind.Free)).0 (cond {A = Row} b (n, kind.Index) (n, kind.Free)).1 || is_role kind.Leaf (cond {A = Row} b (n, kind.Index) (n, kind.Free)).1) ≡ true
    by true = or_left (not (has_leaf m n)) false h
    by false = or_left (not (has_leaf m n)) false h
end_use m next (n, kind.Bud) h = by (list_any (λ bud. bud.lnum == n) next.view.buds) refl
  where
    by : (b : Bool) → list_any (λ bud. bud.lnum == n) next.view.buds ≡ b
        → (is_used (ended_store m next) (cond {A = Row} b (n, kind.Bud) (n, kind.Leaf)).0 (cond {A = Row} b (n, kind.Bud) (n, kind.Leaf)).1 || is_role kind.Leaf (cond {A = Row} b (n, kind.Bud) (n, kind.Leaf)).1) ≡ true
    by true e = or_left (list_any (λ bud. bud.lnum == n) next.view.buds) false e
    by false e = or_right (is_used (ended_store m next) n kind.Leaf) true refl

end_uses : (m : Store) (next : Next) (rs : List Row) → list_all (λ r. is_used m r.0 r.1) rs ≡ true
    → list_all (λ r. is_used (ended_store m next) r.0 r.1 || is_role kind.Leaf r.1) (map (after_row next.view) rs) ≡ true
end_uses m next [] h = refl
end_uses m next (r ∷ rs) h =
    let p = and_parts (is_used m r.0 r.1) (list_all (λ r. is_used m r.0 r.1) rs) h in
    and_from (is_used (ended_store m next) (after_row next.view r).0 (after_row next.view r).1 || is_role kind.Leaf (after_row next.view r).1)
    (list_all (λ r. is_used (ended_store m next) r.0 r.1 || is_role kind.Leaf r.1) (map (after_row next.view) rs)) (end_use m next r p.0) (end_uses m next rs p.1)

-- where the index of the commit is to stand are LEBs of the index then
pub ended_index : (m : Store) (next : Next) → IsTaking m (Some next) → list_all (λ place. has_row kind.Index (map (after_row next.view) (rows m.lebs)) place.lnum) next.view.places ≡ true
ended_index m next t = both_all (λ (place : IndexNodePlace). has_role kind.Index m.lebs place.lnum || is_among next.taken place.lnum) (λ place. has_node next.view.places place.lnum) (λ place. has_row kind.Index (map (after_row next.view) (rows m.lebs)) place.lnum)
    (λ place h g. index_of place.lnum g (either_of (has_role kind.Index m.lebs place.lnum) (is_among next.taken place.lnum) h)) next.view.places t.1 (all_places next.view.places)
  where
    index_of : (n : ℕ) → has_node next.view.places n ≡ true → (has_role kind.Index m.lebs n ≡ true) ⊎ (is_among next.taken n ≡ true) → has_row kind.Index (map (after_row next.view) (rows m.lebs)) n ≡ true
    index_of n g (inl e) = one_after next.view kind.Index kind.Index n (index_one next.view n g) (rows m.lebs) (sym (role_row kind.Index m.lebs n) ∙ e)
    index_of n g (inr e) = one_after next.view kind.Taken kind.Index n (taken_one next.view n) (rows m.lebs) (sym (role_row kind.Taken m.lebs n) ∙ among_all (has_role kind.Taken m.lebs) next.taken n t.0 e)

ended_apart : (m : Store) (next : Next) → IsTaking m (Some next) → IsSince m next.view → AreRolesApart m → AreRolesApart (end_commit m (Some next))
ended_apart m next t s a = tidied_from k (subst (AreNearly k) (sym (after_rows view m.lebs)) (record {
  numbers = ap are_distinct (numbers_kept (after_row view) (after_number view) rs) ∙ r.numbers;
  used = end_uses m next rs r.used;
  buds = both_all (λ (bud : Bud). has_role kind.Bud m.lebs bud.lnum) (λ bud. list_any (λ b. b.lnum == bud.lnum) view.buds) (λ bud. has_row kind.Bud new bud.lnum)
      (λ bud h g. one_after view kind.Bud kind.Bud bud.lnum (bud_one view bud.lnum g) rs (sym (role_row kind.Bud m.lebs bud.lnum) ∙ h)) view.buds t.3 (all_buds view.buds);
  index = ended_index m next t;
  leaves = all_weaker (λ (x : Kept). has_row kind.Leaf rs x.leaf.lnum || has_row kind.Bud rs x.leaf.lnum) (λ x. has_row kind.Leaf new x.leaf.lnum || has_row kind.Bud new x.leaf.lnum)
      (λ x h. leaf_of x.leaf.lnum (either_of (has_row kind.Leaf rs x.leaf.lnum) (has_row kind.Bud rs x.leaf.lnum) h)) m.live r.leaves;
  victim = victim_of m.moving r.victim;
})) s.ends
  where
    k : Store
    k = ended_store m next

    view : View
    view = next.view

    rs : List Row
    rs = rows m.lebs

    new : List Row
    new = map (after_row next.view) (rows m.lebs)

    r : AreRows m (rows m.lebs)
    r = to_rows m a

    leaf_of : (n : ℕ) → (has_row kind.Leaf (rows m.lebs) n ≡ true) ⊎ (has_row kind.Bud (rows m.lebs) n ≡ true)
        → (has_row kind.Leaf (map (after_row next.view) (rows m.lebs)) n || has_row kind.Bud (map (after_row next.view) (rows m.lebs)) n) ≡ true
    leaf_of n (inl e) = or_left (has_row kind.Leaf (map (after_row next.view) (rows m.lebs)) n) (has_row kind.Bud (map (after_row next.view) (rows m.lebs)) n) (one_after next.view kind.Leaf kind.Leaf n (leaf_one next.view n) (rows m.lebs) e)
    leaf_of n (inr e) = bud_or_leaf next.view (rows m.lebs) n e

    victim_of : (moving : Option Moving) → victim_row (rows m.lebs) moving ≡ true → victim_row (map (after_row next.view) (rows m.lebs)) moving ≡ true
    victim_of None h = refl
    victim_of (Some moving) h = one_after next.view kind.Leaf kind.Leaf moving.victim (leaf_one next.view moving.victim) (rows m.lebs) h

pub end_apart : (m : Store) (next : Option Next) → IsTaking m next → HasSince m next → AreRolesApart m → AreRolesApart (end_commit m next)
end_apart m None t s a = a
end_apart m (Some next) t s a = ended_apart m next t s a

-- ---- steps between
pub set_rows : (n : ℕ) (text : List Item) (lebs : List Leb) → rows (changed_leb n (λ leb. record leb { text = text }) lebs) ≡ rows lebs
set_rows n text [] = refl
set_rows n text (leb ∷ lebs) = by (leb.lnum == n) (set_rows n text lebs)
  where
    by : (b : Bool) → rows (changed_leb n (λ leb. record leb { text = text }) lebs) ≡ rows lebs
        → ((cond b (record leb { text = text }) leb).lnum, (cond b (record leb { text = text }) leb).role) ∷ rows (changed_leb n (λ leb. record leb { text = text }) lebs) ≡ rows (leb ∷ lebs)
    by true rest = ap (λ (z : List Row). (leb.lnum, leb.role) ∷ z) rest
    by false rest = ap (λ (z : List Row). (leb.lnum, leb.role) ∷ z) rest

-- the same leaves, buds and roles
same_apart : (m k : Store) → rows k.lebs ≡ rows m.lebs → k.live ≡ m.live → k.held ≡ m.held → k.moving ≡ m.moving → k.now ≡ m.now → k.ends ≡ m.ends → lebs_taken k.next ≡ lebs_taken m.next → AreRolesApart m → AreRolesApart k
same_apart m k same live held moving now ends next a = from_rows k (subst (AreRows k) (sym same) (record {
  numbers = r.numbers;
  used = used_stays m k (rows m.lebs) (λ row there h. used_follows m k row.0 row.1 (uses row.0 row.1) h) (rows m.lebs) (all_in (rows m.lebs)) r.used;
  buds = rw now r.buds;
  index = rw now r.index;
  leaves = rw live r.leaves;
  victim = rw moving r.victim;
})) (rw (now, ends) a.ends)
  where
    r : AreRows m (rows m.lebs)
    r = to_rows m a

    uses : (n : ℕ) (role : LebKind) → Uses m k n role
    uses n role = record { leaf = λ e h. rw (live, held) h; none = λ away h. rw (live, held) h; victim = rw moving refl; buds = λ h. rw now h; next = next }

pub write_apart : (m : Store) (next : Option Next) → m.next ≡ next → AreRolesApart m → AreRolesApart (write_index m next)
write_apart m None e a = a
write_apart m (Some next) e a =
    let lnum : ℕ = get_or next.taken next.written 0 in
    same_apart m (write_index m (Some next)) (set_rows lnum (flat_map (node_items m.geo) (view_branchings next.view lnum m.sqnum)) m.lebs) refl refl refl refl refl (sym (ap lebs_taken e)) a

pub offer_apart : (m : Store) → AreRolesApart m → AreRolesApart (offer m)
offer_apart m a = same_apart m (offer m) refl refl refl refl refl refl (same_taken offered m.next (λ next. refl)) a
