-- What stands of the index stays where it is, and a node of the index that has a place had it when the last commit began.
use Rattle.std.proofs.Common.{◌≡◌, ◌⊎◌, ℕ, ◌+◌, Bool, true, false, List, [], ◌∷◌, ◌++◌, length, map, refl, sym, ap, subst, ◌∙◌, inl, inr, Option, Some, None}
use Rattle.std.specs.Prelude.{◌==◌, ◌||◌, fold, IsTrue}
use Rattle.std.specs.List.{list_all}
use Rattle.std.specs.Option.{option_map, option_map_or}
use Rattle.std.proofs.lemmas.Bool.{and_parts, eqb-true, false≢true}
use Rattle.media_lpt.specs.declared.leb_kind.LebKind.{LebKind}
use Rattle.media_lpt.specs.declared.leb_kind.LebKind.TheVariants as kind
use Rattle.index_tree.specs.Listing.{ListedNode}
use Rattle.index_tree.specs.Shape.{Shape}
use Rattle.store_model.specs.Events.{after_part, credit, drop_inode, end_at, granted, in_next, last_gap, new_bud, open_leb, padded_head, paid, Part, Payment, put, Putting, sync, with_buds, with_items}
use Rattle.store_model.specs.Indexed.{AreBranchingsAt, committed_index, IsBranchingAt, IsIndexed, IsIndexIn, IsNextIndexIn, last_index, unwritten_lebs}
use Rattle.store_model.specs.Heads.{with_head_group}
use Rattle.store_model.specs.Invariant.{AreRolesApart, AreAtBuds, IsTaking}
use Rattle.store_model.specs.Lebs.{changed_leb, freed, has_role, is_among, is_role}
use Rattle.store_model.specs.Legal.{are_distinct, AreLegalParts, FitHead, has_placed_children, IsLegalPart, KeepPlaces, StandsBelow}
use Rattle.store_model.specs.Store.{At, Bud, StoreIndex, leaf, Leb, Next, IndexNodePlace, Store, View}
use Rattle.store_model.specs.Texts.{text_in}
use Rattle.store_model.proofs.LebDrops.{dropped_store}
use Rattle.store_model.proofs.LebFrees.{all_padded, synced_store}
use Rattle.store_model.proofs.LebPuts.{head_role, last_passes, other_leb, part_apart}
use Rattle.store_model.proofs.LebTaking.{part_taking}
use Rattle.store_model.proofs.LebRows.{has_row, numbers_of, role_row, Row, rows, to_rows}
use Rattle.store_model.proofs.RecoveryCopies.{either_of}
use Rattle.store_model.proofs.TextBytes.{freed_text}
use Rattle.store_model.proofs.TextItems.{text_other}
use Rattle.store_model.proofs.TextOpens.{opened}
use Rattle.store_model.specs.WrittenNodes.{rows_of}

-- ---- places that were kept twice
through : (old : StoreIndex) (row : Shape) (place : IndexNodePlace) (rows : List Shape) (places : List (Option IndexNodePlace)) → KeepPlaces old rows places → StandsBelow row place rows places → StandsBelow row place (rows_of old.shape) old.places
through old row place [] places keep s = absurd s
through old row place (first ∷ rows) [] keep s = absurd s
through old row place (first ∷ rows) (None ∷ places) keep (inl (same, is)) = absurd cc
through old row place (first ∷ rows) (Some at ∷ places) keep (inl (same, is)) =
    let there : at ≡ place = cc in
    subst (λ (p : IndexNodePlace). StandsBelow row p (rows_of old.shape) old.places) there (subst (λ (z : Shape). StandsBelow z at (rows_of old.shape) old.places) same keep.0)
through old row place (first ∷ rows) (None ∷ places) keep (inr s) = through old row place rows places keep s
through old row place (first ∷ rows) (Some at ∷ places) keep (inr s) = through old row place rows places keep.1 s

pub keep_through : (old mid : StoreIndex) (rows : List Shape) (places : List (Option IndexNodePlace)) → KeepPlaces old (rows_of mid.shape) mid.places → KeepPlaces mid rows places → KeepPlaces old rows places
keep_through old mid [] [] first then = tt
keep_through old mid [] (at ∷ places) first then = absurd then
keep_through old mid (row ∷ rows) [] first then = absurd then
keep_through old mid (row ∷ rows) (None ∷ places) first then = keep_through old mid rows places first then
keep_through old mid (row ∷ rows) (Some place ∷ places) first then =
    (through old row place (rows_of mid.shape) mid.places first then.0, keep_through old mid rows places first then.1)

-- ---- nodes stay
at_stays : (old new : List Leb) (place : IndexNodePlace) (node : ListedNode) (below : List IndexNodePlace) → text_in new place.lnum ≡ text_in old place.lnum → IsBranchingAt old place node below → IsBranchingAt new place node below
at_stays old new place node below text is = rw text is

pub nodes_stay : (old new : List Leb) (unwritten : List ℕ) (test : ℕ → Bool) (nodes : List ListedNode) (places : List IndexNodePlace) (below : List (List IndexNodePlace)) → ((k : ℕ) → test k ≡ true → text_in new k ≡ text_in old k)
    → list_all (λ place. test place.lnum) places ≡ true → AreBranchingsAt old unwritten nodes places below → AreBranchingsAt new unwritten nodes places below
nodes_stay old new unwritten test [] [] below keeps h are = tt
nodes_stay old new unwritten test (node ∷ nodes) (place ∷ places) (children ∷ below) keeps h are =
    let p = and_parts (test place.lnum) (list_all (λ place. test place.lnum) places) h in
    (by are.0 p.0, nodes_stay old new unwritten test nodes places below keeps p.1 are.1)
  where
    by : IsTrue (is_among unwritten place.lnum) ⊎ IsBranchingAt old place node children → test place.lnum ≡ true → IsTrue (is_among unwritten place.lnum) ⊎ IsBranchingAt new place node children
    by (inl later) t = inl later
    by (inr is) t = inr (at_stays old new place node children (keeps place.lnum t) is)
nodes_stay old new unwritten test [] (place ∷ places) below keeps h are = absurd are
nodes_stay old new unwritten test (node ∷ nodes) [] below keeps h are = absurd are
nodes_stay old new unwritten test (node ∷ nodes) (place ∷ places) [] keeps h are = absurd are

-- LEBs of the index, and those that a commit took, keep their texts
abbrev pub KeepIndex : List Leb → List Leb → Type 0
KeepIndex old new = (role : LebKind) (k : ℕ) → (is_role kind.Index role || is_role kind.Taken role) ≡ true → has_row role (rows old) k ≡ true → text_in new k ≡ text_in old k

pub now_stays : (m : Store) (new : List Leb) → AreRolesApart m → KeepIndex m.lebs new → IsIndexIn m.lebs [] m.now → IsIndexIn new [] m.now
now_stays m new a keeps is = record {
  nodes = nodes_stay m.lebs new [] (has_row kind.Index (rows m.lebs)) _ m.now.places _ (λ k h. keeps kind.Index k refl h) (to_rows m a).index is.nodes;
  apart = is.apart;
}

among_has : (test : ℕ → Bool) (taken : List ℕ) (k : ℕ) → list_all test taken ≡ true → is_among taken k ≡ true → test k ≡ true
among_has test [] k h s = absurd (false≢true s)
among_has test (n ∷ taken) k h s = let p = and_parts (test n) (list_all test taken) h in by (among_has test taken k p.1) p.0 (n == k) refl s
  where
    by : (is_among taken k ≡ true → test k ≡ true) → test n ≡ true → (b : Bool) → (n == k) ≡ b → (b || is_among taken k) ≡ true → test k ≡ true
    by rest first true e s = subst (λ (i : ℕ). test i ≡ true) (eqb-true n k e) first
    by rest first false e s = rest s

pub next_stays : (m : Store) (new : List Leb) (next : Next) → KeepIndex m.lebs new → IsTaking m (Some next) → IsIndexIn m.lebs (unwritten_lebs next) next.view → IsIndexIn new (unwritten_lebs next) next.view
next_stays m new next keeps taking is = record {
  nodes = nodes_stay m.lebs new (unwritten_lebs next) (λ k. has_role kind.Index m.lebs k || is_among next.taken k) _ next.view.places _ (λ k h. by k (either_of (has_role kind.Index m.lebs k) (is_among next.taken k) h)) taking.1 is.nodes;
  apart = is.apart;
}
  where
    by : (k : ℕ) → (has_role kind.Index m.lebs k ≡ true) ⊎ (is_among next.taken k ≡ true) → text_in new k ≡ text_in m.lebs k
    by k (inl h) = keeps kind.Index k refl (sym (role_row kind.Index m.lebs k) ∙ h)
    by k (inr h) = keeps kind.Taken k refl (sym (role_row kind.Taken m.lebs k) ∙ among_has (has_role kind.Taken m.lebs) next.taken k taking.0 h)

-- ---- which LEBs the events leave
-- a role of the index isn't one of a bud, an empty or a leaf LEB
index_not : (other role : LebKind) → is_role kind.Index other ≡ false → is_role kind.Taken other ≡ false → (is_role kind.Index role || is_role kind.Taken role) ≡ true → is_role other role ≡ false
index_not kind.Free kind.Index a b h = refl
index_not kind.Free kind.Taken a b h = refl
index_not kind.Leaf kind.Index a b h = refl
index_not kind.Leaf kind.Taken a b h = refl
index_not kind.Bud kind.Index a b h = refl
index_not kind.Bud kind.Taken a b h = refl
index_not kind.Index role a b h = absurd (false≢true (sym a))
index_not kind.Taken role a b h = absurd (false≢true (sym b))
index_not other kind.Free a b h = absurd (false≢true h)
index_not other kind.Leaf a b h = absurd (false≢true h)
index_not other kind.Bud a b h = absurd (false≢true h)

pub items_keep : (m : Store) (lnum : ℕ) (role : LebKind) (change : Leb → Leb) → ((leb : Leb) → (change leb).lnum ≡ leb.lnum) → AreRolesApart m → has_row role (rows m.lebs) lnum ≡ true → is_role kind.Index role ≡ false → is_role kind.Taken role ≡ false
    → KeepIndex m.lebs (changed_leb lnum change m.lebs)
items_keep m lnum role change keeps a there none out other k is h =
    text_other lnum k change keeps (other_leb (rows m.lebs) lnum k role other (to_rows m a).numbers there h (index_not role other none out is)) m.lebs

pub part_keeps : (m : Store) (part : Part) → IsLegalPart m part → AreRolesApart m → KeepIndex m.lebs (after_part m part).lebs
part_keeps m part is a = by (end_at m.ends part.head) refl is.fits
  where
    by : (o : Option At) → end_at m.ends part.head ≡ o → FitHead m o (map (λ c. c.placed) part.group) → KeepIndex m.lebs (after_part m part).lebs
    by None e fits = absurd fits
    by (Some at) e fits =
        let nodes = map leaf (map (λ c. c.placed) part.group) in
        let same : (after_part m part).lebs ≡ with_items at.lnum nodes m.lebs = rw e refl in
        subst (KeepIndex m.lebs) (sym same) (items_keep m at.lnum kind.Bud (λ leb. record leb { text = leb.text ++ nodes }) (λ leb. refl) a (head_role m part.head at a e) refl refl)

-- LEBs without a leaf are leaf LEBs
freed_keep : (k : Store) (lebs : List Leb) → are_distinct (numbers_of (rows lebs)) ≡ true → KeepIndex lebs (map (freed k) lebs)
freed_keep k lebs d role n is h = freed_text k role n lebs (index_not kind.Leaf role refl refl is) d h

padded_keep : (m : Store) (lebs : List Leb) (k : ℕ) (ends : List (Option At)) (buds : List Bud) → rows lebs ≡ rows m.lebs → AreRolesApart m → list_all (λ bud. has_row kind.Bud (rows m.lebs) bud.lnum) buds ≡ true → AreAtBuds buds k ends
    → KeepIndex lebs (fold (padded_head m.geo) lebs ends)
padded_keep m lebs k [] buds same a h are role n is there = refl
padded_keep m lebs k (None ∷ ends) buds same a h are role n is there = padded_keep m lebs (k + 1) ends buds same a h are role n is there
padded_keep m lebs k (Some at ∷ ends) buds same a h are role n is there =
    let new = padded_head m.geo lebs (Some at) in
    let rows_same : rows new ≡ rows lebs = all_padded m.geo lebs (Some at ∷ []) in
    let bud = last_passes (has_row kind.Bud (rows m.lebs)) k at.lnum buds h are.0 in
    let other = other_leb (rows m.lebs) at.lnum n kind.Bud role (to_rows m a).numbers bud (subst (λ (z : List Row). has_row role z n ≡ true) same there) (index_not kind.Bud role refl refl is) in
    padded_keep m new (k + 1) ends buds (rows_same ∙ same) a h are.1 role n is (subst (λ (z : List Row). has_row role z n ≡ true) (sym rows_same) there)
    ∙ text_other at.lnum n (λ leb. record leb { text = leb.text ++ last_gap m.geo at }) (λ leb. refl) other lebs

sync_keeps : (m : Store) → AreRolesApart m → KeepIndex m.lebs (sync m).lebs
sync_keeps m a role n is h =
    let lebs = fold (padded_head m.geo) m.lebs m.ends in
    let same : rows lebs ≡ rows m.lebs = all_padded m.geo m.lebs m.ends in
    freed_keep (synced_store m) lebs (ap (λ (z : List Row). are_distinct (numbers_of z)) same ∙ (to_rows m a).numbers) role n is (subst (λ (z : List Row). has_row role z n ≡ true) (sym same) h)
    ∙ padded_keep m m.lebs 0 m.ends m.now.buds refl a (to_rows m a).buds a.ends role n is h

open_keeps_index : (m : Store) (head lnum : ℕ) → has_role kind.Free m.lebs lnum ≡ true → AreRolesApart m → KeepIndex m.lebs (open_leb head lnum m).lebs
open_keeps_index m head lnum empty a role n is h =
    let r = to_rows m a in
    let free = sym (role_row kind.Free m.lebs lnum) ∙ empty in
    text_other lnum n opened (λ leb. refl) (other_leb (rows m.lebs) lnum n kind.Free role r.numbers free h (index_not kind.Free role refl refl is)) (padded_head m.geo m.lebs (end_at m.ends head))
    ∙ by (end_at m.ends head) refl
  where
    by : (at : Option At) → end_at m.ends head ≡ at → text_in (padded_head m.geo m.lebs at) n ≡ text_in m.lebs n
    by None e = refl
    by (Some at) e = items_keep m at.lnum kind.Bud (λ leb. record leb { text = leb.text ++ last_gap m.geo at }) (λ leb. refl) a (head_role m head at a e) refl refl role n is h

-- ---- the events
-- what of both indexes was kept, and the present one's places
pub record KeepsIndexes (m k : Store) : Type 0 where
  pub shape : k.now.shape ≡ m.now.shape
  pub places : k.now.places ≡ m.now.places
  pub next : IsNextIndexIn k.lebs m.next → IsNextIndexIn k.lebs k.next
  pub last : last_index k ≡ last_index m

next_index : (m : Store) (new : List Leb) (next : Option Next) → KeepIndex m.lebs new → IsTaking m next → IsNextIndexIn m.lebs next → IsNextIndexIn new next
next_index m new None keeps taking is = tt
next_index m new (Some next) keeps taking is = next_stays m new next keeps taking is

pub indexed : (m k : Store) → KeepsIndexes m k → KeepIndex m.lebs k.lebs → AreRolesApart m → IsTaking m m.next → KeepPlaces (last_index m) (rows_of k.index.shape) k.index.places → has_placed_children k.index ≡ true → IsIndexed m
    → IsIndexed k
indexed m k same keeps a taking kept children is = record {
  now = let now = now_stays m k.lebs a keeps is.now in record { nodes = rw (same.shape, same.places) now.nodes; apart = rw same.places now.apart };
  next = same.next (next_index m k.lebs m.next keeps taking is.next);
  last = rw same.last kept;
  children = children;
}

pub sync_indexed : (m : Store) → AreRolesApart m → IsTaking m m.next → IsIndexed m → IsIndexed (sync m)
sync_indexed m a taking is = indexed m (sync m) (record { shape = refl; places = refl; next = λ x. x; last = refl }) (sync_keeps m a) a taking is.last is.children is

pub drop_indexed : (m : Store) (ino : ℕ) (index : StoreIndex) → KeepPlaces m.index (rows_of index.shape) index.places → has_placed_children index ≡ true → AreRolesApart m → IsTaking m m.next → IsIndexed m → IsIndexed (drop_inode ino index m)
drop_indexed m ino index kept children a taking is =
    indexed m (drop_inode ino index m) (record { shape = refl; places = refl; next = λ x. x; last = refl }) (freed_keep (dropped_store ino index m) m.lebs (to_rows m a).numbers) a taking
    (keep_through (last_index m) m.index (rows_of index.shape) index.places is.last kept) children is

-- what is put to buds is no matter of a view's index
pub later_index : (lebs : List Leb) (change : List Bud → List Bud) (n : ℕ) (next : Option Next) → IsNextIndexIn lebs next → IsNextIndexIn lebs (option_map (in_next change n) next)
later_index lebs change n None is = tt
later_index lebs change n (Some next) is = record { nodes = is.nodes; apart = is.apart }

pub last_same : (change : List Bud → List Bud) (n : ℕ) (now : View) (next : Option Next)
    → committed_index (option_map_or (λ next. next.view) (option_map (in_next change n) next) (with_buds change n now)) ≡ committed_index (option_map_or (λ next. next.view) next now)
last_same change n now None = refl
last_same change n now (Some next) = refl

pub open_indexed : (m : Store) (head lnum : ℕ) → has_role kind.Free m.lebs lnum ≡ true → AreRolesApart m → IsTaking m m.next → IsIndexed m → IsIndexed (open_leb head lnum m)
open_indexed m head lnum empty a taking is =
    let more : List Bud → List Bud = λ buds. buds ++ new_bud head lnum 0 ∷ [] in
    indexed m (open_leb head lnum m) (record { shape = refl; places = refl; next = later_index (open_leb head lnum m).lebs more 0 m.next; last = last_same more 0 m.now m.next }) (open_keeps_index m head lnum empty a) a taking is.last is.children is

part_indexed : (m : Store) (part : Part) → IsLegalPart m part → AreRolesApart m → IsTaking m m.next → IsIndexed m → IsIndexed (after_part m part)
part_indexed m part can a taking is =
    let more : List Bud → List Bud = with_head_group part.head part.group in
    indexed m (after_part m part) (record { shape = refl; places = refl; next = later_index (after_part m part).lebs more (length part.group) m.next; last = last_same more (length part.group) m.now m.next }) (part_keeps m part can a) a taking is.last is.children is

parts_indexed : (parts : List Part) (m : Store) → AreLegalParts m parts → AreRolesApart m → IsTaking m m.next → IsIndexed m → IsIndexed (fold after_part m parts)
parts_indexed [] m are a taking is = is
parts_indexed (part ∷ parts) m are a taking is = parts_indexed parts (after_part m part) are.1 (part_apart m part are.0 a) (part_taking m part taking) (part_indexed m part are.0 a taking is)

-- the present index is a matter of the put as a whole
parts_index : (parts : List Part) (m : Store) → (fold after_part m parts).index ≡ m.index
parts_index [] m = refl
parts_index (part ∷ parts) m = parts_index parts (after_part m part)

pub put_indexed : (m : Store) (p : Putting) → AreLegalParts m p.parts → KeepPlaces m.index (rows_of p.index.shape) p.index.places → has_placed_children p.index ≡ true → AreRolesApart m → IsTaking m m.next → IsIndexed m → IsIndexed (put p m)
put_indexed m p are kept children a taking is = by p.payment (parts_indexed p.parts m are a taking is)
  where
    end : Store
    end = fold after_part m p.parts

    later : IsIndexed end → KeepPlaces (last_index end) (rows_of p.index.shape) p.index.places
    later is = keep_through (last_index end) end.index (rows_of p.index.shape) p.index.places is.last (subst (λ (i : StoreIndex). KeepPlaces i (rows_of p.index.shape) p.index.places) (sym (parts_index p.parts m)) kept)

    by : (payment : Payment) → IsIndexed end → IsIndexed (record (paid payment end) { index = p.index })
    by credit is = record { now = is.now; next = is.next; last = later is; children = children }
    by granted is = record { now = is.now; next = is.next; last = later is; children = children }
