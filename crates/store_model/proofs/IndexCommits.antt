-- Where the nodes of the indexes stand through a collection's events and a commit's end: all LEBs of the commit's index are written by then.
use Rattle.std.proofs.Common.{◌≡◌, ℕ, Bool, true, false, cond, List, [], ◌∷◌, ◌++◌, length, map, refl, sym, ap, subst, ◌∙◌, Option, Some, None}
use Rattle.std.specs.Prelude.{◌==◌, ◌&&◌, drop}
use Rattle.std.specs.List.{list_any}
use Rattle.std.specs.Option.{option_map, option_map_or}
use Rattle.std.proofs.lemmas.Bool.{and_from, and_parts, eqb-true, false≢true}
use Rattle.media_lpt.specs.declared.leb_kind.LebKind.{LebKind}
use Rattle.media_lpt.specs.declared.leb_kind.LebKind.TheVariants as kind
use Rattle.store_model.specs.Events.{begin, below_of, Copying, end_at, end_commit, free_victim, move, offer, offered, role_after, role_then, with_items}
use Rattle.store_model.specs.Heads.{with_copy}
use Rattle.store_model.specs.Indexed.{AreBranchingsAt, committed_index, IsIndexed, IsIndexIn, IsNextIndexIn, last_index, unwritten_lebs}
use Rattle.store_model.specs.Invariant.{AreRolesApart, IsTaking}
use Rattle.store_model.specs.Lebs.{emptied_leb, has_node}
use Rattle.store_model.specs.Legal.{are_distinct, FitHead, has_placed_children, IfRunning, KeepPlaces}
use Rattle.store_model.specs.Store.{At, Bud, StoreIndex, leaf, Leb, Moving, Next, IndexNodePlace, Store, View}
use Rattle.store_model.specs.Texts.{text_in}
use Rattle.store_model.proofs.LebEnds.{after_number, after_row, after_rows, all_places, ended_index, ended_store}
use Rattle.store_model.proofs.LebFrees.{both_all}
use Rattle.store_model.proofs.LebPuts.{head_role}
use Rattle.store_model.proofs.LebRows.{has_row, numbers_kept, numbers_of, Row, rows, to_rows, victim_row}
use Rattle.store_model.proofs.Places.{indexed, items_keep, KeepIndex, keep_through, last_same, later_index, nodes_stay}
use Rattle.store_model.proofs.TextBytes.{freed_text}
use Rattle.store_model.specs.WrittenNodes.{rows_of, written_nodes}

-- ---- a commit's end
then_number : (view : View) (leb : Leb) (role : LebKind) → (role_then view leb role).lnum ≡ leb.lnum
then_number view leb kind.Free = refl
then_number view leb kind.Leaf = refl
then_number view leb kind.Taken = refl
then_number view leb kind.Index = by (has_node view.places leb.lnum)
  where
    by : (b : Bool) → (cond b leb (emptied_leb leb)).lnum ≡ leb.lnum
    by true = refl
    by false = refl
then_number view leb kind.Bud = by (list_any (λ bud. bud.lnum == leb.lnum) view.buds)
  where
    by : (b : Bool) → (cond b leb (record leb { role = kind.Leaf })).lnum ≡ leb.lnum
    by true = refl
    by false = refl

then_text : (view : View) (leb : Leb) (role : LebKind) → has_node view.places leb.lnum ≡ true → (role_then view leb role).text ≡ leb.text
then_text view leb kind.Free has = refl
then_text view leb kind.Leaf has = refl
then_text view leb kind.Taken has = refl
then_text view leb kind.Index has = by (has_node view.places leb.lnum) has
  where
    by : (b : Bool) → b ≡ true → (cond b leb (emptied_leb leb)).text ≡ leb.text
    by true e = refl
    by false e = absurd (false≢true e)
then_text view leb kind.Bud has = by (list_any (λ bud. bud.lnum == leb.lnum) view.buds)
  where
    by : (b : Bool) → (cond b leb (record leb { role = kind.Leaf })).text ≡ leb.text
    by true = refl
    by false = refl

-- a LEB that has a node of the commit's index keeps its text
after_text : (view : View) (n : ℕ) (lebs : List Leb) → has_node view.places n ≡ true → text_in (map (role_after view) lebs) n ≡ text_in lebs n
after_text view n [] has = refl
after_text view n (leb ∷ lebs) has = ap (λ (k : ℕ). cond (k == n) (role_after view leb).text (text_in (map (role_after view) lebs) n)) (then_number view leb leb.role) ∙ by (leb.lnum == n) refl (after_text view n lebs has)
  where
    by : (b : Bool) → (leb.lnum == n) ≡ b → text_in (map (role_after view) lebs) n ≡ text_in lebs n → cond b (role_after view leb).text (text_in (map (role_after view) lebs) n) ≡ cond b leb.text (text_in lebs n)
    by true e rest = then_text view leb leb.role (subst (λ (k : ℕ). has_node view.places k ≡ true) (sym (eqb-true leb.lnum n e)) has)
    by false e rest = rest

drop_all : (numbers : List ℕ) → drop (length numbers) numbers ≡ []
drop_all [] = refl
drop_all (n ∷ numbers) = drop_all numbers

ended_indexed : (m : Store) (next : Next) → next.written ≡ length next.taken → AreRolesApart m → IsTaking m (Some next) → IsIndexIn m.lebs (unwritten_lebs next) next.view → IsIndexIn (end_commit m (Some next)).lebs [] next.view
ended_indexed m next all a t is = record {
  nodes = nodes_stay m.lebs (end_commit m (Some next)).lebs [] test (written_nodes view.shape) view.places (below_of [] (written_nodes view.shape) view.places) stays
      (both_all (λ (place : IndexNodePlace). has_node view.places place.lnum) (λ place. has_row kind.Index new place.lnum) (λ place. test place.lnum) (λ place h g. and_from (has_node view.places place.lnum) (has_row kind.Index new place.lnum) h g) view.places (all_places view.places) (ended_index m next t))
      (subst (λ (u : List ℕ). AreBranchingsAt m.lebs u (written_nodes view.shape) view.places (below_of [] (written_nodes view.shape) view.places)) none is.nodes);
  apart = is.apart;
}
  where
    view : View
    view = next.view

    new : List Row
    new = map (after_row next.view) (rows m.lebs)

    test : ℕ → Bool
    test n = has_node next.view.places n && has_row kind.Index new n

    none : unwritten_lebs next ≡ []
    none = ap (λ (n : ℕ). drop n next.taken) all ∙ drop_all next.taken

    stays : (n : ℕ) → test n ≡ true → text_in (end_commit m (Some next)).lebs n ≡ text_in m.lebs n
    stays n h =
        let p = and_parts (has_node next.view.places n) (has_row kind.Index new n) h in
        let lebs : List Leb = map (role_after next.view) m.lebs in
        let same : rows lebs ≡ new = after_rows next.view m.lebs in
        let numbers : are_distinct (numbers_of (rows lebs)) ≡ true = ap (λ (rs : List Row). are_distinct (numbers_of rs)) same ∙ ap are_distinct (numbers_kept (after_row next.view) (after_number next.view) (rows m.lebs)) ∙ (to_rows m a).numbers in
        freed_text (ended_store m next) kind.Index n lebs refl numbers (subst (λ (rs : List Row). has_row kind.Index rs n ≡ true) (sym same) p.1) ∙ after_text next.view n m.lebs p.0

pub end_indexed : (m : Store) (next : Option Next) → m.next ≡ next → IfRunning m (λ next. next.offered ≡ true) → AreRolesApart m → IsTaking m m.next → IsIndexed m → IsIndexed (end_commit m next)
end_indexed m None e can a t is = is
end_indexed m (Some next) e can a t is =
    let taking = subst (λ (o : Option Next). IsTaking m o) e t in
    let done : next.offered ≡ true = rw e at can in
    record {
      now = ended_indexed m next (taking.4 done) a taking (subst (λ (o : Option Next). IsNextIndexIn m.lebs o) e is.next);
      next = tt;
      last = subst (λ (o : Option Next). KeepPlaces (committed_index (option_map_or (λ next. next.view) o m.now)) (rows_of m.index.shape) m.index.places) e is.last;
      children = is.children;
    }

pub offer_indexed : (m : Store) → IsIndexed m → IsIndexed (offer m)
offer_indexed m is = record { now = is.now; next = by m.next is.next; last = subst (λ (i : StoreIndex). KeepPlaces i (rows_of m.index.shape) m.index.places) (sym (last m.next)) is.last; children = is.children }
  where
    by : (next : Option Next) → IsNextIndexIn m.lebs next → IsNextIndexIn m.lebs (option_map offered next)
    by None is = tt
    by (Some next) is = record { nodes = is.nodes; apart = is.apart }

    last : (next : Option Next) → committed_index (option_map_or (λ next. next.view) (option_map offered next) m.now) ≡ committed_index (option_map_or (λ next. next.view) next m.now)
    last None = refl
    last (Some next) = refl

-- ---- a collection
pub begin_indexed : (m : Store) (victim : ℕ) → IsIndexed m → IsIndexed (begin victim m)
begin_indexed m victim is = record { now = is.now; next = is.next; last = is.last; children = is.children }

pub free_indexed : (m : Store) (moving : Option Moving) → m.moving ≡ moving → AreRolesApart m → IsTaking m m.next → IsIndexed m → IsIndexed (free_victim m moving)
free_indexed m None e a t is = is
free_indexed m (Some moving) e a t is =
    let leaf : has_row kind.Leaf (rows m.lebs) moving.victim ≡ true = subst (λ (o : Option Moving). victim_row (rows m.lebs) o ≡ true) e (to_rows m a).victim in
    indexed m (free_victim m (Some moving)) (record { shape = refl; places = refl; next = λ x. x; last = refl }) (items_keep m moving.victim kind.Leaf emptied_leb (λ leb. refl) a leaf refl refl) a t is.last is.children is

pub move_indexed : (m : Store) (c : Copying) → FitHead m (end_at m.ends 0) (c.copy ∷ []) → KeepPlaces m.index (rows_of c.index.shape) c.index.places → has_placed_children c.index ≡ true → AreRolesApart m → IsTaking m m.next → IsIndexed m → IsIndexed (move c m)
move_indexed m c fits kept children a t is =
    let more : List Bud → List Bud = with_copy c.copy in
    indexed m (move c m) (record { shape = refl; places = refl; next = later_index (move c m).lebs more 0 m.next; last = last_same more 0 m.now m.next }) (keeps (end_at m.ends 0) refl fits) a t
    (keep_through (last_index m) m.index (rows_of c.index.shape) c.index.places is.last kept) children is
  where
    keeps : (o : Option At) → end_at m.ends 0 ≡ o → FitHead m o (c.copy ∷ []) → KeepIndex m.lebs (move c m).lebs
    keeps None e fits = absurd fits
    keeps (Some at) e fits =
        let same : (move c m).lebs ≡ with_items at.lnum (leaf c.copy ∷ []) m.lebs = rw e refl in
        subst (KeepIndex m.lebs) (sym same) (items_keep m at.lnum kind.Bud (λ leb. record leb { text = leb.text ++ leaf c.copy ∷ [] }) (λ leb. refl) a (head_role m 0 at a e) refl refl)
