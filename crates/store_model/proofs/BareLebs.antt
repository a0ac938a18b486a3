-- Leaf nodes stand in leaf LEBs and buds alone, after each event too.
use Rattle.std.proofs.Common.{◌≡◌, ◌⊎◌, ◌∙◌, ℕ, Bool, true, false, cond, List, [], ◌∷◌, ◌++◌, map, refl, sym, ap, subst, inl, inr, Option, Some, None}
use Rattle.std.specs.Prelude.{◌==◌, ◌&&◌, ◌||◌, ◌-◌, ◌+◌, ◌*◌, not, fold, get_or}
use Rattle.std.specs.List.{AllByRecursion, flat_map, list_all, list_any}
use Rattle.std.proofs.lemmas.Bool.{and_from, and_parts, eq-eqb, eqb-true, false≢true}
use Rattle.media_lpt.specs.declared.leb_kind.LebKind.{LebKind}
use Rattle.media_lpt.specs.declared.leb_kind.LebKind.TheVariants as kind
use Rattle.ubifs_base.specs.declared.raw_geometry.RawGeometry.{RawGeometry}
use Rattle.fs_model.specs.Cover.{round_8}
use Rattle.ubifs_base.specs.Geometry.{index_node_len}
use Rattle.leaf_map.specs.Kept.{Kept, Placed}
use Rattle.store_model.specs.Events.{after, after_part, Begin, Copying, credit, Drop, End, end_at, end_commit, Event, Free, free_victim, granted, last_gap, Move, move, node_items, Offer, Open, open_leb, padded_head, paid, Part, Payment, Put, put, Putting, role_after, role_then, Start, start, Sync, take_leb, view_branchings, whole_store_units, with_items, Write, write_index}
use Rattle.store_model.specs.Invariant.{AreRolesApart, IsBareOfLeaves, IsMeantIn, LeafStands, takes_leaves}
use Rattle.store_model.specs.Lebs.{changed_leb, emptied_leb, freed, has_leaf, has_node, has_role, is_among, is_role, is_victim_of}
use Rattle.store_model.specs.Legal.{AreLegalParts, CanStart, FitHead, IsLegalEvent, IsLegalPart}
use Rattle.store_model.specs.Store.{At, Branching, branching, gap, Item, leaf, Leb, Moving, Next, Store, View}
use Rattle.store_model.specs.Texts.{leaf_nodes}
use Rattle.store_model.proofs.LebDrops.{dropped_store}
use Rattle.store_model.proofs.LebEnds.{among_all, ended_store}
use Rattle.store_model.proofs.LebFrees.{synced_store}
use Rattle.store_model.proofs.LebPuts.{head_role, part_apart}
use Rattle.store_model.proofs.LebRows.{has_row, one_role, role_row, rows, self_role, to_rows}
use Rattle.store_model.proofs.OfViews.{each_weaker}
use Rattle.store_model.proofs.RecoveryCopies.{either_of}
use Rattle.store_model.proofs.RecoveryOrder.{or_left, or_right}
use Rattle.store_model.proofs.TextItems.{leaves_append}

-- ---- each LEB has its role among all
abbrev pub HasOwnRow : List Leb → Leb → Type 0
HasOwnRow all leb = has_row leb.role (rows all) leb.lnum ≡ true

pub own_rows : (lebs : List Leb) → AllByRecursion (HasOwnRow lebs) lebs
own_rows [] = tt
own_rows (leb ∷ lebs) = (
  or_left ((leb.lnum == leb.lnum) && is_role leb.role leb.role) (has_row leb.role (rows lebs) leb.lnum) (and_from (leb.lnum == leb.lnum) (is_role leb.role leb.role) (eq-eqb leb.lnum leb.lnum refl) (self_role leb.role)),
  each_weaker (HasOwnRow lebs) (HasOwnRow (leb ∷ lebs)) (λ x h. or_right ((leb.lnum == x.lnum) && is_role x.role leb.role) (has_row x.role (rows lebs) x.lnum) h) lebs (own_rows lebs),
)

pub role_is : (m : Store) (role : LebKind) (n : ℕ) (leb : Leb) → AreRolesApart m → has_row role (rows m.lebs) n ≡ true → leb.lnum ≡ n → HasOwnRow m.lebs leb → role ≡ leb.role
role_is m role n leb a here same own = one_role role leb.role (rows m.lebs) leb.lnum (to_rows m a).numbers (subst (λ (k : ℕ). has_row role (rows m.lebs) k ≡ true) (sym same) here) own

bare_map : (all : List Leb) (f : Leb → Leb) (lebs : List Leb) → ((leb : Leb) → HasOwnRow all leb → IsBareOfLeaves leb → IsBareOfLeaves (f leb)) → AllByRecursion (HasOwnRow all) lebs → AllByRecursion IsBareOfLeaves lebs → AllByRecursion IsBareOfLeaves (map f lebs)
bare_map all f [] one own h = tt
bare_map all f (leb ∷ lebs) one own h = (one leb own.0 h.0, bare_map all f lebs one own.1 h.1)

-- where it is no matter of roles
bare_each : (f : Leb → Leb) (lebs : List Leb) → ((leb : Leb) → IsBareOfLeaves leb → IsBareOfLeaves (f leb)) → AllByRecursion IsBareOfLeaves lebs → AllByRecursion IsBareOfLeaves (map f lebs)
bare_each f [] one h = tt
bare_each f (leb ∷ lebs) one h = (one leb h.0, bare_each f lebs one h.1)

-- ---- items behind others
items_bare : (m : Store) (n : ℕ) (items : List Item) → AreRolesApart m → has_row kind.Bud (rows m.lebs) n ≡ true → AllByRecursion IsBareOfLeaves m.lebs → AllByRecursion IsBareOfLeaves (with_items n items m.lebs)
items_bare m n items a bud h = bare_map m.lebs (λ leb. cond (leb.lnum == n) (more leb) leb) m.lebs (λ leb own is. by leb own is (leb.lnum == n) refl) (own_rows m.lebs) h
  where
    more : Leb → Leb
    more leb = record leb { text = leb.text ++ items }

    by : (leb : Leb) → HasOwnRow m.lebs leb → IsBareOfLeaves leb → (b : Bool) → (leb.lnum == n) ≡ b → IsBareOfLeaves (cond b (more leb) leb)
    by leb own is true e = λ away. absurd (false≢true (sym away ∙ subst (λ (r : LebKind). takes_leaves r ≡ true) (role_is m kind.Bud n leb a bud (eqb-true leb.lnum n e) own) refl))
    by leb own is false e = is

gap_bare : (geo : RawGeometry) (at : At) (lebs : List Leb) → AllByRecursion IsBareOfLeaves lebs → AllByRecursion IsBareOfLeaves (with_items at.lnum (last_gap geo at) lebs)
gap_bare geo at lebs h = bare_each (λ leb. cond (leb.lnum == at.lnum) (more leb) leb) lebs (λ leb is. by leb is (leb.lnum == at.lnum)) h
  where
    more : Leb → Leb
    more leb = record leb { text = leb.text ++ last_gap geo at }

    none : leaf_nodes (last_gap geo at) ≡ []
    none = of (at.offs == whole_store_units geo at.offs)
      where
        of : (b : Bool) → leaf_nodes (cond b [] (gap (whole_store_units geo at.offs - at.offs) ∷ [])) ≡ []
        of true = refl
        of false = refl

    by : (leb : Leb) → IsBareOfLeaves leb → (b : Bool) → IsBareOfLeaves (cond b (more leb) leb)
    by leb is true = λ away. leaves_append leb.text (last_gap geo at) ∙ ap (λ (ns : List Placed). ns ++ leaf_nodes (last_gap geo at)) (is away) ∙ none
    by leb is false = is

padded_bare : (geo : RawGeometry) (lebs : List Leb) (at : Option At) → AllByRecursion IsBareOfLeaves lebs → AllByRecursion IsBareOfLeaves (padded_head geo lebs at)
padded_bare geo lebs None h = h
padded_bare geo lebs (Some at) h = gap_bare geo at lebs h

all_padded_bare : (geo : RawGeometry) (lebs : List Leb) (ends : List (Option At)) → AllByRecursion IsBareOfLeaves lebs → AllByRecursion IsBareOfLeaves (fold (padded_head geo) lebs ends)
all_padded_bare geo lebs [] h = h
all_padded_bare geo lebs (at ∷ ends) h = all_padded_bare geo (padded_head geo lebs at) ends (padded_bare geo lebs at h)

freed_bare : (k : Store) (lebs : List Leb) → AllByRecursion IsBareOfLeaves lebs → AllByRecursion IsBareOfLeaves (map (freed k) lebs)
freed_bare k lebs h = bare_each (freed k) lebs (λ leb is. by leb is (is_role kind.Leaf leb.role && not (has_leaf k leb.lnum) && not (is_victim_of k.moving leb.lnum))) h
  where
    by : (leb : Leb) → IsBareOfLeaves leb → (b : Bool) → IsBareOfLeaves (cond b (emptied_leb leb) leb)
    by leb is true = λ away. refl
    by leb is false = is

emptied_bare : (n : ℕ) (lebs : List Leb) → AllByRecursion IsBareOfLeaves lebs → AllByRecursion IsBareOfLeaves (changed_leb n emptied_leb lebs)
emptied_bare n lebs h = bare_each (λ leb. cond (leb.lnum == n) (emptied_leb leb) leb) lebs (λ leb is. by leb is (leb.lnum == n)) h
  where
    by : (leb : Leb) → IsBareOfLeaves leb → (b : Bool) → IsBareOfLeaves (cond b (emptied_leb leb) leb)
    by leb is true = λ away. refl
    by leb is false = is

-- ---- events
part_bare : (m : Store) (part : Part) → IsLegalPart m part → AreRolesApart m → AllByRecursion IsBareOfLeaves m.lebs → AllByRecursion IsBareOfLeaves (after_part m part).lebs
part_bare m part is a h = by (end_at m.ends part.head) refl is.fits
  where
    nodes : List Placed
    nodes = map (λ c. c.placed) part.group

    by : (o : Option At) → end_at m.ends part.head ≡ o → FitHead m o nodes → AllByRecursion IsBareOfLeaves (after_part m part).lebs
    by None e fits = absurd fits
    by (Some at) e fits =
        let same : (after_part m part).lebs ≡ with_items at.lnum (map leaf nodes) m.lebs = rw e refl in
        subst (AllByRecursion IsBareOfLeaves) (sym same) (items_bare m at.lnum (map leaf nodes) a (head_role m part.head at a e) h)

parts_bare : (parts : List Part) (m : Store) → AreLegalParts m parts → AreRolesApart m → AllByRecursion IsBareOfLeaves m.lebs → AllByRecursion IsBareOfLeaves (fold after_part m parts).lebs
parts_bare [] m are a h = h
parts_bare (part ∷ parts) m are a h = parts_bare parts (after_part m part) are.1 (part_apart m part are.0 a) (part_bare m part are.0 a h)

put_bare : (m : Store) (p : Putting) → AreLegalParts m p.parts → AreRolesApart m → AllByRecursion IsBareOfLeaves m.lebs → AllByRecursion IsBareOfLeaves (put p m).lebs
put_bare m p are a h = by p.payment (parts_bare p.parts m are a h)
  where
    end : Store
    end = fold after_part m p.parts

    by : (payment : Payment) → AllByRecursion IsBareOfLeaves end.lebs → AllByRecursion IsBareOfLeaves (record (paid payment end) { index = p.index }).lebs
    by credit h = h
    by granted h = h

open_bare : (m : Store) (head lnum : ℕ) → AllByRecursion IsBareOfLeaves m.lebs → AllByRecursion IsBareOfLeaves (open_leb head lnum m).lebs
open_bare m head lnum h = bare_each (λ leb. cond (leb.lnum == lnum) (opened leb) leb) (padded_head m.geo m.lebs (end_at m.ends head)) (λ leb is. by leb is (leb.lnum == lnum)) (padded_bare m.geo m.lebs (end_at m.ends head) h)
  where
    opened : Leb → Leb
    opened leb = record leb { role = kind.Bud; text = [] }

    by : (leb : Leb) → IsBareOfLeaves leb → (b : Bool) → IsBareOfLeaves (cond b (opened leb) leb)
    by leb is true = λ away. refl
    by leb is false = is

move_bare : (m : Store) (c : Copying) → FitHead m (end_at m.ends 0) (c.copy ∷ []) → AreRolesApart m → AllByRecursion IsBareOfLeaves m.lebs → AllByRecursion IsBareOfLeaves (move c m).lebs
move_bare m c fits a h = by (end_at m.ends 0) refl fits
  where
    by : (o : Option At) → end_at m.ends 0 ≡ o → FitHead m o (c.copy ∷ []) → AllByRecursion IsBareOfLeaves (move c m).lebs
    by None e fits = absurd fits
    by (Some at) e fits =
        let same : (move c m).lebs ≡ with_items at.lnum (leaf c.copy ∷ []) m.lebs = rw e refl in
        subst (AllByRecursion IsBareOfLeaves) (sym same) (items_bare m at.lnum (leaf c.copy ∷ []) a (head_role m 0 at a e) h)

free_bare : (m : Store) (moving : Option Moving) → AllByRecursion IsBareOfLeaves m.lebs → AllByRecursion IsBareOfLeaves (free_victim m moving).lebs
free_bare m None h = h
free_bare m (Some moving) h = emptied_bare moving.victim m.lebs h

start_bare : (m : Store) (taken : List ℕ) → CanStart m taken → AreRolesApart m → AllByRecursion IsBareOfLeaves m.lebs → AllByRecursion IsBareOfLeaves (start taken m).lebs
start_bare m taken can a h = bare_map m.lebs (take_leb taken) m.lebs (λ leb own is. by leb own is (is_among taken leb.lnum) refl) (own_rows m.lebs) h
  where
    by : (leb : Leb) → HasOwnRow m.lebs leb → IsBareOfLeaves leb → (b : Bool) → is_among taken leb.lnum ≡ b → IsBareOfLeaves (cond b (record leb { role = kind.Taken }) leb)
    by leb own is true e =
        let free = sym (role_row kind.Free m.lebs leb.lnum) ∙ among_all (has_role kind.Free m.lebs) taken leb.lnum can.empty e in
        λ away. is (subst (λ (r : LebKind). takes_leaves r ≡ false) (role_is m kind.Free leb.lnum leb a free refl own) refl)
    by leb own is false e = is

node_bare : (geo : RawGeometry) (b : Branching) → leaf_nodes (node_items geo b) ≡ []
node_bare geo b = by (index_node_len geo - round_8 (28 + 20 * b.node.count) == 0)
  where
    by : (z : Bool) → leaf_nodes (cond z (branching b ∷ []) (branching b ∷ gap (index_node_len geo - round_8 (28 + 20 * b.node.count)) ∷ [])) ≡ []
    by true = refl
    by false = refl

nodes_bare : (geo : RawGeometry) (nodes : List Branching) → leaf_nodes (flat_map (node_items geo) nodes) ≡ []
nodes_bare geo [] = refl
nodes_bare geo (b ∷ nodes) = leaves_append (node_items geo b) (flat_map (node_items geo) nodes) ∙ ap (λ (ns : List Placed). ns ++ leaf_nodes (flat_map (node_items geo) nodes)) (node_bare geo b) ∙ nodes_bare geo nodes

write_bare : (m : Store) (next : Option Next) → AllByRecursion IsBareOfLeaves m.lebs → AllByRecursion IsBareOfLeaves (write_index m next).lebs
write_bare m None h = h
write_bare m (Some next) h = bare_each (λ leb. cond (leb.lnum == lnum) (set leb) leb) m.lebs (λ leb is. by leb is (leb.lnum == lnum)) h
  where
    lnum : ℕ
    lnum = get_or next.taken next.written 0

    nodes : List Branching
    nodes = view_branchings next.view (get_or next.taken next.written 0) m.sqnum

    set : Leb → Leb
    set leb = record leb { text = flat_map (node_items m.geo) (view_branchings next.view (get_or next.taken next.written 0) m.sqnum) }

    by : (leb : Leb) → IsBareOfLeaves leb → (b : Bool) → IsBareOfLeaves (cond b (set leb) leb)
    by leb is true = λ away. nodes_bare m.geo nodes
    by leb is false = is

then_bare : (view : View) (leb : Leb) (role : LebKind) → leb.role ≡ role → IsBareOfLeaves leb → IsBareOfLeaves (role_then view leb role)
then_bare view leb kind.Free e h = h
then_bare view leb kind.Leaf e h = h
then_bare view leb kind.Taken e h = λ away. h (ap takes_leaves e)
then_bare view leb kind.Index e h = by (has_node view.places leb.lnum)
  where
    by : (b : Bool) → IsBareOfLeaves (cond b leb (emptied_leb leb))
    by true = h
    by false = λ away. refl
then_bare view leb kind.Bud e h = by (list_any (λ bud. bud.lnum == leb.lnum) view.buds)
  where
    by : (b : Bool) → IsBareOfLeaves (cond b leb (record leb { role = kind.Leaf }))
    by true = h
    by false = λ away. absurd (false≢true (sym away))

end_bare : (m : Store) (next : Option Next) → AllByRecursion IsBareOfLeaves m.lebs → AllByRecursion IsBareOfLeaves (end_commit m next).lebs
end_bare m None h = h
end_bare m (Some next) h = freed_bare (ended_store m next) (map (role_after next.view) m.lebs) (bare_each (role_after next.view) m.lebs (λ leb is. then_bare next.view leb leb.role refl is) h)

pub each_bare : (m : Store) (event : Event) → IsLegalEvent m event → AreRolesApart m → AllByRecursion IsBareOfLeaves m.lebs → AllByRecursion IsBareOfLeaves (after event m).lebs
each_bare m (Put p) can a h = put_bare m p can.parts a h
each_bare m (Open head lnum) can a h = open_bare m head lnum h
each_bare m Sync can a h = freed_bare (synced_store m) (fold (padded_head m.geo) m.lebs m.ends) (all_padded_bare m.geo m.lebs m.ends h)
each_bare m (Begin victim) can a h = h
each_bare m (Move c) can a h = move_bare m c can.fits a h
each_bare m Free can a h = free_bare m m.moving h
each_bare m (Start taken) can a h = start_bare m taken can a h
each_bare m Write can a h = write_bare m m.next h
each_bare m Offer can a h = h
each_bare m End can a h = end_bare m m.next h
each_bare m (Drop ino index) can a h = freed_bare (dropped_store ino index m) m.lebs h

-- ---- no leaf stands in an empty LEB
pub meant_none : (x : Kept) (text : List Item) → leaf_nodes text ≡ [] → IsMeantIn x text → ⊥
meant_none x [] e is = is
meant_none x (leaf p ∷ text) e is = absurd cc
meant_none x (branching b ∷ text) e is = meant_none x text e is
meant_none x (gap n ∷ text) e is = meant_none x text e is

pub none_stands : (m : Store) (x : Kept) (lebs : List Leb) → AreRolesApart m → has_row kind.Free (rows m.lebs) x.leaf.lnum ≡ true → AllByRecursion (HasOwnRow m.lebs) lebs → AllByRecursion IsBareOfLeaves lebs → LeafStands lebs x → ⊥
none_stands m x [] a free own h s = s
none_stands m x (leb ∷ lebs) a free own h (inl is) =
    meant_none x leb.text (h.0 (subst (λ (r : LebKind). takes_leaves r ≡ false) (role_is m kind.Free x.leaf.lnum leb a free is.0 own.0) refl)) is.1
none_stands m x (leb ∷ lebs) a free own h (inr s) = none_stands m x lebs a free own.1 h.1 s

-- ---- by a test
abbrev is_none : List Placed → Bool
is_none [] = true
is_none (p ∷ nodes) = false

none_is : (nodes : List Placed) → is_none nodes ≡ true → nodes ≡ []
none_is [] h = refl
none_is (p ∷ nodes) h = absurd (false≢true h)

pub bare_by : (lebs : List Leb) → list_all (λ leb. takes_leaves leb.role || is_none (leaf_nodes leb.text)) lebs ≡ true → AllByRecursion IsBareOfLeaves lebs
bare_by [] h = tt
bare_by (leb ∷ lebs) h =
    let p = and_parts (takes_leaves leb.role || is_none (leaf_nodes leb.text)) (list_all (λ leb. takes_leaves leb.role || is_none (leaf_nodes leb.text)) lebs) h in
    (λ away. of (either_of (takes_leaves leb.role) (is_none (leaf_nodes leb.text)) p.0) away, bare_by lebs p.1)
  where
    of : (takes_leaves leb.role ≡ true) ⊎ (is_none (leaf_nodes leb.text) ≡ true) → takes_leaves leb.role ≡ false → leaf_nodes leb.text ≡ []
    of (inl e) away = absurd (false≢true (sym away ∙ e))
    of (inr e) away = none_is (leaf_nodes leb.text) e
