-- A store stays settled through steps that open no LEB and put no node.
use Rattle.std.proofs.Common.{◌≡◌, ◌⊎◌, ◌≤◌, ◌+◌, ◌∙◌, ℕ, arith, Bool, true, false, cond, List, [], ◌∷◌, length, map, refl, sym, ap, subst, inl, inr, Option, Some, None}
use Rattle.std.specs.Prelude.{◌==◌, ◌&&◌, count_by, get_or}
use Rattle.std.specs.List.{flat_map}
use Rattle.std.specs.Option.{option_map}
use Rattle.std.proofs.lemmas.Bool.{and_parts, false≢true}
use Rattle.std.proofs.lemmas.List.Recursion.{is_count_by}
use Rattle.ubifs_base.specs.declared.raw_geometry.RawGeometry.{RawGeometry}
use Rattle.media_lpt.specs.declared.leb_kind.LebKind.{LebKind}
use Rattle.media_lpt.specs.declared.leb_kind.LebKind.TheVariants as kind
use Rattle.fs_model.specs.declared.space.Space.{Space}
use Rattle.fs_model.specs.Settled.{IsSettled}
use Rattle.space_sums.specs.Spaces.{IsSettledTwice, Running, with_empty}
use Rattle.store_model.specs.Events.{begin, Copying, drop_inode, end_at, free_victim, in_next, move, node_items, sync, view_branchings, write_index}
use Rattle.store_model.specs.Heads.{with_copy}
use Rattle.store_model.specs.Invariant.{AreRolesApart}
use Rattle.store_model.specs.Lebs.{has_node, is_role, IsSettledWith, IsStoreSettled, lent, role_count, running_commit_of, space_of, weight_of}
use Rattle.store_model.specs.Store.{StoreIndex, Leb, Moving, Next, IndexNodePlace, Store}
use Rattle.store_model.proofs.GrantCounts.{free_index}
use Rattle.store_model.proofs.LebCollections.{free_number, free_row, free_rows}
use Rattle.store_model.proofs.LebCounts.{count_rows, drop_index, freed_more, row_count, sync_empty, sync_index, sync_rows}
use Rattle.store_model.proofs.LebDrops.{dropped_store}
use Rattle.store_model.proofs.LebEnds.{set_rows}
use Rattle.store_model.proofs.LebFrees.{freed_number, freed_row, freed_rows, synced_store}
use Rattle.store_model.proofs.LebMoves.{moved_rows}
use Rattle.store_model.proofs.LebRows.{Row, has_row, numbers_kept, numbers_of, rows, to_rows, victim_row}
use Rattle.store_model.proofs.RecoveryCopies.{either_of}

-- ---- what a running commit comes to
abbrev pub num_count : (ℕ → Bool) → List ℕ → ℕ
num_count test [] = 0
num_count test (n ∷ numbers) = cond (test n) (1 + num_count test numbers) (num_count test numbers)

pub count_numbers : (test : ℕ → Bool) (lebs : List Leb) → count_by (λ leb. test leb.lnum) lebs ≡ num_count test (numbers_of (rows lebs))
count_numbers test lebs = sym (is_count_by (λ (ls : List Leb). num_count test (numbers_of (rows ls))) (λ leb. test leb.lnum) refl (λ leb ls. refl) lebs)

-- What a step leaves: as many LEBs are empty, or lent, or more; the index has the LEBs that it had, and no weight grows.
record IsSteady (m k : Store) : Type 0 where
  geo : k.geo ≡ m.geo
  empty : (space_of m).empty + lent m.moving ≤ (space_of k).empty + lent k.moving
  index : (space_of k).index ≡ (space_of m).index
  weight : (space_of k).weight ≡ (space_of m).weight
  numbers : numbers_of (rows k.lebs) ≡ numbers_of (rows m.lebs)

settled_more : (geo : RawGeometry) (old new : Space) → new.weight ≡ old.weight → old.empty ≤ new.empty → old.empty + old.index ≤ new.empty + new.index → IsSettled geo old → IsSettled geo new
settled_more geo old new weight empty both s =
    let at : IsSettled geo (record new { weight = old.weight }) = (let a = s.empty in let b = s.index in record { empty = omega (arith, a, empty); index = omega (arith, b, both) }) in
    subst (λ (w : ℕ). IsSettled geo (record new { weight = w })) (sym weight) at

-- as a running commit's end leaves it, too
twice_more : (geo : RawGeometry) (next : Running) (old new : Space) → new.weight ≡ old.weight → old.empty ≤ new.empty → new.index ≡ old.index → IsSettledTwice geo next old → IsSettledTwice geo next new
twice_more geo next old new weight empty index s = record {
  cut = settled_more geo (with_empty next.taken old) (with_empty next.taken new) weight (omega (arith, empty)) (omega (arith, empty, index)) s.cut;
  end = settled_more geo _ _ refl (omega (arith, empty, index)) (omega (arith, empty, index)) s.end;
}

same_running : (m k : Store) (next after : Next) → k.geo ≡ m.geo → numbers_of (rows k.lebs) ≡ numbers_of (rows m.lebs) → after.taken ≡ next.taken → after.view.places ≡ next.view.places → weight_of m.geo after.view ≡ weight_of m.geo next.view
    → running_commit_of k after ≡ running_commit_of m next
same_running m k next after geo numbers taken places weight =
    let make : ℕ → ℕ → ℕ → Running = λ t l w. record { taken = t; lebs = l; weight = w } in
    let counted : (running_commit_of k after).lebs ≡ (running_commit_of m next).lebs =
    count_numbers (has_node after.view.places) k.lebs ∙ ap (λ (ps : List IndexNodePlace). num_count (has_node ps) (numbers_of (rows k.lebs))) places ∙ ap (num_count (has_node next.view.places)) numbers
    ∙ sym (count_numbers (has_node next.view.places) m.lebs) in
    ap (λ (t : List ℕ). make (length t) (running_commit_of k after).lebs (weight_of k.geo after.view)) taken ∙ ap (λ (l : ℕ). make (length next.taken) l (weight_of k.geo after.view)) counted
    ∙ ap (λ (g : RawGeometry). make (length next.taken) (running_commit_of m next).lebs (weight_of g after.view)) geo ∙ ap (make (length next.taken) (running_commit_of m next).lebs) weight

settled_idle : (m k : Store) → IsSteady m k → IsSettled m.geo (with_empty (lent m.moving) (space_of m)) → IsSettled k.geo (with_empty (lent k.moving) (space_of k))
settled_idle m k y s =
    let empty = y.empty in
    let index = y.index in
    subst (λ (g : RawGeometry). IsSettled g (with_empty (lent k.moving) (space_of k))) (sym y.geo)
    (settled_more m.geo (with_empty (lent m.moving) (space_of m)) (with_empty (lent k.moving) (space_of k)) y.weight empty (omega (arith, empty, index)) s)

settled_running : (m k : Store) (next after : Next) → IsSteady m k → after.taken ≡ next.taken → after.view.places ≡ next.view.places → weight_of m.geo after.view ≡ weight_of m.geo next.view
    → IsSettledTwice m.geo (running_commit_of m next) (with_empty (lent m.moving) (space_of m)) → IsSettledTwice k.geo (running_commit_of k after) (with_empty (lent k.moving) (space_of k))
settled_running m k next after y taken places weight s =
    let now : Space = with_empty (lent k.moving) (space_of k) in
    subst (λ (r : Running). IsSettledTwice k.geo r now) (sym (same_running m k next after y.geo y.numbers taken places weight))
    (subst (λ (g : RawGeometry). IsSettledTwice g (running_commit_of m next) now) (sym y.geo) (twice_more m.geo (running_commit_of m next) (with_empty (lent m.moving) (space_of m)) now y.weight y.empty y.index s))

-- where the running commit is as it was
settled_same : (m k : Store) (next : Option Next) → IsSteady m k → IsSettledWith m (with_empty (lent m.moving) (space_of m)) next → IsSettledWith k (with_empty (lent k.moving) (space_of k)) next
settled_same m k None y s = settled_idle m k y s
settled_same m k (Some next) y s = settled_running m k next next y refl refl refl s

-- ---- steps
pub sync_settled : (m : Store) → IsStoreSettled m → IsStoreSettled (sync m)
sync_settled m s =
    let more = sync_empty m in
    settled_same m (sync m) m.next (record {
      geo = refl;
      empty = omega (arith, more);
      index = sync_index m;
      weight = refl;
      numbers = ap numbers_of (sync_rows m) ∙ numbers_kept (freed_row (synced_store m)) (freed_number (synced_store m)) (rows m.lebs);
    }) s

pub drop_settled : (m : Store) (ino : ℕ) (index : StoreIndex) → IsStoreSettled m → IsStoreSettled (drop_inode ino index m)
drop_settled m ino index s =
    let k : Store = dropped_store ino index m in
    let now = count_rows kind.Free (drop_inode ino index m).lebs ∙ ap (row_count kind.Free) (freed_rows k m.lebs) in
    let before = count_rows kind.Free m.lebs in
    let more = freed_more k (rows m.lebs) in
    settled_same m (drop_inode ino index m) m.next (record {
      geo = refl;
      empty = omega (arith, now, before, more);
      index = drop_index m ino index;
      weight = refl;
      numbers = ap numbers_of (freed_rows k m.lebs) ∙ numbers_kept (freed_row k) (freed_number k) (rows m.lebs);
    }) s

pub begin_settled : (m : Store) (victim : ℕ) → m.moving ≡ None → IsStoreSettled m → IsStoreSettled (begin victim m)
begin_settled m victim idle s =
    let none = ap lent idle in
    settled_same m (begin victim m) m.next (record { geo = refl; empty = omega (arith, none); index = refl; weight = refl; numbers = refl }) s

pub move_settled : (m : Store) (c : Copying) → IsStoreSettled m → IsStoreSettled (move c m)
move_settled m c s = by m.next s
  where
    k : Store
    k = move c m

    same : rows k.lebs ≡ rows m.lebs
    same = moved_rows m c (end_at m.ends 0) refl

    count : (role : LebKind) → row_count role (rows k.lebs) ≡ row_count role (rows m.lebs)
    count role = ap (row_count role) same

    steady : IsSteady m k
    steady =
        let free = count_rows kind.Free k.lebs ∙ count kind.Free ∙ sym (count_rows kind.Free m.lebs) in
        record { geo = refl; empty = omega (arith, free); index = count_rows kind.Index k.lebs ∙ count kind.Index ∙ sym (count_rows kind.Index m.lebs); weight = omega arith; numbers = ap numbers_of same }

    by : (next : Option Next) → IsSettledWith m (with_empty (lent m.moving) (space_of m)) next → IsSettledWith k (with_empty (lent k.moving) (space_of k)) (option_map (in_next (with_copy c.copy) 0) next)
    by None s = settled_idle m k steady s
    by (Some next) s = settled_running m k next (in_next (with_copy c.copy) 0 next) steady refl refl (omega arith) s

row_more : (v : ℕ) (r : Row) (rs : List Row) (n : ℕ) → row_count kind.Free rs + n ≤ row_count kind.Free (map (free_row v) rs) → row_count kind.Free (r ∷ rs) + n ≤ row_count kind.Free (map (free_row v) (r ∷ rs))
row_more v r rs n h = by (r.0 == v) (is_role kind.Free r.1) refl
  where
    by : (b z : Bool) → is_role kind.Free r.1 ≡ z
        → cond z (1 + row_count kind.Free rs) (row_count kind.Free rs) + n
        ≤ cond (is_role kind.Free (cond {A = Row} b (r.0, kind.Free) r).1) (1 + row_count kind.Free (map (free_row v) rs)) (row_count kind.Free (map (free_row v) rs))
    by true true e = omega (arith, h)
    by true false e = omega (arith, h)
    by false true e = rw e (omega (arith, h))
    by false false e = rw e h

-- a LEB that was a leaf's is one more that is empty
free_more : (v : ℕ) (rs : List Row) → row_count kind.Free rs ≤ row_count kind.Free (map (free_row v) rs)
free_more v [] = omega arith
free_more v (r ∷ rs) =
    let less = free_more v rs in
    let all = row_more v r rs 0 (omega (arith, less)) in
    omega (arith, all)

free_one : (v : ℕ) (rs : List Row) → has_row kind.Leaf rs v ≡ true → row_count kind.Free rs + 1 ≤ row_count kind.Free (map (free_row v) rs)
free_one v [] h = absurd (false≢true h)
free_one v (r ∷ rs) h = by (free_one v rs) (either_of ((r.0 == v) && is_role kind.Leaf r.1) (has_row kind.Leaf rs v) h)
  where
    first : (b : Bool) → (r.0 == v) ≡ b → b ≡ true → (role : LebKind) → is_role kind.Leaf role ≡ true
        → cond (is_role kind.Free role) (1 + row_count kind.Free rs) (row_count kind.Free rs) + 1
        ≤ cond (is_role kind.Free (cond {A = Row} b (r.0, kind.Free) r).1) (1 + row_count kind.Free (map (free_row v) rs)) (row_count kind.Free (map (free_row v) rs))
    first true e t kind.Leaf l = let more = free_more v rs in omega (arith, more)
    first true e t kind.Free l = absurd (false≢true l)
    first true e t kind.Index l = absurd (false≢true l)
    first true e t kind.Bud l = absurd (false≢true l)
    first true e t kind.Taken l = absurd (false≢true l)
    first false e t role l = absurd (false≢true t)

    by : (has_row kind.Leaf rs v ≡ true → row_count kind.Free rs + 1 ≤ row_count kind.Free (map (free_row v) rs)) → (((r.0 == v) && is_role kind.Leaf r.1) ≡ true) ⊎ (has_row kind.Leaf rs v ≡ true)
        → row_count kind.Free (r ∷ rs) + 1 ≤ row_count kind.Free (map (free_row v) (r ∷ rs))
    by rest (inl e) = let p = and_parts (r.0 == v) (is_role kind.Leaf r.1) e in first (r.0 == v) refl p.0 r.1 p.1
    by rest (inr e) = row_more v r rs 1 (rest e)

lent_one : (moving : Moving) → lent (Some moving) ≤ 1
lent_one moving = by moving.opened
  where
    by : (b : Bool) → cond b 1 0 ≤ 1
    by true = omega arith
    by false = omega arith

freed_settled : (m : Store) (moving : Moving) → m.moving ≡ Some moving → AreRolesApart m → IsStoreSettled m → IsStoreSettled (free_victim m (Some moving))
freed_settled m moving e a s =
    let k : Store = free_victim m (Some moving) in
    let leaf : has_row kind.Leaf (rows m.lebs) moving.victim ≡ true = subst (λ (o : Option Moving). victim_row (rows m.lebs) o ≡ true) e (to_rows m a).victim in
    let one = free_one moving.victim (rows m.lebs) leaf in
    let now = count_rows kind.Free k.lebs ∙ ap (row_count kind.Free) (free_rows moving.victim m.lebs) in
    let before = count_rows kind.Free m.lebs in
    let most = lent_one moving in
    let is = ap lent e in
    settled_same m k m.next (record {
      geo = refl;
      empty = omega (arith, one, now, before, most, is);
      index = free_index m moving e a;
      weight = refl;
      numbers = ap numbers_of (free_rows moving.victim m.lebs) ∙ numbers_kept (free_row moving.victim) (free_number moving.victim) (rows m.lebs);
    }) s

pub free_settled : (m : Store) (moving : Option Moving) → m.moving ≡ moving → AreRolesApart m → IsStoreSettled m → IsStoreSettled (free_victim m moving)
free_settled m None e a s = s
free_settled m (Some moving) e a s = freed_settled m moving e a s

-- ---- a LEB of a running commit is written
pub write_rows : (m : Store) (next : Next) → rows (write_index m (Some next)).lebs ≡ rows m.lebs
write_rows m next = set_rows (get_or next.taken next.written 0) (flat_map (node_items m.geo) (view_branchings next.view (get_or next.taken next.written 0) m.sqnum)) m.lebs

write_count : (role : LebKind) (m : Store) (next : Next) → role_count role (write_index m (Some next)).lebs ≡ role_count role m.lebs
write_count role m next = count_rows role (write_index m (Some next)).lebs ∙ ap (row_count role) (write_rows m next) ∙ sym (count_rows role m.lebs)

pub write_settled : (m : Store) (next : Option Next) → m.next ≡ next → IsStoreSettled m → IsStoreSettled (write_index m next)
write_settled m None e s = s
write_settled m (Some next) e s =
    let k : Store = write_index m (Some next) in
    let free = write_count kind.Free m next in
    settled_running m k next (record next { written = next.written + 1 })
    (record { geo = refl; empty = omega (arith, free); index = write_count kind.Index m next; weight = refl; numbers = ap numbers_of (write_rows m next) }) refl refl refl
    (subst (λ (o : Option Next). IsSettledWith m (with_empty (lent m.moving) (space_of m)) o) e s)
