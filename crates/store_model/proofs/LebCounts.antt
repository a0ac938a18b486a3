-- How many LEBs are empty or the index's, after an event.
use Rattle.std.proofs.Common.{◌≡◌, ◌≤◌, ◌⊎◌, ℕ, ◌+◌, arith, Bool, true, false, cond, not, List, [], ◌∷◌, map, refl, sym, ap, subst, ◌∙◌, inl, inr}
use Rattle.std.specs.Prelude.{◌==◌, ◌&&◌, ◌||◌, fold}
use Rattle.std.specs.List.{list_any}
use Rattle.std.proofs.lemmas.List.Recursion.{is_count_by}
use Rattle.std.proofs.lemmas.Bool.{and_parts, eqb-true, false≢true}
use Rattle.media_lpt.specs.declared.leb_kind.LebKind.{LebKind}
use Rattle.media_lpt.specs.declared.leb_kind.LebKind.TheVariants as kind
use Rattle.store_model.specs.Events.{after_part, credit, drop_inode, end_at, granted, open_leb, paid, Part, Payment, put, Putting, sync}
use Rattle.store_model.specs.Invariant.{AreRolesApart}
use Rattle.store_model.specs.Lebs.{has_leaf, has_role, is_role, is_victim_of, role_count, space_of}
use Rattle.store_model.specs.Legal.{are_distinct}
use Rattle.store_model.specs.Store.{StoreIndex, Leb, Store}
use Rattle.store_model.proofs.LebDrops.{dropped_store}
use Rattle.store_model.proofs.LebFrees.{all_padded, freed_row, freed_rows, synced_store}
use Rattle.store_model.proofs.LebOpens.{open_lebs, open_row}
use Rattle.store_model.proofs.LebPuts.{part_lebs}
use Rattle.store_model.proofs.LebRows.{Row, has_one, has_row, numbers_of, role_row, rows, same_role, to_rows}
use Rattle.store_model.proofs.RecoveryCopies.{either_of, not_true}
use Rattle.store_model.proofs.Sorting.{or_false}

-- how many rows have a role
abbrev pub row_count : LebKind → List Row → ℕ
row_count role [] = 0
row_count role (r ∷ rs) = cond (is_role role r.1) (1 + row_count role rs) (row_count role rs)

pub count_rows : (role : LebKind) (lebs : List Leb) → role_count role lebs ≡ row_count role (rows lebs)
count_rows role lebs = sym (is_count_by (λ (ls : List Leb). row_count role (rows ls)) (λ leb. is_role role leb.role) refl (λ leb ls. refl) lebs)

-- ---- a put
pub part_rows : (m : Store) (part : Part) → rows (after_part m part).lebs ≡ rows m.lebs
part_rows m part = part_lebs m part (end_at m.ends part.head) refl

parts_rows : (parts : List Part) (m : Store) → rows (fold after_part m parts).lebs ≡ rows m.lebs
parts_rows [] m = refl
parts_rows (part ∷ parts) m = parts_rows parts (after_part m part) ∙ part_rows m part

paid_rows : (payment : Payment) (m : Store) → rows (paid payment m).lebs ≡ rows m.lebs
paid_rows credit m = refl
paid_rows granted m = refl

pub put_empty : (m : Store) (p : Putting) → (space_of (put p m)).empty ≡ (space_of m).empty
put_empty m p =
    count_rows kind.Free (put p m).lebs ∙ ap (row_count kind.Free) (paid_rows p.payment (fold after_part m p.parts) ∙ parts_rows p.parts m) ∙ sym (count_rows kind.Free m.lebs)

-- ---- LEBs that are freed
pub freed_index : (m : Store) (rs : List Row) → row_count kind.Index (map (freed_row m) rs) ≡ row_count kind.Index rs
freed_index m [] = refl
freed_index m ((n, kind.Index) ∷ rs) = ap (λ k. 1 + k) (freed_index m rs)
freed_index m ((n, kind.Free) ∷ rs) = freed_index m rs
freed_index m ((n, kind.Bud) ∷ rs) = freed_index m rs
freed_index m ((n, kind.Taken) ∷ rs) = freed_index m rs
freed_index m ((n, kind.Leaf) ∷ rs) = by (not (has_leaf m n) && not (is_victim_of m.moving n)) (freed_index m rs)
  where
    by : (b : Bool) → row_count kind.Index (map (freed_row m) rs) ≡ row_count kind.Index rs → row_count kind.Index (cond {A = Row} b (n, kind.Free) (n, kind.Leaf) ∷ map (freed_row m) rs) ≡ row_count kind.Index rs
    by true rest = rest
    by false rest = rest

both_one : (a b : ℕ) → a ≤ b → 1 + a ≤ 1 + b
both_one a b h = omega (arith, h)

one_up : (a b : ℕ) → a ≤ b → a ≤ 1 + b
one_up a b h = omega (arith, h)

pub freed_more : (m : Store) (rs : List Row) → row_count kind.Free rs ≤ row_count kind.Free (map (freed_row m) rs)
freed_more m [] = omega arith
freed_more m ((n, kind.Free) ∷ rs) = both_one (row_count kind.Free rs) (row_count kind.Free (map (freed_row m) rs)) (freed_more m rs)
freed_more m ((n, kind.Index) ∷ rs) = freed_more m rs
freed_more m ((n, kind.Bud) ∷ rs) = freed_more m rs
freed_more m ((n, kind.Taken) ∷ rs) = freed_more m rs
freed_more m ((n, kind.Leaf) ∷ rs) = by (not (has_leaf m n) && not (is_victim_of m.moving n)) (freed_more m rs)
  where
    by : (b : Bool) → row_count kind.Free rs ≤ row_count kind.Free (map (freed_row m) rs) → row_count kind.Free rs ≤ row_count kind.Free (cond {A = Row} b (n, kind.Free) (n, kind.Leaf) ∷ map (freed_row m) rs)
    by true rest = omega (arith, rest)
    by false rest = rest

pub sync_rows : (m : Store) → rows (sync m).lebs ≡ map (freed_row (synced_store m)) (rows m.lebs)
sync_rows m = freed_rows (synced_store m) (synced_store m).lebs ∙ ap (map (freed_row (synced_store m))) (all_padded m.geo m.lebs m.ends)

pub sync_empty : (m : Store) → (space_of m).empty ≤ (space_of (sync m)).empty
sync_empty m =
    let a = count_rows kind.Free (sync m).lebs ∙ ap (row_count kind.Free) (sync_rows m) in
    let b = count_rows kind.Free m.lebs in
    let c = freed_more (synced_store m) (rows m.lebs) in
    omega (arith, a, b, c)

pub sync_index : (m : Store) → (space_of (sync m)).index ≡ (space_of m).index
sync_index m = count_rows kind.Index (sync m).lebs ∙ ap (row_count kind.Index) (sync_rows m) ∙ freed_index (synced_store m) (rows m.lebs) ∙ sym (count_rows kind.Index m.lebs)

pub drop_index : (m : Store) (ino : ℕ) (index : StoreIndex) → (space_of (drop_inode ino index m)).index ≡ (space_of m).index
drop_index m ino index =
    count_rows kind.Index (drop_inode ino index m).lebs ∙ ap (row_count kind.Index) (freed_rows (dropped_store ino index m) m.lebs)
    ∙ freed_index (dropped_store ino index m) (rows m.lebs) ∙ sym (count_rows kind.Index m.lebs)

-- ---- a LEB that is opened
open_none : (lnum : ℕ) (rs : List Row) → list_any (λ k. k == lnum) (numbers_of rs) ≡ false → map (open_row lnum) rs ≡ rs
open_none lnum [] h = refl
open_none lnum (r ∷ rs) h = let q = or_false (r.0 == lnum) (list_any (λ k. k == lnum) (numbers_of rs)) h in by (r.0 == lnum) q.0 (open_none lnum rs q.1)
  where
    by : (b : Bool) → b ≡ false → map (open_row lnum) rs ≡ rs → cond b (r.0, kind.Bud) r ∷ map (open_row lnum) rs ≡ r ∷ rs
    by true e rest = absurd (false≢true (sym e))
    by false e rest = ap (λ z. r ∷ z) rest

-- one for the LEB, if this is counted
abbrev one_if : Bool → ℕ
one_if b = cond b 1 0

open_count : (role : LebKind) (lnum : ℕ) (rs : List Row) → is_role role kind.Bud ≡ false → are_distinct (numbers_of rs) ≡ true → has_row kind.Free rs lnum ≡ true
    → row_count role (map (open_row lnum) rs) + one_if (is_role role kind.Free) ≡ row_count role rs
open_count role lnum [] other d h = absurd (false≢true h)
open_count role lnum (r ∷ rs) other d h = by (open_count role lnum rs other (and_parts (not (list_any (λ k. k == r.0) (numbers_of rs))) (are_distinct (numbers_of rs)) d).1) (r.0 == lnum) refl h
  where
    apart : (not (list_any (λ k. k == r.0) (numbers_of rs)) ≡ true) × (are_distinct (numbers_of rs) ≡ true)
    apart = and_parts (not (list_any (λ k. k == r.0) (numbers_of rs))) (are_distinct (numbers_of rs)) d

    alone : (r.0 == lnum) ≡ true → list_any (λ k. k == lnum) (numbers_of rs) ≡ false
    alone e = subst (λ (n : ℕ). list_any (λ k. k == n) (numbers_of rs) ≡ false) (eqb-true r.0 lnum e) (not_true (list_any (λ k. k == r.0) (numbers_of rs)) apart.0)

    first : (a b c : Bool) → a ≡ false → b ≡ c → (n : ℕ) → cond a (1 + n) n + one_if c ≡ cond b (1 + n) n
    first true b c e same n = absurd (false≢true (sym e))
    first false true true e same n = omega arith
    first false false false e same n = omega arith
    first false true false e same n = absurd (false≢true (sym same))
    first false false true e same n = absurd (false≢true same)

    further : (a : Bool) (n k x : ℕ) → n + x ≡ k → cond a (1 + n) n + x ≡ cond a (1 + k) k
    further true n k x e = omega (arith, e)
    further false n k x e = e

    by : (has_row kind.Free rs lnum ≡ true → row_count role (map (open_row lnum) rs) + one_if (is_role role kind.Free) ≡ row_count role rs) → (b : Bool) → (r.0 == lnum) ≡ b → ((b && is_role kind.Free r.1) || has_row kind.Free rs lnum) ≡ true
        → row_count role (cond b (r.0, kind.Bud) r ∷ map (open_row lnum) rs) + one_if (is_role role kind.Free) ≡ row_count role (r ∷ rs)
    by rest true e h = free (either_of (is_role kind.Free r.1) (has_row kind.Free rs lnum) h)
      where
        free : (is_role kind.Free r.1 ≡ true) ⊎ (has_row kind.Free rs lnum ≡ true) → row_count role ((r.0, kind.Bud) ∷ map (open_row lnum) rs) + one_if (is_role role kind.Free) ≡ row_count role (r ∷ rs)
        free (inr more) = absurd (false≢true (sym (alone e) ∙ has_one kind.Free rs lnum more))
        free (inl is) =
            let same : kind.Free ≡ r.1 = same_role kind.Free r.1 is in
            ap (λ (z : List Row). row_count role ((r.0, kind.Bud) ∷ z) + one_if (is_role role kind.Free)) (open_none lnum rs (alone e))
            ∙ first (is_role role kind.Bud) (is_role role r.1) (is_role role kind.Free) other (ap (is_role role) (sym same)) (row_count role rs)
    by rest false e h = further (is_role role r.1) (row_count role (map (open_row lnum) rs)) (row_count role rs) (one_if (is_role role kind.Free)) (rest h)

pub open_empty : (m : Store) (head lnum : ℕ) → has_role kind.Free m.lebs lnum ≡ true → AreRolesApart m → (space_of (open_leb head lnum m)).empty + 1 ≡ (space_of m).empty
open_empty m head lnum empty a =
    ap (λ n. n + 1) (count_rows kind.Free (open_leb head lnum m).lebs ∙ ap (row_count kind.Free) (open_lebs m head lnum))
    ∙ open_count kind.Free lnum (rows m.lebs) refl (to_rows m a).numbers (sym (role_row kind.Free m.lebs lnum) ∙ empty) ∙ sym (count_rows kind.Free m.lebs)

pub open_index : (m : Store) (head lnum : ℕ) → has_role kind.Free m.lebs lnum ≡ true → AreRolesApart m → (space_of (open_leb head lnum m)).index ≡ (space_of m).index
open_index m head lnum empty a =
    let opened = open_count kind.Index lnum (rows m.lebs) refl (to_rows m a).numbers (sym (role_row kind.Free m.lebs lnum) ∙ empty) in
    let now = count_rows kind.Index (open_leb head lnum m).lebs ∙ ap (row_count kind.Index) (open_lebs m head lnum) in
    let before = count_rows kind.Index m.lebs in
    omega (arith, opened, now, before)
