-- What each event makes of the log: its LEBs that are kept stay so.
use Rattle.std.proofs.Common.{◌≡◌, ◌<◌, ◌≤◌, ◌+◌, ◌-◌, ◌*◌, ◌/◌, ◌%◌, ℕ, zero, suc, Bool, true, false, cond, List, [], ◌∷◌, ◌++◌, length, map, refl, sym, ap, subst, ◌∙◌, arith, leb-true, leb-false, ltb-true, ltb-false, suc-mul, Option, Some, None}
use Rattle.std.specs.Prelude.{fold, nat_le, nat_lt}
use Rattle.std.specs.Option.{option_map}
use Rattle.std.proofs.Math.Nat.{add-mul-mod_self_right, div-mul-le_self, mul-mod_left}
use Rattle.std.proofs.lemmas.Nat.{div-add-mod', mul-le}
use Rattle.ubifs_base.specs.declared.raw_geometry.RawGeometry.{RawGeometry}
use Rattle.ubifs_base.specs.Geometry.{IsGeometry}
use Rattle.store_model.specs.Events.{after_part, begin, changed_end, Copying, credit, drop_inode, end_commit, filled_up, free_victim, granted, in_next, move, next_log_leb, offer, offered, open_bud, open_buds, open_leb, paid, Part, Payment, put, Putting, reference_len, start, sync, whole_store_units, with_reference, write_index}
use Rattle.store_model.specs.Heads.{begun_of, less}
use Rattle.store_model.specs.Legal.{CanOpen, CanStart, kept_lebs, log_count, log_steps, next_section}
use Rattle.store_model.specs.LogRing.{HasLogLebs, IsOnTheWay}
use Rattle.store_model.specs.Store.{At, Bud, StoreIndex, LogPlace, Moving, Next, Store}

-- ---- the ring
abbrev steps : ℕ → ℕ → ℕ → ℕ
steps n from leb = cond (nat_lt leb from) (leb + n - from) (leb - from)

abbrev next_of : ℕ → ℕ → ℕ
next_of n leb = cond (nat_lt (leb + 1) n) (leb + 1) 0

-- the next LEB is one of the ring
next_in : (n leb : ℕ) → leb < n → next_of n leb < n
next_in n leb here = by (nat_lt (leb + 1) n) refl
  where
    by : (b : Bool) → nat_lt (leb + 1) n ≡ b → cond b (leb + 1) 0 < n
    by true e = ltb-true (leb + 1) n e
    by false e = omega (arith, here)

-- and one further, where it isn't the first again
next_step : (n from leb : ℕ) → from < n → leb < n → steps n from leb + 1 < n → steps n from (next_of n leb) ≡ steps n from leb + 1
next_step n from leb start here room = by (nat_lt (leb + 1) n) refl (nat_lt leb from) refl (nat_lt (leb + 1) from) refl (nat_lt 0 from) refl room
  where
    by : (a : Bool) → nat_lt (leb + 1) n ≡ a → (b : Bool) → nat_lt leb from ≡ b → (c : Bool) → nat_lt (leb + 1) from ≡ c → (d : Bool) → nat_lt 0 from ≡ d → cond b (leb + n - from) (leb - from) + 1 < n
        → cond (nat_lt (cond a (leb + 1) 0) from) (cond a (leb + 1) 0 + n - from) (cond a (leb + 1) 0 - from) ≡ cond b (leb + n - from) (leb - from) + 1
    by true e true f true g d h room = let p = ltb-true leb from f in rw g (omega (arith, p, start))
    by true e true f false g d h room = let p = ltb-true leb from f in let q = ltb-false (leb + 1) from g in absurd (omega (arith, p, q, start, room))
    by true e false f true g d h room = let p = ltb-false leb from f in let q = ltb-true (leb + 1) from g in absurd (omega (arith, p, q))
    by true e false f false g d h room = let p = ltb-false leb from f in rw g (omega (arith, p))
    by false e true f c g d h room = let p = ltb-true leb from f in let q = ltb-false (leb + 1) n e in absurd (omega (arith, p, q, start, here))
    by false e false f c g true h room = let p = ltb-false leb from f in let q = ltb-false (leb + 1) n e in rw h (omega (arith, p, q, here, start))
    by false e false f c g false h room = let p = ltb-false 0 from h in let q = ltb-false (leb + 1) n e in absurd (omega (arith, p, q, room, here))

-- from a LEB on the way it is as many fewer
steps_left : (n from section leb : ℕ) → from < n → section < n → leb < n → steps n from section ≤ steps n from leb → steps n section leb + steps n from section ≡ steps n from leb
steps_left n from section leb start between here way = by (nat_lt section from) refl (nat_lt leb from) refl (nat_lt leb section) refl way
  where
    by : (a : Bool) → nat_lt section from ≡ a → (b : Bool) → nat_lt leb from ≡ b → (c : Bool) → nat_lt leb section ≡ c → cond a (section + n - from) (section - from) ≤ cond b (leb + n - from) (leb - from)
        → cond c (leb + n - section) (leb - section) + cond a (section + n - from) (section - from) ≡ cond b (leb + n - from) (leb - from)
    by true e true f true g way = let p = ltb-true section from e in let q = ltb-true leb section g in absurd (omega (arith, p, q, way, start))
    by true e true f false g way = let p = ltb-true section from e in let q = ltb-false leb section g in omega (arith, p, q, start)
    by true e false f c g way = let p = ltb-true section from e in let q = ltb-false leb from f in absurd (omega (arith, p, q, way, here, start))
    by false e true f true g way = let p = ltb-false section from e in let q = ltb-true leb from f in let r = ltb-true leb section g in omega (arith, p, q, r, between, start)
    by false e true f false g way = let p = ltb-false section from e in let q = ltb-true leb from f in let r = ltb-false leb section g in absurd (omega (arith, p, q, r))
    by false e false f true g way = let p = ltb-false section from e in let q = ltb-false leb from f in let r = ltb-true leb section g in absurd (omega (arith, p, q, r, way))
    by false e false f false g way = let p = ltb-false section from e in let q = ltb-false leb section g in omega (arith, p, q)

-- ---- units
-- what fits a LEB fits it in whole units
units_fit : (n unit size : ℕ) → 0 < unit → size % unit ≡ 0 → n ≤ size → (n + unit - 1) / unit * unit ≤ size
units_fit n unit size some whole fits = by (nat_le ((n + unit - 1) / unit) (size / unit)) refl
  where
    all : size / unit * unit ≡ size
    all = let d = div-add-mod' size unit in omega (arith, d, whole)

    by : (b : Bool) → nat_le ((n + unit - 1) / unit) (size / unit) ≡ b → (n + unit - 1) / unit * unit ≤ size
    by true e =
        let less : (n + unit - 1) / unit * unit ≤ size / unit * unit = mul-le ((n + unit - 1) / unit) unit (size / unit) unit (leb-true ((n + unit - 1) / unit) (size / unit) e) (omega arith) in
        omega (arith, less, all)
    by false e =
        let more : suc (size / unit) * unit ≤ (n + unit - 1) / unit * unit = mul-le (suc (size / unit)) unit ((n + unit - 1) / unit) unit (let low = leb-false ((n + unit - 1) / unit) (size / unit) e in omega (arith, low)) (omega arith) in
        let one = suc-mul (size / unit) unit in
        let below = div-mul-le_self (n + unit - 1) unit in
        absurd (omega (arith, more, one, below, all, fits, some))

unit_sum : (a b unit : ℕ) → a % unit ≡ 0 → (a + b / unit * unit) % unit ≡ 0
unit_sum a b unit h = add-mul-mod_self_right a (b / unit) unit ∙ h

-- ---- heads
changed_length : (head : ℕ) (change : Option At → Option At) (ends : List (Option At)) → length (changed_end head change ends) ≡ length ends
changed_length head change [] = refl
changed_length zero change (at ∷ ends) = refl
changed_length (suc head) change (at ∷ ends) = ap (λ n. suc n) (changed_length head change ends)

-- one list less another is as long as it was
less_length : (numbers gone : List ℕ) → length (less numbers gone) ≡ length numbers
less_length [] gone = refl
less_length (n ∷ numbers) [] = refl
less_length (n ∷ numbers) (k ∷ gone) = ap (λ i. suc i) (less_length numbers gone)

map_length : {A B : Type 0} (f : A → B) (xs : List A) → length (map f xs) ≡ length xs
map_length f [] = refl
map_length f (x ∷ xs) = ap (λ n. suc n) (map_length f xs)

open_length : (head : ℕ) (ends : List (Option At)) → length (open_buds head ends) ≤ length ends
open_length head [] = omega arith
open_length head (at ∷ ends) = by at (open_length (suc head) ends)
  where
    by : (at : Option At) → length (open_buds (suc head) ends) ≤ length ends → length (open_bud head at ++ open_buds (suc head) ends) ≤ suc (length ends)
    by None h = omega (arith, h)
    by (Some at) h = omega (arith, h)

-- ---- a log that stays
record IsSameLog (m k : Store) : Type 0 where
  geo : k.geo ≡ m.geo
  heads : length k.ends ≡ length m.ends
  synced : length m.synced ≡ 3 → length k.synced ≡ 3
  first : k.now.section ≡ m.now.section
  log : k.log ≡ m.log
  next : next_section k ≡ next_section m

abbrev Kept : RawGeometry → ℕ → LogPlace → Option ℕ → Type 0
Kept geo first log next = log_steps geo first log.leb + 1 + kept_lebs next ≤ geo.log_lebs

abbrev OnTheWay : RawGeometry → ℕ → LogPlace → Option ℕ → Type 0
OnTheWay geo first log next = IsOnTheWay geo first log.leb next

same_log : (m k : Store) → IsSameLog m k → HasLogLebs m → HasLogLebs k
same_log m k s h = record {
  heads = s.heads ∙ h.heads;
  synced = s.synced h.synced;
  first = subst (λ (g : RawGeometry). k.now.section < g.log_lebs) (sym s.geo) (subst (λ n. n < m.geo.log_lebs) (sym s.first) h.first);
  last = subst (λ (g : RawGeometry). k.log.leb < g.log_lebs) (sym s.geo) (subst (λ (l : LogPlace). l.leb < m.geo.log_lebs) (sym s.log) h.last);
  within = subst (λ (g : RawGeometry). k.log.offs ≤ g.leb_size) (sym s.geo) (subst (λ (l : LogPlace). l.offs ≤ m.geo.leb_size) (sym s.log) h.within);
  unit = subst (λ (g : RawGeometry). k.log.offs % g.min_io ≡ 0) (sym s.geo) (subst (λ (l : LogPlace). l.offs % m.geo.min_io ≡ 0) (sym s.log) h.unit);
  kept =
      let a : Kept m.geo m.now.section m.log (next_section k) = subst (Kept m.geo m.now.section m.log) (sym s.next) h.kept in
      let b : Kept m.geo m.now.section k.log (next_section k) = subst (λ (l : LogPlace). Kept m.geo m.now.section l (next_section k)) (sym s.log) a in
      let c : Kept m.geo k.now.section k.log (next_section k) = subst (λ (n : ℕ). Kept m.geo n k.log (next_section k)) (sym s.first) b in
      subst (λ (g : RawGeometry). Kept g k.now.section k.log (next_section k)) (sym s.geo) c;
  on_the_way =
      let a : OnTheWay m.geo m.now.section m.log (next_section k) = subst (OnTheWay m.geo m.now.section m.log) (sym s.next) h.on_the_way in
      let b : OnTheWay m.geo m.now.section k.log (next_section k) = subst (λ (l : LogPlace). OnTheWay m.geo m.now.section l (next_section k)) (sym s.log) a in
      let c : OnTheWay m.geo k.now.section k.log (next_section k) = subst (λ (n : ℕ). OnTheWay m.geo n k.log (next_section k)) (sym s.first) b in
      subst (λ (g : RawGeometry). OnTheWay g k.now.section k.log (next_section k)) (sym s.geo) c;
}

log_then : (m k l : Store) → IsSameLog m k → IsSameLog k l → IsSameLog m l
log_then m k l a b = record { geo = b.geo ∙ a.geo; heads = b.heads ∙ a.heads; synced = λ e. b.synced (a.synced e); first = b.first ∙ a.first; log = b.log ∙ a.log; next = b.next ∙ a.next }

-- the section of a commit stays, whatever is done to its buds
same_section : (change : List Bud → List Bud) (n : ℕ) (next : Option Next) → option_map (λ next. next.view.section) (option_map (in_next change n) next) ≡ option_map (λ next. next.view.section) next
same_section change n None = refl
same_section change n (Some next) = refl

part_log : (m : Store) (part : Part) → IsSameLog m (after_part m part)
part_log m part = record { geo = refl; heads = changed_length part.head _ m.ends; synced = λ e. e; first = refl; log = refl; next = same_section _ (length part.group) m.next }

parts_log : (parts : List Part) (m : Store) → IsSameLog m (fold after_part m parts)
parts_log [] m = record { geo = refl; heads = refl; synced = λ e. e; first = refl; log = refl; next = refl }
parts_log (part ∷ parts) m = log_then m (after_part m part) (fold after_part m (part ∷ parts)) (part_log m part) (parts_log parts (after_part m part))

pub put_log : (m : Store) (p : Putting) → HasLogLebs m → HasLogLebs (put p m)
put_log m p h = by p.payment (same_log m (fold after_part m p.parts) (parts_log p.parts m) h)
  where
    end : Store
    end = fold after_part m p.parts

    by : (payment : Payment) → HasLogLebs end → HasLogLebs (record (paid payment end) { index = p.index })
    by credit h = same_log end (record (paid credit end) { index = p.index }) (record { geo = refl; heads = refl; synced = λ e. e; first = refl; log = refl; next = refl }) h
    by granted h = same_log end (record (paid granted end) { index = p.index }) (record { geo = refl; heads = refl; synced = λ e. e; first = refl; log = refl; next = refl }) h

pub sync_log : (m : Store) → HasLogLebs m → HasLogLebs (sync m)
sync_log m h = same_log m (sync m) (record { geo = refl; heads = map_length (option_map (filled_up m.geo)) m.ends; synced = λ e. refl; first = refl; log = refl; next = refl }) h

pub begin_log : (m : Store) (victim : ℕ) → HasLogLebs m → HasLogLebs (begin victim m)
begin_log m victim h = same_log m (begin victim m) (record { geo = refl; heads = refl; synced = λ e. e; first = refl; log = refl; next = refl }) h

pub move_log : (m : Store) (c : Copying) → HasLogLebs m → HasLogLebs (move c m)
move_log m c h = same_log m (move c m) (record { geo = refl; heads = changed_length 0 _ m.ends; synced = λ e. e; first = refl; log = refl; next = same_section _ 0 m.next }) h

pub free_log : (m : Store) (moving : Option Moving) → HasLogLebs m → HasLogLebs (free_victim m moving)
free_log m None h = h
free_log m (Some moving) h = same_log m (free_victim m (Some moving)) (record { geo = refl; heads = refl; synced = λ e. e; first = refl; log = refl; next = refl }) h

pub write_log : (m : Store) (next : Option Next) → m.next ≡ next → HasLogLebs m → HasLogLebs (write_index m next)
write_log m None e h = h
write_log m (Some next) e h = same_log m (write_index m (Some next)) (record { geo = refl; heads = refl; synced = λ e. e; first = refl; log = refl; next = ap (option_map (λ next. next.view.section)) (sym e) }) h

pub offer_log : (m : Store) → HasLogLebs m → HasLogLebs (offer m)
offer_log m h = same_log m (offer m) (record { geo = refl; heads = refl; synced = λ e. e; first = refl; log = refl; next = by m.next }) h
  where
    by : (next : Option Next) → option_map (λ next. next.view.section) (option_map offered next) ≡ option_map (λ next. next.view.section) next
    by None = refl
    by (Some next) = refl

pub drop_log : (m : Store) (ino : ℕ) (index : StoreIndex) → HasLogLebs m → HasLogLebs (drop_inode ino index m)
drop_log m ino index h = same_log m (drop_inode ino index m) (record { geo = refl; heads = refl; synced = λ e. e; first = refl; log = refl; next = refl }) h

-- ---- a log that grows
-- a LEB's first bytes, whole units of at most 224
first_units : (geo : RawGeometry) (n : ℕ) → IsGeometry geo → n ≤ 224 → whole_store_units geo n ≤ geo.leb_size
first_units geo n g few =
    let unit = g.min_io.1 in
    let size = g.leb_size.0 in
    units_fit n geo.min_io geo.leb_size (omega (arith, unit)) g.leb_size.2 (omega (arith, size, few))

way_further : (geo : RawGeometry) (first leb further : ℕ) (next : Option ℕ) → log_steps geo first leb ≤ log_steps geo first further → IsOnTheWay geo first leb next → IsOnTheWay geo first further next
way_further geo first leb further None more way = tt
way_further geo first leb further (Some section) more way = (way.0, way.1, omega (arith, way.2, more))

pub open_log : (m : Store) (head lnum : ℕ) → CanOpen m head lnum → IsGeometry m.geo → HasLogLebs m → HasLogLebs (open_leb head lnum m)
open_log m head lnum can g h = by (nat_le (m.log.offs + reference_len m.geo) m.geo.leb_size) refl can.log
  where
    Grown : LogPlace → Type 0
    Grown log =
        (log.leb < m.geo.log_lebs) × (log.offs ≤ m.geo.leb_size) × (log.offs % m.geo.min_io ≡ 0)
        × (log_steps m.geo m.now.section log.leb + 1 + kept_lebs (next_section m) ≤ m.geo.log_lebs) × IsOnTheWay m.geo m.now.section log.leb (next_section m)

    some : 0 < kept_lebs (next_section m)
    some = of (next_section m)
      where
        of : (o : Option ℕ) → 0 < kept_lebs o
        of None = omega arith
        of (Some n) = omega arith

    grown : (log : LogPlace) → with_reference m.geo m.log ≡ log → Grown log → HasLogLebs (open_leb head lnum m)
    grown log is w =
        let k : Store = open_leb head lnum m in
        let now : Store = record m { log = log } in
        let has : HasLogLebs now = record { heads = h.heads; synced = h.synced; first = h.first; last = w.0; within = w.1; unit = w.2; kept = w.3; on_the_way = w.4 } in
        same_log now k (record { geo = refl; heads = changed_length head _ m.ends; synced = λ e. e; first = refl; log = is; next = same_section _ 0 m.next }) has

    by : (b : Bool) → nat_le (m.log.offs + reference_len m.geo) m.geo.leb_size ≡ b → cond b true (nat_lt (log_count m + kept_lebs (next_section m)) m.geo.log_lebs) ≡ true → HasLogLebs (open_leb head lnum m)
    by true e room =
        let fits = leb-true (m.log.offs + reference_len m.geo) m.geo.leb_size e in
        grown (record m.log { offs = m.log.offs + reference_len m.geo }) (rw e refl) (h.last, fits, unit_sum m.log.offs (64 + m.geo.min_io - 1) m.geo.min_io h.unit, h.kept, h.on_the_way)
    by false e room =
        let more = ltb-true (log_count m + kept_lebs (next_section m)) m.geo.log_lebs room in
        let step = next_step m.geo.log_lebs m.now.section m.log.leb h.first h.last (let s = some in omega (arith, more, s)) in
        grown (record { leb = next_log_leb m.geo m.log.leb; offs = reference_len m.geo }) (rw e refl) (
          next_in m.geo.log_lebs m.log.leb h.last,
          first_units m.geo 64 g (omega arith),
          mul-mod_left ((64 + m.geo.min_io - 1) / m.geo.min_io) m.geo.min_io,
          omega (arith, step, more),
          way_further m.geo m.now.section m.log.leb (next_log_leb m.geo m.log.leb) (next_section m) (omega (arith, step)) h.on_the_way,
        )

pub start_log : (m : Store) (taken : List ℕ) → CanStart m taken → IsGeometry m.geo → HasLogLebs m → HasLogLebs (start taken m)
start_log m taken can g h =
    let few = open_length 0 m.ends in
    let room : log_steps m.geo m.now.section m.log.leb + 1 + 2 ≤ m.geo.log_lebs = can.log in
    let step = next_step m.geo.log_lebs m.now.section m.log.leb h.first h.last (omega (arith, room)) in
    let kept : log_steps m.geo m.now.section (next_log_leb m.geo m.log.leb) + 1 + 1 ≤ m.geo.log_lebs = omega (arith, step, room) in
    let inside = next_in m.geo.log_lebs m.log.leb h.last in
    record {
      heads = h.heads;
      synced = h.synced;
      first = h.first;
      last = inside;
      within = first_units m.geo (32 + 64 * length (open_buds 0 m.ends)) g (let three = h.heads in omega (arith, few, three));
      unit = mul-mod_left ((32 + 64 * length (open_buds 0 m.ends) + m.geo.min_io - 1) / m.geo.min_io) m.geo.min_io;
      kept = kept;
      on_the_way = (inside, omega (arith, step), omega arith);
    }

pub end_log : (m : Store) (next : Option Next) → m.next ≡ next → HasLogLebs m → HasLogLebs (end_commit m next)
end_log m None e h = h
end_log m (Some next) e h =
    let way : IsOnTheWay m.geo m.now.section m.log.leb (Some next.view.section) = subst (λ (o : Option Next). IsOnTheWay m.geo m.now.section m.log.leb (option_map (λ next. next.view.section) o)) e h.on_the_way in
    let kept : log_steps m.geo m.now.section m.log.leb + 1 + 1 ≤ m.geo.log_lebs = subst (λ (o : Option Next). log_count m + kept_lebs (option_map (λ next. next.view.section) o) ≤ m.geo.log_lebs) e h.kept in
    let left = steps_left m.geo.log_lebs m.now.section next.view.section m.log.leb h.first way.0 h.last way.2 in
    let some = way.1 in
    let two : log_steps m.geo next.view.section m.log.leb + 1 + 2 ≤ m.geo.log_lebs = omega (arith, left, kept, some) in
    record {
      heads = h.heads;
      synced = less_length m.synced (begun_of m next) ∙ h.synced;
      first = way.0;
      last = h.last;
      within = h.within;
      unit = h.unit;
      kept = two;
      on_the_way = tt;
    }
