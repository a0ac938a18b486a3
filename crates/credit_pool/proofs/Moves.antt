-- Each kind of step keeps the rule.
use Rattle.std.proofs.Common.{◌≡◌, ℕ, zero, suc, ◌+◌, ◌-◌, ◌%◌, ◌^◌, ◌<◌, ◌≤◌, ◌==◌, Bool, true, false, cond, List, [], ◌∷◌, ◌++◌, set, map, refl, ap, sym, ◌∙◌, subst, arith, slice_index}
use mathlib.Core.Option.{none, some, some-ne-none}
use lib.ListN.{get_elem?}
use lib.Seq.{map-set}
use mathlib.Core.List.{map-append}
use Rattle.credit_pool.specs.States.{without}
use prog.Atomic.{either}
use Rattle.atomic_table.specs.Table.{State, Me, step, keeps, stepped, Allows, Splits, Joins}
use Rattle.std.proofs.lemmas.Bool.Decides.{nat_tests}
use Rattle.credit_pool.specs.declared.view.SeatView.{SeatView}
use Rattle.credit_pool.specs.declared.view.MasterView.{MasterView}
use Rattle.credit_pool.specs.declared.view.View.{View}
use Rattle.credit_pool.specs.declared.view.View.TheVariants.{Master, Seat}
use Rattle.credit_pool.specs.Rule.{most_held, times_out, IsKept, Keeps}
use Rattle.credit_pool.specs.Steps.{seen, with_held, tried, with_numbers, Looks, Takes, Gives, Refills, Drains, Settles, Calls, Weighs, with_seat_out, new_seat, with_seat_back, spent_seat}
use Rattle.credit_pool.proofs.Counting.{of_all}
use Rattle.credit_pool.proofs.Keeping.{covered, outstanding, reseated, renumbered, seat_added, seat_spent}

abbrev Knows : Type 0
Knows = Me (Unit {0}) View

abbrev Table : Type 0
Table = State (Unit {0}) View

-- where a seat's view stands, if it stands behind the master's
among : (seats : List SeatView) (k : ℕ) (v : SeatView) → get_elem? (map Seat seats) k ≡ some (Seat v) → get_elem? seats k ≡ some v
among [] k v e = absurd (some-ne-none (Seat v) (sym e))
among (x ∷ xs) zero v e = cc
among (x ∷ xs) (suc k) v e = among xs k v e

behind : (m : MasterView) (seats : List SeatView) (id : ℕ) (v : SeatView) → get_elem? (Master m ∷ map Seat seats) id ≡ some (Seat v) → (k : ℕ) × (id ≡ suc k) × (get_elem? seats k ≡ some v)
behind m seats zero v e = absurd (cc e)
behind m seats (suc k) v e = (k, refl, among seats k v e)

-- no seat knows what the master knows
not_among : (seats : List SeatView) (k : ℕ) (m : MasterView) → get_elem? (map Seat seats) k ≡ some (Master m) → ⊥
not_among [] k m e = some-ne-none (Master m) (sym e)
not_among (x ∷ xs) zero m e = absurd (cc e)
not_among (x ∷ xs) (suc k) m e = not_among xs k m e

before : (n : MasterView) (seats : List SeatView) (id : ℕ) (m : MasterView) → get_elem? (Master n ∷ map Seat seats) id ≡ some (Master m) → (id ≡ 0) × (n ≡ m)
before n seats zero m e = (refl, cc e)
before n seats (suc k) m e = absurd (not_among seats k m e)

module _ (t : Table) (kept : Keeps t) where
  abbrev room : ℕ
  room = slice_index t.words 0

  abbrev room_is : room ≡ kept.0
  room_is = ap (λ (ws : List ℕ). slice_index ws 0) kept.3

  -- the rule, at the word as a step finds it
  pub rule : IsKept room kept.1 kept.2
  rule = subst (λ (n : ℕ). IsKept n kept.1 kept.2) (sym room_is) kept.5

  pub seat_at : (id : ℕ) (v : SeatView) → get_elem? t.views id ≡ some (Seat v) → (k : ℕ) × (id ≡ suc k) × (get_elem? kept.2 k ≡ some v)
  seat_at id v e = behind kept.1 kept.2 id v (subst (λ (vs : List View). get_elem? vs id ≡ some (Seat v)) kept.4 e)

  pub master_at : (id : ℕ) (m : MasterView) → get_elem? t.views id ≡ some (Master m) → (id ≡ 0) × (kept.1 ≡ m)
  master_at id m e = before kept.1 kept.2 id m (subst (λ (vs : List View). get_elem? vs id ≡ some (Master m)) kept.4 e)

  -- the master's step on the word
  pub master_steps : (id new : ℕ) (m n : MasterView) → get_elem? t.views id ≡ some (Master m) → IsKept new n kept.2 → Keeps (stepped t 0 new id [] (Master n) keeps)
  master_steps id new m n at rule = (
    new,
    n,
    kept.2,
    ap (λ (ws : List ℕ). set ws 0 new) kept.3,
    ap (λ (vs : List View). set vs id (Master n)) kept.4 ∙ ap (λ (i : ℕ). set (Master kept.1 ∷ map Seat kept.2) i (Master n)) (master_at id m at).0,
    rule,
  )

  -- a seat's step on the word
  pub seat_steps : (id new : ℕ) (v w : SeatView) → get_elem? t.views id ≡ some (Seat v) → v.spent ≡ false → w.spent ≡ false → w.caller ≡ v.caller → new + w.held ≡ room + v.held → w.held ≤ 17
      → Keeps (stepped t 0 new id [] (Seat w) keeps)
  seat_steps id new v w at live alive same sum cap =
      let p = seat_at id v at in let k = p.0 in (
        new,
        kept.1,
        set kept.2 k w,
        ap (λ (ws : List ℕ). set ws 0 new) kept.3,
        ap (λ (vs : List View). set vs id (Seat w)) kept.4 ∙ (ap (λ (i : ℕ). set (Master kept.1 ∷ map Seat kept.2) i (Seat w)) p.1 ∙ ap (λ (vs : List View). Master kept.1 ∷ vs) (sym (map-set Seat kept.2 k w))),
        reseated room new kept.1 kept.2 k v w rule p.2 sum (subst (λ (b : Bool). w.held ≤ cond b 0 17) (sym alive) cap) (alive ∙ sym live) same,
      )

  -- what a seat holds is at most 17
  pub seat_holds : (id : ℕ) (v : SeatView) → get_elem? t.views id ≡ some (Seat v) → v.spent ≡ false → v.held ≤ 17
  seat_holds id v at live =
      let p = seat_at id v at in
      subst (λ (b : Bool). v.held ≤ cond b 0 17) live (of_all (λ (s : SeatView). s.held ≤ most_held s) kept.2 p.0 v p.2 rule.capped)

  -- the rule, at what the master knows
  pub master_rule : (id : ℕ) (m : MasterView) → get_elem? t.views id ≡ some (Master m) → IsKept room m kept.2
  master_rule id m at = subst (λ (n : MasterView). IsKept room n kept.2) (master_at id m at).1 rule

-- load
looks_at : (slots id : ℕ) (v : SeatView) → v.spent ≡ false → Allows Keeps slots id (Seat v, []) 0 (λ n. n) (Looks (step slots 0 0 0 none) (Seat v, []))
looks_at slots id v live t kept _ at _ =
    let n : ℕ = room t kept in
    (Seat (seen n v), keeps, tt, seat_steps t kept id n v (seen n v) at live live refl refl (seat_holds t kept id v at live), refl)

pub looks : (slots id : ℕ) (me : Knows) (v : SeatView) → me ≡ (Seat v, []) → v.spent ≡ false → Allows Keeps slots id me 0 (λ n. n) (Looks (step slots 0 0 0 none) me)
looks slots id me v is live = subst (λ (m : Knows). Allows Keeps slots id m 0 (λ n. n) (Looks (step slots 0 0 0 none) m)) (sym is) (looks_at slots id v live)

-- draw, where the exchange found the room wanted (true) or another
takes_where : (t : Table) (kept : Keeps t) (id old less : ℕ) (v : SeatView) → v.spent ≡ false → less ≤ old → v.held + (old - less) ≤ 17 → get_elem? t.views id ≡ some (Seat v)
    → (b : Bool) → (room t kept == old) ≡ b
    → Keeps (stepped t 0 (either b less (room t kept)) id [] (Seat (cond b (with_held (v.held + (old - less)) (seen (room t kept) v)) (seen (room t kept) v))) keeps)
takes_where t kept id old less v live le cap at true is =
    let n : ℕ = room t kept in
    let same : n ≡ old = grind (arith, nat_tests) in
    seat_steps t kept id less v (with_held (v.held + (old - less)) (seen n v)) at live live refl (omega arith) cap
takes_where t kept id old less v live le cap at false is =
    let n : ℕ = room t kept in
    seat_steps t kept id n v (seen n v) at live live refl refl (seat_holds t kept id v at live)

takes_at : (slots id old less : ℕ) (v : SeatView) → v.spent ≡ false → less ≤ old → v.held + (old - less) ≤ 17
    → Allows Keeps slots id (Seat v, []) 0 (λ n. either (n == old) less n) (Takes (step slots 0 old less none) (Seat v, []))
takes_at slots id old less v live le cap t kept _ at _ =
    (Seat (tried old less (room t kept) v), keeps, tt, takes_where t kept id old less v live le cap at (room t kept == old) refl, refl)

pub takes : (slots id old less : ℕ) (me : Knows) (v : SeatView) → me ≡ (Seat v, []) → v.spent ≡ false → less ≤ old → v.held + (old - less) ≤ 17 → Allows Keeps slots id me 0 (λ n. either (n == old) less n) (Takes (step slots 0 old less none) me)
takes slots id old less me v is live le cap = subst (λ (m : Knows). Allows Keeps slots id m 0 (λ n. either (n == old) less n) (Takes (step slots 0 old less none) m)) (sym is) (takes_at slots id old less v live le cap)

-- an addition that doesn't pass 2^64
sum_fits : (n k : ℕ) → n + k < 2 ^ 64 → (n + k) % 2 ^ 64 ≡ n + k
sum_fits n k h = omega arith

-- give
gives_at : (slots id k : ℕ) (v : SeatView) → v.spent ≡ false → k ≤ v.held → Allows Keeps slots id (Seat v, []) 0 (λ n. (n + k) % 2 ^ 64) (Gives (step slots 0 k 0 none) (Seat v, []))
gives_at slots id k v live le t kept _ at _ =
    let n : ℕ = room t kept in
    let most = seat_holds t kept id v at live in
    let all = covered n kept.1 kept.2 (rule t kept) in
    let bounded = (rule t kept).bounded in
    let fits : n + k < 2 ^ 64 = omega arith in
    (Seat (with_held (v.held - k) v), keeps, tt, seat_steps t kept id ((n + k) % 2 ^ 64) v (with_held (v.held - k) v) at live live refl (let e = sum_fits n k fits in omega arith) (omega arith), refl)

pub gives : (slots id k : ℕ) (me : Knows) (v : SeatView) → me ≡ (Seat v, []) → v.spent ≡ false → k ≤ v.held → Allows Keeps slots id me 0 (λ n. (n + k) % 2 ^ 64) (Gives (step slots 0 k 0 none) me)
gives slots id k me v is live le = subst (λ (m : Knows). Allows Keeps slots id m 0 (λ n. (n + k) % 2 ^ 64) (Gives (step slots 0 k 0 none) m)) (sym is) (gives_at slots id k v live le)

-- refill
refills_at : (slots id k : ℕ) (m : MasterView) → m.issued + k < 2 ^ 63 → Allows Keeps slots id (Master m, []) 0 (λ n. (n + k) % 2 ^ 64) (Refills (step slots 0 k 0 none) (Master m, []))
refills_at slots id k m fits t kept _ at _ =
    let n : ℕ = room t kept in
    let r = master_rule t kept id m at in
    let all = covered n m kept.2 r in
    let e = sum_fits n k (omega arith) in
    let w : MasterView = with_numbers (m.issued + k) m.held m in
    (Master w, keeps, tt, master_steps t kept id ((n + k) % 2 ^ 64) m w at (renumbered n ((n + k) % 2 ^ 64) m w kept.2 r (omega arith) fits refl), refl)

pub refills : (slots id k : ℕ) (me : Knows) (m : MasterView) → me ≡ (Master m, []) → m.issued + k < 2 ^ 63 → Allows Keeps slots id me 0 (λ n. (n + k) % 2 ^ 64) (Refills (step slots 0 k 0 none) me)
refills slots id k me m is fits = subst (λ (m : Knows). Allows Keeps slots id m 0 (λ n. (n + k) % 2 ^ 64) (Refills (step slots 0 k 0 none) m)) (sym is) (refills_at slots id k m fits)

-- drain
drains_at : (slots id : ℕ) (m : MasterView) → Allows Keeps slots id (Master m, []) 0 (λ _. 0) (Drains (step slots 0 0 0 none) (Master m, []))
drains_at slots id m t kept _ at _ =
    let n : ℕ = room t kept in
    let r = master_rule t kept id m at in
    let all = covered n m kept.2 r in
    let bounded = r.bounded in
    let w : MasterView = with_numbers (m.issued - n) m.held m in
    (Master w, keeps, tt, master_steps t kept id 0 m w at (renumbered n 0 m w kept.2 r (omega arith) (omega arith) refl), (refl, (all, outstanding n m kept.2 r, (kept.2, renumbered n n m (record { issued = m.issued; held = m.held; out = m.out; next = 0 }) kept.2 r refl bounded refl))))

pub drains : (slots id : ℕ) (me : Knows) (m : MasterView) → me ≡ (Master m, []) → Allows Keeps slots id me 0 (λ _. 0) (Drains (step slots 0 0 0 none) me)
drains slots id me m is = subst (λ (m : Knows). Allows Keeps slots id m 0 (λ _. 0) (Drains (step slots 0 0 0 none) m)) (sym is) (drains_at slots id m)

-- the word stays where it is exchanged for itself
itself : (n k : ℕ) (b : Bool) → (n == k) ≡ b → either b k n ≡ n
itself n k true is = grind (arith, nat_tests)
itself n k false is = refl

-- settle
settles_at : (slots id k : ℕ) (m : MasterView) → k ≤ m.held → Allows Keeps slots id (Master m, []) 0 (λ n. either (n == k) k n) (Settles (step slots 0 k k none) (Master m, []))
settles_at slots id k m le t kept _ at _ =
    let n : ℕ = room t kept in
    let r = master_rule t kept id m at in
    let all = covered n m kept.2 r in
    let bounded = r.bounded in
    let x : ℕ = either (n == k) k n in
    let e : x ≡ n = itself n k (n == k) refl in
    let w : MasterView = with_numbers (m.issued - k) (m.held - k) m in
    (Master w, keeps, tt, master_steps t kept id x m w at (renumbered n x m w kept.2 r (omega arith) (omega arith) refl), (refl, omega arith))

pub settles : (slots id k : ℕ) (me : Knows) (m : MasterView) → me ≡ (Master m, []) → k ≤ m.held → Allows Keeps slots id me 0 (λ n. either (n == k) k n) (Settles (step slots 0 k k none) me)
settles slots id k me m is le = subst (λ (m : Knows). Allows Keeps slots id m 0 (λ n. either (n == k) k n) (Settles (step slots 0 k k none) m)) (sym is) (settles_at slots id k m le)

-- call
calls_at : (slots id k : ℕ) (m : MasterView) → Allows Keeps slots id (Master m, []) 0 (λ n. either (n == k) k n) (Calls (step slots 0 k k none) (Master m, []))
calls_at slots id k m t kept _ at _ =
    let n : ℕ = room t kept in
    let r = master_rule t kept id m at in
    let x : ℕ = either (n == k) k n in
    let e : x ≡ n = itself n k (n == k) refl in
    let w : MasterView = record { issued = m.issued; held = m.held; out = m.out; next = k } in
    (Master w, keeps, tt, master_steps t kept id x m w at (renumbered n x m w kept.2 r (omega arith) r.bounded refl), refl)

pub calls : (slots id k : ℕ) (me : Knows) (m : MasterView) → me ≡ (Master m, []) → Allows Keeps slots id me 0 (λ n. either (n == k) k n) (Calls (step slots 0 k k none) me)
calls slots id k me m is = subst (λ (m : Knows). Allows Keeps slots id m 0 (λ n. either (n == k) k n) (Calls (step slots 0 k k none) m)) (sym is) (calls_at slots id k m)

-- weigh
weighs_at : (slots id : ℕ) (m : MasterView) → Allows Keeps slots id (Master m, []) 0 (λ n. n) (Weighs (step slots 0 0 0 none) (Master m, []))
weighs_at slots id m t kept _ at _ =
    let n : ℕ = room t kept in
    let r = master_rule t kept id m at in
    let all = covered n m kept.2 r in
    (Master m, keeps, tt, master_steps t kept id n m m at r, (refl, omega arith))

pub weighs : (slots id : ℕ) (me : Knows) (m : MasterView) → me ≡ (Master m, []) → Allows Keeps slots id me 0 (λ n. n) (Weighs (step slots 0 0 0 none) me)
weighs slots id me m is = subst (λ (m : Knows). Allows Keeps slots id m 0 (λ n. n) (Weighs (step slots 0 0 0 none) m)) (sym is) (weighs_at slots id m)

-- split
parts_at : (id : ℕ) (m : MasterView) → times_out m.next m.out ≡ 0 → Splits Keeps id (Master m) (with_seat_out (Master m)) (new_seat (Master m))
parts_at id m away t kept at =
    let r = master_rule t kept id m at in
    let w : SeatView = record { caller = m.next; held = 0; found = 0; count = 0; spent = false } in
    let n : MasterView = record { issued = m.issued; held = m.held; out = m.out ++ m.next ∷ []; next = m.next } in
    let room_same : IsKept kept.0 m kept.2 = subst (λ (k : ℕ). IsKept k m kept.2) (room_is t kept) r in (
      kept.0,
      n,
      kept.2 ++ w ∷ [],
      kept.3,
      ap (λ (vs : List View). set vs id (Master n) ++ Seat w ∷ []) kept.4
          ∙ (ap (λ (i : ℕ). set (Master kept.1 ∷ map Seat kept.2) i (Master n) ++ Seat w ∷ []) (master_at t kept id m at).0 ∙ ap (λ (vs : List View). Master n ∷ vs) (sym (map-append Seat kept.2 (w ∷ [])))),
      seat_added kept.0 m n kept.2 w room_same away refl refl refl refl refl,
    )

pub parts : (id : ℕ) (v : View) (m : MasterView) → v ≡ Master m → times_out m.next m.out ≡ 0 → Splits Keeps id v (with_seat_out v) (new_seat v)
parts id v m is away = subst (λ (x : View). Splits Keeps id x (with_seat_out x) (new_seat x)) (sym is) (parts_at id m away)

-- join
returns_at : (id : ℕ) (m : MasterView) (other : ℕ) (v : SeatView) → v.spent ≡ false → Joins Keeps id (Master m) other (Seat v) (with_seat_back (Master m) (Seat v)) spent_seat
returns_at id m other v live t kept at apart there =
    let r = master_rule t kept id m at in
    let w : SeatView = record { caller = 0; held = 0; found = 0; count = 0; spent = true } in
    let n : MasterView = record { issued = m.issued; held = m.held + v.held; out = without v.caller m.out; next = m.next } in
    let room_same : IsKept kept.0 m kept.2 = subst (λ (k : ℕ). IsKept k m kept.2) (room_is t kept) r in
    let views : set t.views id (Master n) ≡ Master n ∷ map Seat kept.2 =
    ap (λ (vs : List View). set vs id (Master n)) kept.4 ∙ ap (λ (i : ℕ). set (Master kept.1 ∷ map Seat kept.2) i (Master n)) (master_at t kept id m at).0 in
    let p = behind n kept.2 other v (subst (λ (vs : List View). get_elem? vs other ≡ some (Seat v)) views there) in
    let k = p.0 in (
      kept.0,
      n,
      set kept.2 k w,
      kept.3,
      ap (λ (vs : List View). set vs other (Seat w)) views
          ∙ (ap (λ (i : ℕ). set (Master n ∷ map Seat kept.2) i (Seat w)) p.1 ∙ ap (λ (vs : List View). Master n ∷ vs) (sym (map-set Seat kept.2 k w))),
      seat_spent kept.0 m n kept.2 k v w room_same p.2 live refl refl refl refl refl,
    )

pub returns : (id : ℕ) (u : View) (m : MasterView) (other : ℕ) (w : View) (v : SeatView) → u ≡ Master m → w ≡ Seat v → v.spent ≡ false → Joins Keeps id u other w (with_seat_back u w) spent_seat
returns id u m other w v is it live =
    subst (λ (x : View × View). Joins Keeps id x.0 other x.1 (with_seat_back x.0 x.1) spent_seat) (λ i. (sym is i, sym it i)) (returns_at id m other v live)
