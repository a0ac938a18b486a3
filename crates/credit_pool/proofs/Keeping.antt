-- The rule after a change of one seat, of the master, or of both.
use Rattle.std.proofs.Common.{◌≡◌, ℕ, ◌+◌, ◌*◌, ◌^◌, ◌<◌, ◌≤◌, ◌==◌, ◌&&◌, Bool, true, false, not, List, [], ◌∷◌, ◌++◌, length, set, ap, sym, ◌∙◌, subst, arith, eq-eqb, ne_eqb}
use Rattle.std.proofs.lemmas.List.Sums.{sum_by-cons, sum_by-append}
use Rattle.std.proofs.lemmas.List.Elements.{All-set, All-append, All-cons, All-nil}
use mathlib.Core.Option.{some}
use mathlib.Core.Logic.{dite}
use native.Mathlib.Decide.{ℕ_discrete}
use lib.ListN.{get_elem?}
use Rattle.credit_pool.specs.declared.view.SeatView.{SeatView}
use Rattle.credit_pool.specs.declared.view.MasterView.{MasterView}
use Rattle.credit_pool.specs.States.{without}
use Rattle.credit_pool.specs.Rule.{most_held, seats_of, times_out, IsKept}
use Rattle.credit_pool.proofs.Counting.{one, sum_there, held_bound, others_stay}

-- what the master holds and the room are together at most issued
pub covered : (room : ℕ) (m : MasterView) (seats : List SeatView) → IsKept room m seats → room + m.held ≤ m.issued
covered room m seats k = omega (arith, k.balanced)

-- without the room, at most what the master holds is issued, and 17 for each who is out
pub outstanding : (room : ℕ) (m : MasterView) (seats : List SeatView) → IsKept room m seats → m.issued ≤ room + m.held + 17 * length m.out
outstanding room m seats k = omega (arith, k.balanced, held_bound seats m.out k.capped k.seated)

-- a seat holds other credits, and the room makes up for it
pub reseated : (room new : ℕ) (m : MasterView) (seats : List SeatView) (k : ℕ) (v w : SeatView) → IsKept room m seats → get_elem? seats k ≡ some v
    → new + w.held ≡ room + v.held → w.held ≤ most_held w → w.spent ≡ v.spent → w.caller ≡ v.caller → IsKept new m (set seats k w)
reseated room new m seats k v w kept at sum cap live same =
    let f : ℕ → SeatView → ℕ = λ x s. one (not s.spent && s.caller == x) in
    let alike : (x : ℕ) → f x w ≡ f x v = λ x. ap (λ (z : Bool × ℕ). one (not z.0 && z.1 == x)) (λ i. (live i, same i)) in
    let h = sum_there (λ (s : SeatView). s.held) seats k v w at in
    let balanced = kept.balanced in
    record {
      balanced = omega arith;
      bounded = kept.bounded;
      capped = All-set (λ (s : SeatView). s.held ≤ most_held s) seats k w cap kept.capped;
      different = λ x. let t = sum_there (f x) seats k v w at in let a = alike x in let d = kept.different x in omega arith;
      seated = λ x. let t = sum_there (f x) seats k v w at in let a = alike x in let d = kept.seated x in omega arith;
    }

-- the master's numbers change, and the room makes up for it
pub renumbered : (room new : ℕ) (m n : MasterView) (seats : List SeatView) → IsKept room m seats → new + n.held + m.issued ≡ room + m.held + n.issued → n.issued < 2 ^ 63 → n.out ≡ m.out → IsKept new n seats
renumbered room new m n seats kept sum fits same =
    let balanced = kept.balanced in
    record {
      balanced = omega arith;
      bounded = fits;
      capped = kept.capped;
      different = kept.different;
      seated = λ x. subst (λ (out : List ℕ). seats_of x seats ≤ times_out x out) (sym same) (kept.seated x);
    }

-- a seat of one who isn't out is new
pub seat_added : (room : ℕ) (m n : MasterView) (seats : List SeatView) (w : SeatView) → IsKept room m seats → times_out w.caller m.out ≡ 0 → w.held ≡ 0 → w.spent ≡ false
    → n.issued ≡ m.issued → n.held ≡ m.held → n.out ≡ m.out ++ w.caller ∷ [] → IsKept room n (seats ++ w ∷ [])
seat_added room m n seats w kept away empty live issued held out =
    let f : ℕ → SeatView → ℕ = λ x s. one (not s.spent && s.caller == x) in
    let o : ℕ → ℕ → ℕ = λ x c. one (c == x) in
    let new : (x : ℕ) → f x w ≡ one (w.caller == x) = λ x. ap (λ (b : Bool). one (not b && w.caller == x)) live in
    let more : (x : ℕ) → seats_of x (seats ++ w ∷ []) ≡ seats_of x seats + one (w.caller == x) = λ x.
    let a = sum_by-append (f x) seats (w ∷ []) in let b = sum_by-cons (f x) w [] in let c = new x in omega arith in
    let later : (x : ℕ) → times_out x n.out ≡ times_out x m.out + one (w.caller == x) = λ x.
    let a = sum_by-append (o x) m.out (w.caller ∷ []) in let b = sum_by-cons (o x) w.caller [] in ap (times_out x) out ∙ omega arith in
    let a = sum_by-append (λ (s : SeatView). s.held) seats (w ∷ []) in
    let b = sum_by-cons (λ (s : SeatView). s.held) w [] in
    let balanced = kept.balanced in
    let bounded = kept.bounded in
    record {
      balanced = omega arith;
      bounded = omega arith;
      capped = All-append (λ (s : SeatView). s.held ≤ most_held s) seats (w ∷ []) kept.capped (All-cons (λ (s : SeatView). s.held ≤ most_held s) w [] (omega arith) (All-nil (λ (s : SeatView). s.held ≤ most_held s)));
      different = λ x. dite (ℕ_discrete w.caller x)
          (λ same. let c = more x in let d = kept.seated w.caller in let e : one (w.caller == x) ≡ 1 = ap one (eq-eqb w.caller x same) in
          let g : seats_of w.caller seats ≡ seats_of x seats = ap (λ (y : ℕ). seats_of y seats) same in omega arith)
          (λ other. let c = more x in let d = kept.different x in let e : one (w.caller == x) ≡ 0 = ap one (ne_eqb w.caller x other) in omega arith);
      seated = λ x. let c = more x in let d = kept.seated x in let e = later x in omega arith;
    }

-- a seat is spent, and the master takes its credits
pub seat_spent : (room : ℕ) (m n : MasterView) (seats : List SeatView) (k : ℕ) (v w : SeatView) → IsKept room m seats → get_elem? seats k ≡ some v → v.spent ≡ false
    → w.held ≡ 0 → w.spent ≡ true → n.issued ≡ m.issued → n.held ≡ m.held + v.held → n.out ≡ without v.caller m.out → IsKept room n (set seats k w)
seat_spent room m n seats k v w kept at live empty spent issued held out =
    let f : ℕ → SeatView → ℕ = λ x s. one (not s.spent && s.caller == x) in
    let old : (x : ℕ) → f x v ≡ one (v.caller == x) = λ x. ap (λ (b : Bool). one (not b && v.caller == x)) live in
    let new : (x : ℕ) → f x w ≡ 0 = λ x. ap (λ (b : Bool). one (not b && w.caller == x)) spent in
    let fewer : (x : ℕ) → seats_of x (set seats k w) + one (v.caller == x) ≡ seats_of x seats = λ x.
    let t = sum_there (f x) seats k v w at in let a = old x in let b = new x in omega arith in
    let h = sum_there (λ (s : SeatView). s.held) seats k v w at in
    let balanced = kept.balanced in
    let bounded = kept.bounded in
    let cap : w.held ≤ most_held w = omega arith in
    record {
      balanced = omega arith;
      bounded = omega arith;
      capped = All-set (λ (s : SeatView). s.held ≤ most_held s) seats k w cap kept.capped;
      different = λ x. let a = fewer x in let d = kept.different x in omega arith;
      seated = λ x. dite (ℕ_discrete v.caller x)
          (λ same. let a = fewer x in let d = kept.different x in let e : one (v.caller == x) ≡ 1 = ap one (eq-eqb v.caller x same) in omega arith)
          (λ other. let a = fewer x in let d = kept.seated x in let e : one (v.caller == x) ≡ 0 = ap one (ne_eqb v.caller x other) in
          let u = others_stay v.caller x m.out (λ is. other (sym is)) in
          let z = ap (times_out x) out in omega arith);
    }
