-- Writes that are cut off, one behind another in a LEB.
use Rattle.std.specs.Prelude.{◌≡◌, ℕ, ◌+◌, ◌≤◌, List, ◌++◌, length, take, drop}
use Rattle.std.proofs.Common.{inr, ap, sym, subst, ◌∙◌, arith, length-append, length-take, length-drop, append_assoc}
use Rattle.std.proofs.Math.Seq.{take-append_seam, drop-append_seam}
use Rattle.std.proofs.lemmas.List.{drop-drop, take-take}
use Rattle.ubi_volume.specs.Volume.{put, Torn, IsTornInUnits}

front_len : (offs : ℕ) (bytes old : List ℕ) → offs + length bytes ≤ length old → length (take offs old) ≡ offs
front_len offs bytes old fits = rw length-take (omega (arith, fits))

both_len : (offs : ℕ) (bytes old : List ℕ) → offs + length bytes ≤ length old → length (take offs old ++ bytes) ≡ offs + length bytes
both_len offs bytes old fits = rw length-append (ap (λ n. n + length bytes) (front_len offs bytes old fits))

-- what is written is one of the outcomes of a write under way
pub Torn-put : (offs : ℕ) (bytes old : List ℕ) → offs + length bytes ≤ length old → Torn offs (length bytes) old (put offs bytes old)
Torn-put offs bytes old fits = record {
  front = ap (take offs) (append_assoc (take offs old) bytes (drop (offs + length bytes) old)) ∙ ap (λ n. take n (take offs old ++ (bytes ++ drop (offs + length bytes) old))) (sym (front_len offs bytes old fits)) ∙ take-append_seam (take offs old) (bytes ++ drop (offs + length bytes) old);
  back = ap (λ n. drop n (take offs old ++ bytes ++ drop (offs + length bytes) old)) (sym (both_len offs bytes old fits)) ∙ drop-append_seam (take offs old ++ bytes) (drop (offs + length bytes) old);
  len = rw (length-append, length-append, length-take, length-drop) (omega (arith, fits));
}

-- in front of the end of bytes that are put stands what stood in front of them, and the bytes
pub take-put : (offs : ℕ) (bytes old : List ℕ) → offs + length bytes ≤ length old → take (offs + length bytes) (put offs bytes old) ≡ take offs old ++ bytes
take-put offs bytes old fits =
    ap (λ n. take n (take offs old ++ bytes ++ drop (offs + length bytes) old)) (sym (both_len offs bytes old fits)) ∙ take-append_seam (take offs old ++ bytes) (drop (offs + length bytes) old)

-- a write of which nothing is seen
pub Torn-none : (offs n : ℕ) (old new : List ℕ) → new ≡ old → Torn offs n old new
Torn-none offs n old new same = record { front = ap (take offs) same; back = ap (drop (offs + n)) same; len = ap length same }

-- a write under way, behind one that may be torn
pub Torn-then : (offs n m : ℕ) (a b c : List ℕ) → Torn offs n a b → Torn (offs + n) m b c → Torn offs (n + m) a c
Torn-then offs n m a b c ab bc =
    let less : offs ≤ offs + n = omega arith in
    let e : offs + n + m ≡ offs + (n + m) = omega arith in
    let P : ℕ → Type 0 = λ k. drop k c ≡ drop k a in
    record {
      front = sym (take-take offs (offs + n) c less) ∙ ap (take offs) bc.front ∙ take-take offs (offs + n) b less ∙ ab.front;
      back = subst P e (bc.back ∙ sym (drop-drop m (offs + n) b) ∙ ap (drop m) ab.back ∙ drop-drop m (offs + n) a);
      len = bc.len ∙ ab.len;
    }

unit_len : (unit k : ℕ) (a b : List ℕ) → length a ≡ length b → length (take unit (drop k a)) ≡ length (take unit (drop k b))
unit_len unit k a b same = simp (length-take, length-drop) (omega (arith, same))

-- Unit by unit it says the same, whatever the unit and the bytes,
pub Torn-units : (unit offs : ℕ) (bytes old new : List ℕ) → Torn offs (length bytes) old new → IsTornInUnits unit offs bytes old new
Torn-units unit offs bytes old new torn = record {
  front = torn.front;
  back = torn.back;
  len = torn.len;
  units = λ k behind inside at_unit. inr (inr (unit_len unit k new old torn.len));
}

-- and the other way.
pub units-Torn : (unit offs : ℕ) (bytes old new : List ℕ) → IsTornInUnits unit offs bytes old new → Torn offs (length bytes) old new
units-Torn unit offs bytes old new torn = record { front = torn.front; back = torn.back; len = torn.len }
