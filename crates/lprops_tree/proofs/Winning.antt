-- The first node has won against all.
use Rattle.std.proofs.Common.{◌≡◌, ℕ, zero, suc, ◌+◌, ◌-◌, ◌*◌, ◌/◌, ◌<◌, ◌≤◌, ◌⊎◌, inl, inr, refl, sym, subst, ap, ◌∙◌, List, length, drop, arith}
use Rattle.std.specs.Prelude.{nat_le}
use Rattle.std.proofs.lemmas.Bool.{cases_lt, cases_eq, cases_Bool, leb-true, leb-false, cond-true, cond-false}
use Rattle.std.proofs.lemmas.List.{length-drop, get_or-drop}
use Rattle.lprops_tree.specs.declared.candidate.Candidate.{Candidate}
use Rattle.lprops_tree.specs.Tournament.{IsTournament, IsWinner, node, nobody, rank, winner}

-- the winner is one of the two, and neither has a lower rank
record IsBetter (a b one : Candidate) : Type 0 where
  among : (one ≡ a) ⊎ (one ≡ b)
  first : rank one ≤ rank a
  second : rank one ≤ rank b

better : (a b : Candidate) → IsBetter a b (winner a b)
better a b = elim (cases_Bool (nat_le (rank a) (rank b))) [
  | inl low ↦ let P : Candidate → Type 0 = λ v. IsBetter a b v in
      subst P (sym (cond-true (nat_le (rank a) (rank b)) a b low)) (record { among = inl refl; first = omega arith; second = leb-true (rank a) (rank b) low })
  | inr high ↦ let P : Candidate → Type 0 = λ v. IsBetter a b v in
      subst P (sym (cond-false (nat_le (rank a) (rank b)) a b high)) (record { among = inr refl; first = omega (arith, leb-false (rank a) (rank b) high); second = omega arith })
]

-- a node is one of the candidates
comes_from : (count : ℕ) (nodes : List Candidate) → IsTournament count nodes → (left i : ℕ) → 2 * count ≤ i + left → 0 < i → i < 2 * count →
    (k : ℕ) × (k < count) × (node nodes (count + k) ≡ node nodes i)
comes_from count nodes h zero i far some few = absurd (omega arith)
comes_from count nodes h (suc left) i far some few = elim (cases_lt i count) [
  | inl inner ↦ by (better (node nodes (2 * i)) (node nodes (2 * i + 1))).among inner
      (comes_from count nodes h left (2 * i) (omega arith) (omega arith) (omega arith))
      (comes_from count nodes h left (2 * i + 1) (omega arith) (omega arith) (omega arith))
  | inr last ↦ (i - count, omega arith, ap (node nodes) (omega arith))
]
  where
    by : (winner (node nodes (2 * i)) (node nodes (2 * i + 1)) ≡ node nodes (2 * i)) ⊎ (winner (node nodes (2 * i)) (node nodes (2 * i + 1)) ≡ node nodes (2 * i + 1)) → i < count →
        ((k : ℕ) × (k < count) × (node nodes (count + k) ≡ node nodes (2 * i))) →
        ((k : ℕ) × (k < count) × (node nodes (count + k) ≡ node nodes (2 * i + 1))) →
        (k : ℕ) × (k < count) × (node nodes (count + k) ≡ node nodes i)
    by (inl a) inner l r = (l.0, l.1, l.2 ∙ sym (h.won i some inner ∙ a))
    by (inr b) inner l r = (r.0, r.1, r.2 ∙ sym (h.won i some inner ∙ b))

-- no node has a lower rank than the first
leads : (count : ℕ) (nodes : List Candidate) → IsTournament count nodes → (most i : ℕ) → i ≤ most → 0 < i → i < 2 * count → rank (node nodes 1) ≤ rank (node nodes i)
leads count nodes h zero i near some few = absurd (omega arith)
leads count nodes h (suc most) i near some few = elim (cases_lt 1 i) [
  | inl more ↦ omega (arith, leads count nodes h most (i / 2) (omega arith) (omega arith) (omega arith), parent more)
  | inr last ↦ let one : i ≡ 1 = omega arith in let P : ℕ → Type 0 = λ v. rank (node nodes 1) ≤ rank (node nodes v) in subst P (sym one) (omega arith)
]
  where
    parent : 1 < i → rank (node nodes (i / 2)) ≤ rank (node nodes i)
    parent more =
        let p : ℕ = i / 2 in
        let b : IsBetter (node nodes (2 * p)) (node nodes (2 * p + 1)) (winner (node nodes (2 * p)) (node nodes (2 * p + 1))) = better (node nodes (2 * p)) (node nodes (2 * p + 1)) in
        let won : node nodes p ≡ winner (node nodes (2 * p)) (node nodes (2 * p + 1)) = h.won p (omega arith) (omega arith) in
        let P : Candidate → Type 0 = λ v. rank v ≤ rank (node nodes i) in
        subst P (sym won) (elim (cases_eq i (2 * p)) [
          | inl even ↦ let Q : ℕ → Type 0 = λ v. rank (winner (node nodes (2 * p)) (node nodes (2 * p + 1))) ≤ rank (node nodes v) in subst Q (sym even) b.first
          | inr odd ↦ let e : i ≡ 2 * p + 1 = omega arith in let Q : ℕ → Type 0 = λ v. rank (winner (node nodes (2 * p)) (node nodes (2 * p + 1))) ≤ rank (node nodes v) in subst Q (sym e) b.second
        ])

pub first_wins : (count : ℕ) (nodes : List Candidate) → IsTournament count nodes → IsWinner (drop count nodes) (node nodes 1)
first_wins count nodes h = record { among = one; lowest = low }
  where
    long : length (drop count nodes) ≡ count
    long = let a = length-drop count nodes in omega (arith, h.halves)

    one : (k : ℕ) × (k < length (drop count nodes)) × (node (drop count nodes) k ≡ node nodes 1)
    one =
        let from = comes_from count nodes h (2 * count) 1 (omega arith) (omega arith) (omega (arith, h.some)) in
        (from.0, omega (arith, long, from.1), get_or-drop count nodes from.0 nobody ∙ from.2)

    low : (k : ℕ) → k < length (drop count nodes) → rank (node nodes 1) ≤ rank (node (drop count nodes) k)
    low k few =
        let P : Candidate → Type 0 = λ v. rank (node nodes 1) ≤ rank v in
        subst P (sym (get_or-drop count nodes k nobody)) (leads count nodes h (2 * count) (count + k) (omega (arith, long)) (omega (arith, h.some)) (omega (arith, long)))
