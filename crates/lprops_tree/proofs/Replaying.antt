-- One candidate is put, and the nodes above it are played anew.
use Rattle.std.proofs.Common.{◌≡◌, ℕ, ◌+◌, ◌*◌, ◌/◌, ◌<◌, ◌≤◌, inl, inr, refl, sym, subst, ◌∙◌, List, length, set, arith}
use Rattle.std.proofs.lemmas.Bool.{cases_eq}
use Rattle.std.proofs.lemmas.List.{length-set, get_or-set_same, get_or-set_other}
use Rattle.lprops_tree.specs.declared.candidate.Candidate.{Candidate}
use Rattle.lprops_tree.specs.Tournament.{IsTournament, node, nobody, winner}

-- it is the winner of its children
pub record IsWon (nodes : List Candidate) (i : ℕ) : Type 0 where
  pub won : node nodes i ≡ winner (node nodes (2 * i)) (node nodes (2 * i + 1))

-- each node before the candidates is, but maybe the parent of this place
pub record IsWonBut (count place : ℕ) (nodes : List Candidate) : Type 0 where
  pub some : 0 < count
  pub halves : length nodes ≡ 2 * count
  pub low : 0 < place
  pub high : place < 2 * count
  pub won : (i : ℕ) → 0 < i → i < count → (i ≡ place / 2 → ⊥) → IsWon nodes i

-- a write elsewhere
apart : (nodes : List Candidate) (p i : ℕ) (one : Candidate) → (i ≡ p → ⊥) → (2 * i ≡ p → ⊥) → (2 * i + 1 ≡ p → ⊥) → IsWon nodes i → IsWon (set nodes p one) i
apart nodes p i one a b c h = record {
  won = rw (get_or-set_other nodes p i one nobody a, get_or-set_other nodes p (2 * i) one nobody b, get_or-set_other nodes p (2 * i + 1) one nobody c) h.won;
}

-- the winner of the children is written
here : (nodes : List Candidate) (p : ℕ) → 0 < p → p < length nodes → IsWon (set nodes p (winner (node nodes (2 * p)) (node nodes (2 * p + 1)))) p
here nodes p some h =
    let one : Candidate = winner (node nodes (2 * p)) (node nodes (2 * p + 1)) in
    record {
      won = rw (get_or-set_same nodes p one nobody h, get_or-set_other nodes p (2 * p) one nobody (λ e. omega arith), get_or-set_other nodes p (2 * p + 1) one nobody (λ e. omega arith)) refl;
    }

pub replay-begins : (count at : ℕ) (nodes : List Candidate) (one : Candidate) → IsTournament count nodes → at < count → IsWonBut count (count + at) (set nodes (count + at) one)
replay-begins count at nodes one h l = record {
  some = h.some;
  halves = length-set nodes (count + at) one ∙ h.halves;
  low = omega (arith, h.some);
  high = omega arith;
  won = λ i p q other. apart nodes (count + at) i one (λ e. omega arith) (λ e. other (omega arith)) (λ e. other (omega arith)) (record { won = h.won i p q });
}

pub replay-goes_on : (count place : ℕ) (nodes : List Candidate) → IsWonBut count place nodes → 1 < place →
    IsWonBut count (place / 2) (set nodes (place / 2) (winner (node nodes (2 * (place / 2))) (node nodes (2 * (place / 2) + 1))))
replay-goes_on count place nodes h more =
    let p : ℕ = place / 2 in
    let one : Candidate = winner (node nodes (2 * p)) (node nodes (2 * p + 1)) in
    let low : 0 < p = omega arith in
    let high : p < count = omega (arith, h.high) in
    record {
      some = h.some;
      halves = length-set nodes p one ∙ h.halves;
      low = low;
      high = omega arith;
      won = λ i some few other. elim (cases_eq i p) [
        | inl same ↦ let P : ℕ → Type 0 = λ v. IsWon (set nodes p one) v in subst P (sym same) (here nodes p low (omega (arith, h.halves)))
        | inr differs ↦ apart nodes p i one differs (λ e. other (omega arith)) (λ e. other (omega arith)) (h.won i some few differs)
      ];
    }

pub replay-ends : (count place : ℕ) (nodes : List Candidate) → IsWonBut count place nodes → place ≤ 1 → IsTournament count nodes
replay-ends count place nodes h last = record {
  some = h.some;
  halves = h.halves;
  won = λ i some few. (h.won i some few (λ e. omega arith)).won;
}
