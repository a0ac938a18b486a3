-- A walk from place to place drops what is ended between two.
use Rattle.std.proofs.Common.{◌≡◌, ◌<◌, ◌≤◌, ◌+◌, ◌&&◌, ℕ, Bool, true, false, cond, List, [], refl, sym, ap, ◌∙◌, arith, inl, inr}
use Rattle.std.specs.Prelude.{nat_le, nat_lt}
use Rattle.std.specs.BTreeMap.{is_at}
use Rattle.std.specs.Ordering.{nat_cmp}
use Rattle.std.proofs.lemmas.Bool.{cases_lt, false≢true, le-leb, le-ltb, lt-leb, lt-ltb}
use Rattle.journal_scan.specs.declared.node_content.NodeContent.{NodeContent}
use Rattle.leaf_recovery.specs.declared.recovered_leaf.RecoveredLeaf.{RecoveredLeaf}
use Rattle.leaf_recovery.specs.Applied.{without_ended}
use Rattle.leaf_recovery.specs.Ranked.{is_between}
use Rattle.leaf_recovery.proofs.Ranking.{at_place, same_place}

module _ (content : NodeContent) (first past : ℕ) (old : ℕ → List RecoveredLeaf) where
  -- what is left after all places before one
  abbrev pub left_at : ℕ → ℕ → List RecoveredLeaf
  left_at at r = cond (is_between first past r && nat_lt r at) (without_ended content (old r)) (old r)

  none_stays : (t : Bool) (leaves : List RecoveredLeaf) → leaves ≡ [] → cond t (without_ended content leaves) leaves ≡ []
  none_stays true leaves e = rw e refl
  none_stays false leaves e = e

  and_false : (b : Bool) → (b && false) ≡ false
  and_false true = refl
  and_false false = refl

  and_true : (b : Bool) → (b && true) ≡ b
  and_true true = refl
  and_true false = refl

  past_at : (at r : ℕ) → at ≤ r → left_at at r ≡ old r
  past_at at r le = ap (λ (t : Bool). cond (is_between first past r && t) (without_ended content (old r)) (old r)) (le-ltb r at le) ∙ ap (λ (t : Bool). cond t (without_ended content (old r)) (old r)) (and_false (is_between first past r))

  before_at : (at r : ℕ) → r < at → left_at at r ≡ cond (is_between first past r) (without_ended content (old r)) (old r)
  before_at at r l = ap (λ (t : Bool). cond (is_between first past r && t) (without_ended content (old r)) (old r)) (lt-ltb r at l) ∙ ap (λ (t : Bool). cond t (without_ended content (old r)) (old r)) (and_true (is_between first past r))

  pub walk_on : (at rank : ℕ) (now new : ℕ → List RecoveredLeaf) → first ≤ at → at ≤ rank → rank < past → ((r : ℕ) → now r ≡ left_at at r) → ((r : ℕ) → at ≤ r → r < past → r < rank → now r ≡ [])
      → ((r : ℕ) → new r ≡ cond (is_at (nat_cmp rank) r) (without_ended content (now r)) (now r)) → (r : ℕ) → new r ≡ left_at (rank + 1) r
  walk_on at rank now new f a p before none step r = by (is_at (nat_cmp rank) r) refl
    where
      by : (t : Bool) → is_at (nat_cmp rank) r ≡ t → new r ≡ left_at (rank + 1) r
      by true e =
          let same = same_place rank r e in
          let n : new r ≡ without_ended content (now r) = step r ∙ ap (λ (t : Bool). cond t (without_ended content (now r)) (now r)) e in
          let o : now r ≡ old r = before r ∙ past_at at r (omega (arith, same, a)) in
          let b : is_between first past r ≡ true = rw (le-leb first r (omega (arith, same, f, a)), lt-ltb r past (omega (arith, same, p))) refl in
          n ∙ ap (without_ended content) o ∙ sym (before_at (rank + 1) r (omega (arith, same)) ∙ ap (λ (t : Bool). cond t (without_ended content (old r)) (old r)) b)
      by false e = n ∙ elim (cases_lt r at) [
        | inl l ↦ before r ∙ before_at at r l ∙ sym (before_at (rank + 1) r (omega (arith, l, a)))
        | inr l ↦ elim (cases_lt r rank) [
          | inl k ↦ let gone = none r l (omega (arith, k, p)) k in gone ∙ sym (before_at (rank + 1) r (omega (arith, k)) ∙ none_stays (is_between first past r) (old r) (sym (before r ∙ past_at at r l) ∙ gone))
          | inr k ↦ before r ∙ past_at at r l ∙ sym (past_at (rank + 1) r (beyond k))
        ]
      ]
        where
          n : new r ≡ now r
          n = step r ∙ ap (λ (t : Bool). cond t (without_ended content (now r)) (now r)) e

          beyond : rank ≤ r → rank + 1 ≤ r
          beyond k = elim (cases_lt rank r) [
            | inl m ↦ omega (arith, m)
            | inr m ↦ absurd (false≢true (sym e ∙ at_here m k))
          ]
            where
              at_here : r ≤ rank → rank ≤ r → is_at (nat_cmp rank) r ≡ true
              at_here m k = at_place rank r (omega (arith, m, k))

  pub walk_end : (at : ℕ) (now : ℕ → List RecoveredLeaf) → ((r : ℕ) → now r ≡ left_at at r) → ((r : ℕ) → at ≤ r → r < past → now r ≡ []) → (r : ℕ) → now r ≡ cond (is_between first past r) (without_ended content (old r)) (old r)
  walk_end at now before none r = elim (cases_lt r at) [
    | inl l ↦ before r ∙ before_at at r l
    | inr l ↦ elim (cases_lt r past) [
      | inl k ↦ let gone = none r l k in gone ∙ sym (none_stays (is_between first past r) (old r) (sym (before r ∙ past_at at r l) ∙ gone))
      | inr k ↦ before r ∙ past_at at r l ∙ sym (ap (λ (t : Bool). cond t (without_ended content (old r)) (old r)) (ap (λ (t : Bool). nat_le first r && t) (le-ltb r past k) ∙ and_false (nat_le first r)))
    ]
  ]

  pub walk_starts : (r : ℕ) → old r ≡ left_at first r
  walk_starts r = elim (cases_lt r first) [
    | inl l ↦ sym (before_at first r l ∙ ap (λ (t : Bool). cond (t && nat_lt r past) (without_ended content (old r)) (old r)) (lt-leb first r l))
    | inr l ↦ sym (past_at first r l)
  ]
