-- Nodes of one LEB are let go, and those of others stay.
use Rattle.std.proofs.Common.{◌≡◌, ℕ, ◌<◌, true, List, [], ◌∷◌, length, refl, sym, ap, ◌∙◌, subst, arith, inl, inr}
use Rattle.std.specs.Prelude.{◌≢◌, ◌==◌, None, Some, Contains}
use Rattle.std.specs.Map.{remove_entry}
use Rattle.std.proofs.lemmas.Bool.{cases_Bool, eqb-true}
use Rattle.std.proofs.lemmas.Bool.Decides.{nat_tests}
use Rattle.lru.specs.LruCache.{LruCache, lru_cache}
use Rattle.lru.proofs.Splits.{Contains-cons, Contains-head, Contains-tail}
use Rattle.media_sys.specs.declared.idx_node.IdxNode.{IdxNode}
use Rattle.node_cache.specs.Kept.{beside_leb, kept_in}
use Rattle.node_cache.proofs.KeptNodes.{AreKeptIn, is_place, same_place, kept_beside}

-- ---- a place in the LEB, and what is left without it
place_in_leb : (lnum : ℕ) (entries : List ((ℕ × ℕ × ℕ) × IdxNode)) (place : ℕ × ℕ × ℕ) → kept_in lnum entries ≡ Some place → place.0 ≡ lnum
place_in_leb lnum [] place h = absurd cc
place_in_leb lnum (entry ∷ entries) place h = elim (cases_Bool (entry.0.0 == lnum)) [
  | inl e ↦
      let found = rw e at h in
      let same : entry.0 ≡ place = cc in
      ap (λ (p : ℕ × ℕ × ℕ). p.0) (sym same) ∙ eqb-true entry.0.0 lnum e
  | inr e ↦ place_in_leb lnum entries place (rw e at h)
]

own_place : (place : ℕ × ℕ × ℕ) → is_place place place ≡ true
own_place place = grind (arith, nat_tests)

pub fewer_without : (lnum : ℕ) (entries : List ((ℕ × ℕ × ℕ) × IdxNode)) (place : ℕ × ℕ × ℕ) → kept_in lnum entries ≡ Some place → length (remove_entry (is_place place) entries) < length entries
fewer_without lnum [] place h = absurd cc
fewer_without lnum (entry ∷ entries) place h = elim (cases_Bool (is_place place entry.0)) [
  | inl same ↦ rw same (omega arith)
  | inr other ↦ elim (cases_Bool (entry.0.0 == lnum)) [
    | inl e ↦
        let found = rw e at h in
        let same : entry.0 ≡ place = cc in
        let own = own_place entry.0 in
        absurd cc
    | inr e ↦ let fewer = fewer_without lnum entries place (rw e at h) in rw other (omega (arith, fewer))
  ]
]

beside_without : (lnum : ℕ) (entries : List ((ℕ × ℕ × ℕ) × IdxNode)) (place : ℕ × ℕ × ℕ) → place.0 ≡ lnum → beside_leb lnum (remove_entry (is_place place) entries) ≡ beside_leb lnum entries
beside_without lnum [] place h = refl
beside_without lnum (entry ∷ entries) place h = elim (cases_Bool (is_place place entry.0)) [
  | inl same ↦
      let first = ap (λ (p : ℕ × ℕ × ℕ). p.0) (same_place place entry.0 same) in
      let own : (entry.0.0 == lnum) ≡ true = grind (arith, nat_tests, first, h) in
      rw same (rw own refl)
  | inr other ↦ elim (cases_Bool (entry.0.0 == lnum)) [
    | inl e ↦ rw other (rw e (beside_without lnum entries place h))
    | inr e ↦ rw other (rw e (ap (λ (v : List ((ℕ × ℕ × ℕ) × IdxNode)). entry ∷ v) (beside_without lnum entries place h)))
  ]
]

pub still_beside : (lnum : ℕ) (entries : List ((ℕ × ℕ × ℕ) × IdxNode)) (place : ℕ × ℕ × ℕ) → kept_in lnum entries ≡ Some place
    → beside_leb lnum (remove_entry (is_place place) entries) ≡ beside_leb lnum entries
still_beside lnum entries place h = beside_without lnum entries place (place_in_leb lnum entries place h)

pub all_beside : (lnum : ℕ) (entries : List ((ℕ × ℕ × ℕ) × IdxNode)) → kept_in lnum entries ≡ None → beside_leb lnum entries ≡ entries
all_beside lnum [] h = refl
all_beside lnum (entry ∷ entries) h = elim (cases_Bool (entry.0.0 == lnum)) [
  | inl e ↦ let found = rw e at h in absurd cc
  | inr e ↦ rw e (ap (λ (v : List ((ℕ × ℕ × ℕ) × IdxNode)). entry ∷ v) (all_beside lnum entries (rw e at h)))
]

-- ---- what is kept still, whatever the LEB holds then
was_beside : (lnum : ℕ) (entries : List ((ℕ × ℕ × ℕ) × IdxNode)) (place : ℕ × ℕ × ℕ) (node : IdxNode) → Contains (beside_leb lnum entries) (place, node)
    → Contains entries (place, node) × (place.0 ≢ lnum)
was_beside lnum [] place node c = let within = c.1 in absurd (omega (arith, within))
was_beside lnum (entry ∷ entries) place node c = elim (cases_Bool (entry.0.0 == lnum)) [
  | inl e ↦
      let more = was_beside lnum entries place node (rw e at c) in
      (Contains-tail entry entries (place, node) more.0, more.1)
  | inr e ↦ elim (Contains-cons entry (beside_leb lnum entries) (place, node) (rw e at c)) [
    | inl same ↦
        let P : (ℕ × ℕ × ℕ) × IdxNode → Type 0 = λ x. Contains (entry ∷ entries) x in
        let first = ap (λ (x : (ℕ × ℕ × ℕ) × IdxNode). x.0.0) same in
        (subst P same (Contains-head entry entries), λ own. absurd (grind (arith, nat_tests, first, own, e)))
    | inr d ↦
        let more = was_beside lnum entries place node d in
        (Contains-tail entry entries (place, node) more.0, more.1)
  ]
]

pub kept_without_leb : (lnum : ℕ) (old new : ℕ → List ℕ) (before after : LruCache (ℕ × ℕ × ℕ) IdxNode) → after.entries ≡ beside_leb lnum before.entries
    → ((k : ℕ) → k ≢ lnum → new k ≡ old k) → AreKeptIn old before → AreKeptIn new after
kept_without_leb lnum old new before after is same kept =
    let P : List ((ℕ × ℕ × ℕ) × IdxNode) → Type 0 = λ v. AreKeptIn new (lru_cache v 0) in
    let left : LruCache (ℕ × ℕ × ℕ) IdxNode = lru_cache (beside_leb lnum before.entries) 0 in
    subst P (sym is)
    (kept_beside old new left (λ place node c. same place.0 (was_beside lnum before.entries place node c).1) (λ place node c. kept place node (was_beside lnum before.entries place node c).0))
