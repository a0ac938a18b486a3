-- The later of the last masters of two LEBs.
use Rattle.std.proofs.Common.{ℕ, nat_lt, List, Option, Some, None, IfSome, IfNone, inl, inr}
use Rattle.std.proofs.lemmas.Bool.{cases_Bool, ltb-true, ltb-false}
use Rattle.small_areas.specs.Later.{IsReadOf, later_of}
use Rattle.small_areas.specs.Masters.{HasNoMaster, IsLatest}
use Rattle.small_areas.specs.declared.placed_master.PlacedMaster.{PlacedMaster}

pub later_found : (one two : List ℕ) (a b : Option PlacedMaster) → IsReadOf 1 one a → IsReadOf 2 two b → IfSome (later_of a b) (IsLatest one two)
later_found one two None None ha hb = tt
later_found one two None (Some b) ha hb = inr (hb.some.1, hb.some.0, inl ha.none)
later_found one two (Some a) None ha hb = inl (ha.some.1, ha.some.0, inl hb.none)
later_found one two (Some a) (Some b) ha hb = elim (cases_Bool (nat_lt a.sqnum b.sqnum)) [
  | inl e ↦ rw e (inr (hb.some.1, hb.some.0, inr (a, ha.some.0, ltb-true a.sqnum b.sqnum e)))
  | inr e ↦ rw e (inl (ha.some.1, ha.some.0, inr (b, hb.some.0, ltb-false a.sqnum b.sqnum e)))
]

pub later_none : (one two : List ℕ) (a b : Option PlacedMaster) → IsReadOf 1 one a → IsReadOf 2 two b → IfNone (later_of a b) (HasNoMaster one × HasNoMaster two)
later_none one two None None ha hb = (ha.none, hb.none)
later_none one two None (Some b) ha hb = tt
later_none one two (Some a) None ha hb = tt
later_none one two (Some a) (Some b) ha hb = elim (cases_Bool (nat_lt a.sqnum b.sqnum)) [
  | inl e ↦ rw e tt
  | inr e ↦ rw e tt
]
