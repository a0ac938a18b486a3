-- The order of the rules.
use Rattle.std.proofs.Common.{◌≡◌, ◌≤◌, ℕ, suc, List, inl, inr, refl, subst, arith}
use Rattle.std.proofs.lemmas.Bool.{cases_lt}
use Rattle.sound_image.specs.Image.{Image}
use Rattle.sound_image.specs.Rules.{MeetsRule, MeetsBefore, rule_number}
use Rattle.sound_image.specs.declared.rule.Rule.{Rule}
use Rattle.sound_image.specs.declared.rule.Rule.TheVariants as rules

-- rules of one number are one
one_rule : (a b : Rule) → rule_number a ≡ rule_number b → a ≡ b
one_rule rules.Superblock rules.Superblock e = refl
one_rule rules.Masters rules.Masters e = refl
one_rule rules.Properties rules.Properties e = refl
one_rule rules.Index rules.Index e = refl
one_rule rules.Log rules.Log e = refl
one_rule rules.Buds rules.Buds e = refl
one_rule rules.Leaves rules.Leaves e = refl
one_rule rules.Sums rules.Sums e = refl
one_rule rules.Ends rules.Ends e = refl
one_rule rules.Orphans rules.Orphans e = refl
one_rule rules.Tree rules.Tree e = refl
one_rule rules.Links rules.Links e = refl
one_rule a b e = absurd (omega (arith, e))

-- a rule that is met is before the next one, as those before it
pub meets_next : (contents : ℕ → List ℕ) (image : Image) (rule next : Rule) → rule_number next ≡ suc (rule_number rule) → MeetsBefore contents image rule → MeetsRule contents image rule → MeetsBefore contents image next
meets_next contents image rule next behind before here = λ other less. elim (cases_lt (rule_number other) (rule_number rule)) [
  | inl lower ↦ before other lower
  | inr higher ↦ subst (MeetsRule contents image) (one_rule rule other (omega (arith, less, higher, behind))) here
]

-- none is before the first
pub meets_start : (contents : ℕ → List ℕ) (image : Image) → MeetsBefore contents image rules.Superblock
meets_start contents image = λ other less. absurd (let low = from_one other in omega (arith, less, low))
  where
    from_one : (rule : Rule) → 1 ≤ rule_number rule
    from_one rules.Superblock = omega arith
    from_one rule = omega arith
