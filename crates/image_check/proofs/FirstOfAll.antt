-- A breach of a rule is the first if all rules before it are met.
use Rattle.std.proofs.Common.{ℕ, List, sym, subst, inl, inr}
use Rattle.sound_image.specs.Breaches.{IsBroken, IsFirstBreach}
use Rattle.sound_image.specs.Image.{Image}
use Rattle.sound_image.specs.Rules.{MeetsBefore}
use Rattle.sound_image.specs.Wrong.{differs}
use Rattle.sound_image.specs.declared.breach.Breach.{Breach}
use Rattle.sound_image.specs.declared.breach.Breach.TheVariants.{Super as InSuper, Feature as NeedsOne, NoMaster, Damaged}
use Rattle.sound_image.specs.declared.rule.Rule.{Rule}
use Rattle.sound_image.specs.declared.rule.Rule.TheVariants as rules
use Rattle.image_check.specs.Told.{IsBreachOf}

pub first_of_all : (contents : ℕ → List ℕ) (image : Image) (rule : Rule) (breach : Breach) → MeetsBefore contents image rule → IsBreachOf rule (IsBroken contents image rule) breach → IsFirstBreach contents breach
first_of_all contents image rule (Damaged broken lnum offs wanted found) before (same, is) =
    let P : Rule → Type 0 = λ r. (other : Image) × MeetsBefore contents other r × IsBroken contents other r (record { lnum = lnum; offs = offs; misfit = differs wanted found }) in
    subst P (sym same) (image, before, is)
first_of_all contents image rule (InSuper field) before is = absurd is
first_of_all contents image rules.Buds (NeedsOne what lnum offs) before (told, is) = inr (inl (image, before, is))
first_of_all contents image rules.Leaves (NeedsOne what lnum offs) before (told, is) = inr (inr (image, before, is))
first_of_all contents image rules.Superblock (NeedsOne what lnum offs) before (told, is) = absurd cc
first_of_all contents image rules.Masters (NeedsOne what lnum offs) before (told, is) = absurd cc
first_of_all contents image rules.Properties (NeedsOne what lnum offs) before (told, is) = absurd cc
first_of_all contents image rules.Index (NeedsOne what lnum offs) before (told, is) = absurd cc
first_of_all contents image rules.Log (NeedsOne what lnum offs) before (told, is) = absurd cc
first_of_all contents image rules.Sums (NeedsOne what lnum offs) before (told, is) = absurd cc
first_of_all contents image rules.Ends (NeedsOne what lnum offs) before (told, is) = absurd cc
first_of_all contents image rules.Orphans (NeedsOne what lnum offs) before (told, is) = absurd cc
first_of_all contents image rules.Tree (NeedsOne what lnum offs) before (told, is) = absurd cc
first_of_all contents image rules.Links (NeedsOne what lnum offs) before (told, is) = absurd cc
first_of_all contents image rule NoMaster before is = absurd is
