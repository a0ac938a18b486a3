use Rattle.std.proofs.Common.{◌≡◌, refl}
use Rattle.sound_image.specs.Wrong.{IsOneOf, Wrong}
use Rattle.image_check.specs.FirstLaws.{first_alone, first_of_both}
use Rattle.image_check.specs.WrongValues.{wrong_at}
use Rattle.image_check.proofs.laws.the_sooner_of_both_is_first.Goals as goal

pub returns-clause-both : goal.returns-clause-both
returns-clause-both c xs ys a b h k = first_of_both (λ (at : Wrong). IsOneOf at xs) (λ (at : Wrong). IsOneOf at ys) a b h k

pub returns-clause-alone : goal.returns-clause-alone
returns-clause-alone c x = first_alone (λ (at : Wrong). at ≡ wrong_at x) x refl (λ at e. e)
