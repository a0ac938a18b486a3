use Rattle.std.proofs.Common.{◌≡◌, None, Some, sym, ◌∙◌}
use Rattle.media_sys.specs.declared.feature.Feature.{Feature}
use Rattle.leaf_check.proofs.CommittedLeaves.{some_at}
use Rattle.leaf_check.proofs.sound.has_unknown.Goals as goal

pub returns-in-Some-clause-yes : goal.returns-in-Some-clause-yes
returns-in-Some-clause-yes c = λ h known. known c.in-Some._what (some_at c.needed_feature.result c.in-Some._what _ c.in-Some.is c.needed_feature.ensures.some)

pub returns-in-None-clause-no : goal.returns-in-None-clause-no
returns-in-None-clause-no c = λ h what needs. none what (sym c.in-None.is ∙ c.needed_feature.ensures.only what needs)
  where
    none : (what : Feature) → None ≡ Some what → ⊥
    none what e = cc
