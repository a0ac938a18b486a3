use Rattle.store_model.proofs.AllViews.{each_views}
use Rattle.store_model.proofs.texts.leaves_are_of_the_views.Goals as goal

pub returns : goal.returns
returns c = each_views
