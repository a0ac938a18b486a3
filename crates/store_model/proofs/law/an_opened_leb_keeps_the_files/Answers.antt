use Rattle.store_model.proofs.Opens.{opened_numbers}
use Rattle.store_model.proofs.Views.{open_views}
use Rattle.store_model.proofs.law.an_opened_leb_keeps_the_files.Goals as goal

pub returns-clause-numbers : goal.returns-clause-numbers
returns-clause-numbers c = λ m head lnum can has. opened_numbers m head lnum has

pub returns-clause-views : goal.returns-clause-views
returns-clause-views c = λ m head lnum can has. open_views m head lnum has
