use Rattle.laid_index.proofs.laying.lay_index.Goals as goal

pub returns-clause-others : goal.returns-clause-others
returns-clause-others g c = c.lay_leaves.ensures.answer.others

pub returns-clause-shape : goal.returns-clause-shape
returns-clause-shape g c = c.lay_leaves.ensures.answer.shape

pub returns-clause-cause : goal.returns-clause-cause
returns-clause-cause g c = c.lay_leaves.ensures.answer.cause

pub returns-clause-sure : goal.returns-clause-sure
returns-clause-sure g c = c.lay_leaves.ensures.answer.sure

pub returns-clause-laid : goal.returns-clause-laid
returns-clause-laid g c = c.lay_leaves.ensures.laid
