use Rattle.std.proofs.Common.{arith}
use Rattle.media_lpt.proofs.PackingLemmas.{fits_29}
use Rattle.media_lpt.proofs.lprop.Lprop.get.Goals as goal

pub overflow_mul-result : goal.overflow_mul-result
overflow_mul-result c = let h = fits_29 c.get-free.result c.space-width.result c.get-free.ensures.small c.space-width.ensures.small in omega (arith, h)

pub overflow_mul-result-2 : goal.overflow_mul-result-2
overflow_mul-result-2 c = let h = fits_29 c.get-dirty.result c.space-width.result c.get-dirty.ensures.small c.space-width.ensures.small in omega (arith, h)
