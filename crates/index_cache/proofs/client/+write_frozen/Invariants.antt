use Rattle.std.proofs.Common.{length}
use Rattle.index_cache.proofs.client.+write_frozen.Given as goal

abbrev pub decreases-write_frozen : goal.decreases-write_frozen
decreases-write_frozen l = length l.places.now
