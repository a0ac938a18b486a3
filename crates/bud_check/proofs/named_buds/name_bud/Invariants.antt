use Rattle.std.proofs.Common.{◌≡◌, ◌++◌, length, take, drop}
use Rattle.bud_log.specs.Buds.{named_also}
use Rattle.bud_check.proofs.named_buds.name_bud.Given as goal

-- the buds so far are of other LEBs
abbrev pub invariant-loop-index : goal.invariant-loop-index
invariant-loop-index l = (l.buds ≡ l.fn.buds) × (l.index-end ≡ length l.fn.buds.items) × (named_also l.fn.buds.items l.node ≡ take l.index l.fn.buds.items ++ named_also (drop l.index l.fn.buds.items) l.node)
