use Rattle.std.proofs.Common.{◌≡◌, ◌-◌, length, drop, replicate}
use Rattle.ubi_volume.proofs.loading.written_len.Given as goal

-- the bytes passed are erased
abbrev pub invariant-loop-erased : goal.invariant-loop-erased
invariant-loop-erased l = drop (length l.bytes - l.erased) l.bytes ≡ replicate l.erased 255
