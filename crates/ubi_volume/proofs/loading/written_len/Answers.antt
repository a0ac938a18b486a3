use Rattle.std.proofs.Common.{◌≡◌, ◌+◌, ◌-◌, length, arith}
use Rattle.ubi_volume.proofs.WrittenPart.{written_part}
use Rattle.ubi_volume.proofs.loading.written_len.Goals as goal

-- src/loading.rt:40:13
pub returns-then-bytes-last : goal.returns-then-bytes-last
returns-then-bytes-last c =
    let bytes = c.args.bytes.now in
    let n = length bytes in
    let erased = c.loop-erased.erased in
    let last = n - 1 - erased in
    let behind : n - erased ≡ last + 1 = omega arith in
    let rest : n - (n - erased) ≡ erased = omega arith in
    let other = c.if-bytes-last.true in
    written_part c.args.unit last bytes c.requires.unit (omega arith) (grind (arith, other)) (rw (← behind, rest) c.loop-erased.invariant)
