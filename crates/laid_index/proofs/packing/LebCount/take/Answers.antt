use Rattle.std.proofs.Common.{◌+◌, ◌<◌, ℕ, List, [], length, ap, sym, arith}
use Rattle.laid_index.proofs.Packs.{packed_fits, packed_over}
use Rattle.laid_index.proofs.packing.LebCount.take.Goals as goal

pub overflow_add-self-else-self-len : goal.overflow_add-self-else-self-len
overflow_add-self-else-self-len c =
    let size = c.args.geometry.now.leb_size in
    let taken = c.args.self.now.taken in
    let over : size < taken + c.args.len = omega arith in
    let e = ap length (packed_over size taken c.args.len [] over) in
    let room = c.requires.room in
    omega (arith, room, e)

pub returns-then-self-len-clause-after : goal.returns-then-self-len-clause-after
returns-then-self-len-clause-after c = λ lens.
    ap (λ (l : List ℕ). c.args.self.now.lebs + length l) (sym (packed_fits c.args.geometry.now.leb_size c.args.self.now.taken c.args.len lens (omega arith)))

pub returns-else-self-len-clause-after : goal.returns-else-self-len-clause-after
returns-else-self-len-clause-after c = λ lens.
    let size = c.args.geometry.now.leb_size in
    let taken = c.args.self.now.taken in
    let over : size < taken + c.args.len = omega arith in
    let e = ap length (packed_over size taken c.args.len lens over) in
    omega (arith, e)
