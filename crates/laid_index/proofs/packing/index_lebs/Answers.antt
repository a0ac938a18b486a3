use Rattle.std.proofs.Common.{ℕ, List, [], length, ap, arith, append-nil}
use Rattle.ubifs_base.specs.RawOf.{raw_of}
use Rattle.laid_index.specs.Packing.{index_lens, packed}
use Rattle.laid_index.proofs.Counting.{index_few}
use Rattle.laid_index.proofs.Packs.{packed_nil}
use Rattle.laid_index.proofs.packing.index_lebs.Goals as goal

pub take_levels-requires-clause-room : goal.take_levels-requires-clause-room
take_levels-requires-clause-room c =
    let few = index_few (raw_of c.args.geometry.now) c.args.leaves c.args.geometry.now.in_range c.requires in
    omega (arith, few)

pub overflow_add-result : goal.overflow_add-result
overflow_add-result c =
    let few = index_few (raw_of c.args.geometry.now) c.args.leaves c.args.geometry.now.in_range c.requires in
    let all = c.take_levels.ensures.after [] in
    let one = ap length (packed_nil c.args.geometry.now.leb_size c.take_levels.new.self.taken) in
    let lens = ap (λ (l : List ℕ). length (packed c.args.geometry.now.leb_size 0 l)) (append-nil (index_lens c.args.geometry.now.fanout c.args.leaves)) in
    omega (arith, few, all, one, lens)

pub returns : goal.returns
returns c =
    let all = c.take_levels.ensures.after [] in
    let one = ap length (packed_nil c.args.geometry.now.leb_size c.take_levels.new.self.taken) in
    let lens = ap (λ (l : List ℕ). length (packed c.args.geometry.now.leb_size 0 l)) (append-nil (index_lens c.args.geometry.now.fanout c.args.leaves)) in
    omega (arith, all, one, lens)
