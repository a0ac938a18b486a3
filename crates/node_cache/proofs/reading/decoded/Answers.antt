use Rattle.std.proofs.Common.{◌≡◌, arith}
use Rattle.media_sys.specs.Index.{index_of}
use Rattle.media_sys.specs.SystemNode.{index}
use Rattle.node_cache.proofs.reading.decoded.Goals as goal

pub returns-in-Some-clause-said : goal.returns-in-Some-clause-said
returns-in-Some-clause-said c sqnum group said h =
    let found = rw c.in-Some.is at c.in_ok-decode.ensures.found in
    let one = c.one_node.ensures c.args.bytes.now found.0 found.1 sqnum group (index (index_of c.in-Some.node)) (index said) (λ i. omega (arith, c.type_inv.bytes i)) found.2 h in
    let same : index (index_of c.in-Some.node) ≡ index said = one.2 in
    cc
