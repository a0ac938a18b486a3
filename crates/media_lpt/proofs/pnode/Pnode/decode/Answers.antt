use Rattle.std.proofs.Common.{arith, ap, ◌+◌, ◌*◌}
use Rattle.ubifs_base.specs.RawOf.{raw_of}
use Rattle.media_lpt.proofs.NodeLemmas.{pnode-framed, pnode_found}
use Rattle.media_lpt.proofs.pnode.Pnode.decode.Goals as goal

pub returns-then-not-is_framed-clause-none : goal.returns-then-not-is_framed-clause-none
returns-then-not-is_framed-clause-none c node h =
    let framed = pnode-framed (raw_of c.args.geo.now) c.args.bytes.now node _ (λ i. omega (arith, c.type_inv.bytes i)) (omega (arith, c.node_number-number_bits.ensures.number, c.space.ensures.number)) h in
    let yes = c.is_framed.ensures.1 framed in
    let no = c.if-not-is_framed.true in
    absurd (cc (yes, no))

pub returns-clause-found : goal.returns-clause-found
returns-clause-found c = pnode_found (raw_of c.args.geo.now) c.args.bytes.now c.node_number-number_bits.result (2 * c.space.result + 1) c.get.result
    c.get-2.result c.get-3.result c.get-4.result c.get-5.result c.node_number-number_bits.ensures.number (ap (λ n. 2 * n + 1) c.space.ensures.number)
    (c.is_framed.ensures.0 c.if-not-is_framed.false) c.get.ensures.number c.get-2.ensures.at c.get-3.ensures.at c.get-4.ensures.at c.get-5.ensures.at
    (c.get-2.ensures.eights, (c.get-3.ensures.eights, (c.get-4.ensures.eights, (c.get-5.ensures.eights, tt))))
