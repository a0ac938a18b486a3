use Rattle.std.proofs.Common.{◌≡◌, arith, ap, ◌+◌, ◌∙◌}
use Rattle.ubifs_base.specs.RawOf.{raw_of}
use Rattle.ubifs_base.specs.Properties.{place_lnum_bits, place_offs_bits}
use Rattle.media_lpt.proofs.ItemLemmas.{on_none}
use Rattle.media_lpt.proofs.NodeLemmas.{nnode-framed, nnode_found, no_nnode}
use Rattle.media_lpt.proofs.nnode.Nnode.decode.Goals as goal

pub returns-then-not-is_framed-clause-none : goal.returns-then-not-is_framed-clause-none
returns-then-not-is_framed-clause-none c node h =
    let framed = nnode-framed (raw_of c.args.geo.now) c.args.bytes.now node _ (λ i. omega (arith, c.type_inv.bytes i)) (omega (arith, c.node_number-number_bits.ensures.number, c.place_lnum.ensures.number, c.place_offs.ensures.number)) h in
    let yes = c.is_framed.ensures.1 framed in
    let no = c.if-not-is_framed.true in
    absurd (cc (yes, no))

pub returns-in_err-a-clause-none : goal.returns-in_err-a-clause-none
returns-in_err-a-clause-none c = on_none c.from_residual.result _ (no_nnode (raw_of c.args.geo.now) c.args.bytes.now 0 _ (omega arith)
    (omega (arith, c.node_number-number_bits.ensures.number)) (λ i. omega (arith, c.type_inv.bytes i)) c.in_err-a.ensures.none)

pub returns-in_err-b-clause-none : goal.returns-in_err-b-clause-none
returns-in_err-b-clause-none c = on_none c.from_residual-in_err-b.result _ (no_nnode (raw_of c.args.geo.now) c.args.bytes.now 1 _ (omega arith)
    (omega (arith, c.node_number-number_bits.ensures.number, c.place_lnum.ensures.number, c.place_offs.ensures.number)) (λ i. omega (arith, c.type_inv.bytes i)) c.in_err-b.ensures.none)

pub returns-in_err-c-clause-none : goal.returns-in_err-c-clause-none
returns-in_err-c-clause-none c = on_none c.from_residual-in_err-c.result _ (no_nnode (raw_of c.args.geo.now) c.args.bytes.now 2 _ (omega arith)
    (omega (arith, c.node_number-number_bits.ensures.number, c.place_lnum.ensures.number, c.place_offs.ensures.number)) (λ i. omega (arith, c.type_inv.bytes i)) c.in_err-c.ensures.none)

pub returns-in_err-d-clause-none : goal.returns-in_err-d-clause-none
returns-in_err-d-clause-none c = on_none c.from_residual-in_err-d.result _ (no_nnode (raw_of c.args.geo.now) c.args.bytes.now 3 _ (omega arith)
    (omega (arith, c.node_number-number_bits.ensures.number, c.place_lnum.ensures.number, c.place_offs.ensures.number)) (λ i. omega (arith, c.type_inv.bytes i)) c.in_err-d.ensures.none)

pub returns-clause-found : goal.returns-clause-found
returns-clause-found c =
    let geo = raw_of c.args.geo.now in
    let width : c.place_lnum.result + c.place_offs.result ≡ place_lnum_bits geo + place_offs_bits geo = ap (λ n. n + c.place_offs.result) c.place_lnum.ensures.number ∙ ap (λ n. place_lnum_bits geo + n) c.place_offs.ensures.number in
    nnode_found geo c.args.bytes.now c.node_number-number_bits.result (c.place_lnum.result + c.place_offs.result) c.get-num.result
    c.in_ok-a.a c.in_ok-b.b c.in_ok-c.c c.in_ok-d.d c.node_number-number_bits.ensures.number width
    (c.is_framed.ensures.0 c.if-not-is_framed.false) c.get-num.ensures.number c.in_ok-a.ensures.at c.in_ok-b.ensures.at c.in_ok-c.ensures.at c.in_ok-d.ensures.at
    (c.in_ok-a.ensures.place, (c.in_ok-b.ensures.place, (c.in_ok-c.ensures.place, (c.in_ok-d.ensures.place, tt))))
