use Rattle.std.proofs.Common.{arith, ap, ◌*◌, List, ℕ, subst, sym}
use Rattle.ubifs_base.specs.RawOf.{raw_of}
use Rattle.media_lpt.specs.Nodes.{IsLsaveBytes}
use Rattle.media_lpt.proofs.TableLemmas.{lsave-framed, lsave_found}
use Rattle.media_lpt.proofs.lsave.Lsave.decode.Goals as goal

pub returns-then-not-is_framed-clause-none : goal.returns-then-not-is_framed-clause-none
returns-then-not-is_framed-clause-none c lnums h =
    let framed = lsave-framed (raw_of c.args.geo.now) c.args.bytes.now lnums (c.args.geo.now.lsave_cnt * c.lnum-step.result) (λ i. omega (arith, c.type_inv.bytes i))
    (ap (λ n. c.args.geo.now.lsave_cnt * n) c.lnum-step.ensures.number) h in
    let yes = c.is_framed.ensures.1 framed in
    let no = c.if-not-is_framed.true in
    absurd (cc (yes, no))

pub returns-clause-found : goal.returns-clause-found
returns-clause-found c =
    let P : List ℕ → Type 0 = λ lnums. IsLsaveBytes (raw_of c.args.geo.now) c.args.bytes.now lnums in
    subst P (sym c.from_vec.ensures) (lsave_found (raw_of c.args.geo.now) c.args.bytes.now c.in_ok-lnums.lnums.items (c.args.geo.now.lsave_cnt * c.lnum-step.result)
    (ap (λ n. c.args.geo.now.lsave_cnt * n) c.lnum-step.ensures.number) (c.is_framed.ensures.0 c.if-not-is_framed.false) c.in_ok-lnums.ensures.count c.in_ok-lnums.ensures.at)
