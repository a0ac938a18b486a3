use Rattle.std.proofs.Common.{arith, ap, ◌*◌, List, subst, sym}
use Rattle.ubifs_base.specs.RawOf.{raw_of}
use Rattle.media_lpt.specs.declared.ltab.LptRow.{LptRow}
use Rattle.media_lpt.specs.Nodes.{IsLtabBytes}
use Rattle.media_lpt.proofs.TableLemmas.{ltab-framed, ltab_found}
use Rattle.media_lpt.proofs.ltab.Ltab.decode.Goals as goal

pub returns-then-not-is_framed-clause-none : goal.returns-then-not-is_framed-clause-none
returns-then-not-is_framed-clause-none c rows h =
    let framed = ltab-framed (raw_of c.args.geo.now) c.args.bytes.now rows (c.args.geo.now.lpt_lebs * (2 * c.row_space.result)) (λ i. omega (arith, c.type_inv.bytes i))
    (ap (λ n. c.args.geo.now.lpt_lebs * (2 * n)) c.row_space.ensures.number) h in
    let yes = c.is_framed.ensures.1 framed in
    let no = c.if-not-is_framed.true in
    absurd (cc (yes, no))

pub returns-clause-found : goal.returns-clause-found
returns-clause-found c =
    let P : List LptRow → Type 0 = λ rows. IsLtabBytes (raw_of c.args.geo.now) c.args.bytes.now rows in
    subst P (sym c.from_vec.ensures) (ltab_found (raw_of c.args.geo.now) c.args.bytes.now c.in_ok-rows.rows.items (c.args.geo.now.lpt_lebs * (2 * c.row_space.result))
    (ap (λ n. c.args.geo.now.lpt_lebs * (2 * n)) c.row_space.ensures.number) (c.is_framed.ensures.0 c.if-not-is_framed.false) c.in_ok-rows.ensures.count c.in_ok-rows.ensures.at)
