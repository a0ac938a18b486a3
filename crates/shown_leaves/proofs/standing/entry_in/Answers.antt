use Rattle.std.proofs.Common.{Some, ap, arith, length, refl, sym, take, ◌∙◌}
use Rattle.tree_check.specs.declared.shown_leaf.Shown.{Shown}
use Rattle.shown_leaves.proofs.StandingNodes.{entry_is, entry_long, inum_fits, name_fits}
use Rattle.shown_leaves.proofs.standing.entry_in.Goals as goal

pub returns-then-bytes-lt-NAME_PLACE : goal.returns-then-bytes-lt-NAME_PLACE
returns-then-bytes-lt-NAME_PLACE c = λ sqnum group node plain h.
    let long = entry_long c.args.bytes.now (λ i. omega (arith, c.type_inv.bytes i)) sqnum group node plain h in
    let short = c.if-bytes-lt-NAME_PLACE.true in
    absurd (omega (arith, long, short))

pub returns-then-size-behind : goal.returns-then-size-behind
returns-then-size-behind c = λ sqnum group node plain h.
    let more = c.if-size-behind.true in
    let long = ap length c.split_at.ensures.back in
    absurd (name_fits c.args.bytes.now (λ i. omega (arith, c.type_inv.bytes i)) sqnum group node plain h c.u16_at-size.result c.u16_at-size.ensures (omega (arith, more, long)))

pub returns-then-inum-gt4294967295 : goal.returns-then-inum-gt4294967295
returns-then-inum-gt4294967295 c = λ sqnum group node plain h.
    absurd (inum_fits c.args.bytes.now (λ i. omega (arith, c.type_inv.bytes i)) sqnum group node plain h c.u64_at-inum.result c.u64_at-inum.ensures (omega (arith, c.if-inum-gt4294967295.true)))

pub returns : goal.returns
returns c = λ sqnum group node plain h.
    entry_is c.args.bytes.now (λ i. omega (arith, c.type_inv.bytes i)) sqnum group node plain h c.u32_at.result c.u16_at-size.result c.u64_at-inum.result _ c.in_ok-name.name c.u32_at.ensures c.u16_at-size.ensures c.u64_at-inum.ensures refl
    (c.in_ok-name.ensures ∙ c.split_at-2.ensures.front ∙ ap (take c.u16_at-size.result) c.split_at.ensures.back)
    ∙ ap (λ (s : Shown). Some s) (sym c.entry_shown.ensures)
