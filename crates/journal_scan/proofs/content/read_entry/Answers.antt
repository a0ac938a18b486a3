use Rattle.std.proofs.Common.{◌==◌, ℕ, ap, arith, length, not, take, ◌∙◌}
use Rattle.journal_scan.proofs.Contents.{entry_long, entry_told, name_fits}
use Rattle.journal_scan.proofs.content.read_entry.Goals as goal

pub returns-then-bytes-lt-NAME_PLACE : goal.returns-then-bytes-lt-NAME_PLACE
returns-then-bytes-lt-NAME_PLACE c = λ sqnum group node plain h.
    let long = entry_long c.args.bytes.now (λ i. omega (arith, c.type_inv.bytes i)) sqnum group node plain h in
    let short = c.if-bytes-lt-NAME_PLACE.true in
    absurd (omega (arith, long, short))

pub returns-then-size-behind : goal.returns-then-size-behind
returns-then-size-behind c = λ sqnum group node plain h.
    let more = c.if-size-behind.true in
    let long = ap length c.split_at.ensures.back in
    absurd (name_fits c.args.bytes.now (λ i. omega (arith, c.type_inv.bytes i)) sqnum group node plain h c.u16_at-size.result c.u16_at-size.ensures (omega (arith, more, long)))

pub returns : goal.returns
returns c = λ sqnum group node plain h.
    entry_told c.args.bytes.now (λ i. omega (arith, c.type_inv.bytes i)) sqnum group node plain h c.u32_at.result c.u16_at-size.result c.in_ok-name.name (not (c.u64_at.result == 0)) c.u32_at.ensures c.u16_at-size.ensures
    (c.in_ok-name.ensures ∙ c.split_at-2.ensures.front ∙ ap (take c.u16_at-size.result) c.split_at.ensures.back)
    (ap (λ (z : ℕ). not (z == 0)) c.u64_at.ensures)
