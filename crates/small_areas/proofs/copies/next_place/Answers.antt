use Rattle.std.proofs.Common.{ℕ, ◌%◌, ap, sym, ◌∙◌, arith}
use Rattle.small_areas.proofs.Places.{place_ends}
use Rattle.small_areas.proofs.copies.next_place.Goals as goal

pub returns-in_default-clause-none : goal.returns-in_default-clause-none
returns-in_default-clause-none c = λ place h.
    let same = place_ends c.one_text.ensures c.args.leb.now c.args.room place c.text_end-end.result.0 c.text_end-end.result.1 (λ i. omega (arith, c.type_inv.leb i)) c.text_end-end.ensures h in
    c.in_default.not-Clean (sym same.1)

pub returns-then-end-room-ne0-clause-none : goal.returns-then-end-room-ne0-clause-none
returns-then-end-room-ne0-clause-none c = λ place h.
    let same = place_ends c.one_text.ensures c.args.leb.now c.args.room place c.text_end-end.result.0 c.text_end-end.result.1 (λ i. omega (arith, c.type_inv.leb i)) c.text_end-end.ensures h in
    c.if-end-room-ne0.true (ap (λ (n : ℕ). n % c.args.room) (sym same.0) ∙ h.multiple)

pub returns-then-end-room-clause-none : goal.returns-then-end-room-clause-none
returns-then-end-room-clause-none c = λ place h.
    let same = place_ends c.one_text.ensures c.args.leb.now c.args.room place c.text_end-end.result.0 c.text_end-end.result.1 (λ i. omega (arith, c.type_inv.leb i)) c.text_end-end.ensures h in
    let end = same.0 in
    let fits = h.fits in
    absurd (omega (arith, end, fits))
