use Rattle.std.proofs.Common.{◌≡◌, ◌+◌, ◌≤◌, ℕ, List, length, drop, ap, ◌∙◌, arith}
use Rattle.byteorder.specs.Endian.{little_number}
use Rattle.leb_scan.proofs.Places.{padding_there, pad_room, padding_begins, announced}
use Rattle.leb_scan.proofs.item_at.padding_at.Goals as goal

pub u32_at-pad_len-requires : goal.u32_at-pad_len-requires
u32_at-pad_len-requires c =
    let leb = c.args.leb.now in
    let is = padding_there leb c.args.place c.args.found c.requires.stands.0 c.requires.stands.1 c.requires.kind in
    let room = pad_room leb c.args.place c.args.found (λ i. omega (arith, c.type_inv.leb i)) is in
    rw c.split_at.ensures.back room

pub returns-then-size-ne0-clause-none : goal.returns-then-size-ne0-clause-none
returns-then-size-ne0-clause-none c = λ pad_len h.
    let leb = c.args.leb.now in
    let there = announced leb c.args.place c.args.found pad_len (λ i. omega (arith, c.type_inv.leb i)) h in
    let same : c.u32_at-pad_len.result ≡ pad_len = c.u32_at-pad_len.ensures ∙ ap (λ (b : List ℕ). little_number 4 (drop 24 b)) c.split_at.ensures.back ∙ there in
    absurd (c.if-size-ne0.true (rw same h.even))

pub returns-then-size-rest-clause-none : goal.returns-then-size-rest-clause-none
returns-then-size-rest-clause-none c = λ pad_len h.
    let leb = c.args.leb.now in
    let there = announced leb c.args.place c.args.found pad_len (λ i. omega (arith, c.type_inv.leb i)) h in
    let same : c.u32_at-pad_len.result ≡ pad_len = c.u32_at-pad_len.ensures ∙ ap (λ (b : List ℕ). little_number 4 (drop 24 b)) c.split_at.ensures.back ∙ there in
    let inside = h.inside in
    absurd (omega (arith, same, inside, c.if-size-rest.true, c.split_at.ensures.back_len))

pub returns-clause-found : goal.returns-clause-found
returns-clause-found c =
    let leb = c.args.leb.now in
    let is = padding_there leb c.args.place c.args.found c.requires.stands.0 c.requires.stands.1 c.requires.kind in
    let there : c.u32_at-pad_len.result ≡ little_number 4 (drop 24 (drop c.args.place leb)) = c.u32_at-pad_len.ensures ∙ ap (λ (b : List ℕ). little_number 4 (drop 24 b)) c.split_at.ensures.back in
    let inside : 28 + c.u32_at-pad_len.result ≤ length (drop c.args.place leb) = let e = ap length c.split_at.ensures.back in omega (arith, e, c.if-size-rest.false) in
    padding_begins leb c.args.place c.args.found c.u32_at-pad_len.result (λ i. omega (arith, c.type_inv.leb i)) is there inside c.if-size-ne0.false
