use Rattle.std.proofs.Common.{ℕ, List, subst, sym, ◌∙◌, arith}
use Rattle.leb_scan.specs.Known.{IsBodyOf}
use Rattle.leb_scan.proofs.Heads.{stands}
use Rattle.leb_scan.proofs.Places.{head_there, no_head, no_type, body_there, same_group, same_body}
use Rattle.leb_scan.proofs.node_at.node_at.Goals as goal

pub returns-in_default-clause-none : goal.returns-in_default-clause-none
returns-in_default-clause-none c =
    no_head c.args.leb.now c.split_at.result.1.now c.args.place c.unframe.result (λ i. omega (arith, c.type_inv.leb i)) c.split_at.ensures.back c.unframe.ensures.exact c.in_default.not-Ok

pub returns-then-head-gt2-clause-none : goal.returns-then-head-gt2-clause-none
returns-then-head-gt2-clause-none c = λ found node h.
    let leb = c.args.leb.now in
    let read = head_there leb c.split_at.result.1.now c.args.place c.unframe.result c.in-Ok.head c.split_at.ensures.back c.unframe.ensures.exact c.in-Ok.is in
    let known = same_group leb c.args.place c.in-Ok.head found node (λ i. omega (arith, c.type_inv.leb i)) read h in
    absurd (omega (arith, known, c.if-head-gt2.true))

pub returns-then-not-is_known-clause-none : goal.returns-then-not-is_known-clause-none
returns-then-not-is_known-clause-none c = λ found node h.
    let leb = c.args.leb.now in
    let read = head_there leb c.split_at.result.1.now c.args.place c.unframe.result c.in-Ok.head c.split_at.ensures.back c.unframe.ensures.exact c.in-Ok.is in
    let there = body_there leb c.split_at.result.1.now c.split_at-2.result.0.now c.split_at-3.result.1.now c.args.place c.in-Ok.head.len c.split_at.ensures.back c.split_at-2.ensures.front c.split_at-3.ensures.back in
    let is = same_body leb c.args.place c.in-Ok.head found node (λ i. omega (arith, c.type_inv.leb i)) read h in
    let P : List ℕ → Type 0 = λ b. IsBodyOf c.in-Ok.head.kind b node in
    let known = c.is_known.ensures.1 (node, subst P (sym there) is) in
    absurd (cc (known, c.if-not-is_known.true))

pub returns-clause-found : goal.returns-clause-found
returns-clause-found c =
    let leb = c.args.leb.now in
    let read = head_there leb c.split_at.result.1.now c.args.place c.unframe.result c.in-Ok.head c.split_at.ensures.back c.unframe.ensures.exact c.in-Ok.is in
    let there = body_there leb c.split_at.result.1.now c.split_at-2.result.0.now c.split_at-3.result.1.now c.args.place c.in-Ok.head.len c.split_at.ensures.back c.split_at-2.ensures.front c.split_at-3.ensures.back in
    let is = c.is_known.ensures.0 c.if-not-is_known.false in
    let P : List ℕ → Type 0 = λ b. IsBodyOf c.in-Ok.head.kind b is.0 in
    (is.0, stands leb c.args.place c.in-Some.kind c.in-Ok.head is.0 (λ i. omega (arith, c.type_inv.leb i)) c.requires.place c.requires.len read c.if-head-gt2.false (sym c.of.ensures ∙ c.in-Some.is) (subst P there is.1))

pub returns-in_default-of-clause-none : goal.returns-in_default-of-clause-none
returns-in_default-of-clause-none c =
    let leb = c.args.leb.now in
    let read = head_there leb c.split_at.result.1.now c.args.place c.unframe.result c.in-Ok.head c.split_at.ensures.back c.unframe.ensures.exact c.in-Ok.is in
    no_type leb c.args.place c.in-Ok.head c.of.result (λ i. omega (arith, c.type_inv.leb i)) read c.of.ensures c.in_default-of.not-Some
