use Rattle.std.proofs.Common.{ℕ, List, drop, sym, subst, arith}
use Rattle.ubifs_base.specs.NodeLaws.{unframed-ok}
use Rattle.image_check.specs.Needs.{IsNeededBy}
use Rattle.image_check.proofs.Frames.{body_there, need_here, need_of, needs_by, no_need, read_head, read_none, some_need}
use Rattle.image_check.proofs.features.needed_feature.Goals as goal

pub returns-in_default-clause-only : goal.returns-in_default-clause-only
returns-in_default-clause-only c = λ what h.
    let leb = c.args.leb.now in
    absurd (no_need (drop c.args.place leb) what (read_none leb c.split_at.result.1.now c.args.place c.unframe.result c.split_at.ensures.back c.unframe.ensures.exact c.in_default.not-Ok) (need_of leb c.args.place what (λ i. omega (arith, c.type_inv.leb i)) h))

pub returns-then-head-gt2-clause-only : goal.returns-then-head-gt2-clause-only
returns-then-head-gt2-clause-only c = λ what h.
    let leb = c.args.leb.now in
    let read = read_head leb c.split_at.result.1.now c.args.place c.unframe.result c.in-Ok.head c.split_at.ensures.back c.unframe.ensures.exact c.in-Ok.is in
    let known = (need_here (drop c.args.place leb) c.in-Ok.head what (need_of leb c.args.place what (λ i. omega (arith, c.type_inv.leb i)) h) read).0 in
    absurd (omega (arith, known, c.if-head-gt2.true))

pub returns-clause-some : goal.returns-clause-some
returns-clause-some c =
    let leb = c.args.leb.now in
    let read = read_head leb c.split_at.result.1.now c.args.place c.unframe.result c.in-Ok.head c.split_at.ensures.back c.unframe.ensures.exact c.in-Ok.is in
    let body = body_there leb c.split_at.result.1.now c.split_at-2.result.0.now c.split_at-3.result.1.now c.args.place c.in-Ok.head.len c.split_at.ensures.back c.split_at-2.ensures.front c.split_at-3.ensures.back in
    let known = c.if-head-gt2.false in
    some_need c.in-Ok.head.kind leb c.split_at-3.result.1.now c.args.place c.body_feature.result
    (λ what h. let P : List ℕ → Type 0 = λ b. IsNeededBy c.in-Ok.head.kind b what in needs_by leb c.args.place c.in-Ok.head what (λ i. omega (arith, c.type_inv.leb i)) c.requires (unframed-ok (drop c.args.place leb) c.in-Ok.head read) (omega (arith, known)) (subst P body h))
    c.body_feature.ensures.some

pub returns-clause-only : goal.returns-clause-only
returns-clause-only c = λ what h.
    let leb = c.args.leb.now in
    let read = read_head leb c.split_at.result.1.now c.args.place c.unframe.result c.in-Ok.head c.split_at.ensures.back c.unframe.ensures.exact c.in-Ok.is in
    let body = body_there leb c.split_at.result.1.now c.split_at-2.result.0.now c.split_at-3.result.1.now c.args.place c.in-Ok.head.len c.split_at.ensures.back c.split_at-2.ensures.front c.split_at-3.ensures.back in
    let needs = (need_here (drop c.args.place leb) c.in-Ok.head what (need_of leb c.args.place what (λ i. omega (arith, c.type_inv.leb i)) h) read).1 in
    let P : List ℕ → Type 0 = λ b. IsNeededBy c.in-Ok.head.kind b what in
    c.body_feature.ensures.only what (subst P (sym body) needs)
