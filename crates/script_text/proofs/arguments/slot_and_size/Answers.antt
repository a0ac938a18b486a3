use Rattle.std.proofs.Common.{arith, []}
use Rattle.script_text.specs.Words.{Number}
use Rattle.script_text.proofs.Sentences.{split, uncut}
use Rattle.script_text.proofs.arguments.slot_and_size.Goals as goal

pub returns-in_err-first-clause-none : goal.returns-in_err-first-clause-none
returns-in_err-first-clause-none c = rw c.from_residual.ensures (λ slot size h.
    uncut (Number 8 slot) (Number 64 size) ([]) c.args.words.now c.in_err-first.ensures.none h)

pub returns-in_err-slot-clause-none : goal.returns-in_err-slot-clause-none
returns-in_err-slot-clause-none c = rw c.from_residual-in_err-slot.ensures (λ slot size h.
    let s = split (Number 8 slot) (Number 64 size) ([]) c.args.words.now c.in_ok-first.first.now c.in_ok-first.rest.now (omega arith) c.in_ok-first.ensures.first c.in_ok-first.ensures.found h in
    c.in_err-slot.ensures.none slot s.0)

pub returns-in_err-size-clause-none : goal.returns-in_err-size-clause-none
returns-in_err-size-clause-none c = rw c.from_residual-in_err-size.ensures (λ slot size h.
    let s = split (Number 8 slot) (Number 64 size) ([]) c.args.words.now c.in_ok-first.first.now c.in_ok-first.rest.now (omega arith) c.in_ok-first.ensures.first c.in_ok-first.ensures.found h in
    c.in_err-size.ensures.none size (omega (arith, s.1.0)) s.1.1)
