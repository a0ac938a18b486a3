use Rattle.std.proofs.Common.{arith, []}
use Rattle.script_text.specs.Words.{Number}
use Rattle.script_text.proofs.Sentences.{split, uncut}
use Rattle.script_text.proofs.arguments.offset_and_length.Goals as goal

pub returns-in_err-first-clause-none : goal.returns-in_err-first-clause-none
returns-in_err-first-clause-none c = rw c.from_residual.ensures (λ offs len h.
    uncut (Number 64 offs) (Number 32 len) ([]) c.args.words.now c.in_err-first.ensures.none h)

pub returns-in_err-offs-clause-none : goal.returns-in_err-offs-clause-none
returns-in_err-offs-clause-none c = rw c.from_residual-in_err-offs.ensures (λ offs len h.
    let s = split (Number 64 offs) (Number 32 len) ([]) c.args.words.now c.in_ok-first.first.now c.in_ok-first.rest.now (omega arith) c.in_ok-first.ensures.first c.in_ok-first.ensures.found h in
    c.in_err-offs.ensures.none offs (omega (arith, s.0.0)) s.0.1)

pub returns-in_err-len-clause-none : goal.returns-in_err-len-clause-none
returns-in_err-len-clause-none c = rw c.from_residual-in_err-len.ensures (λ offs len h.
    let s = split (Number 64 offs) (Number 32 len) ([]) c.args.words.now c.in_ok-first.first.now c.in_ok-first.rest.now (omega arith) c.in_ok-first.ensures.first c.in_ok-first.ensures.found h in
    c.in_err-len.ensures.none len (omega (arith, s.1.0)) s.1.1)
