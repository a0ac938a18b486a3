use Rattle.std.proofs.Common.{arith, []}
use Rattle.script_text.specs.Words.{Number}
use Rattle.script_text.proofs.Sentences.{split, uncut}
use Rattle.script_text.proofs.arguments.length_and_byte.Goals as goal

pub returns-in_err-first-clause-none : goal.returns-in_err-first-clause-none
returns-in_err-first-clause-none c = rw c.from_residual.ensures (λ len byte h.
    uncut (Number 32 len) (Number 8 byte) ([]) c.args.words.now c.in_err-first.ensures.none h)

pub returns-in_err-len-clause-none : goal.returns-in_err-len-clause-none
returns-in_err-len-clause-none c = rw c.from_residual-in_err-len.ensures (λ len byte h.
    let s = split (Number 32 len) (Number 8 byte) ([]) c.args.words.now c.in_ok-first.first.now c.in_ok-first.rest.now (omega arith) c.in_ok-first.ensures.first c.in_ok-first.ensures.found h in
    c.in_err-len.ensures.none len (omega (arith, s.0.0)) s.0.1)

pub returns-in_err-byte-clause-none : goal.returns-in_err-byte-clause-none
returns-in_err-byte-clause-none c = rw c.from_residual-in_err-byte.ensures (λ len byte h.
    let s = split (Number 32 len) (Number 8 byte) ([]) c.args.words.now c.in_ok-first.first.now c.in_ok-first.rest.now (omega arith) c.in_ok-first.ensures.first c.in_ok-first.ensures.found h in
    c.in_err-byte.ensures.none byte s.1)
