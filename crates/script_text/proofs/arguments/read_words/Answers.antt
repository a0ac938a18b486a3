use Rattle.std.proofs.Common.{arith, [], ◌∷◌}
use Rattle.script_text.specs.Words.{Number}
use Rattle.script_text.proofs.Sentences.{split, uncut}
use Rattle.script_text.proofs.arguments.read_words.Goals as goal

pub returns-in_err-first-clause-none : goal.returns-in_err-first-clause-none
returns-in_err-first-clause-none c = rw c.from_residual.ensures (λ slot offs len h.
    uncut (Number 8 slot) (Number 64 offs) (Number 32 len ∷ []) c.args.words.now c.in_err-first.ensures.none h)

pub returns-in_err-slot-clause-none : goal.returns-in_err-slot-clause-none
returns-in_err-slot-clause-none c = rw c.from_residual-in_err-slot.ensures (λ slot offs len h.
    let s = split (Number 8 slot) (Number 64 offs) (Number 32 len ∷ []) c.args.words.now c.in_ok-first.first.now c.in_ok-first.rest.now (omega arith) c.in_ok-first.ensures.first c.in_ok-first.ensures.found h in
    c.in_err-slot.ensures.none slot s.0)

pub returns-in_err-offs-clause-none : goal.returns-in_err-offs-clause-none
returns-in_err-offs-clause-none c = rw c.from_residual-in_err-offs.ensures (λ slot offs len h.
    let s = split (Number 8 slot) (Number 64 offs) (Number 32 len ∷ []) c.args.words.now c.in_ok-first.first.now c.in_ok-first.rest.now (omega arith) c.in_ok-first.ensures.first c.in_ok-first.ensures.found h in
    c.in_err-offs.ensures.none offs len s.1)
