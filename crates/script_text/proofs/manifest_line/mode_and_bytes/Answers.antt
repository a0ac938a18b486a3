use Rattle.std.proofs.Common.{[], ◌∷◌}
use Rattle.script_text.specs.Words.{Mode, Number}
use Rattle.script_text.proofs.Sentences.{split, uncut}
use Rattle.script_text.proofs.manifest_line.mode_and_bytes.Goals as goal

pub returns-in_err-first-clause-none : goal.returns-in_err-first-clause-none
returns-in_err-first-clause-none c = rw c.from_residual.ensures (λ mode len byte h.
    uncut (Mode mode) (Number 32 len) (Number 8 byte ∷ []) c.args.words.now c.in_err-first.ensures.none h)

pub returns-in_err-mode-clause-none : goal.returns-in_err-mode-clause-none
returns-in_err-mode-clause-none c = rw c.from_residual-in_err-mode.ensures (λ mode len byte h.
    let s = split (Mode mode) (Number 32 len) (Number 8 byte ∷ []) c.args.words.now c.in_ok-first.first.now c.in_ok-first.rest.now tt c.in_ok-first.ensures.first c.in_ok-first.ensures.found h in
    c.in_err-mode.ensures.none mode s.0)

pub returns-in_err-len-clause-none : goal.returns-in_err-len-clause-none
returns-in_err-len-clause-none c = rw c.from_residual-in_err-len.ensures (λ mode len byte h.
    let s = split (Mode mode) (Number 32 len) (Number 8 byte ∷ []) c.args.words.now c.in_ok-first.first.now c.in_ok-first.rest.now tt c.in_ok-first.ensures.first c.in_ok-first.ensures.found h in
    c.in_err-len.ensures.none len byte s.1)
