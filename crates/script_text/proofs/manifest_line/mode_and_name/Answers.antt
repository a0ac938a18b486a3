use Rattle.std.proofs.Common.{◌≡◌, false, [], rules, sym, subst}
use Rattle.script_text.specs.Words.{FileName, IsFileWord, Mode}
use Rattle.script_text.proofs.Sentences.{split, uncut}
use Rattle.script_text.proofs.manifest_line.mode_and_name.Goals as goal

pub returns-in_err-first-clause-none : goal.returns-in_err-first-clause-none
returns-in_err-first-clause-none c = rw c.from_residual.ensures (λ mode name h. uncut (Mode mode) (FileName name) [] c.args.words.now c.in_err-first.ensures.none h)

pub returns-in_err-mode-clause-none : goal.returns-in_err-mode-clause-none
returns-in_err-mode-clause-none c = rw c.from_residual-in_err-mode.ensures (λ mode name h.
    let s = split (Mode mode) (FileName name) [] c.args.words.now c.in_ok-first.first.now c.in_ok-first.rest.now tt c.in_ok-first.ensures.first c.in_ok-first.ensures.found h in
    c.in_err-mode.ensures.none mode s.0)

pub returns-then-not-is_file_word-clause-none : goal.returns-then-not-is_file_word-clause-none
returns-then-not-is_file_word-clause-none c = λ mode name h.
    let s = split (Mode mode) (FileName name) [] c.args.words.now c.in_ok-first.first.now c.in_ok-first.rest.now tt c.in_ok-first.ensures.first c.in_ok-first.ensures.found h in
    let bad : c.is_file_word.result ≡ false = search rules in
    c.is_file_word.ensures.none bad (subst IsFileWord (sym s.1.0) s.1.1)
