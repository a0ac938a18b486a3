use Rattle.std.proofs.Common.{sym, ◌∙◌, ◌++◌, List, ℕ, ap}
use Rattle.script_text.proofs.Lines.{no_end}
use Rattle.script_text.proofs.manifest.fanout_words.Goals as goal

pub returns-in_err-rest-clause-none : goal.returns-in_err-rest-clause-none
returns-in_err-rest-clause-none c = rw c.from_residual-in_err-rest.ensures (λ n packed rest few e.
    no_end c.args.words.now c.in_ok-fanout.more.now c.in_ok-fanout.fanout n packed rest c.in_default.ensures.none c.in_ok-fanout.ensures.within c.in_ok-fanout.ensures.found
    (λ x d. c.in_err-rest.ensures.none x (d ∙ sym (ap (λ (t : List ℕ). t ++ x) c.as_slice.ensures))) few e)
