use Rattle.std.proofs.Common.{◌++◌, ◌∷◌, ◌+◌, ◌%◌, [], List, ℕ, arith, sym, ap, ◌∙◌, append_assoc}
use Rattle.std.proofs.lemmas.Fmt.{decimal_digit, decimal_step}
use Rattle.text_lines.proofs.words.+push_number.Goals as goal

pub returns-then-n-lt10 : goal.returns-then-n-lt10
returns-then-n-lt10 t c = c.in_ok-push.ensures.items ∙ ap (λ (ds : List ℕ). c.args.line.now.items ++ ds) (sym (decimal_digit c.args.n (omega arith)))

pub returns : goal.returns
returns t c = c.in_ok-push-2.ensures.items
    ∙ ap (λ (ds : List ℕ). ds ++ ((48 + c.args.n % 10) ∷ [])) c.in_ok-push_number.ensures
    ∙ append_assoc c.args.line.now.items _ _
    ∙ ap (λ (ds : List ℕ). c.args.line.now.items ++ ds) (sym (decimal_step c.args.n (omega arith) (omega arith)))
