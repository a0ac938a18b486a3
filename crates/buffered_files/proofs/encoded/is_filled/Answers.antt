use Rattle.std.proofs.Common.{◌≡◌, List, ℕ, length, max, sym, ap, ◌∙◌, arith}
use Rattle.std.specs.Prelude.{◌==◌}
use Rattle.std.specs.List.{list_all}
use Rattle.std.proofs.lemmas.Bool.{false≢true}
use Rattle.buffered_files.proofs.Encoding.{filled_back, is_filled}
use Rattle.buffered_files.proofs.encoded.is_filled.Goals as goal

pub returns-then-are_equal-clause-yes : goal.returns-then-are_equal-clause-yes
returns-then-are_equal-clause-yes c zeros =
    let n = c.if-new-max.false in
    let m = c.max.ensures in
    let h : length c.args.new.now ≡ max (length c.args.old.now) c.args.len = omega (arith, n, m) in
    is_filled c.args.old.now c.args.new.now c.args.len h (sym c.split_at.ensures.front ∙ c.are_equal.ensures.yes c.if-are_equal.true)
    (ap (λ (l : List ℕ). list_all (λ b. b == 0) l) (sym c.split_at.ensures.back) ∙ sym c.are_zeros.ensures ∙ zeros)

pub returns-then-are_equal-clause-no : goal.returns-then-are_equal-clause-no
returns-then-are_equal-clause-no c zeros same =
    false≢true (sym zeros ∙ c.are_zeros.ensures ∙ ap (λ (l : List ℕ). list_all (λ b. b == 0) l) c.split_at.ensures.back ∙ filled_back c.args.old.now c.args.new.now c.args.len same)
