use Rattle.std.proofs.Common.{◌≡◌, ℕ, ◌+◌, ◌-◌, ◌/◌, ◌%◌, ◌<◌, length, subst, sym, arith}
use Rattle.std.proofs.lemmas.Bool.Decides.{nat_tests}
use Rattle.fs_model.specs.Files.{pages_of}
use Rattle.credited_files.proofs.Others.{pages_count}
use Rattle.credited_files.proofs.stock.pages_from.Goals as goal

pub returns : goal.returns
returns c =
    let some : 0 < c.args.len = grind (arith, nat_tests, c.if-len-eq0.false) in
    subst (λ (n : ℕ). (c.args.offs % 4096 + n - 1) / 4096 + 1 ≡ length (pages_of c.args.offs c.args.len)) (sym c.from.ensures) (sym (pages_count c.args.offs c.args.len some))
