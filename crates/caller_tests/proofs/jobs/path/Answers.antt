use Rattle.std.proofs.Common.{arith, sym, subst, IsTrue, List, ℕ}
use Rattle.fs_model.specs.Proper.{are_bytes}
use Rattle.caller_tests.proofs.GivenBytes.{given_bytes}
use Rattle.caller_tests.proofs.jobs.path.Goals as goal

pub returns : goal.returns
returns c =
    let P : List ℕ → Type 0 = λ bytes. IsTrue (are_bytes bytes) in
    subst P (sym c.in_ok-from_slice.ensures) (given_bytes c.args.bytes.now (λ i. omega (arith, c.type_inv.bytes i)))
