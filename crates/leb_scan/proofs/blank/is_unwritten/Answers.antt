use Rattle.std.proofs.Common.{List, ℕ, refl, sym, ap, ◌∙◌, subst, arith}
use Rattle.ubifs_base.specs.NodeLaws.{IsBytes}
use Rattle.leb_scan.specs.Text.{is_blank}
use Rattle.leb_scan.proofs.Heads.{bytes_drop}
use Rattle.leb_scan.proofs.Unwritten.{blank_word, written_word}
use Rattle.leb_scan.proofs.blank.is_unwritten.Goals as goal

pub loop-rest-init : goal.loop-rest-init
loop-rest-init c = (λ i. omega (arith, c.type_inv.bytes i), refl)

pub returns-then-u64_at : goal.returns-then-u64_at
returns-then-u64_at c =
    sym (written_word c.loop-rest.rest.now c.loop-rest-test.true (λ e. c.if-u64_at.true (c.u64_at.ensures ∙ e))) ∙ c.loop-rest.invariant.1

pub loop-rest-preserved : goal.loop-rest-preserved
loop-rest-preserved c =
    let rest = c.loop-rest.rest.now in
    let P : List ℕ → Type 0 = λ b. IsBytes b in (
      subst P (sym c.split_at.ensures.back) (bytes_drop 8 rest c.loop-rest.invariant.0),
      ap is_blank c.split_at.ensures.back ∙ blank_word rest c.loop-rest.invariant.0 c.loop-rest-test.true (sym c.u64_at.ensures ∙ c.if-u64_at.false) ∙ c.loop-rest.invariant.1,
    )
