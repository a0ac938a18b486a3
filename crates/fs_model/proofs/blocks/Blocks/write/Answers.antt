use Rattle.std.proofs.Common.{◌≡◌, ◌+◌, ◌-◌, ◌/◌, suc, ap, ◌∙◌, arith, refl, eqb, false, ◌*◌, ◌<◌}
use Rattle.std.proofs.lemmas.Bool.Decides.{nat_tests}
use Rattle.fs_model.specs.Files.{with_page, with_block, overlaid, block_at}
use Rattle.fs_model.proofs.Ends.{page_ends}
use Rattle.fs_model.proofs.blocks.Blocks.write.Goals as goal

pub loop-page-init : goal.loop-page-init
loop-page-init c =
    let some = c.requires.some in
    let n : eqb c.args.n 0 ≡ false = grind (arith, nat_tests) in
    let all : (c.args.offs + c.args.n - 1) / 4096 + 1 - c.args.offs / 4096 ≡ suc ((c.args.offs + c.args.n - 1) / 4096 - c.args.offs / 4096) = omega arith in
    record { rest = rw (all, n) refl; ends = omega arith }

pub loop-page-preserved : goal.loop-page-preserved
loop-page-preserved c =
    let end = (c.args.offs + c.args.n - 1) / 4096 + 1 in
    let more : end - c.loop-page.page ≡ suc (end - (c.loop-page.page + 1)) = omega arith in
    let step = with_page c.args.ino c.args.offs c.args.n c.args.byte in
    let done : c.insert.new.self ≡ step c.loop-page.self c.loop-page.page =
    c.in_ok-insert.ensures.ok ∙ ap (λ b. with_block c.loop-page.self c.args.ino c.loop-page.page b) (c.from_vec.ensures ∙ c.in_ok-bytes.ensures
    ∙ ap (λ old. overlaid old c.saturating_sub-from.result c.min-to.result c.args.byte) c.get.ensures
    ∙ ap (λ from. overlaid (block_at c.loop-page.self c.args.ino c.loop-page.page) from c.min-to.result c.args.byte) c.saturating_sub-from.ensures
    ∙ ap (λ to. overlaid (block_at c.loop-page.self c.args.ino c.loop-page.page) (c.args.offs - 4096 * c.loop-page.page) to c.args.byte) c.min-to.ensures) in
    let starts : 4096 * c.loop-page.page < c.args.offs + c.args.n = omega arith in
    let ends : c.args.offs < 4096 * (c.loop-page.page + 1) = omega arith in
    record {
      rest = rw done (rw more at c.loop-page.invariant.rest);
      ends = rw done (page_ends c.loop-page.self c.args.ino c.args.offs c.args.n c.args.byte c.loop-page.page _ c.loop-page.invariant.ends (omega arith) starts ends);
    }

pub returns-clause-ok : goal.returns-clause-ok
returns-clause-ok c =
    let end = (c.args.offs + c.args.n - 1) / 4096 + 1 in
    let none : end - c.loop-page.page ≡ 0 = omega arith in
    rw none at c.loop-page.invariant.rest
