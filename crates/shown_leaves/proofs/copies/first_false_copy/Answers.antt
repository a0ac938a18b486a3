use Rattle.std.proofs.Common.{◌≡◌, ◌∙◌, true, false, subst, ap, rules}
use Rattle.std.specs.Prelude.{Some}
use Rattle.image_check.specs.KeptLaws.{kept_next, kept_start, sure_of_area}
use Rattle.image_check.specs.WrongValues.{sooner_of}
use Rattle.image_check.specs.declared.wrong_value.WrongValue.{WrongValue}
use Rattle.shown_leaves.specs.Copies.{DecidesCopy}
use Rattle.shown_leaves.proofs.CopiedNodes.{copy_next, false_end, false_next, false_start, placed_kept, read_kept, right_end}
use Rattle.shown_leaves.proofs.Members.{no_left}
use Rattle.shown_leaves.proofs.copies.first_false_copy.Goals as goal

pub comparing-init : goal.comparing-init
comparing-init g c =
    let old = g.V.Volume.state c.args.volume.now in
    record {
      kept = kept_start old;
      found = λ parts read. false_start old.holds parts c.args.references.now c.args.committed.now c.args.copies.now read;
    }

pub comparing-preserved-then-not-branch : goal.comparing-preserved-then-not-branch
comparing-preserved-then-not-branch g c =
    let old = g.V.Volume.state c.args.volume.now in
    let now = g.V.Volume.state c.comparing.volume in
    let new = g.V.Volume.state c.is_copy.new.volume in
    let i = c.comparing.invariant in
    let same = i.kept.keeps.holds in
    let none : c.in_ok-is_copy.field-0 ≡ false = search rules in
    record {
      kept = kept_next old now new i.kept c.is_copy.ensures.keeps c.is_copy.ensures.shape c.in_ok-is_copy.ensures.cause (sure_of_area now new c.is_copy.result c.is_copy.ensures.sure);
      found = λ parts read. false_next old.holds parts c.comparing.left.now c.in-Some.rest.now c.in-Some.copy.now c.comparing.first c.sooner-first.result c.in-Some.ensures.cases.0
          (c.sooner-first.ensures ∙ ap (λ (w : WrongValue). sooner_of c.comparing.first (Some w)) c.wrong_node.ensures)
          (λ x placed is. subst (DecidesCopy parts x) none (c.in_ok-is_copy.ensures.copy parts x (read_kept old.holds now.holds same parts.named parts.committed c.args.references.now c.args.committed.now read.leaves) (placed_kept old.holds now.holds same x placed) is))
          (i.found parts read);
    }

pub comparing-preserved : goal.comparing-preserved
comparing-preserved g c =
    let old = g.V.Volume.state c.args.volume.now in
    let now = g.V.Volume.state c.comparing.volume in
    let new = g.V.Volume.state c.is_copy.new.volume in
    let i = c.comparing.invariant in
    let same = i.kept.keeps.holds in
    let copied : c.in_ok-is_copy.field-0 ≡ true = search rules in
    record {
      kept = kept_next old now new i.kept c.is_copy.ensures.keeps c.is_copy.ensures.shape c.in_ok-is_copy.ensures.cause (sure_of_area now new c.is_copy.result c.is_copy.ensures.sure);
      found = λ parts read. copy_next old.holds parts c.comparing.left.now c.in-Some.rest.now c.in-Some.copy.now c.comparing.first c.in-Some.ensures.cases.0
          (λ x placed is. subst (DecidesCopy parts x) copied (c.in_ok-is_copy.ensures.copy parts x (read_kept old.holds now.holds same parts.named parts.committed c.args.references.now c.args.committed.now read.leaves) (placed_kept old.holds now.holds same x placed) is))
          (i.found parts read);
    }

pub returns-clause-first : goal.returns-clause-first
returns-clause-first g c parts read =
    false_end (g.V.Volume.state c.args.volume.now).holds parts c.comparing.left.now c.comparing.first (no_left c.comparing.left.now c.in_default.ensures.cases) (c.comparing.invariant.found parts read)

pub returns-clause-copies : goal.returns-clause-copies
returns-clause-copies g c parts read =
    right_end (g.V.Volume.state c.args.volume.now).holds parts c.comparing.left.now c.comparing.first (no_left c.comparing.left.now c.in_default.ensures.cases) (c.comparing.invariant.found parts read)
