use Rattle.leaf_map.specs.Recovered.{recovered_of}
use Rattle.sound_image.specs.Breaches.{IsWrongInTree}
use Rattle.sound_image.specs.Image.{Image, parts_of}
use Rattle.sound_image.specs.Tree.{HasTree}
use Rattle.sound_image.specs.declared.rule.Rule.TheVariants as rules
use Rattle.tree_check.specs.Told.{AreShownBy}
use Rattle.image_tree.specs.Reads.{IsJournalOfImage, IsTreeReadOf}
use Rattle.image_tree.proofs.Judging.{answered_broken, answered_met}
use Rattle.image_tree.proofs.tree.check_tree.Goals as goal

pub returns-in-Ok-clause-met : goal.returns-in-Ok-clause-met
returns-in-Ok-clause-met g c =
    let old = g.V.Volume.state c.args.volume.now in
    answered_met rules.Tree (λ (image : Image). IsJournalOfImage old.holds c.args.leaves.now c.args.references.now c.args.journal.now image) (λ (image : Image). IsTreeReadOf old.holds image c.args.read.now)
    (λ (image : Image). HasTree old.holds (parts_of image)) (λ image shown. AreShownBy (recovered_of (parts_of image)).kept shown.items)
    c.in-Ok.found.wrong c.answer.result c.in-Ok.found.shown c.answer.ensures.judged c.answer.ensures.same c.in-Ok.ensures.right c.in-Ok.ensures.shown

pub returns-in-Ok-clause-broken : goal.returns-in-Ok-clause-broken
returns-in-Ok-clause-broken g c =
    let old = g.V.Volume.state c.args.volume.now in
    answered_broken rules.Tree (λ (image : Image). IsJournalOfImage old.holds c.args.leaves.now c.args.references.now c.args.journal.now image) (λ (image : Image). IsTreeReadOf old.holds image c.args.read.now)
    (λ (image : Image). IsWrongInTree old.holds c.args.master.now (parts_of image)) c.in-Ok.found.wrong c.answer.result c.answer.ensures.judged c.in-Ok.ensures.first
