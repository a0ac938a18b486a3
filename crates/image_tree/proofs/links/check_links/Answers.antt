use Rattle.leaf_map.specs.Parts.{Parts}
use Rattle.leaf_map.specs.Recovered.{recovered_of, tree_found}
use Rattle.sound_image.specs.Breaches.{IsWrongLink}
use Rattle.sound_image.specs.Tree.{HasLinks}
use Rattle.sound_image.specs.declared.rule.Rule.TheVariants as rules
use Rattle.tree_check.specs.Told.{AreShownBy}
use Rattle.image_tree.proofs.Judging.{judged_broken, judged_met}
use Rattle.image_tree.proofs.links.check_links.Goals as goal

pub returns-in-Ok-clause-met : goal.returns-in-Ok-clause-met
returns-in-Ok-clause-met c =
    judged_met rules.Links (λ (parts : Parts). AreShownBy (recovered_of parts).kept c.args.shown.now) IsWrongLink (λ (parts : Parts). HasLinks (tree_found parts)) c.in-Ok.found c.judge.result c.judge.ensures
    (λ parts shows. c.in-Ok.ensures (recovered_of parts).kept (recovered_of parts).highest shows)
    (λ parts none. c.no_wrong_link_means_right_links.ensures (recovered_of parts).kept (recovered_of parts).highest none)

pub returns-in-Ok-clause-broken : goal.returns-in-Ok-clause-broken
returns-in-Ok-clause-broken c =
    judged_broken rules.Links (λ (parts : Parts). AreShownBy (recovered_of parts).kept c.args.shown.now) IsWrongLink c.in-Ok.found c.judge.result c.judge.ensures
    (λ parts shows. c.in-Ok.ensures (recovered_of parts).kept (recovered_of parts).highest shows)
