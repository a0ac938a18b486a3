use Rattle.std.proofs.Common.{◌==◌, ap, length, List, ◌∙◌}
use Rattle.std.proofs.lemmas.List.Sums.{length-filter}
use Rattle.tree_check.specs.declared.link.Link.{Link}
use Rattle.tree_check.proofs.counts.count_to.Goals as goal

pub returns : goal.returns
returns c = ap (λ (ls : List Link). length ls) c.links_to.ensures ∙ length-filter (λ (link : Link). link.ino == c.args.ino) c.args.links.now.links.items
