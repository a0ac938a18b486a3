use Rattle.std.proofs.Common.{◌∙◌, ap, sym}
use Rattle.recovered_tree.specs.Files.{files_of_image}
use Rattle.recovered_tree.proofs.Elsewhere.{files_elsewhere}
use Rattle.recovered_tree.proofs.laws.one_tree_is_read.Goals as goal

pub returns : goal.returns
returns c = λ contents a b bytes sound other.
    let one = c.contents_say_one_thing.ensures.image contents a b bytes sound other in
    sym (ap files_of_image one.1) ∙ files_elsewhere b a.latest one.0
