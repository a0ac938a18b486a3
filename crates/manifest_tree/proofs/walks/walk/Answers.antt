use Rattle.std.proofs.Common.{◌≡◌, Ok, None, ap, rules, sym, ◌∙◌}
use Rattle.fs_model.specs.Path.{child}
use Rattle.manifest_tree.specs.Places.{entry_found}
use Rattle.manifest_tree.proofs.Walking.{walk_lost}
use Rattle.manifest_tree.proofs.walks.walk.Goals as goal

pub returns-in_default-2 : goal.returns-in_default-2
returns-in_default-2 c =
    let none : entry_found (child c.args.tree.now c.in-Some.name.now (Ok c.walking.at)) ≡ None = search rules in
    sym (ap entry_found (sym c.walking.invariant) ∙ walk_lost c.args.tree.now c.walking.at c.in-Some.name.now c.in-Some.rest.now c.walking.left.now c.in-Some.ensures.cases.0 none)
