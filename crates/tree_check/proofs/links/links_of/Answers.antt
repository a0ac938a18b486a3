use Rattle.std.proofs.Common.{List, IsPermutation, sym, subst}
use Rattle.std.proofs.lemmas.List.Sorted.{IsPermutation-refl}
use Rattle.tree_check.specs.Links.{links_shown}
use Rattle.tree_check.specs.declared.link.Link.{Link}
use Rattle.tree_check.proofs.SameLinks.{same_links}
use Rattle.tree_check.proofs.links.links_of.Goals as goal

pub returns-then-go_up : goal.returns-then-go_up
returns-then-go_up c =
    let P : List Link → Type 0 = λ ls. IsPermutation ls (links_shown c.args.leaves.now) in
    subst P (sym c.in_ok-links.ensures) (same_links c.args.leaves.now (c.requires c.if-go_up.true))

pub returns : goal.returns
returns c =
    let P : List Link → Type 0 = λ ls. IsPermutation ls (links_shown c.args.leaves.now) in
    subst P (sym c.in_ok-named.ensures) (IsPermutation-refl (links_shown c.args.leaves.now))
