use Rattle.std.proofs.Common.{ℕ, ◌==◌, cond, Option, sym, subst, ◌∙◌}
use Rattle.std.proofs.lemmas.List.Sorted.{sum_by-IsPermutation}
use Rattle.leaf_map.specs.Shown.{tree_of}
use Rattle.sound_image.specs.Breaches.{IsWrongLinkOf}
use Rattle.image_check.specs.WrongValues.{IsFirstOf}
use Rattle.image_check.specs.declared.wrong_value.WrongValue.{WrongValue}
use Rattle.tree_check.specs.declared.link.Link.{Link}
use Rattle.tree_check.specs.Links.{count_to, links_shown}
use Rattle.tree_check.proofs.LinkFirst.{link_first}
use Rattle.tree_check.proofs.link_check.first_wrong_link.Goals as goal

pub returns : goal.returns
returns c = λ kept highest h.
    let P : Option WrongValue → Type 0 = λ found. IsFirstOf (IsWrongLinkOf kept (tree_of kept highest)) found in
    let links = c.in_ok-links_of.field-0.items in
    let kept_links = c.links_by_inode-links.result.links.items in
    let counted = λ (q : ℕ).
    sum_by-IsPermutation (λ (link : Link). cond (link.ino == q) 1 0) links kept_links c.links_by_inode-links.ensures
    ∙ sym (sum_by-IsPermutation (λ (link : Link). cond (link.ino == q) 1 0) links (links_shown c.args.leaves.now) c.in_ok-links_of.ensures) in
    subst P (sym c.first_link.ensures) (link_first c.args.leaves.now (count_to kept_links) counted kept highest h)
