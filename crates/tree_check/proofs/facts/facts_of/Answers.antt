use Rattle.std.proofs.Common.{ℕ, ◌==◌, cond, List, sym, ap, ◌∙◌, IsPermutation}
use Rattle.std.proofs.lemmas.List.Sorted.{IsPermutation-sym, IsPermutation-trans, sum_by-IsPermutation}
use Rattle.tree_check.specs.Kinds.{inodes_shown}
use Rattle.tree_check.specs.Links.{links_shown}
use Rattle.tree_check.specs.Reach.{has, is_reached, reaches}
use Rattle.tree_check.specs.declared.link.Link.{Link}
use Rattle.tree_check.proofs.SameLinks.{reaches_same}
use Rattle.tree_check.proofs.facts.facts_of.Goals as goal

pub returns : goal.returns
returns c =
    let links = c.links_by_inode-names.result.links.items in
    let shown = links_shown c.args.leaves.now in
    let steps = inodes_shown c.args.leaves.now in
    let given = c.in_ok-links_of.field-0.items in
    let same : IsPermutation links shown = IsPermutation-trans links given shown (IsPermutation-sym given links c.links_by_inode-names.ensures) c.in_ok-links_of.ensures in
    let dirs = has c.in_ok-dirs.dirs in
    record {
      kind = c.in_ok-kinds.ensures;
      names = λ q. sym (sum_by-IsPermutation (λ (link : Link). cond (link.ino == q) 1 0) links shown same);
      reached = λ q.
          ap (λ (ls : List Link). is_reached ls dirs q) (sym c.as_slice.ensures.value)
          ∙ c.in_ok-dirs.ensures q
          ∙ ap (λ (ls : List Link). reaches ls c.count_inodes.result q) c.as_slice.ensures.value
          ∙ ap (λ (n : ℕ). reaches links n q) c.count_inodes.ensures
          ∙ reaches_same links shown same steps q;
    }
