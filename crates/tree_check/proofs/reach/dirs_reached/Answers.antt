use Rattle.std.proofs.Common.{◌≡◌, ◌-◌, ℕ, suc, List, filter, ap, ◌∙◌, arith}
use Rattle.std.specs.Prelude.{is_some}
use Rattle.std.specs.BTreeMap.{is_at}
use Rattle.std.specs.Map.{lookup}
use Rattle.std.specs.Ordering.{nat_cmp}
use Rattle.tree_check.specs.Reach.{has, mem, reaches}
use Rattle.tree_check.specs.declared.link.Link.{Link}
use Rattle.tree_check.proofs.DirsReached.{reached_at_once, reached_below}
use Rattle.tree_check.proofs.reach.dirs_reached.Goals as goal

pub returns-then-steps-eq0 : goal.returns-then-steps-eq0
returns-then-steps-eq0 c = λ q.
    let none : 0 ≡ c.args.steps = omega (arith, c.if-steps-eq0.true) in
    reached_at_once c.args.links.now (has c.new.result) (λ d. ap (λ es. is_some (lookup (is_at (nat_cmp d)) es)) c.new.ensures.empty) q ∙ ap (λ (n : ℕ). reaches c.args.links.now n q) none

pub returns : goal.returns
returns c = λ q.
    let links = c.args.links.now in
    let dirs = c.in_ok-dirs.dirs.items in
    let steps = c.args.steps - 1 in
    let is : suc steps ≡ c.args.steps = omega (arith, c.if-steps-eq0.false) in
    let kept = c.as_slice-2.ensures.value ∙ c.in_ok-between.ensures ∙ ap (λ (ds : List ℕ). filter (λ (link : Link). mem link.ino ds) links) c.as_slice.ensures.value in
    let same = λ (d : ℕ). c.in_ok-reached.ensures d ∙ ap (λ (ls : List Link). reaches ls steps d) kept in
    reached_below dirs links c.in_ok-dirs.ensures.among steps (has c.in_ok-reached.reached) same q ∙ ap (λ (n : ℕ). reaches links n q) is
