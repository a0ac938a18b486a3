use Rattle.std.proofs.Common.{Bool, sym, ◌∙◌}
use Rattle.tree_check.specs.Reach.{has}
use Rattle.tree_check.specs.declared.link.Link.{Link}
use Rattle.tree_check.proofs.DirsReached.{any_first, any_none, any_rest}
use Rattle.tree_check.proofs.reach.do_lead.Goals as goal

pub returns-then-is_in : goal.returns-then-is_in
returns-then-is_in c =
    let p : Link → Bool = λ link. has c.args.dirs.now link.dir in
    sym (any_first p c.going.left.now c.in-Some.rest.now c.in-Some.link.now c.in-Some.ensures.cases.0 (sym c.is_in.ensures ∙ c.if-is_in.true)) ∙ c.going.invariant

pub going-preserved : goal.going-preserved
going-preserved c =
    let p : Link → Bool = λ link. has c.args.dirs.now link.dir in
    sym (any_rest p c.going.left.now c.in-Some.rest.now c.in-Some.link.now c.in-Some.ensures.cases.0 (sym c.is_in.ensures ∙ c.if-is_in.false)) ∙ c.going.invariant

pub returns : goal.returns
returns c =
    let p : Link → Bool = λ link. has c.args.dirs.now link.dir in
    any_none p c.going.left.now c.in_default.ensures.cases ∙ c.going.invariant
