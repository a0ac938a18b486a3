use Rattle.std.proofs.Common.{◌∙◌, ◌++◌, ◌∷◌, [], List, ap, sym, subst, rules, append_assoc, append-nil}
use Rattle.index_tree.specs.declared.leaf.Leaf.{Leaf}
use Rattle.image_check.specs.WrongValues.{IsFirstOf}
use Rattle.shown_leaves.proofs.Members.{no_left}
use Rattle.shown_leaves.proofs.SameLeaves.{seen_next, twice_again, twice_new}
use Rattle.shown_leaves.specs.Spots.{IsTwiceIn}
use Rattle.shown_leaves.proofs.twice.first_seen.Goals as goal

pub seeing-preserved-then-not-branch : goal.seeing-preserved-then-not-branch
seeing-preserved-then-not-branch c =
    let (done, all, seen, first) = c.seeing.invariant in
    let cut = c.in-Some.ensures.cases.0 in
    let leaf = c.in-Some.leaf.now in
    let rest = c.in-Some.rest.now in (
      done ++ leaf ∷ [],
      append_assoc done (leaf ∷ []) rest ∙ ap (λ (ts : List Leaf). done ++ ts) (sym cut) ∙ all,
      seen_next c.seeing.seen c.is_new.new.seen done leaf seen c.in_ok-is_new.ensures.seen,
      twice_again done leaf c.seeing.first c.sooner-first.result (search rules) (search rules) first,
    )

pub seeing-preserved : goal.seeing-preserved
seeing-preserved c =
    let (done, all, seen, first) = c.seeing.invariant in
    let cut = c.in-Some.ensures.cases.0 in
    let leaf = c.in-Some.leaf.now in
    let rest = c.in-Some.rest.now in (
      done ++ leaf ∷ [],
      append_assoc done (leaf ∷ []) rest ∙ ap (λ (ts : List Leaf). done ++ ts) (sym cut) ∙ all,
      seen_next c.seeing.seen c.is_new.new.seen done leaf seen c.in_ok-is_new.ensures.seen,
      twice_new done leaf c.seeing.first (search rules) first,
    )

pub returns : goal.returns
returns c =
    let (done, all, seen, first) = c.seeing.invariant in
    let P : List Leaf → Type 0 = λ ts. IsFirstOf (IsTwiceIn ts) c.seeing.first in
    subst P (sym (append-nil done) ∙ ap (λ (ts : List Leaf). done ++ ts) (sym (no_left c.seeing.left.now c.in_default.ensures.cases)) ∙ all) first
