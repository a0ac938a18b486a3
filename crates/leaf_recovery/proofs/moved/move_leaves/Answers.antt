use Rattle.std.proofs.Common.{◌∙◌, ap, length, sym, List}
use Rattle.std.specs.Prelude.{is_some}
use Rattle.std.specs.BTreeMap.{get}
use Rattle.std.specs.List.{list_any}
use Rattle.std.specs.Ordering.{nat_cmp}
use Rattle.std.proofs.lemmas.Bool.{eqb-true}
use Rattle.leaf_recovery.specs.declared.recovered_leaf.RecoveredLeaf.{RecoveredLeaf}
use Rattle.leaf_recovery.specs.Moved.{is_bare_told}
use Rattle.leaf_recovery.proofs.Moving.{moved_is, none_moved}
use Rattle.leaf_recovery.proofs.moved.move_leaves.Goals as goal

pub returns-then-is_empty : goal.returns-then-is_empty
returns-then-is_empty c = none_moved c.args.references.now c.args.copies.now c.args.kept.items (eqb-true (length c.args.copies.now) 0 (sym c.is_empty.ensures ∙ c.if-is_empty.true))

pub returns : goal.returns
returns c =
    c.in_ok-moved.ensures
    ∙ moved_is c.args.references.now c.args.copies.now c.args.kept.items (λ lnum. is_some (get nat_cmp c.in_ok-stays.stays lnum))
    (λ lnum. c.in_ok-stays.ensures lnum ∙ ap (λ (xs : List RecoveredLeaf). list_any (is_bare_told c.args.copies.now lnum) xs) c.as_slice.ensures.value)
