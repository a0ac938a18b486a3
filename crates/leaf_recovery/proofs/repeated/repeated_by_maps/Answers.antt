use Rattle.std.proofs.Common.{◌≡◌, ◌∙◌, ◌||◌, ◌++◌, ◌+◌, ◌∷◌, [], sym, ap, subst, List, drop}
use Rattle.leaf_recovery.specs.declared.recovered_leaf.RecoveredLeaf.{RecoveredLeaf}
use Rattle.leaf_recovery.specs.Repeated.{repeated_behind_told}
use Rattle.leaf_recovery.specs.Seen.{has_seen}
use Rattle.leaf_recovery.specs.Things.{shows_told}
use Rattle.leaf_recovery.proofs.RepeatedTold.{one_item, repeated_on}
use Rattle.leaf_recovery.proofs.repeated.repeated_by_maps.Goals as goal

pub loop-leaf-preserved : goal.loop-leaf-preserved
loop-leaf-preserved c =
    let before = c.loop-leaf.invariant.0 in
    let found = c.args.found.now in
    let x : RecoveredLeaf = c.leaf-item.result in
    let i = c.loop-leaf.leaf-index in
    let items = one_item found i x c.loop-leaf-test.true c.leaf-item.is in
    let whole = repeated_behind_told [] found in
    let now = subst (λ (xs : List RecoveredLeaf). c.loop-leaf.repeated.items ++ repeated_behind_told before xs ≡ whole) items c.loop-leaf.invariant.2 in
    let on = repeated_on before (drop (i + 1) found) c.loop-leaf.repeated.items whole x (has_seen c.loop-leaf.seen x.content) (c.loop-leaf.invariant.1 x.content) now in (
      x ∷ before,
      λ d. c.in_ok-note.ensures d ∙ ap (λ b. shows_told x.content d || b) (c.loop-leaf.invariant.1 d),
      subst (λ (xs : List RecoveredLeaf). xs ++ repeated_behind_told (x ∷ before) (drop (i + 1) found) ≡ whole) (sym c.in_ok-keep_repeated.ensures) on,
    )
