use Rattle.std.proofs.Common.{◌≡◌, ◌∙◌, ◌∷◌, ◌++◌, List, [], length, ap, arith, sym, length-append}
use Rattle.std.specs.Prelude.{reverse}
use Rattle.std.proofs.lemmas.List.{reverse-append}
use Rattle.fs_model.specs.declared.change.Change.{Change}
use Rattle.fs_model.specs.Change.{apply}
use Rattle.fs_model.specs.Files.{Tree}
use Rattle.recovered_tree.proofs.tree_made.make_all.Goals as goal

pub loop-change-smaller : goal.loop-change-smaller
loop-change-smaller c =
    let rest = c.pop.new.self.items in
    let is = ap length c.in-Some.ensures.items in
    let long = length-append rest (c.in-Some.change ∷ []) in
    omega (arith, is, long)

pub loop-change-preserved : goal.loop-change-preserved
loop-change-preserved c =
    let rest = c.pop.new.self.items in
    let change = c.in-Some.change in
    let left : reverse c.loop-change.changes.items ≡ change ∷ reverse rest = ap reverse c.in-Some.ensures.items ∙ reverse-append rest (change ∷ []) in
    let made = c.in_ok-apply.ensures.ok ∙ ap (apply c.loop-change.tree) (c.in_ok-push.ensures.ok ∙ ap (λ (cs : List Change). cs ++ change ∷ []) c.new-group.ensures) in
    ap (λ (t : Tree). apply t (reverse rest)) made ∙ ap (apply c.loop-change.tree) (sym left) ∙ c.loop-change.invariant
