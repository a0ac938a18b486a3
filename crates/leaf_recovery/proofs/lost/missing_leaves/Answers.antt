use Rattle.std.proofs.Common.{◌≡◌, ◌∙◌, List, [], ◌∷◌, length, refl, sym, arith}
use Rattle.std.proofs.lemmas.Bool.{eqb-true}
use Rattle.journal_scan.specs.declared.journal_node.JournalNode.{JournalNode}
use Rattle.leaf_recovery.specs.Lost.{spare_names_told, unnamed_told}
use Rattle.leaf_recovery.specs.declared.lost_leaf.LostLeaf.{LostLeaf}
use Rattle.leaf_recovery.proofs.lost.missing_leaves.Goals as goal

none_lost : (names : List JournalNode) (lost : List LostLeaf) → length lost ≡ 0 → [] ≡ unnamed_told names lost
none_lost names [] h = refl
none_lost names (x ∷ lost) h = absurd (omega (arith, h))

pub returns-then-is_empty : goal.returns-then-is_empty
returns-then-is_empty c = c.new.ensures.items ∙ none_lost (spare_names_told c.args.references.now c.args.committed.now c.args.found.now c.args.nodes.now) c.args.lost.now (eqb-true (length c.args.lost.now) 0 (sym c.is_empty.ensures ∙ c.if-is_empty.true))
