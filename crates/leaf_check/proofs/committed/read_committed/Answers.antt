use Rattle.std.proofs.Common.{◌≡◌, ◌∙◌, List, map, subst, sym}
use Rattle.std.specs.Prelude.{All}
use Rattle.std.specs.List.{AllByRecursion}
use Rattle.std.proofs.lemmas.List.Sorted.{All-permutation}
use Rattle.std.proofs.lemmas.List.Elements.{All-nil}
use Rattle.index_tree.specs.declared.leaf.Leaf.{Leaf}
use Rattle.leaf_map.specs.Parts.{Committed}
use Rattle.log_replay.specs.Replay.{told_committed}
use Rattle.log_replay.specs.Settling.{HasGrammar}
use Rattle.log_replay.specs.declared.committed_leaf.CommittedLeaf.{CommittedLeaf}
use Rattle.sound_image.specs.Leaves.{AreCommitted, HasItsNode}
use Rattle.image_check.specs.KeptLaws.{kept_next, sure_of_area}
use Rattle.leaf_check.proofs.CommittedLeaves.{intact_more, none_left, parted, read_end, read_more, read_start}
use Rattle.leaf_check.proofs.committed.read_committed.Goals as goal

pub reading-init : goal.reading-init
reading-init g c =
    let old = g.V.Volume.state c.args.volume.now in
    let P : List Leaf → Type 0 = λ xs. All (HasItsNode old.holds) xs in
    (read_start old c.args.leaves.now _ c.new-committed.ensures.items, subst P (sym c.new-intact.ensures.items) (All-nil (HasItsNode old.holds)))

pub returns-clause-read : goal.returns-clause-read
returns-clause-read g c =
    let old = g.V.Volume.state c.args.volume.now in
    let P : List CommittedLeaf → Type 0 = λ xs. (committed : List Committed) × AreCommitted old.holds c.args.leaves.now committed × AllByRecursion HasGrammar committed × (xs ≡ map told_committed committed) in
    subst P (sym c.ordered.ensures.leaves) (read_end old (g.V.Volume.state c.reading.volume) c.reading.left.now c.args.leaves.now c.reading.committed.items (none_left c.reading.left.now (sym c.is_empty.ensures ∙ c.reading-test.false)) c.reading.invariant.0)

pub returns-clause-intact : goal.returns-clause-intact
returns-clause-intact g c = All-permutation (HasItsNode (g.V.Volume.state c.args.volume.now).holds) _ _ c.ordered.ensures.intact c.reading.invariant.1

pub reading-preserved : goal.reading-preserved
reading-preserved g c =
    let old = g.V.Volume.state c.args.volume.now in
    let now = g.V.Volume.state c.reading.volume in
    let new = g.V.Volume.state c.read_batch.new.volume in
    let i = c.reading.invariant in
    let batch = c.split_at.result.0.now in
    let rest = c.split_at.result.1.now in
    let answers = c.in_ok-answers.answers.items in
    let cut = parted _ c.reading.left.now batch rest c.split_at.ensures.front c.split_at.ensures.back in
    let kept = kept_next old now new i.0.kept c.read_batch.ensures.keeps c.read_batch.ensures.shape c.in_ok-answers.ensures.cause (sure_of_area now new c.read_batch.result c.read_batch.ensures.sure) in (
      read_more old now new batch rest c.reading.left.now c.args.leaves.now c.reading.committed.items c.keep_answers.new.committed.items answers cut c.in_ok-answers.ensures.read c.in_ok-keep_answers.ensures.committed i.0 kept,
      intact_more now.holds old.holds batch answers c.reading.intact.items c.keep_answers.new.intact.items i.0.kept.keeps.holds c.in_ok-answers.ensures.read c.in_ok-keep_answers.ensures.intact i.1,
    )
