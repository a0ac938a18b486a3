use Rattle.std.proofs.Common.{◌≡◌, Option, sym, subst, ap, ◌∙◌}
use Rattle.journal_scan.specs.declared.journal_node.JournalNode.{JournalNode}
use Rattle.log_replay.specs.declared.application.Place.{Place}
use Rattle.log_replay.specs.Changes.{place_of_node}
use Rattle.log_replay.specs.Noting.{Notes}
use Rattle.log_replay.specs.Placing.{Places, moved_to}
use Rattle.log_replay.specs.Standing.{leaves_in}
use Rattle.log_replay.proofs.placing.place_leaf.Goals as goal

pub returns-clause-places : goal.returns-clause-places
returns-clause-places c =
    let P : Option JournalNode → Type 0 = λ o. Places (record c.args.read { node = o }) c.args.standing.now c.note_leaf.new.standing in
    let m = c.move_leaf.ensures in
    let place : c.place_of.result ≡ place_of_node c.in-Some.node = c.place_of.ensures ∙ ap place_of_node c.in-Some.node-is in
    let moved = m.leaves ∙ ap (λ (p : Place). moved_to p c.args.read.leaf (leaves_in c.args.standing.now)) place in
    let notes = subst (λ (n : JournalNode). Notes n c.move_leaf.new.standing c.note_leaf.new.standing) c.in-Some.node-is c.in_ok-note_leaf.ensures.notes in
    subst P (sym c.in-Some.is) (c.move_leaf.new.standing, moved, m.inodes, m.names, c.note_leaf.ensures.index, notes)
