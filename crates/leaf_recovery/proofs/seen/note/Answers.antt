use Rattle.std.proofs.Common.{◌≡◌, ◌||◌, refl, sym, subst}
use Rattle.journal_scan.specs.declared.node_content.NodeContent.{NodeContent}
use Rattle.leaf_recovery.specs.declared.seen.Seen.{Seen}
use Rattle.leaf_recovery.specs.Seen.{has_seen}
use Rattle.leaf_recovery.specs.Things.{shows_told}
use Rattle.leaf_recovery.proofs.Seeing.{name_noted}
use Rattle.leaf_recovery.proofs.seen.note.Goals as goal

pub returns-in_ok-note_name-in-Entry : goal.returns-in_ok-note_name-in-Entry
returns-in_ok-note_name-in-Entry c =
    let s : Seen = c.args.seen.now in
    let t : Seen = record { inodes = s.inodes; blocks = s.blocks; names = c.note_name.new.names; cuts = s.cuts } in
    subst (λ (n : NodeContent). (d : NodeContent) → has_seen t d ≡ (shows_told n d || has_seen s d)) (sym c.in-Entry.is)
    (name_noted c.in-Entry.dir c.in-Entry.name c.in-Entry.linked s t refl refl c.in_ok-note_name-in-Entry.ensures refl)
