use Rattle.std.proofs.Common.{◌≡◌, ℕ, List, [], subst}
use Rattle.std.specs.Prelude.{Option, Some, None}
use Rattle.fs_model.specs.declared.change.Change.{Change}
use Rattle.fs_model.specs.Files.{Tree}
use Rattle.fs_model.specs.Journal.{Journal, Medium, IfTold, IsJournalOf, MightLeave, AreSynced}
use Rattle.fs_model.specs.JournalLaws.{Synced-leaves, Synced-stays, Leaves-now, emptied}
use Rattle.fs_model.specs.Orphan.{without_nameless}
use Rattle.fs_model.specs.Recovery.{IsRecovered}
use Rattle.fs_model.specs.RecoveryLaws.{WouldLeave}
use Rattle.fs_model.proofs.law.a_cut_keeps_what_was_synced.Goals as goal

-- a journal with this medium
abbrev with : Journal → Option Medium → Journal
with journal medium = record journal { medium = medium }

told_now : (tree : Tree) (journal : Journal) (medium : Option Medium) → IfTold (with journal medium) (IsJournalOf tree) → IfTold (with journal medium) (λ m. AreSynced m.heads) → (left : Tree) → MightLeave (with journal medium) [] left → left ≡ without_nameless tree
told_now tree journal None is synced left may = absurd may
told_now tree journal (Some medium) is synced left (heads, put, recovered) = Synced-leaves tree medium is synced left (subst (λ h. IsRecovered medium.committed h left) put recovered)

told_later : (tree : Tree) (journal : Journal) (medium : Option Medium) (puts : List (ℕ × List Change)) → IfTold (with journal medium) (IsJournalOf tree) → IfTold (with journal medium) (λ m. AreSynced m.heads) → (left : Tree) → MightLeave (with journal medium) puts left
    → IfTold (with journal medium) (λ m. WouldLeave (without_nameless tree) m.sqnum (emptied m.heads) puts left)
told_later tree journal None puts is synced left may = tt
told_later tree journal (Some medium) puts is synced left (heads, put, recovered) = Synced-stays tree medium puts left is synced (record { after = heads; put = put; is = recovered })

pub returns-clause-now : goal.returns-clause-now
returns-clause-now c state is synced tree may = told_now state.tree state.journal state.journal.medium is synced.heads tree may

pub returns-clause-later : goal.returns-clause-later
returns-clause-later c state now puts left is synced leaves may = told_later state.tree state.journal state.journal.medium puts is synced.heads left (Leaves-now state.journal now puts leaves left may)
