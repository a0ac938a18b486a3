-- What a cut may leave of what is stored: of a volume on which nothing was put, and behind a line.
use Rattle.std.proofs.Common.{◌≡◌, inl, inr, ℕ, true, List, [], ◌∷◌, ◌++◌, refl, sym, ap, subst, ◌∙◌}
use Rattle.ubifs_base.specs.declared.raw_geometry.RawGeometry.{RawGeometry}
use Rattle.fs_model.specs.declared.backing_answers.Mode.{Mode}
use Rattle.fs_model.specs.declared.space.Space.{Space}
use Rattle.fs_model.specs.declared.trace.TraceLine.{TraceLine}
use Rattle.fs_model.specs.Backing.{BackingState}
use Rattle.fs_model.specs.Files.{Files, Tree}
use Rattle.fs_model.specs.Journal.{AreSynced, IfTold, IsJournalOf, Journal, MayLeave}
use Rattle.fs_model.specs.JournalLaws.{Synced-leaves}
use Rattle.fs_model.specs.Orphan.{without_nameless}
use Rattle.fs_model.specs.Recovery.{Head, IsRecovered}
use Rattle.buffered_files.specs.Cuts.{TreePlace, Value, ValuesOf, value_at}
use Rattle.plain_backing.specs.declared.backing.PlainBacking.{PlainBacking}
use Rattle.plain_backing.specs.PlainBacking.{new_state, backing_state_of}
use Rattle.plain_backing.specs.Story.{medium_of}
use Rattle.plain_backing.specs.StoryLaws.{story_journal}
use Rattle.traced_files.specs.History.{files_after_line, files_behind}
use Rattle.traced_files.specs.Seen.{LeavesSeen, ValuesBefore, WasSeen, stays_unsynced}
use Rattle.script_run.specs.Run.{LeavesOnly}

-- what a backing tells of its journal is so of its tree
pub told_journal : (backing : PlainBacking) → IfTold (backing_state_of backing).journal (IsJournalOf (backing_state_of backing).tree)
told_journal backing = story_journal backing.tree backing.story.value backing.told

-- a cut may leave the tree
pub stored_left : (backing : PlainBacking) → MayLeave (backing_state_of backing).journal (without_nameless (backing_state_of backing).tree)
stored_left backing = ((medium_of backing.story.value).heads, refl, (told_journal backing).left)

-- of a tree on which nothing was put it leaves nothing else
pub new_leaves : (backing : PlainBacking) (geo : RawGeometry) (tree : Tree) (space : Space) (room : ℕ) (mode : Mode) → backing_state_of backing ≡ new_state geo tree space room mode → LeavesOnly (backing_state_of backing).journal tree
new_leaves backing geo tree space room mode new = (subst stays (ap (λ (state : BackingState). state.tree) new) (stored_left backing), none)
  where
    stays : Tree → Type 0
    stays kept = MayLeave (backing_state_of backing).journal (without_nameless kept)

    none : (left : Tree) → MayLeave (backing_state_of backing).journal left → left ≡ without_nameless tree
    none left (heads, same, may) =
        let medium = medium_of backing.story.value in
        let P : BackingState → Type 0 = λ state. IfTold state.journal (λ m. AreSynced m.heads) in
        let Q : List Head → Type 0 = λ hs. IsRecovered medium.committed hs left in
        Synced-leaves backing.tree medium (told_journal backing) (subst P (sym new) refl) left (subst Q same may) ∙ ap (λ (state : BackingState). without_nameless state.tree) new

-- a line of another number
seen_numbered : (files : Files) (line : TraceLine) (n : ℕ) (place : TreePlace) (value : Value) (first rest : List TraceLine) → line ∷ [] ≡ first ++ rest → stays_unsynced (files_behind files first) rest place ≡ true → ValuesBefore (files_behind files first) rest place value
    → WasSeen files (record line { number = n } ∷ []) place value
seen_numbered files line n place value [] rest all still is =
    let P : List TraceLine → Type 0 = λ xs. (stays_unsynced files xs place ≡ true) × ValuesBefore files xs place value in
    let at = subst P (sym all) (still, is) in
    record { first = []; rest = record line { number = n } ∷ []; all = refl; unsynced = at.0; seen = at.1 }
seen_numbered files line n place value (x ∷ []) [] all still is =
    let same : line ≡ x = cc in
    let P : TraceLine → Type 0 = λ l. ValuesOf (files_after_line files l).tree place value in
    record { first = record line { number = n } ∷ []; rest = []; all = refl; unsynced = refl; seen = subst P (sym same) is }
seen_numbered files line n place value (x ∷ []) (y ∷ rest) all still is = absurd cc
seen_numbered files line n place value (x ∷ y ∷ first) rest all still is = absurd cc

pub leaves_numbered : (files : Files) (before now : Journal) (line : TraceLine) (n : ℕ) → LeavesSeen files before (line ∷ []) now → LeavesSeen files before (record line { number = n } ∷ []) now
leaves_numbered files before now line n leaves left place may = elim (leaves left place may) [
  | inl seen ↦ inl (seen_numbered files line n place (value_at left place) seen.first seen.rest seen.all seen.unsynced seen.seen)
  | inr old ↦ inr (old.0, old.1)
]
