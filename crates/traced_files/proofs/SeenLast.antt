-- Behind a sync that was done, and no other line, all that a cut leaves of what it synced is what callers saw last.
use Rattle.std.proofs.Common.{◌≡◌, ◌⊎◌, inl, inr, Bool, true, false, ◌&&◌, List, [], ◌∷◌, ◌++◌, refl, sym, ap, subst, ◌∙◌}
use Rattle.std.specs.Prelude.{not}
use Rattle.std.proofs.lemmas.Bool.{false≢true}
use Rattle.std.proofs.lemmas.List.{append-nil}
use Rattle.fs_model.specs.declared.trace.TraceLine.{TraceLine}
use Rattle.fs_model.specs.Files.{Files, Tree}
use Rattle.fs_model.specs.Journal.{Journal, MayLeave}
use Rattle.buffered_files.specs.Cuts.{TreePlace, ValuesOf, value_at}
use Rattle.traced_files.specs.History.{files_after_line, files_behind}
use Rattle.traced_files.specs.Seen.{LeavesSeen, ValuesBefore, WasSeen, is_synced_by, stays_unsynced}

synced_last : (files : Files) (lines : List TraceLine) (line : TraceLine) (place : TreePlace) → is_synced_by (files_behind files lines) line.caller line.op line.reply place ≡ true → stays_unsynced files (lines ++ line ∷ []) place ≡ false
synced_last files [] line place sync = ap (λ (b : Bool). not b && true) sync
synced_last files (x ∷ lines) line place sync =
    let first : Bool = not (is_synced_by files x.caller x.op x.reply place) in
    ap (λ (b : Bool). first && b) (synced_last (files_after_line files x) lines line place sync) ∙ never first
  where
    never : (b : Bool) → (b && false) ≡ false
    never true = refl
    never false = refl

no_more : {A : Type 0} (first rest : List A) → first ++ rest ≡ [] → rest ≡ []
no_more [] rest none = none
no_more (x ∷ first) rest none = absurd cc

-- so nothing stands behind the line after which a value was seen
none_behind : (files : Files) (first rest lines : List TraceLine) (line : TraceLine) (place : TreePlace) → lines ++ line ∷ [] ≡ first ++ rest → is_synced_by (files_behind files lines) line.caller line.op line.reply place ≡ true → stays_unsynced (files_behind files first) rest place ≡ true → rest ≡ []
none_behind files [] rest lines line place are sync still = absurd (false≢true (sym (synced_last files lines line place sync) ∙ ap (λ (xs : List TraceLine). stays_unsynced files xs place) are ∙ still))
none_behind files (x ∷ first) rest [] line place are sync still = let none : first ++ rest ≡ [] = cc in no_more first rest none
none_behind files (x ∷ first) rest (y ∷ lines) line place are sync still =
    let same : lines ++ line ∷ [] ≡ first ++ rest = cc in
    let head : y ≡ x = cc in
    none_behind (files_after_line files x) first rest lines line place same (subst (λ (z : TraceLine). is_synced_by (files_behind (files_after_line files z) lines) line.caller line.op line.reply place ≡ true) head sync) still

pub seen_behind_sync : (opening : Files) (before now : Journal) (lines : List TraceLine) (line : TraceLine) (left : Tree) (place : TreePlace) → is_synced_by (files_behind opening lines) line.caller line.op line.reply place ≡ true → LeavesSeen opening before (lines ++ line ∷ []) now → MayLeave now left
    → ValuesOf (files_behind opening (lines ++ line ∷ [])).tree place (value_at left place)
seen_behind_sync opening before now lines line left place sync leaves may = by (leaves left place may)
  where
    by : WasSeen opening (lines ++ line ∷ []) place (value_at left place) ⊎ ((stays_unsynced opening (lines ++ line ∷ []) place ≡ true) × ((old : Tree) × MayLeave before old × (value_at left place ≡ value_at old place)))
        → ValuesOf (files_behind opening (lines ++ line ∷ [])).tree place (value_at left place)
    by (inl seen) =
        let none = none_behind opening seen.first seen.rest lines line place seen.all sync seen.unsynced in
        let all : lines ++ line ∷ [] ≡ seen.first = seen.all ∙ ap (λ (rest : List TraceLine). seen.first ++ rest) none ∙ append-nil seen.first in
        subst (λ (first : List TraceLine). ValuesOf (files_behind opening first).tree place (value_at left place)) (sym all)
        (subst (λ (rest : List TraceLine). ValuesBefore (files_behind opening seen.first) rest place (value_at left place)) none seen.seen)
    by (inr (still, old)) = absurd (false≢true (sym (synced_last opening lines line place sync) ∙ still))
