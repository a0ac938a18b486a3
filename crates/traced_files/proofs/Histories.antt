-- A history goes on: by a caller's call, with a line more, and by work between them, without one.
use Rattle.std.proofs.Common.{◌≡◌, ◌⊎◌, inl, inr, true, false, ℕ, ◌+◌, ◌*◌, ◌≤◌, Bool, List, [], ◌∷◌, ◌++◌, length, refl, sym, ap, subst, ◌∙◌, append_assoc, arith}
use Rattle.std.specs.Prelude.{max, if◌then◌else◌}
use Rattle.std.specs.List.{flat_map}
use Rattle.std.proofs.lemmas.Bool.{false≢true}
use Rattle.std.proofs.lemmas.Grind.{flat_map-append}
use Rattle.std.proofs.lemmas.List.{append-nil, length-append}
use Rattle.std.proofs.lemmas.List.Concat.{flat_map-cons}
use Rattle.std.proofs.lemmas.List.Elements.{All-push}
use Rattle.ubifs_base.specs.declared.raw_geometry.RawGeometry.{RawGeometry}
use Rattle.fs_model.specs.declared.backing_answers.Mode.TheVariants.{ReadWrite}
use Rattle.fs_model.specs.declared.backing_answers.StoreFault.TheVariants.{Memory, Volume, ReadOnly as IsReadOnly}
use Rattle.fs_model.specs.declared.refusal.NoSpace.{NoSpace}
use Rattle.fs_model.specs.declared.refusal.Refusal.TheVariants.{Enomem}
use Rattle.fs_model.specs.declared.reply.Reply.{Reply}
use Rattle.fs_model.specs.declared.reply.Reply.TheVariants.{Refused}
use Rattle.fs_model.specs.declared.trace.TraceLine.{TraceLine}
use Rattle.fs_model.specs.Backing.{BackingState, ModeGoes, next_orphans, orphan_room}
use Rattle.fs_model.specs.Cover.{index_lebs}
use Rattle.fs_model.specs.Files.{Files}
use Rattle.fs_model.specs.Legal.{Opening, Place, behind, count_in, least_room, most_asked, next_number, sides_in}
use Rattle.buffered_files.specs.Calls.{full_weight}
use Rattle.vfs_ops.specs.declared.event.Event.{Event}
use Rattle.vfs_ops.specs.declared.event.Event.TheVariants.{Put}
use Rattle.vfs_ops.specs.declared.event.Outcome.{Outcome}
use Rattle.vfs_ops.specs.declared.event.Outcome.TheVariants.{PutDone, Stale, Fault}
use Rattle.vfs_ops.specs.Background.{IsBackgroundStep, added_in}
use Rattle.vfs_ops.specs.Operations.{nodes_asked}
use Rattle.vfs_ops.specs.FilesState.{FilesState, present_in}
use Rattle.vfs_ops.specs.Replies.{holds_bytes}
use Rattle.traced_files.specs.Laws.{AreLaws}
use Rattle.traced_files.specs.History.{AreRoomsTold, IsRoomAsked, IsRoomTold, IsHistory, IsWithinWeight, Rise, files_after_line, files_behind, grown_weight, is_flushed, place_after}
use Rattle.traced_files.specs.Replies.{IsToldAs}
use Rattle.traced_files.proofs.Answering.{IsCounted}
use Rattle.traced_files.proofs.Counts.{mode_after, mode_turns, rise_later, rise_on}
use Rattle.traced_files.proofs.Flushing.{flushed_on, line_flushes, work_flushes}
use Rattle.traced_files.proofs.Going.{IsMadeCall, IsReached, IsUnfailed, Stepped, WasEntered, alike_then, entered, entered_short, orphan_same, with_reply}
use Rattle.traced_files.proofs.Lines.{before_last, leads_on, leads_stay}
use Rattle.traced_files.proofs.Replaying.{behind_on}
use Rattle.traced_files.proofs.Sides.{lebs_mono}
use Rattle.traced_files.proofs.Weighing.{asked_grows, call_grows, grown_on, unfailed}

-- an index that grows with its weight stays below what a greater weight allows
index_on : (first old new lebs greatest : ℕ) → old ≤ max first (2 * lebs) → lebs ≤ greatest → (step : ℕ) → step ≤ greatest → new ≤ max old (2 * step) → new ≤ max first (2 * greatest)
index_on first old new lebs greatest was le step few is = omega (arith, was, le, few, is)

within_on : (opening : Opening) (noted : List NoSpace) (lines : List TraceLine) (s : Stepped) → AreLaws → IsMadeCall opening s → IsUnfailed s.line.reply → IsHistory opening noted lines s.old → IsWithinWeight opening lines s.old.backing s.old.kept → IsWithinWeight opening (lines ++ s.line ∷ []) s.new.backing s.new.kept
within_on opening noted lines s laws h whole history within =
    let more = grown_on opening lines s.line in
    let grows = call_grows opening s laws h whole in
    let short = asked_grows (present_in s.old) s.line.caller s.line.now s.line.op laws in
    let weight = within.weight in
    let geo : index_lebs s.old.backing.geometry (s.old.backing.space.weight + (2 * length s.old.kept.pages.dirty + nodes_asked (present_in s.old) s.line.caller s.line.now s.line.op)) ≤ index_lebs opening.geometry (grown_weight opening (lines ++ s.line ∷ [])) =
    subst (λ (g : RawGeometry). index_lebs g (s.old.backing.space.weight + (2 * length s.old.kept.pages.dirty + nodes_asked (present_in s.old) s.line.caller s.line.now s.line.op)) ≤ index_lebs opening.geometry (grown_weight opening (lines ++ s.line ∷ []))) (sym history.geometry)
    (lebs_mono opening.geometry (s.old.backing.space.weight + (2 * length s.old.kept.pages.dirty + nodes_asked (present_in s.old) s.line.caller s.line.now s.line.op)) (grown_weight opening (lines ++ s.line ∷ [])) (omega (arith, more, short, weight))) in
    record {
      weight = omega (arith, more, grows, weight);
      index = index_on opening.space.index s.old.backing.space.index s.new.backing.space.index (index_lebs opening.geometry (grown_weight opening lines)) (index_lebs opening.geometry (grown_weight opening (lines ++ s.line ∷ []))) within.index
          (lebs_mono opening.geometry (grown_weight opening lines) (grown_weight opening (lines ++ s.line ∷ [])) (omega (arith, more)))
          (index_lebs s.old.backing.geometry (s.old.backing.space.weight + (2 * length s.old.kept.pages.dirty + nodes_asked (present_in s.old) s.line.caller s.line.now s.line.op))) geo h.step.goes.index;
    }

-- what one line more tells
told_on : {A : Type 0} (f : TraceLine → List A) (lines : List TraceLine) (line : TraceLine) → flat_map f (lines ++ line ∷ []) ≡ flat_map f lines ++ f line
told_on {A = A} f lines line = flat_map-append f lines (line ∷ []) ∙ ap (λ (x : List A). flat_map f lines ++ x) (flat_map-cons f line [] ∙ append-nil (f line))

-- a store that can be written could be written before
open_before : (old new : BackingState) → ModeGoes old new → new.mode ≡ ReadWrite → old.mode ≡ ReadWrite
open_before old new (inl same) is = sym same ∙ is
open_before old new (inr (was, lost)) is = was

-- where a history stands when a call is made
reached_by : (opening : Opening) (noted : List NoSpace) (lines : List TraceLine) (s : Stepped) → AreLaws → IsMadeCall opening s → (history : IsHistory opening noted lines s.old) → s.line.number ≡ next_number lines s.line.caller → IsReached opening history.last s
reached_by opening noted lines s laws h history number =
    let before : history.last.before ≡ lines = before_last opening s.old.backing.mode lines history.last history.leads in
    record {
      sound = history.sound;
      same = history.same;
      number = number ∙ ap (λ (xs : List TraceLine). next_number xs s.line.caller) (sym before);
      geometry = history.geometry;
      main = history.main;
      limit = history.limit;
      orphans = history.orphans;
      within = λ is whole. subst (λ (xs : List TraceLine). IsWithinWeight opening (xs ++ s.line ∷ []) s.new.backing s.new.kept) (sym before) (within_on opening noted lines s laws h whole history (history.weight is));
    }

-- one of some lines is the last, or stands before it
split_last : (xs : List TraceLine) (x : TraceLine) (before : List TraceLine) (y : TraceLine) (rest : List TraceLine) → xs ++ x ∷ [] ≡ before ++ y ∷ rest → ((xs ≡ before) × (x ≡ y)) ⊎ ((more : List TraceLine) × (xs ≡ before ++ y ∷ more))
split_last [] x [] y rest e = let f : x ∷ [] ≡ y ∷ rest = e in let same : x ≡ y = cc in inl (refl, same)
split_last [] x (b ∷ before) y rest e =
    let f : x ∷ [] ≡ b ∷ (before ++ y ∷ rest) = e in
    let long = ap length f in
    let parts = length-append before (y ∷ rest) in
    absurd (omega (arith, long, parts))
split_last (z ∷ xs) x [] y rest e = let f : z ∷ (xs ++ x ∷ []) ≡ y ∷ rest = e in let same : z ≡ y = cc in inr (xs, ap (λ (w : TraceLine). w ∷ xs) same)
split_last (z ∷ xs) x (b ∷ before) y rest e =
    let f : z ∷ (xs ++ x ∷ []) ≡ b ∷ (before ++ y ∷ rest) = e in
    let same : z ≡ b = cc in
    let later : xs ++ x ∷ [] ≡ before ++ y ∷ rest = cc in
    by same (split_last xs x before y rest later)
  where
    by : z ≡ b → ((xs ≡ before) × (x ≡ y)) ⊎ ((more : List TraceLine) × (xs ≡ before ++ y ∷ more)) → ((z ∷ xs ≡ b ∷ before) × (x ≡ y)) ⊎ ((more : List TraceLine) × (z ∷ xs ≡ b ∷ (before ++ y ∷ more)))
    by same (inl last) = inl (ap (λ (w : TraceLine). w ∷ xs) same ∙ ap (λ (ws : List TraceLine). b ∷ ws) last.0, last.1)
    by same (inr found) = inr (found.0, ap (λ (w : TraceLine). w ∷ xs) same ∙ ap (λ (ws : List TraceLine). b ∷ ws) found.1)

-- a line more tells its room, as the others do
rooms_on : (opening : Opening) (lines : List TraceLine) (line : TraceLine) → AreRoomsTold opening lines → IsRoomTold opening (place_after opening lines) line → AreRoomsTold opening (lines ++ line ∷ [])
rooms_on opening lines line each one before other rest e = by (split_last lines line before other rest e)
  where
    by : ((lines ≡ before) × (line ≡ other)) ⊎ ((more : List TraceLine) × (lines ≡ before ++ other ∷ more)) → IsRoomTold opening (place_after opening before) other
    by (inl last) = subst (λ (x : TraceLine). IsRoomTold opening (place_after opening before) x) last.1 (subst (λ (xs : List TraceLine). IsRoomTold opening (place_after opening xs) line) last.0 one)
    by (inr found) = each before other found.0 found.1

-- a place is told of by its lines and files
room_behind : (opening : Opening) (lines : List TraceLine) (place : Place) (line : TraceLine) → place.before ≡ lines → place.files ≡ files_behind opening.files lines → IsRoomTold opening place line → IsRoomTold opening (place_after opening lines) line
room_behind opening lines place line before files told sides is =
    let P : List TraceLine → Files → Type 0 = λ xs f. least_room opening (grown_weight opening (xs ++ line ∷ [])) (most_asked opening (record (place_after opening lines) { files = f }) line) ≤ sides.room in
    subst (λ (f : Files). P lines f) files (subst (λ (xs : List TraceLine). P xs place.files) before (told sides is))

-- a line weighs the same, whatever is told of its answer
within_told : (opening : Opening) (lines : List TraceLine) (s : Stepped) (reply : Reply) → IsWithinWeight opening (lines ++ s.line ∷ []) s.new.backing s.new.kept → IsWithinWeight opening (lines ++ (record s.line { reply = reply }) ∷ []) s.new.backing s.new.kept
within_told opening lines s reply within =
    let same : grown_weight opening (lines ++ s.line ∷ []) ≡ grown_weight opening (lines ++ (record s.line { reply = reply }) ∷ []) = grown_on opening lines s.line ∙ sym (grown_on opening lines (record s.line { reply = reply })) in
    let weight = within.weight in
    record {
      weight = omega (arith, weight, same);
      index = subst (λ (n : ℕ). s.new.backing.space.index ≤ max opening.space.index (2 * index_lebs opening.geometry n)) same within.index;
    }

-- a call goes on with a history, and leaves a line more that tells this reply
call_goes_with : (opening : Opening) (noted : List NoSpace) (lines : List TraceLine) (s : Stepped) (reply : Reply) → AreLaws → IsMadeCall opening s → (history : IsHistory opening noted lines s.old) → WasEntered opening history.last (with_reply s reply)
    → (reply ≡ s.line.reply) ⊎ (reply ≡ Refused Enomem) → (s.new.backing.mode ≡ ReadWrite → IsUnfailed s.line.reply) → IsHistory opening noted (lines ++ (record s.line { reply = reply }) ∷ []) s.new
call_goes_with opening noted lines s reply laws h history entry says whole =
    let last : Place = history.last in
    let goes = h.step.goes in
    let faults = goes.faults in
    let was = history.faults in
    let orphan = orphan_same last.files (present_in s.old) entry.after (present_in s.new) history.same entry.same in
    record {
      last = behind last line entry.after;
      leads = leads_on opening s.old.backing.mode s.new.backing.mode lines last line entry.after (mode_turns opening s.old.backing s.new.backing history.mode goes.mode) history.leads entry.one;
      replayed = entry.replayed ∙ ap (λ (files : Files). files_after_line files line) history.replayed ∙ sym (behind_on opening.files lines line);
      same = entry.same;
      sound = entry.sound;
      mode = mode_after opening s.old.backing s.new.backing history.mode goes.mode was faults;
      refused = entry.refused ∙ ap (λ (x : List NoSpace). x ++ sides_in line) history.refused ∙ append_assoc noted (flat_map sides_in lines) (sides_in line) ∙ ap (λ (x : List NoSpace). noted ++ x) (sym (told_on sides_in lines line));
      asked = All-push IsRoomAsked lines line history.asked entry.asked;
      rooms = rooms_on opening lines line history.rooms (room_behind opening lines last line (before_last opening s.old.backing.mode lines last history.leads) history.replayed entry.room);
      counts = counted entry.counts;
      faults = omega (arith, was, faults);
      geometry = goes.geometry ∙ history.geometry;
      main = h.main ∙ history.main;
      limit = goes.orphan_limit ∙ history.limit;
      orphans = roomy orphan h.step.orphans goes.orphan_limit history.orphans;
      weight = λ is. within_told opening lines s reply (within_on opening noted lines s laws h (whole is) history (history.weight (open_before s.old.backing s.new.backing goes.mode is)));
      flushed = flushes;
    }
  where
    flushes : s.new.backing.mode ≡ ReadWrite → is_flushed (lines ++ (record s.line { reply = reply }) ∷ []) ≡ true → s.new.kept.pages.dirty ≡ []
    flushes is behind =
        let was : s.old.backing.mode ≡ ReadWrite = open_before s.old.backing s.new.backing h.step.goes.mode is in
        line_flushes (record { old = s.old.backing; new = s.new.backing; before = s.old.kept; after = s.new.kept }) s.old.backing.mode s.line.caller s.line.now s.grant s.line.op s.line.reply reply s.left (is_flushed lines) was h.step.written h.step.exact says
        (history.flushed was) (sym (flushed_on false lines (record s.line { reply = reply })) ∙ behind)

    line : TraceLine
    line = record s.line { reply = reply }

    counted : IsCounted s.old.backing.faults s.new.backing.faults (count_in line) → Rise opening.faults (flat_map count_in (lines ++ line ∷ [])) s.new.backing.faults
    counted (inl none) =
        let is : flat_map count_in (lines ++ line ∷ []) ≡ flat_map count_in lines = told_on count_in lines line ∙ ap (λ (x : List ℕ). flat_map count_in lines ++ x) none ∙ append-nil (flat_map count_in lines) in
        subst (λ (x : List ℕ). Rise opening.faults x s.new.backing.faults) (sym is) (rise_later opening.faults (flat_map count_in lines) s.old.backing.faults s.new.backing.faults history.counts h.step.goes.faults)
    counted (inr one) =
        let is : flat_map count_in (lines ++ line ∷ []) ≡ flat_map count_in lines ++ one.0 ∷ [] = told_on count_in lines line ∙ ap (λ (x : List ℕ). flat_map count_in lines ++ x) one.1 in
        subst (λ (x : List ℕ). Rise opening.faults x s.new.backing.faults) (sym is) (rise_on opening.faults (flat_map count_in lines) s.old.backing.faults one.0 s.new.backing.faults history.counts one.2 one.3)

    roomy : {a b : Bool} → a ≡ b → next_orphans s.new.backing ≤ next_orphans s.old.backing + (if b then 1 else 0) → s.new.backing.orphan_limit ≡ s.old.backing.orphan_limit → opening.orphan_room ≤ orphan_room s.old.backing + history.last.orphans
        → opening.orphan_room ≤ orphan_room s.new.backing + (history.last.orphans + (if a then 1 else 0))
    roomy {a = a} {b = b} same few limit room =
        let e : ◌≡◌ {A = ℕ} (if a then 1 else 0) (if b then 1 else 0) = ap (λ (x : Bool). if x then 1 else 0) same in
        omega (arith, few, limit, room, e)

-- a call goes on with a history, and leaves a line more: what is told of its answer
pub call_goes_on : (opening : Opening) (noted : List NoSpace) (lines : List TraceLine) (s : Stepped) (told : Reply) → AreLaws → IsMadeCall opening s → IsHistory opening noted lines s.old → s.line.number ≡ next_number lines s.line.caller → IsToldAs s.line.reply told
    → IsHistory opening noted (lines ++ (record s.line { reply = told }) ∷ []) s.new
call_goes_on opening noted lines s told laws h history number says = by says
  where
    reached : IsReached opening history.last s
    reached = reached_by opening noted lines s laws h history number

    first : WasEntered opening history.last s
    first = entered opening history.last s laws h reached

    by : IsToldAs s.line.reply told → IsHistory opening noted (lines ++ (record s.line { reply = told }) ∷ []) s.new
    by (inl same) = subst (λ (r : Reply). IsHistory opening noted (lines ++ (record s.line { reply = r }) ∷ []) s.new) (sym same) (call_goes_with opening noted lines s s.line.reply laws h history first (inl refl) (λ is. unfailed opening history.last s laws history.sound first (open_before s.old.backing s.new.backing h.step.goes.mode is) is))
    by (inr short) = subst (λ (r : Reply). IsHistory opening noted (lines ++ (record s.line { reply = r }) ∷ []) s.new) (sym short.1) (call_goes_with opening noted lines s (Refused Enomem) laws h history (entered_short opening history.last s laws h reached short.0) (inr refl) (λ is count fault. false≢true (ap holds_bytes (sym fault) ∙ short.0)))

-- what a put of the background adds, and how far the index may grow with it
put_index : (old new : FilesState) (event : Event) (outcome : Outcome) → IsBackgroundStep old new event outcome → new.backing.mode ≡ ReadWrite → new.backing.space.index ≤ max old.backing.space.index (2 * index_lebs old.backing.geometry (full_weight old.backing old.kept))
put_index old new (Put shown) PutDone h is =
    let credits = h.made.put.credits in
    let issued = h.issued in
    let mono = lebs_mono old.backing.geometry (old.backing.space.weight + 2) (full_weight old.backing old.kept) (omega (arith, credits, issued)) in
    let index = h.goes.index in
    omega (arith, index, mono)
put_index old new (Put shown) (Stale kept now) h is =
    let same : new.backing.space.index ≡ old.backing.space.index = ap (λ (b : BackingState). b.space.index) h.made.backing in
    omega (arith, same)
put_index old new (Put shown) (Fault Memory) h is =
    let mono = lebs_mono old.backing.geometry (old.backing.space.weight + 0) (full_weight old.backing old.kept) (omega arith) in
    let index = h.made.goes.index in
    omega (arith, index, mono)
put_index old new (Put shown) (Fault (Volume count)) h is = absurd (h.made.cause.2 is)
put_index old new (Put shown) (Fault (IsReadOnly cause)) h is =
    let mono = lebs_mono old.backing.geometry (old.backing.space.weight + 0) (full_weight old.backing old.kept) (omega arith) in
    let index = h.made.goes.index in
    omega (arith, index, mono)
put_index old new (Put shown) outcome h is = absurd h.made
put_index old new event outcome h is =
    let mono = lebs_mono old.backing.geometry (old.backing.space.weight + 0) (full_weight old.backing old.kept) (omega arith) in
    let index = h.goes.index in
    omega (arith, index, mono)

added_none : (old new : FilesState) (event : Event) (outcome : Outcome) → IsBackgroundStep old new event outcome → new.backing.mode ≡ ReadWrite → added_in event outcome ≡ 0
added_none old new (Put shown) (Fault (Volume count)) h is = absurd (h.made.cause.2 is)
added_none old new event (Fault (Volume count)) h is = refl
added_none old new event outcome h is = refl

-- work between lines goes on with a history, and leaves its lines
pub background_goes_on : (opening : Opening) (noted : List NoSpace) (lines : List TraceLine) (old new : FilesState) (event : Event) (outcome : Outcome) → IsBackgroundStep old new event outcome → new.backing.space.main ≡ old.backing.space.main
    → IsHistory opening noted lines old → IsHistory opening noted lines new
background_goes_on opening noted lines old new event outcome h main history =
    let faults = h.goes.faults in
    let was = history.faults in
    let few = h.orphans in
    let limit = h.goes.orphan_limit in
    let room = history.orphans in
    record {
      last = history.last;
      leads = leads_stay opening old.backing.mode new.backing.mode lines history.last (mode_turns opening old.backing new.backing history.mode h.goes.mode) history.leads;
      replayed = history.replayed;
      same = alike_then history.last.files (present_in old) (present_in new) history.same h.same;
      sound = history.sound;
      mode = mode_after opening old.backing new.backing history.mode h.goes.mode was faults;
      refused = h.refused ∙ history.refused;
      asked = history.asked;
      rooms = history.rooms;
      counts = rise_later opening.faults (flat_map count_in lines) old.backing.faults new.backing.faults history.counts faults;
      faults = omega (arith, was, faults);
      geometry = h.goes.geometry ∙ history.geometry;
      main = main ∙ history.main;
      limit = limit ∙ history.limit;
      orphans = omega (arith, few, limit, room);
      weight = heavy;
      flushed = λ is behind. work_flushes old new event outcome h.made (history.flushed (open_before old.backing new.backing h.goes.mode is) behind);
    }
  where
    heavy : new.backing.mode ≡ ReadWrite → IsWithinWeight opening lines new.backing new.kept
    heavy is =
        let within = history.weight (open_before old.backing new.backing h.goes.mode is) in
        let weight = within.weight in
        let grows = h.weighed in
        let none = added_none old new event outcome h is in
        let index = put_index old new event outcome h is in
        let lebs : index_lebs old.backing.geometry (full_weight old.backing old.kept) ≤ index_lebs opening.geometry (grown_weight opening lines) =
        subst (λ (g : RawGeometry). index_lebs g (full_weight old.backing old.kept) ≤ index_lebs opening.geometry (grown_weight opening lines)) (sym history.geometry) (lebs_mono opening.geometry (full_weight old.backing old.kept) (grown_weight opening lines) weight) in
        record {
          weight = omega (arith, grows, none, weight);
          index = index_on opening.space.index old.backing.space.index new.backing.space.index (index_lebs opening.geometry (grown_weight opening lines)) (index_lebs opening.geometry (grown_weight opening lines)) within.index (omega arith) (index_lebs old.backing.geometry (full_weight old.backing old.kept)) lebs index;
        }
