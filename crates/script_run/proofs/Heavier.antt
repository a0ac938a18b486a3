-- How heavy the index is behind some lines, at most, and what has room then.
use Rattle.std.proofs.Common.{◌≡◌, ℕ, ◌+◌, ◌≤◌, List, [], ◌∷◌, sym, ap, subst, arith}
use Rattle.std.specs.Prelude.{sum_by}
use Rattle.std.proofs.lemmas.List.Sums.{sum_by-cons}
use Rattle.ubifs_base.specs.declared.raw_geometry.RawGeometry.{RawGeometry}
use Rattle.fs_model.specs.declared.refusal.NoSpace.{NoSpace}
use Rattle.fs_model.specs.declared.refusal.Refusal.TheVariants.{Eio}
use Rattle.fs_model.specs.declared.reply.Reply.{Reply}
use Rattle.fs_model.specs.declared.reply.Reply.TheVariants.{Refused}
use Rattle.fs_model.specs.declared.space.Need.{Need}
use Rattle.fs_model.specs.declared.space.Space.{Space}
use Rattle.space_sums.specs.Spaces.{AsksNoLess, HasRoom}
use Rattle.space_sums.proofs.Index.{index_lebs-grows}
use Rattle.script_text.specs.declared.part.Part.{Part}
use Rattle.script_text.specs.declared.part.Part.TheVariants.{Line, Mount, Now, Unmount, Workers}
use Rattle.vfs_ops.specs.Kinds.{added_by}
use Rattle.script_run.specs.Heaviest.{heaviest_space, most_added}
use Rattle.script_run.specs.Run.{HasGrown, HasNoRoom, IsScriptPart, IsRun, ScriptRunning, clean_space}

-- the index is as it was
same_index : (geo : RawGeometry) (before after : ScriptRunning) → after.weight ≡ before.weight → after.index ≡ before.index → HasGrown geo 0 0 before after
same_index geo before after weight index = record { weight = omega (arith, weight); index = omega (arith, index) }

-- a reply adds no more than the most of one that is done and one that failed
added_most : (done failed most : ℕ) (reply : Reply) → done ≤ most → failed ≤ most → added_by done failed reply ≤ most
added_most done failed most (Refused (Eio count)) a b = b
added_most done failed most (Refused refusal) a b = omega arith
added_most done failed most reply a b = a

-- more nodes at most
grown_more : (geo : RawGeometry) (a b more : ℕ) (before after : ScriptRunning) → a ≤ more → b ≤ more → HasGrown geo a b before after → HasGrown geo more more before after
grown_more geo a b more before after few put h =
    let lebs = index_lebs-grows geo (before.weight + b) (before.weight + more) (omega (arith, put)) in
    let weight = h.weight in
    let index = h.index in
    record { weight = omega (arith, weight, few); index = omega (arith, index, lebs) }

part_grown : (geo : RawGeometry) (before after : ScriptRunning) (part : Part) (line : List ℕ) → IsScriptPart geo before part line after → HasGrown geo (most_added part) (most_added part) before after
part_grown geo before after Mount line h = same_index geo before after (ap (λ (s : ScriptRunning). s.weight) h.1) (ap (λ (s : ScriptRunning). s.index) h.1)
part_grown geo before after Unmount line h = h.1.grown
part_grown geo before after (Now now) line h = same_index geo before after (ap (λ (s : ScriptRunning). s.weight) h.1) (ap (λ (s : ScriptRunning). s.index) h.1)
part_grown geo before after (Workers count) line h = same_index geo before after (ap (λ (s : ScriptRunning). s.weight) h.1) (ap (λ (s : ScriptRunning). s.index) h.1)
part_grown geo before after (Line caller op) line h =
    let few = h.replied.few in
    grown_more geo _ _ (most_added (Line caller op)) before after (added_most _ _ (most_added (Line caller op)) h.reply (omega (arith, few)) (omega (arith, few))) (omega (arith, few)) h.replied.grown

pub run_grown : (geo : RawGeometry) (first last : ScriptRunning) (parts : List Part) (text : List ℕ) → IsRun geo first parts text last → HasGrown geo (sum_by most_added parts) (sum_by most_added parts) first last
run_grown geo first last [] text h = same_index geo first last (ap (λ (s : ScriptRunning). s.weight) h.1) (ap (λ (s : ScriptRunning). s.index) h.1)
run_grown geo first last (part ∷ parts) text (line, next, rest, one, others, e) =
    let here = part_grown geo first next part line one in
    let more = run_grown geo next last parts rest others in
    let m = most_added part in
    let n = sum_by most_added parts in
    let hw = here.weight in
    let hi = here.index in
    let mw = more.weight in
    let mi = more.index in
    let a = index_lebs-grows geo (first.weight + m) (first.weight + (m + n)) (omega arith) in
    let b = index_lebs-grows geo (next.weight + n) (first.weight + (m + n)) (omega (arith, hw)) in
    let both : HasGrown geo (m + n) (m + n) first last = record { weight = omega (arith, hw, mw); index = omega (arith, hi, mi, a, b) } in
    subst (λ (k : ℕ). HasGrown geo k k first last) (sym (sum_by-cons most_added part parts)) both

-- room beside the heaviest index is room
pub has_room : (geo : RawGeometry) (first last : ScriptRunning) (parts : List Part) (text : List ℕ) (need : Need) (sides : NoSpace)
    → ((g : RawGeometry) (less more : Space) (asked asked_more : Need) → AsksNoLess less asked more asked_more → HasRoom g more asked_more → HasRoom g less asked)
    → IsRun geo first parts text last → HasRoom geo (heaviest_space geo first parts last) need → HasNoRoom geo last need sides → ⊥
has_room geo first last parts text need sides law run room none =
    let grown = run_grown geo first last parts text run in
    let weight = grown.weight in
    let index = grown.index in
    let fits = (law geo (clean_space geo last) (heaviest_space geo first parts last) need need
    (record { used = omega arith; held = omega arith; credits = omega arith; bytes = omega arith; nodes = omega arith; index = index; weight = weight; main = omega arith; reserve = omega arith }) room).fits in
    let a = none.need_is in
    let b = none.room_is in
    let d = none.full in
    absurd (omega (arith, fits, a, b, d))
