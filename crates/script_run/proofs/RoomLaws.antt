-- What only looks takes no room, and where names alone fill a volume, nothing more is done.
use Rattle.std.proofs.Common.{◌≡◌, ℕ, ◌+◌, ◌*◌, ◌<◌, ◌≤◌, Bool, true, false, All, List, [], ◌∷◌, ◌++◌, refl, ap, subst, arith}
use Rattle.std.specs.Prelude.{◌-◌, sum_by}
use Rattle.std.specs.Map.{values_of}
use Rattle.std.proofs.Math.Nat.{mul-le-mul_right}
use Rattle.std.proofs.lemmas.List.Elements.{All-head, All-tail}
use Rattle.std.proofs.lemmas.List.Sums.{sum_by-append, sum_by-cons}
use Rattle.ubifs_base.specs.declared.raw_geometry.RawGeometry.{RawGeometry}
use Rattle.ubifs_base.specs.Areas.{main_lebs}
use Rattle.ubifs_base.specs.Geometry.{leb_reserve}
use Rattle.fs_model.specs.declared.op.Op.{Op}
use Rattle.fs_model.specs.declared.refusal.NoSpace.{NoSpace}
use Rattle.fs_model.specs.declared.refusal.Refusal.TheVariants.{Enospc}
use Rattle.fs_model.specs.declared.reply.Reply.{Reply}
use Rattle.fs_model.specs.declared.reply.Reply.TheVariants.{Refused}
use Rattle.fs_model.specs.declared.space.Need.{Need}
use Rattle.fs_model.specs.declared.trace.TraceLine.{TraceLine}
use Rattle.fs_model.specs.Cover.{entry_bytes, inode_bytes, reserve, room_for}
use Rattle.fs_model.specs.Files.{Entries, Inodes}
use Rattle.fs_model.specs.Legal.{Opening, least_room, most_asked}
use Rattle.vfs_ops.specs.Replies.{is_refusal}
use Rattle.traced_files.specs.History.{grown_weight, index_growth_by, place_after}
use Rattle.script_phase.specs.declared.lines.CallerLine.{CallerLine}
use Rattle.script_phase.specs.Phases.{callers_in}
use Rattle.script_run.specs.Admission.{HadRoom, least_need, named_bytes, space_beside}
use Rattle.script_run.specs.Phases.{AreServedTogether, opened_on}
use Rattle.script_run.specs.Run.{IsReplied, ScriptRunning}

-- what adds nothing line by line adds nothing
none_grow : (lines : List TraceLine) → All (λ line. index_growth_by line.op ≡ 0) lines → sum_by (λ line. index_growth_by line.op) lines ≡ 0
none_grow [] all = refl
none_grow (line ∷ lines) all =
    let P : TraceLine → Type 0 = λ l. index_growth_by l.op ≡ 0 in
    let f : TraceLine → ℕ = λ l. index_growth_by l.op in
    let sum = sum_by-cons f line lines in
    let one : index_growth_by line.op ≡ 0 = All-head P line lines all in
    let more = none_grow lines (All-tail P line lines all) in
    omega (arith, sum, one, more)

pub looks_take_none : (geo : RawGeometry) (before after : ScriptRunning) (lines : List CallerLine) (text : List ℕ) (phase : AreServedTogether geo before lines text after) (first : List TraceLine) (line : TraceLine) (rest : List TraceLine) (sides : NoSpace)
    → phase.trace ≡ first ++ line ∷ rest → All (λ l. index_growth_by l.op ≡ 0) first → line.reply ≡ Refused (Enospc sides)
    → least_room (opened_on geo (callers_in lines) before) (before.weight + index_growth_by line.op) (most_asked (opened_on geo (callers_in lines) before) (place_after (opened_on geo (callers_in lines) before) first) line) ≤ sides.room
looks_take_none geo before after lines text phase first line rest sides split looks told =
    let opening : Opening = opened_on geo (callers_in lines) before in
    let f : TraceLine → ℕ = λ l. index_growth_by l.op in
    let sum = sum_by-append f first (line ∷ []) in
    let one = sum_by-cons f line [] in
    let none = none_grow first looks in
    let weight : grown_weight opening (first ++ line ∷ []) ≡ before.weight + index_growth_by line.op = omega (arith, sum, one, none) in
    subst (λ (w : ℕ). least_room opening w (most_asked opening (place_after opening first) line) ≤ sides.room) weight (phase.rooms first line rest split sides told)

-- where names alone fill a volume, nothing more is done
pub full_takes_none : (geo : RawGeometry) (before after : ScriptRunning) (caller : ℕ) (op : Op) (reply : Reply) → IsReplied geo before caller op reply after → 0 < (least_need before.files caller before.now op).nodes
    → (main_lebs geo - reserve (least_need before.files caller before.now op).class) * (geo.leb_size - leb_reserve geo) < named_bytes before.files.tree → is_refusal reply ≡ true
full_takes_none geo before after caller op reply h asks full = by (is_refusal reply) refl
  where
    need : Need
    need = least_need before.files caller before.now op

    none : HadRoom geo before.files need h.covered.space.weight → ⊥
    none had =
        let inodes : sum_by inode_bytes (values_of before.files.tree.inodes) ≡ sum_by inode_bytes (values_of had.put.inodes) = ap (λ (x : Inodes). sum_by inode_bytes (values_of x)) had.same.inodes in
        let entries : sum_by entry_bytes (values_of before.files.tree.entries) ≡ sum_by entry_bytes (values_of had.put.entries) = ap (λ (x : Entries). sum_by entry_bytes (values_of x)) had.same.entries in
        let fits = had.room.fits in
        let most : room_for geo (space_beside geo had.put had.weight) need ≤ (main_lebs geo - reserve need.class) * (geo.leb_size - leb_reserve geo) = mul-le-mul_right (geo.leb_size - leb_reserve geo) (omega arith) in
        omega (arith, inodes, entries, fits, most, full)

    by : (b : Bool) → is_refusal reply ≡ b → is_refusal reply ≡ true
    by true is = is
    by false done = absurd (none (h.admitted done (omega (arith, asks))))
