-- What was admitted for an operation.
use Rattle.std.proofs.Common.{◌≡◌, ℕ, ◌+◌, ◌-◌, ◌*◌, ◌≤◌, ◌⊎◌, inl, inr, false, true, Ok, Err, List, [], ◌∷◌, ◌++◌, length, sym, ap, subst, ◌∙◌, arith, Result}
use Rattle.std.specs.Prelude.{◌==◌, OnOk}
use Rattle.std.proofs.lemmas.Bool.{false≢true}
use Rattle.fs_model.specs.declared.change.Change.{Change}
use Rattle.fs_model.specs.declared.op.Op.{Op}
use Rattle.fs_model.specs.declared.op.Op.TheVariants.{Write}
use Rattle.fs_model.specs.declared.refusal.Refusal.{Refusal}
use Rattle.fs_model.specs.declared.refusal.Refusal.TheVariants.{Enomem, Enospc}
use Rattle.fs_model.specs.declared.refusal.NoSpace.{NoSpace}
use Rattle.fs_model.specs.declared.reply.Reply.{Reply}
use Rattle.fs_model.specs.declared.reply.Reply.TheVariants.{Refused}
use Rattle.fs_model.specs.declared.space.Need.{Need}
use Rattle.fs_model.specs.Backing.{BackingState, Goes, Outlook}
use Rattle.fs_model.specs.Files.{Files}
use Rattle.fs_model.specs.Operation.{group_of, outcome_of, plan_of}
use Rattle.fs_model.specs.Need.{need_of}
use Rattle.fs_model.specs.Outcome.{done_by}
use Rattle.buffered_files.specs.declared.kept.Kept.{Kept}
use Rattle.buffered_files.specs.Alike.{IsAlike}
use Rattle.buffered_files.specs.CallLaws.{Covered-then, Goes-then, Goes-within}
use Rattle.buffered_files.specs.Calls.{HasMadeRoom, IsNotEnospc, WasCovered}
use Rattle.buffered_files.specs.Present.{DirtyPages, newly_dirty, present}
use Rattle.vfs_plans.specs.Answers.{IsRefused, Looks}
use Rattle.vfs_ops.specs.Operations.{has_group, is_of_names}
use Rattle.vfs_ops.specs.Steps.{IsAtOnce, IsAtOnceReply, WasAdmitted, is_write, no_space_in}
use Rattle.vfs_ops.specs.Writing.{HasGroupRoom, HasRoomAtOnce, IsGroupAdmitted, WasPaid, credits_need, write_need}
use Rattle.vfs_ops.proofs.Groups.{outcome_is}
use Rattle.vfs_ops.proofs.Serving.{none_noted}
use Rattle.std.proofs.lemmas.List.{append-nil}
use Rattle.vfs_ops.proofs.States.{credits_on, tree_on}

-- there is as much room after looks as before
pub room_looked : {x y : Outlook} {a b : BackingState} → Looks x y a b → (need : Need) → HasGroupRoom a need → HasGroupRoom b need
room_looked looks need room = let P : BackingState → Type 0 = λ s. HasGroupRoom s need in subst P (sym looks.reads) room

-- a group with changes has room at the first test
at_test : (state : BackingState) (need : Need) (group : List Change) → need.nodes ≡ length group → (length group == 0) ≡ false → HasRoomAtOnce state need → HasGroupRoom state need
at_test state need group nodes some (inr room) = room
at_test state need [] nodes some (inl none) = absurd (false≢true (sym some))
at_test state need (change ∷ group) nodes some (inl none) = absurd (omega (arith, none, nodes))

-- a group that is put after looks, and nothing else
pub alone_whole : {x y : Outlook} {a b : BackingState} → Looks x y a b → (c : BackingState) (made group : List Change) → made ≡ group → Goes (length group) b c → Goes (length made) a c
alone_whole {x} {y} {a} {b} looks c made group is goes =
    let same : length made ≡ length group = ap (λ (g : List Change). length g) is in
    Goes-within (0 + length group) (length made) a c (omega (arith, same)) (Goes-then 0 (length group) a b c looks.goes goes)

-- and so it has where it was reckoned by looks
pub fits_once : {x y : Outlook} {a b : BackingState} → Looks x y a b → (need whole : Need) (made group : List Change) → need ≡ whole → made ≡ group → whole.nodes ≡ length made → (length group == 0) ≡ false → HasRoomAtOnce a whole → HasGroupRoom b need
fits_once {x} {y} {a} {b} looks need whole made group same is nodes some room =
    let fits = at_test a whole group (nodes ∙ ap (λ (g : List Change). length g) is) some room in
    subst (λ n. HasGroupRoom b n) (sym same) (room_looked looks whole fits)

room_before : {x y : Outlook} {a b : BackingState} → Looks x y a b → (need : Need) → HasGroupRoom b need → HasGroupRoom a need
room_before looks need room = let P : BackingState → Type 0 = λ s. HasGroupRoom s need in subst P looks.reads room

made_looked : {x y : Outlook} {a b : BackingState} → Looks x y a b → (state : BackingState) (kept : Kept) → HasMadeRoom b state kept → HasMadeRoom a state kept
made_looked {x} {y} {a} {b} looks state kept room = record {
  committed = room.committed;
  files = subst (λ t. IsAlike (present t kept) (record { tree = state.tree; handles = kept.handles })) (tree_on looks) room.files;
  credits = room.credits ∙ credits_on looks;
  used = room.used;
  main = room.main;
  goes = Goes-within (0 + 2 * length kept.pages.dirty) (2 * length kept.pages.dirty) a state (omega arith) (Goes-then 0 (2 * length kept.pages.dirty) a b state looks.goes room.goes);
}

-- what was admitted after looks
pub covered_looked : {x y : Outlook} {a b : BackingState} → Looks x y a b → (c : BackingState) (kept : Kept) (first second : Need) (nodes : ℕ) → WasCovered b c kept first second nodes → WasCovered a c kept first second nodes
covered_looked looks c kept first second nodes (inl now) = inl (room_before looks first now)
covered_looked looks c kept first second nodes (inr last) =
    inr (record { state = last.state; room = made_looked looks last.state kept last.room; covered = last.covered; since = last.since })

-- a group that was reckoned by looks
pub group_admitted : {x y : Outlook} {a b : BackingState} → Looks x y a b → (c : BackingState) (kept : Kept) (need whole : Need) (made group : List Change) → need ≡ whole → made ≡ group → whole.nodes ≡ length made → WasCovered b c kept need need (length group) → IsGroupAdmitted a c kept made whole
group_admitted {x} {y} {a} {b} looks c kept need whole made group same is nodes covered =
    let counted = subst (λ n. WasCovered b c kept need need n) (sym (nodes ∙ ap (λ g. length g) is)) covered in
    inr (covered_looked looks c kept whole whole whole.nodes (subst (λ n. WasCovered b c kept n n whole.nodes) same counted))

-- what was paid still is after a call that puts nothing
pub paid_then : (a b c : BackingState) (kept : Kept) (ino offs len grant : ℕ) → WasPaid a b kept ino offs len grant → Goes 0 b c → WasPaid a c kept ino offs len grant
paid_then a b c kept ino offs len grant (inl own) goes = inl own
paid_then a b c kept ino offs len grant (inr covered) goes = inr (Covered-then 0 a b c kept (credits_need (newly_dirty kept.pages.dirty ino offs len - grant)) (write_need offs len grant) covered goes)

-- a write of nothing makes no page dirty
pub none_new : (dirty : DirtyPages) (ino offs len grant : ℕ) → len ≡ 0 → newly_dirty dirty ino offs len ≤ grant
none_new dirty ino offs len grant none =
    let zero : newly_dirty dirty ino offs 0 ≤ grant = omega arith in
    subst (λ n. newly_dirty dirty ino offs n ≤ grant) (sym none) zero

-- a plan's refusal isn't for want of room, where the operation is done
pub plan_refused : (a b : BackingState) (files : Files) (caller now : ℕ) (op : Op) (r : Refusal) (done : Reply × Files) → is_of_names op ≡ true → IsRefused a b (plan_of files caller now op) r → outcome_of files caller now op ≡ Ok done → IsNotEnospc {T = Reply} (Err r)
plan_refused a b files caller now op (Enospc space) done is (inl plain) out =
    let never : Err (Enospc space) ≡ Ok done = sym (outcome_is files caller now op is ∙ ap (λ plan. done_by files plan) plain) ∙ out in
    absurd cc
plan_refused a b files caller now op (Enospc space) done is (inr fault) out = absurd fault
plan_refused a b files caller now op r done is why out = tt

-- what holds, holds after Ok
pub after_ok : {T E : Type 0} {P : Type 0} (r : Result T E) → P → OnOk r P
after_ok (Ok x) h = h
after_ok (Err e) h = tt

pub on_ok : {T E : Type 0} {P Q : Type 0} (r : Result T E) → (P → Q) → OnOk r P → OnOk r Q
on_ok (Ok x) f h = f h
on_ok (Err e) f h = tt

-- an operation on names was admitted where its group was
pub names_admitted : (old new : BackingState) (before : Kept) (caller now grant : ℕ) (op : Op) → is_of_names op ≡ true → IsGroupAdmitted old new before (group_of (present old.tree before) caller now op) (need_of (present old.tree before) caller now op) → WasAdmitted old new before caller now grant op
names_admitted old new before caller now grant (Write slot offs len byte) is h = absurd (false≢true is)
names_admitted old new before caller now grant op is h = λ same. h

-- what has no group, and is no write, asks for nothing
pub none_admitted : (old new : BackingState) (before : Kept) (caller now grant : ℕ) (op : Op) → has_group op ≡ false → is_write op ≡ false → WasAdmitted old new before caller now grant op
none_admitted old new before caller now grant (Write slot offs len byte) other without = absurd (false≢true (sym without))
none_admitted old new before caller now grant op other without = λ is. absurd (false≢true (sym other ∙ is))

-- what has no group is left out
pub other_at_once : (T : Type 0) (old new : BackingState) (before : Kept) (caller now : ℕ) (op : Op) (result : Result T Refusal) → has_group op ≡ false → IsAtOnce {T = T} old new before caller now op result
other_at_once T old new before caller now op result other = λ is. absurd (false≢true (sym other ∙ is))

-- a refusal of one answer is the same of another
pub retyped : (T U : Type 0) (refusal : Refusal) → IsNotEnospc {T = T} (Err refusal) → IsNotEnospc {T = U} (Err refusal)
retyped T U (Enospc space) never = never
retyped T U refusal other = tt

-- a group that was admitted at once isn't told as want of room
pub told_at_once : (T : Type 0) (old new : BackingState) (before : Kept) (caller now : ℕ) (op : Op) (first last : List NoSpace) (refusal noted : Refusal)
    → IsAtOnce {T = T} old new before caller now op (Err refusal) → (noted ≡ refusal) ⊎ ((noted ≡ Enomem) × ((space : NoSpace) × (refusal ≡ Enospc space))) → last ≡ first ++ no_space_in (Refused noted)
    → IsAtOnceReply old new before caller now op first last
told_at_once T old new before caller now op first last refusal noted at_once told more =
    λ is done out room. let once = at_once is done out room in (more ∙ ap (λ sides. first ++ sides) (none_noted T refusal noted once.0 told) ∙ append-nil first, once.1)
