-- What a run's reply says, from what a step over its backing answers.
use Rattle.std.proofs.Common.{◌≡◌, ℕ, zero, suc, ◌⊎◌, inl, inr, ◌+◌, ◌-◌, ◌<◌, ◌≤◌, false, Ok, Err, refl, sym, ap, subst, ◌∙◌, arith, length, List, [], ◌∷◌, ◌++◌}
use Rattle.std.proofs.lemmas.Bool.{false≢true}
use Rattle.std.proofs.lemmas.List.{length-append}
use Rattle.ubifs_base.specs.declared.raw_geometry.RawGeometry.{RawGeometry}
use Rattle.ubifs_base.specs.Areas.{main_lebs}
use Rattle.small_areas.specs.Orphans.{orphan_limit}
use Rattle.fs_model.specs.declared.backing_answers.Mode.{Mode}
use Rattle.fs_model.specs.declared.backing_answers.Mode.TheVariants.{ReadWrite, ReadOnly}
use Rattle.fs_model.specs.declared.op.Op.{Op}
use Rattle.fs_model.specs.declared.op.Op.TheVariants.{OpenFile, Close, Read, Write, Fsync, Flush, List as ListDir, Stat, Readlink}
use Rattle.fs_model.specs.declared.refusal.NoSpace.{NoSpace}
use Rattle.fs_model.specs.declared.refusal.Refusal.{Refusal}
use Rattle.fs_model.specs.declared.refusal.Refusal.TheVariants.{Enospc, Erofs, Eio, Enomem}
use Rattle.fs_model.specs.declared.reply.Reply.{Reply}
use Rattle.fs_model.specs.declared.reply.Reply.TheVariants.{Refused}
use Rattle.fs_model.specs.declared.space.Need.{Need}
use Rattle.fs_model.specs.Backing.{BackingState, Goes, ModeGoes, Rose, next_orphans}
use Rattle.fs_model.specs.Cover.{needed, room_for, tree_bytes}
use Rattle.fs_model.specs.Files.{Files, pages_of}
use Rattle.fs_model.specs.Legal.{pages_in}
use Rattle.fs_model.specs.Operation.{outcome_of}
use Rattle.buffered_files.specs.Alike.{IsAlike}
use Rattle.buffered_files.specs.declared.kept.Kept.{Kept}
use Rattle.buffered_files.specs.Calls.{IsWithoutRoom, SureGoes}
use Rattle.buffered_files.specs.Present.{IsKept, newly_dirty, present}
use Rattle.plain_backing.specs.declared.backing.PlainBacking.{PlainBacking}
use Rattle.plain_backing.specs.PlainBacking.{Covers, backing_state_of, outlook_of}
use Rattle.plain_backing.specs.Spending.{is_spent}
use Rattle.vfs_ops.specs.declared.event.Event.TheVariants.{Call}
use Rattle.vfs_ops.specs.declared.event.Outcome.{Outcome}
use Rattle.vfs_ops.specs.declared.event.Outcome.TheVariants.{Replied}
use Rattle.vfs_ops.specs.Events.{HasSynced, IsAnswer as IsAnswerOf, IsExactCall, IsReply, IsWeighedCall, IsWrittenBack, left_of}
use Rattle.vfs_plans.specs.Answers.{IsFault}
use Rattle.vfs_ops.specs.Operations.{nodes_asked}
use Rattle.vfs_ops.specs.Writing.{BuffersReply}
use Rattle.vfs_ops.specs.Steps.{IsAnswered, IsAtOnceReply, IsDone, IsExact, IsLast, IsRefusedFor, IsTurnedDown, IsUnsynced, Passage, allowed, allowed_on, asked, no_space_in, read_only_cause}
use Rattle.traced_files.proofs.Going.{fewer, open_for}
use Rattle.script_phase.specs.Phases.{is_memory}
use Rattle.script_run.specs.Run.{HasNoRoom, IsScriptAnswer, IsRefusedForRoom, ScriptRunning, orphans_told, plain}
use Rattle.script_run.specs.Sessions.{IsSteady, mounted_over}

-- the next list of orphans is as long as callers see it, and as much room is left
plainly : (geo : RawGeometry) (s : BackingState) (before : ScriptRunning) (caller : ℕ) (op : Op) → s.orphan_limit ≡ orphan_limit geo.leb_size → next_orphans s ≡ orphans_told before
    → allowed_on s before.files caller before.now op ≡ plain geo before caller op
plainly geo s before caller op e long =
    ap (λ n. allowed (s.orphan_limit - n) s.orphan_limit before.files caller before.now op) long ∙ ap (λ limit. allowed (limit - orphans_told before) limit before.files caller before.now op) e

fault_room : (old new : BackingState) (kept : Kept) (need : Need) (r : Refusal) → IsFault old new r → IsWithoutRoom old new kept need r
fault_room old new kept need (Eio count) h = h
fault_room old new kept need Enomem h = tt
fault_room old new kept need r h = absurd h

unsynced_room : (old new : BackingState) (kept : Kept) (need : Need) (r : Refusal) → IsUnsynced old new r → IsWithoutRoom old new kept need r
unsynced_room old new kept need (Eio count) h = h
unsynced_room old new kept need (Erofs cause) h = h.1
unsynced_room old new kept need Enomem h = tt
unsynced_room old new kept need r h = absurd h

-- whatever was asked, it is for want of room, for a fault, or for a backing that is read-only now
turned_room : (old new : BackingState) (kept : Kept) (need : Need) (op : Op) (r : Refusal) → IsTurnedDown old new kept need op r → IsWithoutRoom old new kept need r
turned_room old new kept need (OpenFile path slot) r h = fault_room old new kept need r h
turned_room old new kept need (Close slot) r h = fault_room old new kept need r h
turned_room old new kept need (Read slot offs len) r h = fault_room old new kept need r h
turned_room old new kept need (ListDir path) r h = fault_room old new kept need r h
turned_room old new kept need (Stat path) r h = fault_room old new kept need r h
turned_room old new kept need (Readlink path) r h = fault_room old new kept need r h
turned_room old new kept need (Fsync slot) r h = unsynced_room old new kept need r h
turned_room old new kept need Flush r h = unsynced_room old new kept need r h
turned_room old new kept need op r h = h

-- no fault was counted
no_rise : (a b : ℕ) → a ≡ 0 → b ≡ 0 → Rose a b → ⊥
no_rise a b e f (inl less) = omega (arith, e, f, less)
no_rise a b e f (inr most) = omega (arith, f, most)

-- what is known of a backing when a step has ended
pub record IsCalm (geo : RawGeometry) (old new : BackingState) (before : ScriptRunning) : Type 0 where
  pub was : old.mode ≡ ReadWrite
  pub is : new.mode ≡ ReadWrite
  pub faults_were : old.faults ≡ 0
  pub faults : new.faults ≡ 0
  pub limit : old.orphan_limit ≡ orphan_limit geo.leb_size
  pub orphans : next_orphans old ≡ orphans_told before

-- one refusal more was noted
one_more : (xs : List NoSpace) (x : NoSpace) → xs ++ x ∷ [] ≡ xs → ⊥
one_more xs x e = let same = ap length e in let long = length-append xs (x ∷ []) in absurd (omega (arith, same, long))

-- a group without a node isn't refused for want of room
has_nodes : (first last : List NoSpace) (sides : NoSpace) (nodes : ℕ) → last ≡ first ++ sides ∷ [] → (nodes ≡ 0 → last ≡ first) → 0 < nodes
has_nodes first last sides zero noted none = absurd (one_more first sides (sym noted ∙ none refl))
has_nodes first last sides (suc n) noted none = omega arith

-- and neither is a write that touches no page
has_pages : (first last : List NoSpace) (sides : NoSpace) (pages newly : ℕ) → newly ≤ pages → last ≡ first ++ sides ∷ [] → (newly ≤ 0 → last ≡ first) → 0 < pages
has_pages first last sides zero newly few noted none = absurd (one_more first sides (sym noted ∙ none few))
has_pages first last sides (suc n) newly few noted none = omega arith

-- what is refused for want of room touches a page, or has a group with a node
pub asks_of : (old new : BackingState) (before after : Kept) (caller now : ℕ) (op : Op) (reply : Reply) (first last : List NoSpace) (sides : NoSpace) (need : Need) → IsTurnedDown old new after need op (Enospc sides) → (done : Reply × Files) → outcome_of (present old.tree before) caller now op ≡ Ok done
    → last ≡ first ++ sides ∷ [] → IsAtOnceReply old new before caller now op first last → BuffersReply old new before after first last caller 0 op reply → (0 < pages_in op) ⊎ (0 < nodes_asked (present old.tree before) caller now op)
asks_of old new before after caller now (OpenFile path slot) reply first last sides need h done there noted at_once buffers = absurd h
asks_of old new before after caller now (Close slot) reply first last sides need h done there noted at_once buffers = absurd h
asks_of old new before after caller now (Read slot offs len) reply first last sides need h done there noted at_once buffers = absurd h
asks_of old new before after caller now (ListDir path) reply first last sides need h done there noted at_once buffers = absurd h
asks_of old new before after caller now (Stat path) reply first last sides need h done there noted at_once buffers = absurd h
asks_of old new before after caller now (Readlink path) reply first last sides need h done there noted at_once buffers = absurd h
asks_of old new before after caller now (Fsync slot) reply first last sides need h done there noted at_once buffers = absurd h
asks_of old new before after caller now Flush reply first last sides need h done there noted at_once buffers = absurd h
asks_of old new before after caller now (Write slot offs len byte) reply first last sides need h done there noted at_once buffers =
    let held = open_for (present old.tree before) caller now slot offs len byte done there in
    let few : newly_dirty before.pages.dirty held.0 offs len ≤ length (pages_of offs len) = fewer _ (pages_of offs len) in
    inl (has_pages first last sides (length (pages_of offs len)) (newly_dirty before.pages.dirty held.0 offs len) few noted (λ paid. (buffers held.0 held.1 (inl paid)).room))
asks_of old new before after caller now op reply first last sides need h done there noted at_once buffers =
    inr (has_nodes first last sides (nodes_asked (present old.tree before) caller now op) noted (λ none. (at_once refl done there (inl none)).0))

-- the reply's cause, of those that are left
cause_of : (geo : RawGeometry) (old new : BackingState) (kept : Kept) (before after : ScriptRunning) (caller : ℕ) (op : Op) (reply : Reply) → IsCalm geo old new before
    → ((need : Need) (sides : NoSpace) → IsWithoutRoom old new kept need (Enospc sides) → HasNoRoom geo after need sides)
    → ((sides : NoSpace) → IsTurnedDown old new kept (asked before.files caller before.now 0 op) op (Enospc sides) → (done : Reply × Files) → allowed_on old before.files caller before.now op ≡ Ok done → reply ≡ Refused (Enospc sides) → (0 < pages_in op) ⊎ (0 < nodes_asked before.files caller before.now op))
    → is_memory reply ≡ false → (r : Refusal) → reply ≡ Refused r
    → (allowed_on old before.files caller before.now op ≡ Err r) ⊎ (IsTurnedDown old new kept (asked before.files caller before.now 0 op) op r × IsLast (allowed_on old before.files caller before.now op) r)
    → ((refusal : Refusal) × (plain geo before caller op ≡ Err refusal) × (reply ≡ Refused refusal)) ⊎ IsRefusedForRoom geo before caller op reply after
cause_of geo old new kept before after caller op reply calm room asks known r told (inl e) = inl (r, sym (plainly geo old before caller op calm.limit calm.orphans) ∙ e, told)
cause_of geo old new kept before after caller op reply calm room asks known (Enospc sides) told (inr (turned, last)) = inr (record {
  sides = sides;
  told = told;
  asks = asks sides turned last.0 last.1 told;
  free = (last.0, sym (plainly geo old before caller op calm.limit calm.orphans) ∙ last.1);
  room = room (asked before.files caller before.now 0 op) sides (turned_room old new kept (asked before.files caller before.now 0 op) op (Enospc sides) turned);
})
cause_of geo old new kept before after caller op reply calm room asks known (Eio count) told (inr (turned, last)) =
    let why = turned_room old new kept (asked before.files caller before.now 0 op) op (Eio count) turned in absurd (no_rise old.faults new.faults calm.faults_were calm.faults why.0)
cause_of geo old new kept before after caller op reply calm room asks known (Erofs cause) told (inr (turned, last)) =
    let n : ReadWrite ≡ ReadOnly cause = sym calm.is ∙ turned_room old new kept (asked before.files caller before.now 0 op) op (Erofs cause) turned in absurd cc
cause_of geo old new kept before after caller op reply calm room asks known Enomem told (inr (turned, last)) = absurd (false≢true (sym known ∙ ap is_memory told))
cause_of geo old new kept before after caller op reply calm room asks known r told (inr (turned, last)) = absurd (turned_room old new kept (asked before.files caller before.now 0 op) op r turned)

pub answer_of : (geo : RawGeometry) (old new : BackingState) (kept : Kept) (before after : ScriptRunning) (caller : ℕ) (op : Op) (reply : Reply) (first last : List NoSpace) → IsCalm geo old new before
    → ((need : Need) (sides : NoSpace) → IsWithoutRoom old new kept need (Enospc sides) → HasNoRoom geo after need sides)
    → ((sides : NoSpace) → IsTurnedDown old new kept (asked before.files caller before.now 0 op) op (Enospc sides) → (done : Reply × Files) → allowed_on old before.files caller before.now op ≡ Ok done → reply ≡ Refused (Enospc sides) → last ≡ first ++ no_space_in reply → (0 < pages_in op) ⊎ (0 < nodes_asked before.files caller before.now op))
    → is_memory reply ≡ false → present new.tree kept ≡ after.files → IsAnswered old new kept before.files caller before.now 0 op reply first last → IsScriptAnswer geo before caller op reply after
answer_of geo old new kept before after caller op reply first last calm room asks known seen (inl (open_is, done, same)) =
    let Q : Files → Type 0 = λ files. IsDone (plain geo before caller op) files reply in
    inl (subst Q seen (subst (λ outcome. IsDone outcome (present new.tree kept) reply) (plainly geo old before caller op calm.limit calm.orphans) done))
answer_of geo old new kept before after caller op reply first last calm room asks known seen (inr (refusal, list)) =
    let Q : Files → Type 0 = λ files. IsAlike before.files files in
    inr (record {
      why = cause_of geo old new kept before after caller op reply calm room (λ sides turned done there told. asks sides turned done there told list) known refusal.refusal refusal.told
          (subst (λ (m : Mode). IsRefusedFor (read_only_cause m op) old new kept before.files caller before.now 0 op refusal.refusal) calm.was refusal.why);
      same = subst Q seen refusal.same;
    })

-- a bound on two numbers is one on their equals
pub grows_of : (a b m n more : ℕ) → a ≡ m → b ≡ n → n ≤ m + more → b ≤ a + more
grows_of a b m n more e f h = omega (arith, e, f, h)

-- the two sides are those of the present tree and its index, where no page is dirty
pub no_room : (geo : RawGeometry) (old : BackingState) (new : PlainBacking) (kept : Kept) (now : ℕ) → IsSteady geo new kept → IsKept (backing_state_of new).tree kept
    → (IsKept (backing_state_of new).tree kept → kept.pages.dirty ≡ [] → (present (backing_state_of new).tree kept).tree ≡ (backing_state_of new).tree)
    → (need : Need) (sides : NoSpace) → IsWithoutRoom old (backing_state_of new) kept need (Enospc sides) → HasNoRoom geo (mounted_over new kept now) need sides
no_room geo old new kept now steady fits clean need sides h =
    let state = backing_state_of new in
    let here = mounted_over new kept now in
    let none : length kept.pages.dirty ≡ 0 = ap (λ dirty. length dirty) h.3 in
    let credits : state.space.credits ≡ 0 = steady.credits ∙ none in
    let used : tree_bytes state.tree ≡ tree_bytes here.files.tree = ap tree_bytes (sym (clean fits h.3)) in
    let weight : state.space.weight ≡ here.weight = omega (arith, none) in
    let asks : ℕ → ℕ → ℕ = λ bytes more. needed (record state.space { used = bytes; held = 0; credits = more }) need in
    let has : RawGeometry → ℕ → ℕ → ℕ = λ g more heavy. room_for g (record state.space { credits = more; weight = heavy; main = main_lebs g }) need in
    record {
      need_is = h.0 ∙ ap (λ bytes. asks bytes state.space.credits) used ∙ ap (λ more. asks (tree_bytes here.files.tree) more) credits;
      room_is = h.1 ∙ ap (λ g. has g state.space.credits state.space.weight) steady.geometry ∙ ap (λ more. has geo more state.space.weight) credits ∙ ap (λ heavy. has geo 0 heavy) weight;
      full = h.2;
    }

no_count : (a count b : ℕ) → b ≡ 0 → Rose a count → count ≤ b → ⊥
no_count a count b e (inl less) few = omega (arith, e, less, few)
no_count a count b e (inr most) few = omega (arith, e, most, few)

-- a backing that doesn't fail stays writable
still_writable : (n : ℕ) (old : BackingState) (new : PlainBacking) → Goes n old (backing_state_of new) → old.mode ≡ ReadWrite → old.faults ≡ 0 → (backing_state_of new).faults ≡ 0 → (backing_state_of new).mode ≡ ReadWrite
still_writable n old new goes was none still = by goes.mode
  where
    by : ModeGoes old (backing_state_of new) → (backing_state_of new).mode ≡ ReadWrite
    by (inl same) = same ∙ was
    by (inr (open_was, inl lost)) = absurd (no_count old.faults lost.0 (backing_state_of new).faults still lost.2 lost.3)
    by (inr (open_was, inr lost)) = absurd (false≢true (sym new.unspent ∙ ap is_spent lost.2))

-- what a run keeps of its backing stays over a step
pub steady_next : (geo : RawGeometry) (old new : PlainBacking) (before after : Kept) (n left : ℕ) → IsSteady geo old before → Goes n (backing_state_of old) (backing_state_of new)
    → SureGoes (outlook_of old) (outlook_of new) (backing_state_of old) (backing_state_of new)
    → ((backing_state_of new).space.credits + length before.pages.dirty + 0 ≡ (backing_state_of old).space.credits + length after.pages.dirty + left) → left ≤ 0 → IsSteady geo new after
steady_next geo old new before after n left steady goes sure issued none = by (sure.sure (steady.strike, steady.covers))
  where
    by : ⊥ ⊎ (((new.numbers.strike ≡ 0) × Covers (backing_state_of new)) × ((backing_state_of new).faults ≡ (backing_state_of old).faults)) → IsSteady geo new after
    by (inl spent) = absurd spent
    by (inr ((strike, covers), same)) = record {
      geometry = goes.geometry ∙ steady.geometry;
      mode = still_writable n (backing_state_of old) new goes steady.mode steady.faults (same ∙ steady.faults);
      faults = same ∙ steady.faults;
      strike = strike;
      covers = covers;
      orphans = goes.orphan_limit ∙ steady.orphans;
      credits = let covered = steady.credits in omega (arith, issued, none, covered);
    }

-- a call is answered by a reply
pub reply_of : (old new : BackingState) (before after : Kept) (first last : List NoSpace) (caller now : ℕ) (op : Op) (outcome : Outcome) → IsAnswerOf old new before after first last (Call caller now 0 op) outcome → IsReply outcome
reply_of old new before after first last caller now op (Replied reply left) h = tt
reply_of old new before after first last caller now op outcome h = absurd h

-- what a step that was made says of its reply
pub told_of : (old new : BackingState) (before after : Kept) (first last : List NoSpace) (caller now : ℕ) (op : Op) (outcome : Outcome) (reply : Reply) (left : ℕ) → outcome ≡ Replied reply left
    → IsAnswerOf old new before after first last (Call caller now 0 op) outcome → IsAnswered old new after (present old.tree before) caller now 0 op reply first last × (left ≤ 0)
told_of old new before after first last caller now op outcome reply left e h = subst (λ o. IsAnswerOf old new before after first last (Call caller now 0 op) o) e h

pub issued_of : (a b d f : ℕ) (outcome : Outcome) (reply : Reply) (left : ℕ) → outcome ≡ Replied reply left → a + b + 0 ≡ d + f + left_of outcome → a + b + 0 ≡ d + f + left
issued_of a b d f outcome reply left e h = h ∙ ap (λ o. d + f + left_of o) e

-- what a step says of its outcome, of the reply that this is
pub exact_of : (p : Passage) (caller now : ℕ) (op : Op) (outcome : Outcome) (reply : Reply) (left : ℕ) → outcome ≡ Replied reply left → IsExactCall p (Call caller now 0 op) outcome → IsExact p caller now 0 op reply left
exact_of p caller now op outcome reply left e h = subst (λ o. IsExactCall p (Call caller now 0 op) o) e h

pub weighed_of : (p : Passage) (caller now : ℕ) (op : Op) (outcome : Outcome) (reply : Reply) (left : ℕ) → outcome ≡ Replied reply left → IsWeighedCall p (Call caller now 0 op) outcome → IsWeighedCall p (Call caller now 0 op) (Replied reply left)
weighed_of p caller now op outcome reply left e h = subst (λ o. IsWeighedCall p (Call caller now 0 op) o) e h

pub written_of : (old new : BackingState) (before after : Kept) (caller now : ℕ) (op : Op) (outcome : Outcome) (reply : Reply) (left : ℕ) → old.mode ≡ ReadWrite → outcome ≡ Replied reply left
    → IsWrittenBack old.mode new before after (Call caller now 0 op) outcome → HasSynced ReadWrite new before after caller op reply
written_of old new before after caller now op outcome reply left mode e h =
    let P : Mode → Type 0 = λ m. HasSynced m new before after caller op reply in subst P mode (subst (λ o. IsWrittenBack old.mode new before after (Call caller now 0 op) o) e h)
