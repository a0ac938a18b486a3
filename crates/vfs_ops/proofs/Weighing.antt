-- How much heavier the index gets in a step, dirty pages included.
use Rattle.std.proofs.Common.{◌≡◌, ℕ, ◌+◌, ◌*◌, ◌≤◌, ◌⊎◌, inl, inr, Bool, true, false, cond, List, [], ◌∷◌, length, max, Ok, Err, sym, ap, subst, arith, Result}
use Rattle.std.specs.Prelude.{filter, not, is_some}
use Rattle.std.proofs.lemmas.Bool.{false≢true}
use Rattle.std.specs.Map.{lookup}
use Rattle.page_cache.specs.Pages.{is_page}
use Rattle.fs_model.specs.declared.backing_answers.StoreFault.{StoreFault}
use Rattle.fs_model.specs.declared.backing_answers.StoreFault.TheVariants.{Memory, Volume, ReadOnly as IsReadOnly}
use Rattle.fs_model.specs.declared.refusal.NoSpace.{NoSpace}
use Rattle.fs_model.specs.declared.refusal.Refusal.{Refusal}
use Rattle.fs_model.specs.declared.refusal.Refusal.TheVariants.{Enospc, Eio, Enomem}
use Rattle.fs_model.specs.declared.reply.Reply.{Reply}
use Rattle.fs_model.specs.declared.reply.Reply.TheVariants.{Refused}
use Rattle.fs_model.specs.declared.space.Need.{Need}
use Rattle.fs_model.specs.Backing.{BackingState, Goes, given_back, granted}
use Rattle.fs_model.specs.CallFaults.{refusal_of}
use Rattle.fs_model.specs.Files.{Files, pages_of}
use Rattle.buffered_files.specs.declared.kept.Kept.{Kept}
use Rattle.buffered_files.specs.Calls.{GrowsBy, added_or_failed, added_or_refused}
use Rattle.buffered_files.specs.Present.{DirtyPages, newly_dirty, present}
use Rattle.fs_model.specs.declared.op.Op.{Op}
use Rattle.fs_model.specs.declared.op.Op.TheVariants.{Write}
use Rattle.fs_model.specs.Legal.{pages_in}
use Rattle.vfs_ops.specs.declared.event.Event.TheVariants.{Call}
use Rattle.vfs_ops.specs.declared.event.Outcome.{Outcome}
use Rattle.vfs_ops.specs.declared.event.Outcome.TheVariants.{Replied}
use Rattle.vfs_ops.specs.Events.{IsWeighedCall}
use Rattle.vfs_ops.specs.FilesState.{FilesState}
use Rattle.vfs_ops.specs.Kinds.{added_by}
use Rattle.vfs_ops.specs.Operations.{nodes_asked}
use Rattle.vfs_ops.specs.Replies.{is_refusal}

-- what puts no node and makes no page dirty
pub no_heavier : (n : ℕ) (a b : BackingState) (before after : Kept) → Goes 0 a b → length after.pages.dirty ≤ length before.pages.dirty → GrowsBy n a b before after
no_heavier n a b before after goes few = let w = goes.weight in omega (arith, w, few)

-- a look in front
pub after_look : (n : ℕ) (a b c : BackingState) (before after : Kept) → Goes 0 a b → GrowsBy n b c before after → GrowsBy n a c before after
after_look n a b c before after goes grows = let w = goes.weight in omega (arith, w, grows)

-- a call that puts nothing behind
pub before_look : (n : ℕ) (a b c : BackingState) (before mid after : Kept) → GrowsBy n a b before mid → Goes 0 b c → length after.pages.dirty ≤ length mid.pages.dirty → GrowsBy n a c before after
before_look n a b c before mid after grows goes few = let w = goes.weight in omega (arith, w, grows, few)

-- to cover credits, or to give them back, adds nothing
pub weigh_granted : (n : ℕ) (a b c : BackingState) (need : Need) (before after : Kept) → GrowsBy n a b before after → c ≡ granted b need → GrowsBy n a c before after
weigh_granted n a b c need before after grows same = subst (λ s. GrowsBy n a s before after) (sym same) grows

pub weigh_given : (n : ℕ) (a b c : BackingState) (credits : ℕ) (before after : Kept) → GrowsBy n a b before after → c ≡ given_back b credits → GrowsBy n a c before after
weigh_given n a b c credits before after grows same = subst (λ s. GrowsBy n a s before after) (sym same) grows

-- a refusal in another place
pub refused_wider : (T U : Type 0) (d e f g : ℕ) (r : Refusal) (a b : BackingState) (before after : Kept) → f ≤ g → GrowsBy (added_or_refused {T = T} d f (Err r)) a b before after → GrowsBy (added_or_refused {T = U} e g (Err r)) a b before after
refused_wider T U d e f g (Eio count) a b before after le grows = omega (arith, le, grows)
refused_wider T U d e f g r a b before after le grows = grows

-- more is allowed
pub wider : {T : Type 0} (d e f g : ℕ) (result : Result T Refusal) (a b : BackingState) (before after : Kept) → d ≤ e → f ≤ g → GrowsBy (added_or_refused d f result) a b before after → GrowsBy (added_or_refused e g result) a b before after
wider d e f g (Ok x) a b before after more le grows = omega (arith, more, grows)
wider {T} d e f g (Err r) a b before after more le grows = refused_wider T T d e f g r a b before after le grows

-- what adds nothing at all
pub never : {T : Type 0} (d f : ℕ) (result : Result T Refusal) (a b : BackingState) (before after : Kept) → GrowsBy 0 a b before after → GrowsBy (added_or_refused d f result) a b before after
never d f result a b before after grows = omega (arith, grows)

-- a fault of the backing, told as a refusal
pub fault_told : (T U : Type 0) (d f : ℕ) (fault : StoreFault) (a b : BackingState) (before after : Kept) → GrowsBy (added_or_failed {T = T} d f (Err fault)) a b before after → GrowsBy (added_or_refused {T = U} d f (Err (refusal_of fault))) a b before after
fault_told T U d f Memory a b before after grows = grows
fault_told T U d f (Volume count) a b before after grows = grows
fault_told T U d f (IsReadOnly cause) a b before after grows = grows

-- a refusal as it is told
pub refusal_told : (T : Type 0) (d f : ℕ) (refusal noted : Refusal) (a b : BackingState) (before after : Kept) → (noted ≡ refusal) ⊎ ((noted ≡ Enomem) × ((space : NoSpace) × (refusal ≡ Enospc space)))
    → GrowsBy (added_or_refused {T = T} d f (Err refusal)) a b before after → GrowsBy (added_by d f (Refused noted)) a b before after
refusal_told T d f refusal noted a b before after (inl same) grows = subst (λ r. GrowsBy (added_by d f (Refused r)) a b before after) (sym same) (by refusal grows)
  where
    by : (r : Refusal) → GrowsBy (added_or_refused {T = T} d f (Err r)) a b before after → GrowsBy (added_by d f (Refused r)) a b before after
    by (Eio count) h = h
    by r h = h
refusal_told T d f refusal noted a b before after (inr (memory, full)) grows =
    let none : GrowsBy 0 a b before after = subst (λ (r : Refusal). GrowsBy (added_or_refused {T = T} d f (Err r)) a b before after) full.1 grows in
    subst (λ r. GrowsBy (added_by d f (Refused r)) a b before after) (sym memory) none

-- a reply that is no refusal
pub reply_told : (d f : ℕ) (reply : Reply) (a b : BackingState) (before after : Kept) → is_refusal reply ≡ false → GrowsBy d a b before after → GrowsBy (added_by d f reply) a b before after
reply_told d f (Refused refusal) a b before after plain grows = absurd (false≢true (sym plain))
reply_told d f reply a b before after plain grows = grows

few_of : {X : Type 0} (test : X → Bool) (xs : List X) → length (filter test xs) ≤ length xs
few_of test [] = omega arith
few_of test (x ∷ xs) = by (few_of test xs) (test x)
  where
    by : length (filter test xs) ≤ length xs → (b : Bool) → length (cond b (x ∷ filter test xs) (filter test xs)) ≤ length (x ∷ xs)
    by more true = omega (arith, more)
    by more false = omega (arith, more)

-- a write makes at most the pages dirty that it touches
pub written : (dirty : DirtyPages) (ino offs len : ℕ) (a b c : BackingState) (before mid after : Kept) → GrowsBy 0 a b before mid → mid.pages.dirty ≡ dirty → Goes 0 b c → length after.pages.dirty ≡ length dirty + newly_dirty dirty ino offs len
    → GrowsBy (2 * length (pages_of offs len)) a c before after
written dirty ino offs len a b c before mid after grows same goes count =
    let w = goes.weight in
    let few : newly_dirty dirty ino offs len ≤ length (pages_of offs len) = few_of (λ page. not (is_some (lookup (is_page (ino, page)) dirty))) (pages_of offs len) in
    let pages : length mid.pages.dirty ≡ length dirty = ap (λ (d : DirtyPages). length d) same in
    omega (arith, grows, w, few, pages, count)

-- a write, whatever operation it is that writes so
pub write_weighs : {T : Type 0} (files : Files) (caller now : ℕ) (op : Op) (slot offs len byte : ℕ) (result : Result T Refusal) (a b : BackingState) (before after : Kept) → op ≡ Write slot offs len byte
    → GrowsBy (added_or_refused (2 * length (pages_of offs len)) 2 result) a b before after
    → GrowsBy (added_or_refused (2 * pages_in op + nodes_asked files caller now op) (max 2 (nodes_asked files caller now op)) result) a b before after
write_weighs files caller now op slot offs len byte result a b before after is grows =
    let P : Op → Type 0 = λ o. GrowsBy (added_or_refused (2 * pages_in o + nodes_asked files caller now o) (max 2 (nodes_asked files caller now o)) result) a b before after in
    subst P (sym is) (wider (2 * length (pages_of offs len)) (2 * length (pages_of offs len) + 0) 2 2 result a b before after (omega arith) (omega arith) grows)

-- a call adds five nodes and what its words touch, if it asks for few
pub weighed_few : (old new : FilesState) (caller now grant : ℕ) (op : Op) (outcome : Outcome) → nodes_asked (present old.backing.tree old.kept) caller now op ≤ 5
    → IsWeighedCall (record { old = old.backing; new = new.backing; before = old.kept; after = new.kept }) (Call caller now grant op) outcome → GrowsBy (5 + 2 * pages_in op) old.backing new.backing old.kept new.kept
weighed_few old new caller now grant op (Replied reply left) short h = by reply h
  where
    n : ℕ
    n = nodes_asked (present old.backing.tree old.kept) caller now op

    by : (r : Reply) → GrowsBy (added_by (2 * pages_in op + n) (max 2 n) r) old.backing new.backing old.kept new.kept → GrowsBy (5 + 2 * pages_in op) old.backing new.backing old.kept new.kept
    by (Refused (Eio count)) h = omega (arith, short, h)
    by (Refused r) h = omega (arith, h)
    by r h = omega (arith, short, h)
weighed_few old new caller now grant op outcome short h = absurd h
