-- A page that was picked is put.
use Rattle.std.proofs.Common.{◌≡◌, ◌+◌, ◌≤◌, Bool, true, Some, inl, inr, length, refl, sym, ap, subst, ◌∙◌, arith}
use Rattle.std.specs.Prelude.{Ok, Err, if◌then◌else◌}
use Rattle.fs_model.specs.declared.backing_answers.Mode.{Mode}
use Rattle.fs_model.specs.declared.backing_answers.Mode.TheVariants.{ReadWrite, ReadOnly}
use Rattle.fs_model.specs.declared.backing_answers.StoreFault.{StoreFault}
use Rattle.fs_model.specs.declared.backing_answers.StoreFault.TheVariants.{Memory, Volume, ReadOnly as IsReadOnly}
use Rattle.fs_model.specs.declared.page_node.PageNode.{PageNode}
use Rattle.fs_model.specs.declared.refusal.Cause.{Cause}
use Rattle.fs_model.specs.Backing.{BackingState, Goes, HasCause, HasMode, next_orphans, page_group, page_puts, put_by}
use Rattle.fs_model.specs.Journal.{Leaves}
use Rattle.fs_model.specs.JournalLaws.{Leaves-none}
use Rattle.page_cache.specs.Pages.{Pages, is_current, without_dirty}
use Rattle.buffered_files.specs.declared.kept.Kept.{Kept}
use Rattle.buffered_files.specs.Alike.{IsAlike}
use Rattle.buffered_files.specs.Calls.{GrowsBy, added_or_failed}
use Rattle.buffered_files.specs.CallLaws.{Goes-none, Goes-within}
use Rattle.buffered_files.specs.PagePut.{IsPutOrKept, page_at}
use Rattle.buffered_files.specs.Present.{present}
use Rattle.buffered_files.specs.CutLaws.{Puts-none}
use Rattle.buffered_files.specs.Cuts.{PutsSeen, ValuesOf}
use Rattle.vfs_ops.specs.declared.event.Encoded.{Encoded}
use Rattle.vfs_ops.specs.declared.event.Event.{Event}
use Rattle.vfs_ops.specs.declared.event.Event.TheVariants.{Pick, Put}
use Rattle.vfs_ops.specs.declared.event.Outcome.{Outcome}
use Rattle.vfs_ops.specs.declared.event.Outcome.TheVariants.{Page, NoPage, PutDone, Stale, Fault}
use Rattle.vfs_ops.specs.Background.{IsPicked, IsPlaced, IsPut, IsUnplaced, added_in, drained_in, encoded_at, granted_in}
use Rattle.vfs_ops.specs.FilesState.{FilesState, present_in}
use Rattle.vfs_ops.specs.Passing.{IsStep}
use Rattle.vfs_ops.specs.Steps.{Passage}
use Rattle.vfs_ops.proofs.Picking.{IsThere}
use Rattle.vfs_ops.proofs.Takes.{alike_on}

writable : (T : Type 0) (mode : Mode) (x : T) → HasMode {T = T} mode (Ok x) → mode ≡ ReadWrite
writable T ReadWrite x h = refl
writable T (ReadOnly cause) x (inl e) = absurd cc
writable T (ReadOnly cause) x (inr e) = absurd cc

mode_again : (T U : Type 0) (mode : Mode) (why : StoreFault) → HasMode {T = T} mode (Err why) → HasMode {T = U} mode (Err why)
mode_again T U ReadWrite Memory h = tt
mode_again T U ReadWrite (Volume count) h = tt
mode_again T U ReadWrite (IsReadOnly cause) h = h
mode_again T U (ReadOnly cause) why (inl e) = let same : why ≡ IsReadOnly cause = cc e in inl (ap (λ f. Err f) same)
mode_again T U (ReadOnly cause) why (inr e) = let same : why ≡ Memory = cc e in inr (ap (λ f. Err f) same)

cause_again : (T U : Type 0) (old new : BackingState) (why : StoreFault) → HasCause {T = T} old new (Err why) → HasCause {T = U} old new (Err why)
cause_again T U old new Memory h = tt
cause_again T U old new (Volume count) h = h
cause_again T U old new (IsReadOnly cause) h = tt

-- what is kept, where only pages changed
kept_is : (before after : Kept) (pages : Pages) → after.pages ≡ pages → after.inodes ≡ before.inodes → after.handles ≡ before.handles → after ≡ record before { pages = pages }
kept_is before after pages p i h =
    ap (λ (q : Pages). record after { pages = q }) p
    ∙ ap (λ q. record after { pages = pages; inodes = q }) i
    ∙ ap (λ q. record before { pages = pages; handles = q }) h

-- the page that is put is clean
pub placed : (p : Passage) (shown : Encoded) (t : IsThere p.before shown) (put : Bool) → IsPutOrKept p.old p.new t.node (Ok put) → encoded_at p.before shown.ino shown.block ≡ Some shown
    → put ≡ is_current p.before.pages (record { ino = shown.ino; block = shown.block; version = shown.version })
    → p.after.pages ≡ (if put then without_dirty p.before.pages shown.ino shown.block else p.before.pages) → p.after.inodes ≡ p.before.inodes → p.after.handles ≡ p.before.handles → IsPlaced p shown
placed p shown t put done current is pages inodes handles =
    let yes : put ≡ true = is ∙ t.current in
    let clean : p.after.pages ≡ without_dirty p.before.pages shown.ino shown.block = pages ∙ ap (λ (b : Bool). if b then without_dirty p.before.pages shown.ino shown.block else p.before.pages) yes in
    record { node = t.node; found = t.found; current = current; put = done.done; clean = kept_is p.before p.after (without_dirty p.before.pages shown.ino shown.block) clean inodes handles; mode = writable Bool p.old.mode put done.mode; cut = done.cut }

-- the page that couldn't be put stays as it is
pub unplaced : (p : Passage) (shown : Encoded) (node : PageNode) (why : StoreFault) → page_at p.before shown.ino shown.block ≡ Some node → IsPutOrKept {T = Bool} p.old p.new node (Err why) → encoded_at p.before shown.ino shown.block ≡ Some shown → p.after ≡ p.before
    → HasCause {T = Bool} p.old p.new (Err why) → p.old.mode ≡ ReadWrite → IsUnplaced p shown why
unplaced p shown node why found kept current same cause writes = record {
  node = node;
  found = found;
  current = current;
  pages = same;
  files = kept.files;
  cause = cause_again Bool (Unit {0}) p.old p.new why cause;
  mode = mode_again Bool (Unit {0}) p.old.mode why kept.mode;
  goes = goes_again why kept.goes;
  idle = λ other is. let never : ReadWrite ≡ ReadOnly other = sym writes ∙ is in absurd cc;
  cut = cut_again why kept.cut;
}
  where
    goes_again : (f : StoreFault) → Goes (length (put_by {T = Bool} (Err f) (page_group node))) p.old p.new → Goes (length (put_by {T = Unit {0}} (Err f) (page_group node))) p.old p.new
    goes_again Memory h = h
    goes_again (Volume count) h = h
    goes_again (IsReadOnly cause) h = h

    cut_again : (f : StoreFault) → Leaves p.old.journal p.new.journal (put_by {T = Bool} (Err f) (page_puts node)) → Leaves p.old.journal p.new.journal (put_by {T = Unit {0}} (Err f) (page_puts node))
    cut_again Memory h = h
    cut_again (Volume count) h = h
    cut_again (IsReadOnly cause) h = h

-- a store that is read-only isn't asked
pub unasked : (old : BackingState) (kept : Kept) (shown : Encoded) (node : PageNode) (cause : Cause) → page_at kept shown.ino shown.block ≡ Some node → encoded_at kept shown.ino shown.block ≡ Some shown → old.mode ≡ ReadOnly cause
    → IsUnplaced (record { old = old; new = old; before = kept; after = kept }) shown (IsReadOnly cause)
unasked old kept shown node cause found current is = record {
  node = node;
  found = found;
  current = current;
  pages = refl;
  files = record { tree = refl; credits = refl; grant = refl; held = omega arith; closed = omega arith };
  cause = tt;
  mode = subst (λ m. HasMode {T = Unit {0}} m (Err (IsReadOnly cause))) (sym is) (inl refl);
  goes = Goes-none old;
  idle = λ other same. let e : ReadOnly cause ≡ ReadOnly other = sym is ∙ same in let c : cause ≡ other = cc e in (ap (λ x. IsReadOnly x) c, refl);
  cut = Leaves-none old.journal;
}

-- a page that couldn't be put is heavier only where the volume failed
pub put_weighed : (shown : Encoded) (why : StoreFault) (a b : BackingState) (before after : Kept) → GrowsBy (added_or_failed {T = Bool} 0 2 (Err why)) a b before after → GrowsBy (added_in (Put shown) (Fault why)) a b before after
put_weighed shown Memory a b before after h = h
put_weighed shown (Volume count) a b before after h = h
put_weighed shown (IsReadOnly cause) a b before after h = h

-- a pick gives and takes no credit
pick_plain : (kept : Kept) (outcome : Outcome) → IsPicked kept outcome → (drained_in outcome ≡ 0) × (granted_in outcome ≡ 0)
pick_plain kept (Page shown) h = (refl, refl)
pick_plain kept NoPage h = (refl, refl)
pick_plain kept (Fault why) h = (refl, refl)
pick_plain kept outcome h = absurd h

-- a pick is a step
pub pick_step : (old : FilesState) (outcome : Outcome) → IsPicked old.kept outcome → IsStep old old Pick outcome
pick_step old outcome h =
    let plain = pick_plain old.kept outcome h in
    let none = plain.0 in
    let nil = plain.1 in
    record { made = (h, refl); same = alike_on old.backing.tree old.backing.tree old.kept refl; refused = refl; issued = omega (arith, none, nil); weighed = omega arith; orphans = omega arith; cut = Puts-none (ValuesOf (present_in old).tree) old.backing.journal; goes = Goes-none old.backing }

-- nor does a put
put_plain : (p : Passage) (shown : Encoded) (outcome : Outcome) → IsPut p shown outcome → (drained_in outcome ≡ 0) × (granted_in outcome ≡ 0)
put_plain p shown PutDone h = (refl, refl)
put_plain p shown (Stale kept now) h = (refl, refl)
put_plain p shown (Fault why) h = (refl, refl)
put_plain p shown outcome h = absurd h

-- and a put is one
pub put_step : (old : FilesState) (b : BackingState) (kept : Kept) (shown : Encoded) (outcome : Outcome) → IsPut (record { old = old.backing; new = b; before = old.kept; after = kept }) shown outcome → IsAlike (present_in old) (present b.tree kept)
    → b.space.credits + length old.kept.pages.dirty ≡ old.backing.space.credits + length kept.pages.dirty → GrowsBy (added_in (Put shown) outcome) old.backing b old.kept kept → next_orphans b ≤ next_orphans old.backing → PutsSeen old.backing b old.kept → Goes 2 old.backing b → IsStep old (record { backing = b; kept = kept; refused = old.refused }) (Put shown) outcome
put_step old b kept shown outcome h same issued weighed orphans cut goes =
    let plain = put_plain (record { old = old.backing; new = b; before = old.kept; after = kept }) shown outcome h in
    let none = plain.0 in
    let nil = plain.1 in
    record { made = h; same = same; refused = refl; issued = omega (arith, issued, none, nil); weighed = weighed; orphans = orphans; cut = cut; goes = goes }

-- nothing was put
pub goes_none : (old : BackingState) → Goes 2 old old
goes_none old = Goes-within 0 2 old old (omega arith) (Goes-none old)

pub put_step_at : (old : FilesState) (b : BackingState) (kept : Kept) (event : Event) (shown : Encoded) (outcome : Outcome) → event ≡ Put shown → IsPut (record { old = old.backing; new = b; before = old.kept; after = kept }) shown outcome → IsAlike (present_in old) (present b.tree kept)
    → b.space.credits + length old.kept.pages.dirty ≡ old.backing.space.credits + length kept.pages.dirty → GrowsBy (added_in (Put shown) outcome) old.backing b old.kept kept → next_orphans b ≤ next_orphans old.backing → PutsSeen old.backing b old.kept → Goes 2 old.backing b → IsStep old (record { backing = b; kept = kept; refused = old.refused }) event outcome
put_step_at old b kept event shown outcome is h same issued weighed orphans cut goes =
    subst (λ (e : Event). IsStep old (record { backing = b; kept = kept; refused = old.refused }) e outcome) (sym is) (put_step old b kept shown outcome h same issued weighed orphans cut goes)
