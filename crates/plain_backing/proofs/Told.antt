-- What a backing that tells its journal keeps, call by call.
use Rattle.std.proofs.Common.{◌≡◌, ℕ, true, List, [], ◌∷◌, ◌++◌, map, Option, None, refl, sym, ap, subst, ◌∙◌, arith}
use Rattle.std.proofs.lemmas.Bool.{and_parts, and_from}
use Rattle.fs_model.specs.declared.backing_answers.Mode.{Mode}
use Rattle.fs_model.specs.declared.backing_answers.Mode.TheVariants.{ReadWrite, ReadOnly}
use Rattle.fs_model.specs.declared.backing_answers.StoreFault.{StoreFault}
use Rattle.fs_model.specs.declared.backing_answers.StoreFault.TheVariants.{Memory, Volume, ReadOnly as IsReadOnly}
use Rattle.fs_model.specs.declared.change.Change.{Change}
use Rattle.fs_model.specs.declared.change.Change.TheVariants.{SetInode, SetBlock}
use Rattle.fs_model.specs.declared.page_node.PageNode.{PageNode}
use Rattle.fs_model.specs.Backing.{IsBegun, page_group, page_puts}
use Rattle.fs_model.specs.Change.{apply, applied, without_inode}
use Rattle.fs_model.specs.Files.{Tree}
use Rattle.fs_model.specs.Journal.{AreSynced, base_head, data_head, later_groups}
use Rattle.fs_model.specs.Recovery.{Head}
use Rattle.fs_model.specs.Orphan.{all_revive_none, revives_none, is_nameless}
use Rattle.plain_backing.specs.declared.numbers.Numbers.{Numbers}
use Rattle.plain_backing.specs.PlainBacking.{failed, faulted, IsChangeRefused}
use Rattle.plain_backing.specs.Story.{Story, IsStory, HasAllGroups, is_story_idle, medium_of, failed_puts, put_at, with_all, synced_story, begun, ended_story}
use Rattle.plain_backing.proofs.Putting.{Left, puts_failed, puts_left, put_done}
use Rattle.plain_backing.proofs.Syncing.{sync_done, sync_left, sync_whole, sync_synced, begin_done, begin_left, begin_synced, begin_counts, end_done, end_left, end_groups, none_joined, drop_done}

-- a changing call that isn't done leaves the backing read-only
pub refused_mode : (old new : Numbers) (fault : StoreFault) → IsChangeRefused old new fault → new.mode ≡ ReadWrite → ⊥
refused_mode old new Memory none w = none
refused_mode old new (Volume count) h w =
    let P : Mode → Type 0 = λ mode. faulted mode (failed old).faults ≡ ReadWrite in
    let written : faulted ReadWrite (failed old).faults ≡ ReadWrite = subst P h.2 (sym (ap (λ (n : Numbers). n.mode) h.0) ∙ w) in
    absurd cc
refused_mode old new (IsReadOnly cause) h w =
    let written : ReadOnly cause ≡ ReadWrite = sym h.1 ∙ ap (λ (n : Numbers). n.mode) (sym h.0) ∙ w in
    absurd cc

-- and the commit as it was
pub refused_running : (old new : Numbers) (fault : StoreFault) → IsChangeRefused old new fault → new.running ≡ old.running
refused_running old new Memory none = absurd none
refused_running old new (Volume count) h = ap (λ (n : Numbers). n.running) h.0
refused_running old new (IsReadOnly cause) h = ap (λ (n : Numbers). n.running) h.0

failed_idle : (s : Story) (puts : List (ℕ × List Change)) → is_story_idle (failed_puts s puts) ≡ is_story_idle s
failed_idle s [] = refl
failed_idle s (put ∷ puts) = failed_idle (put_at s put.0 put.1) puts

-- groups that are put leave the commit as it was
pub idle_after : (s t : Story) (puts : List (ℕ × List Change)) (old new : Option ℕ) → t ≡ failed_puts s puts → new ≡ old → (old ≡ None → is_story_idle s ≡ true) → new ≡ None → is_story_idle t ≡ true
idle_after s t puts old new e same idle none = ap is_story_idle e ∙ failed_idle s puts ∙ idle (sym same ∙ none)

pub failed_told : (tree : Tree) (s t : Story) (puts : List (ℕ × List Change)) → t ≡ failed_puts s puts → IsStory tree s → IsStory tree t
failed_told tree s t puts e is = let P : Story → Type 0 = λ z. IsStory tree z in subst P (sym e) (puts_failed tree s puts is)

-- what is put, counted or not, stands last in the journal
pub failed_leaves : (s t : Story) (puts : List (ℕ × List Change)) → t ≡ failed_puts s puts → (more : List (ℕ × List Change)) (tree : Tree) → Left (medium_of t) more tree → Left (medium_of s) (puts ++ more) tree
failed_leaves s t puts e more tree left = let P : Story → Type 0 = λ z. Left (medium_of z) more tree in puts_left s puts more tree (subst P e left)

pub done_leaves : (s t u : Story) (puts : List (ℕ × List Change)) → t ≡ failed_puts s puts → u ≡ with_all t → (more : List (ℕ × List Change)) (tree : Tree) → Left (medium_of u) more tree → Left (medium_of s) (puts ++ more) tree
done_leaves s t u puts e f more tree left = let P : Story → Type 0 = λ z. Left (medium_of z) more tree in puts_left s puts more tree (subst P e (subst P f left))

-- where a story that counts all is kept, it is whole
pub whole_all : (t u : Story) → u ≡ with_all t → HasAllGroups u
whole_all t u f = let P : Story → Type 0 = λ z. HasAllGroups z in subst P (sym f) refl

-- no commit runs before a put exactly where none runs after it
pub idle_done : (s t u : Story) (puts : List (ℕ × List Change)) (old new : Option ℕ) → t ≡ failed_puts s puts → u ≡ with_all t → new ≡ old → (old ≡ None → is_story_idle s ≡ true) → new ≡ None → is_story_idle u ≡ true
idle_done s t u puts old new e f same idle none = ap is_story_idle f ∙ idle_after s t puts old new e same idle none

-- a group that is put
pub group_told : (tree after : Tree) (s t u : Story) (group : List Change) → t ≡ failed_puts s ((base_head, group) ∷ []) → u ≡ with_all t → after ≡ apply tree group → IsStory tree s → HasAllGroups s → all_revive_none tree group ≡ true
    → IsStory after u
group_told tree after s t u group e f made is whole none =
    let P : Story → Type 0 = λ z. IsStory after z in
    let Q : Tree → Type 0 = λ z. IsStory z (with_all (put_at s base_head group)) in
    subst P (sym (f ∙ ap with_all e)) (subst Q (sym made) (put_done tree s base_head group is whole (omega arith) none))

page_done : (tree : Tree) (s : Story) (page : PageNode) → IsStory tree s → HasAllGroups s → all_revive_none tree (page_group page) ≡ true → IsStory (apply tree (page_group page)) (with_all (failed_puts s (page_puts page)))
page_done tree s page is whole none =
    let a : Change = SetInode page.ino page.inode in
    let b : Change = SetBlock page.ino page.block page.bytes in
    let parts = and_parts (revives_none tree a) (all_revive_none (applied tree a) (b ∷ [])) none in
    let first = put_done tree s base_head (a ∷ []) is whole (omega arith) (and_from (revives_none tree a) true parts.0 refl) in
    put_done (applied tree a) (with_all (put_at s base_head (a ∷ []))) data_head (b ∷ []) first refl (omega arith) parts.1

-- a page that is put
pub page_told : (tree after : Tree) (s t u : Story) (page : PageNode) → t ≡ failed_puts s (page_puts page) → u ≡ with_all t → after ≡ apply tree (page_group page) → IsStory tree s → HasAllGroups s
    → all_revive_none tree (page_group page) ≡ true → IsStory after u
page_told tree after s t u page e f made is whole none =
    let P : Story → Type 0 = λ z. IsStory after z in
    let Q : Tree → Type 0 = λ z. IsStory z (with_all (failed_puts s (page_puts page))) in
    subst P (sym (f ∙ ap with_all e)) (subst Q (sym made) (page_done tree s page is whole none))

-- an inode without a name that goes
pub drop_told : (tree after : Tree) (s : Story) (ino : ℕ) → after ≡ without_inode tree ino → IsStory tree s → is_nameless tree ino ≡ true → IsStory after s
drop_told tree after s ino made is gone = let P : Tree → Type 0 = λ z. IsStory z s in subst P (sym made) (drop_done tree s ino is gone)

-- a sync
pub sync_told : (tree : Tree) (s t : Story) → t ≡ synced_story s → IsStory tree s → HasAllGroups s → IsStory tree t
sync_told tree s t e is whole = let P : Story → Type 0 = λ z. IsStory tree z in subst P (sym e) (sync_done tree s is whole)

pub sync_kept : (s t : Story) → t ≡ synced_story s → HasAllGroups s → HasAllGroups t
sync_kept s t e whole = let P : Story → Type 0 = λ z. HasAllGroups z in subst P (sym e) (sync_whole s whole)

pub sync_heads : (s t : Story) → t ≡ synced_story s → AreSynced (medium_of t).heads
sync_heads s t e = let P : Story → Type 0 = λ z. AreSynced (medium_of z).heads in subst P (sym e) (sync_synced s.before s.since)

pub sync_leaves : (tree : Tree) (s t : Story) → t ≡ synced_story s → IsStory tree s → (more : List (ℕ × List Change)) (left : Tree) → Left (medium_of t) more left → Left (medium_of s) more left
sync_leaves tree s t e is more left would = let P : Story → Type 0 = λ z. Left (medium_of z) more left in sync_left tree s more left is (subst P e would)

-- a commit's start
pub begin_told : (tree : Tree) (s t : Story) → t ≡ begun s tree → IsStory tree s → HasAllGroups s → is_story_idle s ≡ true → IsStory tree t
begin_told tree s t e is whole idle = let P : Story → Type 0 = λ z. IsStory tree z in subst P (sym e) (begin_done tree s is whole idle)

pub begin_whole : (tree : Tree) (s t : Story) → t ≡ begun s tree → HasAllGroups t
begin_whole tree s t e = let P : Story → Type 0 = λ z. HasAllGroups z in subst P (sym e) refl

pub begin_heads : (tree : Tree) (s t : Story) → t ≡ begun s tree → AreSynced (medium_of t).heads
begin_heads tree s t e = let P : Story → Type 0 = λ z. AreSynced (medium_of z).heads in subst P (sym e) (begin_synced s.since)

pub begin_began : (tree : Tree) (s t : Story) → t ≡ begun s tree → IsBegun tree (medium_of t)
begin_began tree s t e = let P : Story → Type 0 = λ z. IsBegun tree (medium_of z) in subst P (sym e) (record { started = refl; begun = begin_counts s.since })

pub begin_leaves : (tree : Tree) (s t : Story) → t ≡ begun s tree → IsStory tree s → is_story_idle s ≡ true → (more : List (ℕ × List Change)) (left : Tree) → Left (medium_of t) more left → Left (medium_of s) more left
begin_leaves tree s t e is idle more left would = let P : Story → Type 0 = λ z. Left (medium_of z) more left in begin_left tree s more left is idle (subst P e would)

-- its end
pub end_told : (tree : Tree) (s t : Story) → t ≡ ended_story s → IsStory tree s → IsStory tree t
end_told tree s t e is = let P : Story → Type 0 = λ z. IsStory tree z in subst P (sym e) (end_done tree s is)

pub end_whole : (s t : Story) → t ≡ ended_story s → HasAllGroups s → HasAllGroups t
end_whole s t e whole = let P : Story → Type 0 = λ z. HasAllGroups z in subst P (sym e) whole

pub end_started : (s t : Story) → t ≡ ended_story s → (medium_of t).committed ≡ (medium_of s).started
end_started s t e = ap (λ (z : Story). z.committed) e

pub end_heads : (tree : Tree) (s t : Story) → t ≡ ended_story s → IsStory tree s → map (λ (head : Head). head.groups) (medium_of t).heads ≡ later_groups (medium_of s).heads (medium_of s).begun
end_heads tree s t e is =
    let P : Story → Type 0 = λ z. map (λ (head : Head). head.groups) (medium_of z).heads ≡ later_groups (medium_of s).heads (medium_of s).begun in
    let parted = is.parted in
    subst P (sym e) (ap (λ (heads : List Head). map (λ (head : Head). head.groups) heads) (none_joined s.since is.three) ∙ end_groups s.before s.since parted.long)

pub end_leaves : (tree : Tree) (s t : Story) → t ≡ ended_story s → IsStory tree s → (more : List (ℕ × List Change)) (left : Tree) → Left (medium_of t) more left → Left (medium_of s) more left
end_leaves tree s t e is more left would = let P : Story → Type 0 = λ z. Left (medium_of z) more left in end_left tree s more left is (subst P e would)
