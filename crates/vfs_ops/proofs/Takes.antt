-- What a backing is asked to take for an operation on names.
use Rattle.std.proofs.Common.{◌≡◌, ℕ, ◌+◌, ◌*◌, ◌⊎◌, inl, inr, true, false, List, [], ◌∷◌, length, Ok, refl, sym, ap, subst, ◌∙◌, arith, Bool}
use Rattle.std.specs.Prelude.{◌==◌}
use Rattle.std.proofs.lemmas.Bool.Decides.{nat_tests}
use Rattle.std.specs.List.{list_all}
use Rattle.std.specs.Map.{lookup}
use Rattle.std.specs.BTreeMap.{is_at}
use Rattle.std.specs.Option.{option_map_or}
use Rattle.std.specs.Ordering.{nat_cmp}
use Rattle.fs_model.specs.declared.inode.Kind.TheVariants.{File}
use Rattle.fs_model.specs.Change.{apply}
use Rattle.fs_model.specs.Proper.{IsProper, same_kind}
use Rattle.fs_model.specs.declared.change.Change.{Change}
use Rattle.fs_model.specs.declared.op.Op.{Op}
use Rattle.fs_model.specs.declared.op.Op.TheVariants.{Truncate}
use Rattle.fs_model.specs.declared.refusal.Refusal.{Refusal}
use Rattle.fs_model.specs.declared.reply.Reply.{Reply}
use Rattle.fs_model.specs.declared.space.Class.{Class}
use Rattle.fs_model.specs.declared.space.Grant.{Grant}
use Rattle.fs_model.specs.declared.space.Need.{Need}
use Rattle.fs_model.specs.Backing.{BackingState, Outlook, FitsGroup, Goes}
use Rattle.fs_model.specs.Files.{Tree, Files, Inodes, Handles}
use Rattle.fs_model.specs.Need.{group_need, need_of}
use Rattle.fs_model.specs.Operation.{plan_of, group_of, outcome_of}
use Rattle.fs_model.specs.Outcome.{Outcome, done_by, files_in, group_in}
use Rattle.fs_laws.specs.Sound.{IsSound, LeavesSound, Pays}
use Rattle.buffered_files.specs.declared.kept.Kept.{Kept}
use Rattle.buffered_files.specs.Alike.{IsAlike}
use Rattle.buffered_files.specs.Calls.{IsWithoutRoom}
use Rattle.buffered_files.specs.CallLaws.{Goes-then, Goes-within}
use Rattle.buffered_files.specs.Present.{present}
use Rattle.vfs_plans.specs.Answers.{Looks, IsFault, IsRefused}
use Rattle.vfs_plans.specs.Operations.{is_truncate}
use Rattle.vfs_ops.specs.Operations.{is_of_names, class_of}
use Rattle.vfs_ops.specs.Steps.{IsLast}
use Rattle.fs_model.specs.declared.refusal.Refusal.TheVariants.{Enospc}
use Rattle.vfs_ops.proofs.Groups.{outcome_is, need_is}
use Rattle.vfs_ops.proofs.States.{room_later}

pub not_truncate : (op : Op) → is_of_names op ≡ true → is_truncate op ≡ false
not_truncate (Truncate slot size) is = absurd cc
not_truncate op is = refl

-- the group of a plan
pub group_is : (files : Files) (caller now : ℕ) (op : Op) (reply : Reply) (group : List Change) → plan_of files caller now op ≡ Ok (reply, group) → group_of files caller now op ≡ group
group_is files caller now op reply group found = ap group_in found

-- an empty group leaves the files
pub none_done : (files : Files) (caller now : ℕ) (op : Op) (reply : Reply) (group : List Change) → is_of_names op ≡ true → plan_of files caller now op ≡ Ok (reply, group) → (length group == 0) ≡ true → outcome_of files caller now op ≡ Ok (reply, files)
none_done files caller now op reply [] is found none = outcome_is files caller now op is ∙ ap (λ plan. done_by files plan) found
none_done files caller now op reply (change ∷ group) is found none =
    let zero_long : length (change ∷ group) ≡ 0 = grind (arith, nat_tests) in
    absurd (omega (arith, zero_long))

-- files under the same tree are alike
pub alike_on : (t tree : Tree) (kept : Kept) → t ≡ tree → IsAlike (present tree kept) (present t kept)
alike_on t tree kept same = subst (λ s. IsAlike (present s kept) (present t kept)) same (record { inodes = refl; blocks = refl; entries = refl; highest = refl; handles = refl; sizes = λ ino inode found plain. refl })

-- what was reckoned is what the operation asks for
pub need_whole : (t tree : Tree) (kept : Kept) (caller now : ℕ) (op : Op) (group : List Change) (class : Class) (need : Need) → is_of_names op ≡ true → t ≡ tree → group_of (present tree kept) caller now op ≡ group → class ≡ class_of op
    → need ≡ group_need (present t kept).tree group class → need ≡ need_of (present tree kept) caller now op
need_whole t tree kept caller now op group class need is same made asks whole =
    let files = present tree kept in
    let one : need ≡ group_need files.tree group class = subst (λ s. need ≡ group_need (present s kept).tree group class) same whole in
    let two : need ≡ group_need files.tree (group_of files caller now op) class = subst (λ g. need ≡ group_need files.tree g class) (sym made) one in
    let three : need ≡ group_need files.tree (group_of files caller now op) (class_of op) = subst (λ k. need ≡ group_need files.tree (group_of files caller now op) k) asks two in
    three ∙ need_is files caller now op is

-- it pays
pub pays_whole : (need whole : Need) → need ≡ whole → Pays (record { bytes = need.bytes; nodes = need.nodes }) whole
pays_whole need whole same = subst (λ w. Pays (record { bytes = need.bytes; nodes = need.nodes }) w) same (record { bytes = omega arith; nodes = omega arith })

-- a group fits the same tree still
pub fits_on : (t tree : Tree) (kept : Kept) (grant : Grant) (made group : List Change) → t ≡ tree → made ≡ group → FitsGroup (present tree kept).tree grant made → FitsGroup (present t kept).tree grant group
fits_on t tree kept grant made group same is fits = subst (λ s. FitsGroup (present s kept).tree grant group) (sym same) (subst (λ g. FitsGroup (present tree kept).tree grant g) is fits)

-- want of room, told from before the looks
pub refused_whole : {x y : Outlook} {a b : BackingState} → Looks x y a b → (c : BackingState) (kept : Kept) (need whole : Need) (r : Refusal) (outcome : Outcome) → need ≡ whole → IsLast outcome r → IsWithoutRoom b c kept need r → IsRefused a c outcome r ⊎ (IsWithoutRoom a c kept whole r × IsLast outcome r)
refused_whole {x} {y} {a} {b} looks c kept need whole r outcome same last room = inr (subst (λ n. IsWithoutRoom a c kept n r) same (room_later looks c kept need r room), last)

-- nothing else refuses where the plain operation is done
pub last_done : (plain : Outcome) (done : Reply × Files) (r : Refusal) → plain ≡ Ok done → IsLast plain r
last_done plain done (Enospc space) e = (done, e)
last_done plain done r e = tt

-- a look puts no node
pub goes_looked : {x y : Outlook} {a b : BackingState} → Looks x y a b → (n : ℕ) → Goes n a b
goes_looked {x} {y} {a} {b} looks n = Goes-within 0 n a b (omega arith) looks.goes

-- a group that is put after looks
pub goes_whole : {x y : Outlook} {a b : BackingState} → Looks x y a b → (c : BackingState) (dirty : ℕ) (made group : List Change) → made ≡ group → Goes (2 * dirty + length group) b c → Goes (2 * dirty + length made) a c
goes_whole {x} {y} {a} {b} looks c dirty made group is goes =
    let same : length made ≡ length group = ap length is in
    Goes-within (0 + (2 * dirty + length group)) (2 * dirty + length made) a c (omega (arith, same)) (Goes-then 0 (2 * dirty + length group) a b c looks.goes goes)

-- files under the same tree are sound still
pub sound_on : (t tree : Tree) (kept : Kept) → t ≡ tree → IsSound (present tree kept) → IsSound (present t kept)
sound_on t tree kept same sound = subst (λ s. IsSound (present s kept)) (sym same) sound

-- and so are files that are alike
pub alike_sound : (a b : Files) → IsAlike a b → IsProper b.tree → IsSound a → IsSound b
alike_sound a b alike proper sound = record {
  proper = proper;
  handles = subst (λ inodes. kinds inodes b.handles ≡ true) alike.inodes (subst (λ handles. kinds a.tree.inodes handles ≡ true) alike.handles sound.handles);
}
  where
    kinds : Inodes → Handles → Bool
    kinds inodes handles = list_all (λ handle. option_map_or (λ inode. same_kind inode.kind File) (lookup (is_at (nat_cmp handle.1)) inodes) false) handles

-- what callers see once the group of a plan was put is sound
pub sound_done : (t tree : Tree) (kept : Kept) (caller now : ℕ) (op : Op) (reply : Reply) (group : List Change) (b : Files) → is_of_names op ≡ true → t ≡ tree → plan_of (present tree kept) caller now op ≡ Ok (reply, group)
    → LeavesSound (present tree kept) (files_in (present tree kept) (outcome_of (present tree kept) caller now op)) → IsAlike (record (present t kept) { tree = apply (present t kept).tree group }) b → IsProper b.tree → IsSound b
sound_done t tree kept caller now op reply group b is same found leaves alike proper =
    let files : Files = present tree kept in
    let after : Files = record files { tree = apply files.tree group } in
    let out : outcome_of files caller now op ≡ Ok (reply, after) = outcome_is files caller now op is ∙ ap (λ plan. done_by files plan) found in
    let sound : IsSound after = subst (λ (o : Outcome). IsSound (files_in files o)) out leaves.sound in
    let seen : IsAlike after b = subst (λ s. IsAlike (record (present s kept) { tree = apply (present s kept).tree group }) b) same alike in
    alike_sound after b seen proper sound

-- refused for a fault, or at last for want of room
pub refused_last : (a c : BackingState) (kept : Kept) (need : Need) (plain : Outcome) (r : Refusal) → IsLast plain r → IsFault a c r ⊎ IsWithoutRoom a c kept need r → IsRefused a c plain r ⊎ (IsWithoutRoom a c kept need r × IsLast plain r)
refused_last a c kept need plain r last (inl fault) = inl (inr fault)
refused_last a c kept need plain r last (inr room) = inr (room, last)
