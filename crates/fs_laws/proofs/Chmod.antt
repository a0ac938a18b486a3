-- A new mode.
use Rattle.std.proofs.Common.{ℕ, ◌<◌, ◌^◌, List, [], ◌∷◌, Ok, Err, refl, arith}
use Rattle.std.proofs.lemmas.Bool.{ltb-false}
use Rattle.fs_model.specs.declared.change.Change.TheVariants.{SetInode}
use Rattle.fs_model.specs.declared.inode.Inode.{Inode}
use Rattle.fs_model.specs.declared.inode.Entry.{Entry}
use Rattle.fs_model.specs.declared.refusal.Refusal.{Refusal}
use Rattle.fs_model.specs.declared.refusal.Refusal.TheVariants.{Einval, Enoent}
use Rattle.fs_model.specs.declared.reply.Reply.TheVariants.{Done}
use Rattle.fs_model.specs.Attributes.{found, mode_set}
use Rattle.fs_model.specs.Files.{Files, inode_at}
use Rattle.fs_model.specs.Making.{is_bad_mode, touched}
use Rattle.fs_model.specs.Outcome.{Plan, with_found, with_some, group_in}
use Rattle.fs_laws.specs.Sound.{IsSound, KeepsSound}
use Rattle.fs_laws.proofs.Groups.{keeps_nothing, node_at, set_keeps}
use Rattle.fs_laws.proofs.Nodes.{node_moded, node_touched}
use Rattle.fs_laws.proofs.Plans.{refuse_to, found_to, some_to}
use Rattle.fs_laws.proofs.Sizes.{cap_most}

pub mode_keeps : (files : Files) (now : ℕ) (path : List ℕ) (mode : ℕ) → IsSound files → now < 2 ^ 64 → KeepsSound files (group_in (mode_set files now path mode))
mode_keeps files now path mode sound moment =
    let P : Plan → Type 0 = λ plan. KeepsSound files (group_in plan) in
    let none : (e : Refusal) → P (Err e) = λ e. keeps_nothing files sound in
    let last : Entry → Inode → Plan = λ at inode. Ok (Done, SetInode at.ino (touched now (record inode { mode = mode })) ∷ []) in
    let named : Entry → Plan = λ at. with_some (inode_at files.tree at.ino) Enoent (last at) in
    refuse_to P (is_bad_mode mode) Einval (with_found (found files path) named) none (λ good.
    found_to P (found files path) named none (λ at f.
    some_to P (inode_at files.tree at.ino) Enoent (last at) none (λ inode g.
    let small = ltb-false 4095 mode good in
    let node = node_touched at.ino (record inode { mode = mode }) now moment (node_moded at.ino inode mode small (node_at files.tree sound.proper at.ino inode g)) in
    let most = cap_most (SetInode at.ino (touched now (record inode { mode = mode }))) in
    set_keeps files at.ino inode (touched now (record inode { mode = mode })) [] sound g refl refl node refl refl refl (omega (arith, most)) refl refl)))
