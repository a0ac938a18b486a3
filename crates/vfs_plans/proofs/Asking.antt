-- Chains of refusals before an inode is told or its mode is set, walked to their ends.
use Rattle.std.proofs.Common.{◌≡◌, ℕ, false, List, [], ◌∷◌, Some, refl, sym, subst}
use Rattle.std.specs.Prelude.{Ok}
use Rattle.fs_model.specs.declared.change.Change.{Change}
use Rattle.fs_model.specs.declared.change.Change.TheVariants.{SetInode}
use Rattle.fs_model.specs.declared.inode.Inode.{Inode}
use Rattle.fs_model.specs.declared.inode.Entry.{Entry}
use Rattle.fs_model.specs.declared.reply.Reply.{Reply}
use Rattle.fs_model.specs.declared.reply.Reply.TheVariants.{Done}
use Rattle.fs_model.specs.Attributes.{found, mode_set, stat_of, told}
use Rattle.fs_model.specs.Files.{Files, inode_at}
use Rattle.fs_model.specs.Making.{is_bad_mode, touched}

-- which mode is set where nothing refuses it
pub mode_is : (files : Files) (now : ℕ) (path : List ℕ) (mode : ℕ) (at : Entry) (inode : Inode) (group : List Change) → is_bad_mode mode ≡ false → found files path ≡ Ok at
    → inode_at files.tree at.ino ≡ Some inode → group ≡ SetInode at.ino (touched now (record inode { mode = mode })) ∷ [] → mode_set files now path mode ≡ Ok (Done, group)
mode_is files now path mode at inode group good there here is = subst (λ g. mode_set files now path mode ≡ Ok (Done, g)) (sym is) (rw (good, there, here) refl)

-- what is told where nothing refuses it
pub told_is : (files : Files) (path : List ℕ) (at : Entry) (inode : Inode) (reply : Reply) → found files path ≡ Ok at → inode_at files.tree at.ino ≡ Some inode → reply ≡ stat_of files.tree at.ino inode → told files path ≡ Ok (reply, files)
told_is files path at inode reply there here is = subst (λ r. told files path ≡ Ok (r, files)) (sym is) (rw (there, here) refl)
