-- Chains of refusals before a name is taken away, walked to their ends.
use Rattle.std.proofs.Common.{◌≡◌, ℕ, true, false, List, Some, refl, sym, subst}
use Rattle.std.specs.Prelude.{Ok}
use Rattle.fs_model.specs.declared.change.Change.{Change}
use Rattle.fs_model.specs.declared.inode.Inode.{Inode}
use Rattle.fs_model.specs.declared.inode.Entry.{Entry}
use Rattle.fs_model.specs.declared.reply.Reply.TheVariants.{Done}
use Rattle.fs_model.specs.Directory.{has_no_entry}
use Rattle.fs_model.specs.Files.{Files, inode_at}
use Rattle.fs_model.specs.Links.{dir_removed, removing, unlinked}
use Rattle.fs_model.specs.Making.{is_name_path}
use Rattle.fs_model.specs.Path.{has_long_name, walked, is_dir}

-- what is unlinked where nothing refuses it
pub unlinked_is : (files : Files) (now : ℕ) (path : List ℕ) (at : Entry) (inode : Inode) (group : List Change) → is_name_path path ≡ true → has_long_name path ≡ false → walked files.tree path ≡ Ok at
    → is_dir at.kind ≡ false → inode_at files.tree at.ino ≡ Some inode → group ≡ removing files at inode now → unlinked files now path ≡ Ok (Done, group)
unlinked_is files now path at inode group name short there plain found is = subst (λ g. unlinked files now path ≡ Ok (Done, g)) (sym is) (rw (name, short, there, plain, found) refl)

-- which directory is removed where nothing refuses it
pub dir_removed_is : (files : Files) (now : ℕ) (path : List ℕ) (at : Entry) (inode : Inode) (group : List Change) → is_name_path path ≡ true → has_long_name path ≡ false → walked files.tree path ≡ Ok at
    → is_dir at.kind ≡ true → has_no_entry files.tree at.ino ≡ true → inode_at files.tree at.ino ≡ Some inode → group ≡ removing files at inode now → dir_removed files now path ≡ Ok (Done, group)
dir_removed_is files now path at inode group name short there dir empty found is = subst (λ g. dir_removed files now path ≡ Ok (Done, g)) (sym is) (rw (name, short, there, dir, empty, found) refl)
