-- What goes with a group.
use Rattle.std.proofs.Common.{◌≡◌, ℕ, ◌+◌, Bool, true, false, cond, List, [], ◌∷◌, ◌++◌, ◌&&◌, not, Option, Some, None, refl, ap}
use Rattle.std.specs.Prelude.{◌==◌}
use Rattle.std.specs.Option.{option_map_or}
use Rattle.fs_model.specs.declared.change.Change.{Change}
use Rattle.fs_model.specs.declared.change.Change.TheVariants.{SetInode, DropInode}
use Rattle.fs_model.specs.declared.inode.Entry.{Entry}
use Rattle.fs_model.specs.declared.inode.Inode.{Inode}
use Rattle.fs_model.specs.declared.share.Share.{Share}
use Rattle.fs_model.specs.Cover.{inode_bytes}
use Rattle.fs_model.specs.Directory.{counted, no_share, share_of}
use Rattle.fs_model.specs.Files.{Tree, Files, inode_at}
use Rattle.fs_model.specs.Links.{less_linked, linking, losing, removing}
use Rattle.fs_model.specs.Making.{making, touched, touching}
use Rattle.fs_model.specs.Orphan.{is_open}
use Rattle.fs_model.specs.Need.{change_bytes}
use Rattle.fs_model.specs.Rename.{coming, moving}
use Rattle.op_groups.specs.Facts.{IsGone, bytes_asked}

gone-append : (tree : Tree) (gone : ℕ) (front back : List Change) → IsGone tree gone front → IsGone tree gone back → IsGone tree gone (front ++ back)
gone-append tree gone [] back f b = b
gone-append tree gone (change ∷ front) back f b = (f.0, gone-append tree gone front back f.1 b)

-- no inode goes where one is touched
gone_touching : (tree : Tree) (ino now gone : ℕ) (came went : Share) → IsGone tree gone (touching tree ino now came went)
gone_touching tree ino now gone came went = by (inode_at tree ino)
  where
    by : (at : Option Inode) → IsGone tree gone (option_map_or (λ inode. SetInode ino (touched now (counted came went inode)) ∷ []) at [])
    by None = tt
    by (Some inode) = (refl, tt)

-- what is lost is the inode that is there
gone_losing : (files : Files) (ino now : ℕ) (inode : Inode) → inode_at files.tree ino ≡ Some inode → change_bytes files.tree (losing files ino now inode) ≡ bytes_asked (inode_bytes inode) (losing files ino now inode)
gone_losing files ino now inode h = by (((less_linked now inode).nlink == 0) && not (is_open files ino))
  where
    by : (b : Bool) → change_bytes files.tree (cond b (DropInode ino) (SetInode ino (less_linked now inode))) ≡ bytes_asked (inode_bytes inode) (cond b (DropInode ino) (SetInode ino (less_linked now inode)))
    by true = ap (λ at. option_map_or inode_bytes at 160) h
    by false = refl

pub gone_making : (tree : Tree) (dir : ℕ) (name : List ℕ) (inode : Inode) (now gone : ℕ) → IsGone tree gone (making tree dir name inode now)
gone_making tree dir name inode now gone = (refl, (refl, gone_touching tree dir now gone (share_of (record { dir = dir; name = name; ino = tree.highest + 1; kind = inode.kind })) no_share))

pub gone_linking : (tree : Tree) (entry : Entry) (inode : Inode) (dir : ℕ) (name : List ℕ) (now gone : ℕ) → IsGone tree gone (linking tree entry inode dir name now)
gone_linking tree entry inode dir name now gone = (refl, (refl, gone_touching tree dir now gone (share_of (record entry { dir = dir; name = name })) no_share))

pub gone_removing : (files : Files) (entry : Entry) (inode : Inode) (now : ℕ) → inode_at files.tree entry.ino ≡ Some inode → IsGone files.tree (inode_bytes inode) (removing files entry inode now)
gone_removing files entry inode now h = (refl, (gone_losing files entry.ino now inode h, gone_touching files.tree entry.dir now (inode_bytes inode) no_share (share_of entry)))

gone_moving_lost : (files : Files) (from : Entry) (dir : ℕ) (name : List ℕ) (lost : List Change) (now gone : ℕ) → IsGone files.tree gone lost → IsGone files.tree gone (moving files from dir name lost now)
gone_moving_lost files from dir name lost now gone h = (
  refl,
  (
    refl,
    gone-append files.tree gone (lost ++ left) (cond (from.dir == dir) [] come) (gone-append files.tree gone lost left h (gone_touching files.tree from.dir now gone first (share_of from))) (by (from.dir == dir)),
  ),
)
  where
    came : Share
    came = coming (record from { dir = dir; name = name }) lost

    first : Share
    first = cond (from.dir == dir) came no_share

    left : List Change
    left = touching files.tree from.dir now first (share_of from)

    come : List Change
    come = touching files.tree dir now came no_share

    by : (b : Bool) → IsGone files.tree gone (cond b [] come)
    by true = tt
    by false = gone_touching files.tree dir now gone came no_share

pub gone_moving : (files : Files) (from : Entry) (dir : ℕ) (name : List ℕ) (now gone : ℕ) → IsGone files.tree gone (moving files from dir name [] now)
gone_moving files from dir name now gone = gone_moving_lost files from dir name [] now gone tt

pub gone_moving_over : (files : Files) (from over : Entry) (inode : Inode) (dir : ℕ) (name : List ℕ) (now : ℕ) → inode_at files.tree over.ino ≡ Some inode → IsGone files.tree (inode_bytes inode) (moving files from dir name (losing files over.ino now inode ∷ []) now)
gone_moving_over files from over inode dir name now h =
    gone_moving_lost files from dir name (losing files over.ino now inode ∷ []) now (inode_bytes inode) (gone_losing files over.ino now inode h, tt)
