-- Kinds of inodes.
use Rattle.std.proofs.Common.{◌≡◌, true, refl, ap}
use Rattle.std.proofs.lemmas.Bool.{false≢true}
use Rattle.fs_model.specs.declared.inode.Kind.{Kind}
use Rattle.fs_model.specs.declared.inode.Kind.TheVariants.{File, Dir, Symlink, Block, Char, Fifo, Socket}
use Rattle.fs_model.specs.Path.{is_dir}
use Rattle.fs_model.specs.Proper.{same_kind}

pub same_is : (a b : Kind) → same_kind a b ≡ true → a ≡ b
same_is File File h = refl
same_is Dir Dir h = refl
same_is Symlink Symlink h = refl
same_is Block Block h = refl
same_is Char Char h = refl
same_is Fifo Fifo h = refl
same_is Socket Socket h = refl
same_is a b h = absurd (false≢true h)

pub same_self : (a : Kind) → same_kind a a ≡ true
same_self File = refl
same_self Dir = refl
same_self Symlink = refl
same_self Block = refl
same_self Char = refl
same_self Fifo = refl
same_self Socket = refl

pub dir_is : (kind : Kind) → same_kind kind Dir ≡ true → is_dir kind ≡ true
dir_is kind h = ap is_dir (same_is kind Dir h)

pub is_dir_same : (a b : Kind) → same_kind a b ≡ true → is_dir a ≡ is_dir b
is_dir_same a b h = ap is_dir (same_is a b h)

pub dir_same : (kind : Kind) → is_dir kind ≡ true → same_kind kind Dir ≡ true
dir_same Dir h = refl
dir_same kind h = absurd (false≢true h)
