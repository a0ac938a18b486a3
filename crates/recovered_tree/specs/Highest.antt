-- The highest inode number that is read of an image.
use Rattle.std.specs.Prelude.{ℕ, fold, max}
use Rattle.ubifs_base.specs.Key.{key_words}
use Rattle.sound_check.specs.declared.image_read.ImageRead.{ImageRead}

-- of the master, of the keys of the committed leaves, and of those of the journal's nodes
abbrev pub highest_image_read : ImageRead → ℕ
highest_image_read read = max (fold (λ n leaf. max n (key_words leaf.key).0) read.latest.master.highest_inum read.index.leaves.items) read.buds.read.highest
