-- A mount reads the stored tree as it is.
use Rattle.std.proofs.Common.{◌≡◌, ℕ, ◌≤◌, Bool, true, false, [], ◌∷◌, refl, ap, ◌∙◌, arith}
use Rattle.std.specs.Prelude.{cond, map, max}
use Rattle.fs_model.specs.Directory.{dir_links}
use Rattle.fs_model.specs.Files.{Inodes, Tree}
use Rattle.fs_model.specs.Path.{is_dir}
use Rattle.fs_model.specs.declared.inode.Inode.{Inode}
use Rattle.sound_image.specs.Summary.{with_a_link}
use Rattle.tree_nodes.specs.Stored.{as_stored, stored_tree}
use Rattle.image_maker.specs.Leaves.{stored_size}

-- a tree where each directory has a link, as a mount reads it
abbrev pub mounted : Tree → Tree
mounted found = record found { inodes = map (λ e. (e.0, with_a_link e.1)) found.inodes }

most_links : (n : ℕ) → 1 ≤ n → max 1 n ≡ n
most_links n some = omega (arith, some)

linked : (dir : Bool) (links other size : ℕ) (i : Inode) → 1 ≤ links
    → cond dir (record i { size = size; nlink = max 1 (cond dir links other) }) (record i { size = size; nlink = cond dir links other }) ≡ record i { size = size; nlink = cond dir links other }
linked true links other size i some = ap (λ (n : ℕ). record i { size = size; nlink = n }) (most_links links some)
linked false links other size i some = refl

one_read : (tree : Tree) (e : ℕ × Inode) → ((as_stored tree e).0, with_a_link (as_stored tree e).1) ≡ as_stored tree e
one_read tree e = ap (λ (i : Inode). (e.0, i)) (linked (is_dir e.1.kind) (dir_links tree e.0) e.1.nlink (stored_size tree e.0 e.1) e.1 (omega arith))

all_read : (tree : Tree) (inodes : Inodes) → map (λ (e : ℕ × Inode). (e.0, with_a_link e.1)) (map (as_stored tree) inodes) ≡ map (as_stored tree) inodes
all_read tree [] = refl
all_read tree (e ∷ inodes) =
    ap (λ (rest : Inodes). ((as_stored tree e).0, with_a_link (as_stored tree e).1) ∷ rest) (all_read tree inodes) ∙ ap (λ (x : ℕ × Inode). x ∷ map (as_stored tree) inodes) (one_read tree e)

pub stored_is_read : (tree : Tree) → mounted (stored_tree tree) ≡ stored_tree tree
stored_is_read tree = ap (λ (inodes : Inodes). record (stored_tree tree) { inodes = inodes }) (all_read tree tree.inodes)
