-- Sorted trees in which the same is found are one.
use Rattle.std.proofs.Common.{◌≡◌, ℕ, List, ap, ◌∙◌}
use Rattle.std.specs.BTreeMap.{is_at}
use Rattle.std.specs.Map.{lookup}
use Rattle.std.specs.Ordering.{nat_cmp}
use Rattle.fs_model.specs.Files.{Tree, inode_at, name_cmp, pair_cmp}
use Rattle.fs_model.specs.Proper.{IsInOrder}
use Rattle.fs_laws.specs.Orders.{named, numbers, pairs}
use Rattle.fs_laws.specs.SameMaps.{same_maps}

-- trees in which the same is found
pub record FindsSame (a b : Tree) : Type 0 where
  pub inodes : (q : ℕ) → inode_at a q ≡ inode_at b q
  pub blocks : (q : ℕ × ℕ) → lookup (is_at (pair_cmp q)) a.blocks ≡ lookup (is_at (pair_cmp q)) b.blocks
  pub entries : (q : ℕ × List ℕ) → lookup (is_at (name_cmp q)) a.entries ≡ lookup (is_at (name_cmp q)) b.entries
  pub highest : a.highest ≡ b.highest

pub same_trees : (a b : Tree) → IsInOrder a → IsInOrder b → FindsSame a b → a ≡ b
same_trees a b s t same =
    ap (λ es. record a { inodes = es }) (same_maps nat_cmp numbers a.inodes b.inodes s.inodes t.inodes same.inodes)
    ∙ ap (λ bs. record a { inodes = b.inodes; blocks = bs }) (same_maps pair_cmp pairs a.blocks b.blocks s.blocks t.blocks same.blocks)
    ∙ ap (λ es. record a { inodes = b.inodes; blocks = b.blocks; entries = es }) (same_maps name_cmp named a.entries b.entries s.entries t.entries same.entries)
    ∙ ap (λ (n : ℕ). record b { highest = n }) same.highest
