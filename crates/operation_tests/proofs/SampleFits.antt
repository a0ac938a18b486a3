-- The sample's group and page are such as a fresh volume takes.
use Rattle.std.proofs.Common.{◌≡◌, ℕ, ◌≤◌, inl, refl, arith, subst, sym, List}
use Rattle.fs_model.specs.declared.change.Change.{Change}
use Rattle.fs_model.specs.declared.page_node.PageNode.{PageNode}
use Rattle.fs_model.specs.Backing.{FitsGroup, FitsOrphans, FitsPage}
use Rattle.fs_model.specs.Change.{apply}
use Rattle.fs_model.specs.Files.{Tree}
use Rattle.fs_model.specs.Proper.{IsProper}
use Rattle.fs_model.specs.Worked.{fresh}
use Rattle.operation_tests.specs.Sample.{sample_group, sample_page}

fresh_proper : IsProper fresh.tree
fresh_proper = record { inodes_ascend = refl; blocks_ascend = refl; entries_ascend = refl; inode_nodes = refl; block_nodes = refl; entry_nodes = refl; root = refl; entries = refl; inodes = refl; linked = refl; numbers = refl }

sample_fits : (bytes : ℕ) → 384 ≤ bytes → FitsGroup fresh.tree (record { bytes = bytes; nodes = 3 }) sample_group
sample_fits bytes enough = record {
  are_nodes = refl;
  nodes = omega arith;
  bytes = omega (arith, enough);
  limit = omega arith;
  revives_none = refl;
  drops = refl;
  proper = record { inodes_ascend = refl; blocks_ascend = refl; entries_ascend = refl; inode_nodes = refl; block_nodes = refl; entry_nodes = refl; root = refl; entries = refl; inodes = refl; linked = refl; numbers = refl };
}

sample_page_fits : FitsPage (apply fresh.tree sample_group) sample_page
sample_page_fits = record {
  block = refl;
  inode = refl;
  file = refl;
  no_data = refl;
  revives_none = refl;
  proper = record { inodes_ascend = refl; blocks_ascend = refl; entries_ascend = refl; inode_nodes = refl; block_nodes = refl; entry_nodes = refl; root = refl; entries = refl; inodes = refl; linked = refl; numbers = refl };
}

-- on a tree that is a fresh volume's
pub proper_on : (tree : Tree) → tree ≡ fresh.tree → IsProper tree
proper_on tree e = subst (λ t. IsProper t) (sym e) fresh_proper

pub fits_on_fresh : (tree : Tree) (group : List Change) (bytes : ℕ) → 384 ≤ bytes → tree ≡ fresh.tree → group ≡ sample_group → FitsGroup tree (record { bytes = bytes; nodes = 3 }) group
fits_on_fresh tree group bytes enough e f = subst (λ t. FitsGroup t (record { bytes = bytes; nodes = 3 }) group) (sym e) (subst (λ g. FitsGroup fresh.tree (record { bytes = bytes; nodes = 3 }) g) (sym f) (sample_fits bytes enough))

pub page_on_fresh : (tree : Tree) (group : List Change) (page : PageNode) → tree ≡ fresh.tree → group ≡ sample_group → page ≡ sample_page → FitsPage (apply tree group) page
page_on_fresh tree group page e f h =
    subst (λ p. FitsPage (apply tree group) p) (sym h) (subst (λ t. FitsPage (apply t group) sample_page) (sym e) (subst (λ g. FitsPage (apply fresh.tree g) sample_page) (sym f) sample_page_fits))

pub orphans_on_fresh : (tree : Tree) (group : List Change) (closed limit : ℕ) → tree ≡ fresh.tree → group ≡ sample_group → FitsOrphans tree closed limit group
orphans_on_fresh tree group closed limit e f = subst (λ t. FitsOrphans t closed limit group) (sym e) (subst (λ g. FitsOrphans fresh.tree closed limit g) (sym f) (inl (omega arith)))
