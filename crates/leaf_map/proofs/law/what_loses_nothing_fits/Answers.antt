use Rattle.fs_model.specs.Recovery.{taken}
use Rattle.leaf_map.specs.Recovered.{committed_highest}
use Rattle.leaf_map.specs.Shown.{tree_of}
use Rattle.leaf_map.proofs.FoundTrees.{fits_tree}
use Rattle.leaf_map.proofs.Recovers.{found_allowed}
use Rattle.leaf_map.proofs.law.what_loses_nothing_fits.Goals as goal

pub returns : goal.returns
returns c = record {
  fits = fits_tree;
  allowed = λ parts kept heads counts keeps fits. found_allowed parts (tree_of kept (committed_highest parts)) heads counts keeps (fits_tree parts kept (taken heads counts) fits);
}
