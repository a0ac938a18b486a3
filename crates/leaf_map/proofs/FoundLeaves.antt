-- The leaves that are found are those of an index.
use Rattle.std.proofs.Common.{not, List, [], ◌∷◌}
use Rattle.std.specs.List.{AllByRecursion, list_any}
use Rattle.media_leaf.specs.LeafNode.{IsLeaf}
use Rattle.leaf_map.specs.Allowed.{AreReadLeaves, FitsLeaves, IsNodeOfLeaves, IsReadLeaf}
use Rattle.leaf_map.specs.Kept.{Kept, Placed}
use Rattle.leaf_map.specs.LeafMap.{IsKeyed, IsLeafMap}
use Rattle.leaf_map.specs.Parts.{Committed, Parts}
use Rattle.leaf_map.specs.Recovered.{is_original, leaves_found, spare_copies}
use Rattle.leaf_map.proofs.FoundApart.{apart_walk, filter_test}
use Rattle.leaf_map.proofs.FoundKeys.{IsGood, filter_all, keyed_walk, ordered_walk}
use Rattle.leaf_map.proofs.Things.{node_shown}
use Rattle.leaf_map.proofs.Walk.{Pairs, walk}

pub pairs_of : (parts : Parts) (ks : List Kept) (cs : List Committed) → AreReadLeaves parts ks cs → Pairs (IsReadLeaf parts) ks cs
pairs_of parts [] [] h = tt
pairs_of parts [] (c ∷ cs) h = absurd h
pairs_of parts (x ∷ ks) [] h = absurd h
pairs_of parts (x ∷ ks) (c ∷ cs) (pair, more) = (pair, pairs_of parts ks cs more)

pub goods : (kept : List Kept) (copies : List Placed) → AllByRecursion IsKeyed kept → AllByRecursion (λ d. IsLeaf d.node × IsNodeOfLeaves kept d.node) copies → AllByRecursion IsGood copies
goods kept [] k h = tt
goods kept (d ∷ copies) k (one, more) = ((one.0, node_shown kept d.node k one.1), goods kept copies k more)

pub found_map : (parts : Parts) (kept : List Kept) → FitsLeaves parts kept → IsLeafMap (leaves_found parts)
found_map parts kept fits =
    let pairs = pairs_of parts kept parts.committed fits.read in
    let good = filter_all IsGood (λ c. not (list_any (is_original parts.named c) parts.committed)) parts.copies (goods kept parts.copies fits.leaves.keyed fits.copies) in
    record {
      keyed = walk (keyed_walk parts) (spare_copies parts) kept parts.committed pairs fits.leaves.keyed good;
      ordered = walk (ordered_walk parts) (spare_copies parts) kept parts.committed pairs 0 fits.leaves.ordered;
      apart = walk (apart_walk parts) (spare_copies parts) kept parts.committed pairs fits.leaves.keyed good fits.leaves.apart pairs (filter_test (λ c. not (list_any (is_original parts.named c) parts.committed)) parts.copies);
    }
