-- What fits a view is recovered to a tree that a cut may leave.
use Rattle.std.proofs.Common.{◌≡◌, ℕ, true, List, [], ◌∷◌, map, refl, ap, ◌∙◌}
use Rattle.std.specs.Prelude.{◌==◌}
use Rattle.std.specs.List.{AllByRecursion, list_any}
use Rattle.ubifs_base.specs.declared.key.Key.{Key}
use Rattle.fs_model.specs.Change.{apply}
use Rattle.fs_model.specs.Files.{Tree}
use Rattle.fs_model.specs.Orphan.{is_nameless}
use Rattle.fs_model.specs.Recovery.{IsRecovered, Numbered, by_number, recovered}
use Rattle.leaf_map.specs.Allowed.{AreRead, FitsLeaves, FitsTree, IsSafe, LosesNothing, in_turn}
use Rattle.leaf_map.specs.Kept.{Kept}
use Rattle.leaf_map.specs.Parts.{Committed, Named, Parts}
use Rattle.leaf_map.specs.Recovered.{committed_highest, highest_key, nodes_in_order, tree_found}
use Rattle.leaf_map.specs.Shown.{tree_of}
use Rattle.store_model.specs.Fits.{AreLeavesCommitted, Faced, FitsFaced}
use Rattle.store_model.specs.Heads.{heads_of}
use Rattle.store_model.specs.Invariant.{HasCommittedView}
use Rattle.store_model.specs.Recovery.{read_changes}

abbrev pub FitsLaw : Type 0
FitsLaw = (parts : Parts) (kept : List Kept) (changes : Numbered) → LosesNothing parts kept changes → FitsTree parts (tree_of kept (committed_highest parts)) changes

abbrev pub FoundLaw : Type 0
FoundLaw = (parts : Parts) (committed : Tree) (changes : Numbered) → FitsTree parts committed changes → tree_found parts ≡ recovered committed changes

keys_read : (named : List Named) (committed : List Committed) (kept : List Kept) → AreLeavesCommitted named committed kept → map (λ c. c.leaf.key) committed ≡ map (λ x. x.leaf.key) kept
keys_read named [] [] h = refl
keys_read named [] (x ∷ kept) h = absurd h
keys_read named (c ∷ committed) [] h = absurd h
keys_read named (c ∷ committed) (x ∷ kept) h = ap (λ l. l.key ∷ map (λ (d : Committed). d.leaf.key) committed) h.0 ∙ ap (λ (keys : List Key). x.leaf.key ∷ keys) (keys_read named committed kept h.2)

same_tree : (f : Faced) (parts : Parts) → HasCommittedView f.view → FitsFaced f parts → tree_of f.view.kept (committed_highest parts) ≡ f.view.tree
same_tree f parts has fits =
    let number = ap (λ (n : ℕ). highest_key n (map (λ (c : Committed). c.leaf.key) parts.committed)) fits.highest
    ∙ ap (highest_key f.view.highest) (keys_read parts.named parts.committed f.view.kept fits.committed) ∙ has.highest in
    ap (tree_of f.view.kept) number ∙ has.tree

pub allowed : FitsLaw → FoundLaw → (f : Faced) (parts : Parts) → HasCommittedView f.view → (fits : FitsFaced f parts) → AreRead (nodes_in_order parts.nodes) (by_number (read_changes f parts fits))
    → FitsLeaves parts f.view.kept
    → AllByRecursion (IsSafe parts (tree_of f.view.kept (committed_highest parts)) (in_turn (read_changes f parts fits))) f.view.kept
    → ((q : ℕ) → is_nameless (apply (tree_of f.view.kept (committed_highest parts)) (in_turn (read_changes f parts fits))) q ≡ true → list_any (λ ino. q == ino) parts.listed ≡ true)
    → IsRecovered f.view.tree (heads_of f.view.buds f.synced) (tree_found parts)
allowed fits_tree found f parts has fits carry read safe listed =
    let changes : Numbered = read_changes f parts fits in
    let fit = fits_tree parts f.view.kept changes (record { read = read; nodes = carry; safe = safe; listed = listed }) in
    record {
      counts = 0 ∷ fits.base ∷ fits.data_groups ∷ [];
      synced = fits.keeps;
      tree_is = found parts (tree_of f.view.kept (committed_highest parts)) changes fit ∙ ap (λ (t : Tree). recovered t changes) (same_tree f parts has fits);
    }
