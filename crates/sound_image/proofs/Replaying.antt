-- What a replay asks for: copies set something, leaves that are found are those of an index, and references name what buds do.
use Rattle.std.proofs.Common.{◌≡◌, ℕ, true, List, [], ◌∷◌, map, Option, Some, None, refl, ap, sym, ◌∙◌, subst, inl, inr}
use Rattle.std.specs.Prelude.{◌==◌, ◌&&◌, not, is_some}
use Rattle.std.specs.List.{AllByRecursion, list_any}
use Rattle.std.specs.Option.{option_map}
use Rattle.std.proofs.lemmas.List.Elements.{recursion_from_All}
use Rattle.media_leaf.specs.LeafNode.{IsLeaf, LeafNode}
use Rattle.media_sys.specs.declared.branch.Branch.{Branch}
use Rattle.bud_log.specs.Buds.{buds_of}
use Rattle.bud_log.specs.Log.{references_of}
use Rattle.index_tree.specs.Keyed.{HaveKeys}
use Rattle.index_tree.specs.Order.{leaf_rank, ordered_from}
use Rattle.index_tree.specs.Rebuild.{IsIndex}
use Rattle.index_tree.specs.Shape.{contents as leaves_in}
use Rattle.index_tree.specs.declared.leaf.Leaf.{Leaf}
use Rattle.index_media.specs.PlacedRow.{PlacedRow, plain}
use Rattle.index_media.specs.Stored.{IsStoredIndex}
use Rattle.journal_scan.specs.Journal.{BudRead, copies_in}
use Rattle.journal_scan.specs.Places.{named_by as named_of}
use Rattle.leaf_map.specs.Allowed.{IsOwnNode}
use Rattle.leaf_map.specs.Kept.{Placed, kept_at, shown}
use Rattle.leaf_map.specs.LeafMap.{IsLeafMap}
use Rattle.leaf_map.specs.Parts.{Committed, Named, Parts, in_bud, is_named, is_shown, own_node}
use Rattle.leaf_map.specs.Recovered.{leaves_found}
use Rattle.log_replay.specs.Settling.{HasGrammar}
use Rattle.sound_image.specs.Buds.{bud_text}
use Rattle.sound_image.specs.Image.{Image, parts_of}
use Rattle.sound_image.specs.Leaves.{AreCommitted, IsFoundAt}
use Rattle.sound_image.specs.Sound.{SoundImage}
use Rattle.sound_image.specs.Tree.{IsCopy}
use Rattle.sound_image.proofs.FoundLeaves.{AreSetting, found_of_index, own_of}
use Rattle.sound_image.proofs.Lists.{two_true}
use Rattle.sound_image.proofs.References.{same_lebs, same_places}
use Rattle.sound_image.proofs.StandingNodes.{copies_stand, placed_grammar}

-- ---- committed leaves
pub committed_leaves : (contents : ℕ → List ℕ) (leaves : List Leaf) (committed : List Committed) → AreCommitted contents leaves committed → leaves ≡ map (λ c. c.leaf) committed
committed_leaves contents [] [] h = refl
committed_leaves contents [] (x ∷ committed) h = absurd h
committed_leaves contents (leaf ∷ leaves) [] h = absurd h
committed_leaves contents (leaf ∷ leaves) (x ∷ committed) h = ap (λ (l : Leaf). l ∷ leaves) (sym h.0) ∙ ap (λ (ls : List Leaf). x.leaf ∷ ls) (committed_leaves contents leaves committed h.2)

found_grammar : (contents : ℕ → List ℕ) (leaf : Leaf) (found : Option Placed) → IsFoundAt contents leaf found → HasGrammar (record { leaf = leaf; found = found })
found_grammar contents leaf None h = tt
found_grammar contents leaf (Some node) h = h.1.is.is

pub have_grammar : (contents : ℕ → List ℕ) (leaves : List Leaf) (committed : List Committed) → AreCommitted contents leaves committed → AllByRecursion HasGrammar committed
have_grammar contents [] [] h = tt
have_grammar contents [] (x ∷ committed) h = absurd h
have_grammar contents (leaf ∷ leaves) [] h = absurd h
have_grammar contents (leaf ∷ leaves) (x ∷ committed) h = (found_grammar contents leaf x.found h.1, have_grammar contents leaves committed h.2)

-- ---- copies
-- a committed leaf's own node sets something
own_shown : (named : List Named) (committed : List Committed) (node : LeafNode) → AllByRecursion HasGrammar committed → IsOwnNode named committed node → is_shown (shown node) ≡ true
own_shown named [] node g h = absurd h
own_shown named (c ∷ committed) node g (inr h) = own_shown named committed node g.1 h
own_shown named (c ∷ committed) node g (inl e) = by (own_node named c) refl e
  where
    by : (own : Option Placed) → own_node named c ≡ own → option_map (λ (found : Placed). found.node) own ≡ Some node → is_shown (shown node) ≡ true
    by None f h = absurd cc
    by (Some own) f h = let same : own.node ≡ node = cc in subst (λ (n : LeafNode). is_shown (shown n) ≡ true) same (own_of named c own g.0 f).setting.shown

copy_shown : (parts : Parts) (copy : Placed) → AllByRecursion HasGrammar parts.committed → IsCopy parts copy → is_shown (shown copy.node) ≡ true
copy_shown parts copy g (inl own) = own_shown parts.named parts.committed copy.node g own
copy_shown parts copy g (inr h) = (two_true (is_shown (shown copy.node)) (list_any (λ x. not (is_some (own_node parts.named x)) && (leaf_rank x.leaf == leaf_rank (kept_at copy).leaf)) parts.committed) h).0

copies_set : (parts : Parts) (copies : List Placed) → AllByRecursion HasGrammar parts.committed → AllByRecursion (IsCopy parts) copies → AllByRecursion (λ (x : Placed). IsLeaf x.node) copies → AreSetting copies
copies_set parts [] g h k = tt
copies_set parts (x ∷ copies) g h k = (record { leaf = k.0; shown = copy_shown parts x g h.0 }, copies_set parts copies g h.1 k.1)

-- ---- all of it
abbrev pub StoredIsIndex : Type 0
StoredIsIndex = (contents : ℕ → List ℕ) (fanout : ℕ) (root : Branch) (placed : PlacedRow) → IsStoredIndex contents fanout root placed → IsIndex fanout (plain placed)

pub sound_copies : (contents : ℕ → List ℕ) (image : Image) → SoundImage contents image → AreSetting (parts_of image).copies
sound_copies contents image h =
    let g = have_grammar contents (leaves_in (plain image.placed)) image.committed h.leaves.committed in
    copies_set (parts_of image) (copies_in image.buds) g (recursion_from_All (IsCopy (parts_of image)) (copies_in image.buds) h.tree.copies)
    (placed_grammar contents (copies_in image.buds) (copies_stand contents (buds_of (references_of image.log)) image.buds h.buds))

pub sound_found : StoredIsIndex → (contents : ℕ → List ℕ) (image : Image) → SoundImage contents image → IsLeafMap (leaves_found (parts_of image))
sound_found stored contents image h =
    let is = stored contents image.geo.fanout _ image.placed h.index.index in
    let same = committed_leaves contents (leaves_in (plain image.placed)) image.committed h.leaves.committed in
    let K : List Leaf → Type 0 = λ xs. HaveKeys xs in
    let O : List Leaf → Type 0 = λ xs. ordered_from 0 xs ≡ true in
    found_of_index (parts_of image) (subst K same is.keyed) (subst O same is.ordered) (have_grammar contents (leaves_in (plain image.placed)) image.committed h.leaves.committed) (sound_copies contents image h) h.tree.found

-- ---- what a replay is handed
set_all : (copies : List Placed) → AreSetting copies → AllByRecursion (λ (x : Placed). IsLeaf x.node × (is_shown (shown x.node) ≡ true)) copies
set_all [] h = tt
set_all (x ∷ copies) h = ((h.0.leaf, h.0.shown), set_all copies h.1)

pub copies_set_something : (contents : ℕ → List ℕ) (image : Image) → SoundImage contents image → AllByRecursion (λ (x : Placed). IsLeaf x.node × (is_shown (shown x.node) ≡ true)) (parts_of image).copies
copies_set_something contents image h = set_all (parts_of image).copies (sound_copies contents image h)

named_reads : (reads : List BudRead) → map (λ x. named_of x.bud) reads ≡ map named_of (map (λ x. x.bud) reads)
named_reads [] = refl
named_reads (x ∷ reads) = ap (λ (ns : List Named). named_of x.bud ∷ ns) (named_reads reads)

read_names : (contents : ℕ → List ℕ) (image : Image) → SoundImage contents image → map (λ x. named_of x.bud) image.buds ≡ map named_of (map (bud_text contents) (buds_of (references_of image.log)))
read_names contents image h = named_reads image.buds ∙ ap (map named_of) h.buds.of_buds

pub places_named : (contents : ℕ → List ℕ) (image : Image) (leaf : Leaf) → SoundImage contents image → in_bud (parts_of image).named leaf ≡ in_bud (map (λ x. named_of x.bud) image.buds) leaf
places_named contents image leaf h = same_places contents (references_of image.log) leaf ∙ sym (ap (λ (ns : List Named). in_bud ns leaf) (read_names contents image h))

pub lebs_named : (contents : ℕ → List ℕ) (image : Image) (lnum : ℕ) → SoundImage contents image → is_named (parts_of image).named lnum ≡ is_named (map (λ x. named_of x.bud) image.buds) lnum
lebs_named contents image lnum h = same_lebs contents (references_of image.log) lnum ∙ sym (ap (λ (ns : List Named). is_named ns lnum) (read_names contents image h))
