-- The highest inode number that is read is the recovered one.
use Rattle.std.proofs.Common.{◌≡◌, ℕ, List, [], ◌∷◌, map, max, refl, ap, sym, ◌∙◌, arith}
use Rattle.std.specs.Prelude.{fold}
use Rattle.ubifs_base.specs.Key.{key_words}
use Rattle.ubifs_base.specs.declared.key.Key.{Key}
use Rattle.index_tree.specs.Shape.{contents as leaves_in}
use Rattle.index_tree.specs.declared.leaf.Leaf.{Leaf}
use Rattle.index_media.specs.PlacedRow.{plain}
use Rattle.small_areas.specs.declared.placed_master.PlacedMaster.{PlacedMaster}
use Rattle.journal_scan.specs.Journal.{BudRead, journal_nodes_in}
use Rattle.leaf_map.specs.Kept.{node_key}
use Rattle.leaf_map.specs.Parts.{Committed}
use Rattle.leaf_map.specs.Recovered.{highest_key, nodes_in_order, recovered_of}
use Rattle.sound_image.specs.Image.{Image, parts_of}
use Rattle.sound_image.specs.Leaves.{AreCommitted}
use Rattle.sound_image.specs.Sound.{SoundImage}
use Rattle.sound_check.specs.Reads.{IsReadImage}
use Rattle.sound_check.specs.declared.image_read.ImageRead.{ImageRead}
use Rattle.recovered_tree.specs.Highest.{highest_image_read}

from_first : (n : ℕ) (keys : List Key) → highest_key n keys ≡ max n (highest_key 0 keys)
from_first n [] = omega arith
from_first n (key ∷ keys) =
    let all = from_first (max n (key_words key).0) keys in
    let own = from_first (max 0 (key_words key).0) keys in
    omega (arith, all, own)

of_leaves : (n : ℕ) (leaves : List Leaf) → fold (λ n (leaf : Leaf). max n (key_words leaf.key).0) n leaves ≡ highest_key n (map (λ (leaf : Leaf). leaf.key) leaves)
of_leaves n [] = refl
of_leaves n (leaf ∷ leaves) = of_leaves (max n (key_words leaf.key).0) leaves

committed_keys : (contents : ℕ → List ℕ) (leaves : List Leaf) (committed : List Committed) → AreCommitted contents leaves committed → map (λ (leaf : Leaf). leaf.key) leaves ≡ map (λ (x : Committed). x.leaf.key) committed
committed_keys contents [] [] h = refl
committed_keys contents [] (x ∷ committed) h = absurd h
committed_keys contents (leaf ∷ leaves) [] h = absurd h
committed_keys contents (leaf ∷ leaves) (x ∷ committed) h =
    ap (λ (l : Leaf). l.key ∷ map (λ (leaf : Leaf). leaf.key) leaves) (sym h.0) ∙ ap (λ (keys : List Key). x.leaf.key ∷ keys) (committed_keys contents leaves committed h.2)

pub highest_is : (contents : ℕ → List ℕ) (read : ImageRead) (image : Image) → SoundImage contents image → IsReadImage contents read image → highest_image_read read ≡ (recovered_of (parts_of image)).highest
highest_is contents read image sound h =
    let leaves = read.index.leaves.items in
    let committed = image.committed in
    let nodes : List BudRead → List Key = λ reads. map (λ x. node_key x.node) (nodes_in_order (journal_nodes_in reads)) in
    let of_journal : read.buds.read.highest ≡ highest_key 0 (nodes image.buds) = h.said.read.highest ∙ ap (λ (reads : List BudRead). highest_key 0 (nodes reads)) h.said.buds in
    let keys : map (λ (leaf : Leaf). leaf.key) leaves ≡ map (λ (x : Committed). x.leaf.key) committed = ap (λ (ls : List Leaf). map (λ (leaf : Leaf). leaf.key) ls) h.index.leaves ∙ committed_keys contents (leaves_in (plain image.placed)) committed sound.leaves.committed in
    let first : read.latest.master.highest_inum ≡ image.latest.master.highest_inum = ap (λ (m : PlacedMaster). m.master.highest_inum) (sym h.latest) in
    let of_committed : fold (λ n (leaf : Leaf). max n (key_words leaf.key).0) read.latest.master.highest_inum leaves ≡ highest_key image.latest.master.highest_inum (map (λ (x : Committed). x.leaf.key) committed) =
    of_leaves read.latest.master.highest_inum leaves ∙ ap (highest_key read.latest.master.highest_inum) keys ∙ ap (λ (n : ℕ). highest_key n (map (λ (x : Committed). x.leaf.key) committed)) first in
    let top = highest_key image.latest.master.highest_inum (map (λ (x : Committed). x.leaf.key) committed) in
    ap (λ (n : ℕ). max n read.buds.read.highest) of_committed ∙ ap (max top) of_journal ∙ sym (from_first top (nodes image.buds))
