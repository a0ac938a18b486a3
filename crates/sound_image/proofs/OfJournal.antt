-- What a sound image says is that of a journal, and so what is replayed of it is what is recovered of its parts.
use Rattle.std.proofs.Common.{◌≡◌, ℕ, List, map, length, refl, ap, sym, ◌∙◌, subst}
use Rattle.std.specs.Prelude.{max}
use Rattle.ubifs_base.specs.NodeLaws.{IsBytes}
use Rattle.small_areas.specs.MasterLaws.{OneText}
use Rattle.bud_log.specs.Buds.{buds_of}
use Rattle.bud_log.specs.Log.{references_of}
use Rattle.index_tree.specs.Shape.{contents as leaves_in}
use Rattle.index_tree.specs.Tree.{shape}
use Rattle.index_tree.specs.declared.index.Index.{Index}
use Rattle.index_media.specs.PlacedRow.{plain}
use Rattle.journal_scan.specs.Journal.{BudRead}
use Rattle.leaf_map.specs.Kept.{Placed}
use Rattle.leaf_map.specs.Parts.{Parts}
use Rattle.leaf_map.specs.Recovered.{recovered_of}
use Rattle.log_replay.specs.Replay.{AreParts, highest_read, told_committed}
use Rattle.log_replay.specs.Standing.{leaves}
use Rattle.log_replay.specs.Told.{IsOfJournal}
use Rattle.log_replay.specs.declared.committed_leaf.CommittedLeaf.{CommittedLeaf}
use Rattle.log_replay.specs.declared.replayed.Replayed.{Replayed}
use Rattle.sound_image.specs.Image.{Image, parts_of}
use Rattle.sound_image.specs.Mount.{IsCommittedIndex, IsReplayOf}
use Rattle.sound_image.specs.Sound.{SoundImage}
use Rattle.sound_image.proofs.OneJournal.{all_read, reads_same}
use Rattle.sound_image.proofs.OneReads.{OneLeaf}
use Rattle.sound_image.proofs.Readable.{NodesHavePlaces, have_places}
use Rattle.sound_image.proofs.Replaying.{StoredIsIndex, committed_leaves, have_grammar, lebs_named, places_named, sound_copies, sound_found}

pub sound_journal : NodesHavePlaces → StoredIsIndex → (contents : ℕ → List ℕ) (image : Image) → SoundImage contents image → IsOfJournal (parts_of image)
sound_journal places stored contents image h = record {
  copies = sound_copies contents image h;
  found = sound_found stored contents image h;
  distinct = h.tree.distinct;
  places = have_places places contents image h;
}

pub sound_parts : NodesHavePlaces → StoredIsIndex → (contents : ℕ → List ℕ) (image : Image) (index : Index) → SoundImage contents image → IsCommittedIndex image index
    → AreParts (parts_of image) image.buds index (map told_committed image.committed) image.listed
sound_parts places stored contents image index h same = record {
  in_index = same ∙ committed_leaves contents (leaves_in (plain image.placed)) image.committed h.leaves.committed;
  told = refl;
  grammar = have_grammar contents (leaves_in (plain image.placed)) image.committed h.leaves.committed;
  named = record {
    bud = λ leaf. places_named contents image leaf h;
    leb = λ lnum. lebs_named contents image lnum h;
  };
  nodes = refl;
  copies = refl;
  list = refl;
  journal = sound_journal places stored contents image h;
}

-- ---- what is replayed
-- what was read of the buds is what the image says
same_reads : OneText → OneLeaf → (contents : ℕ → List ℕ) (image : Image) (index : Index) (made : Replayed) → ((k : ℕ) → IsBytes (contents k)) → SoundImage contents image → (r : IsReplayOf contents image index made) → image.buds ≡ r.1.reads
same_reads text one contents image index made fits h r =
    reads_same text one contents (buds_of (references_of image.log)) image.buds r.1.reads fits h.buds.of_buds r.1.of_buds (all_read image.buds h.buds.sound) r.1.texts

parts_read : NodesHavePlaces → StoredIsIndex → OneText → OneLeaf → (contents : ℕ → List ℕ) (image : Image) (index : Index) (made : Replayed) → ((k : ℕ) → IsBytes (contents k)) → SoundImage contents image → (r : IsReplayOf contents image index made)
    → AreParts (parts_of image) r.1.reads index (map told_committed image.committed) image.listed
parts_read places stored text one contents image index made fits h r =
    let P : List BudRead → Type 0 = λ reads. AreParts (parts_of image) reads index (map told_committed image.committed) image.listed in
    subst P (same_reads text one contents image index made fits h r) (sound_parts places stored contents image index h r.0)

pub replayed_leaves : NodesHavePlaces → StoredIsIndex → OneText → OneLeaf → (contents : ℕ → List ℕ) (image : Image) (index : Index) (made : Replayed) → ((k : ℕ) → IsBytes (contents k)) → SoundImage contents image → IsReplayOf contents image index made
    → leaves_in (shape made.index.root) ≡ leaves (recovered_of (parts_of image)).kept
replayed_leaves places stored text one contents image index made fits h r = r.1.recovered (parts_of image) (parts_read places stored text one contents image index made fits h r)

-- the numbers that are read are those of what is recovered
abbrev pub HasHighest : Type 0
HasHighest = (parts : Parts) (reads : List BudRead) (index : Index) (committed : List CommittedLeaf) (listed : List ℕ) → AreParts parts reads index committed listed → max parts.highest (highest_read committed reads) ≡ (recovered_of parts).highest

pub replayed_highest : NodesHavePlaces → StoredIsIndex → OneText → OneLeaf → HasHighest → (contents : ℕ → List ℕ) (image : Image) (index : Index) (made : Replayed) → ((k : ℕ) → IsBytes (contents k)) → SoundImage contents image → IsReplayOf contents image index made
    → max image.latest.master.highest_inum made.highest ≡ (recovered_of (parts_of image)).highest
replayed_highest places stored text one law contents image index made fits h r =
    ap (λ (n : ℕ). max image.latest.master.highest_inum n) r.1.highest ∙ law (parts_of image) r.1.reads index (map told_committed image.committed) image.listed (parts_read places stored text one contents image index made fits h r)

pub replayed_nodes : NodesHavePlaces → StoredIsIndex → OneText → OneLeaf → (contents : ℕ → List ℕ) (image : Image) (index : Index) (made : Replayed) → ((k : ℕ) → IsBytes (contents k)) → SoundImage contents image → IsReplayOf contents image index made
    → made.nodes ≡ (recovered_of (parts_of image)).nodes
replayed_nodes places stored text one contents image index made fits h r =
    r.1.nodes ∙ ap (λ (ns : List Placed). length ns) (sym (parts_read places stored text one contents image index made fits h r).nodes)
