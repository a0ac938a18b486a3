use Rattle.std.proofs.Common.{List, ◌≡◌, ◌-◌, true, ℕ, [], ap, sym, ◌∙◌, subst, append-nil}
use Rattle.index_tree.specs.Order.{placed}
use Rattle.index_tree.specs.Shape.{Shape, contents, fits}
use Rattle.index_media.specs.Clean.{placed_of}
use Rattle.index_media.specs.KeyedRow.{KeyedRow, all_clean, bare}
use Rattle.index_media.specs.PlacedRow.{plain}
use Rattle.node_table.specs.declared.change.Change.TheVariants.{Insert}
use Rattle.index_cache.specs.Paged.{fanout_of, frozen_of, keyed_tree_of}
use Rattle.ubi_volume.specs.VolumeLaws.{Keeps-then, Leaves-keeps}
use Rattle.index_media.specs.Stored.{IsStoredIndex}
use Rattle.ubifs_base.specs.RawOf.{raw_of}
use Rattle.index_commit.specs.Rooms.{IsIndexLaidOut}
use Rattle.index_commit.specs.Standing.{AreOutside, IsOutside}
use Rattle.index_commit.specs.Written.{AreLebsSettled, IsIndexAt, IsRootOf}
use Rattle.index_commit.specs.declared.index_at.IndexAt.{IndexAt}
use Rattle.index_commit.proofs.Lebs.{if_ok, kept_indexes_then}
use Rattle.index_commit.proofs.Standing.{are_standing}
use Rattle.index_commit.proofs.client.put_and_commit.Goals as goal

pub write_index-requires-clause-outside : goal.write_index-requires-clause-outside
write_index-requires-clause-outside g c =
    let a = g.V.Volume.state c.args.volume.now in
    let b = g.V.Volume.state c.insert.new.volume in
    let lebs = c.args.lebs.now in
    let f = c.args.geometry.now.fanout in
    let row = c.requires.index.0 in
    let on = c.requires.index.1 in
    let index = c.in_ok-index.index in
    let frozen = frozen_of c.freeze.new.self in
    let stand = c.changes_keep_what_stands.ensures in
    let loaded : keyed_tree_of index ≡ all_clean row = c.in_ok-index.ensures.loaded row on in
    let A : KeyedRow → Type 0 = λ r. AreOutside a.holds lebs r in
    let F : KeyedRow → Type 0 = λ r. fits (fanout_of index) (bare r) ≡ true in
    let N : ℕ → Type 0 = λ n. fits n (bare (all_clean row)) ≡ true in
    let S : Shape → Type 0 = λ s. fits f s ≡ true in
    let fit = subst F (sym loaded) (subst N (sym c.in_ok-index.ensures.fanout) (subst S (sym (c.an_insertion_goes_by_the_keys_of_branches.ensures.clean row)) on.index.fits)) in
    let before = subst A (sym loaded) (stand.loaded a.holds lebs f c.args.root.now row on.index c.requires.index.2) in
    let after = stand.changed (fanout_of index) (Insert c.args.leaf) a.holds lebs (keyed_tree_of index) fit before in
    let made = subst A (sym (c.freeze.ensures.frozen ∙ c.in_ok-insert.ensures.tree)) after in
    are_standing a.holds b.holds (IsOutside lebs) (IsOutside lebs) frozen (λ k. ([], c.insert.ensures.reads.keeps.holds k ∙ c.at_root.ensures.reads.keeps.holds k ∙ sym (append-nil (a.holds k)))) (λ s n g given. given) made

pub returns-clause-leaves : goal.returns-clause-leaves
returns-clause-leaves g c = λ row on.
    let d = g.V.Volume.state c.write_index.new.volume in
    let f = c.args.geometry.now.fanout in
    let leaf = c.args.leaf in
    let begun = c.freeze.new.self in
    let final = c.write_index.new.index in
    let shape = c.places_are_kept.ensures.shape (frozen_of begun) (frozen_of final) c.write_index.ensures.index.kept.frozen in
    let loaded = c.in_ok-index.ensures.loaded row on in
    let same : contents (bare (frozen_of final)) ≡ placed leaf (contents (plain row)) =
    ap contents shape ∙ ap (λ (r : KeyedRow). contents (bare r)) c.freeze.ensures.frozen ∙ c.in_ok-insert.ensures.leaves ∙ ap (λ (r : KeyedRow). placed leaf (contents (bare r))) loaded
    ∙ ap (λ (s : Shape). placed leaf (contents s)) (c.an_insertion_goes_by_the_keys_of_branches.ensures.clean row) in
    if_ok (λ (at : IndexAt). IsIndexAt d f c.args.lebs.now begun final at × IsIndexLaidOut (raw_of c.args.geometry.now) c.args.lebs.now (c.write_index.new.sqnum - c.args.sqnum.now) begun final at)
    (λ (at : IndexAt). (now : KeyedRow) × (contents (bare now) ≡ placed leaf (contents (plain row))) × IsRootOf d.holds f now at.root × AreLebsSettled d c.args.lebs.now (placed_of now)) c.write_index.result
    (λ at h. (frozen_of final, same, h.0.root, h.0.left))
    c.write_index.ensures.written

pub returns-clause-old_stays : goal.returns-clause-old_stays
returns-clause-old_stays g c =
    kept_indexes_then c.an_index_depends_on_its_lebs_alone.ensures (g.V.Volume.state c.args.volume.now) (g.V.Volume.state c.insert.new.volume) (g.V.Volume.state c.write_index.new.volume) c.args.lebs.now
    (Keeps-then (g.V.Volume.state c.args.volume.now) (g.V.Volume.state c.at_root.new.volume) (g.V.Volume.state c.insert.new.volume) c.at_root.ensures.reads.keeps c.insert.ensures.reads.keeps) c.write_index.ensures.old_stays

pub returns-then-dirty_nodes-gt-MOST_NODES-clause-old_stays : goal.returns-then-dirty_nodes-gt-MOST_NODES-clause-old_stays
returns-then-dirty_nodes-gt-MOST_NODES-clause-old_stays g c = λ fanout root placed stored all.
    let a = g.V.Volume.state c.args.volume.now in
    let b = g.V.Volume.state c.at_root.new.volume in
    let d = g.V.Volume.state c.insert.new.volume in
    Leaves-keeps a d (λ (x : ℕ → List ℕ). IsStoredIndex x fanout root placed) (Keeps-then a b d c.at_root.ensures.reads.keeps c.insert.ensures.reads.keeps)
