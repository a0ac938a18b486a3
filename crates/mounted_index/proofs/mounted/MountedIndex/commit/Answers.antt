use Rattle.std.proofs.Common.{ℕ, ◌+◌, ◌-◌, ◌≤◌, ◌∙◌, ap, sym, subst, refl}
use Rattle.std.specs.Prelude.{IfOk, Result}
use Rattle.ubifs_base.specs.RawOf.{raw_of}
use Rattle.node_table.specs.UnloadedRoots.{root_moved}
use Rattle.index_cache.specs.Paged.{keyed_tree_of}
use Rattle.index_commit.specs.declared.index_at.IndexAt.{IndexAt}
use Rattle.index_commit.specs.declared.index_fault.IndexFault.{IndexFault}
use Rattle.mounted_index.specs.Committed.{IsWrittenAt, OnWant, nodes_to_write}
use Rattle.mounted_index.specs.Shown.{KeepsShown}
use Rattle.mounted_index.specs.declared.mounted.IndexNodes.TheVariants.{InMemory, OnMedium}
use Rattle.mounted_index.specs.declared.mounted.MountedIndex.{MountedIndex}
use Rattle.mounted_index.proofs.Committed.{commit_clean, commit_seen, kept_shown, nodes_let_go, want_both, want_more}
use Rattle.mounted_index.proofs.Shown.{nodes_as}
use Rattle.mounted_index.proofs.mounted.MountedIndex.commit.Goals as goal

pub returns-in-OnMedium-clause-committed : goal.returns-in-OnMedium-clause-committed
returns-in-OnMedium-clause-committed g c = λ row kept h.
    let a = g.V.Volume.state c.args.volume.now in
    let self = c.args.self.now in
    let root = c.in-OnMedium.root in
    let after : MountedIndex = record { geometry = self.geometry; nodes = OnMedium root; cache = self.cache } in
    commit_clean c.places_are_kept.ensures.none a c.args.lebs.now kept c.args.sqnum.now self after row root c.in-OnMedium.is c.requires.volume.1 h
    (record { nodes = nodes_as a self.geometry.fanout row self.nodes (OnMedium root) c.in-OnMedium.is h.shown.nodes; kept = h.shown.kept })

pub returns-in-Ok-clause-committed : goal.returns-in-Ok-clause-committed
returns-in-Ok-clause-committed g c = λ row kept h.
    let a = g.V.Volume.state c.args.volume.now in
    let b = g.V.Volume.state c.write_seen-written.new.volume in
    let self = c.args.self.now in
    let f = self.geometry.fanout in
    let index = c.in-InMemory.index in
    let final = c.write_seen-written.new.index in
    let after : MountedIndex = record { geometry = self.geometry; nodes = c.nodes_of.result; cache = c.clear.new.self } in
    let w = c.write_seen-written.ensures in
    let A : Result IndexAt IndexFault → Type 0 = λ r. IfOk r (IsWrittenAt b (raw_of self.geometry) c.args.lebs.now (c.write_seen-written.new.sqnum - c.args.sqnum.now) (keyed_tree_of index) (keyed_tree_of final)) in
    let at = subst A c.in-Ok.is w.at in
    let W : Result IndexAt IndexFault → Type 0 = λ r. OnWant (KeepsShown a b self after) r in
    commit_seen a b c.args.lebs.now kept c.args.sqnum.now c.write_seen-written.new.sqnum self after row index final c.write_seen-written.result c.in-InMemory.is h
    (record { places = w.tree; at = w.at; untouched = w.want; full = w.full; stands = λ s two fine. w.stands kept s two fine; order = w.order })
    (record { nodes = nodes_let_go b f (keyed_tree_of final) c.in-Ok.at.root c.nodes_of.result at.root c.nodes_of.ensures; kept = c.clear.ensures.kept b.holds }) (subst W (sym c.in-Ok.is) tt)

pub returns-in_default-clause-committed : goal.returns-in_default-clause-committed
returns-in_default-clause-committed g c = λ row kept h.
    let a = g.V.Volume.state c.args.volume.now in
    let b = g.V.Volume.state c.write_seen-written.new.volume in
    let self = c.args.self.now in
    let f = self.geometry.fanout in
    let index = c.in-InMemory.index in
    let final = c.write_seen-written.new.index in
    let after : MountedIndex = record { geometry = self.geometry; nodes = InMemory final; cache = c.clear.new.self } in
    let w = c.write_seen-written.ensures in
    let own = nodes_as a f row self.nodes (InMemory index) c.in-InMemory.is h.shown.nodes in
    commit_seen a b c.args.lebs.now kept c.args.sqnum.now c.write_seen-written.new.sqnum self after row index final c.write_seen-written.result c.in-InMemory.is h
    (record { places = w.tree; at = w.at; untouched = w.want; full = w.full; stands = λ s two fine. w.stands kept s two fine; order = w.order })
    (record { nodes = (refl, w.fanout ∙ own.1, w.index); kept = c.clear.ensures.kept b.holds })
    (want_more _ (KeepsShown a b self after) c.write_seen-written.result (want_both _ _ c.write_seen-written.result w.want w.same)
    (λ both. kept_shown a b self c.clear.new.self index final c.in-InMemory.is (c.clear.ensures.kept b.holds) (λ root s. root_moved a b index.table.nodes.items root both.0.0 w.answer.shape s) both.1 w.fanout))

pub returns-in-Ok-clause-number : goal.returns-in-Ok-clause-number
returns-in-Ok-clause-number g c =
    let n = c.write_seen-written.ensures.number in
    let N : ℕ → Type 0 = λ n. c.write_seen-written.new.sqnum ≤ c.args.sqnum.now + n in
    (n.0, n.1, subst N (sym (ap nodes_to_write c.in-InMemory.is)) n.2)

pub returns-in_default-clause-number : goal.returns-in_default-clause-number
returns-in_default-clause-number g c =
    let n = c.write_seen-written.ensures.number in
    let N : ℕ → Type 0 = λ n. c.write_seen-written.new.sqnum ≤ c.args.sqnum.now + n in
    (n.0, n.1, subst N (sym (ap nodes_to_write c.in-InMemory.is)) n.2)
