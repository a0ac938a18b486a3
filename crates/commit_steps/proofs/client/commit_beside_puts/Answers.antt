use Rattle.std.proofs.Common.{◌≡◌, ◌++◌, [], ℕ, List, ◌∙◌, sym, subst, append-nil}
use Rattle.std.specs.Prelude.{All, Option}
use Rattle.index_commit.specs.Lebs.{IsGiven}
use Rattle.index_media.specs.Clean.{placed_of}
use Rattle.index_media.specs.KeyedRow.{KeyedRow}
use Rattle.node_table.specs.Placing.{KeepsPlaces}
use Rattle.node_table.specs.Unloaded.{DoesRootStand}
use Rattle.table_nodes.specs.declared.node.Root.{Root}
use Rattle.table_nodes.specs.declared.node.TableNode.{TableNode}
use Rattle.index_cache.specs.Paged.{fanout_of, frozen_of}
use Rattle.index_commit.specs.Written.{IsRootOf}
use Rattle.commit_steps.specs.UnderWayLaws.{commit_begun, commit_ended, commit_settled, index_stays, outside_of}
use Rattle.commit_steps.proofs.Steps.{clean_row}
use Rattle.commit_steps.proofs.client.commit_beside_puts.Goals as goal

pub take_steps-requires-clause-stands : goal.take_steps-requires-clause-stands
take_steps-requires-clause-stands g c =
    let a = g.V.Volume.state c.args.volume.now in
    let begun = c.freeze.new.self in
    let D : List TableNode → Type 0 = λ ns. DoesRootStand a ns begun.root in
    let R : Option Root → Type 0 = λ r. DoesRootStand a c.args.index.now.table.nodes.items r in
    subst D (sym {A = List TableNode} c.freeze.ensures.nodes) (subst R (sym c.freeze.ensures.seen) c.requires.seen.3)

pub take_steps-requires-clause-way : goal.take_steps-requires-clause-way
take_steps-requires-clause-way g c =
    let a = g.V.Volume.state c.args.volume.now in
    let seen = c.requires.seen in
    (seen.0, [], seen.1, commit_begun a seen.0 c.args.index.now c.freeze.new.self c.freeze.ensures.frozen c.freeze.ensures.tree seen.2)

pub returns-clause-stands : goal.returns-clause-stands
returns-clause-stands g c = λ kept apart seen.
    let a = g.V.Volume.state c.args.volume.now in
    let b = g.V.Volume.state c.take_steps.new.volume in
    let begun = c.freeze.new.self in
    let final = c.take_steps.new.index in
    let way = c.in_ok-take_steps.ensures.done kept [] apart (commit_begun a kept c.args.index.now begun c.freeze.ensures.frozen c.freeze.ensures.tree seen) in
    let given = way.0 in
    let clean = clean_row (frozen_of final) (placed_of (frozen_of final)) c.committed_root.ensures.clean in
    let out = outside_of b.holds (given ++ kept) [] (frozen_of final) (λ k one none. none) way.2.frozen in
    let same : fanout_of final ≡ c.args.geometry.now.fanout = c.take_steps.ensures.fanout ∙ c.freeze.ensures.fanout ∙ c.requires.fanout in
    let R : ℕ → Type 0 = λ n. IsRootOf b.holds n (frozen_of final) c.committed_root.result in
    (subst R same (c.committed_root.ensures.root b.holds [] out), commit_settled b kept given final clean way.2)

pub returns-clause-next : goal.returns-clause-next
returns-clause-next g c = λ kept apart seen.
    let a = g.V.Volume.state c.args.volume.now in
    let b = g.V.Volume.state c.take_steps.new.volume in
    let final = c.take_steps.new.index in
    let way = c.in_ok-take_steps.ensures.done kept [] apart (commit_begun a kept c.args.index.now c.freeze.new.self c.freeze.ensures.frozen c.freeze.ensures.tree seen) in
    let clean = clean_row (frozen_of final) (placed_of (frozen_of final)) c.committed_root.ensures.clean in
    let P : List ℕ → Type 0 = λ xs. All (IsGiven xs) way.0 in
    (way.0, subst P (append-nil c.args.lebs.now) way.1, commit_ended b kept way.0 final clean way.2, c.in_ok-take_steps.ensures.stands)

pub returns-clause-frozen : goal.returns-clause-frozen
returns-clause-frozen g c =
    let K : KeyedRow → Type 0 = λ r. KeepsPlaces r (frozen_of c.take_steps.new.index) in
    subst K c.freeze.ensures.frozen c.take_steps.ensures.frozen

pub returns-in_err-take_steps-clause-old_stays : goal.returns-in_err-take_steps-clause-old_stays
returns-in_err-take_steps-clause-old_stays g c = λ kept fanout root placed apart seen all stored.
    let a = g.V.Volume.state c.args.volume.now in
    let b = g.V.Volume.state c.take_steps.new.volume in
    (index_stays c.an_index_depends_on_its_lebs_alone.ensures a b kept fanout root placed (c.take_steps.ensures.beside kept apart) seen.settled all stored).1

pub returns-clause-old_stays : goal.returns-clause-old_stays
returns-clause-old_stays g c = λ kept fanout root placed apart seen all stored.
    let a = g.V.Volume.state c.args.volume.now in
    let b = g.V.Volume.state c.take_steps.new.volume in
    (index_stays c.an_index_depends_on_its_lebs_alone.ensures a b kept fanout root placed (c.take_steps.ensures.beside kept apart) seen.settled all stored).1

pub returns-in_err-take_steps-clause-beside : goal.returns-in_err-take_steps-clause-beside
returns-in_err-take_steps-clause-beside g c = c.take_steps.ensures.beside

pub returns-clause-beside : goal.returns-clause-beside
returns-clause-beside g c = c.take_steps.ensures.beside

pub returns-clause-written : goal.returns-clause-written
returns-clause-written g c = c.in_ok-take_steps.ensures.written
