use Rattle.std.proofs.Common.{◌≡◌, ℕ, List, refl, ap, sym, subst, ◌∙◌, inl}
use Rattle.std.specs.Prelude.{Option, All, OnOk}
use Rattle.index_tree.specs.Order.{placed}
use Rattle.index_tree.specs.Shape.{Shape, contents}
use Rattle.index_media.specs.Clean.{placed_of}
use Rattle.index_media.specs.KeyedRow.{KeyedRow, all_clean, bare}
use Rattle.index_media.specs.PlacedRow.{lebs_of, plain}
use Rattle.index_media.specs.Stored.{IsStoredIndex}
use Rattle.media_sys.specs.declared.branch.Branch.{Branch}
use Rattle.node_table.specs.Placing.{KeepsPlaces}
use Rattle.ubi_volume.specs.Volume.{Only, filled}
use Rattle.ubi_volume.specs.VolumeLaws.{Leaves-then}
use Rattle.index_cache.specs.Paged.{frozen_of, keyed_tree_of}
use Rattle.index_commit.specs.Lebs.{IsGiven}
use Rattle.index_commit.specs.Written.{IsRootOf}
use Rattle.commit_steps.specs.UnderWayLaws.{WorksBeside-keeps, WorksBeside-then, given_all, index_loaded, index_stays, seen_beside}
use Rattle.commit_steps.proofs.Steps.{if_ok_both}
use Rattle.commit_steps.proofs.client.load_and_commit.Goals as goal

pub commit_beside_puts-requires-clause-seen : goal.commit_beside_puts-requires-clause-seen
commit_beside_puts-requires-clause-seen g c =
    let a = g.V.Volume.state c.args.volume.now in
    let b = g.V.Volume.state c.at_root.new.volume in
    let row = c.requires.index.0 in
    let on = c.requires.index.1 in
    let settled = c.requires.index.2 in
    let apart = c.requires.index.3 in
    let lebs : List ℕ = lebs_of row in
    let index = c.in_ok-index.index in
    let own : IsGiven lebs c.args.bud → ⊥ = λ given. apart c.args.bud given (inl refl) in
    let first = index_loaded a row index (λ others two. c.changes_keep_what_stands.ensures.loaded a.holds others c.args.geometry.now.fanout c.args.root.now row on.index two) (c.in_ok-index.ensures.loaded row on) settled in
    let read = seen_beside a b lebs index (WorksBeside-keeps a b lebs c.at_root.ensures.reads.keeps) first in
    (lebs, apart, c.in_ok-put_leaf.ensures.seen lebs own read, c.in_ok-put_leaf.ensures.stands lebs own read.seen)

pub returns-in_err-put_leaf-clause-old_stays : goal.returns-in_err-put_leaf-clause-old_stays
returns-in_err-put_leaf-clause-old_stays g c = λ row on settled apart.
    let a = g.V.Volume.state c.args.volume.now in
    let b = g.V.Volume.state c.at_root.new.volume in
    let d = g.V.Volume.state c.put_leaf.new.volume in
    let lebs : List ℕ = lebs_of row in
    let beside = WorksBeside-then a b d lebs (WorksBeside-keeps a b lebs c.at_root.ensures.reads.keeps) (c.put_leaf.ensures.beside lebs (λ given. apart c.args.bud given (inl refl))) in
    (index_stays c.an_index_depends_on_its_lebs_alone.ensures a d lebs c.args.geometry.now.fanout c.args.root.now row beside settled (given_all (IsGiven lebs) lebs (λ k one. one)) on.index).1

pub returns-clause-leaves : goal.returns-clause-leaves
returns-clause-leaves g c = λ row on settled apart.
    let a = g.V.Volume.state c.args.volume.now in
    let b = g.V.Volume.state c.at_root.new.volume in
    let e = g.V.Volume.state c.commit_beside_puts.new.volume in
    let f = c.args.geometry.now.fanout in
    let leaf = c.args.leaf in
    let lebs : List ℕ = lebs_of row in
    let index = c.in_ok-index.index in
    let put = c.put_leaf.new.index in
    let final = c.commit_beside_puts.new.index in
    let loaded : keyed_tree_of index ≡ all_clean row = c.in_ok-index.ensures.loaded row on in
    let first = index_loaded a row index (λ others two. c.changes_keep_what_stands.ensures.loaded a.holds others f c.args.root.now row on.index two) loaded settled in
    let read = seen_beside a b lebs index (WorksBeside-keeps a b lebs c.at_root.ensures.reads.keeps) first in
    let seen = c.in_ok-put_leaf.ensures.seen lebs (λ given. apart c.args.bud given (inl refl)) read in
    let same : contents (bare (keyed_tree_of put)) ≡ placed leaf (contents (plain row)) =
    c.in_ok-put_leaf.ensures.leaves ∙ ap (λ (r : KeyedRow). placed leaf (contents (bare r))) loaded ∙ ap (λ (s : Shape). placed leaf (contents s)) (c.an_insertion_goes_by_the_keys_of_branches.ensures.clean row) in
    if_ok_both (λ (at : Option Branch). IsRootOf e.holds f (frozen_of final) at × All (λ k. Only (e.holds k) (e.left_now k)) (lebs_of (placed_of (frozen_of final)))) (KeepsPlaces (keyed_tree_of put) (frozen_of final))
    (λ (at : Option Branch). (now : KeyedRow) × (contents (bare now) ≡ placed leaf (contents (plain row))) × IsRootOf e.holds f now at) c.commit_beside_puts.result
    (λ at root kept. (frozen_of final, ap contents (c.places_are_kept.ensures.shape (keyed_tree_of put) (frozen_of final) kept) ∙ same, root.0))
    (c.commit_beside_puts.ensures.stands lebs apart seen) c.commit_beside_puts.ensures.frozen

pub returns-clause-old_stays : goal.returns-clause-old_stays
returns-clause-old_stays g c = λ row on settled apart.
    let a = g.V.Volume.state c.args.volume.now in
    let b = g.V.Volume.state c.at_root.new.volume in
    let d = g.V.Volume.state c.put_leaf.new.volume in
    let e = g.V.Volume.state c.commit_beside_puts.new.volume in
    let f = c.args.geometry.now.fanout in
    let root = c.args.root.now in
    let lebs : List ℕ = lebs_of row in
    let index = c.in_ok-index.index in
    let loaded : keyed_tree_of index ≡ all_clean row = c.in_ok-index.ensures.loaded row on in
    let first = index_loaded a row index (λ others two. c.changes_keep_what_stands.ensures.loaded a.holds others f root row on.index two) loaded settled in
    let keeps = WorksBeside-keeps a b lebs c.at_root.ensures.reads.keeps in
    let seen = c.in_ok-put_leaf.ensures.seen lebs (λ given. apart c.args.bud given (inl refl)) (seen_beside a b lebs index keeps first) in
    let beside = WorksBeside-then a b d lebs keeps (c.put_leaf.ensures.beside lebs (λ given. apart c.args.bud given (inl refl))) in
    let all : All (IsGiven lebs) lebs = given_all (IsGiven lebs) lebs (λ k one. one) in
    let put = index_stays c.an_index_depends_on_its_lebs_alone.ensures a d lebs f root row beside settled all on.index in
    let P : (ℕ → List ℕ) → Type 0 = λ x. IsStoredIndex x f root row in
    Leaves-then a d e P P P (λ x h. h) (λ x h. h) put.1 (c.commit_beside_puts.ensures.old_stays lebs f root row apart seen all put.0)

pub returns-in_err-index-clause-beside : goal.returns-in_err-index-clause-beside
returns-in_err-index-clause-beside g c = λ others apart. WorksBeside-keeps (g.V.Volume.state c.args.volume.now) (g.V.Volume.state c.at_root.new.volume) others c.at_root.ensures.reads.keeps

pub returns-in_err-put_leaf-clause-beside : goal.returns-in_err-put_leaf-clause-beside
returns-in_err-put_leaf-clause-beside g c = λ others apart.
    let a = g.V.Volume.state c.args.volume.now in
    let b = g.V.Volume.state c.at_root.new.volume in
    WorksBeside-then a b (g.V.Volume.state c.put_leaf.new.volume) others (WorksBeside-keeps a b others c.at_root.ensures.reads.keeps) (c.put_leaf.ensures.beside others (λ given. apart c.args.bud given (inl refl)))

pub returns-clause-beside : goal.returns-clause-beside
returns-clause-beside g c = λ others apart.
    let a = g.V.Volume.state c.args.volume.now in
    let b = g.V.Volume.state c.at_root.new.volume in
    let d = g.V.Volume.state c.put_leaf.new.volume in
    let put = WorksBeside-then a b d others (WorksBeside-keeps a b others c.at_root.ensures.reads.keeps) (c.put_leaf.ensures.beside others (λ given. apart c.args.bud given (inl refl))) in
    WorksBeside-then a d (g.V.Volume.state c.commit_beside_puts.new.volume) others put (c.commit_beside_puts.ensures.beside others apart)

pub returns-clause-written : goal.returns-clause-written
returns-clause-written g c =
    let a = g.V.Volume.state c.args.volume.now in
    let b = g.V.Volume.state c.at_root.new.volume in
    let d = g.V.Volume.state c.put_leaf.new.volume in
    let e = g.V.Volume.state c.commit_beside_puts.new.volume in
    let first = c.at_root.ensures.reads.shape in
    let second = c.put_leaf.ensures.shape in
    let put : d.holds c.args.bud ≡ filled b.leb_size c.args.node.now = c.in_ok-put_leaf.ensures.written in
    let P : ℕ → Type 0 = λ n. OnOk c.commit_beside_puts.result (e.holds c.args.bud ≡ filled n c.args.node.now) in
    subst P (second.leb_size ∙ first.leb_size) (c.commit_beside_puts.ensures.written (put ∙ ap (λ n. filled n c.args.node.now) (sym second.leb_size)))
