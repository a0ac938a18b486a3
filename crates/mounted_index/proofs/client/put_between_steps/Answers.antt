use Rattle.std.proofs.Common.{◌≡◌, ◌++◌, ◌∷◌, [], List, ap, ◌∙◌, subst}
use Rattle.std.specs.Prelude.{None, slice_get}
use Rattle.commit_steps.specs.UnderWayLaws.{WorksBeside-keeps, WorksBeside-then}
use Rattle.index_media.specs.KeyedKeys.{AreKeysBounded}
use Rattle.index_media.specs.KeyedRow.{bare}
use Rattle.index_tree.specs.Order.{leaf_rank, of_rank, placed}
use Rattle.index_tree.specs.Shape.{Shape, contents}
use Rattle.index_tree.specs.declared.leaf.Leaf.{Leaf}
use Rattle.node_table.specs.Changing.{changed_row}
use Rattle.node_table.specs.declared.change.Change.TheVariants.{Insert}
use Rattle.mounted_index.specs.RunningLaws.{KeepsRunning-read}
use Rattle.mounted_index.proofs.Running.{bounded_kept}
use Rattle.mounted_index.proofs.ClientSteps.{apart_first, apart_later, apart_since, first_apart, given_both}
use Rattle.mounted_index.proofs.client.put_between_steps.Goals as goal

pub returns-in_err-take_steps-clause-beside : goal.returns-in_err-take_steps-clause-beside
returns-in_err-take_steps-clause-beside g c = λ others apart. c.take_steps.ensures.beside others (apart_first others c.args.first c.args.rest.now apart)

pub returns-in_err-change-clause-beside : goal.returns-in_err-change-clause-beside
returns-in_err-change-clause-beside g c = λ others apart.
    let a = g.V.Volume.state c.args.volume.now in
    let s1 = g.V.Volume.state c.take_steps.new.volume in
    let s2 = g.V.Volume.state c.change.new.volume in
    WorksBeside-then a s1 s2 others (c.take_steps.ensures.beside others (apart_first others c.args.first c.args.rest.now apart)) (WorksBeside-keeps s1 s2 others c.change.ensures.reads.keeps)

pub returns-in_err-found-clause-beside : goal.returns-in_err-found-clause-beside
returns-in_err-found-clause-beside g c = λ others apart.
    let a = g.V.Volume.state c.args.volume.now in
    let s1 = g.V.Volume.state c.take_steps.new.volume in
    let s2 = g.V.Volume.state c.change.new.volume in
    let s3 = g.V.Volume.state c.find.new.volume in
    let one = WorksBeside-then a s1 s2 others (c.take_steps.ensures.beside others (apart_first others c.args.first c.args.rest.now apart)) (WorksBeside-keeps s1 s2 others c.change.ensures.reads.keeps) in
    WorksBeside-then a s2 s3 others one (WorksBeside-keeps s2 s3 others c.find.ensures.reads.keeps)

pub returns-in_err-take_steps-2-clause-beside : goal.returns-in_err-take_steps-2-clause-beside
returns-in_err-take_steps-2-clause-beside g c = λ others apart.
    let a = g.V.Volume.state c.args.volume.now in
    let s1 = g.V.Volume.state c.take_steps.new.volume in
    let s2 = g.V.Volume.state c.change.new.volume in
    let s3 = g.V.Volume.state c.find.new.volume in
    let one = WorksBeside-then a s1 s2 others (c.take_steps.ensures.beside others (apart_first others c.args.first c.args.rest.now apart)) (WorksBeside-keeps s1 s2 others c.change.ensures.reads.keeps) in
    let two = WorksBeside-then a s2 s3 others one (WorksBeside-keeps s2 s3 others c.find.ensures.reads.keeps) in
    WorksBeside-then a s3 (g.V.Volume.state c.take_steps-2.new.volume) others two (c.take_steps-2.ensures.beside others (apart_later others c.args.first c.args.rest.now apart))

pub returns-clause-beside : goal.returns-clause-beside
returns-clause-beside g c = λ others apart.
    let a = g.V.Volume.state c.args.volume.now in
    let s1 = g.V.Volume.state c.take_steps.new.volume in
    let s2 = g.V.Volume.state c.change.new.volume in
    let s3 = g.V.Volume.state c.find.new.volume in
    let one = WorksBeside-then a s1 s2 others (c.take_steps.ensures.beside others (apart_first others c.args.first c.args.rest.now apart)) (WorksBeside-keeps s1 s2 others c.change.ensures.reads.keeps) in
    let two = WorksBeside-then a s2 s3 others one (WorksBeside-keeps s2 s3 others c.find.ensures.reads.keeps) in
    WorksBeside-then a s3 (g.V.Volume.state c.take_steps-2.new.volume) others two (c.take_steps-2.ensures.beside others (apart_later others c.args.first c.args.rest.now apart))

pub returns-clause-put : goal.returns-clause-put
returns-clause-put g c = λ row begun kept given h apart.
    let s2 = g.V.Volume.state c.change.new.volume in
    let s3 = g.V.Volume.state c.find.new.volume in
    let leaf = c.args.leaf in
    let first = c.args.first in
    let rest = c.args.rest.now in
    let f = c.take_steps.new.index.geometry.fanout in
    let shape = c.places_are_kept.ensures.shape in
    let law = c.an_insertion_goes_by_the_keys_of_branches.ensures in
    let t1 = c.in_ok-take_steps.ensures.taken row begun kept given h (apart_first (given ++ kept) first rest apart) in
    let made = changed_row f (Insert leaf) t1.now in
    let ch = (c.in_ok-change.ensures.running kept t1.since begun t1.now t1.running).0 in
    let fd = KeepsRunning-read s2 s3 c.change.new.self c.find.new.self c.find.ensures.reads.keeps c.find.ensures.reads.shape c.find.ensures.kept c.find.ensures.nodes kept t1.since begun made ch in
    let t2 = c.in_ok-take_steps-2.ensures.taken made begun kept t1.since fd (apart_since (first ∷ []) given kept t1.since rest t1.among (first_apart first rest c.requires.volume.1.1) (apart_later (given ++ kept) first rest apart)) in
    let leaves : AreKeysBounded 0 None row → contents (bare made) ≡ placed leaf (contents (bare row)) = λ bounded. law.contents f leaf 0 None t1.now (bounded_kept 0 None row t1.now t1.places bounded) ∙ ap (λ (s : Shape). placed leaf (contents s)) (shape row t1.now t1.places) in
    let P : List Leaf → Type 0 = λ xs. c.in_ok-found.found ≡ slice_get (of_rank (leaf_rank leaf) xs) 0 in (
      record {
        now = t2.now;
        since = t2.since;
        among = given_both (first ∷ []) rest given t1.since t2.since t1.among t2.among;
        leaves = λ bounded. ap contents (shape made t2.now t2.places) ∙ leaves bounded;
        first = λ bounded. subst P (leaves bounded) (c.in_ok-found.ensures.found made ch.shown);
      },
      t2.running,
    )

pub change-requires-clause-shown : goal.change-requires-clause-shown
change-requires-clause-shown g c =
    let own = c.requires.running in
    let t1 = c.in_ok-take_steps.ensures.taken own.0 own.1 own.2 own.3 own.4 (apart_first (own.3 ++ own.2) c.args.first c.args.rest.now own.5) in
    (t1.now, t1.running.shown)

pub find-requires : goal.find-requires
find-requires g c =
    let own = c.requires.running in
    let t1 = c.in_ok-take_steps.ensures.taken own.0 own.1 own.2 own.3 own.4 (apart_first (own.3 ++ own.2) c.args.first c.args.rest.now own.5) in
    let ch = (c.in_ok-change.ensures.running own.2 t1.since own.1 t1.now t1.running).0 in
    record { shown = (changed_row c.take_steps.new.index.geometry.fanout (Insert c.args.leaf) t1.now, ch.shown) }

pub take_steps-requires-2-clause-running : goal.take_steps-requires-2-clause-running
take_steps-requires-2-clause-running g c =
    let own = c.requires.running in
    let s2 = g.V.Volume.state c.change.new.volume in
    let s3 = g.V.Volume.state c.find.new.volume in
    let first = c.args.first in
    let rest = c.args.rest.now in
    let t1 = c.in_ok-take_steps.ensures.taken own.0 own.1 own.2 own.3 own.4 (apart_first (own.3 ++ own.2) first rest own.5) in
    let made = changed_row c.take_steps.new.index.geometry.fanout (Insert c.args.leaf) t1.now in
    let ch = (c.in_ok-change.ensures.running own.2 t1.since own.1 t1.now t1.running).0 in
    let fd = KeepsRunning-read s2 s3 c.change.new.self c.find.new.self c.find.ensures.reads.keeps c.find.ensures.reads.shape c.find.ensures.kept c.find.ensures.nodes own.2 t1.since own.1 made ch in
    (made, own.1, own.2, t1.since, fd, apart_since (first ∷ []) own.3 own.2 t1.since rest t1.among (first_apart first rest c.requires.volume.1.1) (apart_later (own.3 ++ own.2) first rest own.5))
