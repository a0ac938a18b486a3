use Rattle.std.proofs.Common.{◌≡◌, ◌≤◌, ◌++◌, ◌∷◌, ℕ, length, ap, sym, ◌∙◌, subst, arith}
use Rattle.ubifs_base.specs.RawOf.{raw_of}
use Rattle.index_media.specs.KeyedRow.{KeyedRow}
use Rattle.node_table.specs.Placing.{KeepsPlaces}
use Rattle.std.specs.Prelude.{OnOk}
use Rattle.ubi_volume.specs.Volume.{AreUnits, filled}
use Rattle.index_cache.specs.Paged.{frozen_of}
use Rattle.commit_steps.specs.UnderWayLaws.{WorksBeside-none, WorksBeside-step, WorksBeside-then}
use Rattle.commit_steps.proofs.Steps.{apart_now, geometry_then, given_at_first, given_since, on_ok_more, step_done, step_lebs, step_stands}
use Rattle.index_commit.specs.Rooms.{Room, room_in}
use Rattle.ubifs_base.specs.Geometry.{index_node_len}
use Rattle.commit_steps.proofs.client.+take_steps.Goals as goal

pub returns-then-is_none-clause-done : goal.returns-then-is_none-clause-done
returns-then-is_none-clause-done g t c = λ kept given apart way. (given, given_at_first c.args.lebs.now given, way)

pub returns-then-is_none-clause-beside : goal.returns-then-is_none-clause-beside
returns-then-is_none-clause-beside g t c = λ others apart. WorksBeside-none (g.V.Volume.state c.args.volume.now) others

pub returns-in_default-clause-beside : goal.returns-in_default-clause-beside
returns-in_default-clause-beside g t c = λ others apart. WorksBeside-none (g.V.Volume.state c.args.volume.now) others

pub returns-in_err-write_next_leb-clause-beside : goal.returns-in_err-write_next_leb-clause-beside
returns-in_err-write_next_leb-clause-beside g t c = λ others apart.
    let now = apart_now others c.args.bud c.in-Some.lnum.now c.in-Some.rest.now c.args.lebs.now c.in-Some.ensures.cases.0 apart in
    WorksBeside-step (g.V.Volume.state c.args.volume.now) (g.V.Volume.state c.write_next_leb.new.volume) c.in-Some.lnum.now others now.step c.write_next_leb.ensures.works.0

pub returns-in_err-put_leaf-clause-beside : goal.returns-in_err-put_leaf-clause-beside
returns-in_err-put_leaf-clause-beside g t c = λ others apart.
    let a = g.V.Volume.state c.args.volume.now in
    let b = g.V.Volume.state c.write_next_leb.new.volume in
    let now = apart_now others c.args.bud c.in-Some.lnum.now c.in-Some.rest.now c.args.lebs.now c.in-Some.ensures.cases.0 apart in
    WorksBeside-then a b (g.V.Volume.state c.put_leaf.new.volume) others (WorksBeside-step a b c.in-Some.lnum.now others now.step c.write_next_leb.ensures.works.0) (c.put_leaf.ensures.beside others now.put)

pub returns-clause-beside : goal.returns-clause-beside
returns-clause-beside g t c = λ others apart.
    let a = g.V.Volume.state c.args.volume.now in
    let b = g.V.Volume.state c.write_next_leb.new.volume in
    let d = g.V.Volume.state c.put_leaf.new.volume in
    let now = apart_now others c.args.bud c.in-Some.lnum.now c.in-Some.rest.now c.args.lebs.now c.in-Some.ensures.cases.0 apart in
    let put = WorksBeside-then a b d others (WorksBeside-step a b c.in-Some.lnum.now others now.step c.write_next_leb.ensures.works.0) (c.put_leaf.ensures.beside others now.put) in
    WorksBeside-then a d (g.V.Volume.state c.take_steps.new.volume) others put (c.take_steps.ensures.beside others now.later)

pub put_leaf-requires-clause-stands : goal.put_leaf-requires-clause-stands
put_leaf-requires-clause-stands g t c =
    let a = g.V.Volume.state c.args.volume.now in
    let b = g.V.Volume.state c.write_next_leb.new.volume in
    let geo = raw_of c.args.geometry.now in
    let lnum = c.in-Some.lnum.now in
    let old = c.args.index.now in
    let new = c.write_next_leb.new.index in
    let way = c.requires.way in
    let taken = c.write_next_leb.ensures.index in
    let done = c.in_ok-write_next_leb.ensures in
    let some = done.done.0.some in
    let room : ℕ → Room = room_in lnum (index_node_len geo) 0 in
    let step = step_done {room = room} geo a b way.0 way.1 c.args.bud lnum c.args.sqnum.now c.write_next_leb.new.sqnum c.in-Some.rest.now c.args.lebs.now old new c.in-Some.ensures.cases.0 c.requires.lebs taken (omega (arith, some)) (done.standing tt)
    c.write_next_leb.ensures.works.0 way.2 way.3 in
    step_stands a b ((lnum ∷ way.1) ++ way.0) old new c.write_next_leb.ensures.answer.0.shape taken.kept step.way.seen c.requires.stands

pub take_steps-requires : goal.take_steps-requires
take_steps-requires g t c κs within =
    let a = g.V.Volume.state c.args.volume.now in
    let b = g.V.Volume.state c.write_next_leb.new.volume in
    let d = g.V.Volume.state c.put_leaf.new.volume in
    let geo = c.args.geometry.now in
    let lnum = c.in-Some.lnum.now in
    let rest = c.in-Some.rest.now in
    let is = c.in-Some.ensures.cases.0 in
    let long = ap length is in
    let first = c.write_next_leb.ensures.answer.0.shape in
    let second = c.put_leaf.ensures.shape in
    let taken = c.write_next_leb.ensures.index in
    let most = taken.most in
    let one = c.put_leaf.ensures.number in
    let dirty = ap length c.put_leaf.ensures.nodes.1 in
    let number = c.requires.number in
    let count : d.leb_cnt ≡ a.leb_cnt = second.leb_cnt ∙ first.leb_cnt in
    let way = c.requires.way in
    let done = c.in_ok-write_next_leb.ensures in
    let some = done.done.0.some in
    let room : ℕ → Room = room_in lnum (index_node_len (raw_of geo)) 0 in
    let step = step_done {room = room} (raw_of geo) a b way.0 way.1 c.args.bud lnum c.args.sqnum.now c.write_next_leb.new.sqnum rest c.args.lebs.now c.args.index.now c.write_next_leb.new.index is c.requires.lebs taken (omega (arith, some)) (done.standing tt)
    c.write_next_leb.ensures.works.0 way.2 way.3 in
    let put = c.in_ok-put_leaf.ensures.kept way.0 (lnum ∷ way.1) step.put step.way in
    let stands = c.in_ok-put_leaf.ensures.stands ((lnum ∷ way.1) ++ way.0) step.put step.way.seen in
    let S : ℕ → Type 0 = λ n. length c.args.node.now ≤ n in
    let U : ℕ → Type 0 = λ n. AreUnits n 0 (length c.args.node.now) in (
      omega (arith, long, c.decreases),
      (
        within,
        (
          geometry_then (raw_of geo) b d second (geometry_then (raw_of geo) a b first c.requires.geometry),
          (
            c.put_leaf.ensures.nodes.2 ∙ taken.kept.roots.fanout ∙ c.requires.fanout,
            (
              (step_lebs a.leb_cnt d.leb_cnt c.args.bud lnum rest c.args.lebs.now count is c.requires.lebs).then,
              (
                subst S (sym (second.leb_size ∙ first.leb_size)) c.requires.range,
                (subst U (sym (second.min_io ∙ first.min_io)) c.requires.units, (c.requires.key, (omega (arith, long, most, one, dirty, number), (stands, (way.0, lnum ∷ way.1, step.later, put))))),
              ),
            ),
          ),
        ),
      ),
    )

pub returns-clause-done : goal.returns-clause-done
returns-clause-done g t c = λ kept given apart way.
    let a = g.V.Volume.state c.args.volume.now in
    let b = g.V.Volume.state c.write_next_leb.new.volume in
    let geo = raw_of c.args.geometry.now in
    let lnum = c.in-Some.lnum.now in
    let rest = c.in-Some.rest.now in
    let is = c.in-Some.ensures.cases.0 in
    let done = c.in_ok-write_next_leb.ensures in
    let some = done.done.0.some in
    let room : ℕ → Room = room_in lnum (index_node_len geo) 0 in
    let step = step_done {room = room} geo a b kept given c.args.bud lnum c.args.sqnum.now c.write_next_leb.new.sqnum rest c.args.lebs.now c.args.index.now c.write_next_leb.new.index is c.requires.lebs c.write_next_leb.ensures.index
    (omega (arith, some)) (done.standing tt) c.write_next_leb.ensures.works.0 apart way in
    let put = c.in_ok-put_leaf.ensures.kept kept (lnum ∷ given) step.put step.way in
    on_ok_more c.take_steps.result (λ way. (way.0, given_since lnum rest c.args.lebs.now given way.0 is way.1, way.2)) (c.take_steps.ensures.done kept (lnum ∷ given) step.later put)

pub returns-in_err-put_leaf-clause-frozen : goal.returns-in_err-put_leaf-clause-frozen
returns-in_err-put_leaf-clause-frozen g t c =
    let K : KeyedRow → Type 0 = λ r. KeepsPlaces (frozen_of c.args.index.now) r in
    subst K (sym c.put_leaf.ensures.nodes.0) c.write_next_leb.ensures.index.kept.frozen

pub returns-clause-frozen : goal.returns-clause-frozen
returns-clause-frozen g t c =
    let K : KeyedRow → Type 0 = λ r. KeepsPlaces (frozen_of c.args.index.now) r in
    c.places_are_kept.ensures.both (frozen_of c.args.index.now) (frozen_of c.put_leaf.new.index) (frozen_of c.take_steps.new.index) (subst K (sym c.put_leaf.ensures.nodes.0) c.write_next_leb.ensures.index.kept.frozen)
    c.take_steps.ensures.frozen

pub returns-clause-written : goal.returns-clause-written
returns-clause-written g t c = λ _.
    let a = g.V.Volume.state c.args.volume.now in
    let b = g.V.Volume.state c.write_next_leb.new.volume in
    let d = g.V.Volume.state c.put_leaf.new.volume in
    let e = g.V.Volume.state c.take_steps.new.volume in
    let first = c.write_next_leb.ensures.answer.0.shape in
    let second = c.put_leaf.ensures.shape in
    let put : d.holds c.args.bud ≡ filled b.leb_size c.args.node.now = c.in_ok-put_leaf.ensures.written in
    let P : ℕ → Type 0 = λ n. OnOk c.take_steps.result (e.holds c.args.bud ≡ filled n c.args.node.now) in
    subst P (second.leb_size ∙ first.leb_size) (c.take_steps.ensures.written (put ∙ ap (λ n. filled n c.args.node.now) (sym second.leb_size)))
