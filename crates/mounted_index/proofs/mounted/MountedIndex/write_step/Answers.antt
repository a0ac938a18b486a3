use Rattle.std.proofs.Common.{ℕ, inl, inr, refl}
use Rattle.ubifs_base.specs.Geometry.{index_node_len}
use Rattle.ubifs_base.specs.RawOf.{raw_of}
use Rattle.index_cache.specs.Paged.{frozen_of}
use Rattle.index_commit.specs.Rooms.{Room, room_in}
use Rattle.mounted_index.proofs.Running.{IsLebTaken, frozen_places, never_alone, order_kept, step_refused, step_some, step_text, stepped}
use Rattle.mounted_index.proofs.mounted.MountedIndex.write_step.Goals as goal

pub returns-in-OnMedium : goal.returns-in-OnMedium
returns-in-OnMedium g c = absurd (never_alone c.args.self.now.nodes c.in-OnMedium.field-0 c.in-OnMedium.is c.requires.some)

pub returns-else-dirty_nodes-gt-MOST_NODES-clause-step : goal.returns-else-dirty_nodes-gt-MOST_NODES-clause-step
returns-else-dirty_nodes-gt-MOST_NODES-clause-step g c = λ row begun kept given h apart.
    let a = g.V.Volume.state c.args.volume.now in
    let b = g.V.Volume.state c.write_next_leb.new.volume in
    let self = c.args.self.now in
    let geo = raw_of self.geometry in
    let lnum = c.args.lnum in
    let i = c.args.sqnum.now in
    let j = c.write_next_leb.new.sqnum in
    let index = c.in-InMemory.index in
    let final = c.write_next_leb.new.index in
    let w = c.write_next_leb.ensures in
    let result = c.write_next_leb.result in
    let room : ℕ → Room = room_in lnum (index_node_len geo) 0 in
    let leb : IsLebTaken geo a b lnum i j index final room result = record { taken = w.index; standing = w.standing; works = w.works.0; some = step_some geo lnum i j index final result w.done; same = w.answer.4; full = w.answer.1 } in (
      stepped {room = room} c.places_are_kept.ensures.both geo a b lnum i j kept given begun self row index final c.forget.new.self result c.in-InMemory.is w.answer.0.shape c.requires.volume.1 leb (c.forget.ensures.kept a.holds b.holds (λ k other. (w.works.0.others k (λ one. elim one [ inl e ↦ other e | inr none ↦ none ])).holds) h.shown.kept) h apart,
      (λ two. w.answer.3 (c.changes_keep_keys_apart.ensures.in_order (frozen_of index) c.trees_are_sound.ensures.frozen.keys (c.changes_keep_keys_apart.ensures.places begun (frozen_of index) (frozen_places a kept given begun self row index c.in-InMemory.is h) two))),
      λ order. w.answer.3 (order_kept begun (frozen_of index) (frozen_places a kept given begun self row index c.in-InMemory.is h) order),
    )

pub returns-then-dirty_nodes-gt-MOST_NODES-clause-step : goal.returns-then-dirty_nodes-gt-MOST_NODES-clause-step
returns-then-dirty_nodes-gt-MOST_NODES-clause-step g c = λ row begun kept given h apart.
    let a = g.V.Volume.state c.args.volume.now in
    (step_refused c.places_are_kept.ensures.none a c.args.lnum kept given begun c.args.self.now row c.in-InMemory.index c.forget.new.self c.in-InMemory.is c.requires.volume.1 (c.forget.ensures.kept a.holds a.holds (λ k other. refl) h.shown.kept) h, (λ two. tt), λ order. tt)

pub returns-else-dirty_nodes-gt-MOST_NODES-clause-written : goal.returns-else-dirty_nodes-gt-MOST_NODES-clause-written
returns-else-dirty_nodes-gt-MOST_NODES-clause-written g c =
    let a = g.V.Volume.state c.args.volume.now in
    let b = g.V.Volume.state c.write_next_leb.new.volume in
    let geo = raw_of c.args.self.now.geometry in
    let lnum = c.args.lnum in
    let i = c.args.sqnum.now in
    let j = c.write_next_leb.new.sqnum in
    let index = c.in-InMemory.index in
    let final = c.write_next_leb.new.index in
    let w = c.write_next_leb.ensures in
    let result = c.write_next_leb.result in
    let room : ℕ → Room = room_in lnum (index_node_len geo) 0 in
    let leb : IsLebTaken geo a b lnum i j index final room result = record { taken = w.index; standing = w.standing; works = w.works.0; some = step_some geo lnum i j index final result w.done; same = w.answer.4; full = w.answer.1 } in
    step_text {room = room} geo a b lnum i j index final result leb w.works.1 w.done
