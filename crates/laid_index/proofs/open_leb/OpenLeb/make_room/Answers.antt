use Rattle.std.proofs.Common.{◌+◌, ◌<◌, ◌≤◌, [], ◌∷◌, length, arith, inl, inr}
use Rattle.std.proofs.lemmas.Bool.{cases_order}
use Rattle.ubifs_base.specs.RawOf.{raw_of}
use Rattle.laid_index.specs.Opened.{IsClosed, MakesRoom, open_lnum, taken_after}
use Rattle.laid_index.proofs.Answering.{answered_wider}
use Rattle.laid_index.proofs.Making.{next_among, on_ok, open_among}
use Rattle.laid_index.proofs.Opening.{room_already, room_next}
use Rattle.laid_index.proofs.open_leb.OpenLeb.make_room.Goals as goal

pub returns-then-len-geometry-clause-makes : goal.returns-then-len-geometry-clause-makes
returns-then-len-geometry-clause-makes g c =
    let geo = raw_of c.args.geometry.now in
    let room = c.requires.ready.room in
    let among = open_among geo (c.args.len ∷ []) c.args.self.now in
    room_already geo c.args.len c.args.self.now (g.V.Volume.state c.args.volume.now).holds c.requires.ready.is_open (omega arith) (omega (arith, room, among))

pub close-requires-clause-lnum : goal.close-requires-clause-lnum
close-requires-clause-lnum g c =
    let room = c.requires.ready.room in
    let among = open_among (raw_of c.args.geometry.now) (c.args.len ∷ []) c.args.self.now in
    omega (arith, room, among)

pub returns-clause-makes : goal.returns-clause-makes
returns-clause-makes g c =
    let geo = raw_of c.args.geometry.now in
    let old = c.args.self.now in
    let new = c.close.new.self in
    let was = g.V.Volume.state c.args.volume.now in
    let now = g.V.Volume.state c.close.new.volume in
    let size = c.args.geometry.now.in_range.leb_size.0 in
    let most = c.requires.most in
    let room = c.requires.ready.room in
    let fits : c.args.len ≤ geo.leb_size = omega (arith, size, most) in
    let over : geo.leb_size < length old.bytes.items + c.args.len = omega arith in
    let among = next_among geo c.args.len old over fits in
    on_ok c.close.result (IsClosed geo old new now.holds) (MakesRoom geo c.args.len old was.holds new now.holds)
    (λ shut. room_next geo c.args.len old new was.holds now.holds c.requires.ready.is_open (omega (arith, over, size, most)) shut
    (λ k ne. (c.close.ensures.answer.others k (elim (cases_order k (open_lnum old)) [
      | inl same ↦ absurd (ne same)
      | inr apart ↦ elim apart [ inl lt ↦ inl lt | inr gt ↦ inr (omega (arith, gt)) ]
    ])).holds) over fits (omega (arith, room, among)))
    c.close.ensures.closed

pub returns-clause-answer : goal.returns-clause-answer
returns-clause-answer g c =
    let geo = raw_of c.args.geometry.now in
    let old = c.args.self.now in
    let among = open_among geo (c.args.len ∷ []) old in
    answered_wider (open_lnum old) (open_lnum old + 1) old.first (old.first + length (taken_after geo old (c.args.len ∷ []))) (g.V.Volume.state c.args.volume.now) (g.V.Volume.state c.close.new.volume)
    c.close.result (omega arith) among c.close.ensures.answer
