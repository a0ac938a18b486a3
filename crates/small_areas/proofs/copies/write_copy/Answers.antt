use Rattle.std.proofs.Common.{◌≡◌, ◌%◌, ℕ, List, IfSome, IfNone, ap, sym, ◌∙◌, subst}
use Rattle.ubifs_base.specs.NodeLaws.{IsBytes}
use Rattle.small_areas.specs.Copies.{copy_of, IsPlace, HasNoPlace, IsCopied, CopyUnderWay}
use Rattle.small_areas.specs.Puts.{IsPut, PutUnderWay}
use Rattle.small_areas.proofs.ByteLists.{copied_bytes}
use Rattle.small_areas.proofs.CopyRuns.{on_ok, works_after, put_copying, put_copied}
use Rattle.small_areas.proofs.Rooms.{place_starts}
use Rattle.small_areas.proofs.copies.write_copy.Goals as goal

pub put_copy-requires-clause-starts : goal.put_copy-requires-clause-starts
put_copy-requires-clause-starts g c =
    let P : ℕ → Type 0 = λ unit. c.args.room % unit ≡ 0 in
    place_starts c.read_leb.new.out c.args.room (g.V.Volume.state c.read_leb.new.volume).min_io c.next_place-place.result (subst P (sym c.read_leb.ensures.shape.min_io) c.requires.units) c.next_place-place.ensures.some

pub returns-clause-done : goal.returns-clause-done
returns-clause-done g c =
    let a = g.V.Volume.state c.args.volume.now in
    let b = g.V.Volume.state c.read_leb.new.volume in
    let e = g.V.Volume.state c.put_copy.new.volume in
    let lnum = c.args.lnum in
    let room = c.args.room in
    let place = c.next_place-place.result in
    let copy : List ℕ = copy_of room c.args.node.now in
    let spelled : c.lay_copy.new.copy ≡ copy = c.lay_copy.ensures.copy ∙ ap (λ (n : ℕ). copy_of n c.args.node.now) c.split_at_mut-copy.ensures.front_len in
    let S : List ℕ → Type 0 = λ leb. IfSome place (IsPlace leb room) in
    let N : List ℕ → Type 0 = λ leb. IfNone place (HasNoPlace leb room) in
    let B : List ℕ → Type 0 = λ bytes. IsBytes bytes in
    let is = subst S c.in_ok-read_leb.ensures.read c.next_place-place.ensures.some in
    let none = subst N c.in_ok-read_leb.ensures.read c.next_place-place.ensures.none in
    let fits = subst B c.in_ok-read_leb.ensures.read c.next_place-place.ensures.bytes in
    let P : List ℕ → Type 0 = λ bytes. IsPut b e lnum bytes place in
    on_ok c.put_copy.result (IsPut b e lnum c.lay_copy.new.copy place) (IsCopied a e lnum room copy)
    (λ h. put_copied a b e lnum room copy place c.read_leb.ensures.keeps c.read_leb.ensures.shape.leb_size is none (subst P spelled h)) c.put_copy.ensures.done

pub returns-clause-bytes : goal.returns-clause-bytes
returns-clause-bytes g c =
    let a = g.V.Volume.state c.args.volume.now in
    let b = g.V.Volume.state c.read_leb.new.volume in
    let e = g.V.Volume.state c.put_copy.new.volume in
    let lnum = c.args.lnum in
    let room = c.args.room in
    let place = c.next_place-place.result in
    let copy : List ℕ = copy_of room c.args.node.now in
    let spelled : c.lay_copy.new.copy ≡ copy = c.lay_copy.ensures.copy ∙ ap (λ (n : ℕ). copy_of n c.args.node.now) c.split_at_mut-copy.ensures.front_len in
    let S : List ℕ → Type 0 = λ leb. IfSome place (IsPlace leb room) in
    let N : List ℕ → Type 0 = λ leb. IfNone place (HasNoPlace leb room) in
    let B : List ℕ → Type 0 = λ bytes. IsBytes bytes in
    let is = subst S c.in_ok-read_leb.ensures.read c.next_place-place.ensures.some in
    let none = subst N c.in_ok-read_leb.ensures.read c.next_place-place.ensures.none in
    let fits = subst B c.in_ok-read_leb.ensures.read c.next_place-place.ensures.bytes in
    let P : List ℕ → Type 0 = λ bytes. IsPut b e lnum bytes place in
    on_ok c.put_copy.result (IsPut b e lnum c.lay_copy.new.copy place) (IsBytes (e.holds lnum))
    (λ h. copied_bytes a e lnum room copy fits (subst B spelled c.lay_copy.ensures.bytes) (put_copied a b e lnum room copy place c.read_leb.ensures.keeps c.read_leb.ensures.shape.leb_size is none (subst P spelled h))) c.put_copy.ensures.done

pub returns-clause-works : goal.returns-clause-works
returns-clause-works g c =
    let a = g.V.Volume.state c.args.volume.now in
    let b = g.V.Volume.state c.read_leb.new.volume in
    let e = g.V.Volume.state c.put_copy.new.volume in
    let lnum = c.args.lnum in
    let room = c.args.room in
    let place = c.next_place-place.result in
    let copy : List ℕ = copy_of room c.args.node.now in
    let spelled : c.lay_copy.new.copy ≡ copy = c.lay_copy.ensures.copy ∙ ap (λ (n : ℕ). copy_of n c.args.node.now) c.split_at_mut-copy.ensures.front_len in
    let S : List ℕ → Type 0 = λ leb. IfSome place (IsPlace leb room) in
    let N : List ℕ → Type 0 = λ leb. IfNone place (HasNoPlace leb room) in
    let B : List ℕ → Type 0 = λ bytes. IsBytes bytes in
    let is = subst S c.in_ok-read_leb.ensures.read c.next_place-place.ensures.some in
    let none = subst N c.in_ok-read_leb.ensures.read c.next_place-place.ensures.none in
    let fits = subst B c.in_ok-read_leb.ensures.read c.next_place-place.ensures.bytes in
    works_after a b e lnum (PutUnderWay b lnum c.lay_copy.new.copy place) (CopyUnderWay a lnum room copy)
    (λ x h. let P : List ℕ → Type 0 = λ bytes. PutUnderWay b lnum bytes place x in put_copying a b lnum room copy place c.read_leb.ensures.keeps c.read_leb.ensures.shape.leb_size fits is none x (subst P spelled h))
    c.read_leb.ensures.keeps c.put_copy.ensures.works
