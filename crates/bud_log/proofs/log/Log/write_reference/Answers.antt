use Rattle.std.proofs.Common.{◌≡◌, ◌≤◌, ◌+◌, ◌%◌, ℕ, false, List, [], length, ap, sym, ◌∙◌, subst, arith}
use Rattle.std.specs.Prelude.{◌≢◌}
use Rattle.ubifs_base.specs.GeometryLaws.{min_io-mod}
use Rattle.ubifs_base.specs.RawOf.{raw_of}
use Rattle.media_sys.specs.SystemNode.{reference}
use Rattle.bud_log.specs.Buds.{named_also}
use Rattle.bud_log.specs.KeepsOnLaws.{on_ok}
use Rattle.bud_log.specs.Log.{IsLogLeb, next_leb}
use Rattle.bud_log.specs.LogAnswers.{StartsWith}
use Rattle.bud_log.specs.LogAt.{LogAt, padded_room_of, lnum_at, offs_at}
use Rattle.bud_log.specs.LogCalls.{IsAdded, AddDuring}
use Rattle.bud_log.specs.LogText.{IsNoLoneStart}
use Rattle.bud_log.specs.Writing.{IsLogReady}
use Rattle.bud_log.specs.declared.head_at.HeadAt.{HeadAt}
use Rattle.bud_log.proofs.Opened.{added_ready}
use Rattle.bud_log.proofs.Sections.{added_section}
use Rattle.bud_log.proofs.Spelled.{mod_through, fits_leb, fits_there}
use Rattle.bud_log.proofs.log.Log.write_reference.Goals as goal

pub lay_reference-requires-clause-even : goal.lay_reference-requires-clause-even
lay_reference-requires-clause-even g c =
    let geo = c.self.inside.geometry in
    let P : ℕ → Type 0 = λ n. n % 8 ≡ 0 in
    subst P (sym c.split_at_mut-bytes.ensures.front_len) (mod_through c.room_for-room.result geo.min_io 8 c.room_for-room.ensures.whole (min_io-mod (raw_of geo) geo.in_range))

pub returns-clause-done : goal.returns-clause-done
returns-clause-done g c =
    let a = g.V.Volume.state c.args.volume.now in
    let b = g.V.Volume.state c.add.new.volume in
    let at = c.args.self.now in
    let here = c.args.here in
    let number = c.args.number in
    let geo = c.self.inside.geometry in
    let bytes = c.lay_reference.new.bytes in
    let room = c.room_for-room.result in
    let M : LogAt → Type 0 = λ z. z.geo.min_io % 8 ≡ 0 in
    let even = subst M c.self.view_is (min_io-mod (raw_of geo) geo.in_range) in
    let size : length bytes ≡ room = c.lay_reference.auto.bytes ∙ c.split_at_mut-bytes.ensures.front_len in
    let is : room ≡ padded_room_of at.geo.min_io 64 = c.room_for-room.ensures.room ∙ ap (λ (z : LogAt). padded_room_of z.geo.min_io 64) c.self.view_is in
    let L : LogAt → Type 0 = λ z. room ≤ z.geo.leb_size in
    let short = subst L c.self.view_is (fits_leb (raw_of geo) room 64 geo.in_range (omega arith) c.room_for-room.ensures.high) in
    let there = fits_there here at room c.requires.here is short in
    let leb_size = c.requires.at.leb_size in
    let high = c.requires.at.here.high in
    let lebs = c.requires.at.lebs in
    let B : Type 0 = (from : ℕ) (buds : List HeadAt) → IsLogLeb at.geo from → (here ≡ false → next_leb at.geo at.lnum ≢ from) → IsLogReady a at.geo from at.lnum at.offs number buds
    → IsLogReady b at.geo from (lnum_at here at) (offs_at here at + padded_room_of at.geo.min_io 64) (number + 1) (named_also buds c.args.node.now) in
    on_ok c.add.result (IsAdded here a b at bytes) B
    (λ w from buds f free h.
    let Q : ℕ → Type 0 = λ n. IsLogReady b at.geo from (lnum_at here at) (offs_at here at + n) (number + 1) (named_also buds c.args.node.now) in
    subst Q (size ∙ is) (added_ready here a b at from number (number + 1) buds (reference c.args.node.now) [] bytes h f (λ e. sym c.requires.here ∙ e) free (omega arith) (g.met.V.Volume.mapped_now c.args.volume.now) w c.add.ensures.works c.lay_reference.ensures
    (g.met.V.Volume.leb_len c.args.volume.now at.lnum (omega (arith, high, lebs))) (omega (arith, there, size, leb_size)) (mod_through at.offs at.geo.min_io 8 c.requires.at.unit even)))
    c.add.ensures.done

pub returns-clause-section : goal.returns-clause-section
returns-clause-section g c =
    let a = g.V.Volume.state c.args.volume.now in
    let b = g.V.Volume.state c.add.new.volume in
    let at = c.args.self.now in
    let here = c.args.here in
    let number = c.args.number in
    let geo = c.self.inside.geometry in
    let bytes = c.lay_reference.new.bytes in
    let room = c.room_for-room.result in
    let M : LogAt → Type 0 = λ z. z.geo.min_io % 8 ≡ 0 in
    let even = subst M c.self.view_is (min_io-mod (raw_of geo) geo.in_range) in
    let size : length bytes ≡ room = c.lay_reference.auto.bytes ∙ c.split_at_mut-bytes.ensures.front_len in
    let is : room ≡ padded_room_of at.geo.min_io 64 = c.room_for-room.ensures.room ∙ ap (λ (z : LogAt). padded_room_of z.geo.min_io 64) c.self.view_is in
    let L : LogAt → Type 0 = λ z. room ≤ z.geo.leb_size in
    let short = subst L c.self.view_is (fits_leb (raw_of geo) room 64 geo.in_range (omega arith) c.room_for-room.ensures.high) in
    let there = fits_there here at room c.requires.here is short in
    let leb_size = c.requires.at.leb_size in
    let high = c.requires.at.here.high in
    let lebs = c.requires.at.lebs in
    let B : Type 0 = (from known low : ℕ) (buds : List HeadAt) → IsLogLeb at.geo from → (here ≡ false → next_leb at.geo at.lnum ≢ from) → IsLogReady a at.geo from at.lnum at.offs known buds → StartsWith (a.holds from) from low
    → StartsWith (b.holds from) from low × IsNoLoneStart (b.holds (lnum_at here at)) (lnum_at here at) in
    on_ok c.add.result (IsAdded here a b at bytes) B
    (λ w from known low buds f free h starts.
    let past = f.high in
    added_section c.one_text.ensures here a b at from known number low buds c.args.node.now bytes (AddDuring here a at (length bytes)) h (g.met.V.Volume.leb_bytes c.args.volume.now from (omega (arith, past, lebs))) (λ e. sym c.requires.here ∙ e) free w c.add.ensures.works c.lay_reference.ensures
    (g.met.V.Volume.leb_len c.args.volume.now at.lnum (omega (arith, high, lebs))) (omega (arith, there, size, leb_size)) (mod_through at.offs at.geo.min_io 8 c.requires.at.unit even) starts)
    c.add.ensures.done
