use Rattle.std.proofs.Common.{◌≡◌, ◌+◌, ◌-◌, ◌*◌, ◌/◌, ◌≤◌, [], ℕ, length, take, ap, ◌∙◌, subst, arith, length-take-le}
use Rattle.std.specs.Prelude.{◌⊎◌}
use Rattle.ubifs_base.specs.Geometry.{index_nodes_per_leb}
use Rattle.ubifs_base.specs.RawOf.{raw_of}
use Rattle.index_cache.specs.Paged.{dirty_of}
use Rattle.index_commit.specs.Rooms.{room_in, whole_units}
use Rattle.index_commit.specs.Written.{IsIndexTaken}
use Rattle.index_commit.proofs.Lebs.{laid_all, laid_bytes, laid_most, leb_full, leb_more, leb_standing, leb_used}
use Rattle.index_commit.proofs.HeldLebs.{leb_text, leb_text_left}
use Rattle.index_commit.proofs.writing.write_leb.Goals as goal

pub returns-in_err-laid-clause-standing : goal.returns-in_err-laid-clause-standing
returns-in_err-laid-clause-standing g c =
    let laid = c.lay_nodes-laid in
    let room_is = c.index_node_len-room.ensures in
    let fits = laid.ensures.fits in
    let len = laid.ensures.len in
    λ failed. leb_standing (g.V.Volume.state c.args.volume.now) (g.V.Volume.state c.put_leb.new.volume) c.args.lnum c.index_node_len-room.result laid.new.used c.in_ok-end.end c.args.sqnum.now laid.new.sqnum
    c.args.index.now laid.new.index (take laid.new.used laid.new.leb) (omega (arith, room_is)) (length-take-le laid.new.used laid.new.leb (omega (arith, fits, len))) laid.ensures.laid c.in_ok-end.ensures.put

pub returns-clause-all : goal.returns-clause-all
returns-clause-all g c =
    let laid = c.lay_nodes-laid in
    let room = c.index_node_len-room.result in
    let room_is = c.index_node_len-room.ensures in
    let geo = c.args.geometry.now in
    let fits = laid.ensures.fits in
    let len = laid.ensures.len in
    let a = c.args.index.now in
    let b = laid.new.index in
    let each : length c.args.leb.now / room ≡ index_nodes_per_leb (raw_of geo) = ap (λ (n : ℕ). n / room) c.requires.whole ∙ ap (λ (n : ℕ). geo.leb_size / n) room_is in
    let P : ℕ → Type 0 = λ n. (dirty_of b ≡ []) ⊎ (length (dirty_of b) + n ≤ length (dirty_of a)) in
    subst P each (
    leb_full c.places_are_kept.ensures.fewer c.args.lnum room (length c.args.leb.now) laid.new.used c.args.sqnum.now laid.new.sqnum a b (take laid.new.used laid.new.leb) (omega (arith, room_is))
    (length-take-le laid.new.used laid.new.leb (omega (arith, fits, len))) laid.ensures.laid c.in_ok-laid.ensures.all
    )

pub returns-clause-end : goal.returns-clause-end
returns-clause-end g c =
    let laid = c.lay_nodes-laid in
    let room = c.index_node_len-room.result in
    let room_is = c.index_node_len-room.ensures in
    let geo = c.args.geometry.now in
    let fits = laid.ensures.fits in
    let len = laid.ensures.len in
    let fanout = geo.in_range.fanout.1 in
    let least = geo.in_range.leb_size.0 in
    let whole = c.requires.whole in
    c.in_ok-end.ensures.put.ended (
    leb_used c.args.lnum room (length c.args.leb.now) laid.new.used c.args.sqnum.now laid.new.sqnum c.args.index.now laid.new.index (take laid.new.used laid.new.leb) (omega (arith, room_is))
    (omega (arith, room_is, fanout, least, whole)) (length-take-le laid.new.used laid.new.leb (omega (arith, fits, len))) c.requires.some laid.ensures.laid c.in_ok-laid.ensures.all
    )

pub returns-clause-standing : goal.returns-clause-standing
returns-clause-standing g c =
    let laid = c.lay_nodes-laid in
    let room_is = c.index_node_len-room.ensures in
    let fits = laid.ensures.fits in
    let len = laid.ensures.len in
    λ done. leb_standing (g.V.Volume.state c.args.volume.now) (g.V.Volume.state c.put_leb.new.volume) c.args.lnum c.index_node_len-room.result laid.new.used c.in_ok-end.end c.args.sqnum.now laid.new.sqnum
    c.args.index.now laid.new.index (take laid.new.used laid.new.leb) (omega (arith, room_is)) (length-take-le laid.new.used laid.new.leb (omega (arith, fits, len))) laid.ensures.laid c.in_ok-end.ensures.put

pub returns-in_err-end-clause-most : goal.returns-in_err-end-clause-most
returns-in_err-end-clause-most g c =
    let laid = c.lay_nodes-laid in
    let room = c.index_node_len-room.result in
    let room_is = c.index_node_len-room.ensures in
    let geo = c.args.geometry.now in
    let fits = laid.ensures.fits in
    let len = laid.ensures.len in
    let each : length c.args.leb.now / room ≡ index_nodes_per_leb (raw_of geo) = ap (λ (n : ℕ). n / room) c.requires.whole ∙ ap (λ (n : ℕ). geo.leb_size / n) room_is in
    let P : ℕ → Type 0 = λ n. laid.new.sqnum ≤ c.args.sqnum.now + n in
    subst P each (
    laid_most c.args.lnum room (length c.args.leb.now) laid.new.used c.args.sqnum.now laid.new.sqnum c.args.index.now laid.new.index (take laid.new.used laid.new.leb) (omega (arith, room_is))
    (length-take-le laid.new.used laid.new.leb (omega (arith, fits, len))) (omega (arith, fits)) laid.ensures.laid
    )

pub returns-in_err-laid-clause-most : goal.returns-in_err-laid-clause-most
returns-in_err-laid-clause-most g c =
    let laid = c.lay_nodes-laid in
    let room = c.index_node_len-room.result in
    let room_is = c.index_node_len-room.ensures in
    let geo = c.args.geometry.now in
    let fits = laid.ensures.fits in
    let len = laid.ensures.len in
    let each : length c.args.leb.now / room ≡ index_nodes_per_leb (raw_of geo) = ap (λ (n : ℕ). n / room) c.requires.whole ∙ ap (λ (n : ℕ). geo.leb_size / n) room_is in
    let P : ℕ → Type 0 = λ n. laid.new.sqnum ≤ c.args.sqnum.now + n in
    subst P each (
    laid_most c.args.lnum room (length c.args.leb.now) laid.new.used c.args.sqnum.now laid.new.sqnum c.args.index.now laid.new.index (take laid.new.used laid.new.leb) (omega (arith, room_is))
    (length-take-le laid.new.used laid.new.leb (omega (arith, fits, len))) (omega (arith, fits)) laid.ensures.laid
    )

pub returns-in_err-laid-clause-index : goal.returns-in_err-laid-clause-index
returns-in_err-laid-clause-index g c =
    let laid = c.lay_nodes-laid in
    let P : ℕ → Type 0 = λ n. IsIndexTaken (room_in c.args.lnum n 0) c.args.index.now laid.new.index c.args.sqnum.now laid.new.sqnum in
    subst P c.index_node_len-room.ensures laid.ensures.laid.index

pub returns-clause-most : goal.returns-clause-most
returns-clause-most g c =
    let laid = c.lay_nodes-laid in
    let room = c.index_node_len-room.result in
    let room_is = c.index_node_len-room.ensures in
    let geo = c.args.geometry.now in
    let fits = laid.ensures.fits in
    let len = laid.ensures.len in
    let each : length c.args.leb.now / room ≡ index_nodes_per_leb (raw_of geo) = ap (λ (n : ℕ). n / room) c.requires.whole ∙ ap (λ (n : ℕ). geo.leb_size / n) room_is in
    let P : ℕ → Type 0 = λ n. laid.new.sqnum ≤ c.args.sqnum.now + n in
    subst P each (
    laid_most c.args.lnum room (length c.args.leb.now) laid.new.used c.args.sqnum.now laid.new.sqnum c.args.index.now laid.new.index (take laid.new.used laid.new.leb) (omega (arith, room_is))
    (length-take-le laid.new.used laid.new.leb (omega (arith, fits, len))) (omega (arith, fits)) laid.ensures.laid
    )

pub returns-clause-index : goal.returns-clause-index
returns-clause-index g c =
    let laid = c.lay_nodes-laid in
    let P : ℕ → Type 0 = λ n. IsIndexTaken (room_in c.args.lnum n 0) c.args.index.now laid.new.index c.args.sqnum.now laid.new.sqnum in
    subst P c.index_node_len-room.ensures laid.ensures.laid.index

pub returns-in_err-end-clause-index : goal.returns-in_err-end-clause-index
returns-in_err-end-clause-index g c =
    let laid = c.lay_nodes-laid in
    let P : ℕ → Type 0 = λ n. IsIndexTaken (room_in c.args.lnum n 0) c.args.index.now laid.new.index c.args.sqnum.now laid.new.sqnum in
    subst P c.index_node_len-room.ensures laid.ensures.laid.index

pub returns-clause-full : goal.returns-clause-full
returns-clause-full g c =
    let laid = c.lay_nodes-laid in
    let room = c.index_node_len-room.result in
    let room_is = c.index_node_len-room.ensures in
    let geo = c.args.geometry.now in
    let fits = laid.ensures.fits in
    let len = laid.ensures.len in
    let each : length c.args.leb.now / room ≡ index_nodes_per_leb (raw_of geo) = ap (λ (n : ℕ). n / room) c.requires.whole ∙ ap (λ (n : ℕ). geo.leb_size / n) room_is in
    let P : ℕ → Type 0 = λ n. (dirty_of laid.new.index ≡ []) ⊎ (laid.new.sqnum ≡ c.args.sqnum.now + n) in
    subst P each (
    laid_all c.args.lnum room (length c.args.leb.now) laid.new.used c.args.sqnum.now laid.new.sqnum c.args.index.now laid.new.index (take laid.new.used laid.new.leb) (omega (arith, room_is))
    (length-take-le laid.new.used laid.new.leb (omega (arith, fits, len))) (omega (arith, fits)) laid.ensures.laid c.in_ok-laid.ensures.all
    )

pub returns-clause-some : goal.returns-clause-some
returns-clause-some g c =
    let laid = c.lay_nodes-laid in
    let room = c.index_node_len-room.result in
    let room_is = c.index_node_len-room.ensures in
    let geo = c.args.geometry.now in
    let fits = laid.ensures.fits in
    let len = laid.ensures.len in
    let fanout = geo.in_range.fanout.1 in
    let least = geo.in_range.leb_size.0 in
    let whole = c.requires.whole in
    leb_more c.args.lnum room (length c.args.leb.now) laid.new.used c.args.sqnum.now laid.new.sqnum c.args.index.now laid.new.index (take laid.new.used laid.new.leb) (omega (arith, room_is))
    (omega (arith, room_is, fanout, least, whole)) (length-take-le laid.new.used laid.new.leb (omega (arith, fits, len))) c.requires.some laid.ensures.laid c.in_ok-laid.ensures.all

pub returns-clause-units : goal.returns-clause-units
returns-clause-units g c =
    let laid = c.lay_nodes-laid in
    let room = c.index_node_len-room.result in
    let geo = raw_of c.args.geometry.now in
    let fits = laid.ensures.fits in
    let len = laid.ensures.len in
    let bytes = laid_bytes c.args.lnum room laid.new.used c.args.sqnum.now laid.new.sqnum c.args.index.now laid.new.index (take laid.new.used laid.new.leb)
    (length-take-le laid.new.used laid.new.leb (omega (arith, fits, len))) laid.ensures.laid in
    let count = laid.new.sqnum - c.args.sqnum.now in
    c.in_ok-end.ensures.units ∙ ap (whole_units geo) (bytes ∙ ap (λ (n : ℕ). count * n) c.index_node_len-room.ensures)

pub returns-in_err-laid-clause-text : goal.returns-in_err-laid-clause-text
returns-in_err-laid-clause-text g c =
    let laid = c.lay_nodes-laid in
    let fits = laid.ensures.fits in
    let len = laid.ensures.len in
    λ done. leb_text (raw_of c.args.geometry.now) (g.V.Volume.state c.args.volume.now) (g.V.Volume.state c.put_leb.new.volume) c.args.lnum c.index_node_len-room.result laid.new.used c.in_ok-end.end
    c.args.sqnum.now laid.new.sqnum c.args.index.now laid.new.index (take laid.new.used laid.new.leb) c.index_node_len-room.ensures c.requires.geometry.leb_size c.in_ok-end.ensures.units
    (length-take-le laid.new.used laid.new.leb (omega (arith, fits, len))) laid.ensures.laid c.in_ok-end.ensures.put

pub returns-clause-text : goal.returns-clause-text
returns-clause-text g c =
    let laid = c.lay_nodes-laid in
    let fits = laid.ensures.fits in
    let len = laid.ensures.len in
    λ done. leb_text (raw_of c.args.geometry.now) (g.V.Volume.state c.args.volume.now) (g.V.Volume.state c.put_leb.new.volume) c.args.lnum c.index_node_len-room.result laid.new.used c.in_ok-end.end
    c.args.sqnum.now laid.new.sqnum c.args.index.now laid.new.index (take laid.new.used laid.new.leb) c.index_node_len-room.ensures c.requires.geometry.leb_size c.in_ok-end.ensures.units
    (length-take-le laid.new.used laid.new.leb (omega (arith, fits, len))) laid.ensures.laid c.in_ok-end.ensures.put

pub returns-in_err-end-clause-left : goal.returns-in_err-end-clause-left
returns-in_err-end-clause-left g c =
    let laid = c.lay_nodes-laid in
    let fits = laid.ensures.fits in
    let len = laid.ensures.len in
    leb_text_left (raw_of c.args.geometry.now) (g.V.Volume.state c.args.volume.now) (g.V.Volume.state c.put_leb.new.volume) c.args.lnum c.index_node_len-room.result laid.new.used c.args.sqnum.now
    laid.new.sqnum c.args.index.now laid.new.index (take laid.new.used laid.new.leb) c.index_node_len-room.ensures c.requires.geometry.leb_size
    (length-take-le laid.new.used laid.new.leb (omega (arith, fits, len))) laid.ensures.laid c.put_leb.ensures.left

pub returns-in_err-laid-clause-left : goal.returns-in_err-laid-clause-left
returns-in_err-laid-clause-left g c =
    let laid = c.lay_nodes-laid in
    let fits = laid.ensures.fits in
    let len = laid.ensures.len in
    leb_text_left (raw_of c.args.geometry.now) (g.V.Volume.state c.args.volume.now) (g.V.Volume.state c.put_leb.new.volume) c.args.lnum c.index_node_len-room.result laid.new.used c.args.sqnum.now
    laid.new.sqnum c.args.index.now laid.new.index (take laid.new.used laid.new.leb) c.index_node_len-room.ensures c.requires.geometry.leb_size
    (length-take-le laid.new.used laid.new.leb (omega (arith, fits, len))) laid.ensures.laid c.put_leb.ensures.left

pub returns-clause-left : goal.returns-clause-left
returns-clause-left g c =
    let laid = c.lay_nodes-laid in
    let fits = laid.ensures.fits in
    let len = laid.ensures.len in
    leb_text_left (raw_of c.args.geometry.now) (g.V.Volume.state c.args.volume.now) (g.V.Volume.state c.put_leb.new.volume) c.args.lnum c.index_node_len-room.result laid.new.used c.args.sqnum.now
    laid.new.sqnum c.args.index.now laid.new.index (take laid.new.used laid.new.leb) c.index_node_len-room.ensures c.requires.geometry.leb_size
    (length-take-le laid.new.used laid.new.leb (omega (arith, fits, len))) laid.ensures.laid c.put_leb.ensures.left
