use Rattle.std.proofs.Common.{◌≡◌, ℕ, ◌+◌, List, length, Ok, Err, ap, sym, ◌∙◌, subst, refl, arith, inl, inr}
use Rattle.std.specs.Prelude.{map}
use Rattle.std.proofs.lemmas.Bool.{cases_order}
use Rattle.std.proofs.lemmas.List.{length-map}
use Rattle.ubifs_base.specs.RawOf.{raw_of}
use Rattle.ubi_volume.specs.declared.fault.AreaFault.TheVariants.{Memory}
use Rattle.media_sys.specs.declared.branch.Branch.{Branch}
use Rattle.index_media.specs.PlacedRow.{branch_to}
use Rattle.laid_index.specs.Crowned.{IsCrowned}
use Rattle.laid_index.specs.Opened.{AreNodesReady, open_lnum}
use Rattle.laid_index.specs.Packing.{index_used, lens_above}
use Rattle.laid_index.specs.Rows.{AreInOrder}
use Rattle.laid_index.proofs.Answering.{answered_err, answered_memory, answered_none, answered_ok, exit_answered, geometry_kept}
use Rattle.laid_index.proofs.Begun.{IsBegun, begun_answered, closed_answered, last_leb_in}
use Rattle.laid_index.proofs.Indexing.{IsFresh, fresh_ready, index_laid, leaves_in_order}
use Rattle.laid_index.proofs.laying.lay_leaves.Goals as goal

pub returns-in_err-branches-clause-answer : goal.returns-in_err-branches-clause-answer
returns-in_err-branches-clause-answer g c =
    let a = g.V.Volume.state c.args.volume.now in
    let last = c.args.first + length (index_used (raw_of c.args.geometry.now) (length c.args.leaves.now)) in
    exit_answered c.args.first last a a Memory c.from_residual.result c.from_residual.ensures.1 (let z : ℕ = 0 in answered_memory c.args.first last a a z (answered_none c.args.first last a z))

pub returns-in_err-leb-clause-answer : goal.returns-in_err-leb-clause-answer
returns-in_err-leb-clause-answer g c =
    let a = g.V.Volume.state c.args.volume.now in
    let last = c.args.first + length (index_used (raw_of c.args.geometry.now) (length c.args.leaves.now)) in
    exit_answered c.args.first last a a Memory c.from_residual-in_err-leb.result c.from_residual-in_err-leb.ensures.1 (let z : ℕ = 0 in answered_memory c.args.first last a a z (answered_none c.args.first last a z))

pub lay_levels-requires-clause-some : goal.lay_levels-requires-clause-some
lay_levels-requires-clause-some g c =
    let s : c.as_slice.result.now ≡ map branch_to c.args.leaves.now = c.as_slice.ensures.value ∙ c.in_ok-branches.ensures in
    let e = ap length s in
    let m = length-map c.args.leaves.now branch_to in
    let some = c.requires.some in
    omega (arith, e, m, some)

pub lay_levels-requires-clause-order : goal.lay_levels-requires-clause-order
lay_levels-requires-clause-order g c =
    let s : c.as_slice.result.now ≡ map branch_to c.args.leaves.now = c.as_slice.ensures.value ∙ c.in_ok-branches.ensures in
    let P : List Branch → Type 0 = λ l. AreInOrder l in
    subst P (sym s) (leaves_in_order c.args.leaves.now c.requires.keys c.requires.order)

pub lay_levels-requires-clause-ready : goal.lay_levels-requires-clause-ready
lay_levels-requires-clause-ready g c =
    let geo = raw_of c.args.geometry.now in
    let leb = c.in_ok-leb.leb in
    let was = (g.V.Volume.state c.args.volume.now).holds in
    let s : c.as_slice.result.now ≡ map branch_to c.args.leaves.now = c.as_slice.ensures.value ∙ c.in_ok-branches.ensures in
    let e : length c.as_slice.result.now ≡ length c.args.leaves.now = ap length s ∙ length-map c.args.leaves.now branch_to in
    let made = c.in_ok-leb.ensures in
    let fresh : IsFresh c.args.first c.args.sqnum leb = record { begins = made.first; used = made.used; bytes = made.bytes; number = made.sqnum } in
    let P : ℕ → Type 0 = λ n. AreNodesReady geo (lens_above n geo.fanout n) leb was in
    subst P (sym e) (fresh_ready geo c.args.first c.args.sqnum (length c.args.leaves.now) leb was c.args.geometry.now.in_range fresh c.requires.some c.requires.room c.requires.number)

pub lay_levels-requires-clause-high : goal.lay_levels-requires-clause-high
lay_levels-requires-clause-high g c =
    let s : c.as_slice.result.now ≡ map branch_to c.args.leaves.now = c.as_slice.ensures.value ∙ c.in_ok-branches.ensures in
    let e : length c.as_slice.result.now ≡ length c.args.leaves.now = ap length s ∙ length-map c.args.leaves.now branch_to in
    let number = c.requires.number in
    omega (arith, e, number)

pub returns-in_err-root-clause-answer : goal.returns-in_err-root-clause-answer
returns-in_err-root-clause-answer g c =
    let geo = raw_of c.args.geometry.now in
    let xs = c.args.leaves.now in
    let start = c.in_ok-leb.leb in
    let made = c.in_ok-leb.ensures in
    let begun : IsBegun xs c.args.first c.args.sqnum start c.as_slice.result.now =
    record { fresh = record { begins = made.first; used = made.used; bytes = made.bytes; number = made.sqnum }; branches_are = c.as_slice.ensures.value ∙ c.in_ok-branches.ensures } in
    let a = g.V.Volume.state c.args.volume.now in
    let b = g.V.Volume.state c.lay_levels.new.volume in
    let last = c.args.first + length (index_used geo (length xs)) in
    exit_answered c.args.first last a b c.in_err-root.field-0.0 c.from_residual-in_err-root.result c.from_residual-in_err-root.ensures.1
    (answered_err c.args.first last a b c.in_err-root.field-0.0
    (begun_answered geo xs c.args.first c.args.sqnum start c.as_slice.result.now a b (Err c.in_err-root.field-0.0) begun c.in_err-root.ensures.answer))

pub close-requires-clause-geometry : goal.close-requires-clause-geometry
close-requires-clause-geometry g c = geometry_kept (raw_of c.args.geometry.now) (g.V.Volume.state c.args.volume.now) (g.V.Volume.state c.lay_levels.new.volume) c.requires.geometry c.in_ok-root.ensures.answer.shape

pub close-requires-clause-fits : goal.close-requires-clause-fits
close-requires-clause-fits g c = c.in_ok-root.ensures.crowned.is_open.fits

pub close-requires-clause-lnum : goal.close-requires-clause-lnum
close-requires-clause-lnum g c =
    let geo = raw_of c.args.geometry.now in
    let xs = c.args.leaves.now in
    let start = c.in_ok-leb.leb in
    let made = c.in_ok-leb.ensures in
    let begun : IsBegun xs c.args.first c.args.sqnum start c.as_slice.result.now =
    record { fresh = record { begins = made.first; used = made.used; bytes = made.bytes; number = made.sqnum }; branches_are = c.as_slice.ensures.value ∙ c.in_ok-branches.ensures } in
    let a = g.V.Volume.state c.args.volume.now in
    let b = g.V.Volume.state c.lay_levels.new.volume in
    let inside = last_leb_in geo xs c.args.first c.args.sqnum start c.lay_levels.new.leb c.as_slice.result.now c.in_ok-root.root a.holds b.holds begun c.in_ok-root.ensures.crowned in
    let high = inside.1 in
    let room = c.requires.room in
    omega (arith, high, room)

pub returns-in_err-close-clause-answer : goal.returns-in_err-close-clause-answer
returns-in_err-close-clause-answer g c =
    let geo = raw_of c.args.geometry.now in
    let xs = c.args.leaves.now in
    let start = c.in_ok-leb.leb in
    let made = c.in_ok-leb.ensures in
    let begun : IsBegun xs c.args.first c.args.sqnum start c.as_slice.result.now =
    record { fresh = record { begins = made.first; used = made.used; bytes = made.bytes; number = made.sqnum }; branches_are = c.as_slice.ensures.value ∙ c.in_ok-branches.ensures } in
    let a = g.V.Volume.state c.args.volume.now in
    let b = g.V.Volume.state c.lay_levels.new.volume in
    let leb = c.lay_levels.new.leb in
    let d = g.V.Volume.state c.close.new.volume in
    let fault = c.in_err-close.field-0.0 in
    exit_answered c.args.first (c.args.first + length (index_used geo (length xs))) a d fault c.from_residual-in_err-close.result c.from_residual-in_err-close.ensures.1
    (closed_answered geo xs c.args.first c.args.sqnum start leb c.as_slice.result.now c.in_ok-root.root a b d (Err fault) begun c.in_ok-root.ensures.crowned c.in_ok-root.ensures.answer
    (answered_err (open_lnum leb) (open_lnum leb + 1) b d fault c.in_err-close.ensures.answer))

pub returns-clause-laid : goal.returns-clause-laid
returns-clause-laid g c =
    let geo = raw_of c.args.geometry.now in
    let f = geo.fanout in
    let xs = c.args.leaves.now in
    let start = c.in_ok-leb.leb in
    let made = c.in_ok-leb.ensures in
    let fresh : IsFresh c.args.first c.args.sqnum start = record { begins = made.first; used = made.used; bytes = made.bytes; number = made.sqnum } in
    let a = g.V.Volume.state c.args.volume.now in
    let b = g.V.Volume.state c.lay_levels.new.volume in
    let s_is : c.as_slice.result.now ≡ map branch_to xs = c.as_slice.ensures.value ∙ c.in_ok-branches.ensures in
    let leb = c.lay_levels.new.leb in
    let shut = c.close.new.self in
    let d = g.V.Volume.state c.close.new.volume in
    let P : List Branch → Type 0 = λ l. IsCrowned geo 0 l (lens_above (length l) f (length l)) start a.holds c.in_ok-root.root leb b.holds in
    let Q : ℕ → Type 0 = λ m. IsCrowned geo 0 (map branch_to xs) (lens_above m f m) start a.holds c.in_ok-root.root leb b.holds in
    index_laid geo xs c.args.first c.args.sqnum c.in_ok-root.root _ start leb shut a.holds b.holds d.holds c.requires.keys c.requires.order fresh
    (subst Q (length-map xs branch_to) (subst P s_is c.in_ok-root.ensures.crowned)) c.in_ok-root.ensures.some c.in_ok-close.ensures.closed
    (λ k ne. (c.close.ensures.answer.others k (elim (cases_order k (open_lnum leb)) [
      | inl same ↦ absurd (ne same)
      | inr apart ↦ elim apart [ inl lt ↦ inl lt | inr gt ↦ inr (omega (arith, gt)) ]
    ])).holds)
    refl refl refl

pub returns-clause-answer : goal.returns-clause-answer
returns-clause-answer g c =
    let geo = raw_of c.args.geometry.now in
    let xs = c.args.leaves.now in
    let start = c.in_ok-leb.leb in
    let made = c.in_ok-leb.ensures in
    let begun : IsBegun xs c.args.first c.args.sqnum start c.as_slice.result.now =
    record { fresh = record { begins = made.first; used = made.used; bytes = made.bytes; number = made.sqnum }; branches_are = c.as_slice.ensures.value ∙ c.in_ok-branches.ensures } in
    let a = g.V.Volume.state c.args.volume.now in
    let b = g.V.Volume.state c.lay_levels.new.volume in
    let leb = c.lay_levels.new.leb in
    let d = g.V.Volume.state c.close.new.volume in
    closed_answered geo xs c.args.first c.args.sqnum start leb c.as_slice.result.now c.in_ok-root.root a b d (Ok _) begun c.in_ok-root.ensures.crowned c.in_ok-root.ensures.answer
    (answered_ok (open_lnum leb) (open_lnum leb + 1) b d c.in_ok-close.field-0 _ c.in_ok-close.ensures.answer)
