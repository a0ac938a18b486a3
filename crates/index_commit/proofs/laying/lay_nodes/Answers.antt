use Rattle.std.proofs.Common.{◌+◌, ◌-◌, ℕ, [], take, refl, ap, sym, ◌∙◌, arith}
use Rattle.index_cache.specs.Paged.{dirty_of}
use Rattle.index_commit.specs.LebTexts.{index_bytes, nodes_written}
use Rattle.index_commit.proofs.LebTexts.{bytes_then, no_bytes}
use Rattle.index_commit.proofs.Laid.{laid_same, laid_then, taken_fewer}
use Rattle.index_commit.proofs.laying.lay_nodes.Goals as goal

pub loop-used-init : goal.loop-used-init
loop-used-init c =
    let start = c.requires.start in (
      laid_same c.places_are_kept.ensures.none c.args.lnum c.args.room c.args.index.now c.args.sqnum.now [] (take c.args.used.now c.args.leb.now) (ap (λ n. take n c.args.leb.now) start),
      omega (arith, start),
      refl,
      c.requires.none ∙ sym (no_bytes c.args.index.now c.args.sqnum.now),
      (let none = c.requires.none in omega (arith, none)),
    )

pub lay_next-requires-clause-number : goal.lay_next-requires-clause-number
lay_next-requires-clause-number c =
    let so_far = c.loop-used.invariant.0.index in
    let fewer = taken_fewer c.places_are_kept.ensures.fewer so_far.numbers (dirty_of c.args.index.now) (dirty_of c.loop-used.index) so_far.taken in
    let number = so_far.number in
    let most = c.requires.number in
    omega (arith, fewer, number, most)

pub returns-in_err-lay_next-clause-laid : goal.returns-in_err-lay_next-clause-laid
returns-in_err-lay_next-clause-laid c =
    laid_then c.places_are_kept.ensures.both c.args.lnum c.args.room (record { index = c.args.index.now; sqnum = c.args.sqnum.now; bytes = [] })
    (record { index = c.loop-used.index; sqnum = c.loop-used.sqnum; bytes = take c.loop-used.used c.loop-used.leb })
    (record { index = c.lay_next.new.index; sqnum = c.lay_next.new.sqnum; bytes = take c.lay_next.new.used c.lay_next.new.leb }) c.loop-used.invariant.0 c.lay_next.ensures.laid

pub returns-then-not-branch-clause-laid : goal.returns-then-not-branch-clause-laid
returns-then-not-branch-clause-laid c =
    laid_then c.places_are_kept.ensures.both c.args.lnum c.args.room (record { index = c.args.index.now; sqnum = c.args.sqnum.now; bytes = [] })
    (record { index = c.loop-used.index; sqnum = c.loop-used.sqnum; bytes = take c.loop-used.used c.loop-used.leb })
    (record { index = c.lay_next.new.index; sqnum = c.lay_next.new.sqnum; bytes = take c.lay_next.new.used c.lay_next.new.leb }) c.loop-used.invariant.0 c.lay_next.ensures.laid

pub loop-used-preserved : goal.loop-used-preserved
loop-used-preserved c =
    let whole = laid_then c.places_are_kept.ensures.both c.args.lnum c.args.room (record { index = c.args.index.now; sqnum = c.args.sqnum.now; bytes = [] })
    (record { index = c.loop-used.index; sqnum = c.loop-used.sqnum; bytes = take c.loop-used.used c.loop-used.leb })
    (record { index = c.lay_next.new.index; sqnum = c.lay_next.new.sqnum; bytes = take c.lay_next.new.used c.lay_next.new.leb }) c.loop-used.invariant.0 c.lay_next.ensures.laid in
    let fits = c.lay_next.ensures.fits in
    let len = c.lay_next.ensures.len in (
      laid_then c.places_are_kept.ensures.both c.args.lnum c.args.room (record { index = c.args.index.now; sqnum = c.args.sqnum.now; bytes = [] })
          (record { index = c.loop-used.index; sqnum = c.loop-used.sqnum; bytes = take c.loop-used.used c.loop-used.leb })
          (record { index = c.lay_next.new.index; sqnum = c.lay_next.new.sqnum; bytes = take c.lay_next.new.used c.lay_next.new.leb }) c.loop-used.invariant.0 c.lay_next.ensures.laid,
      omega (arith, fits, len),
      len ∙ c.loop-used.invariant.2,
      c.lay_next.ensures.live ∙ ap (λ (n : ℕ). n + index_bytes (nodes_written c.loop-used.index c.lay_next.new.index (c.lay_next.new.sqnum - c.loop-used.sqnum))) c.loop-used.invariant.3
          ∙ sym (bytes_then c.args.index.now c.loop-used.index c.lay_next.new.index c.args.sqnum.now c.loop-used.sqnum c.lay_next.new.sqnum c.loop-used.invariant.0.index c.lay_next.ensures.laid.index whole.index),
      c.lay_next.ensures.slack,
    )

pub returns-in_err-lay_next-clause-live : goal.returns-in_err-lay_next-clause-live
returns-in_err-lay_next-clause-live c =
    let whole = laid_then c.places_are_kept.ensures.both c.args.lnum c.args.room (record { index = c.args.index.now; sqnum = c.args.sqnum.now; bytes = [] })
    (record { index = c.loop-used.index; sqnum = c.loop-used.sqnum; bytes = take c.loop-used.used c.loop-used.leb })
    (record { index = c.lay_next.new.index; sqnum = c.lay_next.new.sqnum; bytes = take c.lay_next.new.used c.lay_next.new.leb }) c.loop-used.invariant.0 c.lay_next.ensures.laid in
    c.lay_next.ensures.live ∙ ap (λ (n : ℕ). n + index_bytes (nodes_written c.loop-used.index c.lay_next.new.index (c.lay_next.new.sqnum - c.loop-used.sqnum))) c.loop-used.invariant.3
    ∙ sym (bytes_then c.args.index.now c.loop-used.index c.lay_next.new.index c.args.sqnum.now c.loop-used.sqnum c.lay_next.new.sqnum c.loop-used.invariant.0.index c.lay_next.ensures.laid.index whole.index)

pub returns-then-not-branch-clause-live : goal.returns-then-not-branch-clause-live
returns-then-not-branch-clause-live c =
    let whole = laid_then c.places_are_kept.ensures.both c.args.lnum c.args.room (record { index = c.args.index.now; sqnum = c.args.sqnum.now; bytes = [] })
    (record { index = c.loop-used.index; sqnum = c.loop-used.sqnum; bytes = take c.loop-used.used c.loop-used.leb })
    (record { index = c.lay_next.new.index; sqnum = c.lay_next.new.sqnum; bytes = take c.lay_next.new.used c.lay_next.new.leb }) c.loop-used.invariant.0 c.lay_next.ensures.laid in
    c.lay_next.ensures.live ∙ ap (λ (n : ℕ). n + index_bytes (nodes_written c.loop-used.index c.lay_next.new.index (c.lay_next.new.sqnum - c.loop-used.sqnum))) c.loop-used.invariant.3
    ∙ sym (bytes_then c.args.index.now c.loop-used.index c.lay_next.new.index c.args.sqnum.now c.loop-used.sqnum c.lay_next.new.sqnum c.loop-used.invariant.0.index c.lay_next.ensures.laid.index whole.index)
