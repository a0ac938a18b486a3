use Rattle.std.proofs.Common.{rules, ℕ, ◌+◌, ◌*◌, ◌<◌, ◌≤◌, List, [], ◌∷◌, length, Ok, Err, refl, sym, subst, arith}
use Rattle.ubifs_base.specs.RawOf.{raw_of}
use Rattle.media_sys.specs.declared.branch.Branch.{Branch}
use Rattle.index_media.specs.Stored.{IsIndexNodeAt}
use Rattle.laid_index.specs.Answered.{IsLayingAnswered}
use Rattle.laid_index.specs.Crowned.{IsCrowned}
use Rattle.laid_index.specs.Opened.{GoesOnInLeb, Lays, taken_after}
use Rattle.laid_index.specs.Packing.{len_over, lens_above, level_lens}
use Rattle.laid_index.specs.Rows.{AreOver, HasFirstKey, StandOver}
use Rattle.laid_index.proofs.Answering.{answered_err, answered_then, answered_wider, exit_answered, geometry_kept}
use Rattle.laid_index.proofs.Crowning.{row_rises, row_roots}
use Rattle.laid_index.proofs.Levels.{level_order}
use Rattle.laid_index.proofs.Making.{if_ok, if_ok_all}
use Rattle.laid_index.proofs.Packs.{ceil_half, ceil_some, lens_root, level_last}
use Rattle.laid_index.proofs.Rising.{above_within, lays_taken, lens_made, level_high, level_low, level_within, made_count, ready_above, ready_level, ready_root}
use Rattle.laid_index.proofs.laying.+lay_levels.Goals as goal

pub lay_node-requires-clause-node : goal.lay_node-requires-clause-node
lay_node-requires-clause-node g t c =
    let le : length c.args.siblings.now ≤ c.args.geometry.now.fanout = omega arith in
    let most = c.args.geometry.now.in_range.fanout.1 in
    let some = c.requires.some in
    record { some = omega (arith, some); most = omega (arith, le, most); keys = c.requires.order.keys; order = c.requires.order.order }

pub lay_node-requires-clause-ready : goal.lay_node-requires-clause-ready
lay_node-requires-clause-ready g t c =
    ready_root (raw_of c.args.geometry.now) (length c.args.siblings.now) c.args.leb.now (g.V.Volume.state c.args.volume.now).holds c.requires.some (omega arith) c.requires.ready

pub returns-then-siblings-geometry-clause-crowned : goal.returns-then-siblings-geometry-clause-crowned
returns-then-siblings-geometry-clause-crowned g t c =
    let geo = raw_of c.args.geometry.now in
    let siblings = c.args.siblings.now in
    let n = length siblings in
    let le : n ≤ geo.fanout = omega arith in
    let wide = c.args.geometry.now.in_range.fanout.0 in
    let old = c.args.leb.now in
    let new = c.lay_node.new.self in
    let was = (g.V.Volume.state c.args.volume.now).holds in
    let now = (g.V.Volume.state c.lay_node.new.volume).holds in
    let e = lens_root geo.fanout n c.requires.some le in
    if_ok_all c.lay_node.result (λ b. Lays geo (len_over n ∷ []) (b ∷ []) old was new now)
    (λ b. (contents : ℕ → List ℕ) → GoesOnInLeb new now contents → IsIndexNodeAt contents b (record { level = c.args.level; branches = siblings }))
    (λ b. HasFirstKey b siblings)
    (λ b. IsCrowned geo c.args.level siblings (lens_above n geo.fanout n) old was b new now)
    (λ b lays stands key.
    let P : List ℕ → Type 0 = λ l. IsCrowned geo c.args.level siblings l old was b new now in
    subst P (sym e) (row_roots geo c.args.level siblings (len_over n ∷ []) b old new was now (omega (arith, wide)) le lays key stands (lays_taken geo (len_over n ∷ []) (b ∷ []) old new was now lays)
    (level_last geo.fanout n c.requires.some le)))
    c.lay_node.ensures.lays c.lay_node.ensures.stands c.lay_node.ensures.key

pub returns-then-siblings-geometry-clause-answer : goal.returns-then-siblings-geometry-clause-answer
returns-then-siblings-geometry-clause-answer g t c =
    let geo = raw_of c.args.geometry.now in
    let n = length c.args.siblings.now in
    let old = c.args.leb.now in
    let P : List ℕ → Type 0 = λ l. IsLayingAnswered old.first (old.first + length (taken_after geo old l)) (g.V.Volume.state c.args.volume.now) (g.V.Volume.state c.lay_node.new.volume) c.lay_node.result in
    subst P (sym (lens_root geo.fanout n c.requires.some (omega arith))) c.lay_node.ensures.answer

pub lay_level-requires-clause-ready : goal.lay_level-requires-clause-ready
lay_level-requires-clause-ready g t c =
    ready_level (raw_of c.args.geometry.now) (length c.args.siblings.now) c.args.leb.now (g.V.Volume.state c.args.volume.now).holds c.args.geometry.now.in_range.fanout.0 (omega arith) c.requires.ready

pub returns-in_err-made-clause-answer : goal.returns-in_err-made-clause-answer
returns-in_err-made-clause-answer g t c =
    let geo = raw_of c.args.geometry.now in
    let n = length c.args.siblings.now in
    let old = c.args.leb.now in
    let a = g.V.Volume.state c.args.volume.now in
    let b = g.V.Volume.state c.lay_level.new.volume in
    let end = old.first + length (taken_after geo old (level_lens geo.fanout n)) in
    let last = old.first + length (taken_after geo old (lens_above n geo.fanout n)) in
    let within = level_within geo n old c.args.geometry.now.in_range.fanout.0 (omega arith) in
    exit_answered old.first last a b c.in_err-made.field-0.0 c.from_residual.result c.from_residual.ensures.1
    (answered_err old.first last a b c.in_err-made.field-0.0 (answered_wider old.first end old.first last a b (Err c.in_err-made.field-0.0) (omega arith) within c.in_err-made.ensures.answer))

pub overflow_add-level : goal.overflow_add-level
overflow_add-level g t c =
    let low = level_low (length c.args.siblings.now) c.args.level c.requires.some c.requires.high in
    omega (arith, low)

pub lay_levels-requires : goal.lay_levels-requires
lay_levels-requires g t c κs within =
    let geo = raw_of c.args.geometry.now in
    let f = geo.fanout in
    let siblings = c.args.siblings.now in
    let n = length siblings in
    let s = c.as_slice.result.now in
    let wide = c.args.geometry.now.in_range.fanout.0 in
    let lt : f < n = omega arith in
    let old = c.args.leb.now in
    let mid = c.lay_level.new.leb in
    let was = g.V.Volume.state c.args.volume.now in
    let then' = g.V.Volume.state c.lay_level.new.volume in
    let L : List Branch → Type 0 = λ l. Lays geo (level_lens f n) l old was.holds mid then'.holds in
    let O : List Branch → Type 0 = λ l. AreOver f siblings l [] in
    let lays = subst L (sym c.as_slice.ensures.value) c.in_ok-made.ensures.lays in
    let over = subst O (sym c.as_slice.ensures.value) c.in_ok-made.ensures.over in
    let count = made_count geo n s old mid was.holds then'.holds lays in
    let half : 2 * length s ≤ n = let h = ceil_half f n wide lt in omega (arith, h, count) in
    let some : 0 < length s = let h = ceil_some f n (omega (arith, wide)) c.requires.some in omega (arith, h, count) in
    let smaller : length s < n = omega (arith, half, some) in (
      search (rules, smaller),
      (
        search (rules, within),
        (
          geometry_kept geo was then' c.requires.geometry c.in_ok-made.ensures.answer.shape,
          (
            some,
            (
              level_order f siblings s [] (omega (arith, wide)) over c.requires.order,
              (ready_above geo n s old mid was.holds then'.holds wide lt c.requires.ready lays, level_high n (length s) c.args.level half c.requires.high),
            ),
          ),
        ),
      ),
    )

pub returns-clause-crowned : goal.returns-clause-crowned
returns-clause-crowned g t c =
    let geo = raw_of c.args.geometry.now in
    let f = geo.fanout in
    let siblings = c.args.siblings.now in
    let n = length siblings in
    let s = c.as_slice.result.now in
    let wide = c.args.geometry.now.in_range.fanout.0 in
    let lt : f < n = omega arith in
    let old = c.args.leb.now in
    let mid = c.lay_level.new.leb in
    let new = c.lay_levels.new.leb in
    let was = (g.V.Volume.state c.args.volume.now).holds in
    let then' = (g.V.Volume.state c.lay_level.new.volume).holds in
    let now = (g.V.Volume.state c.lay_levels.new.volume).holds in
    let L : List Branch → Type 0 = λ l. Lays geo (level_lens f n) l old was mid then' in
    let O : List Branch → Type 0 = λ l. AreOver f siblings l [] in
    let S : List Branch → Type 0 = λ l. (contents : ℕ → List ℕ) → GoesOnInLeb mid then' contents → StandOver contents f c.args.level siblings l in
    let lays = subst L (sym c.as_slice.ensures.value) c.in_ok-made.ensures.lays in
    let over = subst O (sym c.as_slice.ensures.value) c.in_ok-made.ensures.over in
    let stand = subst S (sym c.as_slice.ensures.value) c.in_ok-made.ensures.stand in
    let above = lens_above (length s) f (length s) in
    let e = lens_made geo n s old mid was then' wide lt lays in
    if_ok c.lay_levels.result (λ b. IsCrowned geo (c.args.level + 1) s above mid then' b new now) (λ b. IsCrowned geo c.args.level siblings (lens_above n f n) old was b new now)
    (λ b crowned.
    let P : List ℕ → Type 0 = λ l. IsCrowned geo c.args.level siblings l old was b new now in
    subst P (sym e) (row_rises geo c.args.level siblings s (level_lens f n) above b old mid new was then' now (omega (arith, wide)) lays over stand crowned refl))
    c.lay_levels.ensures.crowned

pub returns-clause-answer : goal.returns-clause-answer
returns-clause-answer g t c =
    let geo = raw_of c.args.geometry.now in
    let f = geo.fanout in
    let n = length c.args.siblings.now in
    let s = c.as_slice.result.now in
    let wide = c.args.geometry.now.in_range.fanout.0 in
    let lt : f < n = omega arith in
    let old = c.args.leb.now in
    let mid = c.lay_level.new.leb in
    let a = g.V.Volume.state c.args.volume.now in
    let b = g.V.Volume.state c.lay_level.new.volume in
    let d = g.V.Volume.state c.lay_levels.new.volume in
    let L : List Branch → Type 0 = λ l. Lays geo (level_lens f n) l old a.holds mid b.holds in
    let lays = subst L (sym c.as_slice.ensures.value) c.in_ok-made.ensures.lays in
    let end = old.first + length (taken_after geo old (level_lens f n)) in
    let last = old.first + length (taken_after geo old (lens_above n f n)) in
    let rest = mid.first + length (taken_after geo mid (lens_above (length s) f (length s))) in
    let within = level_within geo n old wide lt in
    let same = above_within geo n s old mid a.holds b.holds wide lt lays in
    let first = lays.first in
    answered_then old.first last a b d c.in_ok-made.made c.lay_levels.result
    (answered_wider old.first end old.first last a b (Ok c.in_ok-made.made) (omega arith) within c.in_ok-made.ensures.answer)
    (answered_wider mid.first rest old.first last b d c.lay_levels.result (omega (arith, first)) (omega (arith, same)) c.lay_levels.ensures.answer)
