use Rattle.std.proofs.Common.{◌≡◌, ◌+◌, ◌*◌, ◌/◌, ◌++◌, ℕ, true, length, take, refl, ap, sym, ◌∙◌, subst, arith}
use Rattle.index_tree.specs.Levels.{levelled}
use Rattle.index_media.specs.KeyedRow.{bare}
use Rattle.index_cache.specs.Commit.{below_node, node_length, said_of}
use Rattle.index_cache.specs.Paged.{dirty_of}
use Rattle.index_commit.specs.LebTexts.{in_room}
use Rattle.index_commit.proofs.LebTexts.{no_bytes, one_bytes}
use Rattle.index_commit.proofs.Laid.{IsPlaced, IsLaidBehind, front_kept, laid_one, laid_same, own_kept}
use Rattle.index_commit.proofs.Lebs.{none_dirty}
use Rattle.index_commit.proofs.laying.lay_next.Goals as goal

pub returns-in_default-clause-laid : goal.returns-in_default-clause-laid
returns-in_default-clause-laid c =
    let front = take c.args.used.now c.args.leb.now in
    laid_same c.places_are_kept.ensures.none c.args.lnum c.args.room c.args.index.now c.args.sqnum.now front front refl

pub returns-in_default-clause-none : goal.returns-in_default-clause-none
returns-in_default-clause-none c = λ same. none_dirty (dirty_of c.args.index.now) (sym c.in_default.ensures.first)

pub returns-in_err-lay_node-clause-laid : goal.returns-in_err-lay_node-clause-laid
returns-in_err-lay_node-clause-laid c =
    let used = c.args.used.now in
    let first = c.split_at_mut-laid in
    let behind = c.lay_node.new.room ++ c.split_at_mut-own.result.1.now in
    laid_same c.places_are_kept.ensures.none c.args.lnum c.args.room c.args.index.now c.args.sqnum.now (take used c.args.leb.now) (take used (first.result.0.now ++ behind))
    (front_kept used c.args.leb.now first.result.0.now behind first.ensures.front_len first.ensures.front)

pub returns-clause-laid : goal.returns-clause-laid
returns-clause-laid c =
    let used = c.args.used.now in
    let first = c.split_at_mut-laid in
    let old = c.args.index.now in
    let found = c.in-Some in
    let front = take used c.args.leb.now in
    let own = c.lay_node.new.room in
    let behind = c.split_at_mut-own.result.1.now in
    let bytes = take (used + c.args.room) (first.result.0.now ++ (own ++ behind)) in
    let most = found.ensures.most in
    let fits = c.requires.most in
    let long : length own ≡ c.args.room = c.lay_node.ensures.len ∙ c.split_at_mut-own.ensures.front_len in
    let L : ℕ → Type 0 = λ level. levelled level (bare (below_node old found.found.node)) ≡ true in
    let placed : IsPlaced c.args.lnum used found.found.node old c.place.new.self = record {
      next = found.ensures.next;
      levels = subst L found.ensures.level found.ensures.levels;
      frozen = c.place.ensures.frozen;
      tree = c.place.ensures.tree;
      trees = c.place.ensures.trees;
      nodes = c.place.ensures.nodes;
      dirty = c.place.ensures.dirty;
      unplaced = c.place.ensures.unplaced;
      roots = c.place.ensures.keeps;
    } in
    let laid : IsLaidBehind (node_length (said_of old found.found.node)) c.args.room used front own bytes = record {
      start = sym (ap length (sym first.ensures.front) ∙ first.ensures.front_len);
      whole = own_kept used c.args.room c.args.leb.now first.result.0.now own behind first.ensures.front_len first.ensures.front long;
      long = long;
      fits = omega (arith, most, fits);
    } in
    laid_one c.places_are_kept.ensures.given c.places_are_kept.ensures.fewer c.args.lnum c.args.room found.found.node used c.args.sqnum.now (c.args.sqnum.now + 1) old c.place.new.self front own bytes placed laid refl c.in_ok-lay_node.ensures.node
    (c.in_ok-lay_node.ensures.bytes ∙ ap (λ (n : ℕ). in_room n (c.args.sqnum.now + 1) (said_of old found.found.node)) c.split_at_mut-own.ensures.front_len)

pub returns-in_default-clause-live : goal.returns-in_default-clause-live
returns-in_default-clause-live c =
    let none = no_bytes c.args.index.now c.args.sqnum.now in
    omega (arith, none)

pub returns-in_err-lay_node-clause-live : goal.returns-in_err-lay_node-clause-live
returns-in_err-lay_node-clause-live c =
    let none = no_bytes c.args.index.now c.args.sqnum.now in
    omega (arith, none)

pub returns-clause-live : goal.returns-clause-live
returns-clause-live c =
    let found = c.in-Some in
    let laid = returns-clause-laid c in
    let bytes = one_bytes c.args.index.now c.place.new.self c.args.sqnum.now (c.args.sqnum.now + 1) found.found.node laid.index refl found.ensures.next in
    let len = ap (λ (n : ℕ). (n + 7) / 8 * 8) found.ensures.len in
    omega (arith, bytes, len)
