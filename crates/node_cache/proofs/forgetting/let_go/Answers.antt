use Rattle.std.proofs.Common.{◌<◌, ℕ, length, ap, sym, subst, ◌∙◌}
use Rattle.lru.specs.LruCache.{LruCache}
use Rattle.media_sys.specs.declared.idx_node.IdxNode.{IdxNode}
use Rattle.node_cache.specs.Kept.{beside_leb}
use Rattle.node_cache.proofs.Forgotten.{all_beside, fewer_without, still_beside}
use Rattle.node_cache.proofs.forgetting.let_go.Goals as goal

pub loop-place-smaller-in-Some : goal.loop-place-smaller-in-Some
loop-place-smaller-in-Some c =
    let entries = c.loop-place.nodes.entries in
    let P : LruCache (ℕ × ℕ × ℕ) IdxNode → Type 0 = λ l. length l.entries < length entries in
    subst P (sym c.pop.ensures.entries) (fewer_without c.args.lnum entries c.in-Some.place (sym c.place_in.ensures ∙ c.in-Some.is))

pub loop-place-preserved-in-Some : goal.loop-place-preserved-in-Some
loop-place-preserved-in-Some c =
    let there = still_beside c.args.lnum c.loop-place.nodes.entries c.in-Some.place (sym c.place_in.ensures ∙ c.in-Some.is) in
    record {
      rest = ap (λ (l : LruCache (ℕ × ℕ × ℕ) IdxNode). beside_leb c.args.lnum l.entries) c.pop.ensures.entries ∙ there ∙ c.loop-place.invariant.rest;
      capacity = ap (λ (l : LruCache (ℕ × ℕ × ℕ) IdxNode). l.cap) c.pop.ensures.entries ∙ c.loop-place.invariant.capacity;
    }

pub loop-place-smaller : goal.loop-place-smaller
loop-place-smaller c =
    let entries = c.loop-place.nodes.entries in
    let P : LruCache (ℕ × ℕ × ℕ) IdxNode → Type 0 = λ l. length l.entries < length entries in
    subst P (sym c.pop.ensures.entries) (fewer_without c.args.lnum entries c.in-Some.place (sym c.place_in.ensures ∙ c.in-Some.is))

pub loop-place-preserved : goal.loop-place-preserved
loop-place-preserved c =
    let there = still_beside c.args.lnum c.loop-place.nodes.entries c.in-Some.place (sym c.place_in.ensures ∙ c.in-Some.is) in
    record {
      rest = ap (λ (l : LruCache (ℕ × ℕ × ℕ) IdxNode). beside_leb c.args.lnum l.entries) c.pop.ensures.entries ∙ there ∙ c.loop-place.invariant.rest;
      capacity = ap (λ (l : LruCache (ℕ × ℕ × ℕ) IdxNode). l.cap) c.pop.ensures.entries ∙ c.loop-place.invariant.capacity;
    }

pub returns-clause-rest : goal.returns-clause-rest
returns-clause-rest c = sym (all_beside c.args.lnum c.loop-place.nodes.entries (sym c.place_in.ensures ∙ c.in_default.is)) ∙ c.loop-place.invariant.rest
