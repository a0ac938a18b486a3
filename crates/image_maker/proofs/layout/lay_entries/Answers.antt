use Rattle.std.proofs.Common.{◌≡◌, [], ◌∷◌, map, sym, ◌∙◌, ap}
use Rattle.ubifs_base.specs.RawOf.{raw_of}
use Rattle.group_nodes.specs.Nodes.{node_of}
use Rattle.image_maker.specs.Leaves.{entry_leaf}
use Rattle.image_maker.proofs.Ready.{begins, next_ready, next_laid}
use Rattle.image_maker.proofs.layout.lay_entries.Goals as goal

pub laying-init : goal.laying-init
laying-init c =
    let gives : c.into_iter-entry-iterator.result.rest.items ≡ c.into_vec-entry-items.result.items = c.into_iter-entry-iterator.ensures.into_iter_gives.0 in
    begins (raw_of c.args.geometry.now) _ _ _ _ c.requires.ready (ap (map entry_leaf) (gives ∙ c.into_vec-entry-items.ensures))

pub lay-requires : goal.lay-requires
lay-requires c =
    let is : map entry_leaf c.laying.entry-iterator.rest.items ≡ node_of c.entry_leaf-leaf.result ∷ map entry_leaf c.next.new.self.rest.items =
    ap (map entry_leaf) c.in-Some.ensures.steps.0 ∙ ap (λ n. n ∷ map entry_leaf c.next.new.self.rest.items) (sym c.entry_leaf-leaf.ensures.node) in
    record { ready = next_ready (raw_of c.args.geometry.now) _ _ (node_of c.entry_leaf-leaf.result ∷ []) (map entry_leaf c.next.new.self.rest.items) _ _ _ _ c.requires.ready is c.laying.invariant; mode = c.entry_leaf-leaf.ensures.mode }

pub laying-preserved : goal.laying-preserved
laying-preserved c =
    let is : map entry_leaf c.laying.entry-iterator.rest.items ≡ node_of c.entry_leaf-leaf.result ∷ map entry_leaf c.next.new.self.rest.items =
    ap (map entry_leaf) c.in-Some.ensures.steps.0 ∙ ap (λ n. n ∷ map entry_leaf c.next.new.self.rest.items) (sym c.entry_leaf-leaf.ensures.node) in
    next_laid (raw_of c.args.geometry.now) _ _ (node_of c.entry_leaf-leaf.result ∷ []) (map entry_leaf c.next.new.self.rest.items) _ _ _ _ _ _ is c.laying.invariant c.in_ok-lay.ensures.laid

pub laying-preserved-in_ok-lay-2 : goal.laying-preserved-in_ok-lay-2
laying-preserved-in_ok-lay-2 c =
    let is : map entry_leaf c.laying.entry-iterator.rest.items ≡ node_of c.entry_leaf-leaf.result ∷ map entry_leaf c.next.new.self.rest.items =
    ap (map entry_leaf) c.in-Some.ensures.steps.0 ∙ ap (λ n. n ∷ map entry_leaf c.next.new.self.rest.items) (sym c.entry_leaf-leaf.ensures.node) in
    next_laid (raw_of c.args.geometry.now) _ _ (node_of c.entry_leaf-leaf.result ∷ []) (map entry_leaf c.next.new.self.rest.items) _ _ _ _ _ _ is c.laying.invariant c.in_ok-lay.ensures.laid

pub laying-preserved-in_ok-lay-3 : goal.laying-preserved-in_ok-lay-3
laying-preserved-in_ok-lay-3 c =
    let is : map entry_leaf c.laying.entry-iterator.rest.items ≡ node_of c.entry_leaf-leaf.result ∷ map entry_leaf c.next.new.self.rest.items =
    ap (map entry_leaf) c.in-Some.ensures.steps.0 ∙ ap (λ n. n ∷ map entry_leaf c.next.new.self.rest.items) (sym c.entry_leaf-leaf.ensures.node) in
    next_laid (raw_of c.args.geometry.now) _ _ (node_of c.entry_leaf-leaf.result ∷ []) (map entry_leaf c.next.new.self.rest.items) _ _ _ _ _ _ is c.laying.invariant c.in_ok-lay.ensures.laid
