use Rattle.std.proofs.Common.{◌≡◌, [], ◌∷◌, map, sym, ◌∙◌, ap}
use Rattle.ubifs_base.specs.RawOf.{raw_of}
use Rattle.group_nodes.specs.Nodes.{node_of}
use Rattle.image_maker.specs.Leaves.{block_leaf}
use Rattle.image_maker.proofs.Ready.{begins, next_ready, next_laid}
use Rattle.image_maker.proofs.layout.lay_blocks.Goals as goal

pub laying-init : goal.laying-init
laying-init c = begins (raw_of c.args.geometry.now) _ _ _ _ c.requires.ready (ap (map block_leaf) c.blocks_of-rest.ensures)

pub lay-requires : goal.lay-requires
lay-requires c =
    let is : map block_leaf c.laying.rest ≡ node_of c.in_ok-leaf.leaf ∷ map block_leaf c.next.new.self =
    ap (map block_leaf) c.in-Some.ensures.steps ∙ ap (λ n. n ∷ map block_leaf c.next.new.self) (sym c.in_ok-leaf.ensures.node) in
    record { ready = next_ready (raw_of c.args.geometry.now) _ _ (node_of c.in_ok-leaf.leaf ∷ []) (map block_leaf c.next.new.self) _ _ _ _ c.requires.ready is c.laying.invariant; mode = c.in_ok-leaf.ensures.mode }

pub laying-preserved-in_ok-lay-2 : goal.laying-preserved-in_ok-lay-2
laying-preserved-in_ok-lay-2 c =
    let is : map block_leaf c.laying.rest ≡ node_of c.in_ok-leaf.leaf ∷ map block_leaf c.next.new.self =
    ap (map block_leaf) c.in-Some.ensures.steps ∙ ap (λ n. n ∷ map block_leaf c.next.new.self) (sym c.in_ok-leaf.ensures.node) in
    next_laid (raw_of c.args.geometry.now) _ _ (node_of c.in_ok-leaf.leaf ∷ []) (map block_leaf c.next.new.self) _ _ _ _ _ _ is c.laying.invariant c.in_ok-lay.ensures.laid

pub laying-preserved-in_ok-lay-4 : goal.laying-preserved-in_ok-lay-4
laying-preserved-in_ok-lay-4 c =
    let is : map block_leaf c.laying.rest ≡ node_of c.in_ok-leaf.leaf ∷ map block_leaf c.next.new.self =
    ap (map block_leaf) c.in-Some.ensures.steps ∙ ap (λ n. n ∷ map block_leaf c.next.new.self) (sym c.in_ok-leaf.ensures.node) in
    next_laid (raw_of c.args.geometry.now) _ _ (node_of c.in_ok-leaf.leaf ∷ []) (map block_leaf c.next.new.self) _ _ _ _ _ _ is c.laying.invariant c.in_ok-lay.ensures.laid
