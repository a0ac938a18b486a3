use Rattle.std.proofs.Common.{◌∙◌, ap}
use Rattle.ubifs_base.specs.declared.key.Key.TheVariants.{Ino}
use Rattle.media_sys.specs.Index.{Index}
use Rattle.index_cache.proofs.Roots.{any_key, first_key_of, first_is_key}
use Rattle.index_cache.proofs.reading.read_root.Goals as goal

pub read_node-requires-clause-node : goal.read_node-requires-clause-node
read_node-requires-clause-node g c =
    let own = c.requires.node in
    (own.1, any_key (g.V.Volume.state c.args.volume.now).holds c.args.place.now own.0 (Ino 0) own.1 own.2)

pub returns-clause-first : goal.returns-clause-first
returns-clause-first g c key said h =
    let said_is = c.in_ok-node.ensures.said said (any_key (g.V.Volume.state c.args.volume.now).holds c.args.place.now key (Ino 0) said h) in
    first_key_of said.branches c.as_slice.result.now _ c.in-Some.first.now (c.as_slice.ensures.value ∙ ap (λ (i : Index). i.branches) said_is) c.in-Some.ensures.cases.0

pub returns-clause-key : goal.returns-clause-key
returns-clause-key g c =
    let own = c.requires.node in
    let h = any_key (g.V.Volume.state c.args.volume.now).holds c.args.place.now own.0 (Ino 0) own.1 own.2 in
    let said_is = c.in_ok-node.ensures.said own.1 h in
    first_is_key own.1.branches c.as_slice.result.now _ c.in-Some.first.now (c.as_slice.ensures.value ∙ ap (λ (i : Index). i.branches) said_is) c.in-Some.ensures.cases.0 h.is.is.keys
