use Rattle.leaf_map.specs.Kept.{Kept}
use Rattle.sound_image.specs.ContentsLaws.{contents_bytes}
use Rattle.shown_leaves.specs.Sources.{IsSourced}
use Rattle.shown_leaves.specs.Stored.{IsStoredIn, leaf_node}
use Rattle.std.proofs.Common.{◌≡◌, Some}
use Rattle.std.specs.Option.{option_map}
use Rattle.shown_leaves.proofs.JudgedLeaves.{bytes_from, source_is}
use Rattle.shown_leaves.proofs.Stored.{ok_map}
use Rattle.shown_leaves.proofs.leaves.source_node.Goals as goal

pub returns-clause-node : goal.returns-clause-node
returns-clause-node g c =
    let old = g.V.Volume.state c.args.volume.now in
    let fits = contents_bytes old (λ k less. g.met.V.Volume.leb_bytes c.args.volume.now k less) (λ k high. g.met.V.Volume.none c.args.volume.now k high) in
    ok_map c.read_node.result (IsStoredIn (bytes_from old.holds c.in-Some.source)) (λ found. (x : Kept) → IsSourced old.holds x c.args.leaf.now → option_map leaf_node found ≡ Some x.node)
    (λ found read x sourced. source_is c.one_node.ensures old.holds fits x c.args.leaf.now c.in-Some.source found c.in-Some.is read sourced)
    c.read_node.ensures.read
