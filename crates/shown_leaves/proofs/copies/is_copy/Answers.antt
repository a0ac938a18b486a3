use Rattle.std.proofs.Common.{◌≡◌, ◌∙◌, List, sym, ap}
use Rattle.std.specs.Prelude.{◌↔◌, IsTrue}
use Rattle.std.specs.Option.{option_map}
use Rattle.leaf_map.specs.Kept.{Placed}
use Rattle.leaf_map.specs.Parts.{Committed, Named, Parts}
use Rattle.journal_scan.specs.Content.{told}
use Rattle.sound_image.specs.Leaves.{IsPlacedIn}
use Rattle.sound_image.specs.ContentsLaws.{contents_bytes}
use Rattle.shown_leaves.specs.Copies.{AreCommittedTold, DecidesCopy, IsOwnAmong}
use Rattle.shown_leaves.specs.Stored.{leaf_node}
use Rattle.shown_leaves.proofs.CopiedNodes.{lost_copy, no_copy, node_there, own_copy, rank_is, read_kept}
use Rattle.shown_leaves.proofs.JudgedLeaves.{some_same}
use Rattle.shown_leaves.proofs.Stored.{ok_map}
use Rattle.shown_leaves.proofs.copies.is_copy.Goals as goal

pub returns-in_default-clause-copy : goal.returns-in_default-clause-copy
returns-in_default-clause-copy g c parts x read placed is =
    no_copy (g.V.Volume.state c.args.volume.now).holds parts c.args.references.now c.args.committed.now c.args.copy.now x read placed is (sym c.key_of.ensures ∙ c.in_default.is)

pub returns-then-is_of_lost-clause-copy : goal.returns-then-is_of_lost-clause-copy
returns-then-is_of_lost-clause-copy g c parts x read placed is =
    let old = g.V.Volume.state c.args.volume.now in
    let has = rank_is old.holds c.args.copy.now x c.in-Some.key c.rank-rank.result placed is (sym c.key_of.ensures ∙ c.in-Some.is) c.rank-rank.ensures in
    lost_copy old.holds parts c.args.references.now c.args.committed.now x c.rank-rank.result c.is_of_lost.result read has c.is_of_lost.ensures c.if-is_of_lost.true

pub returns-in_default-2-clause-copy : goal.returns-in_default-2-clause-copy
returns-in_default-2-clause-copy g c parts x read placed is =
    let old = g.V.Volume.state c.args.volume.now in
    let fits = contents_bytes old (λ k less. g.met.V.Volume.leb_bytes c.args.volume.now k less) (λ k high. g.met.V.Volume.none c.args.volume.now k high) in
    let e = sym (ap (option_map leaf_node) c.in_default-2.is) ∙ node_there c.one_node.ensures old.holds fits c.args.copy.now x c.in_ok-node.field-0 is placed c.in_ok-node.ensures.read in
    absurd cc

pub returns-clause-copy : goal.returns-clause-copy
returns-clause-copy g c =
    let old = g.V.Volume.state c.args.volume.now in
    let now = g.V.Volume.state c.read_node.new.volume in
    let fits = contents_bytes old (λ k less. g.met.V.Volume.leb_bytes c.args.volume.now k less) (λ k high. g.met.V.Volume.none c.args.volume.now k high) in
    ok_map c.is_among.result
    (λ is. (named : List Named) (leaves : List Committed) → AreCommittedTold now.holds named leaves c.args.references.now c.args.committed.now → IsTrue is ↔ IsOwnAmong named c.rank-rank.result leaves (leaf_node c.in-Some-2.node))
    (λ is. (parts : Parts) (x : Placed) → AreCommittedTold old.holds parts.named parts.committed c.args.references.now c.args.committed.now → IsPlacedIn old.holds x → c.args.copy.now ≡ told x → DecidesCopy parts x is)
    (λ is own parts x read placed e.
    let has = rank_is old.holds c.args.copy.now x c.in-Some.key c.rank-rank.result placed e (sym c.key_of.ensures ∙ c.in-Some.is) c.rank-rank.ensures in
    let same = some_same (leaf_node c.in-Some-2.node) x.node (sym (ap (option_map leaf_node) c.in-Some-2.is) ∙ node_there c.one_node.ensures old.holds fits c.args.copy.now x c.in_ok-node.field-0 e placed c.in_ok-node.ensures.read) in
    own_copy old.holds parts c.args.references.now c.args.committed.now x c.rank-rank.result c.is_of_lost.result is (leaf_node c.in-Some-2.node) read has c.is_of_lost.ensures c.if-is_of_lost.false same
    (own parts.named parts.committed (read_kept old.holds now.holds c.read_node.ensures.keeps.holds parts.named parts.committed c.args.references.now c.args.committed.now read)))
    c.is_among.ensures.own
