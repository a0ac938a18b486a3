use Rattle.std.proofs.Common.{subst}
use Rattle.std.proofs.lemmas.Bool.{false≢true}
use Rattle.sound_image.specs.ContentsLaws.{contents_bytes}
use Rattle.shown_leaves.specs.Sources.{bytes_of}
use Rattle.shown_leaves.specs.Stored.{IsStoredIn}
use Rattle.shown_leaves.proofs.JudgedLeaves.{stands_if, stands_not}
use Rattle.shown_leaves.proofs.leaves.stands_there.Goals as goal

pub returns-in_default-clause-stands : goal.returns-in_default-clause-stands
returns-in_default-clause-stands g c x sourced named =
    let old = g.V.Volume.state c.args.volume.now in
    let none = subst (IsStoredIn (bytes_of old.holds c.args.leaf.now.leaf)) c.in_default.is c.in_ok-there.ensures.read in
    ((λ yes. absurd (false≢true yes)), (λ stands. absurd (stands_not old.holds x c.args.leaf.now none sourced.is stands)))

pub returns-clause-stands : goal.returns-clause-stands
returns-clause-stands g c x sourced named =
    let old = g.V.Volume.state c.args.volume.now in
    let fits = contents_bytes old (λ k less. g.met.V.Volume.leb_bytes c.args.volume.now k less) (λ k high. g.met.V.Volume.none c.args.volume.now k high) in
    let there = subst (IsStoredIn (bytes_of old.holds c.args.leaf.now.leaf)) c.in-Some.is c.in_ok-there.ensures.read in
    stands_if c.one_node.ensures old.holds fits x c.args.leaf.now c.in-Some.there c.args.node.now c.is_same_node.result there sourced.is named c.is_same_node.ensures
