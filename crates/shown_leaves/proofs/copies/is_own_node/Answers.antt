use Rattle.std.proofs.Common.{◌≡◌, ◌∙◌, map, sym, subst, ap, refl, true, rules}
use Rattle.std.proofs.lemmas.Bool.{false≢true}
use Rattle.index_tree.specs.Order.{leaf_rank}
use Rattle.index_tree.specs.declared.leaf.Leaf.{Leaf}
use Rattle.log_replay.specs.declared.committed_leaf.CommittedLeaf.{CommittedLeaf}
use Rattle.sound_image.specs.Image.{named_by_ref_node}
use Rattle.sound_image.specs.ContentsLaws.{contents_bytes}
use Rattle.shown_leaves.specs.Copies.{has_own_told}
use Rattle.shown_leaves.specs.Sources.{bytes_of}
use Rattle.shown_leaves.specs.Stored.{IsStoredIn, leaf_node}
use Rattle.shown_leaves.proofs.CopiedNodes.{has_own, not_there, own_if}
use Rattle.shown_leaves.proofs.copies.is_own_node.Goals as goal

pub returns-in_default-clause-own : goal.returns-in_default-clause-own
returns-in_default-clause-own g c x is stands =
    let old = g.V.Volume.state c.args.volume.now in
    let P : Leaf → Type 0 = λ l. IsStoredIn (bytes_of old.holds l) c.in_ok-there.field-0 in
    let read = subst P (ap (λ (l : CommittedLeaf). l.leaf) is) c.in_ok-there.ensures.read in
    let none = subst (IsStoredIn (bytes_of old.holds x.leaf)) c.in_default.is read in
    ((λ said. absurd (false≢true said)), (λ h. absurd (not_there old.holds (map named_by_ref_node c.args.references.now) c.args.sought x (leaf_node c.args.node.now) stands none h)))

pub returns-clause-own : goal.returns-clause-own
returns-clause-own g c x is stands =
    let old = g.V.Volume.state c.args.volume.now in
    let fits = contents_bytes old (λ k less. g.met.V.Volume.leb_bytes c.args.volume.now k less) (λ k high. g.met.V.Volume.none c.args.volume.now k high) in
    let named = map named_by_ref_node c.args.references.now in
    let P : Leaf → Type 0 = λ l. IsStoredIn (bytes_of old.holds l) c.in_ok-there.field-0 in
    let read = subst P (ap (λ (l : CommittedLeaf). l.leaf) is) c.in_ok-there.ensures.read in
    let there = subst (IsStoredIn (bytes_of old.holds x.leaf)) c.in-Some.is read in
    let key : leaf_rank x.leaf ≡ c.args.sought = ap (λ (l : CommittedLeaf). leaf_rank l.leaf) (sym is) ∙ sym c.rank.ensures ∙ c.if-rank-sought.false in
    let owned : c.has_own.result ≡ true = search rules in
    let has = sym (has_own old.holds c.args.references.now named x refl stands) ∙ ap (has_own_told c.args.references.now) (sym is) ∙ sym c.has_own.ensures ∙ owned in
    own_if c.one_node.ensures old.holds fits named c.args.sought x c.in-Some.there c.args.node.now c.is_same_node.result stands key has there c.is_same_node.ensures
