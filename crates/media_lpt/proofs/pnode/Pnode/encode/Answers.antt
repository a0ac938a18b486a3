use Rattle.std.proofs.Common.{◌≡◌, arith, ap, sym, ◌∙◌, ◌+◌, ◌*◌, ◌^◌, ◌<◌, ℕ, subst, ◌∷◌}
use Rattle.std.specs.List.{flat_map}
use Rattle.ubifs_base.specs.RawOf.{raw_of}
use Rattle.ubifs_base.specs.Properties.{node_head_bits, bytes_for, node_number_bits, space_bits}
use Rattle.media_lpt.specs.Nodes.{lprop_fields, pnode_fields}
use Rattle.media_lpt.specs.Packed.{AllFit, IsPacked, field, bits_len}
use Rattle.media_lpt.proofs.FrameLemmas.{still_open, encoded}
use Rattle.media_lpt.proofs.ItemLemmas.{bits_len-four}
use Rattle.media_lpt.proofs.NodeLemmas.{bits_len-lprop}
use Rattle.media_lpt.specs.PackedLaws.{IsPut-cons}
use Rattle.media_lpt.proofs.pnode.Pnode.encode.Goals as goal

pub put-requires-clause-fits : goal.put-requires-clause-fits
unfolding pnode_fields AllFit
put-requires-clause-fits c = let P : ℕ → Type 0 = λ n. c.args.self.now.num < 2 ^ n in subst P (sym c.node_number-number_bits.ensures.number) c.requires.node.fit.0

pub put_props-requires-clause-fits : goal.put_props-requires-clause-fits
unfolding pnode_fields AllFit
put_props-requires-clause-fits c = c.requires.node.fit.1

pub seal-requires-clause-open : goal.seal-requires-clause-open
seal-requires-clause-open c = still_open c.start.new.out c.put_props.new.out 0 _ c.start.ensures.number
    (IsPut-cons c.start.new.out c.put.new.out c.put_props.new.out 20 c.node_number-number_bits.result c.args.self.now.num (flat_map (lprop_fields (raw_of c.args.geo.now)) c.args.self.now.props) c.put.ensures.put c.put_props.ensures)

pub returns : goal.returns
unfolding pnode_fields
returns c =
    let geo = raw_of c.args.geo.now in
    let node = c.args.self.now in
    let rest = flat_map (lprop_fields geo) node.props in
    let width = 2 * space_bits geo + 1 in
    let four : bits_len rest ≡ 4 * width = bits_len-four (lprop_fields geo) width node.props (bits_len-lprop geo) c.requires.node.four in
    let len : node_head_bits + node_number_bits geo + 4 * width ≡ node_head_bits + (c.node_number-number_bits.result + bits_len rest) = omega (arith, four, c.node_number-number_bits.ensures.number) in
    let P : ℕ → Type 0 = λ n. IsPacked c.seal.new.out 0 (field n node.num ∷ rest) in
    record {
      is = c.requires.node;
      packed = subst P c.node_number-number_bits.ensures.number
          (encoded c.start.new.out c.put.new.out c.put_props.new.out c.seal.new.out 0 c.node_number-number_bits.result node.num rest c.start.ensures.number c.put.ensures.put c.put_props.ensures c.seal.ensures.sum
          (c.seal.ensures.len ∙ c.put_props.ensures.same_len ∙ c.put.ensures.put.same_len ∙ c.start.ensures.len ∙ c.requires.room ∙ ap bytes_for len));
    }
