use Rattle.std.proofs.Common.{ℕ, ◌∷◌, ◌++◌, [], length, refl, arith, ap, ◌≡◌, ◌∙◌}
use Rattle.group_nodes.specs.Nodes.{node_of}
use Rattle.leaf_map.specs.Kept.{kept_at}
use Rattle.media_leaf.specs.LeafNode.{LeafNode}
use Rattle.image_maker.specs.Places.{placed_leaf}
use Rattle.image_maker.proofs.open_leb.OpenLeb.append.Goals as goal

pub returns : goal.returns
returns c =
    let n : ℕ × LeafNode = (c.args.self.now.sqnum, node_of c.args.leaf.now) in
    let long : c.args.self.now.bytes.len ≡ length c.args.self.now.bytes.items = omega arith in
    record {
      lnum = refl;
      sqnum = refl;
      bytes = c.in_ok-append_text.ensures.bytes;
      len = c.in_ok-append_text.ensures.len;
      leaves =
          c.in_ok-push.ensures.items
          ∙ ap (λ x. c.args.self.now.leaves.items ++ x ∷ []) (c.leaf_at.ensures c.args.self.now.sqnum)
          ∙ ap (λ (k : ℕ). c.args.self.now.leaves.items ++ (kept_at (placed_leaf c.args.self.now.lnum k n)).leaf ∷ []) (c.len-offs.ensures ∙ long);
      used = refl;
    }
