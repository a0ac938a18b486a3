-- Each change of an index makes an index.
use Rattle.std.specs.Prelude.{◌≡◌, ℕ, ◌+◌, ◌≤◌}
use Rattle.std.proofs.Common.{sym, ap, ◌∙◌, arith}
use Rattle.index_tree.specs.declared.leaf.Leaf.{Leaf}
use Rattle.index_tree.specs.Keyed.{HasKey}
use Rattle.index_tree.specs.Listing.{listed}
use Rattle.index_tree.specs.Order.{leaf_rank, placed}
use Rattle.index_tree.specs.RangeRemoval.{outside_range, without_range}
use Rattle.index_tree.specs.Rebuild.{IsIndex, IsIndexOf}
use Rattle.index_tree.specs.Removal.{without, without_leaf}
use Rattle.index_tree.specs.Replacement.{swapped, replaced}
use Rattle.index_tree.specs.Shape.{Shape, contents, shape_weight, with_leaf}
use Rattle.index_tree.proofs.CollapseLaws.{without_leaf-laws, without_leaf-ordered}
use Rattle.index_tree.proofs.InsertLaws.{with_leaf-laws, with_leaf-contents, with_leaf-ordered}
use Rattle.index_tree.proofs.KeyedLaws.{with_leaf-keyed, without_leaf-keyed, without_range-keyed, swapped-keyed}
use Rattle.index_tree.proofs.LevelLaws.{with_leaf-levelled, without_leaf-levelled, without_range-levelled, replaced-levelled}
use Rattle.index_tree.proofs.RangeLaws.{without_range-laws, without_range-ordered}
use Rattle.index_tree.proofs.RebuildLaws.{rebuilt, rebuilt-index}
use Rattle.index_tree.proofs.ReplacementLaws.{replaced-contents, replaced-same, replaced-whole, swapped-ordered}

pub with_leaf-index : (f : ℕ) (new : Leaf) (s : Shape) → 3 ≤ f → HasKey new → IsIndex f s → IsIndexOf f (placed new (contents s)) (shape_weight f s + 1) (with_leaf f new s)
with_leaf-index f new s three key i =
    let g = with_leaf-laws f new s three i.whole i.sound in
    record {
      index = record {
        whole = g.whole;
        sound = g.sound;
        ordered = with_leaf-ordered f new s three i.whole i.sound i.ordered;
        levels = with_leaf-levelled f new s three i.whole i.sound i.levels;
        keyed = with_leaf-keyed f new s three i.whole i.sound i.ordered key i.keyed;
      };
      holds = with_leaf-contents f new s three i.whole i.sound i.ordered;
      weight = g.one_heavier;
    }

pub without_leaf-index : (f : ℕ) (gone : Leaf) (s : Shape) → IsIndex f s → IsIndexOf f (without gone (contents s)) (shape_weight f s) (without_leaf gone s)
without_leaf-index f gone s i =
    let g = without_leaf-laws f gone s i.whole i.sound in
    record {
      index = record {
        whole = g.whole;
        sound = g.sound;
        ordered = without_leaf-ordered f gone s i.whole i.sound i.ordered;
        levels = without_leaf-levelled f gone s i.whole i.sound i.levels;
        keyed = without_leaf-keyed f gone s i.whole i.sound i.keyed;
      };
      holds = g.leaves;
      weight = g.no_heavier;
    }

pub without_range-index : (f from to : ℕ) (s : Shape) → IsIndex f s → IsIndexOf f (outside_range from to (contents s)) (shape_weight f s) (without_range from to s)
without_range-index f from to s i =
    let g = without_range-laws f from to s i.whole i.sound in
    record {
      index = record {
        whole = g.whole;
        sound = g.sound;
        ordered = without_range-ordered f from to s i.whole i.sound i.ordered;
        levels = without_range-levelled f from to s i.whole i.sound i.levels;
        keyed = without_range-keyed f from to s i.whole i.sound i.keyed;
      };
      holds = g.leaves;
      weight = g.no_heavier;
    }

pub replaced-index : (f : ℕ) (old new : Leaf) (s : Shape) → HasKey new → leaf_rank new ≡ leaf_rank old → IsIndex f s → IsIndexOf f (swapped old new (contents s)) (shape_weight f s) (replaced old new s)
replaced-index f old new s key one i =
    let g = replaced-same f old new s i.sound in
    let is = replaced-contents old new s in
    record {
      index = record {
        whole = replaced-whole old new s i.whole;
        sound = g.sound;
        ordered = rw is (swapped-ordered 0 old new (contents s) one i.ordered);
        levels = replaced-levelled f old new s i.sound i.levels;
        keyed = rw is (swapped-keyed old new (contents s) key i.keyed);
      };
      holds = is;
      weight = omega (arith, g.weight);
    }

pub one_shape : (f : ℕ) (s t : Shape) → IsIndex f s → IsIndex f t → listed s ≡ listed t → s ≡ t
one_shape f s t i j e = sym (rebuilt-index f s i) ∙ ap rebuilt e ∙ rebuilt-index f t j
