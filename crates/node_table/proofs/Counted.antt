-- The numbers of trees of nodes, and nodes that are taken back.
use Rattle.std.proofs.Common.{◌≡◌, ℕ, ◌+◌, ◌≤◌, false, List, length, take, refl, ap, sym, ◌∙◌, subst, arith, inl, inr}
use Rattle.std.specs.Prelude.{Option, None, Some, Result, Ok, Err, IfOk, if◌then◌else◌, nat_le}
use Rattle.std.proofs.lemmas.Bool.{cases_Bool}
use Rattle.std.proofs.lemmas.Bool.Decides.{nat_tests}
use Rattle.std.proofs.Math.Seq.{take-append_seam}
use Rattle.ubifs_base.specs.declared.key.Key.{Key}
use Rattle.ubi_volume.specs.declared.fault.AreaFault.{AreaFault}
use Rattle.index_tree.specs.Shape.{Shape, done, node, count, node_count, shape_weight, full}
use Rattle.index_media.specs.PlacedRow.{PlacedRow, ended, node_at, plain}
use Rattle.media_sys.specs.declared.branch.Branch.{Branch}
use Rattle.index_media.specs.KeyedRow.{KeyedRow, no_more, bare}
use Rattle.node_table.specs.Counting.{counts_of, AreCountsOf}
use Rattle.table_nodes.specs.NodeView.{NodeView, node_before, row_of, children_in}
use Rattle.table_nodes.specs.Links.{AreNodesAdded}
use Rattle.node_table.specs.declared.counts.TreeCounts.{TreeCounts}
use Rattle.table_nodes.specs.declared.link.Link.{Link}
use Rattle.table_nodes.specs.declared.node.TableNode.{TableNode}
use Rattle.node_table.proofs.Staged.{links_counted}

-- a node without children
pub none_sized : (f : ℕ) (children : KeyedRow) → 3 ≤ f → children ≡ no_more → record { nodes = 1; weight = 1 } ≡ counts_of f children
none_sized f children three none =
    let few : nat_le f 0 ≡ false = grind (arith, nat_tests, three) in
    let P : KeyedRow → Type 0 = λ r. record { nodes = 1; weight = 1 } ≡ counts_of f r in
    subst P (sym none) (rw few refl)

-- a node's own numbers and those of the trees below it
same_counts : (own : TreeCounts) (n w : ℕ) → own.nodes ≡ n → own.weight ≡ w → own ≡ record { nodes = n; weight = w }
same_counts own n w a b = ap (λ (k : ℕ). record { nodes = k; weight = own.weight }) a ∙ ap (λ (k : ℕ). record { nodes = n; weight = k }) b

full_alone : (f : ℕ) (seen : List NodeView) (links : List Link) → 1 + (if nat_le f (length links) then 1 else 0) ≡ 1 + full f (bare (row_of seen links))
full_alone f seen links =
    let P : ℕ → Type 0 = λ n. 1 + (if nat_le f n then 1 else 0) ≡ 1 + full f (bare (row_of seen links)) in
    subst P (sym (links_counted seen links)) (elim (cases_Bool (nat_le f (count (bare (row_of seen links))))) [
      | inl e ↦ rw e refl
      | inr e ↦ rw e refl
    ])

sized_over : (f : ℕ) (seen : List NodeView) (links : List Link) (alone own below : TreeCounts) → own.nodes ≡ alone.nodes + below.nodes → own.weight ≡ alone.weight + below.weight
    → alone.nodes ≡ 1 → alone.weight ≡ 1 + (if nat_le f (length links) then 1 else 0) → below.nodes ≡ node_count (bare (row_of seen links)) → below.weight ≡ shape_weight f (bare (row_of seen links))
    → own ≡ counts_of f (row_of seen links)
sized_over f seen links alone own below n w a b c d =
    let whole = b ∙ full_alone f seen links in
    same_counts own (node_count (bare (row_of seen links)) + 0 + 1) (shape_weight f (bare (row_of seen links)) + 0 + 1 + full f (bare (row_of seen links)))
    (omega (arith, n, a, c)) (omega (arith, w, whole, d))

pub sized : (f : ℕ) (seen : List NodeView) (links : List Link) (children : KeyedRow) (alone own below : TreeCounts) → children ≡ row_of seen links
    → own.nodes ≡ alone.nodes + below.nodes → own.weight ≡ alone.weight + below.weight → alone.nodes ≡ 1 → alone.weight ≡ 1 + (if nat_le f (length links) then 1 else 0)
    → below.nodes ≡ node_count (bare (row_of seen links)) → below.weight ≡ shape_weight f (bare (row_of seen links)) → own ≡ counts_of f children
sized f seen links children alone own below e n w a b c d = sized_over f seen links alone own below n w a b c d ∙ ap (counts_of f) (sym e)

-- those of a tree that stands on a volume
pub sized_there : (f : ℕ) (branch : Branch) (row : PlacedRow) (children : KeyedRow) (r : Result TreeCounts AreaFault) → plain row ≡ bare children → IfOk r (λ counts. AreCountsOf f (plain (node_at branch row ended)) counts)
    → IfOk r (λ own. own ≡ counts_of f children)
sized_there f branch row children (Ok own) e h =
    same_counts own (node_count (node (bare children) done)) (shape_weight f (node (bare children) done)) (h.0 ∙ ap (λ (s : Shape). node_count (node s done)) e) (h.1 ∙ ap (λ (s : Shape). shape_weight f (node s done)) e)
sized_there f branch row children (Err fault) e h = tt

-- what one link leads to
node_apart : (f : ℕ) (key : Key) (o : Option NodeView) (rest : KeyedRow) → (node_count (bare (node_before key o rest)) ≡ node_count (bare (children_in o)) + node_count (bare rest) + 1)
    × (shape_weight f (bare (node_before key o rest)) ≡ shape_weight f (bare (children_in o)) + shape_weight f (bare rest) + 1 + full f (bare (children_in o)))
node_apart f key None rest = (refl, refl)
node_apart f key (Some v) rest = (refl, refl)

pub root_nodes : (f : ℕ) (key : Key) (o : Option NodeView) (r : Result TreeCounts AreaFault) → IfOk r (λ own. own ≡ counts_of f (children_in o)) → IfOk r (λ own. own.nodes ≡ node_count (bare (node_before key o no_more)))
root_nodes f key o (Ok own) h = ap (λ (c : TreeCounts). c.nodes) h ∙ sym (node_apart f key o no_more).0
root_nodes f key o (Err fault) h = tt

pub root_weight : (f : ℕ) (key : Key) (o : Option NodeView) (r : Result TreeCounts AreaFault) → IfOk r (λ own. own ≡ counts_of f (children_in o)) → IfOk r (λ own. own.weight ≡ shape_weight f (bare (node_before key o no_more)))
root_weight f key o (Ok own) h = ap (λ (c : TreeCounts). c.weight) h ∙ sym (node_apart f key o no_more).1
root_weight f key o (Err fault) h = tt

pub ruleset link_sizes = (root_nodes, root_weight)

-- ---- nodes that are taken back
pub taken_back : (old mid : List TableNode) (n : ℕ) → AreNodesAdded old mid → n ≡ length old → take n mid ≡ old
taken_back old mid n a e = ap (λ k. take k mid) e ∙ ap (take (length old)) a.is ∙ take-append_seam old a.more
