-- A node of a table as an index node of the medium.
use Rattle.std.proofs.Common.{◌≡◌, ℕ, ◌+◌, ◌-◌, ◌≤◌, true, List, [], ◌∷◌, length, refl, ap, sym, ◌∙◌, subst, arith, inl, inr}
use Rattle.std.specs.Prelude.{nat_lt, Option, None, Some, IsTrue, map, slice_get}
use Rattle.std.specs.List.{AllByRecursion}
use Rattle.std.proofs.lemmas.Bool.{lt-ltb}
use Rattle.std.proofs.lemmas.List.Elements.{All-get_or}
use Rattle.std.proofs.lemmas.Option.{slice_get_cases}
use Rattle.ubifs_base.specs.Key.{IsKey}
use Rattle.ubifs_base.specs.declared.key.Key.{Key}
use Rattle.index_tree.specs.Levels.{levelled}
use Rattle.index_tree.specs.Shape.{Shape, count, leaf, node, done, is_whole}
use Rattle.index_media.specs.Clean.{node_branch, placed_of}
use Rattle.index_media.specs.InsertionSound.{AreKeys, fit_node}
use Rattle.index_media.specs.KeyedRow.{KeyedRow, no_more, leaf_in, node_in, bare}
use Rattle.index_media.specs.PlacedRow.{Stretch, plain, branch_to, branches_of}
use Rattle.media_sys.specs.Index.{IsIdxNode, in_order}
use Rattle.media_sys.specs.declared.branch.Branch.{Branch}
use Rattle.table_nodes.specs.NodeView.{NodeView, node_views, node_view_of, row_of, node_before, children_in, tree_at}
use Rattle.node_table.specs.Pruning.{stretch_in}
use Rattle.table_nodes.specs.Sound.{IsSoundView, AreSoundViews}
use Rattle.table_nodes.specs.declared.link.Link.{Link}
use Rattle.table_nodes.specs.declared.link.Link.TheVariants.{ToLeaf, ToNode}
use Rattle.table_nodes.specs.declared.node.Root.{Root}
use Rattle.table_nodes.specs.declared.node.TableNode.{TableNode}
use Rattle.index_cache.specs.Commit.{link_branch}

-- the branches to what links lead to
node_first : (key : Key) (o : Option NodeView) (rest : KeyedRow) → branches_of (placed_of (node_before key o rest)) ≡ node_branch key (stretch_in o) ∷ branches_of (placed_of rest)
node_first key None rest = refl
node_first key (Some v) rest = refl

pub linked_branches : (seen : List NodeView) (links : List Link) → branches_of (placed_of (row_of seen links)) ≡ map (link_branch seen) links
linked_branches seen [] = refl
linked_branches seen (ToLeaf x ∷ links) = ap (λ (bs : List Branch). branch_to x ∷ bs) (linked_branches seen links)
linked_branches seen (ToNode key number ∷ links) =
    node_first key (slice_get seen number) (row_of seen links) ∙ ap (λ (bs : List Branch). node_branch key (stretch_in (slice_get seen number)) ∷ bs) (linked_branches seen links)

map_long : (seen : List NodeView) (links : List Link) → length (map (link_branch seen) links) ≡ length links
map_long seen [] = refl
map_long seen (link ∷ links) = let more = map_long seen links in omega (arith, more)

pub branches_long : (seen : List NodeView) (links : List Link) → length (branches_of (placed_of (row_of seen links))) ≡ length links
branches_long seen links = ap length (linked_branches seen links) ∙ map_long seen links

-- of a row there are as many branches as siblings
pub branches_counted : (row : KeyedRow) → length (branches_of (placed_of row)) ≡ count (bare row)
branches_counted no_more = refl
branches_counted (leaf_in x rest) = let more = branches_counted rest in omega (arith, more)
branches_counted (node_in key place children rest) = let more = branches_counted rest in omega (arith, more)

branch_key : (key : Key) (place : Option Stretch) → (node_branch key place).key ≡ key
branch_key key None = refl
branch_key key (Some p) = refl

pub branches_keys : (row : KeyedRow) → AreKeys row → AllByRecursion (λ branch. IsKey branch.key) (branches_of (placed_of row))
branches_keys no_more h = tt
branches_keys (leaf_in x rest) h = (h.0, branches_keys rest h.1)
branches_keys (node_in key place children rest) h = (subst IsKey (sym (branch_key key place)) h.0, branches_keys rest h.2)

-- how many children a node has
pub few_links : (f : ℕ) (seen : List NodeView) (n : TableNode) → f ≤ 256 → IsSoundView f (node_view_of seen n) → (node_view_of seen n).children ≡ row_of seen n.links.items → length n.links.items ≤ 256
few_links f seen n most s row =
    let fit = (fit_node f (bare (node_view_of seen n).children) done s.0).most in
    let same = ap (λ (r : KeyedRow). count (bare r)) row in
    let long = branches_long seen n.links.items in
    let counted = branches_counted (row_of seen n.links.items) in
    omega (arith, fit, same, long, counted, most)

pub few_children : (f : ℕ) (seen : List NodeView) (n : TableNode) → IsSoundView f (node_view_of seen n) → length (branches_of (placed_of (node_view_of seen n).children)) ≤ f
few_children f seen n s =
    let fit = (fit_node f (bare (node_view_of seen n).children) done s.0).most in
    let counted = branches_counted (node_view_of seen n).children in
    omega (arith, fit, counted)

-- what a node says is an index node
pub says_node : (f level : ℕ) (v : NodeView) (branches : List Branch) → f ≤ 256 → IsSoundView f v → branches ≡ branches_of (placed_of v.children) → IsTrue (in_order None branches)
    → IsIdxNode (record { level = level; branches = branches })
says_node f level v branches most s e order =
    let fit = fit_node f (bare v.children) done s.0 in
    let least = fit.least in
    let more = fit.most in
    let long = ap length e ∙ branches_counted v.children in
    record {
      some = omega (arith, long, least);
      most = omega (arith, long, more, most);
      keys = subst (λ bs. AllByRecursion (λ branch. IsKey branch.key) bs) (sym e) (branches_keys v.children s.3);
      order = order;
    }

-- the branch to a root
pub root_branch : (nodes : List TableNode) (o : Option Root) (root : Root) (branch : Branch) → o ≡ Some root → branch ≡ node_branch root.key (stretch_in (slice_get (node_views nodes) root.number))
    → Some branch ≡ slice_get (branches_of (placed_of (tree_at nodes o))) 0
root_branch nodes o root branch e b =
    ap (λ (x : Branch). Some x) b
    ∙ sym (ap (λ r. slice_get (branches_of (placed_of (tree_at nodes r))) 0) e ∙ ap (λ (bs : List Branch). slice_get bs 0) (node_first root.key (slice_get (node_views nodes) root.number) no_more))

-- the index below a root is one: a root alone, or nothing, with all leaves on one level
before_bare : (key : Key) (o : Option NodeView) → bare (node_before key o no_more) ≡ node (bare (children_in o)) done
before_bare key None = refl
before_bare key (Some v) = refl

pub root_whole : (nodes : List TableNode) (o : Option Root) → is_whole (bare (tree_at nodes o)) ≡ true
root_whole nodes None = refl
root_whole nodes (Some root) = ap is_whole (before_bare root.key (slice_get (node_views nodes) root.number))

below_levelled : (f : ℕ) (seen : List NodeView) (number : ℕ) → AreSoundViews f seen → (level : ℕ) × (levelled level (bare (children_in (slice_get seen number))) ≡ true)
below_levelled f seen number sound = elim ((slice_get_cases seen number).1) [
  | inl (v, there, e, got) ↦
      let own = All-get_or (λ w. IsSoundView f w) seen number v there sound in
      (v.level, ap (λ o. levelled v.level (bare (children_in o))) e ∙ (subst (λ w. IsSoundView f w) got own).1)
  | inr (past, e) ↦ (0, ap (λ o. levelled 0 (bare (children_in o))) e)
]

over_level : (level : ℕ) (children : Shape) → levelled level children ≡ true → levelled (level + 1) (node children done) ≡ true
over_level level children h =
    let same : level + 1 - 1 ≡ level = omega arith in
    let above : nat_lt 0 (level + 1) ≡ true = lt-ltb 0 (level + 1) (omega arith) in
    let below : levelled (level + 1 - 1) children ≡ true = ap (λ n. levelled n children) same ∙ h in
    rw (above, below) refl

pub root_levelled : (f : ℕ) (nodes : List TableNode) (o : Option Root) → AreSoundViews f (node_views nodes) → (level : ℕ) × (levelled level (bare (tree_at nodes o)) ≡ true)
root_levelled f nodes None sound = (0, refl)
root_levelled f nodes (Some root) sound =
    let below = below_levelled f (node_views nodes) root.number sound in (
      below.0 + 1,
      ap (levelled (below.0 + 1)) (before_bare root.key (slice_get (node_views nodes) root.number)) ∙ over_level below.0 (bare (children_in (slice_get (node_views nodes) root.number))) below.1,
    )

-- a placed row has the shape of the row that it places
pub plain_placed : (row : KeyedRow) → plain (placed_of row) ≡ bare row
plain_placed no_more = refl
plain_placed (leaf_in x rest) = ap (leaf x) (plain_placed rest)
plain_placed (node_in key place children rest) = rw (plain_placed children, plain_placed rest) refl
