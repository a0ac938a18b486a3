-- The root that a removal of a range makes.
use Rattle.std.proofs.Common.{◌≡◌, ℕ, false, List, [], refl, ap, sym, ◌∙◌, subst, inl, inr, append-nil}
use Rattle.std.specs.Prelude.{Option, None, Some, ◌==◌, slice_get}
use Rattle.std.proofs.lemmas.Bool.{cases_Bool}
use Rattle.ubifs_base.specs.declared.key.Key.{Key}
use Rattle.index_tree.specs.RangeRemoval.{within_range}
use Rattle.index_tree.specs.Shape.{contents, count, lone}
use Rattle.index_media.specs.KeyedRange.{pruned_by_keys, without_range_by_keys}
use Rattle.index_media.specs.KeyedRemoval.{keyed_collapsed}
use Rattle.index_media.specs.KeyedRow.{KeyedRow, no_more, bare}
use Rattle.table_nodes.specs.NodeView.{NodeView, row_of, node_views, children_in, tree_at, leaves_at}
use Rattle.node_table.specs.Pruning.{pruned_node}
use Rattle.table_nodes.specs.Links.{row_before}
use Rattle.node_table.specs.Staging.{only_root}
use Rattle.table_nodes.specs.declared.link.Link.{Link}
use Rattle.table_nodes.specs.declared.node.Root.{Root}
use Rattle.table_nodes.specs.declared.node.TableNode.{TableNode}
use Rattle.node_table.proofs.Inserted.{made_row}
use Rattle.node_table.proofs.Pruned.{node_pruned}
use Rattle.node_table.proofs.Rooted.{only_row, not_lone}
use Rattle.node_table.proofs.Rows.{node_apart}

-- the links that were pushed lead to what is left of the root
pub left_of : (from to : ℕ) (old now : List TableNode) (root : Root) (none made : List Link) → none ≡ []
    → row_before (node_views now) made no_more ≡ row_before (node_views old) none (pruned_node from to root.key (slice_get (node_views old) root.number) no_more)
    → row_of (node_views now) made ≡ pruned_by_keys from to (tree_at old (Some root))
left_of from to old now root none made e m = made_row old now none made _ e m ∙ sym (node_pruned from to root.key (slice_get (node_views old) root.number) no_more)

-- that is nothing, or one node
pruned_top : (from to : ℕ) (key : Key) (o : Option NodeView) → lone (bare (pruned_node from to key o no_more)) ≡ false → pruned_node from to key o no_more ≡ no_more
pruned_top from to key o l = elim (cases_Bool (count (bare (pruned_by_keys from to (children_in o))) == 0)) [
  | inl e ↦ rw e refl
  | inr e ↦ let one = rw e at l in absurd cc
]

pub all_pruned : (from to : ℕ) (old now : List TableNode) (root : Root) (made : List Link) → row_of (node_views now) made ≡ pruned_by_keys from to (tree_at old (Some root)) → only_root made ≡ None
    → no_more ≡ without_range_by_keys from to (tree_at old (Some root))
unfolding without_range_by_keys
all_pruned from to old now root made r o =
    let is = node_pruned from to root.key (slice_get (node_views old) root.number) no_more in
    let P : KeyedRow → Type 0 = λ v. lone (bare v) ≡ false in
    let none = pruned_top from to root.key (slice_get (node_views old) root.number) (subst P (r ∙ is) (not_lone (node_views now) made o)) in
    sym (ap keyed_collapsed (is ∙ none))

pub some_pruned : (from to : ℕ) (old now last : List TableNode) (root left sunk : Root) (made : List Link) → row_of (node_views now) made ≡ pruned_by_keys from to (tree_at old (Some root))
    → only_root made ≡ Some left → tree_at last (Some sunk) ≡ keyed_collapsed (tree_at now (Some left)) → tree_at last (Some sunk) ≡ without_range_by_keys from to (tree_at old (Some root))
unfolding without_range_by_keys
some_pruned from to old now last root left sunk made r o s = s ∙ ap keyed_collapsed (sym (only_row now made left o) ∙ r)

-- the leaves below a root are those below its node
pub top_range : (from to : ℕ) (nodes : List TableNode) (root : Root)
    → within_range from to (contents (bare (children_in (slice_get (node_views nodes) root.number)))) ≡ within_range from to (leaves_at nodes (Some root))
top_range from to nodes root =
    sym (ap (within_range from to) (node_apart root.key (slice_get (node_views nodes) root.number) no_more ∙ append-nil (contents (bare (children_in (slice_get (node_views nodes) root.number))))))

-- nothing is left of the empty index
pub none_pruned : (from to : ℕ) → no_more ≡ without_range_by_keys from to no_more
unfolding without_range_by_keys
none_pruned from to = refl

-- a range by the ranks of its keys
pub by_ranks : (a b from to : ℕ) (left row : KeyedRow) → a ≡ from → b ≡ to → left ≡ without_range_by_keys a b row → left ≡ without_range_by_keys from to row
by_ranks a b from to left row e f h = h ∙ ap (λ n. without_range_by_keys n b row) e ∙ ap (λ n. without_range_by_keys from n row) f
