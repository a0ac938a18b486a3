-- How many nodes copies take: a clean node one, and a dirty one itself and those of its children, of which it has no more than the fanout.
use Rattle.std.proofs.Common.{◌≡◌, ℕ, ◌+◌, ◌*◌, ◌≤◌, List, [], ◌∷◌, ◌++◌, length, ap, ◌∙◌, sym, arith, length-append, append-nil}
use Rattle.std.proofs.Math.Nat.{mul-add}
use Rattle.std.specs.Prelude.{Option, None, Some, Result, Ok, Err, OnOk, slice_get, unwrap_or}
use Rattle.index_tree.specs.Shape.{count, done}
use Rattle.index_media.specs.InsertionSound.{fit_node}
use Rattle.index_media.specs.KeyedRow.{bare}
use Rattle.table_nodes.specs.BeyondLaws.{dirty_row}
use Rattle.table_nodes.specs.NodeView.{node_view_of, node_views}
use Rattle.table_nodes.specs.Sound.{AreSoundViews, IsSoundView}
use Rattle.table_nodes.specs.declared.link.Link.{Link}
use Rattle.table_nodes.specs.declared.link.Link.TheVariants.{ToNode}
use Rattle.table_nodes.specs.declared.node.NodePlace.{NodePlace}
use Rattle.table_nodes.specs.declared.node.Root.{Root}
use Rattle.table_nodes.specs.declared.node.TableNode.{TableNode}
use Rattle.ubifs_base.specs.declared.key.Key.{Key}
use Rattle.ubifs_base.specs.declared.memory.Memory.{Memory}
use Rattle.node_table.specs.Dirty.{dirty_among, dirty_below, dirty_from, dirty_lists, dirty_node}
use Rattle.node_table.proofs.Bounded.{among_first}
use Rattle.node_table.proofs.DirtyLists.{dirty_opened}
use Rattle.node_table.proofs.Staged.{links_counted}

-- ---- what links lead to
-- one link to a node
pub link_numbers : (f : ℕ) (known : List (List ℕ)) (old new : ℕ) (key : Key) (number : ℕ) → new ≤ old + f * length (unwrap_or (slice_get known number) []) + 1 → new ≤ old + f * length (dirty_among known (ToNode key number ∷ [])) + 1
link_numbers f known old new key number h =
    let same = ap (λ (v : List ℕ). f * length v) (append-nil (unwrap_or (slice_get known number) [])) in
    omega (arith, same, h)

-- the first link, and the others
pub links_numbers : {T : Type 0} (f : ℕ) (known : List (List ℕ)) (links rest : List Link) (link : Link) (old mid new : ℕ) (r : Result T Memory) → links ≡ link ∷ rest → mid ≤ old + f * length (dirty_among known (link ∷ [])) + 1
    → OnOk r (new ≤ mid + f * length (dirty_among known rest) + length rest) → OnOk r (new ≤ old + f * length (dirty_among known links) + length links)
links_numbers f known links rest link old mid new (Err fault) is h b = tt
links_numbers f known links rest link old mid new (Ok x) is h b =
    let here = dirty_among known (link ∷ []) in
    let behind = dirty_among known rest in
    let whole = ap (λ (l : List Link). length (dirty_among known l)) is ∙ ap length (among_first known link rest) ∙ length-append here behind in
    let sum = ap (λ n. f * n) whole ∙ mul-add f (length here) (length behind) in
    let same = ap length is in
    omega (arith, sum, same, h, b)

-- ---- a node
pub one_number : (f most : ℕ) (old new : List TableNode) (n : TableNode) → new ≡ old ++ n ∷ [] → length new ≤ length old + f * most + 1
one_number f most old new n e = let long = ap length e ∙ length-append old (n ∷ []) in omega (arith, long)

-- a dirty one, behind what its links lead to
pub dirty_numbers : (f : ℕ) (nodes old mid new : List TableNode) (number : ℕ) (n copy : TableNode) (links : List Link) → AreSoundViews f (node_views nodes) → slice_get nodes number ≡ Some n → n.place ≡ None
    → links ≡ n.links.items → IsSoundView f (node_view_of (node_views nodes) n) → length mid ≤ length old + f * length (dirty_among (dirty_lists nodes) links) + length links → new ≡ mid ++ copy ∷ []
    → length new ≤ length old + f * length (dirty_from nodes number) + 1
dirty_numbers f nodes old mid new number n copy links sound there dirty same own h made =
    let seen = node_views nodes in
    let below = dirty_among (dirty_lists nodes) n.links.items in
    let opened : dirty_from nodes number ≡ below ++ number ∷ [] = dirty_opened f nodes number n sound there ∙ ap (λ (p : Option NodePlace). dirty_node p number below) dirty in
    let long = ap length opened ∙ length-append below (number ∷ []) in
    let sum = ap (λ k. f * k) long ∙ mul-add f (length below) 1 in
    let most = (fit_node f (bare (node_view_of seen n).children) done own.0).most in
    let few = links_counted seen n.links.items ∙ ap (λ r. count (bare r)) (sym (dirty_row seen n dirty)) in
    let items = ap (λ (v : List Link). f * length (dirty_among (dirty_lists nodes) v)) same in
    let size = ap length same in
    let last = ap length made ∙ length-append mid (copy ∷ []) in
    omega (arith, sum, most, few, items, size, last, h)

-- ---- a table that is made anew
pub root_numbers : (f : ℕ) (nodes none new : List TableNode) (root : Option Root) (top : Root) → none ≡ [] → root ≡ Some top → length new ≤ length none + f * length (dirty_from nodes top.number) + 1
    → length new ≤ f * length (dirty_below nodes root) + 1
root_numbers f nodes none new root top e is h =
    let zero = ap length e in
    let same = ap (λ (o : Option Root). f * length (dirty_below nodes o)) is in
    omega (arith, zero, same, h)

pub no_numbers : (f most : ℕ) (none : List TableNode) → none ≡ [] → length none ≤ f * most + 1
no_numbers f most none e = let zero = ap length e in omega (arith, zero)
