-- The dirty nodes below each node, as nodes are added, given places and opened.
use Rattle.std.proofs.Common.{◌≡◌, ℕ, zero, suc, ◌+◌, ◌<◌, ◌≤◌, true, false, List, [], ◌∷◌, ◌++◌, length, refl, ap, sym, ◌∙◌, subst, arith, length-append, append_assoc, append-nil}
use Rattle.std.specs.Prelude.{◌==◌, not, Option, None, Some, slice_get, map, unwrap_or}
use Rattle.std.proofs.lemmas.Bool.Decides.{nat_tests}
use Rattle.std.proofs.lemmas.List.{map-append}
use Rattle.std.proofs.lemmas.List.Elements.{filter-append}
use Rattle.index_tree.specs.Shape.{fits}
use Rattle.index_media.specs.KeyedRow.{KeyedRow, bare}
use Rattle.table_nodes.specs.BeyondLaws.{dirty_row}
use Rattle.node_table.specs.Dirty.{dirty_node, dirty_among, dirty_behind, dirty_lists, dirty_from, dirty_below}
use Rattle.table_nodes.specs.NodeView.{NodeView, node_view_of, views_behind, node_views, IsRootIn}
use Rattle.node_table.specs.Placing.{with_place, without_number}
use Rattle.table_nodes.specs.Sound.{AreSoundViews}
use Rattle.table_nodes.specs.Links.{AreNodesAdded, AreLinksIn}
use Rattle.table_nodes.specs.declared.link.Link.{Link}
use Rattle.table_nodes.specs.declared.link.Link.TheVariants.{ToLeaf, ToNode}
use Rattle.table_nodes.specs.declared.node.NodePlace.{NodePlace}
use Rattle.table_nodes.specs.declared.node.Root.{Root}
use Rattle.table_nodes.specs.declared.node.TableNode.{TableNode}
use Rattle.table_nodes.specs.LinkLaws.{links_there}
use Rattle.table_nodes.specs.NodeViewLaws.{views_more, sound_at, children_fit, get_seam}

-- the lists of lists begin with what is known
get_first : (xs ys : List (List ℕ)) (i : ℕ) → i < length xs → unwrap_or (slice_get (xs ++ ys) i) [] ≡ unwrap_or (slice_get xs i) []
get_first [] ys i h = absurd (omega (arith, h))
get_first (x ∷ xs) ys zero h = refl
get_first (x ∷ xs) ys (suc i) h = get_first xs ys i (omega (arith, h))

pub get_there : (xs : List (List ℕ)) (d : List ℕ) (ys : List (List ℕ)) → slice_get (xs ++ d ∷ ys) (length xs) ≡ Some d
get_there [] d ys = refl
get_there (x ∷ xs) d ys = get_there xs d ys

among_more : (known more : List (List ℕ)) (links : List Link) → AreLinksIn (length known) links → dirty_among (known ++ more) links ≡ dirty_among known links
among_more known more [] h = refl
among_more known more (ToLeaf x ∷ links) h = among_more known more links h.1
among_more known more (ToNode key number ∷ links) h = rw (get_first known more number h.0, among_more known more links h.1) refl

pub dirty_more : (known : List (List ℕ)) (nodes : List TableNode) → (more : List (List ℕ)) × (dirty_behind known nodes ≡ known ++ more)
dirty_more known [] = ([], sym (append-nil known))
dirty_more known (n ∷ ns) =
    let own = dirty_node n.place (length known) (dirty_among known n.links.items) in
    let p = dirty_more (known ++ own ∷ []) ns in
    (own ∷ p.0, p.1 ∙ append_assoc known (own ∷ []) p.0)

pub dirty_append : (known : List (List ℕ)) (xs ys : List TableNode) → dirty_behind known (xs ++ ys) ≡ dirty_behind (dirty_behind known xs) ys
dirty_append known [] ys = refl
dirty_append known (x ∷ xs) ys = dirty_append (known ++ dirty_node x.place (length known) (dirty_among known x.links.items) ∷ []) xs ys

pub dirty_long : (known : List (List ℕ)) (nodes : List TableNode) → length (dirty_behind known nodes) ≡ length known + length nodes
dirty_long known [] = omega arith
dirty_long known (n ∷ ns) =
    let own = dirty_node n.place (length known) (dirty_among known n.links.items) in
    let more = dirty_long (known ++ own ∷ []) ns in
    let one = length-append known (own ∷ []) in
    omega (arith, more, one)

-- nodes behind change nothing
pub dirty_kept : (old new : List TableNode) (root : Option Root) → AreNodesAdded old new → IsRootIn old root → dirty_below new root ≡ dirty_below old root
dirty_kept old new None a h = refl
dirty_kept old new (Some root) a h =
    let p = dirty_more (dirty_lists old) a.more in
    let all : dirty_lists new ≡ dirty_lists old ++ p.0 = ap dirty_lists a.is ∙ dirty_append [] old a.more ∙ p.1 in
    let long = dirty_long [] old in
    ap (λ (ds : List (List ℕ)). unwrap_or (slice_get ds root.number) []) all ∙ get_first (dirty_lists old) p.0 root.number (omega (arith, h, long))

own_among : (place : Option NodePlace) (k : ℕ) (xs ys : List ℕ) → (place ≡ None → xs ≡ ys) → dirty_node place k xs ≡ dirty_node place k ys
own_among None k xs ys h = ap (λ (v : List ℕ). v ++ k ∷ []) (h refl)
own_among (Some p) k xs ys h = refl

-- those of a node, over those of all
dirty_opened_behind : (f : ℕ) (seen : List NodeView) (known : List (List ℕ)) (nodes : List TableNode) (i : ℕ) (n : TableNode) → length known ≡ length seen
    → AreSoundViews f (views_behind seen nodes) → slice_get nodes i ≡ Some n
    → slice_get (dirty_behind known nodes) (length known + i) ≡ Some (dirty_node n.place (length known + i) (dirty_among (dirty_behind known nodes) n.links.items))
dirty_opened_behind f seen known [] i n l s h = absurd cc
dirty_opened_behind f seen known (m ∷ ms) zero n l s h =
    let same : m ≡ n = cc in
    let v = node_view_of seen m in
    let more = views_more (seen ++ v ∷ []) ms in
    let all : views_behind seen (m ∷ ms) ≡ seen ++ v ∷ more.0 = more.1 ∙ append_assoc seen (v ∷ []) more.0 in
    let here : slice_get (views_behind seen (m ∷ ms)) (length seen) ≡ Some v = ap (λ xs. slice_get xs (length seen)) all ∙ get_seam seen v more.0 in
    let fit = children_fit f v (sound_at f (views_behind seen (m ∷ ms)) (length seen) v s here) in
    let F : KeyedRow → Type 0 = λ r. fits f (bare r) ≡ true in
    let inside : m.place ≡ None → AreLinksIn (length known) m.links.items = λ none. subst (λ k. AreLinksIn k m.links.items) (sym l) (links_there f seen m.links.items (subst F (dirty_row seen m none) fit)) in
    let whole = dirty_behind known (m ∷ ms) in
    let own = dirty_node m.place (length known) (dirty_among known m.links.items) in
    let p = dirty_more (known ++ own ∷ []) ms in
    let known_all : whole ≡ known ++ own ∷ p.0 = p.1 ∙ append_assoc known (own ∷ []) p.0 in
    let start : length known + 0 ≡ length known = omega arith in
    let among : m.place ≡ None → dirty_among whole m.links.items ≡ dirty_among known m.links.items = λ none.
    ap (λ (ds : List (List ℕ)). dirty_among ds m.links.items) known_all ∙ among_more known (own ∷ p.0) m.links.items (inside none) in
    let over = own_among m.place (length known) (dirty_among whole m.links.items) (dirty_among known m.links.items) among in
    let found : slice_get whole (length known) ≡ Some own = ap (λ (ds : List (List ℕ)). slice_get ds (length known)) known_all ∙ get_there known own p.0 in
    let P : TableNode → Type 0 = λ x. slice_get whole (length known + 0) ≡ Some (dirty_node x.place (length known + 0) (dirty_among whole x.links.items)) in
    let Q : ℕ → Type 0 = λ k. slice_get whole k ≡ Some (dirty_node m.place k (dirty_among whole m.links.items)) in
    subst P same (subst Q (sym start) (found ∙ ap (λ (d : List ℕ). Some d) (sym over)))
dirty_opened_behind f seen known (m ∷ ms) (suc i) n l s h =
    let own = dirty_node m.place (length known) (dirty_among known m.links.items) in
    let one = length-append known (own ∷ []) in
    let other = length-append seen (node_view_of seen m ∷ []) in
    let place : length (known ++ own ∷ []) + i ≡ length known + suc i = omega (arith, one) in
    let P : ℕ → Type 0 = λ k. slice_get (dirty_behind known (m ∷ ms)) k ≡ Some (dirty_node n.place k (dirty_among (dirty_behind known (m ∷ ms)) n.links.items)) in
    subst P place (dirty_opened_behind f (seen ++ node_view_of seen m ∷ []) (known ++ own ∷ []) ms i n (omega (arith, one, other, l)) s h)

pub dirty_opened : (f : ℕ) (nodes : List TableNode) (i : ℕ) (n : TableNode) → AreSoundViews f (node_views nodes) → slice_get nodes i ≡ Some n
    → dirty_from nodes i ≡ dirty_node n.place i (dirty_among (dirty_lists nodes) n.links.items)
dirty_opened f nodes i n s h =
    let P : ℕ → Type 0 = λ k. slice_get (dirty_lists nodes) k ≡ Some (dirty_node n.place k (dirty_among (dirty_lists nodes) n.links.items)) in
    let start : length {A = List ℕ} [] + i ≡ i = omega arith in
    let there = subst P start (dirty_opened_behind f [] [] nodes i n refl s h) in
    ap (λ (o : Option (List ℕ)). unwrap_or o []) there

get_past : (ds : List (List ℕ)) (i : ℕ) → length ds ≤ i → unwrap_or (slice_get ds i) [] ≡ []
get_past [] i h = refl
get_past (d ∷ ds) zero h = absurd (omega (arith, h))
get_past (d ∷ ds) (suc i) h = get_past ds i (omega (arith, h))

pub dirty_past : (nodes : List TableNode) (i : ℕ) → length nodes ≤ i → dirty_from nodes i ≡ []
dirty_past nodes i h = let long = dirty_long [] nodes in get_past (dirty_lists nodes) i (omega (arith, long, h))

-- a node that is given a place goes from each list
nothing : (number : ℕ) (xs : List (List ℕ)) (i : ℕ) → unwrap_or (slice_get (map (without_number number) xs) i) [] ≡ without_number number (unwrap_or (slice_get xs i) [])
nothing number [] i = refl
nothing number (x ∷ xs) zero = refl
nothing number (x ∷ xs) (suc i) = nothing number xs i

among_without : (number : ℕ) (known : List (List ℕ)) (links : List Link) → dirty_among (map (without_number number) known) links ≡ without_number number (dirty_among known links)
among_without number known [] = refl
among_without number known (ToLeaf x ∷ links) = among_without number known links
among_without number known (ToNode key k ∷ links) =
    rw (nothing number known k, among_without number known links)
    (sym (filter-append (λ n. not (n == number)) (unwrap_or (slice_get known k) []) (dirty_among known links)))

other_stays : (number k : ℕ) (below : List ℕ) → (k ≡ number → ⊥) → (place : Option NodePlace) → dirty_node place k (without_number number below) ≡ without_number number (dirty_node place k below)
other_stays number k below h (Some place) = refl
other_stays number k below h None =
    let apart : (k == number) ≡ false = grind (arith, nat_tests, h) in
    let one : without_number number (k ∷ []) ≡ k ∷ [] = rw apart refl in
    ap (λ (v : List ℕ). without_number number below ++ v) (sym one) ∙ sym (filter-append (λ n. not (n == number)) below (k ∷ []))

length_map : (number : ℕ) (known : List (List ℕ)) → length (map (without_number number) known) ≡ length known
length_map number [] = refl
length_map number (x ∷ xs) = let more = length_map number xs in omega (arith, more)

-- behind the node
behind_without : (number : ℕ) (known : List (List ℕ)) (nodes : List TableNode) → number < length known
    → dirty_behind (map (without_number number) known) nodes ≡ map (without_number number) (dirty_behind known nodes)
behind_without number known [] h = refl
behind_without number known (n ∷ ns) h =
    let f = without_number number in
    let k = length known in
    let own = dirty_node n.place k (dirty_among known n.links.items) in
    let one = length-append known (own ∷ []) in
    let apart : k ≡ number → ⊥ = λ e. omega (arith, h, e) in
    let made : dirty_node n.place (length (map f known)) (dirty_among (map f known) n.links.items) ≡ f own =
    rw (length_map number known, among_without number known n.links.items) (other_stays number k (dirty_among known n.links.items) apart n.place) in
    let more = behind_without number (known ++ own ∷ []) ns (omega (arith, one, h)) in
    ap (λ (d : List ℕ). dirty_behind (map f known ++ d ∷ []) ns) made
    ∙ ap (λ (ds : List (List ℕ)). dirty_behind ds ns) (sym (map-append f known (own ∷ [])))
    ∙ more

alone_below : (below : List ℕ) (number : ℕ) → below ++ number ∷ [] ≡ number ∷ [] → below ≡ []
alone_below [] number h = refl
alone_below (x ∷ xs) number h = let e = ap length h in let l = length-append xs (number ∷ []) in absurd (omega (arith, e, l))

some_same : (x y : List ℕ) → Some x ≡ Some y → x ≡ y
some_same x y e = cc

-- before it nothing is found of it
given_dirty : (number : ℕ) (known : List (List ℕ)) (nodes : List TableNode) (k : ℕ) (p : NodePlace) (n : TableNode) → map (without_number number) known ≡ known
    → length known + k ≡ number → slice_get nodes k ≡ Some n → n.place ≡ None → slice_get (dirty_behind known nodes) number ≡ Some (number ∷ [])
    → dirty_behind known (with_place k p nodes) ≡ map (without_number number) (dirty_behind known nodes)
given_dirty number known [] k p n s l h d alone = absurd cc
given_dirty number known (m ∷ ms) zero p n s l h d alone =
    let f = without_number number in
    let same : m ≡ n = cc in
    let none : m.place ≡ None = ap (λ (x : TableNode). x.place) same ∙ d in
    let below = dirty_among known m.links.items in
    let own = dirty_node m.place (length known) below in
    let r = dirty_more (known ++ own ∷ []) ms in
    let all : dirty_behind known (m ∷ ms) ≡ known ++ own ∷ r.0 = r.1 ∙ append_assoc known (own ∷ []) r.0 in
    let start : length known ≡ number = omega (arith, l) in
    let there : slice_get (dirty_behind known (m ∷ ms)) number ≡ Some own =
    ap (λ i. slice_get (dirty_behind known (m ∷ ms)) i) (sym start) ∙ ap (λ (ds : List (List ℕ)). slice_get ds (length known)) all ∙ get_there known own r.0 in
    let only : own ≡ number ∷ [] = some_same own (number ∷ []) (sym there ∙ alone) in
    let itself : (number == number) ≡ true = grind (arith, nat_tests) in
    let gone : f own ≡ [] = ap f only ∙ rw itself refl in
    let one = length-append known (own ∷ []) in
    let mapped : map f (known ++ own ∷ []) ≡ known ++ [] ∷ [] = map-append f known (own ∷ []) ∙ ap (λ (ds : List (List ℕ)). ds ++ f own ∷ []) s ∙ ap (λ (d : List ℕ). known ++ d ∷ []) gone in
    ap (λ (ds : List (List ℕ)). dirty_behind ds ms) (sym mapped) ∙ behind_without number (known ++ own ∷ []) ms (omega (arith, one, start))
given_dirty number known (m ∷ ms) (suc k) p n s l h d alone =
    let f = without_number number in
    let i = length known in
    let below = dirty_among known m.links.items in
    let own = dirty_node m.place i below in
    let one = length-append known (own ∷ []) in
    let apart : i ≡ number → ⊥ = λ e. omega (arith, l, e) in
    let same_below : f below ≡ below = sym (among_without number known m.links.items) ∙ ap (λ (ds : List (List ℕ)). dirty_among ds m.links.items) s in
    let same_own : f own ≡ own = sym (other_stays number i below apart m.place) ∙ ap (dirty_node m.place i) same_below in
    let same : map f (known ++ own ∷ []) ≡ known ++ own ∷ [] = map-append f known (own ∷ []) ∙ ap (λ (ds : List (List ℕ)). ds ++ f own ∷ []) s ∙ ap (λ (d : List ℕ). known ++ d ∷ []) same_own in
    given_dirty number (known ++ own ∷ []) ms k p n same (omega (arith, one, l)) h d alone

option_there : (o : Option (List ℕ)) (i : ℕ) → unwrap_or o [] ≡ i ∷ [] → o ≡ Some (i ∷ [])
option_there None i h = absurd cc
option_there (Some d) i h = ap Some h

pub lists_given : (nodes : List TableNode) (number : ℕ) (p : NodePlace) (n : TableNode) → slice_get nodes number ≡ Some n → n.place ≡ None
    → dirty_from nodes number ≡ number ∷ [] → dirty_lists (with_place number p nodes) ≡ map (without_number number) (dirty_lists nodes)
lists_given nodes number p n h d alone =
    let start : length {A = List ℕ} [] + number ≡ number = omega arith in
    given_dirty number [] nodes number p n refl start h d (option_there (slice_get (dirty_lists nodes) number) number alone)

pub dirty_given : (nodes : List TableNode) (number : ℕ) (p : NodePlace) (n : TableNode) (root : Option Root) → slice_get nodes number ≡ Some n → n.place ≡ None
    → dirty_from nodes number ≡ number ∷ [] → dirty_below (with_place number p nodes) root ≡ without_number number (dirty_below nodes root)
dirty_given nodes number p n None h d alone = refl
dirty_given nodes number p n (Some root) h d alone =
    ap (λ (ds : List (List ℕ)). unwrap_or (slice_get ds root.number) []) (lists_given nodes number p n h d alone)
    ∙ nothing number (dirty_lists nodes) root.number
