-- Nodes that are added leave what links lead to, and a link to one shows it.
use Rattle.std.proofs.Common.{◌≡◌, ℕ, ◌<◌, ◌≤◌, true, List, [], ◌∷◌, ◌++◌, length, refl, ap, sym, ◌∙◌, subst, arith, append-nil, append_assoc, length-append}
use Rattle.std.specs.Prelude.{Option, None, Some, slice_get}
use Rattle.std.proofs.lemmas.Option.{slice_get-get_or, slice_get_within}
use Rattle.ubifs_base.specs.declared.key.Key.{Key}
use Rattle.index_tree.specs.Shape.{fits}
use Rattle.index_media.specs.InsertionSound.{fit_node}
use Rattle.index_media.specs.KeyedRow.{KeyedRow, no_more, node_in, bare}
use Rattle.table_nodes.specs.NodeView.{NodeView, stretch_at, node_before, linked_before, row_of, node_view_of, node_views}
use Rattle.table_nodes.specs.Links.{row_before, IsLinkIn, AreLinksIn, AreNodesAdded}
use Rattle.table_nodes.specs.declared.link.Link.{Link}
use Rattle.table_nodes.specs.declared.link.Link.TheVariants.{ToLeaf, ToNode}
use Rattle.table_nodes.specs.declared.node.TableNode.{TableNode}
use Rattle.table_nodes.specs.NodeViewLaws.{get_left, get_seam, views_more, views_append, views_push, views_length}

-- what is seen of more nodes begins with what was seen
pub views_added : (old new : List TableNode) → AreNodesAdded old new → (more : List NodeView) × (node_views new ≡ node_views old ++ more)
views_added old new a =
    let p = views_more (node_views old) a.more in
    (p.0, ap node_views a.is ∙ views_append [] old a.more ∙ p.1)

pub added_none : (nodes new : List TableNode) → new ≡ nodes → AreNodesAdded nodes new
added_none nodes new e = record { more = []; is = e ∙ sym (append-nil nodes) }

pub added_both : (a b c : List TableNode) → AreNodesAdded a b → AreNodesAdded b c → AreNodesAdded a c
added_both a b c x y = record { more = x.more ++ y.more; is = y.is ∙ ap (λ (v : List TableNode). v ++ y.more) x.is ∙ append_assoc a x.more y.more }

pub added_longer : (old new : List TableNode) → AreNodesAdded old new → length old ≤ length new
added_longer old new a = let both = ap length a.is in let sum = length-append old a.more in omega (arith, both, sum)

-- links that lead to the nodes that were there lead to the same
link_kept : (seen more : List NodeView) (link : Link) (rest : KeyedRow) → IsLinkIn (length seen) link → linked_before (seen ++ more) link rest ≡ linked_before seen link rest
link_kept seen more (ToLeaf x) rest h = refl
link_kept seen more (ToNode key number) rest h =
    let v : NodeView = record { level = 0; place = None; children = no_more } in
    let there = slice_get-get_or seen number v h in
    ap (λ o. node_before key o rest) (get_left seen more number _ there ∙ sym there)

kept_seen : (seen more : List NodeView) (links : List Link) (rest : KeyedRow) → AreLinksIn (length seen) links → row_before (seen ++ more) links rest ≡ row_before seen links rest
kept_seen seen more [] rest h = refl
kept_seen seen more (link ∷ links) rest h =
    ap (linked_before (seen ++ more) link) (kept_seen seen more links rest h.1) ∙ link_kept seen more link (row_before seen links rest) h.0

pub links_kept : (old new : List TableNode) (links : List Link) (rest : KeyedRow) → AreNodesAdded old new → AreLinksIn (length old) links
    → row_before (node_views new) links rest ≡ row_before (node_views old) links rest
links_kept old new links rest a h =
    let p = views_added old new a in
    let long = views_length old in
    ap (λ v. row_before v links rest) p.1 ∙ kept_seen (node_views old) p.0 links rest (subst (λ n. AreLinksIn n links) (sym long) h)

link_later : (m n : ℕ) (link : Link) → m ≤ n → IsLinkIn m link → IsLinkIn n link
link_later m n (ToLeaf x) l h = tt
link_later m n (ToNode key number) l h = omega (arith, l, h)

links_later : (m n : ℕ) (links : List Link) → m ≤ n → AreLinksIn m links → AreLinksIn n links
links_later m n [] l h = tt
links_later m n (link ∷ links) l h = (link_later m n link l h.0, links_later m n links l h.1)

pub links_in_added : (old new : List TableNode) (links : List Link) → AreNodesAdded old new → AreLinksIn (length old) links → AreLinksIn (length new) links
links_in_added old new links a h = links_later (length old) (length new) links (added_longer old new a) h

pub links_in_append : (n : ℕ) (xs ys : List Link) → AreLinksIn n xs → AreLinksIn n ys → AreLinksIn n (xs ++ ys)
links_in_append n [] ys a b = b
links_in_append n (x ∷ xs) ys a b = (a.0, links_in_append n xs ys a.1 b)

-- the links of a row whose nodes have children are those of nodes that are there
node_there_in : (f : ℕ) (seen : List NodeView) (key : Key) (number : ℕ) (o : Option NodeView) (rest : KeyedRow) → slice_get seen number ≡ o → fits f (bare (node_before key o rest)) ≡ true
    → (number < length seen) × (fits f (bare rest) ≡ true)
node_there_in f seen key number None rest e h = absurd cc
node_there_in f seen key number (Some v) rest e h = (slice_get_within seen number v e, (fit_node f (bare v.children) (bare rest) h).others)

pub link_there : (f : ℕ) (seen : List NodeView) (link : Link) (rest : KeyedRow) → fits f (bare (linked_before seen link rest)) ≡ true → IsLinkIn (length seen) link × (fits f (bare rest) ≡ true)
link_there f seen (ToLeaf x) rest h = (tt, h)
link_there f seen (ToNode key number) rest h = node_there_in f seen key number (slice_get seen number) rest refl h

pub links_there : (f : ℕ) (seen : List NodeView) (links : List Link) → fits f (bare (row_of seen links)) ≡ true → AreLinksIn (length seen) links
links_there f seen [] h = tt
links_there f seen (link ∷ links) h =
    let p = link_there f seen link (row_of seen links) h in
    (p.0, links_there f seen links p.1)

-- links before nothing, and before others
pub before_none : (seen : List NodeView) (links : List Link) → row_before seen links no_more ≡ row_of seen links
before_none seen [] = refl
before_none seen (link ∷ links) = ap (linked_before seen link) (before_none seen links)

pub before_append : (seen : List NodeView) (xs ys : List Link) (rest : KeyedRow) → row_before seen (xs ++ ys) rest ≡ row_before seen xs (row_before seen ys rest)
before_append seen [] ys rest = refl
before_append seen (x ∷ xs) ys rest = ap (linked_before seen x) (before_append seen xs ys rest)

-- a node that is added, and a link to it
pub node_pushed : (old new : List TableNode) (n : TableNode) (number : ℕ) (key : Key) (made : List Link) (rest : KeyedRow) → new ≡ old ++ n ∷ [] → number ≡ length old → AreLinksIn (length old) made
    → row_before (node_views new) (made ++ ToNode key number ∷ []) rest ≡ row_before (node_views old) made (node_in key (stretch_at n.place) (node_view_of (node_views old) n).children rest)
node_pushed old new n number key made rest e k h =
    let a : AreNodesAdded old new = record { more = n ∷ []; is = e } in
    let v = node_view_of (node_views old) n in
    let there : slice_get (node_views new) number ≡ Some v =
    ap (λ w. slice_get (node_views w) number) e ∙ ap (λ w. slice_get w number) (views_push old n) ∙ ap (λ j. slice_get (node_views old ++ v ∷ []) j) (k ∙ sym (views_length old)) ∙ get_seam (node_views old) v [] in
    before_append (node_views new) made (ToNode key number ∷ []) rest ∙ links_kept old new made (linked_before (node_views new) (ToNode key number) rest) a h
    ∙ ap (row_before (node_views old) made) (ap (λ o. node_before key o rest) there)

pub links_in_pushed : (old new : List TableNode) (n : TableNode) (number : ℕ) (key : Key) (made : List Link) → new ≡ old ++ n ∷ [] → number ≡ length old → AreLinksIn (length old) made
    → AreLinksIn (length new) (made ++ ToNode key number ∷ [])
links_in_pushed old new n number key made e k h =
    let a : AreNodesAdded old new = record { more = n ∷ []; is = e } in
    let both = ap length e in
    let sum = length-append old (n ∷ []) in
    let own : number < length new = omega (arith, both, sum, k) in
    links_in_append (length new) made (ToNode key number ∷ []) (links_in_added old new made a h) (own, tt)
