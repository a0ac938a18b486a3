-- What the links of a node lead to, and what a walk along them passes over.
use Rattle.std.proofs.Common.{◌≡◌, ℕ, zero, suc, ◌+◌, ◌<◌, ◌≤◌, true, List, [], ◌∷◌, ◌++◌, drop, refl, ap, sym, ◌∙◌, arith, append_assoc}
use Rattle.std.specs.Prelude.{Option, None, Some, nat_le, slice_get}
use Rattle.std.proofs.lemmas.Bool.{le-leb}
use Rattle.ubifs_base.specs.declared.key.Key.{Key}
use Rattle.index_tree.specs.Order.{key_rank, leaf_rank}
use Rattle.index_tree.specs.Shape.{contents}
use Rattle.index_tree.specs.declared.leaf.Leaf.{Leaf}
use Rattle.index_media.specs.Insertion.{starts_by}
use Rattle.index_media.specs.KeyedBounds.{AreAtMost, most_append, most_weaken, keyed_at_most, within_start, lower_least, start_above}
use Rattle.index_media.specs.KeyedKeys.{key_before, AreKeysBounded}
use Rattle.index_media.specs.KeyedRow.{KeyedRow, no_more, leaf_in, node_in, bare}
use Rattle.index_media.specs.Keys.{IsAtMost}
use Rattle.table_nodes.specs.NodeView.{NodeView, link_key, links_begin, node_before, linked_before, row_of, children_in}
use Rattle.node_table.specs.Walk.{inside}
use Rattle.table_nodes.specs.declared.link.Link.{Link}
use Rattle.table_nodes.specs.declared.link.Link.TheVariants.{ToLeaf, ToNode}

-- how much there is to walk
abbrev pub row_size : KeyedRow → ℕ
row_size no_more = 0
row_size (leaf_in x rest) = row_size rest + 1
row_size (node_in key place children rest) = row_size children + row_size rest + 1

abbrev pub link_size : List NodeView → Link → ℕ
link_size seen (ToLeaf x) = 0
link_size seen (ToNode key number) = row_size (children_in (slice_get seen number))

pub node_size : (key : Key) (o : Option NodeView) (rest : KeyedRow) → row_size (node_before key o rest) ≡ row_size (children_in o) + row_size rest + 1
node_size key None rest = refl
node_size key (Some v) rest = refl

pub linked_size : (seen : List NodeView) (link : Link) (rest : KeyedRow) → row_size (linked_before seen link rest) ≡ link_size seen link + row_size rest + 1
linked_size seen (ToLeaf x) rest = omega arith
linked_size seen (ToNode key number) rest = node_size key (slice_get seen number) rest

-- the leaves of a link, and those behind it
pub node_apart : (key : Key) (o : Option NodeView) (rest : KeyedRow) → contents (bare (node_before key o rest)) ≡ contents (bare (children_in o)) ++ contents (bare rest)
node_apart key None rest = refl
node_apart key (Some v) rest = refl

pub link_apart : (seen : List NodeView) (link : Link) (rest : KeyedRow) → contents (bare (linked_before seen link rest)) ≡ contents (bare (inside seen link)) ++ contents (bare rest)
link_apart seen (ToLeaf x) rest = refl
link_apart seen (ToNode key number) rest = node_apart key (slice_get seen number) rest

-- whether a row starts within a rank is told by its first link
node_begins : (at : ℕ) (key : Key) (o : Option NodeView) (rest : KeyedRow) → starts_by at (node_before key o rest) ≡ nat_le (key_rank key) at
node_begins at key None rest = refl
node_begins at key (Some v) rest = refl

link_begins : (seen : List NodeView) (at : ℕ) (link : Link) (rest : KeyedRow) → starts_by at (linked_before seen link rest) ≡ nat_le (key_rank (link_key link)) at
link_begins seen at (ToLeaf x) rest = refl
link_begins seen at (ToNode key number) rest = node_begins at key (slice_get seen number) rest

pub begins_by : (seen : List NodeView) (at : ℕ) (links : List Link) → starts_by at (row_of seen links) ≡ links_begin at links
begins_by seen at [] = refl
begins_by seen at (link ∷ links) = link_begins seen at link (row_of seen links)

-- the bounds of a row, at its first link
pub record LinkBounds (seen : List NodeView) (least : ℕ) (most : Option ℕ) (link : Link) (rest : KeyedRow) : Type 0 where
  pub low : least ≤ key_rank (link_key link)
  pub behind : AreKeysBounded (key_rank (link_key link)) most rest
  pub within : AreAtMost (key_before rest most) (contents (bare (inside seen link)))

-- a key in front of a row is within what bounds the keys there
before_row : (rank : ℕ) (most : Option ℕ) (rest : KeyedRow) → IsAtMost rank most → AreKeysBounded rank most rest → IsAtMost rank (key_before rest most)
before_row rank most no_more m h = m
before_row rank most (leaf_in x rest) m h = h.0
before_row rank most (node_in key place c rest) m h = h.0

node_bounds : (least : ℕ) (most : Option ℕ) (key : Key) (o : Option NodeView) (rest : KeyedRow) → AreKeysBounded least most (node_before key o rest)
    → (least ≤ key_rank key) × AreKeysBounded (key_rank key) most rest × AreAtMost (key_before rest most) (contents (bare (children_in o)))
node_bounds least most key None rest h = (h.0, h.3, tt)
node_bounds least most key (Some v) rest h = (h.0, h.3, keyed_at_most (key_rank key) (key_before rest most) v.children h.2)

pub link_bounds : (seen : List NodeView) (least : ℕ) (most : Option ℕ) (link : Link) (rest : KeyedRow) → AreKeysBounded least most (linked_before seen link rest)
    → LinkBounds seen least most link rest
link_bounds seen least most (ToLeaf x) rest h = record { low = h.0; behind = h.2; within = (before_row (leaf_rank x) most rest h.1 h.2, tt) }
link_bounds seen least most (ToNode key number) rest h =
    let p = node_bounds least most key (slice_get seen number) rest h in
    record { low = p.0; behind = p.1; within = p.2 }

-- links that begin within a rank further on begin within it
earlier : (seen : List NodeView) (at least : ℕ) (links : List Link) (n : ℕ) → AreKeysBounded least None (row_of seen links) → links_begin at (drop n links) ≡ true → links_begin at links ≡ true
earlier seen at least links zero h b = b
earlier seen at least [] (suc n) h b = absurd cc
earlier seen at least (link ∷ links) (suc n) h b =
    let p = link_bounds seen least None link (row_of seen links) h in
    let next = earlier seen at (key_rank (link_key link)) links n p.behind b in
    le-leb (key_rank (link_key link)) at (start_above (key_rank (link_key link)) at None (row_of seen links) p.behind (begins_by seen at links ∙ next))

-- what is known of the links behind those that are passed over
pub record Passed (seen : List NodeView) (at : ℕ) (links : List Link) (n : ℕ) : Type 0 where
  pub front : List Leaf
  pub is : contents (bare (row_of seen links)) ≡ front ++ contents (bare (row_of seen (drop n links)))
  pub within : AreAtMost (Some at) front
  pub bounded : AreKeysBounded 0 None (row_of seen (drop n links))
  pub small : row_size (row_of seen (drop n links)) ≤ row_size (row_of seen links)

pub passed : (seen : List NodeView) (at least : ℕ) (links : List Link) (n : ℕ) → AreKeysBounded least None (row_of seen links)
    → (0 < n → links_begin at (drop n links) ≡ true) → Passed seen at links n
passed seen at least links zero h b =
    record { front = []; is = refl; within = tt; bounded = lower_least 0 least None (row_of seen links) (omega arith) h; small = omega arith }
passed seen at least [] (suc n) h b = record { front = []; is = refl; within = tt; bounded = tt; small = omega arith }
passed seen at least (link ∷ links) (suc n) h b =
    let rest = row_of seen links in
    let p = link_bounds seen least None link rest h in
    let starts = earlier seen at (key_rank (link_key link)) links n p.behind (b (omega arith)) in
    let more = passed seen at (key_rank (link_key link)) links n p.behind (λ some. b (omega arith)) in
    let own = contents (bare (inside seen link)) in
    let size = linked_size seen link rest in
    record {
      front = own ++ more.front;
      is = link_apart seen link rest ∙ ap (λ (v : List Leaf). own ++ v) more.is ∙ sym (append_assoc own more.front (contents (bare (row_of seen (drop n links)))));
      within = most_append (Some at) own more.front (most_weaken (key_before rest None) (Some at) own (within_start at None rest (begins_by seen at links ∙ starts)) p.within) more.within;
      bounded = more.bounded;
      small = omega (arith, size, more.small);
    }
