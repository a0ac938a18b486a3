-- Where the last leaf up to a rank stands.
use Rattle.std.proofs.Common.{◌≡◌, ℕ, zero, suc, ◌+◌, ◌≤◌, false, List, [], ◌∷◌, ◌++◌, drop, take, refl, ap, sym, subst, ◌∙◌, arith, append_assoc}
use Rattle.std.specs.Prelude.{Option, None, Some, nat_le, slice_get}
use Rattle.std.specs.List.{last_or}
use Rattle.std.proofs.lemmas.Bool.Decides.{nat_tests}
use Rattle.std.proofs.lemmas.List.Elements.{filter-append}
use Rattle.ubifs_base.specs.declared.key.Key.{Key}
use Rattle.index_tree.specs.LastBlock.{up_to}
use Rattle.index_tree.specs.Order.{key_rank, leaf_rank}
use Rattle.index_tree.specs.Shape.{contents}
use Rattle.index_tree.specs.declared.leaf.Leaf.{Leaf}
use Rattle.index_media.specs.KeyedBounds.{AreAtLeast, above_start}
use Rattle.index_media.specs.KeyedKeys.{key_before, AreKeysBounded}
use Rattle.index_media.specs.KeyedRow.{KeyedRow, bare}
use Rattle.table_nodes.specs.NodeView.{NodeView, link_key, node_before, linked_before, row_of, links_begin}
use Rattle.node_table.specs.Walk.{inside}
use Rattle.table_nodes.specs.declared.link.Link.{Link}
use Rattle.table_nodes.specs.declared.link.Link.TheVariants.{ToLeaf, ToNode}
use Rattle.node_table.proofs.Rows.{row_size, linked_size, link_apart, link_bounds, begins_by}
use Rattle.node_table.proofs.Staged.{no_most}

-- the last leaf up to a rank
abbrev pub last_up_to : ℕ → List Leaf → Option Leaf
last_up_to at xs = last_or None (up_to at xs)

-- of two lists the second one has it, or else the first one
last_append : (o : Option Leaf) (xs ys : List Leaf) → last_or o (xs ++ ys) ≡ last_or (last_or o xs) ys
last_append o [] ys = refl
last_append o (x ∷ xs) ys = last_append (Some x) xs ys

last_present : (o : Option Leaf) (ys : List Leaf) (y : Leaf) → last_or None ys ≡ Some y → last_or o ys ≡ Some y
last_present o [] y h = absurd cc
last_present o (z ∷ zs) y h = h

last_is : (y : Leaf) (ys : List Leaf) → (z : Leaf) × (last_or (Some y) ys ≡ Some z)
last_is y [] = (y, refl)
last_is y (z ∷ ys) = last_is z ys

last_absent : (o : Option Leaf) (ys : List Leaf) → last_or None ys ≡ None → last_or o ys ≡ o
last_absent o [] h = refl
last_absent o (z ∷ zs) h = let p = last_is z zs in let e = sym h ∙ p.1 in absurd cc

last_both : (at : ℕ) (xs ys : List Leaf) → last_up_to at (xs ++ ys) ≡ last_or (last_up_to at xs) (up_to at ys)
last_both at xs ys = ap (λ (v : List Leaf). last_or None v) (filter-append (λ x. nat_le (leaf_rank x) at) xs ys) ∙ last_append None (up_to at xs) (up_to at ys)

pub last_second : (at : ℕ) (xs ys : List Leaf) (x : Leaf) → last_up_to at ys ≡ Some x → last_up_to at (xs ++ ys) ≡ Some x
last_second at xs ys x h = last_both at xs ys ∙ last_present (last_up_to at xs) (up_to at ys) x h

pub last_first : (at : ℕ) (xs ys : List Leaf) → last_up_to at ys ≡ None → last_up_to at (xs ++ ys) ≡ last_up_to at xs
last_first at xs ys h = last_both at xs ys ∙ last_absent (last_up_to at xs) (up_to at ys) h

-- no leaf above a rank is up to it
none_above : (at : ℕ) (xs : List Leaf) → AreAtLeast (at + 1) xs → up_to at xs ≡ []
none_above at [] h = refl
none_above at (x ∷ xs) h =
    let above = h.0 in
    let other : nat_le (leaf_rank x) at ≡ false = grind (arith, nat_tests, above) in
    rw other (none_above at xs h.1)

-- behind the first link, or inside it
pub last_outside : (seen : List NodeView) (at : ℕ) (link : Link) (rest links : List Link) (x : Leaf) → links ≡ link ∷ rest → Some x ≡ last_up_to at (contents (bare (row_of seen rest)))
    → Some x ≡ last_up_to at (contents (bare (row_of seen links)))
last_outside seen at link rest links x is h =
    sym (ap (λ v. last_up_to at (contents (bare (row_of seen v)))) is ∙ ap (last_up_to at) (link_apart seen link (row_of seen rest))
    ∙ last_second at (contents (bare (inside seen link))) (contents (bare (row_of seen rest))) x (sym h))

pub last_inside : (seen : List NodeView) (at : ℕ) (link : Link) (rest links : List Link) → links ≡ link ∷ rest → None ≡ last_up_to at (contents (bare (row_of seen rest)))
    → last_up_to at (contents (bare (inside seen link))) ≡ last_up_to at (contents (bare (row_of seen links)))
last_inside seen at link rest links is h =
    sym (ap (λ v. last_up_to at (contents (bare (row_of seen v)))) is ∙ ap (last_up_to at) (link_apart seen link (row_of seen rest))
    ∙ last_first at (contents (bare (inside seen link))) (contents (bare (row_of seen rest))) (sym h))

-- where the links behind begin above the rank, none of their leaves is up to it
pub none_behind : (seen : List NodeView) (at : ℕ) (link : Link) (rest links : List Link) → links ≡ link ∷ rest → AreKeysBounded 0 None (row_of seen links) → links_begin at rest ≡ false
    → None ≡ last_up_to at (contents (bare (row_of seen rest)))
none_behind seen at link rest links is h b =
    let P : List Link → Type 0 = λ v. AreKeysBounded 0 None (row_of seen v) in
    let behind = (link_bounds seen 0 None link (row_of seen rest) (subst P is h)).behind in
    sym (ap (λ (v : List Leaf). last_or None v) (none_above at (contents (bare (row_of seen rest))) (above_start at (key_rank (link_key link)) None (row_of seen rest) behind (begins_by seen at rest ∙ b))))

-- the first n links, and those behind them
pub leaves_split : (seen : List NodeView) (n : ℕ) (links : List Link)
    → contents (bare (row_of seen links)) ≡ contents (bare (row_of seen (take n links))) ++ contents (bare (row_of seen (drop n links)))
leaves_split seen zero links = refl
leaves_split seen (suc m) [] = refl
leaves_split seen (suc m) (link ∷ links) =
    let own = contents (bare (inside seen link)) in
    let front = contents (bare (row_of seen (take m links))) in
    let back = contents (bare (row_of seen (drop m links))) in
    link_apart seen link (row_of seen links) ∙ ap (λ (v : List Leaf). own ++ v) (leaves_split seen m links) ∙ sym (append_assoc own front back)
    ∙ ap (λ (v : List Leaf). v ++ back) (sym (link_apart seen link (row_of seen (take m links))))

pub front_small : (seen : List NodeView) (n : ℕ) (links : List Link) → row_size (row_of seen (take n links)) ≤ row_size (row_of seen links)
front_small seen zero links = omega arith
front_small seen (suc m) [] = omega arith
front_small seen (suc m) (link ∷ links) =
    let short = linked_size seen link (row_of seen (take m links)) in
    let long = linked_size seen link (row_of seen links) in
    let others = front_small seen m links in
    omega (arith, short, long, others)

node_bound : (key : Key) (o : Option NodeView) (rest : KeyedRow) → key_before (node_before key o rest) None ≡ Some (key_rank key)
node_bound key None rest = refl
node_bound key (Some v) rest = refl

link_bound : (seen : List NodeView) (link : Link) (rest : KeyedRow) → key_before (linked_before seen link rest) None ≡ Some (key_rank (link_key link))
link_bound seen (ToLeaf x) rest = refl
link_bound seen (ToNode key number) rest = node_bound key (slice_get seen number) rest

bound_taken : (seen : List NodeView) (m : ℕ) (links : List Link) (least : ℕ) (c : KeyedRow) → AreKeysBounded least (key_before (row_of seen links) None) c
    → AreKeysBounded least (key_before (row_of seen (take m links)) None) c
bound_taken seen zero links least c h = no_most least (key_before (row_of seen links) None) c h
bound_taken seen (suc m) [] least c h = h
bound_taken seen (suc m) (link ∷ links) least c h =
    let P : Option ℕ → Type 0 = λ b. AreKeysBounded least b c in
    subst P (link_bound seen link (row_of seen links) ∙ sym (link_bound seen link (row_of seen (take m links)))) h

node_taken : (seen : List NodeView) (least m : ℕ) (key : Key) (o : Option NodeView) (links : List Link) → AreKeysBounded least None (node_before key o (row_of seen links))
    → AreKeysBounded (key_rank key) None (row_of seen (take m links)) → AreKeysBounded least None (node_before key o (row_of seen (take m links)))
node_taken seen least m key None links h r = (h.0, tt, tt, r)
node_taken seen least m key (Some v) links h r = (h.0, tt, bound_taken seen m links (key_rank key) v.children h.2, r)

link_taken : (seen : List NodeView) (least m : ℕ) (link : Link) (links : List Link) → AreKeysBounded least None (linked_before seen link (row_of seen links))
    → AreKeysBounded (key_rank (link_key link)) None (row_of seen (take m links)) → AreKeysBounded least None (linked_before seen link (row_of seen (take m links)))
link_taken seen least m (ToLeaf x) links h r = (h.0, tt, r)
link_taken seen least m (ToNode key number) links h r = node_taken seen least m key (slice_get seen number) links h r

pub front_bounded : (seen : List NodeView) (least n : ℕ) (links : List Link) → AreKeysBounded least None (row_of seen links) → AreKeysBounded least None (row_of seen (take n links))
front_bounded seen least zero links h = tt
front_bounded seen least (suc m) [] h = tt
front_bounded seen least (suc m) (link ∷ links) h =
    let behind = (link_bounds seen least None link (row_of seen links) h).behind in
    link_taken seen least m link links h (front_bounded seen (key_rank (link_key link)) m links behind)
