-- What an insertion makes of links, and of the row of a node.
use Rattle.std.proofs.Common.{◌≡◌, ℕ, ◌+◌, ◌-◌, ◌<◌, ◌≤◌, true, false, List, [], ◌∷◌, length, take, drop, zero, suc, refl, ap, sym, ◌∙◌, subst, arith}
use Rattle.std.specs.Prelude.{Option, None, Some, nat_le, ◌==◌, slice_get}
use Rattle.std.proofs.lemmas.Bool.{lt-leb, le-leb}
use Rattle.std.proofs.lemmas.Bool.Decides.{nat_tests}
use Rattle.ubifs_base.specs.Key.{IsKey}
use Rattle.ubifs_base.specs.declared.key.Key.{Key}
use Rattle.index_tree.specs.Levels.{levelled}
use Rattle.index_tree.specs.Order.{leaf_rank, key_rank}
use Rattle.index_tree.specs.Shape.{Shape, node, done, count, fits, front, back, left_half}
use Rattle.index_tree.specs.declared.leaf.Leaf.{Leaf}
use Rattle.index_media.specs.Insertion.{starts_by, first_key, keyed_front, keyed_back, keyed_parted, lowered, inserted_by_keys}
use Rattle.index_media.specs.InsertionKeys.{halves_bounded, inserted_bounded}
use Rattle.index_media.specs.InsertionLaws.{front_bare, back_bare}
use Rattle.index_media.specs.InsertionSound.{fit_node, fits_node, front_count, back_count, front_fits, back_fits, front_levelled, back_levelled, front_keys, back_keys, inserted_grown, inserted_levelled, inserted_keys}
use Rattle.index_media.specs.KeyedBounds.{lower_least}
use Rattle.index_media.specs.KeyedKeys.{AreKeysBounded}
use Rattle.index_media.specs.KeyedRow.{KeyedRow, no_more, leaf_in, node_in, bare}
use Rattle.table_nodes.specs.NodeView.{NodeView, link_key, node_before, linked_before, row_of, children_in}
use Rattle.table_nodes.specs.Sound.{IsSoundView}
use Rattle.node_table.specs.Staging.{insertion_passes, IsGrownRow}
use Rattle.table_nodes.specs.declared.link.Link.{Link}
use Rattle.table_nodes.specs.declared.link.Link.TheVariants.{ToLeaf, ToNode}
use Rattle.node_table.proofs.Rows.{begins_by}

-- where an insertion passes a link, and where it doesn't
node_passed : (f : ℕ) (new : Leaf) (key : Key) (o : Option NodeView) (rest : KeyedRow) → starts_by (leaf_rank new) rest ≡ true
    → inserted_by_keys f new (node_before key o rest) ≡ node_before key o (inserted_by_keys f new rest)
node_passed f new key None rest s = rw s refl
node_passed f new key (Some v) rest s = rw s refl

pub link_passed : (f : ℕ) (seen : List NodeView) (new : Leaf) (link : Link) (links : List Link) → insertion_passes new link links ≡ true
    → inserted_by_keys f new (row_of seen (link ∷ links)) ≡ linked_before seen link (inserted_by_keys f new (row_of seen links))
link_passed f seen new (ToLeaf x) links s = rw s refl
link_passed f seen new (ToNode key number) links s = node_passed f new key (slice_get seen number) (row_of seen links) (begins_by seen (leaf_rank new) links ∙ s)

pub leaf_before : (f : ℕ) (seen : List NodeView) (new x : Leaf) (links : List Link) → insertion_passes new (ToLeaf x) links ≡ false
    → inserted_by_keys f new (row_of seen (ToLeaf x ∷ links)) ≡ leaf_in new (row_of seen (ToLeaf x ∷ links))
leaf_before f seen new x links s = rw s refl

node_grows : (f : ℕ) (new : Leaf) (key : Key) (o : Option NodeView) (rest : KeyedRow) → starts_by (leaf_rank new) rest ≡ false
    → inserted_by_keys f new (node_before key o rest) ≡ keyed_parted f (lowered new key) (inserted_by_keys f new (children_in o)) rest
node_grows f new key None rest s = rw s refl
node_grows f new key (Some v) rest s = rw s refl

pub node_inside : (f : ℕ) (seen : List NodeView) (new : Leaf) (key : Key) (number : ℕ) (links : List Link) → insertion_passes new (ToNode key number) links ≡ false
    → inserted_by_keys f new (row_of seen (ToNode key number ∷ links)) ≡ keyed_parted f (lowered new key) (inserted_by_keys f new (children_in (slice_get seen number))) (row_of seen links)
node_inside f seen new key number links s = node_grows f new key (slice_get seen number) (row_of seen links) (begins_by seen (leaf_rank new) links ∙ s)

-- the row that an insertion into a sound node makes
pub grown_row : (f level : ℕ) (new : Leaf) (v : NodeView) → 3 ≤ f → IsKey new.key → IsSoundView f v → v.level ≡ level → IsGrownRow f level (inserted_by_keys f new v.children)
grown_row f level new v three own s e =
    let n = fit_node f (bare v.children) done s.0 in
    let g = inserted_grown f new v.children three n.children in
    let some = n.least in
    let most = n.most in
    let more = g.one_more in
    let L : ℕ → Type 0 = λ k. levelled k (bare (inserted_by_keys f new v.children)) ≡ true in
    record {
      some = g.some;
      most = omega (arith, most, more);
      sound = g.sound;
      levels = subst L e (inserted_levelled f v.level new v.children n.children (λ z. absurd (omega (arith, some, z))) s.1);
      bounded = inserted_bounded f new 0 None v.children (omega (arith, three)) (omega arith) tt s.2;
      keys = inserted_keys f new v.children own s.3;
    }

-- such a row is a node's where it isn't too long
pub whole_sound : (f level : ℕ) (row : KeyedRow) → IsGrownRow f level row → count (bare row) ≤ f → IsSoundView f (record { level = level; place = None; children = row })
whole_sound f level row g short = (fits_node f (bare row) done g.some short g.sound refl, g.levels, g.bounded, g.keys)

pub whole_stays : (f : ℕ) (key : Key) (row rest : KeyedRow) → count (bare row) ≤ f → keyed_parted f key row rest ≡ node_in key None row rest
unfolding keyed_parted
whole_stays f key row rest short = let e : nat_le (f + 1) (count (bare row)) ≡ false = lt-leb (f + 1) (count (bare row)) (omega (arith, short)) in rw e refl

-- and its halves are nodes' where it is
pub record Halved (f level : ℕ) (key : Key) (row : KeyedRow) : Type 0 where
  pub front : IsSoundView f (record { level = level; place = None; children = keyed_front (left_half f) row })
  pub back : IsSoundView f (record { level = level; place = None; children = keyed_back (left_half f) row })
  pub parts : (rest : KeyedRow) → keyed_parted f key row rest ≡ node_in key None (keyed_front (left_half f) row) (node_in (first_key key (keyed_back (left_half f) row)) None (keyed_back (left_half f) row) rest)

halves_part : (f : ℕ) (key : Key) (row rest : KeyedRow) → f + 1 ≤ count (bare row)
    → keyed_parted f key row rest ≡ node_in key None (keyed_front (left_half f) row) (node_in (first_key key (keyed_back (left_half f) row)) None (keyed_back (left_half f) row) rest)
unfolding keyed_parted
halves_part f key row rest long = let e : nat_le (f + 1) (count (bare row)) ≡ true = le-leb (f + 1) (count (bare row)) long in rw e refl

-- no bound above
pub no_most : (least : ℕ) (most : Option ℕ) (row : KeyedRow) → AreKeysBounded least most row → AreKeysBounded least None row
no_most least most no_more h = tt
no_most least most (leaf_in x rest) h = (h.0, tt, no_most (leaf_rank x) most rest h.2)
no_most least most (node_in key place c no_more) h = (h.0, tt, no_most (key_rank key) most c h.2, tt)
no_most least most (node_in key place c (leaf_in x rest)) h = (h.0, tt, h.2, no_most (key_rank key) most (leaf_in x rest) h.3)
no_most least most (node_in key place c (node_in own p d rest)) h = (h.0, tt, h.2, no_most (key_rank key) most (node_in own p d rest) h.3)

pub halved : (f level : ℕ) (key : Key) (row : KeyedRow) → 3 ≤ f → IsGrownRow f level row → f < count (bare row) → Halved f level key row
halved f level key row three g long =
    let n = left_half f in
    let s = bare row in
    let most = g.most in
    let left = front_count n s in
    let right = back_count n s in
    let F : Shape → Type 0 = λ t. (fits f (node t done) ≡ true) × (levelled level t ≡ true) in
    let b = halves_bounded 0 None n key row (omega (arith, three, long)) g.bounded in
    let low = fits_node f (front n s) done (omega (arith, left, long, three)) (omega (arith, left, most, three)) (front_fits f n s g.sound) refl in
    let high = fits_node f (back n s) done (omega (arith, right, long, three)) (omega (arith, right, most, three)) (back_fits f n s g.sound) refl in
    let first = subst F (sym (front_bare n row)) (low, front_levelled level n s g.levels) in
    let second = subst F (sym (back_bare n row)) (high, back_levelled level n s g.levels) in
    record {
      front = (first.0, first.1, no_most 0 _ (keyed_front n row) b.front, front_keys n row g.keys);
      back = (second.0, second.1, lower_least 0 _ None (keyed_back n row) (omega arith) b.back, back_keys n row g.keys);
      parts = λ rest. halves_part f key row rest (omega (arith, long));
    }

-- the first n links, and those behind them
front_none : (row : KeyedRow) → keyed_front 0 row ≡ no_more
front_none no_more = refl
front_none (leaf_in x rest) = refl
front_none (node_in key place c rest) = refl

back_none : (row : KeyedRow) → keyed_back 0 row ≡ row
back_none no_more = refl
back_none (leaf_in x rest) = refl
back_none (node_in key place c rest) = refl

node_front : (key : Key) (o : Option NodeView) (n : ℕ) (rest : KeyedRow) → (n == 0) ≡ false → keyed_front n (node_before key o rest) ≡ node_before key o (keyed_front (n - 1) rest)
node_front key None n rest e = rw e refl
node_front key (Some v) n rest e = rw e refl

link_front : (seen : List NodeView) (n : ℕ) (link : Link) (rest : KeyedRow) → (n == 0) ≡ false → keyed_front n (linked_before seen link rest) ≡ linked_before seen link (keyed_front (n - 1) rest)
link_front seen n (ToLeaf x) rest e = rw e refl
link_front seen n (ToNode key number) rest e = node_front key (slice_get seen number) n rest e

node_back : (key : Key) (o : Option NodeView) (n : ℕ) (rest : KeyedRow) → (n == 0) ≡ false → keyed_back n (node_before key o rest) ≡ keyed_back (n - 1) rest
node_back key None n rest e = rw e refl
node_back key (Some v) n rest e = rw e refl

link_back : (seen : List NodeView) (n : ℕ) (link : Link) (rest : KeyedRow) → (n == 0) ≡ false → keyed_back n (linked_before seen link rest) ≡ keyed_back (n - 1) rest
link_back seen n (ToLeaf x) rest e = rw e refl
link_back seen n (ToNode key number) rest e = node_back key (slice_get seen number) n rest e

above_none : (m : ℕ) → (suc m == 0) ≡ false
above_none m = grind (arith, nat_tests)

pub front_row : (seen : List NodeView) (n : ℕ) (links : List Link) → row_of seen (take n links) ≡ keyed_front n (row_of seen links)
front_row seen zero links = sym (front_none (row_of seen links))
front_row seen (suc m) [] = refl
front_row seen (suc m) (link ∷ links) =
    let same : suc m - 1 ≡ m = omega arith in
    ap (linked_before seen link) (front_row seen m links ∙ ap (λ k. keyed_front k (row_of seen links)) (sym same)) ∙ sym (link_front seen (suc m) link (row_of seen links) (above_none m))

pub back_row : (seen : List NodeView) (n : ℕ) (links : List Link) → row_of seen (drop n links) ≡ keyed_back n (row_of seen links)
back_row seen zero links = sym (back_none (row_of seen links))
back_row seen (suc m) [] = refl
back_row seen (suc m) (link ∷ links) =
    let same : suc m - 1 ≡ m = omega arith in
    back_row seen m links ∙ ap (λ k. keyed_back k (row_of seen links)) (sym same) ∙ sym (link_back seen (suc m) link (row_of seen links) (above_none m))

-- how many links there are
node_counted : (key : Key) (o : Option NodeView) (rest : KeyedRow) → count (bare (node_before key o rest)) ≡ count (bare rest) + 1
node_counted key None rest = refl
node_counted key (Some v) rest = refl

pub link_counted : (seen : List NodeView) (link : Link) (rest : KeyedRow) → count (bare (linked_before seen link rest)) ≡ count (bare rest) + 1
link_counted seen (ToLeaf x) rest = refl
link_counted seen (ToNode key number) rest = node_counted key (slice_get seen number) rest

pub links_counted : (seen : List NodeView) (links : List Link) → length links ≡ count (bare (row_of seen links))
links_counted seen [] = refl
links_counted seen (link ∷ links) = let one = link_counted seen link (row_of seen links) in let more = links_counted seen links in omega (arith, one, more)

-- a link's key is the first of its row
node_first : (key own : Key) (o : Option NodeView) (rest : KeyedRow) → own ≡ first_key key (node_before own o rest)
node_first key own None rest = refl
node_first key own (Some v) rest = refl

pub link_first : (seen : List NodeView) (key : Key) (link : Link) (links : List Link) → link_key link ≡ first_key key (row_of seen (link ∷ links))
link_first seen key (ToLeaf x) links = refl
link_first seen key (ToNode own number) links = node_first key own (slice_get seen number) (row_of seen links)
