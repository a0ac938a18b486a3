-- What a leaf that gives way makes of a row, and what the links that are pushed for it lead to.
use Rattle.std.proofs.Common.{◌≡◌, ℕ, ◌<◌, true, false, List, [], ◌∷◌, ◌++◌, length, refl, ap, sym, ◌∙◌, subst, arith, inl, inr}
use Rattle.std.specs.Prelude.{Option, None, Some, ◌==◌, slice_get}
use Rattle.std.proofs.lemmas.Bool.{cases_Bool}
use Rattle.std.proofs.lemmas.Bool.Decides.{nat_tests}
use Rattle.ubifs_base.specs.declared.key.Key.{Key}
use Rattle.index_tree.specs.Order.{key_rank, leaf_rank}
use Rattle.index_tree.specs.Removal.{same_leaf, holds}
use Rattle.index_tree.specs.Shape.{contents, count, fits}
use Rattle.index_tree.specs.declared.leaf.Leaf.{Leaf}
use Rattle.index_media.specs.KeyedBounds.{most_weaken, within_start, lower_least}
use Rattle.index_media.specs.KeyedKeys.{key_before, AreKeysBounded}
use Rattle.index_media.specs.KeyedRemoval.{removed_by_keys, replaced_by_keys}
use Rattle.index_media.specs.KeyedRow.{KeyedRow, no_more, leaf_in, node_in, bare}
use Rattle.node_table.specs.Exchange.{exchanged_row, exchanged_node, links_to}
use Rattle.table_nodes.specs.NodeView.{NodeView, link_key, links_begin, node_before, linked_before, row_of, node_views, children_in}
use Rattle.table_nodes.specs.Sound.{IsSoundView}
use Rattle.table_nodes.specs.Links.{row_before, AreLinksIn, AreNodesAdded}
use Rattle.node_table.specs.Walk.{inside}
use Rattle.node_table.specs.Unloaded.{AreStandingLinks, DoesRootStand}
use Rattle.node_table.specs.StandingLinks.{standing_leaf, standing_none, standing_on}
use Rattle.ubi_volume.specs.Volume.{VolumeState, Keeps, SameShape}
use Rattle.table_nodes.specs.declared.node.Root.{Root}
use Rattle.table_nodes.specs.declared.link.Link.{Link}
use Rattle.table_nodes.specs.declared.link.Link.TheVariants.{ToLeaf, ToNode}
use Rattle.table_nodes.specs.declared.node.TableNode.{TableNode}
use Rattle.node_table.proofs.HoldsLaws.{none_lower, holds_first, holds_second, holds_inside, holds_outside, holds_nowhere}
use Rattle.node_table.proofs.Inserted.{rest_there, row_kept}
use Rattle.node_table.proofs.Rows.{link_bounds, begins_by}
use Rattle.table_nodes.specs.LinkLaws.{links_kept, links_in_append, before_none, before_append}
use Rattle.node_table.proofs.Staged.{links_counted}

-- nothing gives way where nothing stands
pub exchanged_none : (gone : Leaf) (come : Option Leaf) → exchanged_row gone come no_more ≡ no_more
exchanged_none gone None = refl
exchanged_none gone (Some x) = refl

-- a link below which the leaf isn't stays
node_out : (gone : Leaf) (come : Option Leaf) (key : Key) (o : Option NodeView) (rest : KeyedRow) → holds gone (contents (bare (children_in o))) ≡ false
    → exchanged_row gone come (node_before key o rest) ≡ node_before key o (exchanged_row gone come rest)
node_out gone None key None rest h = refl
node_out gone None key (Some v) rest h = rw h refl
node_out gone (Some come) key None rest h = refl
node_out gone (Some come) key (Some v) rest h = rw h refl

holds_one : (gone x : Leaf) → holds gone (x ∷ []) ≡ false → same_leaf x gone ≡ false
holds_one gone x h = elim (cases_Bool (same_leaf x gone)) [
  | inl e ↦ let there = rw e at h in absurd cc
  | inr e ↦ e
]

pub link_out : (seen : List NodeView) (gone : Leaf) (come : Option Leaf) (link : Link) (rest : KeyedRow) → holds gone (contents (bare (inside seen link))) ≡ false
    → exchanged_row gone come (linked_before seen link rest) ≡ linked_before seen link (exchanged_row gone come rest)
link_out seen gone None (ToLeaf x) rest h = rw (holds_one gone x h) refl
link_out seen gone (Some come) (ToLeaf x) rest h = rw (holds_one gone x h) refl
link_out seen gone come (ToNode key number) rest h = node_out gone come key (slice_get seen number) rest h

-- the leaf itself gives way
pub leaf_out : (seen : List NodeView) (gone x : Leaf) (come : Option Leaf) (rest : KeyedRow) → same_leaf x gone ≡ true → exchanged_row gone come (leaf_in x rest) ≡ row_before seen (links_to come) rest
leaf_out seen gone x None rest h = rw h refl
leaf_out seen gone x (Some come) rest h = rw h refl

-- a row in which the leaf isn't stays
removed_same : (gone : Leaf) (row : KeyedRow) → holds gone (contents (bare row)) ≡ false → removed_by_keys gone row ≡ row
removed_same gone no_more h = refl
removed_same gone (leaf_in x rest) h = elim (cases_Bool (same_leaf x gone)) [
  | inl e ↦ let there = rw e at h in absurd cc
  | inr e ↦ rw e (ap (leaf_in x) (removed_same gone rest (rw e at h)))
]
removed_same gone (node_in key place c rest) h = elim (cases_Bool (holds gone (contents (bare c)))) [
  | inl e ↦ let there = holds_first gone (contents (bare c)) (contents (bare rest)) e in absurd cc
  | inr e ↦ rw e (ap (node_in key place c) (removed_same gone rest (sym (holds_second gone (contents (bare c)) (contents (bare rest)) e) ∙ h)))
]

replaced_same : (gone come : Leaf) (row : KeyedRow) → holds gone (contents (bare row)) ≡ false → replaced_by_keys gone come row ≡ row
replaced_same gone come no_more h = refl
replaced_same gone come (leaf_in x rest) h = elim (cases_Bool (same_leaf x gone)) [
  | inl e ↦ let there = rw e at h in absurd cc
  | inr e ↦ rw e (ap (leaf_in x) (replaced_same gone come rest (rw e at h)))
]
replaced_same gone come (node_in key place c rest) h = elim (cases_Bool (holds gone (contents (bare c)))) [
  | inl e ↦ let there = holds_first gone (contents (bare c)) (contents (bare rest)) e in absurd cc
  | inr e ↦ rw e (ap (node_in key place c) (replaced_same gone come rest (sym (holds_second gone (contents (bare c)) (contents (bare rest)) e) ∙ h)))
]

pub exchanged_same : (gone : Leaf) (come : Option Leaf) (row : KeyedRow) → holds gone (contents (bare row)) ≡ false → exchanged_row gone come row ≡ row
exchanged_same gone None row h = removed_same gone row h
exchanged_same gone (Some come) row h = replaced_same gone come row h

-- what stands for a node below which the leaf is: nothing, or the node with what is left of its children
pub node_gone : (gone : Leaf) (come : Option Leaf) (key : Key) (o : Option NodeView) (rest : KeyedRow)
    → ((gone come : Leaf) (row : KeyedRow) → count (bare (replaced_by_keys gone come row)) ≡ count (bare row)) → 0 < count (bare (children_in o))
    → holds gone (contents (bare (children_in o))) ≡ true → count (bare (exchanged_row gone come (children_in o))) ≡ 0 → exchanged_node gone come key o rest ≡ rest
node_gone gone come key None rest n s h z = absurd (omega (arith, s))
node_gone gone None key (Some v) rest n s h z =
    let e : (count (bare (removed_by_keys gone v.children)) == 0) ≡ true = grind (arith, nat_tests, z) in
    rw (h, e) refl
node_gone gone (Some come) key (Some v) rest n s h z = let same = n gone come v.children in absurd (omega (arith, s, z, same))

pub node_left : (gone : Leaf) (come : Option Leaf) (key : Key) (o : Option NodeView) (rest : KeyedRow) → holds gone (contents (bare (children_in o))) ≡ true
    → 0 < count (bare (exchanged_row gone come (children_in o))) → exchanged_node gone come key o rest ≡ node_in key None (exchanged_row gone come (children_in o)) rest
node_left gone come key None rest h s = absurd cc
node_left gone None key (Some v) rest h s =
    let e : (count (bare (removed_by_keys gone v.children)) == 0) ≡ false = grind (arith, nat_tests, s) in
    rw (h, e) refl
node_left gone (Some come) key (Some v) rest h s = rw h refl

pub node_there : (gone : Leaf) (come : Option Leaf) (key : Key) (o : Option NodeView) (rest : KeyedRow) → holds gone (contents (bare (children_in o))) ≡ true
    → exchanged_node gone come key o rest ≡ exchanged_row gone come (node_before key o rest)
node_there gone come key o rest h = rw h refl

pub node_stays : (gone : Leaf) (come : Option Leaf) (key : Key) (o : Option NodeView) (rest : KeyedRow) → holds gone (contents (bare (children_in o))) ≡ false
    → exchanged_node gone come key o rest ≡ node_before key o rest
node_stays gone come key o rest h = rw h refl

-- a link before one of a lower rank doesn't lead to the leaf
pub lower_inside : (seen : List NodeView) (low : ℕ) (z : Leaf) (link : Link) (rest links : List Link) → links ≡ link ∷ rest → low < leaf_rank z → AreKeysBounded 0 None (row_of seen links)
    → links_begin low rest ≡ true → holds z (contents (bare (inside seen link))) ≡ false
lower_inside seen low z link rest links is l h s =
    let P : List Link → Type 0 = λ v. AreKeysBounded 0 None (row_of seen v) in
    let b = link_bounds seen 0 None link (row_of seen rest) (subst P is h) in
    none_lower low z (contents (bare (inside seen link))) l
    (most_weaken (key_before (row_of seen rest) None) (Some low) (contents (bare (inside seen link))) (within_start low None (row_of seen rest) (begins_by seen low rest ∙ s)) b.within)

-- the keys behind the first link are bounded too
pub rest_bounded : (seen : List NodeView) (link : Link) (rest links : List Link) → links ≡ link ∷ rest → AreKeysBounded 0 None (row_of seen links)
    → AreKeysBounded (key_rank (link_key link)) None (row_of seen rest)
rest_bounded seen link rest links is h =
    let P : List Link → Type 0 = λ v. AreKeysBounded 0 None (row_of seen v) in
    (link_bounds seen 0 None link (row_of seen rest) (subst P is h)).behind

pub behind_bounded : (seen : List NodeView) (link : Link) (rest links : List Link) → links ≡ link ∷ rest → AreKeysBounded 0 None (row_of seen links) → AreKeysBounded 0 None (row_of seen rest)
behind_bounded seen link rest links is h = lower_least 0 (key_rank (link_key link)) None (row_of seen rest) (omega arith) (rest_bounded seen link rest links is h)

-- whether the leaf is there, inside the first link and behind it
pub found_outside : (seen : List NodeView) (z : Leaf) (link : Link) (rest links : List Link) → links ≡ link ∷ rest → holds z (contents (bare (inside seen link))) ≡ false
    → holds z (contents (bare (row_of seen rest))) ≡ holds z (contents (bare (row_of seen links)))
found_outside seen z link rest links is h = sym (ap (λ v. holds z (contents (bare (row_of seen v)))) is ∙ holds_outside seen z link rest h)

pub found_inside : (seen : List NodeView) (z : Leaf) (link : Link) (rest links : List Link) → links ≡ link ∷ rest → holds z (contents (bare (inside seen link))) ≡ true
    → true ≡ holds z (contents (bare (row_of seen links)))
found_inside seen z link rest links is h = sym (ap (λ v. holds z (contents (bare (row_of seen v)))) is ∙ holds_inside seen z link rest h)

pub found_leaf : (seen : List NodeView) (z x : Leaf) → same_leaf x z ≡ true → holds z (contents (bare (inside seen (ToLeaf x)))) ≡ true
found_leaf seen z x h = rw h refl

pub other_leaf : (seen : List NodeView) (z x : Leaf) → same_leaf x z ≡ false → holds z (contents (bare (inside seen (ToLeaf x)))) ≡ false
other_leaf seen z x h = rw h refl

-- links that are pushed
pub among_out : (seen : List NodeView) (gone : Leaf) (come : Option Leaf) (link : Link) (rest links made : List Link) → links ≡ link ∷ rest → holds gone (contents (bare (inside seen link))) ≡ false
    → row_before seen (made ++ link ∷ []) (exchanged_row gone come (row_of seen rest)) ≡ row_before seen made (exchanged_row gone come (row_of seen links))
among_out seen gone come link rest links made is h =
    before_append seen made (link ∷ []) (exchanged_row gone come (row_of seen rest)) ∙ ap (row_before seen made) (sym (link_out seen gone come link (row_of seen rest) h))
    ∙ ap (λ v. row_before seen made (exchanged_row gone come (row_of seen v))) (sym is)

pub among_taken : (seen : List NodeView) (gone x : Leaf) (come : Option Leaf) (rest links made : List Link) → links ≡ ToLeaf x ∷ rest → same_leaf x gone ≡ true
    → row_before seen ((made ++ links_to come) ++ rest) no_more ≡ row_before seen made (exchanged_row gone come (row_of seen links))
among_taken seen gone x come rest links made is h =
    before_append seen (made ++ links_to come) rest no_more ∙ ap (row_before seen (made ++ links_to come)) (before_none seen rest)
    ∙ before_append seen made (links_to come) (row_of seen rest) ∙ ap (row_before seen made) (sym (leaf_out seen gone x come (row_of seen rest) h))
    ∙ ap (λ v. row_before seen made (exchanged_row gone come (row_of seen v))) (sym is)

-- what exchange_below makes, before any row
abbrev pub IsPushed : List NodeView → List NodeView → Leaf → Option Leaf → Key → ℕ → List Link → List Link → Type 0
IsPushed old now gone come key number made more =
    (r : KeyedRow) → row_before now more r ≡ row_before old made (exchanged_node gone come key (slice_get old number) r)

pub among_below : (f : ℕ) (old now : List TableNode) (gone : Leaf) (come : Option Leaf) (key : Key) (number : ℕ) (rest links made more : List Link) → links ≡ ToNode key number ∷ rest → AreNodesAdded old now
    → fits f (bare (row_of (node_views old) links)) ≡ true → holds gone (contents (bare (children_in (slice_get (node_views old) number)))) ≡ true
    → IsPushed (node_views old) (node_views now) gone come key number made more
    → row_before (node_views now) (more ++ rest) no_more ≡ row_before (node_views old) made (exchanged_row gone come (row_of (node_views old) links))
among_below f old now gone come key number rest links made more is a h s m =
    let kept = links_kept old now rest no_more a (rest_there f old (ToNode key number) rest links is h) in
    before_append (node_views now) more rest no_more ∙ m (row_before (node_views now) rest no_more)
    ∙ ap (λ r. row_before (node_views old) made (exchanged_node gone come key (slice_get (node_views old) number) r)) (kept ∙ before_none (node_views old) rest)
    ∙ ap (row_before (node_views old) made) (node_there gone come key (slice_get (node_views old) number) (row_of (node_views old) rest) s)
    ∙ ap (λ v. row_before (node_views old) made (exchanged_row gone come (row_of (node_views old) v))) (sym is)

pub among_beside : (f : ℕ) (old now : List TableNode) (gone : Leaf) (come : Option Leaf) (key : Key) (number : ℕ) (rest links made more : List Link) → links ≡ ToNode key number ∷ rest → AreNodesAdded old now
    → fits f (bare (row_of (node_views old) links)) ≡ true → holds gone (contents (bare (children_in (slice_get (node_views old) number)))) ≡ false
    → holds gone (contents (bare (row_of (node_views old) links))) ≡ false → IsPushed (node_views old) (node_views now) gone come key number made more
    → row_before (node_views now) (more ++ rest) no_more ≡ row_before (node_views old) made (exchanged_row gone come (row_of (node_views old) links))
among_beside f old now gone come key number rest links made more is a h s none m =
    let kept = links_kept old now rest no_more a (rest_there f old (ToNode key number) rest links is h) in
    before_append (node_views now) more rest no_more ∙ m (row_before (node_views now) rest no_more)
    ∙ ap (λ r. row_before (node_views old) made (exchanged_node gone come key (slice_get (node_views old) number) r)) (kept ∙ before_none (node_views old) rest)
    ∙ ap (row_before (node_views old) made) (node_stays gone come key (slice_get (node_views old) number) (row_of (node_views old) rest) s)
    ∙ ap (λ v. row_before (node_views old) made (row_of (node_views old) v)) (sym is)
    ∙ ap (row_before (node_views old) made) (sym (exchanged_same gone come (row_of (node_views old) links) none))

pub among_on : (f : ℕ) (old now : List TableNode) (gone : Leaf) (come : Option Leaf) (key : Key) (number : ℕ) (rest links made more : List Link) → links ≡ ToNode key number ∷ rest → AreNodesAdded old now
    → fits f (bare (row_of (node_views old) links)) ≡ true → fits f (bare (row_of (node_views old) rest)) ≡ true → holds gone (contents (bare (children_in (slice_get (node_views old) number)))) ≡ false
    → IsPushed (node_views old) (node_views now) gone come key number made more
    → row_before (node_views now) more (exchanged_row gone come (row_of (node_views now) rest)) ≡ row_before (node_views old) made (exchanged_row gone come (row_of (node_views old) links))
among_on f old now gone come key number rest links made more is a h g s m =
    m (exchanged_row gone come (row_of (node_views now) rest))
    ∙ ap (λ r. row_before (node_views old) made (exchanged_node gone come key (slice_get (node_views old) number) (exchanged_row gone come r))) (row_kept f old now rest a g)
    ∙ ap (row_before (node_views old) made) (node_stays gone come key (slice_get (node_views old) number) (exchanged_row gone come (row_of (node_views old) rest)) s)
    ∙ ap (row_before (node_views old) made) (sym (node_out gone come key (slice_get (node_views old) number) (row_of (node_views old) rest) s))
    ∙ ap (λ v. row_before (node_views old) made (exchanged_row gone come (row_of (node_views old) v))) (sym is)

-- the links to the leaf that comes lead to no node
pub links_to_standing : (s : VolumeState) (nodes : List TableNode) (come : Option Leaf) → AreStandingLinks s nodes (links_to come)
links_to_standing s nodes None = standing_none s nodes
links_to_standing s nodes (Some come) = standing_leaf s nodes (ToLeaf come) tt

-- a link to a root stands if all below it does
pub root_link : (s : VolumeState) (nodes : List TableNode) (root : Root) → root.number < length nodes → DoesRootStand s nodes (Some root) → AreStandingLinks s nodes (ToNode root.key root.number ∷ [])
root_link s nodes root there stand = record { there = (there, tt); stand = stand }

-- links go on standing where nodes were added twice, and the volume was read twice
pub standing_through : (a m b : VolumeState) (old mid now : List TableNode) (links : List Link) → Keeps a m → SameShape a m → Keeps m b → SameShape m b → AreNodesAdded old mid → AreNodesAdded mid now
    → AreStandingLinks a old links → AreStandingLinks b now links
standing_through a m b old mid now links keeps shape keeps' shape' x y h = standing_on m b mid now links keeps' shape' y (standing_on a m old mid links keeps shape x h)

-- a row whose nodes have children is the same over more nodes, and so are its bounds and its size
pub rest_kept : (f f' : ℕ) (old now : List TableNode) (rest : List Link) → f' ≡ f → AreNodesAdded old now → fits f (bare (row_of (node_views old) rest)) ≡ true → AreKeysBounded 0 None (row_of (node_views old) rest)
    → (fits f' (bare (row_of (node_views now) rest)) ≡ true) × AreKeysBounded 0 None (row_of (node_views now) rest)
rest_kept f f' old now rest e a g b =
    let same = row_kept f old now rest a g in
    let P : KeyedRow → Type 0 = λ r. (fits f (bare r) ≡ true) × AreKeysBounded 0 None r in
    let Q : ℕ → Type 0 = λ n. (fits n (bare (row_of (node_views now) rest)) ≡ true) × AreKeysBounded 0 None (row_of (node_views now) rest) in
    subst Q (sym e) (subst P (sym same) (g, b))

-- where the links behind begin above the rank, the leaf isn't there
pub none_among : (seen : List NodeView) (at : ℕ) (z : Leaf) (link : Link) (rest links : List Link) → links ≡ link ∷ rest → at ≡ leaf_rank z → AreKeysBounded 0 None (row_of seen links)
    → links_begin at rest ≡ false → holds z (contents (bare (inside seen link))) ≡ false → holds z (contents (bare (row_of seen links))) ≡ false
none_among seen at z link rest links is e h b out =
    sym (found_outside seen z link rest links is out) ∙ holds_nowhere seen at (key_rank (link_key link)) z rest e (rest_bounded seen link rest links is h) b

-- what is pushed for a node below which the leaf isn't, for one that this empties, and for one that has children left
pub below_stays : (old now : List TableNode) (gone : Leaf) (come : Option Leaf) (key : Key) (number : ℕ) (row : KeyedRow) (made : List Link) (rest : KeyedRow) → number < length old → AreNodesAdded old now
    → AreLinksIn (length old) made → children_in (slice_get (node_views old) number) ≡ row → holds gone (contents (bare row)) ≡ false
    → row_before (node_views now) (made ++ ToNode key number ∷ []) rest ≡ row_before (node_views old) made (exchanged_node gone come key (slice_get (node_views old) number) rest)
below_stays old now gone come key number row made rest own a h e s =
    let P : KeyedRow → Type 0 = λ r. holds gone (contents (bare r)) ≡ false in
    links_kept old now (made ++ ToNode key number ∷ []) rest a (links_in_append (length old) made (ToNode key number ∷ []) h (own, tt))
    ∙ before_append (node_views old) made (ToNode key number ∷ []) rest
    ∙ ap (row_before (node_views old) made) (sym (node_stays gone come key (slice_get (node_views old) number) rest (subst P (sym e) s)))

pub below_gone : (old now : List TableNode) (gone : Leaf) (come : Option Leaf) (key : Key) (o : Option NodeView) (row : KeyedRow) (made links : List Link) (rest : KeyedRow)
    → ((gone come : Leaf) (row : KeyedRow) → count (bare (replaced_by_keys gone come row)) ≡ count (bare row)) → AreNodesAdded old now → AreLinksIn (length old) made
    → children_in o ≡ row → 0 < count (bare row) → holds gone (contents (bare row)) ≡ true → row_of (node_views now) links ≡ exchanged_row gone come row → length links ≡ 0
    → row_before (node_views now) made rest ≡ row_before (node_views old) made (exchanged_node gone come key o rest)
below_gone old now gone come key o row made links rest n a h e some s r z =
    let number = links_counted (node_views now) links in
    let left = ap (λ (v : KeyedRow). count (bare v)) r in
    let none : count (bare (exchanged_row gone come row)) ≡ 0 = omega (arith, number, left, z) in
    let P : KeyedRow → Type 0 = λ v. (0 < count (bare v)) × (holds gone (contents (bare v)) ≡ true) × (count (bare (exchanged_row gone come v)) ≡ 0) in
    let all = subst P (sym e) (some, s, none) in
    links_kept old now made rest a h ∙ ap (row_before (node_views old) made) (sym (node_gone gone come key o rest n all.0 all.1 all.2))

pub below_left : (old now : List TableNode) (gone : Leaf) (come : Option Leaf) (key : Key) (o : Option NodeView) (row : KeyedRow) (made links : List Link) (rest : KeyedRow) → AreNodesAdded old now
    → AreLinksIn (length old) made → children_in o ≡ row → holds gone (contents (bare row)) ≡ true → row_of (node_views now) links ≡ exchanged_row gone come row → 0 < length links
    → row_before (node_views now) made (node_in key None (row_of (node_views now) links) rest) ≡ row_before (node_views old) made (exchanged_node gone come key o rest)
below_left old now gone come key o row made links rest a h e s r some =
    let number = links_counted (node_views now) links in
    let left = ap (λ (v : KeyedRow). count (bare v)) r in
    let P : KeyedRow → Type 0 = λ v. (holds gone (contents (bare v)) ≡ true) × (0 < count (bare (exchanged_row gone come v))) in
    let all = subst P (sym e) (s, omega (arith, number, left, some)) in
    links_kept old now made (node_in key None (row_of (node_views now) links) rest) a h
    ∙ ap (λ v. row_before (node_views old) made (node_in key None v rest)) (r ∙ ap (exchanged_row gone come) (sym e))
    ∙ ap (row_before (node_views old) made) (sym (node_left gone come key o rest all.0 all.1))

pub left_sound : (f f' level : ℕ) (now : List TableNode) (left : KeyedRow) (links : List Link) → (0 < count (bare left) → IsSoundView f (record { level = level; place = None; children = left })) → f' ≡ f
    → row_of (node_views now) links ≡ left → 0 < length links → IsSoundView f' (record { level = level; place = None; children = row_of (node_views now) links })
left_sound f f' level now left links s e r some =
    let number = links_counted (node_views now) links in
    let same = ap (λ (v : KeyedRow). count (bare v)) r in
    let P : KeyedRow → Type 0 = λ v. IsSoundView f (record { level = level; place = None; children = v }) in
    let Q : ℕ → Type 0 = λ n. IsSoundView n (record { level = level; place = None; children = row_of (node_views now) links }) in
    subst Q (sym e) (subst P (sym r) (s (omega (arith, number, same, some))))
