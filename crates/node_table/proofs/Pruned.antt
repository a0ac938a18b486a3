-- What is left of rows without the leaves of a range, and what the links that are pushed for them lead to.
use Rattle.std.proofs.Common.{◌≡◌, ℕ, zero, suc, ◌+◌, ◌-◌, ◌^◌, ◌<◌, true, false, List, [], ◌∷◌, ◌++◌, drop, length, refl, ap, sym, ◌∙◌, subst, arith, inl, inr, append-nil, length-append}
use Rattle.std.specs.Prelude.{Option, None, Some, ◌==◌, min, slice_get}
use Rattle.std.proofs.lemmas.Bool.{cases_Bool}
use Rattle.std.proofs.lemmas.Bool.Decides.{nat_tests}
use Rattle.std.proofs.lemmas.List.Elements.{filter-append}
use Rattle.ubifs_base.specs.declared.key.Key.{Key}
use Rattle.index_tree.specs.Order.{key_rank}
use Rattle.index_tree.specs.RangeRemoval.{in_range, within_range}
use Rattle.index_tree.specs.Shape.{contents, count, fits}
use Rattle.index_tree.specs.declared.leaf.Leaf.{Leaf}
use Rattle.index_media.specs.InsertionSound.{fit_node}
use Rattle.index_media.specs.KeyedBounds.{AreAtMost, AreAtLeast, above_start, most_weaken, within_start}
use Rattle.index_media.specs.KeyedKeys.{key_before, AreKeysBounded}
use Rattle.index_media.specs.KeyedRange.{place_without_range, pruned_by_keys}
use Rattle.index_media.specs.KeyedRemoval.{keyed_tidied}
use Rattle.index_media.specs.KeyedRow.{KeyedRow, no_more, node_in, bare}
use Rattle.index_media.specs.PlacedRow.{Stretch}
use Rattle.table_nodes.specs.NodeView.{NodeView, link_key, links_begin, node_before, linked_before, row_of, node_views, children_in}
use Rattle.table_nodes.specs.Sound.{IsSoundView}
use Rattle.ubi_volume.specs.Volume.{VolumeState, Keeps, SameShape}
use Rattle.node_table.specs.StandingLinks.{standing_on}
use Rattle.node_table.specs.Unloaded.{AreStandingLinks}
use Rattle.node_table.specs.Pruning.{stretch_in, pruned_node, pruned_link}
use Rattle.table_nodes.specs.Links.{row_before, AreLinksIn, AreNodesAdded}
use Rattle.node_table.specs.Walk.{inside}
use Rattle.table_nodes.specs.declared.link.Link.{Link}
use Rattle.table_nodes.specs.declared.link.Link.TheVariants.{ToLeaf, ToNode}
use Rattle.table_nodes.specs.declared.node.TableNode.{TableNode}
use Rattle.node_table.proofs.Exchanged.{rest_bounded}
use Rattle.node_table.proofs.Inserted.{rest_there, row_kept}
use Rattle.node_table.proofs.Rows.{Passed, link_apart, link_bounds, begins_by}
use Rattle.table_nodes.specs.LinkLaws.{links_kept, links_in_append, before_none, before_append}
use Rattle.node_table.proofs.Staged.{links_counted}

-- rows of which no leaf is of the range stay
abbrev pub AreSame : Type 0
AreSame = (f from to : ℕ) (row : KeyedRow) → fits f (bare row) ≡ true → within_range from to (contents (bare row)) ≡ [] → pruned_by_keys from to row ≡ row

-- what is left of a row, link by link
pub node_pruned : (from to : ℕ) (key : Key) (o : Option NodeView) (rest : KeyedRow) → pruned_by_keys from to (node_before key o rest) ≡ pruned_node from to key o (pruned_by_keys from to rest)
node_pruned from to key None rest = refl
node_pruned from to key (Some v) rest = refl

pub link_pruned : (from to : ℕ) (seen : List NodeView) (link : Link) (rest : KeyedRow) → pruned_by_keys from to (linked_before seen link rest) ≡ pruned_link from to seen link (pruned_by_keys from to rest)
link_pruned from to seen (ToLeaf x) rest = refl
link_pruned from to seen (ToNode key number) rest = node_pruned from to key (slice_get seen number) rest

-- where none of the range is below a node, it stays
tidied_some : (key : Key) (place : Option Stretch) (c rest : KeyedRow) → 0 < count (bare c) → keyed_tidied (node_in key place c rest) ≡ node_in key place c rest
tidied_some key place c rest h =
    let e : (count (bare c) == 0) ≡ false = grind (arith, nat_tests, h) in
    rw e refl

tidied_none : (key : Key) (place : Option Stretch) (c rest : KeyedRow) → count (bare c) ≡ 0 → keyed_tidied (node_in key place c rest) ≡ rest
tidied_none key place c rest h =
    let e : (count (bare c) == 0) ≡ true = grind (arith, nat_tests, h) in
    rw e refl

clean_still : (from to : ℕ) (c : KeyedRow) (place : Option Stretch) → within_range from to (contents (bare c)) ≡ [] → place_without_range from to c place ≡ place
clean_still from to c place h = rw h refl

dirty_then : (from to : ℕ) (c : KeyedRow) (place : Option Stretch) → 0 < length (within_range from to (contents (bare c))) → place_without_range from to c place ≡ None
dirty_then from to c place h =
    let e : (length (within_range from to (contents (bare c))) == 0) ≡ false = grind (arith, nat_tests, h) in
    rw e refl

pub node_same : AreSame → (f from to : ℕ) (key : Key) (o : Option NodeView) (rest : KeyedRow) → 0 < count (bare (children_in o)) → fits f (bare (children_in o)) ≡ true
    → within_range from to (contents (bare (children_in o))) ≡ [] → pruned_node from to key o rest ≡ node_before key o rest
node_same same f from to key None rest some fit h = absurd (omega (arith, some))
node_same same f from to key (Some v) rest some fit h =
    ap (λ (p : Option Stretch). keyed_tidied (node_in key p (pruned_by_keys from to v.children) rest)) (clean_still from to v.children v.place h)
    ∙ ap (λ (c : KeyedRow). keyed_tidied (node_in key v.place c rest)) (same f from to v.children fit h)
    ∙ tidied_some key v.place v.children rest some

-- what stands in a node is known of one that is there
fit_before : (f : ℕ) (key : Key) (o : Option NodeView) (rest : KeyedRow) → fits f (bare (node_before key o rest)) ≡ true → (0 < count (bare (children_in o))) × (fits f (bare (children_in o)) ≡ true)
fit_before f key None rest h = absurd cc
fit_before f key (Some v) rest h = let p = fit_node f (bare v.children) (bare rest) h in (p.least, p.children)

link_same : AreSame → (f from to : ℕ) (seen : List NodeView) (link : Link) (rest r : KeyedRow) → fits f (bare (linked_before seen link rest)) ≡ true
    → within_range from to (contents (bare (inside seen link))) ≡ [] → pruned_link from to seen link r ≡ linked_before seen link r
link_same same f from to seen (ToLeaf x) rest r fit h = elim (cases_Bool (in_range from to x)) [
  | inl e ↦ let none = rw e at h in absurd cc
  | inr e ↦ rw e refl
]
link_same same f from to seen (ToNode key number) rest r fit h =
    let p = fit_before f key (slice_get seen number) rest fit in
    node_same same f from to key (slice_get seen number) r p.0 p.1 h

-- leaves below a range, and above it
none_lower : (at from to : ℕ) (xs : List Leaf) → at < from → AreAtMost (Some at) xs → within_range from to xs ≡ []
none_lower at from to [] l h = refl
none_lower at from to (x ∷ xs) l h =
    let within = h.0 in
    let other : in_range from to x ≡ false = grind (arith, nat_tests, within, l) in
    rw other (none_lower at from to xs l h.1)

none_higher : (from to : ℕ) (xs : List Leaf) → AreAtLeast (to + 1) xs → within_range from to xs ≡ []
none_higher from to [] h = refl
none_higher from to (x ∷ xs) h =
    let above = h.0 in
    let other : in_range from to x ≡ false = grind (arith, nat_tests, above) in
    rw other (none_higher from to xs h.1)

-- a link before one of a lower rank leads to none of the range
pub link_lower : (seen : List NodeView) (from to : ℕ) (link : Link) (rest links : List Link) → links ≡ link ∷ rest → 0 < from → AreKeysBounded 0 None (row_of seen links)
    → links_begin (from - 1) rest ≡ true → within_range from to (contents (bare (inside seen link))) ≡ []
link_lower seen from to link rest links is l h s =
    let P : List Link → Type 0 = λ v. AreKeysBounded 0 None (row_of seen v) in
    let b = link_bounds seen 0 None link (row_of seen rest) (subst P is h) in
    none_lower (from - 1) from to (contents (bare (inside seen link))) (omega (arith, l))
    (most_weaken (key_before (row_of seen rest) None) (Some (from - 1)) (contents (bare (inside seen link))) (within_start (from - 1) None (row_of seen rest) (begins_by seen (from - 1) rest ∙ s)) b.within)

-- where the links behind begin above it, none is there
pub links_higher : (seen : List NodeView) (from to : ℕ) (link : Link) (rest links : List Link) → links ≡ link ∷ rest → AreKeysBounded 0 None (row_of seen links)
    → links_begin to rest ≡ false → within_range from to (contents (bare (row_of seen rest))) ≡ []
links_higher seen from to link rest links is h b =
    none_higher from to (contents (bare (row_of seen rest)))
    (above_start to (key_rank (link_key link)) None (row_of seen rest) (rest_bounded seen link rest links is h) (begins_by seen to rest ∙ b))

-- those inside the first link, and those behind it
pub range_apart : (seen : List NodeView) (from to : ℕ) (link : Link) (rest links : List Link) → links ≡ link ∷ rest
    → within_range from to (contents (bare (row_of seen links))) ≡ within_range from to (contents (bare (inside seen link))) ++ within_range from to (contents (bare (row_of seen rest)))
range_apart seen from to link rest links is =
    ap (λ v. within_range from to (contents (bare (row_of seen v)))) is ∙ ap (within_range from to) (link_apart seen link (row_of seen rest))
    ∙ filter-append (λ x. in_range from to x) (contents (bare (inside seen link))) (contents (bare (row_of seen rest)))

pub range_behind : (seen : List NodeView) (from to : ℕ) (link : Link) (rest links : List Link) → links ≡ link ∷ rest → within_range from to (contents (bare (inside seen link))) ≡ []
    → within_range from to (contents (bare (row_of seen links))) ≡ within_range from to (contents (bare (row_of seen rest)))
range_behind seen from to link rest links is h =
    range_apart seen from to link rest links is ∙ ap (λ (v : List Leaf). v ++ within_range from to (contents (bare (row_of seen rest)))) h

pub range_inside : (seen : List NodeView) (from to : ℕ) (link : Link) (rest links : List Link) → links ≡ link ∷ rest → within_range from to (contents (bare (row_of seen rest))) ≡ []
    → within_range from to (contents (bare (row_of seen links))) ≡ within_range from to (contents (bare (inside seen link)))
range_inside seen from to link rest links is h =
    range_apart seen from to link rest links is ∙ ap (λ (v : List Leaf). within_range from to (contents (bare (inside seen link))) ++ v) h
    ∙ append-nil (within_range from to (contents (bare (inside seen link))))

-- numbers of both, up to a most
pub both_gone : (most here behind : ℕ) (xs ys zs : List Leaf) → zs ≡ xs ++ ys → here ≡ min (length xs) most → behind ≡ min (length ys) most → min (here + behind) most ≡ min (length zs) most
both_gone most here behind xs ys zs e h b =
    let long = ap length e in
    let sum = length-append xs ys in
    grind (arith, long, sum, h, b)

pub none_gone : (most gone : ℕ) (xs : List Leaf) → 0 < most → gone ≡ min (length xs) most → gone ≡ 0 → xs ≡ []
none_gone most gone [] l h z = refl
none_gone most gone (x ∷ xs) l h z = absurd (grind (arith, l, h, z))

pub some_gone : (most gone : ℕ) (xs : List Leaf) → gone ≡ min (length xs) most → 0 < gone → 0 < length xs
some_gone most gone [] h z = absurd (grind (arith, h, z))
some_gone most gone (x ∷ xs) h z = omega arith

-- links that are pushed
pub among_passed : AreSame → (f from to : ℕ) (seen : List NodeView) (link : Link) (rest links made : List Link) → links ≡ link ∷ rest → fits f (bare (row_of seen links)) ≡ true
    → within_range from to (contents (bare (inside seen link))) ≡ []
    → row_before seen (made ++ link ∷ []) (pruned_by_keys from to (row_of seen rest)) ≡ row_before seen made (pruned_by_keys from to (row_of seen links))
among_passed same f from to seen link rest links made is fit h =
    let P : List Link → Type 0 = λ v. fits f (bare (row_of seen v)) ≡ true in
    let stays = link_same same f from to seen link (row_of seen rest) (pruned_by_keys from to (row_of seen rest)) (subst P is fit) h in
    before_append seen made (link ∷ []) (pruned_by_keys from to (row_of seen rest))
    ∙ ap (row_before seen made) (sym (link_pruned from to seen link (row_of seen rest) ∙ stays))
    ∙ ap (λ v. row_before seen made (pruned_by_keys from to (row_of seen v))) (sym is)

-- what prune_link makes, before any row
abbrev pub IsLeft : List NodeView → List NodeView → ℕ → ℕ → Link → List Link → List Link → Type 0
IsLeft old now from to link made more = (r : KeyedRow) → row_before now more r ≡ row_before old made (pruned_link from to old link r)

pub among_last : AreSame → (f from to : ℕ) (old now : List TableNode) (link : Link) (rest links made more : List Link) → links ≡ link ∷ rest → AreNodesAdded old now
    → fits f (bare (row_of (node_views old) links)) ≡ true → fits f (bare (row_of (node_views old) rest)) ≡ true → within_range from to (contents (bare (row_of (node_views old) rest))) ≡ []
    → IsLeft (node_views old) (node_views now) from to link made more
    → row_before (node_views now) (more ++ rest) no_more ≡ row_before (node_views old) made (pruned_by_keys from to (row_of (node_views old) links))
among_last same f from to old now link rest links made more is a h g none m =
    let kept = links_kept old now rest no_more a (rest_there f old link rest links is h) in
    let stays = sym (same f from to (row_of (node_views old) rest) g none) in
    before_append (node_views now) more rest no_more ∙ m (row_before (node_views now) rest no_more)
    ∙ ap (λ r. row_before (node_views old) made (pruned_link from to (node_views old) link r)) (kept ∙ before_none (node_views old) rest ∙ stays)
    ∙ ap (row_before (node_views old) made) (sym (link_pruned from to (node_views old) link (row_of (node_views old) rest)))
    ∙ ap (λ v. row_before (node_views old) made (pruned_by_keys from to (row_of (node_views old) v))) (sym is)

pub among_more : (f from to : ℕ) (old now : List TableNode) (link : Link) (rest links made more : List Link) → links ≡ link ∷ rest → AreNodesAdded old now
    → fits f (bare (row_of (node_views old) rest)) ≡ true → IsLeft (node_views old) (node_views now) from to link made more
    → row_before (node_views now) more (pruned_by_keys from to (row_of (node_views now) rest)) ≡ row_before (node_views old) made (pruned_by_keys from to (row_of (node_views old) links))
among_more f from to old now link rest links made more is a g m =
    m (pruned_by_keys from to (row_of (node_views now) rest))
    ∙ ap (λ r. row_before (node_views old) made (pruned_link from to (node_views old) link (pruned_by_keys from to r))) (row_kept f old now rest a g)
    ∙ ap (row_before (node_views old) made) (sym (link_pruned from to (node_views old) link (row_of (node_views old) rest)))
    ∙ ap (λ v. row_before (node_views old) made (pruned_by_keys from to (row_of (node_views old) v))) (sym is)

-- a leaf that goes, and one that stays
pub leaf_gone : (seen : List NodeView) (from to : ℕ) (x : Leaf) (link : Link) (made : List Link) (rest : KeyedRow) → link ≡ ToLeaf x → in_range from to x ≡ true
    → row_before seen made rest ≡ row_before seen made (pruned_link from to seen link rest)
leaf_gone seen from to x link made rest is h =
    let P : Link → Type 0 = λ l. row_before seen made rest ≡ row_before seen made (pruned_link from to seen l rest) in
    subst P (sym is) (rw h refl)

pub leaf_stays : (seen : List NodeView) (from to : ℕ) (x : Leaf) (link : Link) (made : List Link) (rest : KeyedRow) → link ≡ ToLeaf x → in_range from to x ≡ false
    → row_before seen (made ++ link ∷ []) rest ≡ row_before seen made (pruned_link from to seen link rest)
leaf_stays seen from to x link made rest is h =
    let P : Link → Type 0 = λ l. row_before seen made (linked_before seen l rest) ≡ row_before seen made (pruned_link from to seen l rest) in
    before_append seen made (link ∷ []) rest ∙ subst P (sym is) (rw h refl)

pub leaf_counted : (seen : List NodeView) (from to : ℕ) (x : Leaf) (link : Link) → link ≡ ToLeaf x → in_range from to x ≡ true → 1 ≡ min (length (within_range from to (contents (bare (inside seen link))))) (2 ^ 64 - 1)
leaf_counted seen from to x link is h =
    let P : Link → Type 0 = λ l. 1 ≡ min (length (within_range from to (contents (bare (inside seen l))))) (2 ^ 64 - 1) in
    subst P (sym is) (rw h refl)

pub leaf_uncounted : (seen : List NodeView) (from to : ℕ) (x : Leaf) (link : Link) → link ≡ ToLeaf x → in_range from to x ≡ false → 0 ≡ min (length (within_range from to (contents (bare (inside seen link))))) (2 ^ 64 - 1)
leaf_uncounted seen from to x link is h =
    let P : Link → Type 0 = λ l. 0 ≡ min (length (within_range from to (contents (bare (inside seen l))))) (2 ^ 64 - 1) in
    subst P (sym is) (rw h refl)

-- what is pushed for a node below which none goes, for one that this empties, and for one that has children left
pub below_same : AreSame → (f from to : ℕ) (old now : List TableNode) (key : Key) (number : ℕ) (row : KeyedRow) (made : List Link) (rest : KeyedRow) → number < length old → AreNodesAdded old now
    → AreLinksIn (length old) made → children_in (slice_get (node_views old) number) ≡ row → 0 < count (bare row) → fits f (bare row) ≡ true → within_range from to (contents (bare row)) ≡ []
    → row_before (node_views now) (made ++ ToNode key number ∷ []) rest ≡ row_before (node_views old) made (pruned_node from to key (slice_get (node_views old) number) rest)
below_same same f from to old now key number row made rest own a h e some fit none =
    let P : KeyedRow → Type 0 = λ r. (0 < count (bare r)) × (fits f (bare r) ≡ true) × (within_range from to (contents (bare r)) ≡ []) in
    let all = subst P (sym e) (some, fit, none) in
    links_kept old now (made ++ ToNode key number ∷ []) rest a (links_in_append (length old) made (ToNode key number ∷ []) h (own, tt))
    ∙ before_append (node_views old) made (ToNode key number ∷ []) rest
    ∙ ap (row_before (node_views old) made) (sym (node_same same f from to key (slice_get (node_views old) number) rest all.0 all.1 all.2))

pub below_emptied : (from to : ℕ) (old now : List TableNode) (key : Key) (o : Option NodeView) (row : KeyedRow) (made links : List Link) (rest : KeyedRow) → AreNodesAdded old now
    → AreLinksIn (length old) made → children_in o ≡ row → row_of (node_views now) links ≡ pruned_by_keys from to row → length links ≡ 0
    → row_before (node_views now) made rest ≡ row_before (node_views old) made (pruned_node from to key o rest)
below_emptied from to old now key o row made links rest a h e r z =
    let number = links_counted (node_views now) links in
    let left = ap (λ (v : KeyedRow). count (bare v)) (r ∙ ap (pruned_by_keys from to) (sym e)) in
    let none = tidied_none key (place_without_range from to (children_in o) (stretch_in o)) (pruned_by_keys from to (children_in o)) rest (omega (arith, number, left, z)) in
    links_kept old now made rest a h ∙ ap (row_before (node_views old) made) (sym none)

pub below_left : (from to : ℕ) (old now : List TableNode) (key : Key) (o : Option NodeView) (row : KeyedRow) (made links : List Link) (rest : KeyedRow) → AreNodesAdded old now
    → AreLinksIn (length old) made → children_in o ≡ row → row_of (node_views now) links ≡ pruned_by_keys from to row → 0 < length (within_range from to (contents (bare row))) → 0 < length links
    → row_before (node_views now) made (node_in key None (row_of (node_views now) links) rest) ≡ row_before (node_views old) made (pruned_node from to key o rest)
below_left from to old now key o row made links rest a h e r gone some =
    let number = links_counted (node_views now) links in
    let is = r ∙ ap (pruned_by_keys from to) (sym e) in
    let left = ap (λ (v : KeyedRow). count (bare v)) is in
    let P : KeyedRow → Type 0 = λ v. 0 < length (within_range from to (contents (bare v))) in
    let dirty = dirty_then from to (children_in o) (stretch_in o) (subst P (sym e) gone) in
    let whole = ap (λ (p : Option Stretch). keyed_tidied (node_in key p (pruned_by_keys from to (children_in o)) rest)) dirty
    ∙ tidied_some key None (pruned_by_keys from to (children_in o)) rest (omega (arith, number, left, some)) in
    links_kept old now made (node_in key None (row_of (node_views now) links) rest) a h
    ∙ ap (λ v. row_before (node_views old) made (node_in key None v rest)) is
    ∙ ap (row_before (node_views old) made) (sym whole)

-- the links of a copy of a node, seen as a slice
pub copy_sound : (f level : ℕ) (nodes : List TableNode) (links slice : List Link) → slice ≡ links → IsSoundView f (record { level = level; place = None; children = row_of (node_views nodes) links })
    → IsSoundView f (record { level = level; place = None; children = row_of (node_views nodes) slice })
copy_sound f level nodes links slice is h = subst (λ (v : List Link). IsSoundView f (record { level = level; place = None; children = row_of (node_views nodes) v })) (sym is) h

-- links that stand go on standing behind two calls that add nodes and only read the volume
pub standing_twice : (a b d : VolumeState) (old mid now : List TableNode) (links : List Link) → Keeps a b → SameShape a b → Keeps b d → SameShape b d → AreNodesAdded old mid → AreNodesAdded mid now
    → AreStandingLinks a old links → AreStandingLinks d now links
standing_twice a b d old mid now links k s l t x y h = standing_on b d mid now links l t y (standing_on a b old mid links k s x h)

-- behind the links of lower ranks that a walk passes over, if there are any
pub range_lower : (seen : List NodeView) (from to : ℕ) (links : List Link) (n : ℕ) → (0 < n → 0 < from) → Passed seen (from - 1) links n
    → within_range from to (contents (bare (row_of seen links))) ≡ within_range from to (contents (bare (row_of seen (drop n links))))
range_lower seen from to links zero l p = refl
range_lower seen from to links (suc n) l p =
    let some : 0 < from = l (omega arith) in
    let back = contents (bare (row_of seen (drop (suc n) links))) in
    ap (within_range from to) p.is ∙ filter-append (λ x. in_range from to x) p.front back
    ∙ ap (λ (v : List Leaf). v ++ within_range from to back) (none_lower (from - 1) from to p.front (omega (arith, some)) p.within)
