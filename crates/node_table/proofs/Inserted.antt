-- What the links that an insertion pushes lead to.
use Rattle.std.proofs.Common.{◌≡◌, ℕ, ◌<◌, ◌≤◌, true, false, List, [], ◌∷◌, ◌++◌, length, refl, arith, ap, sym, ◌∙◌, subst}
use Rattle.std.specs.Prelude.{Option, None, Some, slice_get}
use Rattle.std.proofs.lemmas.Option.{slice_get-get_or}
use Rattle.ubifs_base.specs.Key.{IsKey}
use Rattle.ubifs_base.specs.declared.key.Key.{Key}
use Rattle.index_tree.specs.Shape.{fits, left_half}
use Rattle.index_tree.specs.declared.leaf.Leaf.{Leaf}
use Rattle.index_media.specs.Insertion.{first_key, keyed_front, keyed_back, keyed_parted, lowered, inserted_by_keys}
use Rattle.index_media.specs.InsertionSound.{AreKeys}
use Rattle.index_media.specs.KeyedKeys.{AreKeysBounded}
use Rattle.index_media.specs.KeyedRow.{KeyedRow, no_more, leaf_in, node_in, bare}
use Rattle.table_nodes.specs.NodeView.{NodeView, node_before, row_of, node_views, children_in, tree_at, IsRootIn}
use Rattle.table_nodes.specs.Sound.{IsSoundView}
use Rattle.table_nodes.specs.Links.{row_before, IsLinkIn, AreLinksIn, AreNodesAdded}
use Rattle.node_table.specs.Staging.{insertion_passes, IsGrownRow, IsSoundRoot}
use Rattle.table_nodes.specs.declared.link.Link.{Link}
use Rattle.table_nodes.specs.declared.link.Link.TheVariants.{ToLeaf, ToNode}
use Rattle.table_nodes.specs.declared.node.Root.{Root}
use Rattle.table_nodes.specs.declared.node.TableNode.{TableNode}
use Rattle.table_nodes.specs.LinkLaws.{link_there, views_added, added_longer, links_kept, links_there, before_none, before_append}
use Rattle.ubi_volume.specs.Volume.{VolumeState, Keeps, SameShape}
use Rattle.node_table.specs.StandingLinks.{standing_both, standing_first, standing_leaf, standing_on, standing_rest}
use Rattle.node_table.specs.Unloaded.{AreStandingLinks, DoLinksStand}
use Rattle.node_table.proofs.Staged.{Halved, link_passed, leaf_before, node_inside, grown_row}
use Rattle.table_nodes.specs.NodeViewLaws.{views_length, get_left, children_fit}

empty_of : (links : List Link) → length links ≡ 0 → links ≡ []
empty_of [] h = refl
empty_of (x ∷ xs) h = absurd (omega (arith, h))

pub among_none : (seen : List NodeView) (f : ℕ) (new : Leaf) (links made : List Link) → length links ≡ 0
    → row_before seen (made ++ ToLeaf new ∷ []) no_more ≡ row_before seen made (inserted_by_keys f new (row_of seen links))
among_none seen f new links made e =
    before_append seen made (ToLeaf new ∷ []) no_more ∙ ap (λ v. row_before seen made (inserted_by_keys f new (row_of seen v))) (sym (empty_of links e))

pub among_passed : (seen : List NodeView) (f : ℕ) (new : Leaf) (link : Link) (rest links made : List Link) → links ≡ link ∷ rest → insertion_passes new link rest ≡ true
    → row_before seen (made ++ link ∷ []) (inserted_by_keys f new (row_of seen rest)) ≡ row_before seen made (inserted_by_keys f new (row_of seen links))
among_passed seen f new link rest links made e s =
    before_append seen made (link ∷ []) (inserted_by_keys f new (row_of seen rest)) ∙ ap (row_before seen made) (sym (link_passed f seen new link rest s))
    ∙ ap (λ v. row_before seen made (inserted_by_keys f new (row_of seen v))) (sym e)

pub among_leaf : (seen : List NodeView) (f : ℕ) (new x : Leaf) (rest links made : List Link) → links ≡ ToLeaf x ∷ rest → insertion_passes new (ToLeaf x) rest ≡ false
    → row_before seen ((made ++ ToLeaf new ∷ []) ++ links) no_more ≡ row_before seen made (inserted_by_keys f new (row_of seen links))
among_leaf seen f new x rest links made e s =
    before_append seen (made ++ ToLeaf new ∷ []) links no_more ∙ before_append seen made (ToLeaf new ∷ []) (row_before seen links no_more)
    ∙ ap (λ r. row_before seen made (leaf_in new r)) (before_none seen links ∙ ap (row_of seen) e) ∙ ap (row_before seen made) (sym (leaf_before f seen new x rest s))
    ∙ ap (λ v. row_before seen made (inserted_by_keys f new (row_of seen v))) (sym e)

there_old : (f : ℕ) (old : List TableNode) (links : List Link) → fits f (bare (row_of (node_views old) links)) ≡ true → AreLinksIn (length old) links
there_old f old links h = subst (λ n. AreLinksIn n links) (views_length old) (links_there f (node_views old) links h)

-- the links behind the first one are there too
pub rest_there : (f : ℕ) (old : List TableNode) (link : Link) (rest links : List Link) → links ≡ link ∷ rest → fits f (bare (row_of (node_views old) links)) ≡ true → AreLinksIn (length old) rest
rest_there f old link rest links e h =
    let P : List Link → Type 0 = λ v. fits f (bare (row_of (node_views old) v)) ≡ true in
    (there_old f old (link ∷ rest) (subst P e h)).1

pub all_there : (f : ℕ) (old : List TableNode) (links : List Link) → fits f (bare (row_of (node_views old) links)) ≡ true → AreLinksIn (length old) links
all_there f old links h = there_old f old links h

pub among_node : (f : ℕ) (old now : List TableNode) (new : Leaf) (key : Key) (number : ℕ) (rest links made more : List Link) → links ≡ ToNode key number ∷ rest → AreNodesAdded old now
    → fits f (bare (row_of (node_views old) links)) ≡ true → insertion_passes new (ToNode key number) rest ≡ false
    → ((r : KeyedRow) → row_before (node_views now) more r ≡ row_before (node_views old) made (keyed_parted f (lowered new key) (inserted_by_keys f new (children_in (slice_get (node_views old) number))) r))
    → row_before (node_views now) (more ++ rest) no_more ≡ row_before (node_views old) made (inserted_by_keys f new (row_of (node_views old) links))
among_node f old now new key number rest links made more e a h s m =
    let kept = links_kept old now rest no_more a (rest_there f old (ToNode key number) rest links e h) in
    before_append (node_views now) more rest no_more ∙ m (row_before (node_views now) rest no_more)
    ∙ ap (λ r. row_before (node_views old) made (keyed_parted f (lowered new key) (inserted_by_keys f new (children_in (slice_get (node_views old) number))) r)) (kept ∙ before_none (node_views old) rest)
    ∙ ap (row_before (node_views old) made) (sym (node_inside f (node_views old) new key number rest s))
    ∙ ap (λ v. row_before (node_views old) made (inserted_by_keys f new (row_of (node_views old) v))) (sym e)

-- the row that was made among the links of a node
pub made_row : (old now : List TableNode) (made links : List Link) (row : KeyedRow) → made ≡ [] → row_before (node_views now) links no_more ≡ row_before (node_views old) made row → row_of (node_views now) links ≡ row
made_row old now made links row e h = sym (before_none (node_views now) links) ∙ h ∙ ap (λ v. row_before (node_views old) v row) e

-- the same where the node was opened, among a copy of its links
pub among_made : (f f' : ℕ) (mid now : List TableNode) (new : Leaf) (none made all links own : List Link) → none ≡ [] → all ≡ made → links ≡ own → f ≡ f'
    → row_before (node_views now) made no_more ≡ row_before (node_views mid) none (inserted_by_keys f new (row_of (node_views mid) links)) → row_of (node_views now) all ≡ inserted_by_keys f' new (row_of (node_views mid) own)
among_made f f' mid now new none made all links own e a l k h =
    ap (row_of (node_views now)) a ∙ made_row mid now none made (inserted_by_keys f new (row_of (node_views mid) links)) e h
    ∙ ap (λ n. inserted_by_keys n new (row_of (node_views mid) links)) k ∙ ap (λ v. inserted_by_keys f' new (row_of (node_views mid) v)) l

pub below_made : (f f' : ℕ) (old now : List TableNode) (new : Leaf) (key low : Key) (made links : List Link) (row children rest : KeyedRow) → f' ≡ f → AreNodesAdded old now → AreLinksIn (length old) made
    → low ≡ lowered new key → row_of (node_views now) links ≡ inserted_by_keys f new row → children ≡ row
    → row_before (node_views now) made (keyed_parted f' low (row_of (node_views now) links) rest) ≡ row_before (node_views old) made (keyed_parted f (lowered new key) (inserted_by_keys f new children) rest)
below_made f f' old now new key low made links row children rest e a h k r c =
    links_kept old now made (keyed_parted f' low (row_of (node_views now) links) rest) a h
    ∙ ap (λ n. row_before (node_views old) made (keyed_parted n low (row_of (node_views now) links) rest)) e
    ∙ ap (λ n. row_before (node_views old) made (keyed_parted f n (row_of (node_views now) links) rest)) k
    ∙ ap (λ v. row_before (node_views old) made (keyed_parted f (lowered new key) v rest)) r
    ∙ ap (λ v. row_before (node_views old) made (keyed_parted f (lowered new key) (inserted_by_keys f new v) rest)) (sym c)

pub below_grown : (f f' level : ℕ) (new : Leaf) (row made : KeyedRow) → 3 ≤ f → f' ≡ f → IsKey new.key → IsSoundView f (record { level = level; place = None; children = row })
    → made ≡ inserted_by_keys f new row → IsGrownRow f' level made
below_grown f f' level new row made three e own s r =
    let g = grown_row f level new (record { level = level; place = None; children = row }) three own s refl in
    let P : KeyedRow → Type 0 = λ v. IsGrownRow f level v in
    subst (λ n. IsGrownRow n level made) (sym e) (subst P (sym r) g)

-- each root goes on showing its index
pub tree_kept : (old now : List TableNode) (root : Option Root) → AreNodesAdded old now → IsRootIn old root → tree_at now root ≡ tree_at old root
tree_kept old now None a h = refl
tree_kept old now (Some root) a h =
    let p = views_added old now a in
    let v : NodeView = record { level = 0; place = None; children = no_more } in
    let there = slice_get-get_or (node_views old) root.number v (subst (λ n. root.number < n) (sym (views_length old)) h) in
    ap (λ o. node_before root.key o no_more) (ap (λ w. slice_get w root.number) p.1 ∙ get_left (node_views old) p.0 root.number _ there ∙ sym there)

-- and is one of the longer table, as sound as it was
pub root_kept : (old now : List TableNode) (root : Option Root) → AreNodesAdded old now → IsRootIn old root → IsRootIn now root
root_kept old now None a h = tt
root_kept old now (Some root) a h = let long = added_longer old now a in omega (arith, h, long)

pub sound_kept : (old now : List TableNode) (root : Option Root) → AreNodesAdded old now → IsSoundRoot old root → IsSoundRoot now root
sound_kept old now root a r =
    let same = tree_kept old now root a r.there in
    let B : KeyedRow → Type 0 = λ v. AreKeysBounded 0 None v in
    let K : KeyedRow → Type 0 = λ v. AreKeys v in
    record { there = root_kept old now root a r.there; bounded = subst B (sym same) r.bounded; keys = subst K (sym same) r.keys }

-- the row that an insertion below a root makes
pub top_made : (f : ℕ) (old now : List TableNode) (new : Leaf) (root : Root) (none made : List Link) → none ≡ []
    → row_before (node_views now) made no_more ≡ row_before (node_views old) none (keyed_parted f (lowered new root.key) (inserted_by_keys f new (children_in (slice_get (node_views old) root.number))) no_more)
    → row_of (node_views now) made ≡ inserted_by_keys f new (tree_at old (Some root))
top_made f old now new root none made e h =
    made_row old now none made _ e h ∙ sym (node_inside f (node_views old) new root.key root.number [] refl)

-- a row whose nodes have children is the same over more nodes
pub row_kept : (f : ℕ) (old now : List TableNode) (links : List Link) → AreNodesAdded old now → fits f (bare (row_of (node_views old) links)) ≡ true → row_of (node_views now) links ≡ row_of (node_views old) links
row_kept f old now links a h = sym (before_none (node_views now) links) ∙ links_kept old now links no_more a (all_there f old links h) ∙ before_none (node_views old) links

-- so is the second half of a node once the first half stands
pub back_row_kept : (f level : ℕ) (old now : List TableNode) (back : List Link) (half : KeyedRow) → AreNodesAdded old now → row_of (node_views old) back ≡ half
    → IsSoundView f (record { level = level; place = None; children = half }) → row_of (node_views now) back ≡ half
back_row_kept f level old now back half a e s =
    let P : KeyedRow → Type 0 = λ r. fits f (bare r) ≡ true in
    row_kept f old now back a (subst P (sym e) (children_fit f (record { level = level; place = None; children = half }) s)) ∙ e

pub back_sound : (f f' level : ℕ) (old now : List TableNode) (back : List Link) (half : KeyedRow) → f' ≡ f → AreNodesAdded old now → row_of (node_views old) back ≡ half
    → IsSoundView f (record { level = level; place = None; children = half }) → IsSoundView f' (record { level = level; place = None; children = row_of (node_views now) back })
back_sound f f' level old now back half g a e s =
    let P : KeyedRow → Type 0 = λ r. IsSoundView f (record { level = level; place = None; children = r }) in
    let Q : ℕ → Type 0 = λ n. IsSoundView n (record { level = level; place = None; children = row_of (node_views now) back }) in
    subst Q (sym g) (subst P (sym (back_row_kept f level old now back half a e s)) s)

-- two halves are what stands for a node
pub parted_two : (seen : List NodeView) (made : List Link) (f level : ℕ) (key : Key) (row : KeyedRow) → Halved f level key row → (front back : KeyedRow) (second : Key) (rest : KeyedRow)
    → front ≡ keyed_front (left_half f) row → back ≡ keyed_back (left_half f) row → second ≡ first_key key (keyed_back (left_half f) row)
    → row_before seen made (node_in key None front (node_in second None back rest)) ≡ row_before seen made (keyed_parted f key row rest)
parted_two seen made f level key row h front back second rest a b k =
    ap (λ r. row_before seen made (node_in key None r (node_in second None back rest))) a
    ∙ ap (λ r. row_before seen made (node_in key None (keyed_front (left_half f) row) (node_in second None r rest))) b
    ∙ ap (λ s. row_before seen made (node_in key None (keyed_front (left_half f) row) (node_in s None (keyed_back (left_half f) row) rest))) k
    ∙ ap (row_before seen made) (sym (h.parts rest))

-- what is known of the links behind the first one
pub rest_fits : (f : ℕ) (seen : List NodeView) (link : Link) (rest links : List Link) → links ≡ link ∷ rest → fits f (bare (row_of seen links)) ≡ true
    → (IsLinkIn (length seen) link) × (fits f (bare (row_of seen rest)) ≡ true)
rest_fits f seen link rest links e h =
    let P : List Link → Type 0 = λ v. fits f (bare (row_of seen v)) ≡ true in
    link_there f seen link (row_of seen rest) (subst P e h)

pub first_there : (f : ℕ) (old : List TableNode) (link : Link) (rest links : List Link) → links ≡ link ∷ rest → fits f (bare (row_of (node_views old) links)) ≡ true → IsLinkIn (length old) link
first_there f old link rest links e h =
    let P : List Link → Type 0 = λ v. fits f (bare (row_of (node_views old) v)) ≡ true in
    (there_old f old (link ∷ rest) (subst P e h)).0

-- the links of a row whose nodes have children are links in the table
pub row_standing : (s : VolumeState) (f : ℕ) (nodes : List TableNode) (links : List Link) → fits f (bare (row_of (node_views nodes) links)) ≡ true → DoLinksStand s nodes links → AreStandingLinks s nodes links
row_standing s f nodes links fit h = record { there = all_there f nodes links fit; stand = h }

-- links still stand where a leaf is pushed, or the first link of such a row
pub leaf_standing : (s : VolumeState) (nodes : List TableNode) (made all : List Link) (leaf : Leaf) → all ≡ made ++ ToLeaf leaf ∷ [] → AreStandingLinks s nodes made → AreStandingLinks s nodes all
leaf_standing s nodes made all leaf e h =
    let P : List Link → Type 0 = λ v. AreStandingLinks s nodes v in
    subst P (sym e) (standing_both s nodes made (ToLeaf leaf ∷ []) h (standing_leaf s nodes (ToLeaf leaf) tt))

pub passed_standing : (s : VolumeState) (f : ℕ) (nodes : List TableNode) (links rest made all : List Link) (link : Link) → links ≡ link ∷ rest → all ≡ made ++ link ∷ []
    → fits f (bare (row_of (node_views nodes) links)) ≡ true → DoLinksStand s nodes links → AreStandingLinks s nodes made → AreStandingLinks s nodes all
passed_standing s f nodes links rest made all link is e fit stand h =
    let P : List Link → Type 0 = λ v. AreStandingLinks s nodes v in
    subst P (sym e) (standing_both s nodes made (link ∷ []) h (standing_first s nodes links rest link is (row_standing s f nodes links fit stand)))

-- where all links of such a row are pushed, or those behind the first one once nodes were added
pub all_standing : (s : VolumeState) (f : ℕ) (nodes : List TableNode) (links made all : List Link) → all ≡ made ++ links → fits f (bare (row_of (node_views nodes) links)) ≡ true
    → DoLinksStand s nodes links → AreStandingLinks s nodes made → AreStandingLinks s nodes all
all_standing s f nodes links made all e fit stand h =
    let P : List Link → Type 0 = λ v. AreStandingLinks s nodes v in
    subst P (sym e) (standing_both s nodes made links h (row_standing s f nodes links fit stand))

pub behind_standing : (a b : VolumeState) (f : ℕ) (old now : List TableNode) (links rest made all : List Link) (link : Link) → Keeps a b → SameShape a b → AreNodesAdded old now → links ≡ link ∷ rest
    → all ≡ made ++ rest → fits f (bare (row_of (node_views old) links)) ≡ true → DoLinksStand a old links → AreStandingLinks b now made → AreStandingLinks b now all
behind_standing a b f old now links rest made all link keeps shape added is e fit stand h =
    let P : List Link → Type 0 = λ v. AreStandingLinks b now v in
    let own = standing_rest a old links rest link is (row_standing a f old links fit stand) in
    subst P (sym e) (standing_both b now made rest h (standing_on a b old now rest keeps shape added own))
