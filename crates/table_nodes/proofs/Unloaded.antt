-- Nodes that aren't loaded are added, and links to them show what they tell.
use Rattle.std.proofs.Common.{◌≡◌, ℕ, zero, suc, ◌-◌, ◌<◌, List, [], ◌∷◌, ◌++◌, length, refl, ap, sym, ◌∙◌, subst, arith}
use Rattle.std.specs.Prelude.{Option, Some}
use Rattle.std.proofs.lemmas.List.Elements.{All-nil, All-cons}
use Rattle.ubifs_base.specs.declared.key.Key.{Key}
use Rattle.index_media.specs.KeyedRow.{KeyedRow, no_more, leaf_in, node_in, all_clean}
use Rattle.index_media.specs.PlacedRow.{leaf_of, stretch_of}
use Rattle.index_tree.specs.declared.leaf.Leaf.{Leaf}
use Rattle.media_sys.specs.declared.branch.Branch.{Branch}
use Rattle.rows_below.specs.RowBelow.{row_by}
use Rattle.told_value.specs.declared.told.Told.{Told}
use Rattle.table_nodes.specs.Beyond.{child_before, children_by, contents_told, place_by, row_at_place, row_told}
use Rattle.table_nodes.specs.NodeView.{node_view_of, row_of, stretch_at, node_views}
use Rattle.table_nodes.specs.NodeViewLaws.{views_push}
use Rattle.table_nodes.specs.StubLaws.{viewed}
use Rattle.table_nodes.specs.Stubs.{AreStubs, IsChildView, IsStubOf}
use Rattle.table_nodes.specs.declared.stub_node.StubNode.{StubNode}
use Rattle.table_nodes.specs.Links.{row_before, AreLinksIn}
use Rattle.table_nodes.specs.declared.link.Link.{Link}
use Rattle.table_nodes.specs.declared.link.Link.TheVariants.{ToLeaf, ToNode}
use Rattle.table_nodes.specs.declared.node.NodePlace.{NodePlace}
use Rattle.table_nodes.specs.declared.node.TableNode.{TableNode}
use Rattle.table_nodes.specs.declared.seen.MediumSeen.{MediumSeen}
use Rattle.table_nodes.specs.LinkLaws.{before_append, links_in_append, links_in_pushed, node_pushed}

pub leaf_in_links : (nodes : List TableNode) (links : List Link) (x : Leaf) → AreLinksIn (length nodes) links → AreLinksIn (length nodes) (links ++ ToLeaf x ∷ [])
leaf_in_links nodes links x h = links_in_append (length nodes) links (ToLeaf x ∷ []) h (tt, tt)

-- a row that is read is its first child, before those of the other branches
row_opened : (lebs : List (List ℕ)) (levels : ℕ) (branch : Branch) (branches : List Branch)
    → all_clean (row_by (contents_told lebs) levels (branch ∷ branches)) ≡ child_before lebs levels branch (all_clean (row_by (contents_told lebs) levels branches))
unfolding row_by
row_opened lebs zero branch branches = refl
row_opened lebs (suc levels) branch branches = refl

none_opened : (lebs : List (List ℕ)) (levels : ℕ) → all_clean (row_by (contents_told lebs) levels []) ≡ no_more
unfolding row_by
none_opened lebs zero = refl
none_opened lebs (suc levels) = refl

-- a leaf is pushed for a branch
pub leaf_child : (lebs : List (List ℕ)) (levels : ℕ) (nodes : List TableNode) (links made : List Link) (branch : Branch) (x : Leaf) (rest : KeyedRow) → levels ≡ 0 → x ≡ leaf_of branch → made ≡ links ++ ToLeaf x ∷ []
    → row_before (node_views nodes) made rest ≡ row_before (node_views nodes) links (child_before lebs levels branch rest)
leaf_child lebs levels nodes links made branch x rest none same is =
    ap (λ (l : List Link). row_before (node_views nodes) l rest) is
    ∙ before_append (node_views nodes) links (ToLeaf x ∷ []) rest
    ∙ ap (λ (y : Leaf). row_before (node_views nodes) links (leaf_in y rest)) same
    ∙ ap (λ (n : ℕ). row_before (node_views nodes) links (child_before lebs n branch rest)) (sym none)

child_shown : (lebs : List (List ℕ)) (levels level : ℕ) (place : Option NodePlace) (beyond : Option (Told MediumSeen)) (told : Told MediumSeen) (linked : KeyedRow) (branch : Branch) (rest : KeyedRow) → 0 < levels → level ≡ levels - 1
    → place ≡ Some (place_by branch) → beyond ≡ Some told → told.value ≡ lebs → node_in branch.key (stretch_at place) (children_by level place beyond linked) rest ≡ child_before lebs levels branch rest
child_shown lebs zero level place beyond told linked branch rest some one stands tells same = absurd (omega (arith, some))
child_shown lebs (suc k) level place beyond told linked branch rest some one stands tells same =
    let below : level ≡ k = omega (arith, one) in
    ap (λ (p : Option NodePlace). node_in branch.key (stretch_at p) (children_by level p beyond linked) rest) stands
    ∙ ap (λ (b : Option (Told MediumSeen)). node_in branch.key (Some (stretch_of branch)) (children_by level (Some (place_by branch)) b linked) rest) tells
    ∙ ap (λ (l : List (List ℕ)). node_in branch.key (Some (stretch_of branch)) (row_at_place l level (Some (place_by branch)) linked) rest) same
    ∙ ap (λ (n : ℕ). node_in branch.key (Some (stretch_of branch)) (row_at_place lebs n (Some (place_by branch)) linked) rest) below

-- a node that isn't loaded is added for a branch, and a link to it is pushed
pub stub_child : (lebs : List (List ℕ)) (levels : ℕ) (nodes new : List TableNode) (links made : List Link) (number : ℕ) (branch : Branch) (n : TableNode) (told : Told MediumSeen) (rest : KeyedRow) → 0 < levels → n.level ≡ levels - 1
    → n.place ≡ Some (place_by branch) → n.beyond ≡ Some told → told.value ≡ lebs → new ≡ nodes ++ n ∷ [] → number ≡ length nodes → made ≡ links ++ ToNode branch.key number ∷ [] → AreLinksIn (length nodes) links
    → row_before (node_views new) made rest ≡ row_before (node_views nodes) links (child_before lebs levels branch rest)
stub_child lebs levels nodes new links made number branch n told rest some one stands tells same added last pushed there =
    let seen = node_views nodes in
    ap (λ (l : List Link). row_before (node_views new) l rest) pushed
    ∙ node_pushed nodes new n number branch.key links rest added last there
    ∙ ap (row_before seen links) (child_shown lebs levels n.level n.place n.beyond told (row_of seen n.links.items) branch rest some one stands tells same)

pub stub_child_there : (nodes new : List TableNode) (links made : List Link) (number : ℕ) (key : Key) (n : TableNode) → new ≡ nodes ++ n ∷ [] → number ≡ length nodes → made ≡ links ++ ToNode key number ∷ [] → AreLinksIn (length nodes) links
    → AreLinksIn (length new) made
stub_child_there nodes new links made number key n added last pushed there =
    let P : List Link → Type 0 = λ l. AreLinksIn (length new) l in
    subst P (sym pushed) (links_in_pushed nodes new n number key links added last there)

-- that node is one to which the branch leads
pub stub_added : (lebs : List (List ℕ)) (levels : ℕ) (nodes new : List TableNode) (branch : Branch) (n : TableNode) (told : Told MediumSeen) → 0 < levels → n.level ≡ levels - 1 → n.place ≡ Some (place_by branch)
    → n.beyond ≡ Some told → told.value ≡ lebs → new ≡ nodes ++ n ∷ [] → AreStubs lebs levels (branch ∷ []) nodes new
stub_added lebs levels nodes new branch n told some one stands tells same added =
    let stub : StubNode = record { level = levels - 1; place = place_by branch; told = told } in
    let seen = node_views nodes in
    let is : IsStubOf n stub = record { told = told; beyond = tells; tells = refl; place = stands; level = sym one } in
    let own : IsChildView lebs levels (branch ∷ []) (node_view_of seen n) = record {
      branch = branch;
      among = (0, omega arith, refl);
      level = levels - 1;
      above = omega (arith, some);
      is = viewed seen n stub is ∙ ap (λ (l : List (List ℕ)). record { level = levels - 1; place = Some (stretch_of branch); children = row_told l (levels - 1) branch }) same;
    } in
    record {
      more = n ∷ [];
      is = added;
      views = node_view_of seen n ∷ [];
      seen = ap node_views added ∙ views_push nodes n;
      children = All-cons (IsChildView lebs levels (branch ∷ [])) (node_view_of seen n) [] own (All-nil (IsChildView lebs levels (branch ∷ [])));
      placed = rw stands refl;
    }

-- no branch is left
pub none_left : (lebs : List (List ℕ)) (levels : ℕ) (nodes : List TableNode) (links : List Link) (branches : List Branch) → length branches ≡ 0
    → row_before (node_views nodes) links no_more ≡ row_before (node_views nodes) links (all_clean (row_by (contents_told lebs) levels branches))
none_left lebs levels nodes links [] none = ap (row_before (node_views nodes) links) (sym (none_opened lebs levels))
none_left lebs levels nodes links (branch ∷ branches) none = absurd (omega (arith, none))

-- a branch was opened, and the others are behind it
pub one_more : (lebs : List (List ℕ)) (levels : ℕ) (a b : List TableNode) (links made : List Link) (branches rest : List Branch) (branch : Branch) → branches ≡ branch ∷ rest
    → ((others : KeyedRow) → row_before (node_views b) made others ≡ row_before (node_views a) links (child_before lebs levels branch others))
    → row_before (node_views b) made (all_clean (row_by (contents_told lebs) levels rest)) ≡ row_before (node_views a) links (all_clean (row_by (contents_told lebs) levels branches))
one_more lebs levels a b links made branches rest branch is now =
    now (all_clean (row_by (contents_told lebs) levels rest))
    ∙ ap (row_before (node_views a) links) (sym (row_opened lebs levels branch rest))
    ∙ ap (λ (l : List Branch). row_before (node_views a) links (all_clean (row_by (contents_told lebs) levels l))) (sym is)
