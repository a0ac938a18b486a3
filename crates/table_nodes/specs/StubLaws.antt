-- What is seen of a node that isn't loaded, and that nodes which are added where it is opened are sound and clean.
use Rattle.std.proofs.Common.{◌≡◌, ℕ, zero, suc, ◌+◌, ◌-◌, ◌<◌, ◌≤◌, true, false, List, [], ◌∷◌, ◌++◌, length, refl, ap, sym, ◌∙◌, subst, arith, append-nil, append_assoc, length-append}
use Rattle.std.specs.Prelude.{◌&&◌, Option, None, Some, IfSome, All, Contains, is_some, slice_get, option_map}
use Rattle.std.proofs.lemmas.List.{length-map, map-append}
use Rattle.std.proofs.lemmas.List.Elements.{All-nil, All-cons, All-head, All-tail, All-append, All-weaker, All-contains, Contains-append_left, Contains-append_right}
use Rattle.std.proofs.lemmas.List.Folds.{list_all-append}
use Rattle.std.proofs.lemmas.Option.{slice_get-get_or, slice_get-map}
use Rattle.index_tree.specs.Levels.{levelled}
use Rattle.index_tree.specs.Order.{key_rank, leaf_rank}
use Rattle.index_tree.specs.Shape.{done, fits}
use Rattle.index_media.specs.Clean.{node_branch}
use Rattle.index_media.specs.InsertionSound.{AreKeys, fit_node, fits_node}
use Rattle.index_media.specs.KeyedKeys.{key_before, AreKeysBounded}
use Rattle.index_media.specs.KeyedRow.{KeyedRow, no_more, leaf_in, node_in, bare, all_clean}
use Rattle.index_media.specs.PlacedRow.{stretch_of}
use Rattle.media_sys.specs.declared.branch.Branch.{Branch}
use Rattle.node_cache.specs.CleanRows.{all_is_clean, levels_node}
use Rattle.node_cache.specs.OnVolume.{IsOnVolume}
use Rattle.rows_below.specs.NodeSaid.{node_said_at}
use Rattle.rows_below.specs.RowBelow.{row_by}
use Rattle.told_value.specs.declared.told.Told.{Told}
use Rattle.ubi_volume.specs.Volume.{VolumeState}
use Rattle.ubifs_base.specs.declared.key.Key.{Key}
use Rattle.table_nodes.specs.Beyond.{branch_at_place, children_by, contents_told, row_told}
use Rattle.table_nodes.specs.Clean.{is_clean_below, are_clean_below}
use Rattle.table_nodes.specs.LinkLaws.{before_append, before_none, links_in_append, links_there, views_added}
use Rattle.table_nodes.specs.Links.{row_before, AreLinksIn, AreNodesAdded}
use Rattle.table_nodes.specs.NodeView.{NodeView, children_in, node_before, node_view_of, node_views, row_of, stretch_at, views_behind}
use Rattle.table_nodes.specs.NodeViewLaws.{children_fit, get_left, get_seam, opened, sound_at, views_length, views_more}
use Rattle.table_nodes.specs.Sound.{IsSoundView, AreSoundViews}
use Rattle.table_nodes.specs.StubRows.{StandsAsTold, told_stands}
use Rattle.table_nodes.specs.Stubs.{are_placed, is_stub, unplaced_node, unplaced, AreOpened, AreStubs, IsChildView, IsStubOf}
use Rattle.table_nodes.specs.declared.link.Link.{Link}
use Rattle.table_nodes.specs.declared.node.NodePlace.{NodePlace}
use Rattle.table_nodes.specs.declared.node.TableNode.{TableNode}
use Rattle.table_nodes.specs.declared.seen.MediumSeen.{MediumSeen}
use Rattle.table_nodes.specs.declared.stub_node.StubNode.{StubNode}

-- ---- what is seen of it
-- its level, its place, and the row that it tells
abbrev pub stub_view : StubNode → NodeView
stub_view stub = record { level = stub.level; place = stretch_at (Some stub.place); children = row_told stub.told.value stub.level (branch_at_place stub.place) }

pub viewed : (seen : List NodeView) (n : TableNode) (stub : StubNode) → IsStubOf n stub → node_view_of seen n ≡ stub_view stub
viewed seen n stub h =
    let linked = row_of seen n.links.items in
    ap (λ (p : Option NodePlace). record { level = n.level; place = stretch_at p; children = children_by n.level p n.beyond linked }) h.place
    ∙ ap (λ (b : Option (Told MediumSeen)). record { level = n.level; place = stretch_at (Some stub.place); children = children_by n.level (Some stub.place) b linked }) h.beyond
    ∙ ap (λ (l : List (List ℕ)). record { level = n.level; place = stretch_at (Some stub.place); children = row_told l n.level (branch_at_place stub.place) }) (sym h.tells)
    ∙ ap (λ (k : ℕ). record { level = k; place = stretch_at (Some stub.place); children = row_told stub.told.value k (branch_at_place stub.place) }) (sym h.level)

seen_behind : (seen : List NodeView) (nodes : List TableNode) (i : ℕ) (n : TableNode) (stub : StubNode) → slice_get nodes i ≡ Some n → IsStubOf n stub
    → slice_get (views_behind seen nodes) (length seen + i) ≡ Some (stub_view stub)
seen_behind seen [] i n stub h is = absurd cc
seen_behind seen (m ∷ ms) zero n stub h is =
    let v = node_view_of seen m in
    let whole = views_behind seen (m ∷ ms) in
    let p = views_more (seen ++ v ∷ []) ms in
    let all : whole ≡ seen ++ v ∷ p.0 = p.1 ∙ append_assoc seen (v ∷ []) p.0 in
    let place : length seen + 0 ≡ length seen = omega arith in
    let same : m ≡ n = cc in
    ap (λ k. slice_get whole k) place ∙ ap (λ w. slice_get w (length seen)) all ∙ get_seam seen v p.0 ∙ ap (λ (t : TableNode). Some (node_view_of seen t)) same ∙ ap Some (viewed seen n stub is)
seen_behind seen (m ∷ ms) (suc i) n stub h is =
    let v = node_view_of seen m in
    let whole = views_behind seen (m ∷ ms) in
    let one = length-append seen (v ∷ []) in
    let place : length (seen ++ v ∷ []) + i ≡ length seen + suc i = omega (arith, one) in
    let P : ℕ → Type 0 = λ k. slice_get whole k ≡ Some (stub_view stub) in
    subst P place (seen_behind (seen ++ v ∷ []) ms i n stub h is)

pub stub_seen : (nodes : List TableNode) (i : ℕ) (n : TableNode) (stub : StubNode) → slice_get nodes i ≡ Some n → IsStubOf n stub → slice_get (node_views nodes) i ≡ Some (stub_view stub)
stub_seen nodes i n stub h is =
    let P : ℕ → Type 0 = λ k. slice_get (node_views nodes) k ≡ Some (stub_view stub) in
    let same : length {A = NodeView} [] + i ≡ i = omega arith in
    subst P same (seen_behind [] nodes i n stub h is)

pub some_stub : (nodes : List TableNode) (i : ℕ) (n : TableNode) (r : Option StubNode) → slice_get nodes i ≡ Some n → IfSome r (IsStubOf n) → IfSome r (λ stub. (node : TableNode) × (slice_get nodes i ≡ Some node) × IsStubOf node stub)
some_stub nodes i n None h is = tt
some_stub nodes i n (Some stub) h is = (n, h, is)

-- ---- where each loaded node is as if it were dirty, it is there still
stays_stub : (place : Option NodePlace) (beyond : Option (Told MediumSeen)) (told : Told MediumSeen) (level : ℕ) (n : TableNode) → beyond ≡ Some told → n.beyond ≡ beyond → n.place ≡ place → (unplaced_node n).place ≡ place
stays_stub place beyond told level n tells b p = let e = b ∙ tells in rw e p

unplaced_stub : (n : TableNode) (stub : StubNode) → IsStubOf n stub → IsStubOf (unplaced_node n) stub
unplaced_stub n stub h = record { told = h.told; beyond = h.beyond; tells = h.tells; place = stays_stub (Some stub.place) n.beyond h.told n.level n h.beyond refl h.place; level = h.level }

pub unplaced_seen : (nodes : List TableNode) (i : ℕ) (n : TableNode) (stub : StubNode) → slice_get nodes i ≡ Some n → IsStubOf n stub → slice_get (node_views (unplaced nodes)) i ≡ Some (stub_view stub)
unplaced_seen nodes i n stub h is = stub_seen (unplaced nodes) i (unplaced_node n) stub (slice_get-map unplaced_node nodes i ∙ ap (option_map unplaced_node) h) (unplaced_stub n stub is)

-- nodes that are added are so then too
pub unplaced_added : (old new : List TableNode) → AreNodesAdded old new → AreNodesAdded (unplaced old) (unplaced new)
unplaced_added old new a = record { more = unplaced a.more; is = ap unplaced a.is ∙ map-append unplaced_node old a.more }

-- ---- one that stands on a volume
pub record StubStands (s : VolumeState) (stub : StubNode) : Type 0 where
  pub there : stub.place.lnum < s.leb_cnt
  pub stands : StandsAsTold s.holds stub.told.value (branch_at_place stub.place)

pub stub_stands : (s : VolumeState) (nodes : List TableNode) (i : ℕ) (key : Key) (n : TableNode) (stub : StubNode) → slice_get nodes i ≡ Some n → IsStubOf n stub
    → IsOnVolume s (node_before key (slice_get (node_views (unplaced nodes)) i) no_more) → StubStands s stub
stub_stands s nodes i key n stub h is on =
    let P : Option NodeView → Type 0 = λ o. IsOnVolume s (node_before key o no_more) in
    let own = (subst P (unplaced_seen nodes i n stub h is) on).0 in
    record { there = own.holds; stands = told_stands s.holds stub.told.value stub.level own.level (node_branch key (stretch_at (Some stub.place))) own.node }

-- ---- a node that is loaded
loaded_children : (level : ℕ) (place : Option NodePlace) (beyond : Option (Told MediumSeen)) (linked : KeyedRow) → (is_some beyond && is_some place) ≡ false → children_by level place beyond linked ≡ linked
loaded_children level place None linked h = refl
loaded_children level None (Some told) linked h = refl
loaded_children level (Some place) (Some told) linked h = absurd cc

pub linked_row : (seen : List NodeView) (n : TableNode) → is_stub n ≡ false → (node_view_of seen n).children ≡ row_of seen n.links.items
linked_row seen n h = loaded_children n.level n.place n.beyond (row_of seen n.links.items) h

-- its links are those of its children, behind others
pub record LinksShow (nodes : List TableNode) (links made : List Link) (children : KeyedRow) : Type 0 where
  pub shown : row_before (node_views nodes) made no_more ≡ row_before (node_views nodes) links children
  pub there : AreLinksIn (length nodes) made

pub links_shown : (fanout : ℕ) (nodes : List TableNode) (i : ℕ) (n : TableNode) (links made : List Link) → AreSoundViews fanout (node_views nodes) → slice_get nodes i ≡ Some n → is_stub n ≡ false
    → made ≡ links ++ n.links.items → AreLinksIn (length nodes) links → LinksShow nodes links made (children_in (slice_get (node_views nodes) i))
links_shown fanout nodes i n links made s h loaded is there =
    let seen = node_views nodes in
    let own = n.links.items in
    let view = opened fanout nodes i n s h in
    let row = linked_row seen n loaded in
    let children = ap children_in view ∙ row in
    let sound = sound_at fanout seen i (node_view_of seen n) s view in
    let P : KeyedRow → Type 0 = λ r. fits fanout (bare r) ≡ true in
    let L : ℕ → Type 0 = λ k. AreLinksIn k own in
    let Q : List Link → Type 0 = λ l. AreLinksIn (length nodes) l in
    let in_own = subst L (views_length nodes) (links_there fanout seen own (subst P row (children_fit fanout (node_view_of seen n) sound))) in
    record {
      shown = ap (λ (l : List Link). row_before seen l no_more) is ∙ before_append seen links own no_more ∙ ap (row_before seen links) (before_none seen own ∙ sym children);
      there = subst Q (sym is) (links_in_append (length nodes) links own there in_own);
    }

-- ---- nodes that are added where one is opened
pub stubs_none : (lebs : List (List ℕ)) (levels : ℕ) (branches : List Branch) (old new : List TableNode) → new ≡ old → AreStubs lebs levels branches old new
stubs_none lebs levels branches old new e = record {
  more = [];
  is = e ∙ sym (append-nil old);
  views = [];
  seen = ap node_views e ∙ sym (append-nil (node_views old));
  children = All-nil (IsChildView lebs levels branches);
  placed = refl;
}

placed_both : (xs ys : List TableNode) → are_placed xs ≡ true → are_placed ys ≡ true → are_placed (xs ++ ys) ≡ true
placed_both xs ys h k = list_all-append (λ (n : TableNode). is_some n.place) xs ys ∙ rw (h, k) refl

child_more : (lebs : List (List ℕ)) (levels : ℕ) (few all : List Branch) → ((b : Branch) → Contains few b → Contains all b) → (v : NodeView) → IsChildView lebs levels few v → IsChildView lebs levels all v
child_more lebs levels few all more v h = record { branch = h.branch; among = more h.branch h.among; level = h.level; above = h.above; is = h.is }

-- those of the first branch, and those of the others
pub stubs_both : (lebs : List (List ℕ)) (levels : ℕ) (branch : Branch) (rest branches : List Branch) (a b c : List TableNode) → branches ≡ branch ∷ rest
    → AreStubs lebs levels (branch ∷ []) a b → AreStubs lebs levels rest b c → AreStubs lebs levels branches a c
stubs_both lebs levels branch rest branches a b c e x y =
    let all = branch ∷ rest in
    let first = All-weaker (IsChildView lebs levels (branch ∷ [])) (IsChildView lebs levels all) (child_more lebs levels (branch ∷ []) all (λ d one. Contains-append_left (branch ∷ []) rest d one)) x.views x.children in
    let others = All-weaker (IsChildView lebs levels rest) (IsChildView lebs levels all) (child_more lebs levels rest all (λ d one. Contains-append_right (branch ∷ []) rest d one)) y.views y.children in
    let P : List Branch → Type 0 = λ l. All (IsChildView lebs levels l) (x.views ++ y.views) in
    record {
      more = x.more ++ y.more;
      is = y.is ∙ ap (λ (v : List TableNode). v ++ y.more) x.is ∙ append_assoc a x.more y.more;
      views = x.views ++ y.views;
      seen = y.seen ∙ ap (λ (v : List NodeView). v ++ y.views) x.seen ∙ append_assoc (node_views a) x.views y.views;
      children = subst P (sym e) (All-append (IsChildView lebs levels all) x.views y.views first others);
      placed = placed_both x.more y.more x.placed y.placed;
    }

pub stubs_first : (lebs : List (List ℕ)) (levels : ℕ) (branch : Branch) (rest branches : List Branch) (a b : List TableNode) → branches ≡ branch ∷ rest
    → AreStubs lebs levels (branch ∷ []) a b → AreStubs lebs levels branches a b
stubs_first lebs levels branch rest branches a b e x = stubs_both lebs levels branch rest branches a b b e x (stubs_none lebs levels rest b b refl)

-- ---- each is sound, since the node that was opened is
keyed_loose_before : (rank : ℕ) (most : Option ℕ) (c rest : KeyedRow) → (AreKeysBounded rank most c → AreKeysBounded rank None c) → AreKeysBounded rank (key_before rest most) c → AreKeysBounded rank (key_before rest None) c
keyed_loose_before rank most c no_more f h = f h
keyed_loose_before rank most c (leaf_in x rest) f h = h
keyed_loose_before rank most c (node_in key place d rest) f h = h

keyed_loose : (low least : ℕ) (most : Option ℕ) (row : KeyedRow) → low ≤ least → AreKeysBounded least most row → AreKeysBounded low None row
keyed_loose low least most no_more l h = tt
keyed_loose low least most (leaf_in x rest) l h = (omega (arith, l, h.0), tt, keyed_loose (leaf_rank x) (leaf_rank x) most rest (omega arith) h.2)
keyed_loose low least most (node_in key place c rest) l h = (
  omega (arith, l, h.0),
  tt,
  keyed_loose_before (key_rank key) most c rest (keyed_loose (key_rank key) (key_rank key) most c (omega arith)) h.2,
  keyed_loose (key_rank key) (key_rank key) most rest (omega arith) h.3,
)

-- what is seen of the node to which a branch leads
abbrev child_view : List (List ℕ) → ℕ → Branch → NodeView
child_view lebs level branch = record { level = level; place = Some (stretch_of branch); children = row_told lebs level branch }

children_sound : (fanout : ℕ) (lebs : List (List ℕ)) (level least : ℕ) (most : Option ℕ) (branches : List Branch) → fits fanout (bare (all_clean (row_by (contents_told lebs) (suc level) branches))) ≡ true
    → levelled (suc level) (bare (all_clean (row_by (contents_told lebs) (suc level) branches))) ≡ true → AreKeysBounded least most (all_clean (row_by (contents_told lebs) (suc level) branches))
    → AreKeys (all_clean (row_by (contents_told lebs) (suc level) branches)) → All (λ b. IsSoundView fanout (child_view lebs level b)) branches
unfolding row_by
children_sound fanout lebs level least most [] f l h k = All-nil (λ b. IsSoundView fanout (child_view lebs level b))
children_sound fanout lebs level least most (b ∷ bs) f l h k =
    let contents = contents_told lebs in
    let child = all_clean (row_by contents level (node_said_at contents b).branches) in
    let others = all_clean (row_by contents (suc level) bs) in
    let fit = fit_node fanout (bare child) (bare others) f in
    let own = levels_node (suc level) (bare child) (bare others) l in
    let same : suc level - 1 ≡ level = omega arith in
    let L : ℕ → Type 0 = λ n. levelled n (bare child) ≡ true in
    let bounded : AreKeysBounded 0 None child = keyed_loose 0 (key_rank b.key) (key_before others most) child (omega arith) h.2 in
    let one : IsSoundView fanout (child_view lebs level b) = (fits_node fanout (bare child) done fit.least fit.most fit.children refl, subst L same own.1, bounded, k.1) in
    All-cons (λ b. IsSoundView fanout (child_view lebs level b)) b bs one (children_sound fanout lebs level (key_rank b.key) most bs fit.others own.2 h.3 k.2)

child_sound : (fanout : ℕ) (lebs : List (List ℕ)) (levels : ℕ) (branches : List Branch) → fits fanout (bare (all_clean (row_by (contents_told lebs) levels branches))) ≡ true
    → levelled levels (bare (all_clean (row_by (contents_told lebs) levels branches))) ≡ true → AreKeysBounded 0 None (all_clean (row_by (contents_told lebs) levels branches))
    → AreKeys (all_clean (row_by (contents_told lebs) levels branches)) → (v : NodeView) → IsChildView lebs levels branches v → IsSoundView fanout v
child_sound fanout lebs levels branches f l h k v is =
    let row : ℕ → KeyedRow = λ n. all_clean (row_by (contents_told lebs) n branches) in
    let F : ℕ → Type 0 = λ n. fits fanout (bare (row n)) ≡ true in
    let L : ℕ → Type 0 = λ n. levelled n (bare (row n)) ≡ true in
    let B : ℕ → Type 0 = λ n. AreKeysBounded 0 None (row n) in
    let K : ℕ → Type 0 = λ n. AreKeys (row n) in
    let e = is.above in
    let each = children_sound fanout lebs is.level 0 None branches (subst F e f) (subst L e l) (subst B e h) (subst K e k) in
    let V : NodeView → Type 0 = λ w. IsSoundView fanout w in
    subst V (sym is.is) (All-contains (λ b. IsSoundView fanout (child_view lebs is.level b)) branches is.branch each is.among)

-- ---- and clean with all that is below it
child_clean : (lebs : List (List ℕ)) (levels : ℕ) (branches : List Branch) (v : NodeView) → IsChildView lebs levels branches v → is_clean_below v ≡ true
child_clean lebs levels branches v is = ap is_clean_below is.is ∙ all_is_clean (row_by (contents_told lebs) is.level (node_said_at (contents_told lebs) is.branch).branches)

all_clean_below : (P : NodeView → Type 0) (vs : List NodeView) → ((v : NodeView) → P v → is_clean_below v ≡ true) → All P vs → are_clean_below vs ≡ true
all_clean_below P [] f h = refl
all_clean_below P (v ∷ vs) f h =
    let own = f v (All-head P v vs h) in
    let others = all_clean_below P vs f (All-tail P v vs h) in
    rw (own, others) refl

both_clean : (xs ys : List NodeView) → are_clean_below xs ≡ true → are_clean_below ys ≡ true → are_clean_below (xs ++ ys) ≡ true
both_clean xs ys h k = list_all-append is_clean_below xs ys ∙ rw (h, k) refl

pub opened_none : (old new : List TableNode) → new ≡ old → AreOpened old new
opened_none old new e =
    let same = ap node_views e in
    record {
      added = record { more = []; is = e ∙ sym (append-nil old) };
      sound = λ fanout s. let P : List NodeView → Type 0 = λ v. AreSoundViews fanout v in subst P (sym same) s;
      clean = λ c. ap are_clean_below same ∙ c;
      placed = refl;
    }

-- where a node that isn't loaded was opened
pub opened_stub : (nodes new : List TableNode) (i : ℕ) (n : TableNode) (stub : StubNode) → slice_get nodes i ≡ Some n → IsStubOf n stub
    → AreStubs stub.told.value stub.level (node_said_at (contents_told stub.told.value) (branch_at_place stub.place)).branches nodes new → AreOpened nodes new
opened_stub nodes new i n stub h is stubs =
    let lebs = stub.told.value in
    let branches = (node_said_at (contents_told lebs) (branch_at_place stub.place)).branches in
    let there = stub_seen nodes i n stub h is in
    record {
      added = record { more = stubs.more; is = stubs.is };
      sound = λ fanout s.
          let own = sound_at fanout (node_views nodes) i (stub_view stub) s there in
          let fit = children_fit fanout (stub_view stub) own in
          let P : List NodeView → Type 0 = λ v. AreSoundViews fanout v in
          subst P (sym stubs.seen) (All-append (λ v. IsSoundView fanout v) (node_views nodes) stubs.views s
          (All-weaker (IsChildView lebs stub.level branches) (λ v. IsSoundView fanout v) (child_sound fanout lebs stub.level branches fit own.1 own.2 own.3) stubs.views stubs.children));
      clean = λ c.
          ap are_clean_below stubs.seen
          ∙ both_clean (node_views nodes) stubs.views c (all_clean_below (IsChildView lebs stub.level branches) stubs.views (child_clean lebs stub.level branches) stubs.children);
      placed = stubs.placed;
    }

-- one behind another
pub opened_both : (a b c : List TableNode) → AreOpened a b → AreOpened b c → AreOpened a c
opened_both a b c x y = record {
  added = record { more = x.added.more ++ y.added.more; is = y.added.is ∙ ap (λ (v : List TableNode). v ++ y.added.more) x.added.is ∙ append_assoc a x.added.more y.added.more };
  sound = λ fanout s. y.sound fanout (x.sound fanout s);
  clean = λ h. y.clean (x.clean h);
  placed = placed_both x.added.more y.added.more x.placed y.placed;
}

-- what was seen of a node is seen of it
pub seen_kept : (old new : List TableNode) (i : ℕ) → AreNodesAdded old new → i < length old → slice_get (node_views new) i ≡ slice_get (node_views old) i
seen_kept old new i a h =
    let p = views_added old new a in
    let long = views_length old in
    let v : NodeView = record { level = 0; place = None; children = no_more } in
    let there = slice_get-get_or (node_views old) i v (omega (arith, h, long)) in
    ap (λ w. slice_get w i) p.1 ∙ get_left (node_views old) p.0 i _ there ∙ sym there

pub unplaced_kept : (old new : List TableNode) (i : ℕ) → AreNodesAdded old new → i < length old → slice_get (node_views (unplaced new)) i ≡ slice_get (node_views (unplaced old)) i
unplaced_kept old new i a h =
    let long = length-map old unplaced_node in
    seen_kept (unplaced old) (unplaced new) i (unplaced_added old new a) (omega (arith, h, long))
