-- A node that stands on a volume, added without being loaded: it is sound and clean, it stands, and it shows what stands there.
use Rattle.std.proofs.Common.{◌≡◌, ℕ, ◌+◌, ◌-◌, ◌<◌, true, List, [], ◌∷◌, ◌++◌, length, refl, ap, sym, ◌∙◌, subst, map}
use Rattle.std.specs.Prelude.{All, None, Option, Some, nat_lt, ◌==◌, slice_get}
use Rattle.std.specs.List.{AllByRecursion}
use Rattle.std.proofs.lemmas.Bool.{and_from, lt-ltb, eq-eqb}
use Rattle.std.proofs.lemmas.List.Elements.{All-cons, All-head, All-nil, All-tail}
use Rattle.ubifs_base.specs.Key.{IsKey}
use Rattle.ubifs_base.specs.declared.key.Key.{Key}
use Rattle.index_tree.specs.Levels.{levelled}
use Rattle.index_tree.specs.Shape.{Shape, done, node, fits}
use Rattle.media_sys.specs.declared.branch.Branch.{Branch}
use Rattle.index_media.specs.Clean.{is_clean_row}
use Rattle.index_media.specs.InsertionLaws.{clean_bare}
use Rattle.index_media.specs.InsertionSound.{AreKeys}
use Rattle.index_media.specs.KeyedRow.{KeyedRow, no_more, node_in, all_clean}
use Rattle.index_media.specs.PlacedRow.{PlacedRow, Stretch, ended, leaf_at, node_at, all_nodes, lebs_of, plain, branches_of, stretch_of}
use Rattle.index_media.specs.Stored.{AreStored, IsIndexNodeAt}
use Rattle.node_cache.specs.CleanRows.{all_is_clean, placed_again}
use Rattle.node_cache.specs.Loaded.{IsRowOn}
use Rattle.node_cache.specs.OnVolume.{IsOnVolume}
use Rattle.node_cache.specs.RowsOn.{below, clean_bounded, said_is_node}
use Rattle.told_value.specs.declared.told.Told.{Told}
use Rattle.table_nodes.specs.Beyond.{branch_at_place, lebs_held, place_by, row_told}
use Rattle.table_nodes.specs.LinkLaws.{links_in_pushed}
use Rattle.table_nodes.specs.NodeView.{NodeView, linked_before, node_before, node_views}
use Rattle.table_nodes.specs.Sound.{IsSoundView}
use Rattle.table_nodes.specs.StubLaws.{stub_seen, unplaced_seen}
use Rattle.table_nodes.specs.StubRows.{row_on}
use Rattle.table_nodes.specs.Stubs.{IsStubOf}
use Rattle.table_nodes.specs.declared.link.Link.TheVariants.{ToNode}
use Rattle.table_nodes.specs.declared.node.TableNode.{TableNode}
use Rattle.table_nodes.specs.declared.seen.MediumSeen.{MediumSeen}
use Rattle.table_nodes.specs.declared.stub_node.StubNode.{StubNode}
use Rattle.ubi_volume.specs.Volume.{VolumeState}
use Rattle.node_table.specs.Unloaded.{AreStandingLinks}

-- ---- a row that stands on a volume
stored_levelled : (media : ℕ → List ℕ) (levels : ℕ) (row : PlacedRow) → AreStored media levels row → levelled levels (plain row) ≡ true
unfolding AreStored
stored_levelled media levels ended h = refl
stored_levelled media levels (leaf_at x rest) h = and_from (levels == 0) (levelled levels (plain rest)) (eq-eqb levels 0 h.0) (stored_levelled media levels rest h.1)
stored_levelled media levels (node_at b c rest) h =
    let above : nat_lt 0 levels ≡ true = lt-ltb 0 levels h.0 in
    let children = stored_levelled media (levels - 1) c h.2 in
    let others = stored_levelled media levels rest h.3 in
    rw (above, children, others) refl

pub clean_keys : (media : ℕ → List ℕ) (levels : ℕ) (row : PlacedRow) → AllByRecursion (λ branch. IsKey branch.key) (branches_of row) → AreStored media levels row → AreKeys (all_clean row)
unfolding AreStored
clean_keys media levels ended k h = tt
clean_keys media levels (leaf_at x rest) k h = (k.0, clean_keys media levels rest k.1 h.1)
clean_keys media levels (node_at b c rest) k h =
    let own = said_is_node media b (record { level = levels - 1; branches = branches_of c }) h.1 in
    (k.0, clean_keys media (levels - 1) c own.keys h.2, clean_keys media levels rest k.1 h.3)

-- what is below a branch is a node's
sound_below : (s : VolumeState) (fanout level : ℕ) (branch : Branch) (row : PlacedRow) → IsRowOn s fanout (level + 1) (node_at branch row ended)
    → IsSoundView fanout (record { level = level; place = Some (stretch_of branch); children = all_clean row })
sound_below s fanout level branch row h =
    let p = below s fanout level branch row h in
    let own = said_is_node s.holds branch (record { level = level; branches = branches_of row }) p.said in
    let F : Shape → Type 0 = λ t. fits fanout (node t done) ≡ true in
    let L : Shape → Type 0 = λ t. levelled level t ≡ true in (
      subst F (sym (clean_bare row)) h.fits,
      subst L (sym (clean_bare row)) (stored_levelled s.holds level row p.on.stored),
      clean_bounded 0 None row p.on.bounded,
      clean_keys s.holds level row own.keys p.on.stored,
    )

abbrev leb_of : Branch → ℕ
leb_of branch = branch.lnum

split_all : (P : ℕ → Type 0) (xs ys : List Branch) → All P (map leb_of (xs ++ ys)) → All P (map leb_of xs) × All P (map leb_of ys)
split_all P [] ys h = (All-nil P, h)
split_all P (x ∷ xs) ys h =
    let rest = split_all P xs ys (All-tail P x.lnum (map leb_of (xs ++ ys)) h) in
    (All-cons P x.lnum (map leb_of xs) (All-head P x.lnum (map leb_of (xs ++ ys)) h) rest.0, rest.1)

stored_stands : (s : VolumeState) (levels : ℕ) (row : PlacedRow) → AreStored s.holds levels row → All (λ lnum. lnum < s.leb_cnt) (lebs_of row) → IsOnVolume s (all_clean row)
unfolding AreStored
stored_stands s levels ended h there = tt
stored_stands s levels (leaf_at x rest) h there = stored_stands s levels rest h.1 there
stored_stands s levels (node_at b c rest) h there =
    let Q : ℕ → Type 0 = λ lnum. lnum < s.leb_cnt in
    let others = map leb_of (all_nodes c ++ all_nodes rest) in
    let both = split_all Q (all_nodes c) (all_nodes rest) (All-tail Q b.lnum others there) in
    let L : Shape → Type 0 = λ t. levelled (levels - 1) t ≡ true in
    let N : PlacedRow → Type 0 = λ r. IsIndexNodeAt s.holds b (record { level = levels - 1; branches = branches_of r }) in (
      record {
        clean = all_is_clean c;
        level = levels - 1;
        levels = subst L (sym (clean_bare c)) (stored_levelled s.holds (levels - 1) c h.2);
        node = subst N (sym (placed_again c)) h.1;
        holds = All-head Q b.lnum others there;
      },
      stored_stands s (levels - 1) c h.2 both.0,
      stored_stands s levels rest h.3 both.1,
    )

-- ---- the node that is added
-- what it tells is the row below the branch
told_children : (s : VolumeState) (fanout level : ℕ) (branch : Branch) (row : PlacedRow) (told : List (List ℕ)) → told ≡ lebs_held s.holds s.leb_cnt → IsRowOn s fanout (level + 1) (node_at branch row ended)
    → row_told told level (branch_at_place (place_by branch)) ≡ all_clean row
told_children s fanout level branch row told is on = ap (λ (l : List (List ℕ)). row_told l level branch) is ∙ row_on s fanout level branch row on

pub stub_sound : (s : VolumeState) (fanout level : ℕ) (branch : Branch) (row : PlacedRow) (told : List (List ℕ)) → told ≡ lebs_held s.holds s.leb_cnt → IsRowOn s fanout (level + 1) (node_at branch row ended)
    → IsSoundView fanout (record { level = level; place = Some (stretch_of branch); children = row_told told level (branch_at_place (place_by branch)) })
stub_sound s fanout level branch row told is on =
    let P : KeyedRow → Type 0 = λ r. IsSoundView fanout (record { level = level; place = Some (stretch_of branch); children = r }) in
    subst P (sym (told_children s fanout level branch row told is on)) (sound_below s fanout level branch row on)

pub stub_clean : (s : VolumeState) (fanout level : ℕ) (branch : Branch) (row : PlacedRow) (told : List (List ℕ)) → told ≡ lebs_held s.holds s.leb_cnt → IsRowOn s fanout (level + 1) (node_at branch row ended)
    → is_clean_row (row_told told level (branch_at_place (place_by branch))) ≡ true
stub_clean s fanout level branch row told is on = ap is_clean_row (told_children s fanout level branch row told is on) ∙ all_is_clean row

node_last : (front : List TableNode) (n : TableNode) → slice_get (front ++ n ∷ []) (length front) ≡ Some n
node_last [] n = refl
node_last (m ∷ ms) n = node_last ms n

there_last : (old new : List TableNode) (n : TableNode) (number : ℕ) → new ≡ old ++ n ∷ [] → number ≡ length old → slice_get new number ≡ Some n
there_last old new n number is last =
    ap (λ (l : List TableNode). slice_get l number) is ∙ ap (λ (k : ℕ). slice_get (old ++ n ∷ []) k) last ∙ node_last old n

-- it is clean whatever key its branch has
other_key : (s : VolumeState) (key other : Key) (place : Stretch) (children : KeyedRow) → IsOnVolume s (node_in key (Some place) children no_more) → IsOnVolume s (node_in other (Some place) children no_more)
other_key s key other place children h =
    let own = h.0 in
    let n = own.node in (
      record {
        clean = own.clean;
        level = own.level;
        levels = own.levels;
        node = record { sqnum = n.sqnum; group = n.group; room = n.room; is = n.is };
        holds = own.holds;
      },
      h.1,
      tt,
    )

-- a link to it stands where the branch leads
pub stub_standing : (s : VolumeState) (fanout level : ℕ) (branch : Branch) (row : PlacedRow) (old new : List TableNode) (n : TableNode) (number : ℕ) (told : Told MediumSeen) → new ≡ old ++ n ∷ []
    → number ≡ length old → IsStubOf n (record { level = level; place = place_by branch; told = told }) → told.value ≡ lebs_held s.holds s.leb_cnt → IsRowOn s fanout (level + 1) (node_at branch row ended)
    → (key : Key) → AreStandingLinks s new (ToNode key number ∷ [])
stub_standing s fanout level branch row old new n number told is last stubbed tells on key =
    let stub : StubNode = record { level = level; place = place_by branch; told = told } in
    let P : Option NodeView → Type 0 = λ o. IsOnVolume s (node_before key o no_more) in
    let Q : KeyedRow → Type 0 = λ r. IsOnVolume s (node_in key (Some (stretch_of branch)) r no_more) in
    let own = other_key s branch.key key (stretch_of branch) (all_clean row) (stored_stands s (level + 1) (node_at branch row ended) on.stored on.there) in
    record {
      there = links_in_pushed old new n number key [] is last tt;
      stand = subst P (sym (unplaced_seen new number n stub (there_last old new n number is last) stubbed)) (subst Q (sym (told_children s fanout level branch row told.value tells on)) own);
    }

-- and shows what stands there
pub stub_linked : (s : VolumeState) (fanout level : ℕ) (branch : Branch) (row : PlacedRow) (old new : List TableNode) (n : TableNode) (number : ℕ) (told : Told MediumSeen) → new ≡ old ++ n ∷ []
    → number ≡ length old → IsStubOf n (record { level = level; place = place_by branch; told = told }) → told.value ≡ lebs_held s.holds s.leb_cnt → IsRowOn s fanout (level + 1) (node_at branch row ended)
    → (key : Key) (rest : KeyedRow) → linked_before (node_views new) (ToNode key number) rest ≡ node_in key (Some (stretch_of branch)) (all_clean row) rest
stub_linked s fanout level branch row old new n number told is last stubbed tells on key rest =
    let stub : StubNode = record { level = level; place = place_by branch; told = told } in
    ap (λ (o : Option NodeView). node_before key o rest) (stub_seen new number n stub (there_last old new n number is last) stubbed)
    ∙ ap (λ (r : KeyedRow). node_in key (Some (stretch_of branch)) r rest) (told_children s fanout level branch row told.value tells on)
