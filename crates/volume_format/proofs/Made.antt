-- A volume in which all of a new file system was laid is a sound image of it.
use Rattle.std.proofs.Common.{◌≡◌, ℕ, zero, suc, ◌+◌, ◌-◌, ◌^◌, ◌<◌, ◌≤◌, nat_lt, Bool, true, false, List, [], ◌∷◌, ◌++◌, Some, None, slice_get, take, drop, length, replicate, refl, ap, sym, ◌∙◌, subst, append_assoc, length-append, arith}
use Rattle.std.specs.Prelude.{◌≢◌, cond, map}
use Rattle.std.specs.List.{IsDistinct}
use Rattle.std.proofs.Math.Nat.{le_refl}
use Rattle.std.proofs.lemmas.Bool.{eq-eqb, leb-true, ltb-false, ltb-true, le-leb, le-ltb, ne_eqb}
use Rattle.std.proofs.lemmas.List.{take_at}
use Rattle.std.proofs.lemmas.List.Elements.{All-nil, All-cons}
use Rattle.ubifs_base.specs.Areas.{lpt_first, main_first, main_lebs, orph_first}
use Rattle.ubifs_base.specs.Gap.{gap_of}
use Rattle.ubifs_base.specs.Geometry.{IsGeometry}
use Rattle.ubifs_base.specs.NodeLaws.{IsBytes}
use Rattle.ubifs_base.specs.declared.key.Key.TheVariants.{Ino}
use Rattle.ubifs_base.specs.declared.raw_geometry.RawGeometry.{RawGeometry}
use Rattle.media_leaf.specs.LeafNode.{IsLeafNode, inode, written as leaf_bytes}
use Rattle.media_lpt.specs.declared.lprop.Lprop.{Lprop}
use Rattle.media_sys.specs.SystemNode.{IsSystemNode, commit_start, index as index_said, written as system_bytes}
use Rattle.media_sys.specs.declared.master.Master.{Master}
use Rattle.index_tree.specs.Distinct.{AreDistinct}
use Rattle.index_tree.specs.Order.{key_rank}
use Rattle.index_tree.specs.Removal.{same_leaf}
use Rattle.index_media.specs.PlacedRow.{PlacedRow, branch_to, ended, leaf_at, node_at}
use Rattle.index_media.specs.Stored.{AreStored, IsIndexNodeAt}
use Rattle.leb_scan.specs.Text.{is_blank}
use Rattle.small_areas.specs.Masters.{IsLatest}
use Rattle.small_areas.specs.Orphans.{AreOrphans}
use Rattle.sound_image.specs.OrphanLists.{HasOrphanNodes}
use Rattle.leb_scan.specs.declared.tail.Tail.TheVariants.{Clean}
use Rattle.small_areas.specs.declared.placed_master.PlacedMaster.{PlacedMaster}
use Rattle.lpt_area.specs.Written.{IsTreeLeb, in_units}
use Rattle.lpt_area.specs.declared.lpt_at.LptAt.{LptAt}
use Rattle.leaf_map.specs.Kept.{Placed, kept_at}
use Rattle.sound_image.specs.Index.{HasIndex}
use Rattle.sound_image.specs.Laid.{BeginsAlone, IsFreshLog}
use Rattle.sound_image.specs.Leaves.{IsPlacedIn}
use Rattle.sound_image.specs.Properties.{HasProperties, is_marked_index, is_unmarked, prop_of}
use Rattle.sound_image.specs.Space.{HasSums, committed_bytes}
use Rattle.bud_log.specs.Log.{references_of}
use Rattle.bud_log.specs.LogText.{LogText}
use Rattle.fs_model.specs.Files.{Tree}
use Rattle.leaf_map.specs.Recovered.{tree_found}
use Rattle.sound_image.specs.Image.{parts_of}
use Rattle.sound_image.specs.Sound.{SoundImage}
use Rattle.sound_image.specs.Summary.{with_a_link}
use Rattle.laid_image.specs.Laid.{AreEndsBlank, IsLaidImage, ShowTree, laid_image, tree_of_nodes}
use Rattle.small_areas.specs.Addresses.{addresses_of, first_past}
use Rattle.volume_format.proofs.Addresses.{IsInArea, new_placed}
use Rattle.sound_image.specs.Superblock.{BeginsWithSuper, HasSuperblock}
use Rattle.laid_main.specs.Props.{prop_behind}
use Rattle.volume_format.specs.Format.{IsNewVolume, index_branch, new_master, new_props, new_super, root_index, root_leaf, root_node, root_placed}

-- a node that stands alone in a LEB stands at its start
alone_front : (leb node : List ℕ) (n : ℕ) → BeginsAlone leb node → length node ≡ n → take n leb ≡ node
alone_front leb node n alone long =
    let back = gap_of alone.gap ++ replicate (alone.size - length (node ++ gap_of alone.gap)) 255 in
    ap (take n) (alone.is ∙ append_assoc node (gap_of alone.gap) (replicate (alone.size - length (node ++ gap_of alone.gap)) 255)) ∙ take_at node back n long

alone_room : (leb node : List ℕ) (n : ℕ) → BeginsAlone leb node → length node ≡ n → n ≤ length leb
alone_room leb node n alone long =
    let a = ap length alone.is in
    let b = length-append (node ++ gap_of alone.gap) (replicate (alone.size - length (node ++ gap_of alone.gap)) 255) in
    let c = length-append node (gap_of alone.gap) in
    omega (arith, a, b, c, long)

sub_self : (n : ℕ) → n - n ≡ 0
sub_self n = omega arith

sub_one : (n : ℕ) → n + 1 - n ≡ 1
sub_one n = omega arith

-- the index
abbrev pub new_placed_index : RawGeometry → PlacedRow
new_placed_index geo = node_at (index_branch geo) (leaf_at (root_leaf geo) ended) ended

module _ (geo : RawGeometry) (g : IsGeometry geo) (three : 3 ≤ main_lebs geo) (now : ℕ) where
  abbrev main : ℕ
  main = main_first geo

  new_index : (contents : ℕ → List ℕ) (props : List Lprop) (at : LptAt) → is_marked_index geo props (main + 1) ≡ true
      → IsIndexNodeAt contents (index_branch geo) (record { level = 0; branches = branch_to (root_leaf geo) ∷ [] }) → HasIndex contents geo (new_master geo at) props (new_placed_index geo)
  unfolding key_rank AreStored
  new_index contents props at marked h =
      let some = g.fanout.0 in
      record {
        key = Ino 1;
        index = record {
          children = leaf_at (root_leaf geo) ended;
          whole = refl;
          levels = 1;
          stored = (ltb-true 0 1 refl, h, (refl, tt), tt);
          fits = rw (le-leb 1 geo.fanout (omega (arith, some))) refl;
          bounded = (leb-true 0 (key_rank (Ino 1)) refl, tt, (le_refl (key_rank (Ino 1)), tt, tt), tt);
        };
        first = refl;
        marked = All-cons (λ (lnum : ℕ). is_marked_index geo props lnum ≡ true) (main + 1) [] marked (All-nil (λ (lnum : ℕ). is_marked_index geo props lnum ≡ true));
      }

  -- ---- the properties of a LEB
  abbrev empty : Lprop
  empty = record { free = geo.leb_size; dirty = 0; index = false }

  pub data IsPropOf (lnum : ℕ) (prop : Lprop) : Type 0 where
    roots : lnum ≡ main → prop ≡ prop_behind geo 160 false → IsPropOf lnum prop
    indexs : lnum ≡ main + 1 → prop ≡ prop_behind geo 48 true → IsPropOf lnum prop
    others : main + 2 ≤ lnum → prop ≡ empty → IsPropOf lnum prop

  same_prop : (a b : Lprop) → Some a ≡ Some b → b ≡ a
  same_prop a b e = cc

  all_empty : (n i : ℕ) (prop : Lprop) → slice_get (replicate n empty) i ≡ Some prop → prop ≡ empty
  all_empty zero i prop has = absurd cc
  all_empty (suc n) zero prop has = same_prop empty prop has
  all_empty (suc n) (suc i) prop has = all_empty n i prop has

  at_place : (i lnum : ℕ) (prop : Lprop) → main ≤ lnum → lnum - main ≡ i → slice_get (new_props geo) i ≡ Some prop → IsPropOf lnum prop
  at_place zero lnum prop low e has = roots (omega (arith, low, e)) (same_prop (prop_behind geo 160 false) prop has)
  at_place (suc zero) lnum prop low e has = indexs (omega (arith, low, e)) (same_prop (prop_behind geo 48 true) prop has)
  at_place (suc (suc i)) lnum prop low e has = others (omega (arith, low, e)) (all_empty (main_lebs geo - 2) i prop has)

  by_area : (lnum : ℕ) (prop : Lprop) (below : Bool) → nat_lt lnum main ≡ below → cond below None (slice_get (new_props geo) (lnum - main)) ≡ Some prop → IsPropOf lnum prop
  by_area lnum prop true e has = absurd cc
  by_area lnum prop false e has = at_place (lnum - main) lnum prop (ltb-false lnum main e) refl has

  pub prop_is : (lnum : ℕ) (prop : Lprop) → prop_of geo (new_props geo) lnum ≡ Some prop → IsPropOf lnum prop
  prop_is lnum prop has = by_area lnum prop (nat_lt lnum main) refl has

module _ (geo : RawGeometry) (g : IsGeometry geo) (three : 3 ≤ main_lebs geo) (now : ℕ) (uuid : List ℕ) where
  -- what stands alone in a LEB is behind its units blank
  pub sums_behind : (prop : Lprop) (len taken : ℕ) (index : Bool) → prop ≡ prop_behind geo len index → len ≤ in_units geo.min_io len → in_units geo.min_io len ≤ geo.leb_size → taken ≡ len → prop.free + prop.dirty + taken ≡ geo.leb_size
  sums_behind prop len taken index is more fits same =
      let free : prop.free ≡ geo.leb_size - in_units geo.min_io len = ap (λ (p : Lprop). p.free) is in
      let dirty : prop.dirty ≡ in_units geo.min_io len - len = ap (λ (p : Lprop). p.dirty) is in
      omega (arith, free, dirty, more, fits, same)

  taken_at : (lnum : ℕ) → ℕ
  taken_at lnum = committed_bytes (new_placed_index geo) lnum

  taken_by_root : committed_bytes (new_placed_index geo) (main_first geo) ≡ 160
  taken_by_root = rw (ne_eqb (main_first geo + 1) (main_first geo) (λ e. omega (arith, e)), eq-eqb (main_first geo) (main_first geo) refl) refl

  taken_by_index : committed_bytes (new_placed_index geo) (main_first geo + 1) ≡ 48
  taken_by_index = rw (eq-eqb (main_first geo + 1) (main_first geo + 1) refl, ne_eqb (main_first geo) (main_first geo + 1) (λ e. omega (arith, e))) refl

  taken_by_none : (lnum : ℕ) → main_first geo + 2 ≤ lnum → committed_bytes (new_placed_index geo) lnum ≡ 0
  taken_by_none lnum low = rw (ne_eqb (main_first geo + 1) lnum (λ e. omega (arith, e, low)), ne_eqb (main_first geo) lnum (λ e. omega (arith, e, low))) refl

-- ---- blank orphan areas
none_listed : (contents : ℕ → List ℕ) (first n : ℕ) → ((lnum : ℕ) → first ≤ lnum → lnum < first + n → is_blank (contents lnum) ≡ true) → AreOrphans contents first n []
none_listed contents first zero h = refl
none_listed contents first (suc n) h = (
  [],
  [],
  none_listed contents first n (λ lnum low high. h lnum low (omega (arith, high))),
  record { items = []; end = 0; tail = Clean; is_text = record { stand = refl; ends = h (first + n) (omega arith) (omega arith) }; listed = refl },
  refl,
)

-- ---- all together
-- a tree where each directory has a link, as a mount reads it
abbrev mounted : Tree → Tree
mounted found = record found { inodes = map (λ e. (e.0, with_a_link e.1)) found.inodes }

-- what is laid without a journal is a sound image, of the tree that its nodes show
pub record Laid : Type 0 where
  pub sound : (contents : ℕ → List ℕ) (geo : RawGeometry) (latest : PlacedMaster) (props : List Lprop) (placed : PlacedRow) (nodes : List Placed)
      → IsLaidImage contents geo latest props placed nodes
      → (log : List LogText) × (references_of log ≡ []) × SoundImage contents (laid_image geo latest props placed log nodes)
  pub tree : (geo : RawGeometry) (latest : PlacedMaster) (props : List Lprop) (placed : PlacedRow) (log : List LogText) (nodes : List Placed) (contents : ℕ → List ℕ)
      → references_of log ≡ [] → IsLaidImage contents geo latest props placed nodes
      → tree_found (parts_of (laid_image geo latest props placed log nodes)) ≡ tree_of_nodes latest.master nodes

-- what other laws give
abbrev pub PropertiesMet : Type 0
PropertiesMet = (contents : ℕ → List ℕ) (geo : RawGeometry) (props : List Lprop) (at : LptAt) (master : Master) → IsTreeLeb geo at.lnum props (contents at.lnum) at
    → master.lpt_lnum ≡ at.lnum → master.lpt_offs ≡ at.offs → HasProperties contents geo master props

module _ (geo : RawGeometry) (g : IsGeometry geo) (small : geo.big ≡ false) (three : 3 ≤ main_lebs geo) (now : ℕ) (uuid : List ℕ)
    (size : ℕ → ℕ) (c : ℕ → List ℕ) (bytes : (lnum : ℕ) → IsBytes (c lnum)) (latest : PlacedMaster) (at : LptAt)
    (super : BeginsWithSuper (c 0) (new_super geo uuid))
    (is_latest : IsLatest (c 1) (c 2) latest) (is_new : latest.master ≡ new_master geo at)
    (log : BeginsAlone (c 3) (system_bytes 3 0 (commit_start (record { cmt_no = 0 }))))
    (tree : IsTreeLeb geo (lpt_first geo) (new_props geo) (c (lpt_first geo)) at)
    (root : BeginsAlone (c (main_first geo)) (leaf_bytes 1 0 (inode (root_node now))))
    (root_behind : is_blank (drop (in_units geo.min_io 160) (c (main_first geo))) ≡ true)
    (root_node_is : IsLeafNode (leaf_bytes 1 0 (inode (root_node now))) 1 0 (inode (root_node now))) (root_long : length (leaf_bytes 1 0 (inode (root_node now))) ≡ 160)
    (index : BeginsAlone (c (main_first geo + 1)) (system_bytes 2 0 (index_said (root_index geo))))
    (index_is : IsSystemNode (system_bytes 2 0 (index_said (root_index geo))) 2 0 (index_said (root_index geo))) (index_long : length (system_bytes 2 0 (index_said (root_index geo))) ≡ 48)
    (units_root : in_units geo.min_io 160 ≤ geo.leb_size) (units_index : in_units geo.min_io 48 ≤ geo.leb_size)
    (more_root : 160 ≤ in_units geo.min_io 160) (more_index : 48 ≤ in_units geo.min_io 48)
    (blank : (lnum : ℕ) → 3 < lnum → lnum < main_first geo → lnum ≢ lpt_first geo → is_blank (c lnum) ≡ true)
    (empty_there : (lnum : ℕ) → main_first geo + 2 ≤ lnum → lnum < geo.leb_cnt → is_blank (c lnum) ≡ true)
    (none_written : (leb : List ℕ) → is_blank leb ≡ true → HasOrphanNodes leb)
    (meets : PropertiesMet) where
  -- the tree of properties lies in its area
  in_area : IsInArea geo at
  in_area =
      let lpt = g.lpt_lebs.0 in
      let fits = g.one_leb in
      let lnum = tree.lnum in
      let offs = tree.offs in
      let table = tree.ltab_offs in
      record {
        low = omega (arith, lnum);
        high = omega (arith, lnum, lpt);
        ltab = tree.ltab_lnum ∙ sym lnum;
        root = omega (arith, offs, table, fits);
        table = omega (arith, table, fits);
      }

  placed_well : first_past (addresses_of geo latest.master) ≡ None
  placed_well = let P : Master → Type 0 = λ m. first_past (addresses_of geo m) ≡ None in subst P (sym is_new) (new_placed geo at g three units_index in_area)

  unmarked : is_unmarked geo (new_props geo) (main_first geo) ≡ true
  unmarked = rw (le-ltb (main_first geo) (main_first geo) (omega arith), sub_self (main_first geo)) refl

  marked : is_marked_index geo (new_props geo) (main_first geo + 1) ≡ true
  marked = rw (le-ltb (main_first geo + 1) (main_first geo) (omega arith), sub_one (main_first geo)) refl

  stands : IsPlacedIn c (root_placed geo now)
  stands = record {
    room = alone_room (c (main_first geo)) (leaf_bytes 1 0 (inode (root_node now))) 160 root root_long;
    is = let P : List ℕ → Type 0 = λ bytes. IsLeafNode bytes 1 0 (inode (root_node now)) in
        subst P (sym (alone_front (c (main_first geo)) (leaf_bytes 1 0 (inode (root_node now))) 160 root root_long)) root_node_is;
  }

  index_stands : IsIndexNodeAt c (index_branch geo) (record { level = 0; branches = branch_to (root_leaf geo) ∷ [] })
  index_stands = record {
    sqnum = 2;
    group = 0;
    room = alone_room (c (main_first geo + 1)) (system_bytes 2 0 (index_said (root_index geo))) 48 index index_long;
    is = let P : List ℕ → Type 0 = λ bytes. IsSystemNode bytes 2 0 (index_said (root_index geo)) in
        subst P (sym (alone_front (c (main_first geo + 1)) (system_bytes 2 0 (index_said (root_index geo))) 48 index index_long)) index_is;
  }

  has_sums : HasSums geo (new_props geo) (new_placed_index geo)
  has_sums lnum prop has = by (prop_is geo g three now lnum prop has)
    where
      by : IsPropOf geo g three now lnum prop → prop.free + prop.dirty + committed_bytes (new_placed_index geo) lnum ≡ geo.leb_size
      by (roots here is) = sums_behind geo g three now uuid prop 160 (committed_bytes (new_placed_index geo) lnum) false is more_root units_root (ap (committed_bytes (new_placed_index geo)) here ∙ taken_by_root geo g three now uuid)
      by (indexs here is) = sums_behind geo g three now uuid prop 48 (committed_bytes (new_placed_index geo) lnum) true is more_index units_index (ap (committed_bytes (new_placed_index geo)) here ∙ taken_by_index geo g three now uuid)
      by (others low is) =
          let free : prop.free ≡ geo.leb_size = ap (λ (p : Lprop). p.free) is in
          let dirty : prop.dirty ≡ 0 = ap (λ (p : Lprop). p.dirty) is in
          let none = taken_by_none geo g three now uuid lnum low in
          omega (arith, free, dirty, none)

  ends_blank : AreEndsBlank c geo (new_master geo at) (new_props geo)
  ends_blank lnum prop has some not_all other = by (prop_is geo g three now lnum prop has)
    where
      by : IsPropOf geo g three now lnum prop → is_blank (drop (geo.leb_size - prop.free) (c lnum)) ≡ true
      by (roots here is) =
          let free : prop.free ≡ geo.leb_size - in_units geo.min_io 160 = ap (λ (p : Lprop). p.free) is in
          let e : in_units geo.min_io 160 ≡ geo.leb_size - prop.free = omega (arith, free, units_root) in
          let P : ℕ → Type 0 = λ n. is_blank (drop (geo.leb_size - prop.free) (c n)) ≡ true in
          let Q : ℕ → Type 0 = λ n. is_blank (drop n (c (main_first geo))) ≡ true in
          subst P (sym here) (subst Q e root_behind)
      by (indexs here is) = absurd (other here)
      by (others low is) =
          let free : prop.free ≡ geo.leb_size = ap (λ (p : Lprop). p.free) is in
          absurd (omega (arith, free, not_all))

  new_superblock : HasSuperblock c geo
  new_superblock = record {
    node = new_super geo uuid;
    begins = super;
    known = refl;
    geometry = ap (λ (big : Bool). record geo { big = big }) small;
    in_range = g;
  }

  -- an inode of the root directory alone shows a tree, whatever its times
  shows_tree : ShowTree (map kept_at (root_placed geo now ∷ [])) (tree_of_nodes (new_master geo at) (root_placed geo now ∷ []))
  unfolding key_rank same_leaf
  shows_tree = record { apart = refl; root = refl; entries = refl; dirs = refl; links = refl }

  one_leaf : AreDistinct (root_leaf geo ∷ [])
  unfolding IsDistinct
  one_leaf = (tt, tt)

  pub is_laid : IsLaidImage c geo latest (new_props geo) (new_placed_index geo) (root_placed geo now ∷ [])
  is_laid =
      let lpt = g.lpt_lebs.0 in
      let M : Master → Type 0 = λ m. HasIndex c geo m (new_props geo) (new_placed_index geo) in
      let L : Master → Type 0 = λ m. IsFreshLog c geo m.log_lnum 3 m.cmt_no in
      let E : Master → Type 0 = λ m. AreEndsBlank c geo m (new_props geo) in
      let T : Master → Type 0 = λ m. ShowTree (map kept_at (root_placed geo now ∷ [])) (tree_of_nodes m (root_placed geo now ∷ [])) in
      let C : Master → Type 0 = λ m. m.cmt_no < 2 ^ 64 in
      let A : ℕ → Type 0 = λ n. IsTreeLeb geo n (new_props geo) (c n) at in
      record {
        bytes = bytes;
        superblock = new_superblock;
        masters = record { is_latest = is_latest; in_areas = placed_well };
        properties = meets c geo (new_props geo) at latest.master (subst A (sym tree.lnum) tree) (ap (λ (m : Master). m.lpt_lnum) is_new) (ap (λ (m : Master). m.lpt_offs) is_new);
        index = subst M (sym is_new) (new_index geo g three now c (new_props geo) at marked index_stands);
        sqnum = 3;
        number = ltb-true 3 (2 ^ 64) refl;
        commit = subst C (sym is_new) (ltb-true 0 (2 ^ 64) refl);
        log = subst L (sym is_new) (record {
          in_log = record { low = omega arith; high = omega (arith, three_logs) };
          start = log;
          blank = λ lnum in_log other.
              let low = in_log.low in
              let high = in_log.high in
              blank lnum (omega (arith, low, other)) (omega (arith, high, lpt)) (λ e. omega (arith, e, high));
        });
        leaves = refl;
        distinct = one_leaf;
        disjoint = refl;
        stand = (record { stands = stands; unmarked = unmarked; plain = (refl, refl); shows = refl }, tt);
        sums = has_sums;
        ends = subst E (sym is_new) ends_blank;
        orphans = λ lnum low high. none_written (c lnum) (blank lnum (omega (arith, low)) high (λ e. omega (arith, e, low, lpt)));
        listed = none_listed c (orph_first geo) geo.orph_lebs (λ lnum low high. blank lnum (omega (arith, low)) high (λ e. omega (arith, e, low, lpt)));
        tree = subst T (sym is_new) shows_tree;
      }
    where
      three_logs : 3 ≤ geo.log_lebs
      three_logs = g.log_lebs.0

  -- ---- and it is a new file system
  module _ (laid : Laid) where
    pub is_new_system : IsNewVolume c geo uuid now
    is_new_system = by (laid.sound c geo latest (new_props geo) (new_placed_index geo) (root_placed geo now ∷ []) is_laid)
      where
        same_tree : tree_of_nodes latest.master (root_placed geo now ∷ []) ≡ tree_of_nodes (new_master geo at) (root_placed geo now ∷ [])
        same_tree = ap (λ (m : Master). tree_of_nodes m (root_placed geo now ∷ [])) is_new

        by : (log : List LogText) × (references_of log ≡ []) × SoundImage c (laid_image geo latest (new_props geo) (new_placed_index geo) log (root_placed geo now ∷ [])) → IsNewVolume c geo uuid now
        by (log, none, sound) =
            let image = laid_image geo latest (new_props geo) (new_placed_index geo) log (root_placed geo now ∷ []) in
            record {
              superblock = super;
              image = image;
              sound = sound;
              geometry = refl;
              clean = refl;
              at = at;
              master = is_new;
              props = refl;
              empty = empty_there;
              tree = ap mounted (laid.tree geo latest (new_props geo) (new_placed_index geo) log (root_placed geo now ∷ []) c none is_laid ∙ same_tree);
            }
