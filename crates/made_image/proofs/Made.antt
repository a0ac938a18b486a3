-- Contents in which the areas were laid around leaves and an index are a laid image of them.
use Rattle.std.proofs.Common.{◌≡◌, ℕ, zero, suc, ◌+◌, ◌-◌, ◌%◌, ◌^◌, ◌<◌, ◌≤◌, ◌==◌, nat_lt, Bool, true, false, List, [], ◌∷◌, ◌++◌, Some, None, length, drop, get_or, refl, ap, sym, subst, arith}
use Rattle.std.specs.Prelude.{◌≢◌, All, cond, filter, map, not, slice_get}
use Rattle.std.specs.List.{AllByRecursion}
use Rattle.std.specs.Option.{option_map_or}
use Rattle.std.proofs.lemmas.Bool.{le-ltb, ltb-false, ltb-true}
use Rattle.std.proofs.lemmas.List.Elements.{All-nil, All-cons, All-head, All-tail}
use Rattle.ubifs_base.specs.Areas.{lpt_first, main_first, orph_first}
use Rattle.ubifs_base.specs.Geometry.{IsGeometry}
use Rattle.ubifs_base.specs.NodeLaws.{IsBytes}
use Rattle.ubifs_base.specs.declared.raw_geometry.RawGeometry.{RawGeometry}
use Rattle.media_lpt.specs.declared.lprop.Lprop.{Lprop}
use Rattle.media_sys.specs.declared.branch.Branch.{Branch}
use Rattle.media_sys.specs.declared.master.Master.{Master}
use Rattle.index_tree.specs.Shape.{contents as leaves_in}
use Rattle.index_tree.specs.declared.leaf.Leaf.{Leaf}
use Rattle.index_media.specs.PlacedRow.{PlacedRow, all_nodes, branch_to, bytes_taken, plain}
use Rattle.index_media.specs.Stored.{AreStored}
use Rattle.leb_scan.specs.Text.{is_blank}
use Rattle.leb_scan.specs.declared.tail.Tail.TheVariants.{Clean}
use Rattle.small_areas.specs.Addresses.{addresses_of, first_past}
use Rattle.small_areas.specs.Orphans.{AreOrphans}
use Rattle.lpt_area.specs.Written.{IsTreeLeb, in_units}
use Rattle.lpt_area.specs.declared.lpt_at.LptAt.{LptAt}
use Rattle.leaf_map.specs.Kept.{Placed, kept_at}
use Rattle.sound_image.specs.Index.{HasIndex}
use Rattle.sound_image.specs.Laid.{IsFreshLog}
use Rattle.sound_image.specs.OrphanLists.{HasOrphanNodes}
use Rattle.sound_image.specs.Properties.{HasProperties, is_marked_index, is_unmarked, prop_of}
use Rattle.sound_image.specs.Space.{HasSums, committed_bytes}
use Rattle.sound_image.specs.Superblock.{BeginsWithSuper, HasSuperblock}
use Rattle.laid_image.specs.Laid.{AreEndsBlank, IsLaidImage, IsLaidNode, ShowTree, leaf_of_placed, tree_of_nodes}
use Rattle.laid_main.specs.Filling.{AreFilled, TakesOfLebs}
use Rattle.laid_main.specs.Props.{AreBytesTaken, laid_props, prop_behind}
use Rattle.volume_format.specs.Format.{new_super}
use Rattle.made_image.specs.Around.{AreLogAndMasters, AreMainFilled, HoldsIndexed, StandsPlain, made_master, props_over}
use Rattle.made_image.specs.declared.filled_main.FilledMain.{FilledMain}
use Rattle.made_image.proofs.Addresses.{AreInAreas, none_past}
use Rattle.made_image.proofs.Kept.{Lies}

-- ---- blank orphan areas
none_listed : (contents : ℕ → List ℕ) (first n : ℕ) → ((lnum : ℕ) → first ≤ lnum → lnum < first + n → is_blank (contents lnum) ≡ true) → AreOrphans contents first n []
none_listed contents first zero h = refl
none_listed contents first (suc n) h = (
  [],
  [],
  none_listed contents first n (λ lnum low high. h lnum low (omega (arith, high))),
  record { items = []; end = 0; tail = Clean; is_text = record { stand = refl; ends = h (first + n) (omega arith) (omega arith) }; listed = refl },
  refl,
)

-- ---- what other laws give
-- a tree of properties at the place that a master names meets the rule
abbrev pub PropertiesMet : Type 0
PropertiesMet = (contents : ℕ → List ℕ) (geo : RawGeometry) (props : List Lprop) (at : LptAt) (master : Master) → IsTreeLeb geo at.lnum props (contents at.lnum) at
    → master.lpt_lnum ≡ at.lnum → master.lpt_offs ≡ at.offs → HasProperties contents geo master props

-- the properties of main LEBs into which nodes were laid add up
pub record PropsLaws : Type 0 where
  pub sums : (geo : RawGeometry) (leaves index : List ℕ) (nodes below : List Branch) → IsGeometry geo → AreBytesTaken geo leaves → AreBytesTaken geo index
      → TakesOfLebs (main_first geo) leaves below → TakesOfLebs (main_first geo + length leaves) index nodes → (i : ℕ) (prop : Lprop) → slice_get (laid_props geo leaves index) i ≡ Some prop
      → prop.free + prop.dirty + bytes_taken (filter (λ branch. branch.lnum == main_first geo + i) (nodes ++ below)) ≡ geo.leb_size
  pub ends : (geo : RawGeometry) (contents : ℕ → List ℕ) (leaves index : List ℕ) → IsGeometry geo → AreFilled geo contents (main_first geo) leaves
      → AreFilled geo contents (main_first geo + length leaves) index → (i : ℕ) (prop : Lprop) → slice_get (laid_props geo leaves index) i ≡ Some prop
      → prop.free < geo.leb_size → is_blank (drop (geo.leb_size - prop.free) (contents (main_first geo + i))) ≡ true
  pub leaves : (geo : RawGeometry) (leaves index : List ℕ) (i : ℕ) → i < length leaves → slice_get (laid_props geo leaves index) i ≡ Some (prop_behind geo (get_or leaves i 0) false)
  pub index : (geo : RawGeometry) (leaves index : List ℕ) (i : ℕ) → i < length index
      → slice_get (laid_props geo leaves index) (length leaves + i) ≡ Some (prop_behind geo (get_or index i 0) true)

units_fit : (unit size len : ℕ) → 0 < unit → size % unit ≡ 0 → len ≤ size → in_units unit len ≤ size
units_fit unit size len some whole fits = grind arith

module _ (geo : RawGeometry) (g : IsGeometry geo) (small : geo.big ≡ false) (main : FilledMain) (filled : AreMainFilled geo main)
    (c : ℕ → List ℕ) (bytes : (lnum : ℕ) → IsBytes (c lnum)) (full : (lnum : ℕ) → lnum < geo.leb_cnt → length (c lnum) ≡ geo.leb_size)
    (placed : PlacedRow) (nodes : List Placed) (h : HoldsIndexed geo c main placed nodes)
    (at : LptAt) (uuid : List ℕ) (sqnum : ℕ) (few : sqnum < 2 ^ 63)
    (super : BeginsWithSuper (c 0) (new_super geo uuid))
    (areas : AreLogAndMasters geo sqnum (made_master geo main at) c)
    (tree : IsTreeLeb geo (lpt_first geo) (props_over geo main) (c (lpt_first geo)) at)
    (blank : (lnum : ℕ) → 3 < lnum → lnum < main_first geo → lnum ≢ lpt_first geo → is_blank (c lnum) ≡ true)
    (none_written : (leb : List ℕ) → is_blank leb ≡ true → HasOrphanNodes leb)
    (meets : PropertiesMet) (laws : PropsLaws) where
  abbrev first : ℕ
  first = main_first geo

  abbrev behind : ℕ
  behind = main_first geo + length main.leaves.items

  abbrev past : ℕ
  past = main_first geo + length main.leaves.items + length main.index.items

  abbrev props : List Lprop
  props = props_over geo main

  past_fits : past < geo.leb_cnt
  past_fits = let room = filled.room in omega (arith, room)

  -- ---- kinds of LEBs
  at_leaves : (lnum : ℕ) → first ≤ lnum → lnum < behind → prop_of geo props lnum ≡ Some (prop_behind geo (get_or main.leaves.items (lnum - first) 0) false)
  at_leaves lnum low high = rw (le-ltb lnum first low) (laws.leaves geo main.leaves.items main.index.items (lnum - first) (omega (arith, low, high)))

  at_index : (lnum : ℕ) → behind ≤ lnum → lnum < past → prop_of geo props lnum ≡ Some (prop_behind geo (get_or main.index.items (lnum - behind) 0) true)
  at_index lnum low high =
      let e : length main.leaves.items + (lnum - behind) ≡ lnum - first = omega (arith, low) in
      let P : ℕ → Type 0 = λ i. slice_get props i ≡ Some (prop_behind geo (get_or main.index.items (lnum - behind) 0) true) in
      rw (le-ltb lnum first (omega (arith, low))) (subst P e (laws.index geo main.leaves.items main.index.items (lnum - behind) (omega (arith, low, high))))

  unmarked : (lnum : ℕ) → first ≤ lnum → lnum < behind → is_unmarked geo props lnum ≡ true
  unmarked lnum low high = ap (λ o. option_map_or (λ (prop : Lprop). not prop.index) o false) (at_leaves lnum low high)

  marked_at : (lnum : ℕ) → behind ≤ lnum → lnum < past → is_marked_index geo props lnum ≡ true
  marked_at lnum low high = ap (λ o. option_map_or (λ (prop : Lprop). prop.index) o false) (at_index lnum low high)

  marked : (branches : List Branch) → All (Lies behind past) branches → All (λ lnum. is_marked_index geo props lnum ≡ true) (map (λ branch. branch.lnum) branches)
  marked [] within = All-nil (λ (lnum : ℕ). is_marked_index geo props lnum ≡ true)
  marked (x ∷ branches) within =
      let here = All-head (Lies behind past) x branches within in
      All-cons (λ (lnum : ℕ). is_marked_index geo props lnum ≡ true) x.lnum (map (λ (branch : Branch). branch.lnum) branches) (marked_at x.lnum here.0 here.1)
      (marked branches (All-tail (Lies behind past) x branches within))

  stand : (xs : List Placed) → All (Lies first behind) (map branch_to (map leaf_of_placed xs)) → AllByRecursion (StandsPlain c) xs → AllByRecursion (IsLaidNode c geo props) xs
  stand [] within stands = tt
  stand (x ∷ xs) within stands =
      let P : Branch → Type 0 = Lies first behind in
      let rest = map branch_to (map leaf_of_placed xs) in
      let here = All-head P (branch_to (leaf_of_placed x)) rest within in (
        record { stands = stands.0.stands; unmarked = unmarked x.lnum here.0 here.1; plain = stands.0.plain; shows = stands.0.shows },
        stand xs (All-tail P (branch_to (leaf_of_placed x)) rest within) stands.1,
      )

  -- ---- sums and ends
  sums : HasSums geo props placed
  sums lnum prop has = by (nat_lt lnum first) refl has
    where
      below : List Branch
      below = map branch_to (leaves_in (plain placed))

      takes : TakesOfLebs first main.leaves.items (map branch_to (leaves_in (plain placed)))
      takes = let P : List Leaf → Type 0 = λ leaves. TakesOfLebs first main.leaves.items (map branch_to leaves) in subst P (sym h.said) h.leaves

      by : (b : Bool) → nat_lt lnum first ≡ b → cond b None (slice_get props (lnum - first)) ≡ Some prop → prop.free + prop.dirty + committed_bytes placed lnum ≡ geo.leb_size
      by true e there = absurd cc
      by false e there =
          let low = ltb-false lnum first e in
          let f : first + (lnum - first) ≡ lnum = omega (arith, low) in
          let P : ℕ → Type 0 = λ n. prop.free + prop.dirty + bytes_taken (filter (λ (branch : Branch). branch.lnum == n) (all_nodes placed ++ map branch_to (leaves_in (plain placed)))) ≡ geo.leb_size in
          subst P f (laws.sums geo main.leaves.items main.index.items (all_nodes placed) (map branch_to (leaves_in (plain placed))) g filled.leaves filled.index takes h.nodes_taken (lnum - first) prop there)

  ends : AreEndsBlank c geo (made_master geo main at) props
  ends lnum prop has some not_all other = by (nat_lt lnum first) refl has
    where
      by : (b : Bool) → nat_lt lnum first ≡ b → cond b None (slice_get props (lnum - first)) ≡ Some prop → is_blank (drop (geo.leb_size - prop.free) (c lnum)) ≡ true
      by true e there = absurd cc
      by false e there =
          let low = ltb-false lnum first e in
          let f : first + (lnum - first) ≡ lnum = omega (arith, low) in
          let P : ℕ → Type 0 = λ n. is_blank (drop (geo.leb_size - prop.free) (c n)) ≡ true in
          subst P f (laws.ends geo c main.leaves.items main.index.items g h.leaves_filled h.index_filled (lnum - first) prop there not_all)

  -- ---- the root
  root_lies : Lies behind past main.root
  root_lies =
      let Q : Branch → Type 0 = Lies behind past in
      let P : PlacedRow → Type 0 = λ row. All Q (all_nodes row) in
      All-head Q main.root (all_nodes h.index.children ++ []) (subst P h.index.whole h.nodes_taken.within)

  root_room : main.root.offs + main.root.len ≤ length (c main.root.lnum)
  unfolding AreStored
  root_room =
      let P : PlacedRow → Type 0 = λ row. AreStored c h.index.levels row in
      let s = subst P h.index.whole h.index.stored in
      s.1.room

  last_used : ℕ
  last_used = get_or main.index.items (length main.index.items - 1) 0

  in_areas : AreInAreas geo (made_master geo main at)
  in_areas =
      let low = root_lies.0 in
      let high = root_lies.1 in
      let all = past_fits in
      let some = filled.some in
      let room = root_room in
      let size = full main.root.lnum (omega (arith, high, all)) in
      let lpt = g.lpt_lebs.0 in
      let fits = g.one_leb in
      let lnum = tree.lnum in
      let offs = tree.offs in
      let table = tree.ltab_offs in
      let ltab = tree.ltab_lnum in
      let unit = g.min_io.1 in
      let last = (filled.index (length main.index.items - 1) 0 (omega (arith, some))).2 in
      record {
        log = refl;
        root_low = omega (arith, low);
        root_high = omega (arith, high, all);
        root_offs = omega (arith, room, size);
        head_low = omega (arith, some);
        head_high = omega (arith, some, all);
        head_offs = units_fit geo.min_io geo.leb_size (get_or main.index.items (length main.index.items - 1) 0) (omega (arith, unit)) g.leb_size.2 last;
        lpt_low = omega (arith, lnum);
        lpt_high = omega (arith, lnum, lpt);
        lpt_offs = omega (arith, offs, table, fits);
        ltab_low = omega (arith, ltab);
        ltab_high = omega (arith, ltab, lpt);
        ltab_offs = omega (arith, table, fits);
      }

  placed_well : first_past (addresses_of geo areas.latest.master) ≡ None
  placed_well = let P : Master → Type 0 = λ m. first_past (addresses_of geo m) ≡ None in subst P (sym areas.is_fresh) (none_past geo (made_master geo main at) g in_areas)

  index : HasIndex c geo (made_master geo main at) props placed
  index = record { key = main.root.key; index = h.index; first = h.key; marked = marked (all_nodes placed) h.nodes_taken.within }

  superblock : HasSuperblock c geo
  superblock = record {
    node = new_super geo uuid;
    begins = super;
    known = refl;
    geometry = ap (λ (big : Bool). record geo { big = big }) small;
    in_range = g;
  }

  pub is_laid : IsLaidImage c geo areas.latest (props_over geo main) placed nodes
  is_laid =
      let logs = g.log_lebs.0 in
      let lpt = g.lpt_lebs.0 in
      let M : Master → Type 0 = λ m. HasIndex c geo m (props_over geo main) placed in
      let L : Master → Type 0 = λ m. IsFreshLog c geo m.log_lnum (sqnum + 1) m.cmt_no in
      let E : Master → Type 0 = λ m. AreEndsBlank c geo m (props_over geo main) in
      let T : Master → Type 0 = λ m. ShowTree (map kept_at nodes) (tree_of_nodes m nodes) in
      let C : Master → Type 0 = λ m. m.cmt_no < 2 ^ 64 in
      let A : ℕ → Type 0 = λ n. IsTreeLeb geo n (props_over geo main) (c n) at in
      record {
        bytes = bytes;
        superblock = superblock;
        masters = record { is_latest = areas.is_latest; in_areas = placed_well };
        properties = meets c geo (props_over geo main) at areas.latest.master (subst A (sym tree.lnum) tree) (ap (λ (m : Master). m.lpt_lnum) areas.is_fresh) (ap (λ (m : Master). m.lpt_offs) areas.is_fresh);
        index = subst M (sym areas.is_fresh) index;
        sqnum = sqnum + 1;
        number = omega (arith, few);
        commit = subst C (sym areas.is_fresh) (ltb-true 0 (2 ^ 64) refl);
        log = subst L (sym areas.is_fresh) (record {
          in_log = record { low = omega arith; high = omega (arith, logs) };
          start = areas.log;
          blank = λ lnum in_log other.
              let low = in_log.low in
              let high = in_log.high in
              blank lnum (omega (arith, low, other)) (omega (arith, high, lpt)) (λ e. omega (arith, e, high));
        });
        leaves = h.said;
        distinct = h.distinct;
        disjoint = h.disjoint;
        stand = stand nodes h.leaves.within h.stand;
        sums = sums;
        ends = subst E (sym areas.is_fresh) ends;
        orphans = λ lnum low high. none_written (c lnum) (blank lnum (omega (arith, low)) high (λ e. omega (arith, e, low, lpt)));
        listed = none_listed c (orph_first geo) geo.orph_lebs (λ lnum low high. blank lnum (omega (arith, low)) high (λ e. omega (arith, e, low, lpt)));
        tree = subst T (sym areas.is_fresh) h.tree;
      }
