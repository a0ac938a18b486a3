-- What a sound image's log names can be read, and its nodes have places.
use Rattle.std.proofs.Common.{◌≡◌, ℕ, ◌%◌, ◌<◌, ◌≤◌, Bool, true, false, List, [], ◌∷◌, fold, refl, sym, ◌∙◌, subst, inl, inr, arith}
use Rattle.std.specs.Prelude.{◌==◌, if◌then◌else◌, map, min}
use Rattle.std.specs.List.{AllByRecursion}
use Rattle.std.proofs.Math.Nat.{min-eq_left, min-eq_right}
use Rattle.std.proofs.lemmas.Bool.{cases_Bool, cases_lt, eq-eqb, eqb-true}
use Rattle.ubifs_base.specs.Geometry.{IsGeometry}
use Rattle.ubifs_base.specs.declared.raw_geometry.RawGeometry.{RawGeometry}
use Rattle.media_sys.specs.declared.ref_node.RefNode.{RefNode}
use Rattle.bud_log.specs.Buds.{buds_of, named_also}
use Rattle.bud_log.specs.Log.{references_of}
use Rattle.bud_log.specs.declared.head_at.HeadAt.{HeadAt}
use Rattle.index_tree.specs.declared.leaf.Leaf.{Leaf}
use Rattle.journal_scan.specs.Journal.{BudRead, IsBudRead, IsReadable, copies_in, journal_nodes_in}
use Rattle.journal_scan.specs.Places.{AreToldOnce, HasNamedPlace, HavePlaces, named_by as named_of}
use Rattle.journal_scan.specs.declared.bud_text.BudText.{BudText}
use Rattle.leaf_map.specs.Kept.{Placed, kept_at}
use Rattle.leaf_map.specs.Parts.{Named, in_bud}
use Rattle.sound_image.specs.Buds.{bud_text}
use Rattle.sound_image.specs.Image.{AreOfVolume, Image, named_by_ref_node, parts_of}
use Rattle.sound_image.specs.Log.{NamesMain}
use Rattle.sound_image.specs.Sound.{SoundImage}
use Rattle.sound_image.proofs.OneJournal.{all_read}
use Rattle.sound_image.proofs.References.{same_places}

min_of : (P : ℕ → Type 0) (a b : ℕ) → P a → P b → P (min a b)
min_of P a b x y = elim (cases_lt a b) [
  | inl less ↦ let le : a ≤ b = omega (arith, less) in subst P (sym (min-eq_left {n = a} {m = b} le)) x
  | inr less ↦ subst P (sym (min-eq_right {n = b} {m = a} less)) y
]

-- ---- places
-- a bud begins inside a LEB of the volume, at a multiple of 8
record IsInside (geo : RawGeometry) (bud : HeadAt) : Type 0 where
  high : bud.lnum < geo.leb_cnt
  inside : bud.offs ≤ geo.leb_size
  even : bud.offs % 8 ≡ 0

named_inside : (geo : RawGeometry) (buds : List HeadAt) (node : RefNode) → AllByRecursion (IsInside geo) buds → NamesMain geo node → AllByRecursion (IsInside geo) (named_also buds node)
named_inside geo [] node h k = (record { high = k.high; inside = k.inside; even = k.even }, tt)
named_inside geo (bud ∷ buds) node h k = by (named_inside geo buds node h.1 k) (bud.lnum == node.lnum)
  where
    by : AllByRecursion (IsInside geo) (named_also buds node) → (b : Bool) → AllByRecursion (IsInside geo) (if b then record { head = bud.head; lnum = bud.lnum; offs = min bud.offs node.offs } ∷ buds else bud ∷ named_also buds node)
    by rest true = (record { high = h.0.high; inside = min_of (λ n. n ≤ geo.leb_size) bud.offs node.offs h.0.inside k.inside; even = min_of (λ n. n % 8 ≡ 0) bud.offs node.offs h.0.even k.even }, h.1)
    by rest false = (h.0, rest)

fold_inside : (geo : RawGeometry) (nodes : List RefNode) (buds : List HeadAt) → AllByRecursion (IsInside geo) buds → AllByRecursion (NamesMain geo) nodes → AllByRecursion (IsInside geo) (fold named_also buds nodes)
fold_inside geo [] buds h k = h
fold_inside geo (node ∷ nodes) buds h k = fold_inside geo nodes (named_also buds node) (named_inside geo buds node h k.0) k.1

can_be_read : (contents : ℕ → List ℕ) (geo : RawGeometry) (bud : HeadAt) → IsGeometry geo → AreOfVolume contents geo → IsInside geo bud → IsReadable (bud_text contents bud)
can_be_read contents geo bud range volume h =
    let full = volume.full bud.lnum h.high in
    let inside = h.inside in
    let most = range.leb_size.1 in
    record { multiple = h.even; place = omega (arith, full, inside); len = omega (arith, full, most) }

all_readable : (contents : ℕ → List ℕ) (geo : RawGeometry) (buds : List HeadAt) → IsGeometry geo → AreOfVolume contents geo → AllByRecursion (IsInside geo) buds → AllByRecursion IsReadable (map (bud_text contents) buds)
all_readable contents geo [] range volume h = tt
all_readable contents geo (bud ∷ buds) range volume h = (can_be_read contents geo bud range volume h.0, all_readable contents geo buds range volume h.1)

pub readable : (contents : ℕ → List ℕ) (image : Image) → AreOfVolume contents image.geo → SoundImage contents image → AllByRecursion IsReadable (map (bud_text contents) (buds_of (references_of image.log)))
readable contents image volume h = all_readable contents image.geo (buds_of (references_of image.log)) h.superblock.in_range volume (fold_inside image.geo (references_of image.log) [] tt h.log.named)

-- ---- each LEB once
abbrev IsOther : ℕ → HeadAt → Type 0
IsOther lnum bud = (bud.lnum == lnum) ≡ false

abbrev once : List HeadAt → Type 0
once [] = Unit {0}
once (bud ∷ buds) = AllByRecursion (IsOther bud.lnum) buds × once buds

other_named : (lnum : ℕ) (buds : List HeadAt) (node : RefNode) → AllByRecursion (IsOther lnum) buds → (node.lnum == lnum) ≡ false → AllByRecursion (IsOther lnum) (named_also buds node)
other_named lnum [] node h k = (k, tt)
other_named lnum (bud ∷ buds) node h k = by (other_named lnum buds node h.1 k) (bud.lnum == node.lnum)
  where
    by : AllByRecursion (IsOther lnum) (named_also buds node) → (b : Bool) → AllByRecursion (IsOther lnum) (if b then record { head = bud.head; lnum = bud.lnum; offs = min bud.offs node.offs } ∷ buds else bud ∷ named_also buds node)
    by rest true = (h.0, h.1)
    by rest false = (h.0, rest)

swapped : (a b : ℕ) → (a == b) ≡ false → (b == a) ≡ false
swapped a b h = elim (cases_Bool (b == a)) [ inl same ↦ let e : a ≡ b = sym (eqb-true b a same) in let f : true ≡ false = sym (eq-eqb a b e) ∙ h in absurd cc | inr other ↦ other ]

named_once : (buds : List HeadAt) (node : RefNode) → once buds → once (named_also buds node)
named_once [] node h = (tt, tt)
named_once (bud ∷ buds) node h = by (named_once buds node h.1) (bud.lnum == node.lnum) refl
  where
    by : once (named_also buds node) → (b : Bool) → (bud.lnum == node.lnum) ≡ b → once (if b then record { head = bud.head; lnum = bud.lnum; offs = min bud.offs node.offs } ∷ buds else bud ∷ named_also buds node)
    by rest true e = (h.0, h.1)
    by rest false e = (other_named bud.lnum buds node h.0 (swapped bud.lnum node.lnum e), rest)

fold_once : (nodes : List RefNode) (buds : List HeadAt) → once buds → once (fold named_also buds nodes)
fold_once [] buds h = h
fold_once (node ∷ nodes) buds h = fold_once nodes (named_also buds node) (named_once buds node h)

others_told : (contents : ℕ → List ℕ) (lnum : ℕ) (buds : List HeadAt) → AllByRecursion (IsOther lnum) buds → AllByRecursion (λ (other : BudText). (other.lnum == lnum) ≡ false) (map (bud_text contents) buds)
others_told contents lnum [] h = tt
others_told contents lnum (bud ∷ buds) h = (h.0, others_told contents lnum buds h.1)

told_once : (contents : ℕ → List ℕ) (buds : List HeadAt) → once buds → AreToldOnce (map (bud_text contents) buds)
told_once contents [] h = tt
told_once contents (bud ∷ buds) h = (others_told contents bud.lnum buds h.0, told_once contents buds h.1)

pub buds_told_once : (contents : ℕ → List ℕ) (nodes : List RefNode) → AreToldOnce (map (bud_text contents) (buds_of nodes))
buds_told_once contents nodes = told_once contents (buds_of nodes) (fold_once nodes [] tt)

-- ---- where nodes stand
named_too : (contents : ℕ → List ℕ) (nodes : List RefNode) (leaf : Leaf) → in_bud (map named_of (map (bud_text contents) (buds_of nodes))) leaf ≡ true → in_bud (map named_by_ref_node nodes) leaf ≡ true
named_too contents nodes leaf h = same_places contents nodes leaf ∙ h

all_named : (a b : List Named) (nodes : List Placed) → ((leaf : Leaf) → in_bud a leaf ≡ true → in_bud b leaf ≡ true) → AllByRecursion (HasNamedPlace a) nodes → AllByRecursion (HasNamedPlace b) nodes
all_named a b [] more h = tt
all_named a b (x ∷ nodes) more h = (more (kept_at x).leaf h.0, all_named a b nodes more h.1)

-- the nodes of texts that are told once have places
abbrev pub NodesHavePlaces : Type 0
NodesHavePlaces = (buds : List BudText) (reads : List BudRead) → AreToldOnce buds → map (λ x. x.bud) reads ≡ buds → AllByRecursion IsBudRead reads → HavePlaces (map named_of buds) (copies_in reads) (journal_nodes_in reads)

pub have_places : NodesHavePlaces → (contents : ℕ → List ℕ) (image : Image) → SoundImage contents image → HavePlaces (parts_of image).named (parts_of image).copies (parts_of image).nodes
have_places law contents image h =
    let nodes = references_of image.log in
    let texts = map (bud_text contents) (buds_of nodes) in
    let own = law texts image.buds (buds_told_once contents nodes) h.buds.of_buds (all_read image.buds h.buds.sound) in
    record {
      copies_apart = own.copies_apart;
      nodes_apart = own.nodes_apart;
      beside = own.beside;
      copies_named = all_named (map named_of texts) (map named_by_ref_node nodes) (copies_in image.buds) (named_too contents nodes) own.copies_named;
      nodes_named = all_named (map named_of texts) (map named_by_ref_node nodes) (journal_nodes_in image.buds) (named_too contents nodes) own.nodes_named;
      leaf_nodes = own.leaf_nodes;
    }
