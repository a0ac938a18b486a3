-- Leaves that can be laid next, and what was laid behind one another.
use Rattle.std.proofs.Common.{◌≡◌, ◌<◌, List, [], ◌∷◌, ◌++◌, length, refl, sym, ◌∙◌, ap, subst, arith, append_assoc, length-append, inl, inr}
use Rattle.std.specs.List.{AllByRecursion}
use Rattle.std.proofs.lemmas.List.{append-nil}
use Rattle.std.proofs.lemmas.Bool.{cases_lt}
use Rattle.std.proofs.lemmas.List.Sums.{sum_by-append}
use Rattle.ubifs_base.specs.declared.raw_geometry.RawGeometry.{RawGeometry}
use Rattle.ubifs_base.specs.Areas.{main_lebs}
use Rattle.ubi_volume.specs.Volume.{VolumeState}
use Rattle.media_leaf.specs.LeafNode.{LeafNode, IsLeaf}
use Rattle.group_nodes.specs.Texts.{padded_leaf_bytes}
use Rattle.image_maker.specs.declared.open_leb.OpenLeb.{OpenLeb}
use Rattle.image_maker.specs.Laying.{AreLeafNodesLaid, AreLeavesReady, LaysLeaves, IsUnderWay}
use Rattle.image_maker.specs.Packed.{packed_after}
use Rattle.image_maker.proofs.Packing.{packed_after_grows}
use Rattle.image_maker.proofs.Room.{HasRoom, room}

all_front : (xs ys : List LeafNode) → AllByRecursion IsLeaf (xs ++ ys) → AllByRecursion IsLeaf xs
all_front [] ys h = tt
all_front (x ∷ xs) ys h = (h.0, all_front xs ys h.1)

all_back : (xs ys : List LeafNode) → AllByRecursion IsLeaf (xs ++ ys) → AllByRecursion IsLeaf ys
all_back [] ys h = h
all_back (x ∷ xs) ys h = all_back xs ys h.1

-- where leaves are ready there is a LEB for them, and one behind it
pub ready_room : (raw : RawGeometry) (next : List LeafNode) (open_leb : OpenLeb) (state : VolumeState) → AreLeavesReady raw next open_leb state → HasRoom raw open_leb
ready_room raw next open_leb state r = let few = r.few in room raw r.done next open_leb state.holds r.room (omega (arith, few)) r.laid

-- the LEBs that are taken once leaves are laid are those that they were to take
after_laid : (raw : RawGeometry) (first more : List LeafNode) (before after : OpenLeb) (was state : VolumeState) → LaysLeaves raw first before was after state
    → length (packed_after raw before (first ++ more)) < main_lebs raw → length (packed_after raw after more) < main_lebs raw
after_laid raw first more before after was state l fits = let same = ap length (l.packed more) in omega (arith, same, fits)

-- and after all leaves too
pub done_room : (raw : RawGeometry) (next : List LeafNode) (before after : OpenLeb) (was state : VolumeState) → AreLeavesReady raw next before was → LaysLeaves raw next before was after state → HasRoom raw after
done_room raw next before after was state r l =
    let few = r.few in
    let sum = sum_by-append padded_leaf_bytes r.done next in
    let all : length (packed_after raw before (next ++ [])) < main_lebs raw = subst (λ leaves. length (packed_after raw before leaves) < main_lebs raw) (sym (append-nil next)) r.room in
    room raw (r.done ++ next) [] after state.holds (after_laid raw next [] before after was state l all) (omega (arith, few, sum)) (l.laid r.done r.laid)

-- the first of leaves that are ready are ready
pub ready_first : (raw : RawGeometry) (first more : List LeafNode) (open_leb : OpenLeb) (state : VolumeState) → AreLeavesReady raw (first ++ more) open_leb state → AreLeavesReady raw first open_leb state
ready_first raw first more open_leb state r =
    let few = r.few in
    let room = r.room in
    let sum = sum_by-append padded_leaf_bytes first more in
    let grows = packed_after_grows raw open_leb first more in
    record {
      nodes = all_front first more r.nodes;
      done = r.done;
      laid = r.laid;
      room = omega (arith, room, grows);
      few = omega (arith, few, sum);
      fits = r.fits;
      geometry = r.geometry;
    }

-- and the others, once these are laid
pub ready_next : (raw : RawGeometry) (first more : List LeafNode) (before after : OpenLeb) (was state : VolumeState)
    → AreLeavesReady raw (first ++ more) before was → LaysLeaves raw first before was after state → AreLeavesReady raw more after state
ready_next raw first more before after was state r l =
    let few = r.few in
    let sum = sum_by-append padded_leaf_bytes first more in
    let laid = sum_by-append padded_leaf_bytes r.done first in
    record {
      nodes = all_back first more r.nodes;
      done = r.done ++ first;
      laid = l.laid r.done r.laid;
      room = after_laid raw first more before after was state l r.room;
      few = omega (arith, few, sum, laid);
      fits = l.fits;
      geometry = l.geometry;
    }

-- nothing is laid
pub lays_none : (raw : RawGeometry) (next : List LeafNode) (open_leb : OpenLeb) (state : VolumeState) → AreLeavesReady raw next open_leb state → LaysLeaves raw [] open_leb state open_leb state
lays_none raw next open_leb state r =
    record {
      laid = λ done h. subst (λ leaves. AreLeafNodesLaid raw leaves open_leb state.holds) (sym (append-nil done)) h;
      packed = λ leaves. refl;
      some = λ h. omega (arith, h);
      fits = r.fits;
      geometry = r.geometry;
    }

-- leaves are laid, and more behind them
pub lays_more : (raw : RawGeometry) (first more : List LeafNode) (a b c : OpenLeb) (p q r : VolumeState) → LaysLeaves raw first a p b q → LaysLeaves raw more b q c r → LaysLeaves raw (first ++ more) a p c r
lays_more raw first more a b c p q r l m =
    record {
      laid = λ done h. subst (λ leaves. AreLeafNodesLaid raw leaves c r.holds) (append_assoc done first more) (m.laid (done ++ first) (l.laid done h));
      packed = λ leaves. m.packed leaves ∙ l.packed (more ++ leaves) ∙ ap (packed_after raw a) (sym (append_assoc first more leaves));
      some = λ h. elim (cases_lt 0 (length more)) [
        | inl last ↦ m.some (omega (arith, last))
        | inr none ↦
            let len = length-append first more in
            let here : 0 < length b.bytes.items = l.some (omega (arith, h, none, len)) in
            m.some (omega (arith, here))
      ];
      fits = m.fits;
      geometry = m.geometry;
    }

-- ---- leaves that are under way
pub begins : (raw : RawGeometry) (all rest : List LeafNode) (open_leb : OpenLeb) (state : VolumeState) → AreLeavesReady raw all open_leb state → rest ≡ all → IsUnderWay raw all rest open_leb state open_leb state
begins raw all rest open_leb state r is = record { done = []; parts = is; lays = lays_none raw all open_leb state r }

-- the next are ready
pub next_ready : (raw : RawGeometry) (all rest next more : List LeafNode) (before open_leb : OpenLeb) (was state : VolumeState)
    → AreLeavesReady raw all before was → rest ≡ next ++ more → IsUnderWay raw all rest before was open_leb state → AreLeavesReady raw next open_leb state
next_ready raw all rest next more before open_leb was state r is u =
    let whole : all ≡ u.done ++ (next ++ more) = sym u.parts ∙ ap (λ x. u.done ++ x) is in
    let ready = ready_next raw u.done (next ++ more) before open_leb was state (subst (λ leaves. AreLeavesReady raw leaves before was) whole r) u.lays in
    ready_first raw next more open_leb state ready

-- they are laid
pub next_laid : (raw : RawGeometry) (all rest next more : List LeafNode) (before open_leb after : OpenLeb) (was state new : VolumeState)
    → rest ≡ next ++ more → IsUnderWay raw all rest before was open_leb state → LaysLeaves raw next open_leb state after new → IsUnderWay raw all more before was after new
next_laid raw all rest next more before open_leb after was state new is u l =
    record {
      done = u.done ++ next;
      parts = append_assoc u.done next more ∙ ap (λ x. u.done ++ x) (sym is) ∙ u.parts;
      lays = lays_more raw u.done next before open_leb after was state new u.lays l;
    }

-- none is left
pub all_laid : (raw : RawGeometry) (all rest : List LeafNode) (before open_leb : OpenLeb) (was state : VolumeState)
    → rest ≡ [] → IsUnderWay raw all rest before was open_leb state → LaysLeaves raw all before was open_leb state
all_laid raw all rest before open_leb was state none u =
    let whole : u.done ≡ all = sym (append-nil u.done) ∙ ap (λ x. u.done ++ x) (sym none) ∙ u.parts in
    subst (λ leaves. LaysLeaves raw leaves before was open_leb state) whole u.lays

-- ---- a node, then some more, and then the last
pub second_ready : (raw : RawGeometry) (node : LeafNode) (some last : List LeafNode) (a b : OpenLeb) (p q : VolumeState)
    → AreLeavesReady raw (node ∷ (some ++ last)) a p → LaysLeaves raw (node ∷ []) a p b q → AreLeavesReady raw some b q
second_ready raw node some last a b p q r l = ready_first raw some last b q (ready_next raw (node ∷ []) (some ++ last) a b p q r l)

pub third_ready : (raw : RawGeometry) (node : LeafNode) (some last : List LeafNode) (a b c : OpenLeb) (p q s : VolumeState)
    → AreLeavesReady raw (node ∷ (some ++ last)) a p → LaysLeaves raw (node ∷ []) a p b q → LaysLeaves raw some b q c s → AreLeavesReady raw last c s
third_ready raw node some last a b c p q s r l m = ready_next raw some last b c q s (ready_next raw (node ∷ []) (some ++ last) a b p q r l) m

pub three_laid : (raw : RawGeometry) (node : LeafNode) (some last : List LeafNode) (a b c d : OpenLeb) (p q s t : VolumeState)
    → LaysLeaves raw (node ∷ []) a p b q → LaysLeaves raw some b q c s → LaysLeaves raw last c s d t → LaysLeaves raw (node ∷ (some ++ last)) a p d t
three_laid raw node some last a b c d p q s t l m n = lays_more raw (node ∷ []) (some ++ last) a b d p q t l (lays_more raw some last b c d q s t m n)

-- a node is laid, under another name
pub same_laid : (raw : RawGeometry) (node other : LeafNode) (a b : OpenLeb) (p q : VolumeState) → node ≡ other → LaysLeaves raw (node ∷ []) a p b q → LaysLeaves raw (other ∷ []) a p b q
same_laid raw node other a b p q same l = subst (λ x. LaysLeaves raw (x ∷ []) a p b q) same l
