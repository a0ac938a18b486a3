-- While a copy is written to a LEB, a cut leaves its last master as it was, or the new one.
use Rattle.std.proofs.Common.{◌≡◌, ◌⊎◌, ℕ, ◌+◌, ◌-◌, ◌≤◌, true, List, [], ◌++◌, length, take, drop, replicate, Option, Some, None, refl, ap, sym, ◌∙◌, subst, inl, inr, arith, append_assoc, length-append, length-drop}
use Rattle.std.proofs.lemmas.List.{drop-drop, take_at, length-take-le}
use Rattle.std.proofs.lemmas.List.Elements.{All-nil}
use Rattle.ubifs_base.specs.Gap.{gap_of}
use Rattle.ubifs_base.specs.NodeLaws.{IsBytes}
use Rattle.ubi_volume.specs.Volume.{VolumeState, Only, filled, put}
use Rattle.media_sys.specs.SystemNode.{IsMaster}
use Rattle.media_sys.specs.declared.master.Master.{Master}
use Rattle.ubifs_base.specs.declared.node_type.NodeType.TheVariants as types
use Rattle.leb_scan.specs.Fronts.{same_part, stand_alike, within}
use Rattle.leb_scan.specs.Gaps.{gap_length}
use Rattle.leb_scan.specs.Text.{IsText, nodes_of, is_blank}
use Rattle.leb_scan.specs.TextLaws.{Stand-then, nodes_of-append, blank_drop, blank_replicate}
use Rattle.leb_scan.specs.declared.found.Found.{Found}
use Rattle.leb_scan.specs.declared.item.Item.{Item}
use Rattle.leb_scan.specs.declared.tail.Tail.{Tail}
use Rattle.leb_scan.specs.declared.tail.Tail.TheVariants.{Clean}
use Rattle.small_areas.specs.Copies.{copy_of, IsNodeOf, IsRoom, IsPlace, IsCopied, CopyUnderWay, IsUnmended, IsMeant}
use Rattle.small_areas.specs.Later.{IsReadOf}
use Rattle.small_areas.specs.Masters.{HasNone, IsLastOf, IsLastFound, IsLastMaster, HasNoMaster}
use Rattle.small_areas.specs.declared.placed_master.PlacedMaster.{PlacedMaster}
use Rattle.small_areas.proofs.LaidCopy.{standing_at, read_new, HasCopy, laid, laid_there, laid_unmended}
use Rattle.small_areas.specs.MasterLaws.{OneNode, OneText}
use Rattle.small_areas.proofs.LastNode.{none_of_both, last_behind, last_before, last_of, of_last}
use Rattle.small_areas.proofs.Rooms.{mod_through}

-- the text of a LEB that was clean goes on behind its end
record IsContinued (a left : List ℕ) (place : ℕ) : Type 0 where
  items : List Item
  before : IsText a 0 items place Clean
  same : take place a ≡ take place left
  rest : List Item
  end : ℕ
  tail : Tail
  text : IsText left 0 (items ++ rest) end tail

still_none : OneText → (a left : List ℕ) (place : ℕ) (k : IsContinued a left place) → IsBytes a → HasNone (nodes_of k.rest) → HasNoMaster a → HasNoMaster left
still_none one a left place k fits none h =
    let same = (one a 0 h.end place h.items k.items h.tail Clean fits h.is_text k.before).0 in
    let P : List Item → Type 0 = λ items. HasNone (nodes_of items) in
    let Q : List Found → Type 0 = λ nodes. HasNone nodes in
    record { items = k.items ++ k.rest; end = k.end; tail = k.tail; is_text = k.text; none = subst Q (sym (nodes_of-append k.items k.rest)) (none_of_both (nodes_of k.items) (nodes_of k.rest) (subst P same h.none) none) }

still_some : OneText → (a left : List ℕ) (place : ℕ) (k : IsContinued a left place) (placed : PlacedMaster) → IsBytes a → HasNone (nodes_of k.rest) → IsLastMaster a placed → IsLastMaster left placed
still_some one a left place k placed fits none h =
    let found : Found = h.found in
    let same = (one a 0 h.last.end place h.last.items k.items h.last.tail Clean fits h.last.is_text k.before).0 in
    let P : List Item → Type 0 = λ items. IsLastOf (nodes_of items) found in
    let Q : List Found → Type 0 = λ nodes. IsLastOf nodes found in
    let R : List ℕ → Type 0 = λ bytes. IsMaster bytes found.sqnum found.group placed.master in
    let here : IsLastOf (nodes_of k.items) found = subst P same h.last.last in
    let inside = within a k.items 0 place here.before here.behind found k.before.stand here.split in
    let last : IsLastOf (nodes_of (k.items ++ k.rest)) found = subst Q (sym (nodes_of-append k.items k.rest)) (last_before (nodes_of k.items) (nodes_of k.rest) found here none) in
    record {
      found = found;
      last = record { items = k.items ++ k.rest; end = k.end; tail = k.tail; is_text = k.text; last = last };
      offs = h.offs;
      sqnum = h.sqnum;
      is = subst R (same_part a left place found.offs found.len k.same inside) h.is;
    }

still : OneText → (a left : List ℕ) (lnum place : ℕ) (k : IsContinued a left place) (o : Option PlacedMaster) → IsBytes a → HasNone (nodes_of k.rest) → IsReadOf lnum a o → IsReadOf lnum left o
still one a left lnum place k None fits none h = record { some = tt; none = still_none one a left place k fits none h.none }
still one a left lnum place k (Some placed) fits none h = record { some = (still_some one a left place k placed fits none h.some.0, h.some.1); none = tt }

-- behind the clean text of a LEB a torn write left nothing, or the node that was written
pub read_behind : OneText → OneNode → (a left node : List ℕ) (lnum room place sqnum : ℕ) (new : Master) (o : Option PlacedMaster) → IsBytes a → IsNodeOf node sqnum new → IsPlace a room place → take place a ≡ take place left → length a ≡ length left
    → IsUnmended node place left → IsReadOf lnum a o → IsReadOf lnum left o ⊎ IsReadOf lnum left (Some (standing_at lnum place sqnum new))
read_behind one one_node a left node lnum room place sqnum new o fits is_node is_place same long u h =
    let front = stand_alike a left place 0 is_place.items same long is_place.is_text.stand in
    let text : IsText left 0 (is_place.items ++ u.items) u.end u.tail = record { stand = Stand-then left 0 place u.end is_place.items u.items front u.is_text.stand; ends = u.is_text.ends } in
    let k : IsContinued a left place = record { items = is_place.items; before = is_place.is_text; same = same; rest = u.items; end = u.end; tail = u.tail; text = text } in
    elim (last_of (nodes_of u.items)) [
      | inl none ↦ inl (still one a left lnum place k o fits none h)
      | inr (found, last) ↦
          let P : Found → Type 0 = λ f. f.kind ≡ types.Master → (f.offs ≡ place) × (take f.len (drop place left) ≡ node) in
          let Q : List Found → Type 0 = λ nodes. IsLastOf nodes found in
          let its = of_last P (nodes_of u.items) found u.masters last last.kind in
          let all : IsLastOf (nodes_of (is_place.items ++ u.items)) found = subst Q (sym (nodes_of-append is_place.items u.items)) (last_behind (nodes_of is_place.items) (nodes_of u.items) found last) in
          let last_found : IsLastFound left found = record { items = is_place.items ++ u.items; end = u.end; tail = u.tail; is_text = text; last = all } in
          inr (read_new one_node left node lnum place sqnum new found is_node last_found its.0 its.1)
    ]

pub copy_length : (room : ℕ) (node : List ℕ) → 512 ≤ room → length node ≡ 512 → length (copy_of room node) ≡ room
copy_length room node low long =
    let a : length (node ++ gap_of (room - 512)) ≡ length node + length (gap_of (room - 512)) = length-append node (gap_of (room - 512)) in
    let b = gap_length (room - 512) in
    omega (arith, a, b, low, long)

-- a LEB that a copy has replaced
pub replaced : OneNode → (leb node : List ℕ) (size lnum room sqnum : ℕ) (new : Master) → IsRoom room → leb ≡ filled size (copy_of room node) → IsNodeOf node sqnum new → HasCopy leb lnum 0 room sqnum new
replaced one leb node size lnum room sqnum new is_room h is_node =
    let low = is_room.low in
    let high = is_room.high in
    let even = is_room.even in
    let back : List ℕ = replicate (size - length (copy_of room node)) 255 in
    let end : 0 + 512 + (room - 512) ≡ room = omega (arith, low) in
    let P : ℕ → Type 0 = λ e. HasCopy leb lnum 0 e sqnum new in
    subst P end (laid one leb [] node back lnum 0 (room - 512) sqnum new [] h refl refl (omega (arith, high)) (omega (arith, low, even)) (blank_replicate (size - length (copy_of room node))) refl is_node)

-- the parts of a LEB to which a copy was written
record IsAppended (a leb node : List ℕ) (room place : ℕ) : Type 0 where
  front : List ℕ
  back : List ℕ
  split : leb ≡ front ++ (node ++ gap_of (room - 512)) ++ back
  at : length front ≡ place
  same : take place a ≡ take place leb
  long : length a ≡ length leb
  blank : is_blank back ≡ true

parts_of : (a leb node : List ℕ) (room place : ℕ) → IsRoom room → leb ≡ put place (copy_of room node) a → IsPlace a room place → length node ≡ 512 → IsAppended a leb node room place
parts_of a leb node room place is_room h is_place size_of =
    let copy : List ℕ = copy_of room node in
    let front : List ℕ = take place a in
    let back : List ℕ = drop (place + length copy) a in
    let size : length copy ≡ room = copy_length room node is_room.low size_of in
    let fits = is_place.fits in
    let at : length front ≡ place = length-take-le place a (omega (arith, fits)) in
    let l1 : length leb ≡ length (front ++ copy) + length back = ap length h ∙ length-append (front ++ copy) back in
    let l2 : length (front ++ copy) ≡ length front + length copy = length-append front copy in
    let l3 : length back ≡ length a - (place + length copy) = length-drop (place + length copy) a in
    let P : List ℕ → Type 0 = λ bytes. is_blank bytes ≡ true in
    record {
      front = front;
      back = back;
      split = h;
      at = at;
      same = sym (ap (take place) (h ∙ append_assoc front copy back) ∙ take_at front (copy ++ back) place at);
      long = omega (arith, l1, l2, l3, at, size, fits);
      blank = subst P (drop-drop (length copy) place a) (blank_drop (length copy) (drop place a) is_place.is_text.ends);
    }

-- a LEB to which a copy was written
pub appended : OneNode → (a leb node : List ℕ) (lnum room place sqnum : ℕ) (new : Master) → IsRoom room → leb ≡ put place (copy_of room node) a → IsPlace a room place → IsNodeOf node sqnum new → HasCopy leb lnum place (place + room) sqnum new
appended one a leb node lnum room place sqnum new is_room h is_place is_node =
    let low = is_room.low in
    let high = is_room.high in
    let even = is_room.even in
    let parts = parts_of a leb node room place is_room h is_place is_node.long in
    let end : place + 512 + (room - 512) ≡ place + room = omega (arith, low) in
    let Q : ℕ → Type 0 = λ e. HasCopy leb lnum place e sqnum new in
    subst Q end (laid one leb parts.front node parts.back lnum place (room - 512) sqnum new is_place.items parts.split parts.at (mod_through place room 8 is_place.multiple even) (omega (arith, high)) (omega (arith, low, even)) parts.blank
    (stand_alike a leb place 0 is_place.items parts.same parts.long is_place.is_text.stand) is_node)

-- nothing was mended where nothing was written yet
pub unmended_before : (leb node : List ℕ) (room place : ℕ) → IsPlace leb room place → IsUnmended node place leb
unmended_before leb node room place is_place =
    let P : Found → Type 0 = λ found. found.kind ≡ types.Master → (found.offs ≡ place) × (take found.len (drop place leb) ≡ node) in
    record { items = []; end = place; tail = Clean; is_text = record { stand = refl; ends = is_place.is_text.ends }; masters = All-nil P }

-- nor where the whole copy was
pub unmended_after : (leb node : List ℕ) (room place sqnum : ℕ) (new : Master) → IsRoom room → IsNodeOf node sqnum new → IsPlace leb room place → IsUnmended node place (put place (copy_of room node) leb)
unmended_after leb node room place sqnum new is_room is_node is_place =
    let low = is_room.low in
    let high = is_room.high in
    let even = is_room.even in
    let after : List ℕ = put place (copy_of room node) leb in
    let parts = parts_of leb after node room place is_room refl is_place is_node.long in
    laid_unmended after node place (place + 512 + (room - 512))
    (laid_there after parts.front node parts.back place (room - 512) sqnum new parts.split parts.at (mod_through place room 8 is_place.multiple even) (omega (arith, high)) (omega (arith, low, even)) parts.blank is_node)

-- what stands in the LEB after the copy
pub copied : OneNode → (old new : VolumeState) (node : List ℕ) (lnum room sqnum : ℕ) (m : Master) → IsRoom room → IsNodeOf node sqnum m → IsCopied old new lnum room (copy_of room node)
    → (place : ℕ) × HasCopy (new.holds lnum) lnum place (place + room) sqnum m × (new.written lnum ≡ place + room)
copied one old new node lnum room sqnum m is_room is_node (inl (place, is_place, w)) =
    let size = copy_length room node is_room.low is_node.long in
    (place, appended one (old.holds lnum) (new.holds lnum) node lnum room place sqnum m is_room w.holds is_place is_node, w.written ∙ ap (λ (n : ℕ). place + n) size)
copied one old new node lnum room sqnum m is_room is_node (inr (none, w)) =
    let size = copy_length room node is_room.low is_node.long in
    let written = w.written in
    let end : room ≡ 0 + room = omega arith in
    let P : ℕ → Type 0 = λ e. HasCopy (new.holds lnum) lnum 0 e sqnum m in
    (0, subst P end (replaced one (new.holds lnum) node old.leb_size lnum room sqnum m is_room w.holds is_node), omega (arith, written, size))

-- what a cut leaves of a LEB while a copy is written
pub left_of : OneText → OneNode → (old : VolumeState) (node left : List ℕ) (lnum room sqnum : ℕ) (new : Master) (o : Option PlacedMaster) → IsRoom room → IsNodeOf node sqnum new
    → Only (old.holds lnum) (old.left_now lnum) → ((c : List ℕ) → old.left_mapped lnum c → old.left_now lnum c) → IsReadOf lnum (old.holds lnum) o
    → CopyUnderWay old lnum room (copy_of room node) left → IsMeant (old.holds lnum) room node left
    → IsReadOf lnum left o ⊎ ((place : ℕ) × IsReadOf lnum left (Some (standing_at lnum place sqnum new)))
left_of one one_node old node left lnum room sqnum new o is_room is_node only sub h (inl (inl now)) meant =
    let P : List ℕ → Type 0 = λ leb. IsReadOf lnum leb o in
    inl (subst P (sym (only left now)) h)
left_of one one_node old node left lnum room sqnum new o is_room is_node only sub h (inl (inr (none, is))) meant =
    inr (0, (replaced one_node left node old.leb_size lnum room sqnum new is_room is is_node).read)
left_of one one_node old node left lnum room sqnum new o is_room is_node only sub h (inr w) meant =
    let is : w.before ≡ old.holds lnum = only w.before (sub w.before w.mapped) in
    let front : take w.place left ≡ take w.place (old.holds lnum) = w.torn.front ∙ ap (take w.place) is in
    let len : length left ≡ length (old.holds lnum) = w.torn.len ∙ ap (λ (bytes : List ℕ). length bytes) is in
    elim (read_behind one one_node (old.holds lnum) left node lnum room w.place sqnum new o w.bytes is_node w.is_place (sym front) (sym len) (meant w.place w.is_place) h) [
      | inl kept ↦ inl kept
      | inr fresh ↦ inr (w.place, fresh)
    ]
