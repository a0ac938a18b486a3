-- The premise on checksums, of a copy of a master: what a cut left of the LEB then has no master behind the copy's place but that one, whole.
use Rattle.std.proofs.Common.{◌≡◌, ◌⊎◌, ℕ, ◌+◌, ◌-◌, ◌*◌, ◌/◌, ◌%◌, ◌^◌, ◌<◌, ◌≤◌, min, true, List, [], ◌∷◌, ◌++◌, length, take, drop, refl, ap, sym, ◌∙◌, subst, inl, inr, arith, append_assoc, length-append, length-drop}
use Rattle.std.specs.Prelude.{All}
use Rattle.std.proofs.lemmas.Nat.Gcd.{dvd_of_mod-eq-zero, mod-eq-zero_of_dvd, dvd_trans}
use Rattle.std.proofs.lemmas.List.{drop-drop, take_at, drop_at, length-take-le}
use Rattle.std.proofs.lemmas.List.Elements.{All-nil, All-cons, All-weaker}
use Rattle.ubifs_base.specs.Gap.{gap_of}
use Rattle.ubifs_base.specs.declared.node_type.NodeType.TheVariants as types
use Rattle.ubi_volume.specs.Volume.{put}
use Rattle.media_sys.specs.SystemNode.{IsMaster, master}
use Rattle.media_sys.specs.declared.master.Master.{Master}
use Rattle.leb_scan.specs.Gaps.{IsPadding, gap_items, gap_length, gap_stands, gap_part_alone}
use Rattle.leb_scan.specs.Meant.{AreUntorn, IsMeant as AreMeant}
use Rattle.leb_scan.specs.MeantLaws.{first_items}
use Rattle.leb_scan.specs.Text.{system, IsNodeAt, Stand, is_blank, IsText, tail_at, nodes_of}
use Rattle.leb_scan.specs.TextLaws.{blank_later, same_parts}
use Rattle.leb_scan.specs.declared.found.Found.{Found}
use Rattle.leb_scan.specs.declared.item.Item.{Item}
use Rattle.leb_scan.specs.declared.item.Item.TheVariants.{Node}
use Rattle.leb_scan.specs.declared.tail.Tail.TheVariants.{Clean}
use Rattle.small_areas.specs.Copies.{copy_of, IsRoom, IsNodeOf, IsPlace, IsUnmended}

-- the node of a master at this place
abbrev pub master_at : ℕ → ℕ → Master → Found
master_at place sqnum new = record { offs = place; len = 512; kind = types.Master; group = 0; sqnum = sqnum }

-- the items of a copy at this place: the node, and a gap of so many bytes
abbrev pub copy_items : ℕ → ℕ → ℕ → Master → List Item
copy_items gap place sqnum new = Node (master_at place sqnum new) ∷ gap_items (place + 512) gap

-- where a copy and other bytes stand
pub record IsCopyThere (leb node back : List ℕ) (place gap : ℕ) (items : List Item) : Type 0 where
  pub node_there : take 512 (drop place leb) ≡ node
  pub back_there : drop (place + 512 + gap) leb ≡ back
  pub stand : Stand leb place items (place + 512 + gap)

pub copy_stands : (leb front node back : List ℕ) (place gap sqnum : ℕ) (new : Master) → leb ≡ front ++ (node ++ gap_of gap) ++ back → length front ≡ place → place % 8 ≡ 0 → gap < 2 ^ 32 → gap % 8 ≡ 0 → IsNodeOf node sqnum new
    → IsCopyThere leb node back place gap (copy_items gap place sqnum new)
copy_stands leb front node back place gap sqnum new h at even fits even_gap is_node =
    let long = is_node.long in
    let filler : List ℕ = gap_of gap in
    let here : drop place leb ≡ node ++ (filler ++ back) = ap (drop place) (h ∙ append_assoc front (node ++ filler) back) ∙ drop_at front ((node ++ filler) ++ back) place at ∙ append_assoc node filler back in
    let next : drop (place + 512) leb ≡ filler ++ back = sym (drop-drop 512 place leb) ∙ ap (drop 512) here ∙ drop_at node (filler ++ back) 512 long in
    let node_there : take 512 (drop place leb) ≡ node = ap (take 512) here ∙ take_at node (filler ++ back) 512 long in
    let a : length (drop place leb) ≡ length node + length (filler ++ back) = ap length here ∙ length-append node (filler ++ back) in
    let size : length (drop place leb) ≡ length leb - place = length-drop place leb in
    let whole : place + 512 ≤ length leb = omega (arith, a, size, long) in
    let P : List ℕ → Type 0 = λ bytes. IsMaster bytes sqnum 0 new in
    let there : IsNodeAt leb place (master_at place sqnum new) = record { node = system (master new); stands = record { here = refl; room = whole; kind = refl; is = subst P (sym node_there) is_node.is }; other = λ e. absurd cc } in
    let after : place + 512 ≡ min ((place + 512 + 7) / 8 * 8) (length leb) = omega (arith, even, whole) in
    let Q : ℕ → Type 0 = λ p. Stand leb p (gap_items (place + 512) gap) (place + 512 + gap) in
    record {
      node_there = node_there;
      back_there = sym (drop-drop gap (place + 512) leb) ∙ ap (drop gap) next ∙ drop_at filler back gap (gap_length gap);
      stand = (there, subst Q after (gap_stands gap leb (place + 512) back fits even_gap next));
    }

-- a node is no master, or it stands at the place and has these bytes
abbrev IsThat : List ℕ → ℕ → List ℕ → Found → Type 0
IsThat node place left found = found.kind ≡ types.Master → (found.offs ≡ place) × (take found.len (drop place left) ≡ node)

padding_alone : (node left : List ℕ) (place : ℕ) (nodes : List Found) → All IsPadding nodes → All (IsThat node place left) nodes
padding_alone node left place = All-weaker IsPadding (IsThat node place left) (λ found padding kind. absurd cc)

-- of a first part of the copy's items, each whole, that node alone is a master
copy_part : (meant node left : List ℕ) (place gap sqnum : ℕ) (new : Master) (first rest : List Item) → take 512 (drop place meant) ≡ node → copy_items gap place sqnum new ≡ first ++ rest → AreUntorn meant place first left
    → All (IsThat node place left) (nodes_of first)
copy_part meant node left place gap sqnum new [] rest there split untorn = All-nil (IsThat node place left)
copy_part meant node left place gap sqnum new (one ∷ first) rest there split untorn =
    let its = same_parts (Node (master_at place sqnum new)) one (gap_items (place + 512) gap) (first ++ rest) split in
    let P : Item → Type 0 = λ item. All (IsThat node place left) (nodes_of (item ∷ first)) in
    let Q : Item → Type 0 = λ item. AreUntorn meant place (item ∷ first) left in
    let own : AreUntorn meant place (Node (master_at place sqnum new) ∷ first) left = subst Q (sym its.0) untorn in
    let others = padding_alone node left place (nodes_of first) (gap_part_alone (place + 512) gap first rest its.1) in
    subst P its.0 (All-cons (IsThat node place left) (master_at place sqnum new) (nodes_of first) (λ kind. (refl, own.0 ∙ there)) others)

shown_unmended : (left node : List ℕ) (place end : ℕ) (first rest : List Item) (shown : ℕ) → All (IsThat node place left) (nodes_of first) → is_blank (drop end left) ≡ true → Stand left place first shown
    → ((rest ≡ []) × (shown ≡ end)) ⊎ IsText left place first shown (tail_at left shown) → IsUnmended node place left
shown_unmended left node place end first rest shown masters blank stand (inl (none, all)) =
    let P : ℕ → Type 0 = λ p. Stand left place first p in
    record { items = first; end = end; tail = Clean; is_text = record { stand = subst P all stand; ends = blank }; masters = masters }
shown_unmended left node place end first rest shown masters blank stand (inr text) = record { items = first; end = shown; tail = tail_at left shown; is_text = text; masters = masters }

-- Where a copy goes behind a clean text, and what a cut left differs from what was there in the copy's bytes alone: the premise on checksums, of the copy's items, gives the one of this crate.
pub meant_unmended : (before left node : List ℕ) (room place sqnum : ℕ) (new : Master) → IsRoom room → IsNodeOf node sqnum new → IsPlace before room place → length left ≡ length before → drop (place + room) left ≡ drop (place + room) before
    → AreMeant (put place (copy_of room node) before) place (copy_items (room - 512) place sqnum new) left → IsUnmended node place left
meant_unmended before left node room place sqnum new is_room is_node is_place long outside meant =
    let low = is_room.low in
    let high = is_room.high in
    let even = is_room.even in
    let fits = is_place.fits in
    let wide = is_node.long in
    let copy : List ℕ = copy_of room node in
    let front : List ℕ = take place before in
    let back : List ℕ = drop (place + length copy) before in
    let whole : List ℕ = put place copy before in
    let at : length front ≡ place = length-take-le place before (omega (arith, fits)) in
    let gap = gap_length (room - 512) in
    let size : length copy ≡ length node + length (gap_of (room - 512)) = length-append node (gap_of (room - 512)) in
    let rest : length back ≡ length before - (place + length copy) = length-drop (place + length copy) before in
    let total : length whole ≡ length (front ++ copy) + length back = length-append (front ++ copy) back in
    let inner : length (front ++ copy) ≡ length front + length copy = length-append front copy in
    let same : length whole ≡ length before = omega (arith, total, inner, at, size, wide, gap, low, rest, fits) in
    let eight : place % 8 ≡ 0 = mod-eq-zero_of_dvd 8 (dvd_trans 8 (dvd_of_mod-eq-zero 8 even) (dvd_of_mod-eq-zero room is_place.multiple)) in
    let items : List Item = copy_items (room - 512) place sqnum new in
    let there = copy_stands whole front node back place (room - 512) sqnum new refl at eight (omega (arith, high)) (omega (arith, low, even)) is_node in
    let end : place + 512 + (room - 512) ≡ place + room = omega (arith, low) in
    let P : ℕ → Type 0 = λ e. Stand whole place items e in
    let shows = first_items whole left place (place + room) 0 items (long ∙ sym same) refl (subst P end there.stand) meant in
    let blank : is_blank (drop (place + room) left) ≡ true = ap is_blank outside ∙ blank_later before place (place + room) is_place.is_text.ends (omega arith) in
    shown_unmended left node place (place + room) shows.first shows.rest shows.place
    (copy_part whole node left place (room - 512) sqnum new shows.first shows.rest there.node_there shows.split shows.untorn) blank shows.stand shows.ends
