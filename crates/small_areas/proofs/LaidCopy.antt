-- A copy that stands in a LEB is its last master, and the text ends behind it.
use Rattle.std.proofs.Common.{◌≡◌, ℕ, ◌+◌, ◌%◌, ◌^◌, ◌<◌, true, List, [], ◌∷◌, ◌++◌, length, take, drop, Some, refl, ap, sym, ◌∙◌, subst}
use Rattle.std.proofs.lemmas.List.Elements.{All-cons, All-weaker}
use Rattle.std.specs.Prelude.{◌≢◌}
use Rattle.ubifs_base.specs.Gap.{gap_of}
use Rattle.media_sys.specs.SystemNode.{master, IsMaster}
use Rattle.media_sys.specs.declared.master.Master.{Master}
use Rattle.ubifs_base.specs.declared.node_type.NodeType.TheVariants as types
use Rattle.leb_scan.specs.Gaps.{IsPadding, gap_items, gap_padding_alone}
use Rattle.leb_scan.specs.Text.{is_blank, Stand, IsText, nodes_of}
use Rattle.leb_scan.specs.TextLaws.{Stand-then, nodes_of-append}
use Rattle.leb_scan.specs.declared.found.Found.{Found}
use Rattle.leb_scan.specs.declared.item.Item.{Item}
use Rattle.leb_scan.specs.declared.item.Item.TheVariants.{Node}
use Rattle.leb_scan.specs.declared.tail.Tail.TheVariants.{Clean}
use Rattle.small_areas.specs.Copies.{IsNodeOf, IsUnmended}
use Rattle.small_areas.specs.Later.{IsReadOf}
use Rattle.small_areas.specs.MeantCopies.{master_at, copy_stands}
use Rattle.small_areas.specs.Masters.{HasNone, IsLastOf, IsLastFound, IsLastMaster}
use Rattle.small_areas.specs.declared.placed_master.PlacedMaster.{PlacedMaster}
use Rattle.small_areas.specs.MasterLaws.{OneNode}
use Rattle.small_areas.proofs.LastMaster.{found_there, master_same}
use Rattle.small_areas.proofs.LastNode.{last_behind}

-- it stands here
abbrev pub standing_at : ℕ → ℕ → ℕ → Master → PlacedMaster
standing_at lnum place sqnum new = record { lnum = lnum; offs = place; sqnum = sqnum; master = new }

-- a last master with these bytes is that master
pub read_new : OneNode → (leb node : List ℕ) (lnum place sqnum : ℕ) (new : Master) (found : Found) → IsNodeOf node sqnum new → IsLastFound leb found → found.offs ≡ place → take found.len (drop place leb) ≡ node
    → IsReadOf lnum leb (Some (standing_at lnum place sqnum new))
read_new one leb node lnum place sqnum new found is_node h offs bytes =
    let there = (found_there leb found h).1 in
    let e : take found.len (drop found.offs leb) ≡ node = ap (λ (o : ℕ). take found.len (drop o leb)) offs ∙ bytes in
    let P : List ℕ → Type 0 = λ b. IsMaster b found.sqnum found.group there.0 in
    let Q : Master → Type 0 = λ m. IsMaster (take found.len (drop found.offs leb)) found.sqnum found.group m in
    let same = one node found.sqnum found.group sqnum 0 (master there.0) (master new) is_node.bytes (subst P e there.1) is_node.is in
    let last : IsLastMaster leb (standing_at lnum place sqnum new) =
    record { found = found; last = h; offs = sym offs; sqnum = sym same.0; is = subst Q (master_same there.0 new same.2) there.1 } in
    record { some = (last, refl); none = tt }

-- the text of a LEB ends behind this master
pub record HasCopy (leb : List ℕ) (lnum place end sqnum : ℕ) (new : Master) : Type 0 where
  pub items : List Item
  pub is_text : IsText leb 0 items end Clean
  pub read : IsReadOf lnum leb (Some (standing_at lnum place sqnum new))

-- from a place on a node stands, and behind it nothing but a gap
pub record IsLaid (leb node : List ℕ) (place end : ℕ) : Type 0 where
  pub found : Found
  pub others : List Item
  pub stand : Stand leb place (Node found ∷ others) end
  pub blank : is_blank (drop end leb) ≡ true
  pub kind : found.kind ≡ types.Master
  pub offs : found.offs ≡ place
  pub bytes : take found.len (drop place leb) ≡ node
  pub none : HasNone (nodes_of others)

pub laid_there : (leb front node back : List ℕ) (place g sqnum : ℕ) (new : Master) → leb ≡ front ++ (node ++ gap_of g) ++ back → length front ≡ place → place % 8 ≡ 0 → g < 2 ^ 32 → g % 8 ≡ 0 → is_blank back ≡ true → IsNodeOf node sqnum new
    → IsLaid leb node place (place + 512 + g)
laid_there leb front node back place g sqnum new h at even fits even_gap blank is_node =
    let there = copy_stands leb front node back place g sqnum new h at even fits even_gap is_node in
    let N : Found → Type 0 = λ found. found.kind ≢ types.Master in
    let R : List ℕ → Type 0 = λ bytes. is_blank bytes ≡ true in
    record {
      found = master_at place sqnum new;
      others = gap_items (place + 512) g;
      stand = there.stand;
      blank = subst R (sym there.back_there) blank;
      kind = refl;
      offs = refl;
      bytes = there.node_there;
      none = All-weaker IsPadding N (λ found padding kind. absurd cc) (nodes_of (gap_items (place + 512) g)) (gap_padding_alone (place + 512) g);
    }

-- so nothing was mended there
pub laid_unmended : (leb node : List ℕ) (place end : ℕ) → IsLaid leb node place end → IsUnmended node place leb
laid_unmended leb node place end h =
    let P : Found → Type 0 = λ found. found.kind ≡ types.Master → (found.offs ≡ place) × (take found.len (drop place leb) ≡ node) in
    let N : Found → Type 0 = λ found. found.kind ≢ types.Master in
    record {
      items = Node h.found ∷ h.others;
      end = end;
      tail = Clean;
      is_text = record { stand = h.stand; ends = h.blank };
      masters = All-cons P h.found (nodes_of h.others) (λ kind. (h.offs, h.bytes)) (All-weaker N P (λ found other kind. absurd (other kind)) (nodes_of h.others) h.none);
    }

-- a copy behind items, with nothing written behind it
pub laid : OneNode → (leb front node back : List ℕ) (lnum place g sqnum : ℕ) (new : Master) (items : List Item) → leb ≡ front ++ (node ++ gap_of g) ++ back → length front ≡ place → place % 8 ≡ 0 → g < 2 ^ 32 → g % 8 ≡ 0
    → is_blank back ≡ true → Stand leb 0 items place → IsNodeOf node sqnum new → HasCopy leb lnum place (place + 512 + g) sqnum new
laid one leb front node back lnum place g sqnum new items h at even fits even_gap blank stand is_node =
    let there = laid_there leb front node back place g sqnum new h at even fits even_gap blank is_node in
    let all : List Item = items ++ (Node there.found ∷ there.others) in
    let text : IsText leb 0 all (place + 512 + g) Clean = record { stand = Stand-then leb 0 place (place + 512 + g) items (Node there.found ∷ there.others) stand there.stand; ends = there.blank } in
    let one_last : IsLastOf (there.found ∷ nodes_of there.others) there.found = record { before = []; behind = nodes_of there.others; split = refl; kind = there.kind; none = there.none } in
    let S : List Found → Type 0 = λ nodes. IsLastOf nodes there.found in
    let last : IsLastOf (nodes_of all) there.found = subst S (sym (nodes_of-append items (Node there.found ∷ there.others))) (last_behind (nodes_of items) (there.found ∷ nodes_of there.others) there.found one_last) in
    let last_found : IsLastFound leb there.found = record { items = all; end = place + 512 + g; tail = Clean; is_text = text; last = last } in
    record { items = all; is_text = text; read = read_new one leb node lnum place sqnum new there.found is_node last_found there.offs there.bytes }
