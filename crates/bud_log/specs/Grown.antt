-- A text that goes on behind its end, in a LEB that begins alike.
use Rattle.std.proofs.Common.{◌≡◌, inl, inr, ℕ, ◌+◌, ◌≤◌, List, [], ◌∷◌, ◌++◌, length, take, refl, ap, sym, ◌∙◌, subst, arith}
use Rattle.media_sys.specs.SystemNode.{IsRef}
use Rattle.media_sys.specs.declared.ref_node.RefNode.{RefNode}
use Rattle.leb_scan.specs.Fronts.{same_part, stand_alike, not_before, short_padding}
use Rattle.leb_scan.specs.Text.{Stand, behind, IsText, nodes_of}
use Rattle.leb_scan.specs.TextLaws.{Stand-then, nodes_of-append}
use Rattle.leb_scan.specs.declared.found.Found.{Found}
use Rattle.leb_scan.specs.declared.item.Item.{Item}
use Rattle.leb_scan.specs.declared.item.Item.TheVariants.{Node, Padding, Word}
use Rattle.leb_scan.specs.declared.tail.Tail.{Tail}
use Rattle.bud_log.specs.LogText.{LogText, Refer, IsLogTextOf}
use Rattle.bud_log.specs.declared.log_end.LogEnd.{LogEnd}
use Rattle.bud_log.specs.References.{refer_then}

refer_node : (a b : List ℕ) (end : ℕ) (found : Found) (nodes : List Found) (references : List RefNode) → take end a ≡ take end b → found.offs + found.len ≤ end → ((r : List RefNode) → Refer a nodes r → Refer b nodes r) → Refer a (found ∷ nodes) references
    → Refer b (found ∷ nodes) references
refer_node a b end found nodes references same fits more (inl (other, h)) = inl (other, more references h)
refer_node a b end found nodes references same fits more (inr (kind, node, rest, is, e, h)) =
    let P : List ℕ → Type 0 = λ bytes. IsRef bytes found.sqnum found.group node in
    inr (kind, node, rest, subst P (same_part a b end found.offs found.len same fits) is, e, more rest h)

-- the same references stand there
pub refer_alike : (a b : List ℕ) (end place : ℕ) (items : List Item) (references : List RefNode) → take end a ≡ take end b → Stand a place items end → Refer a (nodes_of items) references → Refer b (nodes_of items) references
refer_alike a b end place [] references same s h = h
refer_alike a b end place (Word ∷ items) references same s h = refer_alike a b end (behind a place Word) items references same s.1 h
refer_alike a b end place (Node found ∷ items) references same s h =
    let room = s.0.stands.room in
    let here = s.0.stands.here in
    let later = not_before a (behind a place (Node found)) end items s.1 in
    refer_node a b end found (nodes_of items) references same (omega (arith, room, here, later)) (λ r k. refer_alike a b end (behind a place (Node found)) items r same s.1 k) h
refer_alike a b end place (Padding found pad_len ∷ items) references same s h =
    let len = short_padding a place found pad_len s.0 in
    let here = s.0.stands.here in
    let later = not_before a (behind a place (Padding found pad_len)) end items s.1 in
    refer_node a b end found (nodes_of items) references same (omega (arith, len, here, later)) (λ r k. refer_alike a b end (behind a place (Padding found pad_len)) items r same s.1 k) h

-- a text with these nodes and references behind it, which ends here
abbrev pub grown_text : LogText → List Found → List RefNode → LogEnd → LogText
grown_text text nodes references ends = record { nodes = text.nodes ++ nodes; references = text.references ++ references; ends = ends }

pub grown : (a b : List ℕ) (lnum end : ℕ) (tail : Tail) (text : LogText) (items : List Item) (more : List RefNode) → IsLogTextOf a lnum text → take text.ends.offs a ≡ take text.ends.offs b → length a ≡ length b
    → IsText b text.ends.offs items end tail → Refer b (nodes_of items) more → IsLogTextOf b lnum (grown_text text (nodes_of items) more (record { lnum = lnum; offs = end; tail = tail }))
grown a b lnum end tail text items more h same long is refer =
    let place = text.ends.offs in
    let front = stand_alike a b place 0 h.items same long h.is_text.stand in
    let P : List Found → Type 0 = λ nodes. Refer a nodes text.references in
    let Q : List Found → Type 0 = λ nodes. Refer b nodes text.references in
    let kept : Refer b text.nodes text.references = subst Q (sym h.nodes) (refer_alike a b place 0 h.items text.references same h.is_text.stand (subst P h.nodes h.refer)) in
    record {
      items = h.items ++ items;
      is_text = record { stand = Stand-then b 0 place end h.items items front is.stand; ends = is.ends };
      here = refl;
      nodes = ap (λ (n : List Found). n ++ nodes_of items) h.nodes ∙ sym (nodes_of-append h.items items);
      refer = refer_then b text.nodes (nodes_of items) text.references more kept refer;
    }
