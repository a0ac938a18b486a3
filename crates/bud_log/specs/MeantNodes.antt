-- The premise on checksums, of nodes of the log: what a cut left of the LEB then has from their place on the first of these nodes alone, each whole.
use Rattle.std.proofs.Common.{◌≡◌, ◌⊎◌, ℕ, ◌+◌, ◌-◌, ◌%◌, ◌^◌, ◌<◌, ◌≤◌, true, List, [], ◌∷◌, ◌++◌, length, take, drop, refl, ap, sym, ◌∙◌, subst, inl, inr, arith, append_assoc, length-append, length-drop}
use Rattle.std.specs.Prelude.{All}
use Rattle.std.proofs.lemmas.List.{drop-drop, take_at, drop_at, length-take-le}
use Rattle.std.proofs.lemmas.List.Elements.{All-head, All-tail}
use Rattle.ubifs_base.specs.Gap.{gap_of}
use Rattle.ubi_volume.specs.Volume.{put}
use Rattle.media_sys.specs.SystemNode.{SystemNode, node_type, written, IsSystemNode}
use Rattle.leb_scan.specs.Gaps.{IsPadding, gap_items, gap_length, gap_stands, gap_part_alone}
use Rattle.leb_scan.specs.Meant.{AreUntorn, IsMeant as AreMeant}
use Rattle.leb_scan.specs.MeantLaws.{first_items}
use Rattle.leb_scan.specs.Text.{system, IsNodeAt, behind, Stand, is_blank, IsText, tail_at, nodes_of}
use Rattle.leb_scan.specs.TextLaws.{blank_later, same_parts}
use Rattle.leb_scan.specs.declared.found.Found.{Found}
use Rattle.leb_scan.specs.declared.item.Item.{Item}
use Rattle.leb_scan.specs.declared.item.Item.TheVariants.{Node}
use Rattle.leb_scan.specs.declared.tail.Tail.TheVariants.{Clean}
use Rattle.bud_log.specs.Writing.{IsNodeSpelled, AreSpelled, laid, AreNodes, ArePart, IsLogMeant}

-- a node of this number at this place
abbrev pub node_at : ℕ → ℕ → SystemNode → Found
node_at place number node = record { offs = place; len = length (written number 0 node); kind = node_type node; group = 0; sqnum = number }

-- the items of nodes with the numbers behind this one, laid from a place on, and of a gap behind them
abbrev pub laid_items : ℕ → ℕ → List SystemNode → ℕ → List Item
laid_items place number [] gap = gap_items place gap
laid_items place number (node ∷ nodes) gap = Node (node_at place (number + 1) node) ∷ laid_items (place + length (written (number + 1) 0 node)) (number + 1) nodes gap

-- where a node's bytes stand in front of others
pub record IsFront (leb : List ℕ) (place number : ℕ) (node : SystemNode) (rest : List ℕ) : Type 0 where
  pub front : take (length (written number 0 node)) (drop place leb) ≡ written number 0 node
  pub next : drop (place + length (written number 0 node)) leb ≡ rest
  pub there : IsNodeAt leb place (node_at place number node)
  pub after : place + length (written number 0 node) ≡ behind leb place (Node (node_at place number node))
  pub inside : place + length (written number 0 node) ≤ length leb
  pub even : (place + length (written number 0 node)) % 8 ≡ 0

pub node_front : (leb : List ℕ) (place number : ℕ) (node : SystemNode) (rest : List ℕ) → IsNodeSpelled number node → drop place leb ≡ written number 0 node ++ rest → place ≤ length leb → place % 8 ≡ 0 → IsFront leb place number node rest
node_front leb place number node rest its here room even =
    let w : List ℕ = written number 0 node in
    let n : ℕ = length w in
    let even_n = its.even in
    let front : take n (drop place leb) ≡ w = ap (take n) here ∙ take_at w rest n refl in
    let a : length (drop place leb) ≡ n + length rest = ap length here ∙ length-append w rest in
    let size : length (drop place leb) ≡ length leb - place = length-drop place leb in
    let inside : place + n ≤ length leb = omega (arith, a, size, room) in
    let P : List ℕ → Type 0 = λ b. IsSystemNode b number 0 node in
    record {
      front = front;
      next = sym (drop-drop n place leb) ∙ ap (drop n) here ∙ drop_at w rest n refl;
      there = record { node = system node; stands = record { here = refl; room = inside; kind = refl; is = subst P (sym front) its.is }; other = its.other };
      after = omega (arith, even, even_n, inside);
      inside = inside;
      even = omega (arith, even, even_n);
    }

-- where nodes and a gap were laid, these items stand
pub laid_stand : (leb : List ℕ) (place number : ℕ) (nodes : List SystemNode) (gap : ℕ) (back : List ℕ) → AreSpelled number nodes → drop place leb ≡ laid number nodes ++ (gap_of gap ++ back) → place ≤ length leb → place % 8 ≡ 0 → gap < 2 ^ 32
    → gap % 8 ≡ 0 → Stand leb place (laid_items place number nodes gap) (place + length (laid number nodes) + gap)
laid_stand leb place number [] gap back spelled h room even fits even_gap =
    let end : place + gap ≡ place + 0 + gap = omega arith in
    let P : ℕ → Type 0 = λ e. Stand leb place (gap_items place gap) e in
    subst P end (gap_stands gap leb place back fits even_gap h)
laid_stand leb place number (node ∷ nodes) gap back spelled h room even fits even_gap =
    let w : List ℕ = written (number + 1) 0 node in
    let rest : List ℕ = laid (number + 1) nodes ++ (gap_of gap ++ back) in
    let at = node_front leb place (number + 1) node rest spelled.0 (h ∙ append_assoc w (laid (number + 1) nodes) (gap_of gap ++ back)) room even in
    let more = laid_stand leb (place + length w) (number + 1) nodes gap back spelled.1 at.next at.inside at.even fits even_gap in
    let total : length (w ++ laid (number + 1) nodes) ≡ length w + length (laid (number + 1) nodes) = length-append w (laid (number + 1) nodes) in
    let end : place + length w + length (laid (number + 1) nodes) + gap ≡ place + length (w ++ laid (number + 1) nodes) + gap = omega (arith, total) in
    let P : ℕ → Type 0 = λ e. Stand leb (place + length w) (laid_items (place + length w) (number + 1) nodes gap) e in
    let Q : ℕ → Type 0 = λ p. Stand leb p (laid_items (place + length w) (number + 1) nodes gap) (place + length (w ++ laid (number + 1) nodes) + gap) in
    (at.there, subst Q at.after (subst P end more))

padding_part : (left : List ℕ) (place number : ℕ) (found : List Found) → All IsPadding found → ArePart left place number [] found
padding_part left place number [] paddings = tt
padding_part left place number (found ∷ others) paddings = (All-head IsPadding found others paddings, padding_part left place number others (All-tail IsPadding found others paddings))

-- a first part of these items, each untorn, has the first of these nodes
first_part : (meant left : List ℕ) (place number : ℕ) (nodes : List SystemNode) (gap : ℕ) (back : List ℕ) (first rest : List Item) → AreSpelled number nodes → drop place meant ≡ laid number nodes ++ (gap_of gap ++ back) → place ≤ length meant
    → place % 8 ≡ 0 → laid_items place number nodes gap ≡ first ++ rest → AreUntorn meant place first left → ArePart left place number nodes (nodes_of first)
first_part meant left place number [] gap back first rest spelled h room even split whole = padding_part left place number (nodes_of first) (gap_part_alone place gap first rest split)
first_part meant left place number (node ∷ nodes) gap back [] rest spelled h room even split whole = tt
first_part meant left place number (node ∷ nodes) gap back (one ∷ first) rest spelled h room even split whole =
    let w : List ℕ = written (number + 1) 0 node in
    let at = node_front meant place (number + 1) node (laid (number + 1) nodes ++ (gap_of gap ++ back)) spelled.0 (h ∙ append_assoc w (laid (number + 1) nodes) (gap_of gap ++ back)) room even in
    let item : Item = Node (node_at place (number + 1) node) in
    let its = same_parts item one (laid_items (place + length w) (number + 1) nodes gap) (first ++ rest) split in
    let P : Item → Type 0 = λ i. AreUntorn meant place (i ∷ first) left in
    let Q : ℕ → Type 0 = λ p. AreUntorn meant p first left in
    let R : Item → Type 0 = λ i. ArePart left place number (node ∷ nodes) (nodes_of (i ∷ first)) in
    let here : AreUntorn meant place (item ∷ first) left = subst P (sym its.0) whole in
    let more = first_part meant left (place + length w) (number + 1) nodes gap back first rest spelled.1 at.next at.inside at.even its.1 (subst Q (sym at.after) here.1) in
    subst R its.0 (record { offs = refl; sqnum = refl; kind = refl; bytes = here.0 ∙ at.front }, more)

shown_meant : (left : List ℕ) (place end number : ℕ) (nodes : List SystemNode) (first rest : List Item) (shown : ℕ) → ArePart left place number nodes (nodes_of first) → is_blank (drop end left) ≡ true → Stand left place first shown
    → ((rest ≡ []) × (shown ≡ end)) ⊎ IsText left place first shown (tail_at left shown) → IsLogMeant number place nodes left
shown_meant left place end number nodes first rest shown part blank stand (inl (none, all)) =
    let P : ℕ → Type 0 = λ p. Stand left place first p in
    record { items = first; end = end; tail = Clean; is_text = record { stand = subst P all stand; ends = blank }; part = part }
shown_meant left place end number nodes first rest shown part blank stand (inr text) = record { items = first; end = shown; tail = tail_at left shown; is_text = text; part = part }

-- Where nodes go behind a clean text, and what a cut left differs from what was there in their bytes alone: the premise on checksums, of the items of these nodes, gives the one of this crate.
pub meant_nodes : (before left bytes : List ℕ) (place number : ℕ) (nodes : List SystemNode) (h : AreNodes bytes number nodes) → place + length bytes ≤ length before → place % 8 ≡ 0 → is_blank (drop place before) ≡ true
    → length left ≡ length before → drop (place + length bytes) left ≡ drop (place + length bytes) before → AreMeant (put place bytes before) place (laid_items place number nodes h.gap) left → IsLogMeant number place nodes left
meant_nodes before left bytes place number nodes h room even clean long outside meant =
    let whole : List ℕ = put place bytes before in
    let front : List ℕ = take place before in
    let back : List ℕ = drop (place + length bytes) before in
    let gap : List ℕ = gap_of h.gap in
    let at : length front ≡ place = length-take-le place before (omega (arith, room)) in
    let rest : length back ≡ length before - (place + length bytes) = length-drop (place + length bytes) before in
    let total : length whole ≡ length (front ++ bytes) + length back = length-append (front ++ bytes) back in
    let inner : length (front ++ bytes) ≡ length front + length bytes = length-append front bytes in
    let same : length whole ≡ length before = omega (arith, total, inner, rest, at, room) in
    let size : length bytes ≡ length (laid number nodes) + h.gap = ap length h.are ∙ length-append (laid number nodes) gap ∙ ap (λ (n : ℕ). length (laid number nodes) + n) (gap_length h.gap) in
    let here : drop place whole ≡ laid number nodes ++ (gap ++ back) = ap (drop place) (append_assoc front bytes back) ∙ drop_at front (bytes ++ back) place at ∙ ap (λ (b : List ℕ). b ++ back) h.are ∙ append_assoc (laid number nodes) gap back in
    let inside : place ≤ length whole = omega (arith, same, room) in
    let end : place + length (laid number nodes) + h.gap ≡ place + length bytes = omega (arith, size) in
    let P : ℕ → Type 0 = λ e. Stand whole place (laid_items place number nodes h.gap) e in
    let stand = subst P end (laid_stand whole place number nodes h.gap back h.spelled here inside even h.fits h.even) in
    let shows = first_items whole left place (place + length bytes) 0 (laid_items place number nodes h.gap) (long ∙ sym same) refl stand meant in
    let blank : is_blank (drop (place + length bytes) left) ≡ true = ap is_blank outside ∙ blank_later before place (place + length bytes) clean (omega arith) in
    shown_meant left place (place + length bytes) number nodes shows.first shows.rest shows.place
    (first_part whole left place number nodes h.gap back shows.first shows.rest h.spelled here inside even shows.split shows.untorn) blank shows.stand shows.ends
