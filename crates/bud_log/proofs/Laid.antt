-- Nodes that were laid one behind another, and a gap behind them.
use Rattle.std.proofs.Common.{◌≡◌, inl, inr, ℕ, ◌+◌, ◌%◌, ◌^◌, ◌<◌, ◌≤◌, true, List, [], ◌∷◌, ◌++◌, length, take, drop, Some, refl, ap, sym, ◌∙◌, subst, arith, append_assoc, length-append}
use Rattle.std.specs.Prelude.{⊤, All}
use Rattle.std.proofs.lemmas.List.{drop-drop, drop_at}
use Rattle.std.proofs.lemmas.List.Elements.{All-head, All-tail}
use Rattle.ubifs_base.specs.Gap.{gap_of}
use Rattle.ubifs_base.specs.declared.node_type.NodeType.TheVariants as types
use Rattle.media_sys.specs.SystemNode.{SystemNode, node_type, written, IsSystemNode}
use Rattle.media_sys.specs.declared.ref_node.RefNode.{RefNode}
use Rattle.leb_scan.specs.Gaps.{IsPadding, gap_items, gap_length, gap_padding_alone}
use Rattle.leb_scan.specs.Text.{is_blank, IsText, nodes_of}
use Rattle.leb_scan.specs.TypeLaws.{cases_type}
use Rattle.leb_scan.specs.declared.found.Found.{Found}
use Rattle.leb_scan.specs.declared.item.Item.{Item}
use Rattle.leb_scan.specs.declared.tail.Tail.TheVariants.{Clean}
use Rattle.bud_log.specs.LogText.{Refer, first_found_node}
use Rattle.bud_log.specs.MeantNodes.{node_at, node_front, laid_items, laid_stand}
use Rattle.bud_log.specs.Writing.{reference_in, references_in, AreSpelled, laid}
use Rattle.bud_log.proofs.Parts.{FirstIs, none_in, one_in}

-- the first of the nodes found, if any were laid, stands there
abbrev pub FirstStands : List ℕ → List SystemNode → List Found → Type 0
FirstStands leb [] found = ⊤
FirstStands leb (node ∷ nodes) found = (first : Found) × (first_found_node found ≡ Some first) × IsSystemNode (take first.len (drop first.offs leb)) first.sqnum first.group node

-- from a place on, a text has these nodes
pub record AreLaid (leb : List ℕ) (place end number : ℕ) (nodes : List SystemNode) : Type 0 where
  pub items : List Item
  pub is_text : IsText leb place items end Clean
  pub refer : Refer leb (nodes_of items) (references_in nodes)
  pub first : FirstIs place number nodes (nodes_of items)
  pub stands : FirstStands leb nodes (nodes_of items)

refer_more : (leb : List ℕ) (found : Found) (node : SystemNode) (nodes : List Found) (references : List RefNode) → found.kind ≡ node_type node → IsSystemNode (take found.len (drop found.offs leb)) found.sqnum found.group node → Refer leb nodes references
    → Refer leb (found ∷ nodes) (reference_in node ++ references)
refer_more leb found node nodes references kind is h = elim (cases_type (node_type node) types.Reference) [
  | inl eight ↦
      let that = one_in node eight in
      let P : SystemNode → Type 0 = λ n. IsSystemNode (take found.len (drop found.offs leb)) found.sqnum found.group n in
      let Q : SystemNode → Type 0 = λ n. Refer leb (found ∷ nodes) (reference_in n ++ references) in
      subst Q (sym that.1) (inr (kind ∙ eight, that.0, references, subst P that.1 is, refl, h))
  | inr other ↦
      let S : List RefNode → Type 0 = λ r. Refer leb (found ∷ nodes) (r ++ references) in
      subst S (sym (none_in node other)) (inl ((λ e. other (sym kind ∙ e)), h))
]

padding_refer : (leb : List ℕ) (found : List Found) → All IsPadding found → Refer leb found []
padding_refer leb [] paddings = refl
padding_refer leb (found ∷ others) paddings =
    let padding = All-head IsPadding found others paddings in
    inl ((λ eight. absurd cc), padding_refer leb others (All-tail IsPadding found others paddings))

laid_refer : (leb : List ℕ) (place number : ℕ) (nodes : List SystemNode) (g : ℕ) (back : List ℕ) → AreSpelled number nodes → drop place leb ≡ laid number nodes ++ (gap_of g ++ back) → place ≤ length leb → place % 8 ≡ 0
    → Refer leb (nodes_of (laid_items place number nodes g)) (references_in nodes)
laid_refer leb place number [] g back spelled h room even = padding_refer leb (nodes_of (gap_items place g)) (gap_padding_alone place g)
laid_refer leb place number (node ∷ nodes) g back spelled h room even =
    let w : List ℕ = written (number + 1) 0 node in
    let at = node_front leb place (number + 1) node (laid (number + 1) nodes ++ (gap_of g ++ back)) spelled.0 (h ∙ append_assoc w (laid (number + 1) nodes) (gap_of g ++ back)) room even in
    let P : List ℕ → Type 0 = λ b. IsSystemNode b (number + 1) 0 node in
    refer_more leb (node_at place (number + 1) node) node (nodes_of (laid_items (place + length w) (number + 1) nodes g)) (references_in nodes) refl (subst P (sym at.front) spelled.0.is)
    (laid_refer leb (place + length w) (number + 1) nodes g back spelled.1 at.next at.inside at.even)

laid_first : (place number : ℕ) (nodes : List SystemNode) (g : ℕ) → FirstIs place number nodes (nodes_of (laid_items place number nodes g))
laid_first place number [] g = tt
laid_first place number (node ∷ nodes) g = (node_at place (number + 1) node, refl, refl, refl, refl)

laid_stands : (leb : List ℕ) (place number : ℕ) (nodes : List SystemNode) (g : ℕ) (back : List ℕ) → AreSpelled number nodes → drop place leb ≡ laid number nodes ++ (gap_of g ++ back) → place ≤ length leb → place % 8 ≡ 0
    → FirstStands leb nodes (nodes_of (laid_items place number nodes g))
laid_stands leb place number [] g back spelled h room even = tt
laid_stands leb place number (node ∷ nodes) g back spelled h room even =
    let w : List ℕ = written (number + 1) 0 node in
    let at = node_front leb place (number + 1) node (laid (number + 1) nodes ++ (gap_of g ++ back)) spelled.0 (h ∙ append_assoc w (laid (number + 1) nodes) (gap_of g ++ back)) room even in
    let P : List ℕ → Type 0 = λ b. IsSystemNode b (number + 1) 0 node in
    (node_at place (number + 1) node, refl, subst P (sym at.front) spelled.0.is)

pub laid_there : (leb : List ℕ) (place number : ℕ) (nodes : List SystemNode) (g : ℕ) (back : List ℕ) → AreSpelled number nodes → drop place leb ≡ laid number nodes ++ (gap_of g ++ back) → place ≤ length leb → place % 8 ≡ 0 → g < 2 ^ 32 → g % 8 ≡ 0
    → is_blank back ≡ true → AreLaid leb place (place + length (laid number nodes) + g) number nodes
laid_there leb place number nodes g back spelled h room even fits even_gap blank =
    let front = laid number nodes in
    let n : ℕ = length front + g in
    let all : length (front ++ gap_of g) ≡ n = length-append front (gap_of g) ∙ ap (λ (k : ℕ). length front + k) (gap_length g) in
    let e : place + length front + g ≡ place + n = omega arith in
    let behind : drop (place + length front + g) leb ≡ back = ap (λ (k : ℕ). drop k leb) e ∙ sym (drop-drop n place leb) ∙ ap (drop n) (h ∙ sym (append_assoc front (gap_of g) back)) ∙ drop_at (front ++ gap_of g) back n all in
    let R : List ℕ → Type 0 = λ b. is_blank b ≡ true in
    record {
      items = laid_items place number nodes g;
      is_text = record { stand = laid_stand leb place number nodes g back spelled h room even fits even_gap; ends = subst R (sym behind) blank };
      refer = laid_refer leb place number nodes g back spelled h room even;
      first = laid_first place number nodes g;
      stands = laid_stands leb place number nodes g back spelled h room even;
    }
