-- The text of a LEB that holds one node alone.
use Rattle.std.proofs.Common.{◌≡◌, ℕ, ◌+◌, ◌-◌, ◌%◌, ◌^◌, ◌<◌, true, List, [], ◌∷◌, ◌++◌, length, take, drop, replicate, refl, ap, sym, ◌∙◌, subst, inl, inr, arith, append_assoc, length-append}
use Rattle.std.specs.Prelude.{◌≢◌, ◌⊎◌, All}
use Rattle.std.proofs.lemmas.List.{drop-drop, take_at, drop_at}
use Rattle.std.proofs.lemmas.List.Elements.{All-nil, All-cons, All-head, All-tail}
use Rattle.ubifs_base.specs.Gap.{gap_of}
use Rattle.ubifs_base.specs.declared.node_type.NodeType.TheVariants as types
use Rattle.ubi_volume.specs.Volume.{filled}
use Rattle.media_sys.specs.SystemNode.{SystemNode, IsSystemNode, node_type}
use Rattle.leb_scan.specs.Gaps.{IsPadding, gap_items, gap_length, gap_padding_alone, gap_stands}
use Rattle.leb_scan.specs.Text.{IsText, Stand, behind, is_blank, nodes_of, system}
use Rattle.leb_scan.specs.TextLaws.{blank_replicate}
use Rattle.leb_scan.specs.declared.found.Found.{Found}
use Rattle.leb_scan.specs.declared.item.Item.{Item}
use Rattle.leb_scan.specs.declared.item.Item.TheVariants.{Node}
use Rattle.leb_scan.specs.declared.tail.Tail.TheVariants.{Clean}
use Rattle.sound_image.specs.Laid.{BeginsAlone}
use Rattle.sound_image.specs.OrphanLists.{HasOrphanNodes}

-- what is found of a node at a LEB's start
abbrev pub found_first : List ℕ → ℕ → ℕ → SystemNode → Found
found_first bytes sqnum group node = record { offs = 0; len = length bytes; kind = node_type node; group = group; sqnum = sqnum }

abbrev pub alone_items : List ℕ → ℕ → ℕ → SystemNode → ℕ → List Item
alone_items bytes sqnum group node gap = Node (found_first bytes sqnum group node) ∷ gap_items (length bytes) gap

-- its bytes are the LEB's first
pub alone_bytes : (leb bytes : List ℕ) → BeginsAlone leb bytes → take (length bytes) leb ≡ bytes
alone_bytes leb bytes h =
    let back : List ℕ = replicate (h.size - length (bytes ++ gap_of h.gap)) 255 in
    ap (take (length bytes)) (h.is ∙ append_assoc bytes (gap_of h.gap) back) ∙ take_at bytes (gap_of h.gap ++ back) (length bytes) refl

pub alone_text : (leb bytes : List ℕ) (sqnum group : ℕ) (node : SystemNode) (h : BeginsAlone leb bytes) → IsSystemNode bytes sqnum group node → node_type node ≢ types.Padding
    → IsText leb 0 (alone_items bytes sqnum group node h.gap) (length bytes + h.gap) Clean
alone_text leb bytes sqnum group node h is other =
    let n : ℕ = length bytes in
    let back : List ℕ = replicate (h.size - length (bytes ++ gap_of h.gap)) 255 in
    let split : leb ≡ bytes ++ (gap_of h.gap ++ back) = h.is ∙ append_assoc bytes (gap_of h.gap) back in
    let rest : drop n leb ≡ gap_of h.gap ++ back = ap (drop n) split ∙ drop_at bytes (gap_of h.gap ++ back) n refl in
    let total : length leb ≡ n + length (gap_of h.gap ++ back) = ap length split ∙ length-append bytes (gap_of h.gap ++ back) in
    let words = h.words in
    let next : behind leb 0 (Node (found_first bytes sqnum group node)) ≡ n = omega (arith, words, total) in
    let P : List ℕ → Type 0 = λ b. IsSystemNode b sqnum group node in
    let Q : ℕ → Type 0 = λ k. Stand leb k (gap_items n h.gap) (n + h.gap) in
    let B : List ℕ → Type 0 = λ b. is_blank b ≡ true in
    let last : drop (n + h.gap) leb ≡ back = sym (drop-drop h.gap n leb) ∙ ap (drop h.gap) rest ∙ drop_at (gap_of h.gap) back h.gap (gap_length h.gap) in
    record {
      stand = (
        record {
          node = system node;
          stands = record { here = refl; room = omega (arith, total); kind = refl; is = subst P (sym (alone_bytes leb bytes h)) is };
          other = other;
        },
        subst Q (sym next) (gap_stands h.gap leb n back h.fits h.even rest),
      );
      ends = subst B (sym last) (blank_replicate (h.size - length (bytes ++ gap_of h.gap)));
    }

-- ---- orphan nodes
abbrev MayStand : Found → Type 0
MayStand found = (found.kind ≡ types.Orphans) ⊎ (found.kind ≡ types.Padding)

padding_may : (nodes : List Found) → All IsPadding nodes → All MayStand nodes
padding_may [] h = All-nil MayStand
padding_may (found ∷ nodes) h = All-cons MayStand found nodes (inr (All-head IsPadding found nodes h)) (padding_may nodes (All-tail IsPadding found nodes h))

pub alone_orphans : (leb bytes : List ℕ) (sqnum group : ℕ) (node : SystemNode) → BeginsAlone leb bytes → IsSystemNode bytes sqnum group node → node_type node ≡ types.Orphans → HasOrphanNodes leb
alone_orphans leb bytes sqnum group node h is kind = record {
  items = alone_items bytes sqnum group node h.gap;
  end = length bytes + h.gap;
  is_text = alone_text leb bytes sqnum group node h is (λ e. absurd cc);
  kinds = All-cons MayStand (found_first bytes sqnum group node) (nodes_of (gap_items (length bytes) h.gap)) (inl kind) (padding_may (nodes_of (gap_items (length bytes) h.gap)) (gap_padding_alone (length bytes) h.gap));
}

-- a LEB to which nothing is written
pub blank_orphans : (leb : List ℕ) → is_blank leb ≡ true → HasOrphanNodes leb
blank_orphans leb blank = record { items = []; end = 0; is_text = record { stand = refl; ends = blank }; kinds = All-nil MayStand }

-- one gap alone, as an empty list leaves it
pub gap_orphans : (leb : List ℕ) (size gap : ℕ) → gap < 2 ^ 32 → gap % 8 ≡ 0 → leb ≡ filled size (gap_of gap) → HasOrphanNodes leb
gap_orphans leb size gap fits even is =
    let back : List ℕ = replicate (size - length (gap_of gap)) 255 in
    let B : List ℕ → Type 0 = λ b. is_blank b ≡ true in
    let last : drop gap leb ≡ back = ap (drop gap) is ∙ drop_at (gap_of gap) back gap (gap_length gap) in
    let e : 0 + gap ≡ gap = omega arith in
    let Q : ℕ → Type 0 = λ end. Stand leb 0 (gap_items 0 gap) end in
    record {
      items = gap_items 0 gap;
      end = gap;
      is_text = record { stand = subst Q e (gap_stands gap leb 0 back fits even is); ends = subst B (sym last) (blank_replicate (size - length (gap_of gap))) };
      kinds = padding_may (nodes_of (gap_items 0 gap)) (gap_padding_alone 0 gap);
    }
