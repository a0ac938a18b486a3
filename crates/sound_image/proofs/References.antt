-- Buds name the places that references name, and no others.
use Rattle.std.proofs.Common.{◌≡◌, ℕ, ◌≤◌, nat_le, Bool, true, false, List, [], ◌∷◌, fold, refl, ap, sym, ◌∙◌, inl, inr, arith}
use Rattle.std.specs.Prelude.{◌==◌, ◌&&◌, ◌||◌, if◌then◌else◌, map, min}
use Rattle.std.specs.List.{list_any}
use Rattle.std.proofs.Math.Nat.{min-eq_left, min-eq_right}
use Rattle.std.proofs.lemmas.Bool.{cases_Bool, cases_lt, eqb-true, leb-false, leb-true}
use Rattle.media_sys.specs.declared.ref_node.RefNode.{RefNode}
use Rattle.bud_log.specs.Buds.{buds_of, named_also}
use Rattle.bud_log.specs.declared.head_at.HeadAt.{HeadAt}
use Rattle.index_tree.specs.declared.leaf.Leaf.{Leaf}
use Rattle.journal_scan.specs.Places.{named_by as named_of}
use Rattle.leaf_map.specs.Parts.{in_bud, is_named}
use Rattle.sound_image.specs.Buds.{bud_text}
use Rattle.sound_image.specs.Image.{named_by_ref_node}

-- a test of places passes at the lesser of two offsets if it passes at one of both
abbrev PassesAtLesser : (ℕ → ℕ → Bool) → Type 0
PassesAtLesser test = (lnum a b : ℕ) → test lnum (min a b) ≡ (test lnum a || test lnum b)

abbrev in_heads : (ℕ → ℕ → Bool) → List HeadAt → Bool
in_heads test heads = list_any (λ (b : HeadAt). test b.lnum b.offs) heads

abbrev in_nodes : (ℕ → ℕ → Bool) → List RefNode → Bool
in_nodes test nodes = list_any (λ (b : RefNode). test b.lnum b.offs) nodes

none_or : (x : Bool) → (x || false) ≡ x
none_or true = refl
none_or false = refl

turned : (x y r : Bool) → ((x || y) || r) ≡ ((x || r) || y)
turned true y r = refl
turned false true true = refl
turned false true false = refl
turned false false true = refl
turned false false false = refl

grouped : (x r y : Bool) → (x || (r || y)) ≡ ((x || r) || y)
grouped true r y = refl
grouped false r y = refl

one_more : (test : ℕ → ℕ → Bool) → PassesAtLesser test → (buds : List HeadAt) (node : RefNode) → in_heads test (named_also buds node) ≡ (in_heads test buds || test node.lnum node.offs)
one_more test lesser [] node = none_or (test node.lnum node.offs)
one_more test lesser (bud ∷ buds) node = by (one_more test lesser buds node) (bud.lnum == node.lnum) refl
  where
    by : in_heads test (named_also buds node) ≡ (in_heads test buds || test node.lnum node.offs) → (b : Bool) → (bud.lnum == node.lnum) ≡ b
        → in_heads test (if b then record { head = bud.head; lnum = bud.lnum; offs = min bud.offs node.offs } ∷ buds else bud ∷ named_also buds node) ≡ (in_heads test (bud ∷ buds) || test node.lnum node.offs)
    by rest true e =
        let same : bud.lnum ≡ node.lnum = eqb-true bud.lnum node.lnum e in
        ap (λ x. x || in_heads test buds) (lesser bud.lnum bud.offs node.offs) ∙ turned (test bud.lnum bud.offs) (test bud.lnum node.offs) (in_heads test buds)
        ∙ ap (λ (k : ℕ). in_heads test (bud ∷ buds) || test k node.offs) same
    by rest false e = ap (λ x. test bud.lnum bud.offs || x) rest ∙ grouped (test bud.lnum bud.offs) (in_heads test buds) (test node.lnum node.offs)

all_named : (test : ℕ → ℕ → Bool) → PassesAtLesser test → (nodes : List RefNode) (buds : List HeadAt) → in_heads test (fold named_also buds nodes) ≡ (in_heads test buds || in_nodes test nodes)
all_named test lesser [] buds = sym (none_or (in_heads test buds))
all_named test lesser (node ∷ nodes) buds =
    all_named test lesser nodes (named_also buds node) ∙ ap (λ x. x || in_nodes test nodes) (one_more test lesser buds node) ∙ sym (grouped (in_heads test buds) (test node.lnum node.offs) (in_nodes test nodes))

-- ---- a place at an offset or behind it
behind_too : (a b place : ℕ) → a ≤ b → nat_le a place ≡ false → nat_le b place ≡ false
behind_too a b place le e = elim (cases_Bool (nat_le b place)) [ inl f ↦ let p = leb-false a place e in let q = leb-true b place f in absurd (omega (arith, le, p, q)) | inr f ↦ f ]

first_or : (x y : Bool) → (x ≡ false → y ≡ false) → x ≡ (x || y)
first_or true y h = refl
first_or false y h = sym (h refl)

second_or : (x y : Bool) → (y ≡ false → x ≡ false) → y ≡ (x || y)
second_or true true h = refl
second_or true false h = sym (h refl)
second_or false y h = refl

lesser_le : (a b place : ℕ) → nat_le (min a b) place ≡ (nat_le a place || nat_le b place)
lesser_le a b place = elim (cases_lt a b) [
  | inl less ↦
      let le : a ≤ b = omega (arith, less) in
      ap (λ n. nat_le n place) (min-eq_left {n = a} {m = b} le) ∙ first_or (nat_le a place) (nat_le b place) (behind_too a b place le)
  | inr less ↦ ap (λ n. nat_le n place) (min-eq_right {n = b} {m = a} less) ∙ second_or (nat_le a place) (nat_le b place) (behind_too b a place less)
]

abbrev is_from : Leaf → ℕ → ℕ → Bool
is_from leaf lnum offs = (lnum == leaf.lnum) && nat_le offs leaf.offs

and_or : (x y z : Bool) → (x && (y || z)) ≡ ((x && y) || (x && z))
and_or true y z = refl
and_or false y z = refl

from_lesser : (leaf : Leaf) → PassesAtLesser (is_from leaf)
from_lesser leaf lnum a b = ap (λ x. (lnum == leaf.lnum) && x) (lesser_le a b leaf.offs) ∙ and_or (lnum == leaf.lnum) (nat_le a leaf.offs) (nat_le b leaf.offs)

heads_from : (contents : ℕ → List ℕ) (leaf : Leaf) (buds : List HeadAt) → in_bud (map named_of (map (bud_text contents) buds)) leaf ≡ in_heads (is_from leaf) buds
heads_from contents leaf [] = refl
heads_from contents leaf (bud ∷ buds) = ap (λ b. is_from leaf bud.lnum bud.offs || b) (heads_from contents leaf buds)

nodes_from : (leaf : Leaf) (nodes : List RefNode) → in_bud (map named_by_ref_node nodes) leaf ≡ in_nodes (is_from leaf) nodes
nodes_from leaf [] = refl
nodes_from leaf (node ∷ nodes) = ap (λ b. is_from leaf node.lnum node.offs || b) (nodes_from leaf nodes)

pub same_places : (contents : ℕ → List ℕ) (nodes : List RefNode) (leaf : Leaf) → in_bud (map named_by_ref_node nodes) leaf ≡ in_bud (map named_of (map (bud_text contents) (buds_of nodes))) leaf
same_places contents nodes leaf = nodes_from leaf nodes ∙ sym (all_named (is_from leaf) (from_lesser leaf) nodes []) ∙ sym (heads_from contents leaf (buds_of nodes))

-- ---- a LEB
abbrev is_leb : ℕ → ℕ → ℕ → Bool
is_leb k lnum offs = lnum == k

itself_or : (x : Bool) → x ≡ (x || x)
itself_or true = refl
itself_or false = refl

heads_leb : (contents : ℕ → List ℕ) (k : ℕ) (buds : List HeadAt) → is_named (map named_of (map (bud_text contents) buds)) k ≡ in_heads (is_leb k) buds
heads_leb contents k [] = refl
heads_leb contents k (bud ∷ buds) = ap (λ b. (bud.lnum == k) || b) (heads_leb contents k buds)

nodes_leb : (k : ℕ) (nodes : List RefNode) → is_named (map named_by_ref_node nodes) k ≡ in_nodes (is_leb k) nodes
nodes_leb k [] = refl
nodes_leb k (node ∷ nodes) = ap (λ b. (node.lnum == k) || b) (nodes_leb k nodes)

pub same_lebs : (contents : ℕ → List ℕ) (nodes : List RefNode) (k : ℕ) → is_named (map named_by_ref_node nodes) k ≡ is_named (map named_of (map (bud_text contents) (buds_of nodes))) k
same_lebs contents nodes k = nodes_leb k nodes ∙ sym (all_named (is_leb k) (λ lnum a b. itself_or (lnum == k)) nodes []) ∙ sym (heads_leb contents k (buds_of nodes))
