-- From place to place of a text.
use Rattle.std.proofs.Common.{◌≡◌, ℕ, List, [], ◌∷◌, ◌++◌, refl, ap, sym, ◌∙◌, subst}
use Rattle.leb_scan.specs.Text.{Begins, behind, nodes_of, IsNext, IsLast, tail_at}
use Rattle.leb_scan.specs.TextLaws.{Stand-then, nodes_of-append, ends}
use Rattle.leb_scan.specs.Gathered.{IsGathered}
use Rattle.leb_scan.specs.declared.found.Found.{Found}
use Rattle.leb_scan.specs.declared.item.Item.{Item}
use Rattle.leb_scan.specs.declared.item.Item.TheVariants.{Node, Padding, Word}

-- one more item
gathered_item : (leb : List ℕ) (from place : ℕ) (nodes : List Found) (item : Item) → IsGathered leb from place nodes → Begins leb place item
    → IsGathered leb from (behind leb place item) (nodes ++ nodes_of (item ∷ []))
gathered_item leb from place nodes item h begins = record {
  items = h.items ++ (item ∷ []);
  stand = Stand-then leb from place (behind leb place item) h.items (item ∷ []) h.stand (begins, refl);
  nodes_are = ap (λ (n : List Found). n ++ nodes_of (item ∷ [])) h.nodes_are ∙ sym (nodes_of-append h.items (item ∷ []));
}

-- one more item, whose nodes are these
one_more : (leb : List ℕ) (from place to : ℕ) (nodes : List Found) (item kind : Item) → IsGathered leb from place nodes → Begins leb place item → to ≡ behind leb place item
    → item ≡ kind → IsGathered leb from to (nodes ++ nodes_of (kind ∷ []))
one_more leb from place to nodes item kind h begins there is =
    let P : Item → Type 0 = λ i. IsGathered leb from to (nodes ++ nodes_of (i ∷ [])) in
    let Q : ℕ → Type 0 = λ p. IsGathered leb from p (nodes ++ nodes_of (item ∷ [])) in
    subst P is (subst Q (sym there) (gathered_item leb from place nodes item h begins))

pub over_word : (leb : List ℕ) (from place to : ℕ) (item : Item) → IsGathered leb from place [] → Begins leb place item → to ≡ behind leb place item → item ≡ Word → IsGathered leb from to []
over_word leb from place to item h begins there is = one_more leb from place to [] item Word h begins there is

next_from : (leb : List ℕ) (from to : ℕ) (found : Found) → IsGathered leb from to (found ∷ []) → IsNext leb from to found
next_from leb from to found h = record { items = h.items; stand = h.stand; node = sym h.nodes_are }

pub to_node : (leb : List ℕ) (from place to : ℕ) (item : Item) (found : Found) → IsGathered leb from place [] → Begins leb place item → to ≡ behind leb place item → item ≡ Node found
    → IsNext leb from to found
to_node leb from place to item found h begins there is = next_from leb from to found (one_more leb from place to [] item (Node found) h begins there is)

pub to_padding : (leb : List ℕ) (from place to : ℕ) (item : Item) (found : Found) (pad_len : ℕ) → IsGathered leb from place [] → Begins leb place item → to ≡ behind leb place item
    → item ≡ Padding found pad_len → IsNext leb from to found
to_padding leb from place to item found pad_len h begins there is = next_from leb from to found (one_more leb from place to [] item (Padding found pad_len) h begins there is)

pub to_end : (leb : List ℕ) (from end : ℕ) → IsGathered leb from end [] → ((item : Item) → Begins leb end item → ⊥) → IsLast leb from end (tail_at leb end)
to_end leb from end h none = record { items = h.items; text = record { stand = h.stand; ends = ends leb end none }; none = sym h.nodes_are }
