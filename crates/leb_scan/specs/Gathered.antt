-- What a caller of `next` keeps, turn after turn, and what it has at the end.
use Rattle.std.proofs.Common.{◌≡◌, ℕ, List, [], ◌∷◌, ◌++◌, refl, ap, sym, ◌∙◌, subst, append-nil}
use Rattle.leb_scan.specs.Text.{Stand, IsText, nodes_of, IsNext, IsLast, tail_at}
use Rattle.leb_scan.specs.TextLaws.{Stand-then, nodes_of-append}
use Rattle.leb_scan.specs.declared.found.Found.{Found}
use Rattle.leb_scan.specs.declared.item.Item.{Item}
use Rattle.leb_scan.specs.declared.tail.Tail.{Tail}

-- from one place to another stand items that have these nodes
pub record IsGathered (leb : List ℕ) (from to : ℕ) (nodes : List Found) : Type 0 where
  pub items : List Item
  pub stand : Stand leb from items to
  pub nodes_are : nodes ≡ nodes_of items

-- at the start
pub gathered_none : (leb : List ℕ) (from : ℕ) → IsGathered leb from from []
gathered_none leb from = record { items = []; stand = refl; nodes_are = refl }

-- after another node
pub gathered_next : (leb : List ℕ) (from place to : ℕ) (nodes : List Found) (found : Found) → IsGathered leb from place nodes → IsNext leb place to found → IsGathered leb from to (nodes ++ found ∷ [])
gathered_next leb from place to nodes found h next = record {
  items = h.items ++ next.items;
  stand = Stand-then leb from place to h.items next.items h.stand next.stand;
  nodes_are = ap (λ (n : List Found). n ++ (found ∷ [])) h.nodes_are ∙ ap (λ (n : List Found). nodes_of h.items ++ n) (sym next.node) ∙ sym (nodes_of-append h.items next.items);
}

gathered_all : (leb : List ℕ) (from place end : ℕ) (nodes : List Found) (tail : Tail) → IsGathered leb from place nodes → IsLast leb place end tail
    → (items : List Item) × IsText leb from items end tail × (nodes ≡ nodes_of items)
gathered_all leb from place end nodes tail h last = (
  h.items ++ last.items,
  record { stand = Stand-then leb from place end h.items last.items h.stand last.text.stand; ends = last.text.ends },
  h.nodes_are ∙ sym (append-nil (nodes_of h.items)) ∙ ap (λ (n : List Found). nodes_of h.items ++ n) (sym last.none) ∙ sym (nodes_of-append h.items last.items),
)

-- where no node is left, they are the nodes of the text
pub gathered_end : (leb : List ℕ) (from place end there : ℕ) (nodes : List Found) (tail : Tail) → IsGathered leb from place nodes → IsLast leb place end (tail_at leb end) → there ≡ end → tail ≡ tail_at leb end
    → (items : List Item) × IsText leb from items there tail × (nodes ≡ nodes_of items)
gathered_end leb from place end there nodes tail h last there_is tail_is =
    let P : ℕ → Type 0 = λ e. (items : List Item) × IsText leb from items e tail × (nodes ≡ nodes_of items) in
    let Q : Tail → Type 0 = λ t. (items : List Item) × IsText leb from items end t × (nodes ≡ nodes_of items) in
    subst P (sym there_is) (subst Q (sym tail_is) (gathered_all leb from place end nodes (tail_at leb end) h last))
