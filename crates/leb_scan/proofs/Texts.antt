-- A place has one text.
use Rattle.std.proofs.Common.{◌≡◌, ℕ, true, false, List, [], ◌∷◌, refl, ap, sym, ◌∙◌, subst}
use Rattle.ubifs_base.specs.NodeLaws.{IsBytes}
use Rattle.leb_scan.specs.Text.{Begins, behind, Stand, IsTail, IsText}
use Rattle.leb_scan.specs.declared.item.Item.{Item}
use Rattle.leb_scan.specs.declared.tail.Tail.{Tail}
use Rattle.leb_scan.specs.declared.tail.Tail.TheVariants.{Clean, Torn}
use Rattle.leb_scan.proofs.OneItem.{one_item}
use Rattle.leb_scan.proofs.Unwritten.{blank_no_item}

-- no item begins where a text ends
no_item : (leb : List ℕ) (end : ℕ) (tail : Tail) (item : Item) → IsBytes leb → IsTail leb end tail → Begins leb end item → ⊥
no_item leb end Clean item fits h begins = blank_no_item leb end item fits h begins
no_item leb end Torn item fits h begins = h.1 item begins

one_tail : (leb : List ℕ) (end : ℕ) (a b : Tail) → IsTail leb end a → IsTail leb end b → a ≡ b
one_tail leb end Clean Clean h1 h2 = refl
one_tail leb end Torn Torn h1 h2 = refl
one_tail leb end Clean Torn h1 h2 = let e : true ≡ false = sym h1 ∙ h2.0 in absurd cc
one_tail leb end Torn Clean h1 h2 = let e : true ≡ false = sym h2 ∙ h1.0 in absurd cc

same : (leb : List ℕ) (from end1 end2 : ℕ) (items1 items2 : List Item) (tail1 tail2 : Tail) → IsBytes leb → Stand leb from items1 end1 → IsTail leb end1 tail1 → Stand leb from items2 end2 → IsTail leb end2 tail2
    → (items1 ≡ items2) × (end1 ≡ end2) × (tail1 ≡ tail2)
same leb from end1 end2 [] [] tail1 tail2 fits s1 t1 s2 t2 =
    let alike : end1 ≡ end2 = sym s1 ∙ s2 in
    let P : ℕ → Type 0 = λ end. IsTail leb end tail1 in
    (refl, alike, one_tail leb end2 tail1 tail2 (subst P alike t1) t2)
same leb from end1 end2 [] (item ∷ items2) tail1 tail2 fits s1 t1 s2 t2 =
    let P : ℕ → Type 0 = λ end. IsTail leb end tail1 in
    absurd (no_item leb from tail1 item fits (subst P (sym s1) t1) s2.0)
same leb from end1 end2 (item ∷ items1) [] tail1 tail2 fits s1 t1 s2 t2 =
    let P : ℕ → Type 0 = λ end. IsTail leb end tail2 in
    absurd (no_item leb from tail2 item fits (subst P (sym s2) t2) s1.0)
same leb from end1 end2 (item1 ∷ items1) (item2 ∷ items2) tail1 tail2 fits s1 t1 s2 t2 =
    let first : item1 ≡ item2 = one_item leb from item1 item2 fits s1.0 s2.0 in
    let P : Item → Type 0 = λ item. Stand leb (behind leb from item) items1 end1 in
    let rest = same leb (behind leb from item2) end1 end2 items1 items2 tail1 tail2 fits (subst P first s1.1) t1 s2.1 t2 in
    (ap (λ (item : Item). item ∷ items1) first ∙ ap (λ (items : List Item). item2 ∷ items) rest.0, rest.1, rest.2)

pub one : (leb : List ℕ) (from end1 end2 : ℕ) (items1 items2 : List Item) (tail1 tail2 : Tail) → IsBytes leb → IsText leb from items1 end1 tail1 → IsText leb from items2 end2 tail2
    → (items1 ≡ items2) × (end1 ≡ end2) × (tail1 ≡ tail2)
one leb from end1 end2 items1 items2 tail1 tail2 fits h1 h2 = same leb from end1 end2 items1 items2 tail1 tail2 fits h1.stand h1.ends h2.stand h2.ends
