-- Which groups are whole, of groups and a part of one, and of a first part of groups.
use Rattle.std.proofs.Common.{◌≡◌, ℕ, zero, suc, ◌-◌, ◌<◌, ◌≤◌, ◌&&◌, nat_le, Bool, true, false, cond, List, [], ◌∷◌, ◌++◌, length, take, refl, ap, sym, ◌∙◌, arith, append_assoc, subst}
use Rattle.std.specs.List.{AllByRecursion}
use Rattle.std.proofs.lemmas.Bool.{leb-true, leb-false}
use Rattle.leb_scan.specs.Text.{nodes_of}
use Rattle.leb_scan.specs.declared.found.Found.{Found}
use Rattle.leb_scan.specs.declared.item.Item.{Item}
use Rattle.leb_scan.specs.declared.item.Item.TheVariants.{Node, Padding, Word}
use Rattle.leaf_map.specs.Kept.{Placed}
use Rattle.journal_scan.specs.Groups.{AreGaps, IsGroup, groups_within, joined_groups}
use Rattle.journal_scan.specs.Journal.{AreLeaves, is_unfinished, whole_groups}
use Rattle.journal_scan.specs.declared.bud_text.BudText.{BudText}

-- ---- whole groups
-- where a group stands in front, a last node is there
group_ends : (group rest : List Placed) → IsGroup group → is_unfinished (group ++ rest) ≡ false
group_ends [] rest g = absurd g
group_ends (x ∷ []) rest g = ap (λ b. b && is_unfinished rest) g
group_ends (x ∷ y ∷ nodes) rest g = ap (λ b. b && is_unfinished (y ∷ nodes ++ rest)) g.0 ∙ group_ends (y ∷ nodes) rest g.1

goes_on : (x : Placed) (nodes : List Placed) → is_unfinished (x ∷ nodes) ≡ false → whole_groups (x ∷ nodes) ≡ x ∷ whole_groups nodes
goes_on x nodes e = ap (λ b. cond b [] (x ∷ whole_groups nodes)) e

group_first : (group rest : List Placed) → IsGroup group → whole_groups (group ++ rest) ≡ group ++ whole_groups rest
group_first [] rest g = absurd g
group_first (x ∷ []) rest g = goes_on x rest (group_ends (x ∷ []) rest g)
group_first (x ∷ y ∷ nodes) rest g = goes_on x (y ∷ nodes ++ rest) (group_ends (x ∷ y ∷ nodes) rest g) ∙ ap (λ zs. x ∷ zs) (group_first (y ∷ nodes) rest g.1)

none_whole : (nodes : List Placed) → is_unfinished nodes ≡ true → whole_groups nodes ≡ []
none_whole [] e = refl
none_whole (x ∷ nodes) e = ap (λ b. cond b [] (x ∷ whole_groups nodes)) e

pub with_part : (groups : List (List Placed)) (part : List Placed) → AllByRecursion IsGroup groups → is_unfinished part ≡ true → whole_groups (joined_groups groups ++ part) ≡ joined_groups groups
with_part [] part g e = none_whole part e
with_part (group ∷ groups) part g e =
    ap whole_groups (append_assoc group (joined_groups groups) part) ∙ group_first group (joined_groups groups ++ part) g.0 ∙ ap (λ zs. group ++ zs) (with_part groups part g.1 e)

-- ---- a first part
part_unfinished : (group : List Placed) (n : ℕ) → IsGroup group → n < length group → is_unfinished (take n group) ≡ true
part_unfinished [] n g h = absurd g
part_unfinished (x ∷ nodes) zero g h = refl
part_unfinished (x ∷ []) (suc n) g h = absurd (omega (arith, h))
part_unfinished (x ∷ y ∷ nodes) (suc n) g h = ap (λ b. b && is_unfinished (take n (y ∷ nodes))) g.0 ∙ part_unfinished (y ∷ nodes) n g.1 (omega (arith, h))

take_inside : (xs ys : List Placed) (n : ℕ) → n < length xs → take n (xs ++ ys) ≡ take n xs
take_inside xs ys zero h = refl
take_inside [] ys (suc n) h = absurd (omega (arith, h))
take_inside (x ∷ xs) ys (suc n) h = ap (λ zs. x ∷ zs) (take_inside xs ys n (omega (arith, h)))

take_beyond : (xs ys : List Placed) (n : ℕ) → length xs ≤ n → take n (xs ++ ys) ≡ xs ++ take (n - length xs) ys
take_beyond [] ys n h = ap (λ k. take k ys) (omega arith)
take_beyond (x ∷ xs) ys zero h = absurd (omega (arith, h))
take_beyond (x ∷ xs) ys (suc n) h =
    let less : suc n - suc (length xs) ≡ n - length xs = omega arith in
    ap (λ zs. x ∷ zs) (take_beyond xs ys n (omega (arith, h))) ∙ ap (λ k. x ∷ xs ++ take k ys) (sym less)

pub with_first : (groups : List (List Placed)) (n : ℕ) → AllByRecursion IsGroup groups → whole_groups (take n (joined_groups groups)) ≡ joined_groups (take (groups_within n groups) groups)
with_first [] zero g = refl
with_first [] (suc n) g = refl
with_first (group ∷ groups) n g = by (nat_le (length group) n) refl (with_first groups (n - length group) g.1)
  where
    by : (b : Bool) → nat_le (length group) n ≡ b → whole_groups (take (n - length group) (joined_groups groups)) ≡ joined_groups (take (groups_within (n - length group) groups) groups)
        → whole_groups (take n (group ++ joined_groups groups)) ≡ joined_groups (take (cond b (suc (groups_within (n - length group) groups)) 0) (group ∷ groups))
    by true e rest =
        ap whole_groups (take_beyond group (joined_groups groups) n (leb-true (length group) n e)) ∙ group_first group (take (n - length group) (joined_groups groups)) g.0 ∙ ap (λ zs. group ++ zs) rest
    by false e rest =
        let less = leb-false (length group) n e in
        ap whole_groups (take_inside group (joined_groups groups) n less) ∙ none_whole (take n group) (part_unfinished group n g.0 less)

-- ---- leaf nodes of items
nodes_joined : (front back : List Item) → nodes_of (front ++ back) ≡ nodes_of front ++ nodes_of back
nodes_joined [] back = refl
nodes_joined (Node found ∷ front) back = ap (λ zs. found ∷ zs) (nodes_joined front back)
nodes_joined (Padding found pad_len ∷ front) back = ap (λ zs. found ∷ zs) (nodes_joined front back)
nodes_joined (Word ∷ front) back = nodes_joined front back

leaves_behind : (bud : BudText) (front back : List Found) (xs ys : List Placed) → AreLeaves bud front xs → AreLeaves bud back ys → AreLeaves bud (front ++ back) (xs ++ ys)
leaves_behind bud [] back xs ys h k = subst (λ zs. AreLeaves bud back (zs ++ ys)) (sym h) k
leaves_behind bud (found ∷ front) back xs ys (own, rest, here, others, is) k =
    (own, rest ++ ys, here, leaves_behind bud front back rest ys others k, ap (λ zs. zs ++ ys) is ∙ append_assoc own rest ys)

pub leaves_joined : (bud : BudText) (front back : List Item) (xs ys : List Placed) → AreLeaves bud (nodes_of front) xs → AreLeaves bud (nodes_of back) ys → AreLeaves bud (nodes_of (front ++ back)) (xs ++ ys)
leaves_joined bud front back xs ys h k = subst (λ zs. AreLeaves bud zs (xs ++ ys)) (sym (nodes_joined front back)) (leaves_behind bud (nodes_of front) (nodes_of back) xs ys h k)

pub gaps_have_none : (bud : BudText) (items : List Item) → AreGaps bud items → AreLeaves bud (nodes_of items) []
gaps_have_none bud [] g = refl
gaps_have_none bud (Node found ∷ items) g = absurd g
gaps_have_none bud (Padding found pad_len ∷ items) g = ([], [], g.0, gaps_have_none bud items g.1, refl)
gaps_have_none bud (Word ∷ items) g = gaps_have_none bud items g
