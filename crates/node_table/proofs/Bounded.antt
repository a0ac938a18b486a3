-- The bounds of dirty nodes, as nodes are added, taken back and given places.
use Rattle.std.proofs.Common.{◌≡◌, ℕ, zero, suc, ◌+◌, ◌-◌, ◌≤◌, true, false, List, [], ◌∷◌, ◌++◌, length, take, refl, ap, sym, ◌∙◌, subst, arith, inl, inr, length-append, append-nil, append_assoc}
use Rattle.std.specs.Prelude.{◌==◌, ◌&&◌, Bool, Option, None, Some, Result, Ok, Err, IfOk, if◌then◌else◌, is_some, map, slice_get, unwrap_or}
use Rattle.std.proofs.lemmas.Bool.{cases_Bool}
use Rattle.ubifs_base.specs.declared.memory.Memory.{Memory}
use Rattle.node_table.specs.Bounds.{AreNoLonger}
use Rattle.node_table.specs.Dirty.{dirty_node, dirty_among, dirty_behind, dirty_lists}
use Rattle.node_table.specs.Placing.{without_number}
use Rattle.table_nodes.specs.Links.{AreNodesAdded}
use Rattle.table_nodes.specs.Stubs.{are_placed, AreOpened}
use Rattle.table_nodes.specs.declared.link.Link.{Link}
use Rattle.table_nodes.specs.declared.link.Link.TheVariants.{ToLeaf, ToNode}
use Rattle.table_nodes.specs.declared.node.NodePlace.{NodePlace}
use Rattle.table_nodes.specs.declared.node.TableNode.{TableNode}
use Rattle.node_table.proofs.DirtyLists.{dirty_append, dirty_long, dirty_more}

-- ---- what a number says of the list beside it
pub bound_there : (lists : List (List ℕ)) (bounds : List ℕ) (i most : ℕ) → AreNoLonger lists bounds → slice_get bounds i ≡ Some most → length (unwrap_or (slice_get lists i) []) ≤ most
bound_there [] [] i most h is = absurd cc
bound_there [] (m ∷ ms) i most h is = absurd h
bound_there (d ∷ ds) [] i most h is = absurd h
bound_there (d ∷ ds) (m ∷ ms) zero most h is = let same : m ≡ most = cc in let own = h.0 in omega (arith, own, same)
bound_there (d ∷ ds) (m ∷ ms) (suc i) most h is = bound_there ds ms i most h.1 is

pub bound_past : (lists : List (List ℕ)) (bounds : List ℕ) (i : ℕ) → AreNoLonger lists bounds → length bounds ≤ i → length (unwrap_or (slice_get lists i) []) ≤ 0
bound_past [] [] i h past = omega arith
bound_past [] (m ∷ ms) i h past = absurd h
bound_past (d ∷ ds) [] i h past = absurd h
bound_past (d ∷ ds) (m ∷ ms) zero h past = absurd (omega (arith, past))
bound_past (d ∷ ds) (m ∷ ms) (suc i) h past = bound_past ds ms i h.1 (omega (arith, past))

-- ---- a node that is added
bound_behind : (lists : List (List ℕ)) (bounds : List ℕ) (own : List ℕ) (most : ℕ) → AreNoLonger lists bounds → length own ≤ most → AreNoLonger (lists ++ own ∷ []) (bounds ++ most ∷ [])
bound_behind [] [] own most h one = (one, tt)
bound_behind [] (m ∷ ms) own most h one = absurd h
bound_behind (d ∷ ds) [] own most h one = absurd h
bound_behind (d ∷ ds) (m ∷ ms) own most h one = (h.0, bound_behind ds ms own most h.1 one)

pub few_pushed : (old new : List TableNode) (bounds now : List ℕ) (n : TableNode) (most : ℕ) (b : Bool) → new ≡ (if b then old ++ n ∷ [] else old) → now ≡ (if b then bounds ++ most ∷ [] else bounds)
    → AreNoLonger (dirty_lists old) bounds → ((number : ℕ) → length (dirty_node n.place number (dirty_among (dirty_lists old) n.links.items)) ≤ most) → AreNoLonger (dirty_lists new) now
few_pushed old new bounds now n most true e k h own =
    let lists = dirty_lists old in
    let one = dirty_node n.place (length lists) (dirty_among lists n.links.items) in
    let whole : dirty_lists new ≡ lists ++ one ∷ [] = ap dirty_lists e ∙ dirty_append [] old (n ∷ []) in
    let P : List (List ℕ) → Type 0 = λ ds. AreNoLonger ds now in
    let Q : List ℕ → Type 0 = λ ms. AreNoLonger (lists ++ one ∷ []) ms in
    subst P (sym whole) (subst Q (sym k) (bound_behind lists bounds one most h (own (length lists))))
few_pushed old new bounds now n most false e k h own =
    let P : List TableNode → Type 0 = λ v. AreNoLonger (dirty_lists v) now in
    let Q : List ℕ → Type 0 = λ ms. AreNoLonger (dirty_lists old) ms in
    subst P (sym e) (subst Q (sym k) h)

-- ---- clean nodes that are added, with any bounds
clean_one : (place : Option NodePlace) (number : ℕ) (below : List ℕ) → is_some place ≡ true → length (dirty_node place number below) ≤ 0
clean_one None number below h = absurd cc
clean_one (Some p) number below h = omega arith

both_true : (a b : Bool) → (a && b) ≡ true → (a ≡ true) × (b ≡ true)
both_true true b h = (refl, h)
both_true false b h = absurd cc

few_clean : (known : List (List ℕ)) (nodes : List TableNode) (bounds zeros : List ℕ) → AreNoLonger known bounds → are_placed nodes ≡ true → length zeros ≡ length nodes → AreNoLonger (dirty_behind known nodes) (bounds ++ zeros)
few_clean known [] bounds [] h placed long = let P : List ℕ → Type 0 = λ ms. AreNoLonger known ms in subst P (sym (append-nil bounds)) h
few_clean known [] bounds (z ∷ zs) h placed long = absurd (omega (arith, long))
few_clean known (n ∷ ns) bounds [] h placed long = absurd (omega (arith, long))
few_clean known (n ∷ ns) bounds (z ∷ zs) h placed long =
    let both = both_true (is_some n.place) (are_placed ns) placed in
    let own = dirty_node n.place (length known) (dirty_among known n.links.items) in
    let none = clean_one n.place (length known) (dirty_among known n.links.items) both.0 in
    let P : List ℕ → Type 0 = λ ms. AreNoLonger (dirty_behind (known ++ own ∷ []) ns) ms in
    subst P (append_assoc bounds (z ∷ []) zs) (few_clean (known ++ own ∷ []) ns (bounds ++ z ∷ []) zs (bound_behind known bounds own z h (omega (arith, none))) both.1 (omega (arith, long)))

pub few_opened : (old new : List TableNode) (bounds now zeros : List ℕ) → AreOpened old new → now ≡ bounds ++ zeros → length zeros ≡ length new - length old → AreNoLonger (dirty_lists old) bounds → AreNoLonger (dirty_lists new) now
few_opened old new bounds now zeros o is long h =
    let a = o.added in
    let all : dirty_lists new ≡ dirty_behind (dirty_lists old) a.more = ap dirty_lists a.is ∙ dirty_append [] old a.more in
    let sum = ap length a.is in
    let parts = length-append old a.more in
    let P : List (List ℕ) → Type 0 = λ ds. AreNoLonger ds now in
    let Q : List ℕ → Type 0 = λ ms. AreNoLonger (dirty_behind (dirty_lists old) a.more) ms in
    subst P (sym all) (subst Q (sym is) (few_clean (dirty_lists old) a.more bounds zeros h o.placed (omega (arith, long, sum, parts))))

-- ---- nodes that are taken back
bound_first : (lists more : List (List ℕ)) (bounds : List ℕ) → AreNoLonger (lists ++ more) bounds → AreNoLonger lists (take (length lists) bounds)
bound_first [] more [] h = tt
bound_first [] more (m ∷ ms) h = tt
bound_first (d ∷ ds) more [] h = absurd h
bound_first (d ∷ ds) more (m ∷ ms) h = (h.0, bound_first ds more ms h.1)

pub few_taken : (old mid new : List TableNode) (bounds now : List ℕ) (n : ℕ) → AreNodesAdded old mid → n ≡ length old → new ≡ old → AreNoLonger (dirty_lists mid) bounds → now ≡ take n bounds
    → AreNoLonger (dirty_lists new) now
few_taken old mid new bounds now n a e s h t =
    let lists = dirty_lists old in
    let p = dirty_more lists a.more in
    let all : dirty_lists mid ≡ lists ++ p.0 = ap dirty_lists a.is ∙ dirty_append [] old a.more ∙ p.1 in
    let long = dirty_long [] old in
    let most : n ≡ length lists = omega (arith, e, long) in
    let whole : now ≡ take (length lists) bounds = t ∙ ap (λ m. take m bounds) most in
    let P : List (List ℕ) → Type 0 = λ ds. AreNoLonger ds bounds in
    let Q : List ℕ → Type 0 = λ ms. AreNoLonger lists ms in
    let R : List TableNode → Type 0 = λ v. AreNoLonger (dirty_lists v) now in
    subst R (sym s) (subst Q (sym whole) (bound_first lists p.0 bounds (subst P all h)))

-- ---- a node that is given a place goes from the lists
fewer : (number : ℕ) (xs : List ℕ) → length (without_number number xs) ≤ length xs
fewer number [] = omega arith
fewer number (x ∷ xs) =
    let others = fewer number xs in
    elim (cases_Bool (x == number)) [
      | inl e ↦ rw e (omega (arith, others))
      | inr e ↦ rw e (omega (arith, others))
    ]

pub few_without : (number : ℕ) (lists : List (List ℕ)) (bounds : List ℕ) → AreNoLonger lists bounds → AreNoLonger (map (without_number number) lists) bounds
few_without number [] [] h = tt
few_without number [] (m ∷ ms) h = absurd h
few_without number (d ∷ ds) [] h = absurd h
few_without number (d ∷ ds) (m ∷ ms) h = let one = fewer number d in let own = h.0 in (omega (arith, one, own), few_without number ds ms h.1)

-- ---- those of links together
pub among_none : (known : List (List ℕ)) (links : List Link) → length links ≡ 0 → length (dirty_among known links) ≤ 0
among_none known [] none = omega arith
among_none known (link ∷ links) none = absurd (omega (arith, none))

pub among_first : (known : List (List ℕ)) (link : Link) (rest : List Link) → dirty_among known (link ∷ rest) ≡ dirty_among known (link ∷ []) ++ dirty_among known rest
among_first known (ToLeaf x) rest = refl
among_first known (ToNode key number) rest = ap (λ (v : List ℕ). v ++ dirty_among known rest) (sym (append-nil (unwrap_or (slice_get known number) [])))

pub among_both : (known : List (List ℕ)) (links rest : List Link) (link : Link) (here behind : ℕ) (r : Result ℕ Memory) → links ≡ link ∷ rest → length (dirty_among known (link ∷ [])) ≤ here
    → length (dirty_among known rest) ≤ behind → IfOk r (λ sum. sum ≡ here + behind) → IfOk r (λ sum. length (dirty_among known links) ≤ sum)
among_both known links rest link here behind (Err fault) is h b s = tt
among_both known links rest link here behind (Ok sum) is h b s =
    let whole = ap (λ (l : List Link). length (dirty_among known l)) is ∙ ap length (among_first known link rest) in
    let both = length-append (dirty_among known (link ∷ [])) (dirty_among known rest) in
    omega (arith, whole, both, h, b, s)

pub among_node : (known : List (List ℕ)) (number most : ℕ) → length (unwrap_or (slice_get known number) []) ≤ most → length (unwrap_or (slice_get known number) [] ++ []) ≤ most
among_node known number most h =
    let same = ap length (append-nil (unwrap_or (slice_get known number) [])) in
    omega (arith, same, h)

-- ---- those of a node
pub clean_most : (place : Option NodePlace) (below : List ℕ) → is_some place ≡ true → (number : ℕ) → length (dirty_node place number below) ≤ 0
clean_most place below h number = clean_one place number below h

one_node : (place : Option NodePlace) (number : ℕ) (below : List ℕ) → length (dirty_node place number below) ≤ length below + 1
one_node None number below = let both = length-append below (number ∷ []) in omega (arith, both)
one_node (Some p) number below = omega arith

pub node_most : (place : Option NodePlace) (known : List (List ℕ)) (links own : List Link) (most : ℕ) (r : Result ℕ Memory) → links ≡ own → length (dirty_among known links) ≤ most → IfOk r (λ sum. sum ≡ most + 1)
    → IfOk r (λ sum. (number : ℕ) → length (dirty_node place number (dirty_among known own)) ≤ sum)
node_most place known links own most (Err fault) is h s = tt
node_most place known links own most (Ok sum) is h s = λ number.
    let whole = one_node place number (dirty_among known own) in
    let same = ap (λ (l : List Link). length (dirty_among known l)) is in
    omega (arith, whole, same, h, s)

pub ruleset bounding = (among_node, among_none, clean_most)
