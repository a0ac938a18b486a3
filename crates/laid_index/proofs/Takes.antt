-- What nodes take of LEBs, one more node at a time.
use Rattle.std.proofs.Common.{◌≡◌, ℕ, ◌+◌, ◌<◌, ◌≤◌, List, [], ◌∷◌, ◌++◌, length, get_or, refl, ap, sym, ◌∙◌, subst, arith, inl, inr}
use Rattle.std.specs.Prelude.{◌==◌, filter}
use Rattle.std.proofs.lemmas.Bool.{cases_lt, eq-eqb, ne_eqb}
use Rattle.std.proofs.lemmas.List.{get_or_append_left, get_or_push, length_push}
use Rattle.std.proofs.lemmas.List.Elements.{All-push, All-weaker, filter-append, recursion_from_All, All-from_recursion}
use Rattle.std.specs.List.{AllByRecursion}
use Rattle.media_sys.specs.declared.branch.Branch.{Branch}
use Rattle.index_media.specs.PlacedRow.{bytes_taken, node_end}
use Rattle.laid_main.specs.Filling.{TakesOfLebs}

-- the nodes in a LEB
abbrev pub in_leb : ℕ → List Branch → List Branch
in_leb lnum branches = filter (λ (branch : Branch). branch.lnum == lnum) branches

pub taken_append : (xs ys : List Branch) → bytes_taken (xs ++ ys) ≡ bytes_taken xs + bytes_taken ys
taken_append [] ys = omega arith
taken_append (x ∷ xs) ys = let e = taken_append xs ys in omega (arith, e)

pub in_leb_append : (lnum : ℕ) (xs ys : List Branch) → bytes_taken (in_leb lnum (xs ++ ys)) ≡ bytes_taken (in_leb lnum xs) + bytes_taken (in_leb lnum ys)
in_leb_append lnum xs ys =
    ap bytes_taken (filter-append (λ (branch : Branch). branch.lnum == lnum) xs ys) ∙ taken_append (in_leb lnum xs) (in_leb lnum ys)

in_leb_one : (lnum : ℕ) (b : Branch) → b.lnum ≡ lnum → bytes_taken (in_leb lnum (b ∷ [])) ≡ node_end b.len
in_leb_one lnum b e = let t = eq-eqb b.lnum lnum e in rw t (omega arith)

in_leb_other : (lnum : ℕ) (b : Branch) → (b.lnum ≡ lnum → ⊥) → bytes_taken (in_leb lnum (b ∷ [])) ≡ 0
in_leb_other lnum b ne = let t = ne_eqb b.lnum lnum ne in rw t refl

-- no node stands in a LEB that is none of these
in_leb_none : (lnum first end : ℕ) (branches : List Branch) → end ≤ lnum → AllByRecursion (λ (branch : Branch). (first ≤ branch.lnum) × (branch.lnum < end)) branches → bytes_taken (in_leb lnum branches) ≡ 0
in_leb_none lnum first end [] le h = refl
in_leb_none lnum first end (b ∷ bs) le h =
    let below = h.0.1 in
    let ne : b.lnum ≡ lnum → ⊥ = λ e. absurd (omega (arith, below, le, e)) in
    in_leb_append lnum (b ∷ []) bs ∙ (let one = in_leb_other lnum b ne in let others = in_leb_none lnum first end bs le h.1 in omega (arith, one, others))

-- a node is put behind the bytes of the open LEB
pub takes_append : (first : ℕ) (used : List ℕ) (taken : ℕ) (before : List Branch) (b : Branch) → b.lnum ≡ first + length used
    → TakesOfLebs first (used ++ taken ∷ []) before → TakesOfLebs first (used ++ (taken + node_end b.len) ∷ []) (before ++ b ∷ [])
takes_append first used taken before b at h =
    let old = length_push used taken in
    let new = length_push used (taken + node_end b.len) in
    let P : Branch → Type 0 = λ one. (first ≤ one.lnum) × (one.lnum < first + length (used ++ taken ∷ [])) in
    let Q : Branch → Type 0 = λ one. (first ≤ one.lnum) × (one.lnum < first + length (used ++ (taken + node_end b.len) ∷ [])) in
    record {
      within = All-push Q before b (All-weaker P Q (λ one p. let a = p.1 in (p.0, omega (arith, a, old, new))) before h.within) (omega (arith, at), omega (arith, at, new));
      bytes = λ k few. in_leb_append (first + k) before (b ∷ [])
          ∙ elim (cases_lt k (length used)) [
            | inl lt ↦
                let was = h.bytes k (omega (arith, lt, old)) in
                let none = in_leb_other (first + k) b (λ e. absurd (omega (arith, e, at, lt))) in
                let a = get_or_append_left used (taken ∷ []) 0 k lt in
                let c = get_or_append_left used ((taken + node_end b.len) ∷ []) 0 k lt in
                omega (arith, was, none, a, c)
            | inr ge ↦
                let same : length used ≡ k = omega (arith, few, new, ge) in
                let was = h.bytes k (omega (arith, same, old)) in
                let one = in_leb_one (first + k) b (omega (arith, at, same)) in
                let a = get_or_push used taken 0 k same in
                let c = get_or_push used (taken + node_end b.len) 0 k same in
                omega (arith, was, one, a, c)
          ];
    }

-- the next LEB is open, and took nothing
pub takes_close : (first : ℕ) (used : List ℕ) (before : List Branch) → TakesOfLebs first used before → TakesOfLebs first (used ++ 0 ∷ []) before
takes_close first used before h =
    let new = length_push used 0 in
    let P : Branch → Type 0 = λ one. (first ≤ one.lnum) × (one.lnum < first + length used) in
    let Q : Branch → Type 0 = λ one. (first ≤ one.lnum) × (one.lnum < first + length (used ++ 0 ∷ [])) in
    record {
      within = All-weaker P Q (λ one p. let a = p.1 in (p.0, omega (arith, a, new))) before h.within;
      bytes = λ k few. elim (cases_lt k (length used)) [
        | inl lt ↦ h.bytes k lt ∙ sym (get_or_append_left used (0 ∷ []) 0 k lt)
        | inr ge ↦
            let same : length used ≡ k = omega (arith, few, new, ge) in
            in_leb_none (first + k) first (first + length used) before (omega (arith, ge)) (recursion_from_All P before h.within) ∙ sym (get_or_push used 0 0 k same)
      ];
    }

-- nothing is taken yet
pub takes_none : (first : ℕ) (taken : ℕ) → taken ≡ 0 → TakesOfLebs first (taken ∷ []) []
takes_none first taken e = record {
  within = All-from_recursion (λ (one : Branch). (first ≤ one.lnum) × (one.lnum < first + length (taken ∷ []))) [] tt;
  bytes = λ k few. let z : k ≡ 0 = omega (arith, few) in let P : ℕ → Type 0 = λ n. 0 ≡ get_or (taken ∷ []) n 0 in subst P (sym z) (sym e);
}

-- the same nodes in another order
pub takes_among : (first : ℕ) (used : List ℕ) (xs ys : List Branch) → ((k : ℕ) → bytes_taken (in_leb k ys) ≡ bytes_taken (in_leb k xs))
    → ((P : Branch → Type 0) → AllByRecursion P xs → AllByRecursion P ys) → TakesOfLebs first used xs → TakesOfLebs first used ys
takes_among first used xs ys same all h =
    let P : Branch → Type 0 = λ one. (first ≤ one.lnum) × (one.lnum < first + length used) in
    record { within = All-from_recursion P ys (all P (recursion_from_All P xs h.within)); bytes = λ k few. same (first + k) ∙ h.bytes k few }
