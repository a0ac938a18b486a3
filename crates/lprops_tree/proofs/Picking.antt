-- What the winner of a tournament says of the list of LEBs.
use Rattle.std.proofs.Common.{◌≡◌, ℕ, ◌+◌, ◌-◌, ◌*◌, ◌<◌, ◌≤◌, ◌^◌, ◌⊎◌, inl, inr, Bool, true, false, refl, sym, ap, subst, ◌∙◌, List, length, get_or, Some, None, arith}
use Rattle.std.specs.Prelude.{IfSome, IsNone, nat_lt, ◌==◌, ◌||◌, if◌then◌else◌}
use Rattle.std.proofs.lemmas.Bool.{eqb-true, eqb-false, ltb-true, ltb-false, or_cases, or_parts}
use Rattle.std.proofs.Math.Nat.{mul-le-mul_left}
use Rattle.ubifs_base.specs.Areas.{main_first, main_lebs}
use Rattle.ubifs_base.specs.Geometry.{IsGeometry}
use Rattle.ubifs_base.specs.declared.raw_geometry.RawGeometry.{RawGeometry}
use Rattle.media_lpt.specs.declared.leb_kind.LebKind.{LebKind}
use Rattle.media_lpt.specs.declared.leb_kind.LebKind.TheVariants.{Free, Leaf, Index, Bud, Taken}
use Rattle.lprops_tree.specs.declared.candidate.Candidate.{Candidate}
use Rattle.lprops_tree.specs.declared.totals.Totals.{Totals}
use Rattle.lprops_tree.specs.Candidates.{free_candidate, leaf_candidate, picked}
use Rattle.lprops_tree.specs.PropsTree.{IsPropsTree}
use Rattle.lprops_tree.specs.MainArea.{MainArea, IsMainLeb, used_bytes, unknown}
use Rattle.lprops_tree.specs.Picks.{IsFreeLeb, IsLowestFree, IsCollectable, IsVictim}
use Rattle.lprops_tree.specs.Tournament.{IsWinner, nobody, rank}

-- what is picked from: which places may be, with how many used bytes, and at most how many
record Choice : Type 1 where
  first : ℕ
  count : ℕ
  most : ℕ
  may : ℕ → Type 0
  used : ℕ → ℕ

-- for a place that may be picked stands its number with its used bytes, and for any other nobody
abbrev Stand : (may : Type 0) (used number : ℕ) → Candidate → Type 0
Stand may used number one = (may × (one ≡ record { used = used; number = number })) ⊎ ((may → ⊥) × (one ≡ nobody))

record Stands (f : Choice) (list : List Candidate) : Type 0 where
  all : length list ≡ f.count
  each : (k : ℕ) → k < f.count → Stand (f.may k) (f.used k) (f.first + k) (get_or list k nobody)
  numbers : f.first + f.count < 4294967295
  bytes : (k : ℕ) → k < f.count → f.used k < 4294967295

-- the place that is picked
record IsPick (f : Choice) (k : ℕ) : Type 0 where
  few : k < f.count
  may : f.may k
  room : f.used k ≤ f.most
  fewest : (j : ℕ) → j < f.count → f.may j → f.used k ≤ f.used j
  lowest : (j : ℕ) → j < f.count → f.may j → f.used j ≡ f.used k → k ≤ j

-- who may be picked has no lower rank than the winner
loses : (f : Choice) (list : List Candidate) (best : Candidate) → Stands f list → IsWinner list best → (j : ℕ) → j < f.count → f.may j →
    rank best ≤ f.used j * 4294967296 + (f.first + j)
loses f list best s w j few may = elim (s.each j few) [
  | inl mine ↦ let P : Candidate → Type 0 = λ v. rank best ≤ rank v in subst P mine.1 (w.lowest j (omega (arith, s.all)))
  | inr away ↦ absurd (away.0 may)
]

found : (f : Choice) (list : List Candidate) (best : Candidate) (Q : ℕ → Type 0) → Stands f list → IsWinner list best →
    ((lnum : ℕ) → f.first ≤ lnum → IsPick f (lnum - f.first) → Q lnum) → IfSome (picked best f.most) Q
found f list best Q s w next = go (best.number == 4294967295 || nat_lt f.most best.used) refl
  where
    at : (k : ℕ) → k < f.count → (f.may k × (best ≡ record { used = f.used k; number = f.first + k })) → best.used ≤ f.most → Q best.number
    at k few mine room =
        let used : best.used ≡ f.used k = ap (λ v. v.used) mine.1 in
        let number : best.number ≡ f.first + k = ap (λ v. v.number) mine.1 in
        let pick : IsPick f k = record {
          few = few;
          may = mine.0;
          room = omega arith;
          fewest = λ j l may. let a = loses f list best s w j l may in omega (arith, s.numbers);
          lowest = λ j l may same. let a = loses f list best s w j l may in omega arith;
        } in
        let P : ℕ → Type 0 = λ v. IsPick f v in
        next best.number (omega arith) (subst P (omega arith) pick)

    go : (b : Bool) → (best.number == 4294967295 || nat_lt f.most best.used) ≡ b → IfSome (if b then None else Some best.number) Q
    go true e = tt
    go false e =
        let parts = or_parts (best.number == 4294967295) (nat_lt f.most best.used) e in
        let among = w.among in
        let few : among.0 < f.count = omega (arith, s.all, among.1) in
        elim (s.each among.0 few) [
          | inl mine ↦ at among.0 few (mine.0, sym among.2 ∙ mine.1) (ltb-false f.most best.used parts.1)
          | inr away ↦ absurd (eqb-false best.number 4294967295 parts.0 (ap (λ v. v.number) (sym among.2 ∙ away.1)))
        ]

none : (f : Choice) (list : List Candidate) (best : Candidate) → Stands f list → IsWinner list best → IsNone (picked best f.most) →
    (j : ℕ) → j < f.count → f.may j → f.used j ≤ f.most → ⊥
none f list best s w = go (best.number == 4294967295 || nat_lt f.most best.used) refl
  where
    low : (j : ℕ) → j < f.count → f.may j → f.used j ≤ f.most → f.most < best.used → ⊥
    low j few may room more = let a = loses f list best s w j few may in omega (arith, s.numbers)

    last : (j : ℕ) → j < f.count → f.may j → best.number ≡ 4294967295 → ⊥
    last j few may e =
        let among = w.among in
        let here : among.0 < f.count = omega (arith, s.all, among.1) in
        elim (s.each among.0 here) [
          | inl mine ↦ let number : best.number ≡ f.first + among.0 = ap (λ v. v.number) (sym among.2 ∙ mine.1) in omega (arith, s.numbers)
          | inr away ↦
              let used : best.used ≡ 4294967295 = ap (λ v. v.used) (sym among.2 ∙ away.1) in
              let a = loses f list best s w j few may in
              let b = s.bytes j few in
              omega (arith, s.numbers)
        ]

    go : (b : Bool) → (best.number == 4294967295 || nat_lt f.most best.used) ≡ b → IsNone (if b then None else Some best.number) →
        (j : ℕ) → j < f.count → f.may j → f.used j ≤ f.most → ⊥
    go true e n j few may room = elim (or_cases (best.number == 4294967295) (nat_lt f.most best.used) e) [
      | inl a ↦ last j few may (eqb-true best.number 4294967295 a)
      | inr b ↦ low j few may room (ltb-true f.most best.used b)
    ]
    go false e n j few may room = cc

abbrev free_choice : MainArea → Choice
free_choice area = record { first = main_first area.geo; count = length area.lebs; most = 0; may = λ k. (get_or area.lebs k unknown).1 ≡ Free; used = λ k. 0 }

abbrev leaf_choice : MainArea → ℕ → Choice
leaf_choice area most = record {
  first = main_first area.geo;
  count = length area.lebs;
  most = most;
  may = λ k. (get_or area.lebs k unknown).1 ≡ Leaf;
  used = λ k. used_bytes area.geo (get_or area.lebs k unknown).0;
}

free_stand : (lnum : ℕ) (kind : LebKind) → Stand (kind ≡ Free) 0 lnum (free_candidate lnum kind)
free_stand lnum Free = inl (refl, refl)
free_stand lnum Leaf = inr (λ e. cc, refl)
free_stand lnum Index = inr (λ e. cc, refl)
free_stand lnum Bud = inr (λ e. cc, refl)
free_stand lnum Taken = inr (λ e. cc, refl)

leaf_stand : (used lnum : ℕ) (kind : LebKind) → Stand (kind ≡ Leaf) used lnum (leaf_candidate used lnum kind)
leaf_stand used lnum Free = inr (λ e. cc, refl)
leaf_stand used lnum Leaf = inl (refl, refl)
leaf_stand used lnum Index = inr (λ e. cc, refl)
leaf_stand used lnum Bud = inr (λ e. cc, refl)
leaf_stand used lnum Taken = inr (λ e. cc, refl)

-- numbers of LEBs are below 2^30
low_numbers : (geo : RawGeometry) → IsGeometry geo → main_first geo + main_lebs geo < 4294967295
low_numbers geo h =
    let most : geo.max_leb_cnt * geo.leb_size ≤ 2 ^ 30 = h.max_leb_cnt in
    let few : geo.max_leb_cnt ≤ 2 ^ 30 = less geo.max_leb_cnt geo.leb_size (omega (arith, h.leb_size.0)) most in
    omega (arith, h.leb_cnt.0, h.leb_cnt.1)
  where
    less : (a b : ℕ) → 1 ≤ b → a * b ≤ 2 ^ 30 → a ≤ 2 ^ 30
    less a b p q = let m : a * 1 ≤ a * b = mul-le-mul_left a p in omega arith

free_stands : (area : MainArea) (free leaves : List Candidate) (totals : Totals) → IsPropsTree area free leaves totals → Stands (free_choice area) free
free_stands area free leaves totals h = record {
  all = h.free_ones.all;
  each = λ k few. let P : Candidate → Type 0 = λ v. Stand ((get_or area.lebs k unknown).1 ≡ Free) 0 (main_first area.geo + k) v in
      subst P (sym (h.free_ones.each k few)) (free_stand (main_first area.geo + k) (get_or area.lebs k unknown).1);
  numbers = omega (arith, low_numbers area.geo h.geometry, h.count);
  bytes = λ k few. omega arith;
}

leaf_stands : (area : MainArea) (free leaves : List Candidate) (totals : Totals) (most : ℕ) → IsPropsTree area free leaves totals → Stands (leaf_choice area most) leaves
leaf_stands area free leaves totals most h = record {
  all = h.leaf_ones.all;
  each = λ k few.
      let used : ℕ = used_bytes area.geo (get_or area.lebs k unknown).0 in
      let P : Candidate → Type 0 = λ v. Stand ((get_or area.lebs k unknown).1 ≡ Leaf) used (main_first area.geo + k) v in
      subst P (sym (h.leaf_ones.each k few)) (leaf_stand used (main_first area.geo + k) (get_or area.lebs k unknown).1);
  numbers = omega (arith, low_numbers area.geo h.geometry, h.count);
  bytes = λ k few. omega (arith, h.geometry.leb_size.1);
}

-- a main LEB has a place in the list
pub place_of : (area : MainArea) (lnum : ℕ) → length area.lebs ≡ main_lebs area.geo → IsMainLeb area.geo lnum → lnum - main_first area.geo < length area.lebs
place_of area lnum count main = omega (arith, main.low, main.high)

main_at : (area : MainArea) (lnum : ℕ) → length area.lebs ≡ main_lebs area.geo → main_first area.geo ≤ lnum → lnum - main_first area.geo < length area.lebs → IsMainLeb area.geo lnum
main_at area lnum count low few = record { low = low; high = omega arith }

pub lowest_free : (area : MainArea) (free leaves : List Candidate) (totals : Totals) (best : Candidate) → IsPropsTree area free leaves totals → IsWinner free best →
    IfSome (picked best 0) (λ lnum. IsLowestFree area lnum)
lowest_free area free leaves totals best h w =
    found (free_choice area) free best (λ lnum. IsLowestFree area lnum) (free_stands area free leaves totals h) w (λ lnum low pick. record {
      free = record { main = main_at area lnum h.count low pick.few; free = pick.may };
      lowest = λ other is. let a = pick.lowest (other - main_first area.geo) (place_of area other h.count is.main) is.free refl in omega (arith, is.main.low);
    })

pub no_free : (area : MainArea) (free leaves : List Candidate) (totals : Totals) (best : Candidate) → IsPropsTree area free leaves totals → IsWinner free best →
    IsNone (picked best 0) → (lnum : ℕ) → IsFreeLeb area lnum → ⊥
no_free area free leaves totals best h w n lnum is =
    none (free_choice area) free best (free_stands area free leaves totals h) w n (lnum - main_first area.geo) (place_of area lnum h.count is.main) is.free (omega arith)

pub victim : (area : MainArea) (free leaves : List Candidate) (totals : Totals) (best : Candidate) (most : ℕ) → IsPropsTree area free leaves totals → IsWinner leaves best →
    IfSome (picked best most) (λ lnum. IsVictim area most lnum)
victim area free leaves totals best most h w =
    found (leaf_choice area most) leaves best (λ lnum. IsVictim area most lnum) (leaf_stands area free leaves totals most h) w (λ lnum low pick. record {
      collectable = record { main = main_at area lnum h.count low pick.few; leaf = pick.may; few = pick.room };
      fewest = λ other is. pick.fewest (other - main_first area.geo) (place_of area other h.count is.main) is.leaf;
      lowest = λ other is same.
          let a = pick.lowest (other - main_first area.geo) (place_of area other h.count is.main) is.leaf same in omega (arith, is.main.low);
    })

pub no_victim : (area : MainArea) (free leaves : List Candidate) (totals : Totals) (best : Candidate) (most : ℕ) → IsPropsTree area free leaves totals → IsWinner leaves best →
    IsNone (picked best most) → (lnum : ℕ) → IsCollectable area most lnum → ⊥
no_victim area free leaves totals best most h w n lnum is =
    none (leaf_choice area most) leaves best (leaf_stands area free leaves totals most h) w n (lnum - main_first area.geo) (place_of area lnum h.count is.main) is.leaf is.few
