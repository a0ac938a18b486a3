-- The totals of a list of which one LEB is changed.
use Rattle.std.proofs.Common.{◌≡◌, ℕ, ◌+◌, ◌-◌, ◌*◌, ◌<◌, ◌≤◌, ◌^◌, Bool, true, false, subst, List, length, get_or, set, arith}
use Rattle.std.specs.Prelude.{sum_by, All, if◌then◌else◌}
use Rattle.std.proofs.lemmas.List.Elements.{All-weaker, All-from_get_or}
use Rattle.std.proofs.lemmas.List.Sums.{sum_by-set, get_or-le-sum_by, sum_by-le}
use Rattle.std.proofs.Math.Nat.{mul-le-mul_right}
use Rattle.ubifs_base.specs.Areas.{main_lebs}
use Rattle.ubifs_base.specs.Geometry.{IsGeometry}
use Rattle.ubifs_base.specs.declared.raw_geometry.RawGeometry.{RawGeometry}
use Rattle.media_lpt.specs.declared.leb_kind.LebKind.{LebKind}
use Rattle.media_lpt.specs.declared.leb_kind.LebKind.TheVariants.{Free, Leaf, Index, Bud, Taken}
use Rattle.media_lpt.specs.declared.lprop.Lprop.{Lprop}
use Rattle.lprops_tree.specs.MainArea.{MainArea, IsWithinLeb, used_bytes, unknown}
use Rattle.lprops_tree.specs.Totals.{IsFew, IsPart, exchanged, free_one, index_one, leaf_bytes, leb_totals, totals_of}
use Rattle.lprops_tree.specs.declared.totals.Totals.{Totals}

-- one number
swapped : (f : Lprop × LebKind → ℕ) (lebs : List (Lprop × LebKind)) (k : ℕ) (leb : Lprop × LebKind) → k < length lebs →
    sum_by f lebs - f (get_or lebs k unknown) + f leb ≡ sum_by f (set lebs k leb)
swapped f lebs k leb h = omega (arith, sum_by-set f lebs k leb unknown h, get_or-le-sum_by f lebs k unknown h)

same : (a b c d e a' b' c' d' e' : ℕ) → a ≡ a' → b ≡ b' → c ≡ c' → d ≡ d' → e ≡ e' →
    let left : Totals = record { free = a; dirty = b; used = c; empty = d; index = e } in
    let right : Totals = record { free = a'; dirty = b'; used = c'; empty = d'; index = e' } in
    left ≡ right
same a b c d e a' b' c' d' e' p q r s t = cc

pub totals_exchanged : (area : MainArea) (k : ℕ) (leb : Lprop × LebKind) → k < length area.lebs →
    exchanged (totals_of area) (leb_totals area.geo (get_or area.lebs k unknown)) (leb_totals area.geo leb) ≡ totals_of (record area { lebs = set area.lebs k leb })
totals_exchanged area k leb h =
    same _ _ _ _ _ _ _ _ _ _
    (swapped (λ x. x.0.free) area.lebs k leb h)
    (swapped (λ x. x.0.dirty) area.lebs k leb h)
    (swapped (λ x. leaf_bytes area.geo x.0) area.lebs k leb h)
    (swapped (λ x. free_one x.1) area.lebs k leb h)
    (swapped (λ x. index_one x.1) area.lebs k leb h)

pub one_is_part : (area : MainArea) (k : ℕ) → k < length area.lebs → IsPart (leb_totals area.geo (get_or area.lebs k unknown)) (totals_of area)
one_is_part area k h = record {
  free = get_or-le-sum_by (λ x. x.0.free) area.lebs k unknown h;
  dirty = get_or-le-sum_by (λ x. x.0.dirty) area.lebs k unknown h;
  used = get_or-le-sum_by (λ x. leaf_bytes area.geo x.0) area.lebs k unknown h;
  empty = get_or-le-sum_by (λ x. free_one x.1) area.lebs k unknown h;
  index = get_or-le-sum_by (λ x. index_one x.1) area.lebs k unknown h;
}

leaf_bytes-le : (geo : RawGeometry) (prop : Lprop) → leaf_bytes geo prop ≤ geo.leb_size
leaf_bytes-le geo prop = go prop.index
  where
    go : (b : Bool) → (if b then 0 else used_bytes geo prop) ≤ geo.leb_size
    go true = omega arith
    go false = omega arith

free_one-le : (kind : LebKind) → free_one kind ≤ 1
free_one-le Free = omega arith
free_one-le Leaf = omega arith
free_one-le Index = omega arith
free_one-le Bud = omega arith
free_one-le Taken = omega arith

index_one-le : (kind : LebKind) → index_one kind ≤ 1
index_one-le Free = omega arith
index_one-le Leaf = omega arith
index_one-le Index = omega arith
index_one-le Bud = omega arith
index_one-le Taken = omega arith

-- a volume has at most 2^30 bytes, and so at most as many LEBs
lebs_fit : (geo : RawGeometry) → IsGeometry geo → (main_lebs geo * geo.leb_size ≤ 2 ^ 30) × (main_lebs geo * 1 ≤ 2 ^ 30) × (geo.leb_size ≤ 2 ^ 30)
lebs_fit geo h =
    let most : geo.max_leb_cnt * geo.leb_size ≤ 2 ^ 30 = h.max_leb_cnt in
    let all : main_lebs geo * geo.leb_size ≤ geo.max_leb_cnt * geo.leb_size =
    mul-le-mul_right {m = main_lebs geo} {n = geo.max_leb_cnt} geo.leb_size (omega (arith, h.leb_cnt.1)) in
    let each : main_lebs geo * 1 ≤ main_lebs geo * geo.leb_size = more (main_lebs geo) geo.leb_size (omega (arith, h.leb_size.0)) in
    (omega (arith, most, all), omega (arith, most, all, each), omega (arith, h.leb_size.1))
  where
    more : (a b : ℕ) → 1 ≤ b → a * 1 ≤ a * b
    more a b p = grind (arith, p)

pub sums_are_few : (area : MainArea) → IsGeometry area.geo → length area.lebs ≡ main_lebs area.geo → All (λ leb. IsWithinLeb area.geo leb.0) area.lebs → IsFew (totals_of area)
sums_are_few area geometry count within = record {
  free = bytes (λ x. x.0.free) (All-weaker (λ x. IsWithinLeb area.geo x.0) (λ x. x.0.free ≤ area.geo.leb_size) (λ x h. omega (arith, h.fits)) area.lebs within);
  dirty = bytes (λ x. x.0.dirty) (All-weaker (λ x. IsWithinLeb area.geo x.0) (λ x. x.0.dirty ≤ area.geo.leb_size) (λ x h. omega (arith, h.fits)) area.lebs within);
  used = bytes (λ x. leaf_bytes area.geo x.0) (All-from_get_or (λ x. leaf_bytes area.geo x.0 ≤ area.geo.leb_size) area.lebs unknown (λ i l. leaf_bytes-le area.geo (get_or area.lebs i unknown).0));
  empty = ones (λ x. free_one x.1) (λ x. free_one-le x.1);
  index = ones (λ x. index_one x.1) (λ x. index_one-le x.1);
}
  where
    bytes : (f : Lprop × LebKind → ℕ) → All (λ x. f x ≤ area.geo.leb_size) area.lebs → sum_by f area.lebs ≤ 2 ^ 30
    bytes f h =
        let a : sum_by f area.lebs ≤ length area.lebs * area.geo.leb_size = sum_by-le f area.geo.leb_size area.lebs h in
        let P : ℕ → Type 0 = λ n. sum_by f area.lebs ≤ n * area.geo.leb_size in
        omega (arith, subst P count a, (lebs_fit area.geo geometry).0)

    ones : (f : Lprop × LebKind → ℕ) → ((x : Lprop × LebKind) → f x ≤ 1) → sum_by f area.lebs ≤ 2 ^ 30
    ones f h =
        let a : sum_by f area.lebs ≤ length area.lebs * 1 = sum_by-le f 1 area.lebs (All-from_get_or (λ x. f x ≤ 1) area.lebs unknown (λ i l. h (get_or area.lebs i unknown))) in
        let P : ℕ → Type 0 = λ n. sum_by f area.lebs ≤ n * 1 in
        omega (arith, subst P count a, (lebs_fit area.geo geometry).1)

pub one_is_few : (geo : RawGeometry) (leb : Lprop × LebKind) → IsGeometry geo → IsWithinLeb geo leb.0 → IsFew (leb_totals geo leb)
one_is_few geo leb geometry within =
    let size : geo.leb_size ≤ 2 ^ 30 = (lebs_fit geo geometry).2 in
    record {
      free = omega (arith, within.fits, size);
      dirty = omega (arith, within.fits, size);
      used = omega (arith, leaf_bytes-le geo leb.0, size);
      empty = omega (arith, free_one-le leb.1);
      index = omega (arith, index_one-le leb.1);
    }
