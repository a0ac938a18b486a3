-- Full LEBs: as many as there are, so many bytes are used.
use Rattle.std.proofs.Common.{◌≡◌, ℕ, ◌+◌, ◌-◌, ◌*◌, ◌≤◌, ◌<◌, Bool, true, false, cond, List, [], ◌∷◌, length, zero, suc, ◌∙◌, inl, inr, add-one, refl, arith}
use Rattle.std.specs.Prelude.{count_by, sum_by, All, max}
use Rattle.std.proofs.lemmas.List.Sums.{sum_by-cons}
use Rattle.std.proofs.Math.Nat.{mul-le-mul_right, zero-mul, mul-suc}
use Rattle.std.proofs.lemmas.Bool.{cases_lt}
use Rattle.std.proofs.lemmas.List.Elements.{All-head, All-tail}
use Rattle.ubifs_base.specs.declared.raw_geometry.RawGeometry.{RawGeometry}
use Rattle.ubifs_base.specs.Geometry.{leb_reserve}
use Rattle.fs_model.specs.declared.space.Space.{Space}
use Rattle.fs_model.specs.declared.space.Need.{Need}
use Rattle.fs_model.specs.declared.space.Class.{Class}
use Rattle.fs_model.specs.declared.space.Class.TheVariants.{Ordinary, Removal}
use Rattle.fs_model.specs.Cover.{index_lebs, index_room, reserve}
use Rattle.fs_model.specs.Settled.{IsCovered, IsSettled, nothing}
use Rattle.media_lpt.specs.declared.leb_kind.LebKind.{LebKind}
use Rattle.media_lpt.specs.declared.leb_kind.LebKind.TheVariants.{Free, Leaf, Index, Bud, Taken}
use Rattle.space_sums.specs.MainLebs.{MainLeb, is_free, is_index, is_bud, is_taken, empty_count, index_count, bud_count, taken_count, IsPacked}
use Rattle.space_sums.specs.Spaces.{HasRoom, with_heads}
use Rattle.space_sums.proofs.Index.{index_lebs-grows, index_room-grows}

has_leaves : LebKind → Bool
has_leaves Free = false
has_leaves Leaf = true
has_leaves Index = false
has_leaves Bud = false
has_leaves Taken = false

leaves_count : List MainLeb → ℕ
leaves_count lebs = count_by (λ leb. has_leaves leb.kind) lebs

one_of_five : (kind : LebKind) → cond (is_free kind) 1 0 + cond (is_index kind) 1 0 + cond (is_bud kind) 1 0 + cond (is_taken kind) 1 0 + cond (has_leaves kind) 1 0 ≡ 1
unfolding has_leaves
one_of_five Free = refl
one_of_five Leaf = refl
one_of_five Index = refl
one_of_five Bud = refl
one_of_five Taken = refl

parts : (lebs : List MainLeb) → empty_count lebs + index_count lebs + bud_count lebs + taken_count lebs + leaves_count lebs ≡ length lebs
unfolding leaves_count
parts [] = refl
parts (leb ∷ rest) = omega (
  arith,
  parts rest,
  one_of_five leb.kind,
  sum_by-cons (λ x. cond (is_free x.kind) 1 0) leb rest,
  sum_by-cons (λ x. cond (is_index x.kind) 1 0) leb rest,
  sum_by-cons (λ x. cond (is_bud x.kind) 1 0) leb rest,
  sum_by-cons (λ x. cond (is_taken x.kind) 1 0) leb rest,
  sum_by-cons (λ x. cond (has_leaves x.kind) 1 0) leb rest,
)

-- one LEB
full_one : (least used : ℕ) (kind : LebKind) → (kind ≡ Leaf → least < used) → cond (has_leaves kind) 1 0 * (least + 1) ≤ used
unfolding has_leaves
full_one least used Free h = omega arith
full_one least used Leaf h = let more : least < used = h refl in omega arith
full_one least used Index h = omega arith
full_one least used Bud h = omega arith
full_one least used Taken h = omega arith

full_all : (least : ℕ) (lebs : List MainLeb) → All (λ leb. leb.kind ≡ Leaf → least < leb.used) lebs →
    leaves_count lebs * (least + 1) ≤ sum_by (λ leb. leb.used) lebs
unfolding leaves_count
full_all least [] h = omega arith
full_all least (leb ∷ rest) h =
    rw (sum_by-cons (λ x. cond (has_leaves x.kind) 1 0) leb rest, sum_by-cons (λ x. x.used) leb rest)
    (both (cond (has_leaves leb.kind) 1 0) (leaves_count rest) (least + 1) leb.used (sum_by (λ x. x.used) rest)
    (full_one least leb.used leb.kind (All-head (λ x. x.kind ≡ Leaf → least < x.used) leb rest h))
    (full_all least rest (All-tail (λ x. x.kind ≡ Leaf → least < x.used) leb rest h)))
  where
    both : (a b size x y : ℕ) → a * size ≤ x → b * size ≤ y → (a + b) * size ≤ x + y
    both a b size x y p q = grind (arith, p, q)

-- fewer LEBs are full than there is room for
few_full : (n room size : ℕ) → n * (size + 1) ≤ room * size → 0 < room → n < room
few_full n room size h p = elim (cases_lt n room) [
  | inl fewer ↦ fewer
  | inr more ↦ let wide : room * (size + 1) ≤ n * (size + 1) = mul-le-mul_right {m = room} {n = n} (size + 1) more in absurd (too_many wide)
]
  where
    mul-add : (a b : ℕ) → a * (b + 1) ≡ a * b + a
    mul-add a b = rw add-one (mul-suc a b)

    too_many : room * (size + 1) ≤ n * (size + 1) → ⊥
    too_many wide = omega (arith, h, p, wide, mul-add room size)

-- there is some room where some bytes are used
some_room : (used room size : ℕ) → 0 < used → used ≤ room * size → 0 < room
some_room used zero size p h = absurd (none (zero-mul size))
  where
    none : zero * size ≡ 0 → ⊥
    none e = omega (arith, p, h, e)
some_room used (suc room) size p h = omega arith

-- the LEBs that are left for the index
left_over : (main room leaves buds spare : ℕ) → leaves < main - room - 6 → buds ≤ 3 → spare + buds + leaves ≡ main → room + 4 ≤ spare
left_over main room leaves buds spare p q e = omega arith

least_reserve : (class : Class) → 6 ≤ reserve class
least_reserve Ordinary = omega arith
least_reserve Removal = omega arith

-- where a need has room, more LEBs than are kept for the index that it may lead to are left over
spare_for : (geo : RawGeometry) (space : Space) (need : Need) (lebs : List MainLeb) →
    0 < space.used → HasRoom geo space need → IsPacked geo space lebs →
    index_room geo space.index (space.weight + 2 * (space.credits + need.credits) + need.nodes) + 4 ≤ empty_count lebs + index_count lebs
spare_for geo space need lebs p h packed =
    let size : ℕ = geo.leb_size - leb_reserve geo in
    let kept : ℕ = index_room geo space.index (space.weight + 2 * (space.credits + need.credits) + need.nodes) in
    let fits : space.used + space.held ≤ (space.main - kept - 6) * size =
    omega (arith, h.fits, mul-le-mul_right {m = space.main - kept - reserve need.class} {n = space.main - kept - 6} size (omega (arith, least_reserve need.class))) in
    let few : leaves_count lebs < space.main - kept - 6 =
    few_full (leaves_count lebs) (space.main - kept - 6) size (omega (arith, full_all size lebs packed.full, packed.used, fits))
    (some_room (space.used + space.held) (space.main - kept - 6) size (omega (arith, p)) fits) in
    let all : empty_count lebs + index_count lebs + bud_count lebs + taken_count lebs + leaves_count lebs ≡ space.main = parts lebs ∙ packed.all in
    omega (arith, left_over space.main kept (leaves_count lebs) (bud_count lebs) (empty_count lebs + index_count lebs) few packed.buds (omega (arith, all, packed.none_taken)))

pub spare_lebs : (geo : RawGeometry) (space : Space) (lebs : List MainLeb) →
    0 < space.used → IsCovered geo space → IsPacked geo space lebs →
    index_room geo space.index (space.weight + 2 * space.credits) + 4 ≤ empty_count lebs + index_count lebs
spare_lebs geo space lebs p h packed =
    let room : HasRoom geo space nothing = record { fits = h.fits } in
    omega (
      arith,
      spare_for geo space nothing lebs p room packed,
      index_room-grows geo space.index space.index (space.weight + 2 * space.credits) (space.weight + 2 * (space.credits + 0) + 0) (omega arith) (omega arith),
    )

-- the heads may go on to three of them, and the nodes be put
pub takes_what_was_admitted : (geo : RawGeometry) (space : Space) (need : Need) (lebs : List MainLeb) (opened nodes : ℕ) →
    0 < space.used → HasRoom geo space need → IsPacked geo space lebs →
    empty_count lebs ≡ space.empty → index_count lebs ≡ space.index →
    opened ≤ 3 → nodes ≤ 2 * (space.credits + need.credits) + need.nodes →
    IsSettled geo (with_heads opened nodes space)
takes_what_was_admitted geo space need lebs opened nodes p h packed e i three few =
    let most : ℕ = space.weight + 2 * (space.credits + need.credits) + need.nodes in
    let sides =
    both (index_lebs geo (space.weight + nodes)) (index_lebs geo most) (empty_count lebs) (index_count lebs)
    (index_lebs-grows geo (space.weight + nodes) most (omega (arith, few))) e i (spare_for geo space need lebs p h packed) in
    record { empty = sides.0; index = sides.1 }
  where
    both : (a b x y : ℕ) → a ≤ b → x ≡ space.empty → y ≡ space.index → max (3 * b) (space.index + b) + 4 ≤ x + y →
        (1 + a ≤ space.empty - opened) × (1 + 3 * a ≤ space.empty - opened + space.index)
    both a b x y l e i m = (omega (arith, l, e, i, m, three), omega (arith, l, e, i, m, three))

pub settled_with_three : (geo : RawGeometry) (space : Space) (lebs : List MainLeb) →
    0 < space.used → IsCovered geo space → IsPacked geo space lebs →
    empty_count lebs ≡ space.empty → index_count lebs ≡ space.index →
    (4 + index_lebs geo space.weight ≤ space.empty) × (4 + 3 * index_lebs geo space.weight ≤ space.empty + space.index)
settled_with_three geo space lebs p h packed e i =
    both (index_lebs geo space.weight) (index_lebs geo (space.weight + 2 * space.credits)) (empty_count lebs) (index_count lebs)
    (index_lebs-grows geo space.weight (space.weight + 2 * space.credits) (omega arith)) e i (spare_lebs geo space lebs p h packed)
  where
    both : (a b x y : ℕ) → a ≤ b → x ≡ space.empty → y ≡ space.index → max (3 * b) (space.index + b) + 4 ≤ x + y →
        (4 + a ≤ space.empty) × (4 + 3 * a ≤ space.empty + space.index)
    both a b x y l e i m = (omega arith, omega arith)
