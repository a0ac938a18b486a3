-- A collection loses its victim's bytes, less than one node, and less than one unit.
use Rattle.std.proofs.Common.{◌≡◌, ℕ, zero, suc, Bool, true, false, ◌+◌, ◌-◌, ◌*◌, ◌/◌, ◌<◌, ◌≤◌, List, [], ◌∷◌, refl, sym, ap, subst, ◌∙◌, arith}
use Rattle.std.specs.Prelude.{IsTrue, nat_le, fold, sum}
use Rattle.std.specs.List.{list_all}
use Rattle.std.proofs.lemmas.Bool.{and_parts, leb-true, leb-false}
use Rattle.std.proofs.lemmas.List.Sums.{sum_by-cons}
use Rattle.std.proofs.Math.Nat.{lt-div-mul-add, mul-suc}
use Rattle.ubifs_base.specs.declared.raw_geometry.RawGeometry.{RawGeometry}
use Rattle.ubifs_base.specs.Geometry.{leb_reserve}
use Rattle.space_sums.specs.Passes.{Copies, collected, copied}

sub_none : (n : ℕ) → n ≡ n - 0
sub_none n = omega arith

sums : (n : ℕ) (nodes : List ℕ) → sum (n ∷ nodes) ≡ n + sum nodes
sums n nodes = sum_by-cons (λ x. x) n nodes

-- nodes that the head's LEB has left are all copied there
fit : (geo : RawGeometry) (at : Copies) (nodes : List ℕ) → sum nodes ≤ at.room → fold (copied geo) at nodes ≡ record at { room = at.room - sum nodes }
fit geo at [] h = ap (λ room. record at { room = room }) (sub_none at.room)
fit geo at (n ∷ nodes) h = by (fit geo (record at { room = at.room - n }) nodes) (nat_le n at.room) refl
  where
    by : (sum nodes ≤ at.room - n → fold (copied geo) (record at { room = at.room - n }) nodes ≡ record at { room = at.room - n - sum nodes })
        → (b : Bool) → nat_le n at.room ≡ b → fold (copied geo) (copied geo at n) nodes ≡ record at { room = at.room - sum (n ∷ nodes) }
    by rest true e =
        let same : at.room - n - sum nodes ≡ at.room - sum (n ∷ nodes) = omega (arith, sums n nodes) in
        rw e (rest (omega (arith, h, sums n nodes)) ∙ ap (λ room. record at { room = room }) same)
    by rest false e = absurd (omega (arith, h, sums n nodes, leb-false n at.room e))

-- a LEB's bytes and one more LEB's
one_more : (size empty : ℕ) → size * empty ≤ size * (empty - 1) + size
one_more size zero = omega arith
one_more size (suc e) = by (suc e - 1) (omega arith)
  where
    by : (k : ℕ) → k ≡ e → size * suc e ≤ size * k + size
    by k same = rw (same, mul-suc size e) (omega arith)

-- nodes that an empty LEB takes: their bytes are lost, and less than one node
pub lose : (geo : RawGeometry) (at : Copies) (nodes : List ℕ) → IsTrue (list_all (λ bytes. nat_le bytes 4256) nodes) → sum nodes ≤ geo.leb_size
    → geo.leb_size * at.empty + at.room ≤ geo.leb_size * (fold (copied geo) at nodes).empty + (fold (copied geo) at nodes).room + sum nodes + 4256
lose geo at [] all h = omega arith
lose geo at (n ∷ nodes) all h = by (lose geo (record at { room = at.room - n }) nodes) (and_parts (nat_le n 4256) (list_all (λ bytes. nat_le bytes 4256) nodes) all) (nat_le n at.room) refl
  where
    Goal : Copies → Type 0
    Goal end = geo.leb_size * at.empty + at.room ≤ geo.leb_size * end.empty + end.room + sum (n ∷ nodes) + 4256

    Less : Type 0
    Less = let end = fold (copied geo) (record at { room = at.room - n }) nodes in
        list_all (λ bytes. nat_le bytes 4256) nodes ≡ true → sum nodes ≤ geo.leb_size → geo.leb_size * at.empty + (at.room - n) ≤ geo.leb_size * end.empty + end.room + sum nodes + 4256

    by : Less → (nat_le n 4256 ≡ true) × (list_all (λ bytes. nat_le bytes 4256) nodes ≡ true) → (b : Bool) → nat_le n at.room ≡ b → Goal (fold (copied geo) (copied geo at n) nodes)
    by less p true e =
        let rest = less p.1 (omega (arith, h, sums n nodes)) in
        rw e (omega (arith, rest, sums n nodes, leb-true n at.room e))
    by less p false e =
        let end = fit geo (record { empty = at.empty - 1; room = geo.leb_size - n }) nodes (omega (arith, h, sums n nodes)) in
        rw e (subst Goal (sym end) (omega (arith, h, sums n nodes, leb-false n at.room e, leb-true n 4256 p.0, one_more geo.leb_size at.empty)))

-- a whole collection
pub gain : (geo : RawGeometry) (at : Copies) (nodes : List ℕ) → 0 < geo.min_io → leb_reserve geo ≤ geo.leb_size
    → IsTrue (list_all (λ bytes. nat_le bytes 4256) nodes) → sum nodes ≤ geo.leb_size - leb_reserve geo
    → 1024 + geo.leb_size * at.empty + at.room ≤ geo.leb_size * (collected geo at nodes).empty + (collected geo at nodes).room
gain geo at nodes unit size all h =
    let end = fold (copied geo) at nodes in
    let lost = lose geo at nodes all (omega (arith, h)) in
    let filled : end.room < end.room / geo.min_io * geo.min_io + geo.min_io = lt-div-mul-add unit in
    let more : geo.leb_size * (end.empty + 1) ≡ geo.leb_size * end.empty + geo.leb_size = grind (arith) in
    omega (arith, lost, filled, more, h, size)
