-- The nodes of references, and lengths in units.
use Rattle.std.proofs.Common.{◌≡◌, ℕ, zero, suc, ◌+◌, ◌%◌, ◌≤◌, ◌-◌, Bool, true, false, List, [], ◌∷◌, length, take, refl, ap, sym, ◌∙◌, subst, arith}
use Rattle.std.proofs.lemmas.Nat.Gcd.{dvd_of_mod-eq-zero, mod-eq-zero_of_dvd, dvd_trans}
use Rattle.std.proofs.Math.Nat.{dvd-add}
use Rattle.std.proofs.lemmas.Bool.{leb-true}
use Rattle.ubifs_base.specs.Geometry.{IsGeometry}
use Rattle.ubifs_base.specs.declared.raw_geometry.RawGeometry.{RawGeometry}
use Rattle.ubi_volume.specs.Volume.{VolumeState, SameShape}
use Rattle.media_sys.specs.declared.ref_node.RefNode.{RefNode}
use Rattle.bud_log.specs.LogAt.{LogAt, IsAt, has_room, padded_room_of, offs_at, ending, reference_to, references_to, head_nodes}
use Rattle.bud_log.specs.Writing.{references_in}
use Rattle.bud_log.specs.declared.head_at.HeadAt.{HeadAt}

-- the nodes of references to where heads go on
pub references_same : (heads : List HeadAt) → references_in (head_nodes heads) ≡ references_to heads
references_same [] = refl
references_same (at ∷ heads) = ap (λ (r : List RefNode). reference_to at ∷ r) (references_same heads)

pub first_references : (n : ℕ) (heads : List HeadAt) → references_in (take n (head_nodes heads)) ≡ take n (references_to heads)
first_references zero heads = refl
first_references (suc n) [] = refl
first_references (suc n) (at ∷ heads) = ap (λ (r : List RefNode). reference_to at ∷ r) (first_references n heads)

-- as many as heads
pub as_many : (heads : List HeadAt) → (length (head_nodes heads) ≡ length heads) × (length (references_to heads) ≡ length heads)
as_many [] = (refl, refl)
as_many (at ∷ heads) = let rest = as_many heads in (ap suc rest.0, ap suc rest.1)

-- multiples of a multiple
pub mod_through : (place room unit : ℕ) → place % room ≡ 0 → room % unit ≡ 0 → place % unit ≡ 0
mod_through place room unit h k = mod-eq-zero_of_dvd unit (dvd_trans unit (dvd_of_mod-eq-zero unit k) (dvd_of_mod-eq-zero room h))

-- units behind units
pub units_then : (place n unit : ℕ) → place % unit ≡ 0 → n % unit ≡ 0 → (place + n) % unit ≡ 0
units_then place n unit h k = mod-eq-zero_of_dvd unit (dvd-add unit (dvd_of_mod-eq-zero unit h) (dvd_of_mod-eq-zero unit k))

-- bytes were written behind the end of a log
pub at_here : (a b : VolumeState) (at : LogAt) (n : ℕ) → IsAt a at → at.offs + n ≤ at.geo.leb_size → n % at.geo.min_io ≡ 0 → b.written at.lnum ≡ at.offs + n → SameShape a b → IsAt b (ending at at.lnum (at.offs + n))
at_here a b at n h room whole written shape =
    let lebs = h.lebs in
    let cnt = shape.leb_cnt in
    record {
      leb_size = h.leb_size ∙ sym shape.leb_size;
      min_io = h.min_io ∙ sym shape.min_io;
      lebs = omega (arith, lebs, cnt);
      first = h.first;
      section = h.section;
      here = h.here;
      on_the_way = h.on_the_way;
      within = room;
      unit = units_then at.offs n at.geo.min_io h.unit whole;
      is_open = omega (arith, written);
    }

-- a write of the log fits a LEB
pub fits_leb : (geo : RawGeometry) (n len : ℕ) → IsGeometry geo → len ≤ 224 → n ≤ len + (geo.min_io - 1) → n ≤ geo.leb_size
fits_leb geo n len h short high = let size = h.leb_size.3 in omega (arith, size, short, high)

-- and a reference fits where it goes
pub fits_there : (here : Bool) (at : LogAt) (n : ℕ) → here ≡ has_room at → n ≡ padded_room_of at.geo.min_io 64 → n ≤ at.geo.leb_size → offs_at here at + n ≤ at.geo.leb_size
fits_there true at n e is fits = let P : ℕ → Type 0 = λ k. at.offs + k ≤ at.geo.leb_size in subst P (sym is) (leb-true (at.offs + padded_room_of at.geo.min_io 64) at.geo.leb_size (sym e))
fits_there false at n e is fits = omega (arith, fits)
