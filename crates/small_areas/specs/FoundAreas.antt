-- A volume that was found after a cut, or was loaded, meets what a write of a master asks for.
use Rattle.std.specs.Prelude.{◌≡◌, ℕ, ◌%◌, ◌==◌, ◌<◌, ◌≤◌, true, List, [], ◌∷◌, length, drop, replicate}
use Rattle.std.proofs.Common.{refl, ap, ◌∙◌, subst, arith, length-drop}
use Rattle.std.proofs.lemmas.Bool.{and_parts, eqb-true}
use Rattle.std.proofs.lemmas.Nat.Gcd.{dvd_of_mod-eq-zero, mod-eq-zero_of_dvd, dvd_trans}
use Rattle.ubi_volume.specs.Loading.{IsErased, IsFound}
use Rattle.ubi_volume.specs.Volume.{VolumeState, Keeps}
use Rattle.leb_scan.specs.Text.{is_blank}
use Rattle.small_areas.specs.Copies.{IsOpen, IsPlace, IsStart}
use Rattle.small_areas.specs.Masters.{IsLatest}
use Rattle.small_areas.specs.declared.placed_master.PlacedMaster.{PlacedMaster}

blank_is : (bytes : List ℕ) → is_blank bytes ≡ true → bytes ≡ replicate (length bytes) 255
blank_is [] h = refl
blank_is (x ∷ bytes) h =
    let parts = and_parts (x == 0xFF) (is_blank bytes) h in
    ap (λ (y : ℕ). y ∷ bytes) (eqb-true x 255 parts.0) ∙ ap (λ (rest : List ℕ). 255 ∷ rest) (blank_is bytes parts.1)

blank_erased : (leb : List ℕ) (place : ℕ) → is_blank (drop place leb) ≡ true → IsErased place leb
blank_erased leb place h = blank_is (drop place leb) h ∙ ap (λ (n : ℕ). replicate n 255) (length-drop place leb)

-- where the next copy goes, its LEBs are open
pub found-open : (contents : ℕ → List ℕ) (state : VolumeState) (lnum room : ℕ) → IsFound contents state → lnum < state.leb_cnt → room % state.min_io ≡ 0 → IsOpen state lnum room
found-open contents state lnum room found inside whole = λ place is.
    let starts : place % state.min_io ≡ 0 = mod-eq-zero_of_dvd state.min_io (dvd_trans state.min_io (dvd_of_mod-eq-zero state.min_io whole) (dvd_of_mod-eq-zero room is.multiple)) in
    (found.written lnum inside).least place starts (blank_erased (state.holds lnum) place is.is_text.ends)

-- and stay open while the volume is read
pub IsOpen-kept : (a b : VolumeState) (lnum room : ℕ) → Keeps a b → IsOpen a lnum room → IsOpen b lnum room
IsOpen-kept a b lnum room keeps h = λ place is.
    let P : List ℕ → Type 0 = λ leb. IsPlace leb room place in
    let low = h place (subst P (keeps.holds lnum) is) in
    let same = keeps.written lnum in
    omega (arith, low, same)

-- and the latest master, with a number that isn't below its own, is a start
pub found-start : (contents : ℕ → List ℕ) (state : VolumeState) (number : ℕ) (latest : PlacedMaster) → IsFound contents state → IsLatest (state.holds 1) (state.holds 2) latest → latest.sqnum ≤ number → IsStart state number latest
found-start contents state number latest found is low = record { latest = is; low = low; first = found.left 1; second = found.left 2 }
