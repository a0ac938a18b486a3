-- The LEB that a list of orphans was written to.
use Rattle.std.proofs.Common.{◌≡◌, ℕ, suc, ◌+◌, ◌-◌, ◌*◌, ◌/◌, ◌%◌, ◌^◌, ◌<◌, ◌≤◌, true, List, [], ◌∷◌, length, refl, ◌∙◌, arith}
use Rattle.std.specs.List.{AllByRecursion, flat_map}
use Rattle.std.proofs.lemmas.Bool.{leb-true, ltb-true}
use Rattle.std.proofs.lemmas.Nat.Gcd.{dvd_of_mod-eq-zero, mod-eq-zero_of_dvd}
use Rattle.std.proofs.Math.Nat.{div-mul-le_self, dvd-mul_left_of_dvd}
use Rattle.ubifs_base.specs.Geometry.{IsGeometry}
use Rattle.ubifs_base.specs.GeometryLaws.{min_io-mod}
use Rattle.ubifs_base.specs.Node.{node_bytes}
use Rattle.ubifs_base.specs.declared.raw_geometry.RawGeometry.{RawGeometry}
use Rattle.ubi_volume.specs.Volume.{filled}
use Rattle.node_fields.specs.FieldLaws.{length-spelling}
use Rattle.node_fields.specs.Fields.{AllFit, spelling, total_width}
use Rattle.node_fields.specs.FormLaws.{written_is}
use Rattle.media_sys.specs.Orphans.{ino_fields, orphan_fields}
use Rattle.media_sys.specs.SystemNode.{IsSystemNode, orphans, system_form, written}
use Rattle.small_areas.specs.Orphans.{IsListLeb, OrphanList, list_bytes, list_len, list_size, list_units, orphan_limit}
use Rattle.sound_image.specs.OrphanLists.{HasOrphanNodes}
use Rattle.sound_image.proofs.AloneTexts.{alone_orphans, gap_orphans}

-- ---- numbers of 8 bytes
numbers_fit : (inos : List ℕ) → AllByRecursion (λ ino. ino < 2 ^ 32) inos → AllFit (flat_map ino_fields inos)
numbers_fit [] h = tt
numbers_fit (ino ∷ inos) h =
    let first = h.0 in
    let word : ino < 256 ^ 8 = omega (arith, first) in
    (word, numbers_fit inos h.1)

numbers_width : (inos : List ℕ) → total_width (flat_map ino_fields inos) ≡ 8 * length inos
numbers_width [] = refl
numbers_width (ino ∷ inos) =
    let rest = numbers_width inos in
    let sum : 8 + total_width (flat_map ino_fields inos) ≡ 8 * suc (length inos) = omega (arith, rest) in
    sum

framed_length : (sqnum kind : ℕ) (body : List ℕ) → length (node_bytes sqnum kind 0 (0 ∷ 0 ∷ []) body) ≡ 24 + length body
unfolding node_bytes
framed_length sqnum kind body = omega arith

list_long : (cmt_no sqnum : ℕ) (inos : List ℕ) → length (written sqnum 0 (orphans (record { cmt_no = cmt_no; last = true; inos = inos }))) ≡ 32 + 8 * length inos
list_long cmt_no sqnum inos =
    let fields = orphan_fields (record { cmt_no = cmt_no; last = true; inos = inos }) in
    let body : length (spelling fields []) ≡ 8 + total_width (flat_map ino_fields inos) + 0 = length-spelling fields [] in
    let width = numbers_width inos in
    let sum : 24 + length (spelling fields []) ≡ 32 + 8 * length inos = omega (arith, body, width) in
    framed_length sqnum 11 (spelling fields []) ∙ sum

list_is : (cmt_no sqnum : ℕ) (inos : List ℕ) → cmt_no < 2 ^ 63 → sqnum < 2 ^ 64 → AllByRecursion (λ ino. ino < 2 ^ 32) inos → 32 + 8 * length inos < 2 ^ 32
    → IsSystemNode (written sqnum 0 (orphans (record { cmt_no = cmt_no; last = true; inos = inos }))) sqnum 0 (orphans (record { cmt_no = cmt_no; last = true; inos = inos }))
list_is cmt_no sqnum inos commit sq fits most =
    let width = numbers_width inos in
    let word : cmt_no + 2 ^ 63 < 256 ^ 8 = omega (arith, commit) in
    let room : 24 + (8 + total_width (flat_map ino_fields inos)) + 0 < 2 ^ 32 = omega (arith, width, most) in
    written_is system_form sqnum 0 (orphans (record { cmt_no = cmt_no; last = true; inos = inos })) sq (leb-true 0 2 refl) (ltb-true 11 256 refl)
    (word, numbers_fit inos fits) room (record { cmt_fits = commit; inos_fit = fits; most = most })

units_even : (unit n : ℕ) → unit % 8 ≡ 0 → (n / unit * unit) % 8 ≡ 0
units_even unit n h = mod-eq-zero_of_dvd 8 (dvd-mul_left_of_dvd 8 (dvd_of_mod-eq-zero 8 h) (n / unit))

-- of a list with these numbers
list_orphans : (geo : RawGeometry) (cmt_no sqnum : ℕ) (inos leb : List ℕ) → IsGeometry geo → cmt_no < 2 ^ 63 → sqnum < 2 ^ 64 → AllByRecursion (λ ino. ino < 2 ^ 32) inos → length inos ≤ orphan_limit geo.leb_size
    → leb ≡ filled geo.leb_size (list_bytes (list_size geo.min_io inos) cmt_no sqnum inos) → HasOrphanNodes leb
list_orphans geo cmt_no sqnum [] leb range commit sq fits few is =
    let high = range.min_io.2 in
    gap_orphans leb geo.leb_size geo.min_io (omega (arith, high)) (min_io-mod geo range) is
list_orphans geo cmt_no sqnum (ino ∷ inos) leb range commit sq fits few is =
    let len : ℕ = list_len (ino ∷ inos) in
    let units : ℕ = list_units geo.min_io len in
    let unit = range.min_io.2 in
    let size = range.leb_size.1 in
    let even = units_even geo.min_io (len + (geo.min_io - 1)) (min_io-mod geo range) in
    let low = div-mul-le_self (len + (geo.min_io - 1)) geo.min_io in
    let most : 32 + 8 * length (ino ∷ inos) < 2 ^ 32 = omega (arith, few, size) in
    let long = list_long cmt_no sqnum (ino ∷ inos) in
    alone_orphans leb (written sqnum 0 (orphans (record { cmt_no = cmt_no; last = true; inos = ino ∷ inos }))) sqnum 0 (orphans (record { cmt_no = cmt_no; last = true; inos = ino ∷ inos }))
    (record {
      size = geo.leb_size;
      gap = units - len;
      is = is;
      words = omega (arith, long);
      even = omega (arith, even);
      fits = omega (arith, low, most, unit);
    }) (list_is cmt_no sqnum (ino ∷ inos) commit sq fits most) refl

pub list_leb_orphans : (geo : RawGeometry) (list : OrphanList) (leb : List ℕ) → IsGeometry geo → list.cmt_no < 2 ^ 63 → list.sqnum < 2 ^ 64 → AllByRecursion (λ ino. ino < 2 ^ 32) list.inos → length list.inos ≤ orphan_limit geo.leb_size
    → IsListLeb geo list leb → HasOrphanNodes leb
list_leb_orphans geo list leb range commit sq fits few h = list_orphans geo list.cmt_no list.sqnum list.inos leb range commit sq fits few h.bytes
