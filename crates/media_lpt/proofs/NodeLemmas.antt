-- Nodes with four items each.
use Rattle.std.proofs.Common.{◌≡◌, ℕ, ◌+◌, ◌*◌, ◌/◌, ◌%◌, ◌^◌, ◌<◌, List, [], ◌∷◌, length, get_or, refl, ap, sym, ◌∙◌, arith, subst}
use Rattle.std.specs.List.{flat_map, AllByRecursion}
use Rattle.ubifs_base.specs.NodeLaws.{IsBytes}
use Rattle.ubifs_base.specs.Properties.{node_number_bits, space_bits, place_lnum_bits, place_offs_bits}
use Rattle.ubifs_base.specs.declared.raw_geometry.RawGeometry.{RawGeometry}
use Rattle.media_lpt.specs.declared.lprop.Lprop.{Lprop}
use Rattle.media_lpt.specs.declared.pnode.Pnode.{Pnode}
use Rattle.media_lpt.specs.declared.nnode.LptPlace.{LptPlace}
use Rattle.media_lpt.specs.declared.nnode.Nnode.{Nnode}
use Rattle.media_lpt.specs.Nodes.{lprop_fields, pnode_fields, IsInEights, IsPnodeBytes, place_fields, nnode_fields, IsPlace, IsNnodeBytes}
use Rattle.media_lpt.specs.Packed.{field, bits_len, bytes_number, IsAt, IsFramed}
use Rattle.media_lpt.specs.PackedLaws.{IsAt-AllFit, packed-framed, framed-packed, bits_len-flat_map}
use Rattle.media_lpt.proofs.ItemLemmas.{IsAt-cons, four_at, bits_len-four, at_item, all_item}

pub bits_len-lprop : (geo : RawGeometry) (prop : Lprop) → bits_len (lprop_fields geo prop) ≡ 2 * space_bits geo + 1
unfolding lprop_fields bits_len
bits_len-lprop geo prop = omega arith

pub bits_len-pnode : (geo : RawGeometry) (node : Pnode) → length node.props ≡ 4 → bits_len (pnode_fields geo node) ≡ node_number_bits geo + 4 * (2 * space_bits geo + 1)
unfolding pnode_fields bits_len
bits_len-pnode geo node four =
    let w = 2 * space_bits geo + 1 in
    ap (λ n. node_number_bits geo + n) (bits_len-flat_map (lprop_fields geo) w node.props (bits_len-lprop geo) ∙ ap (λ n. n * w) four)

-- what isn't framed is no pnode
pub pnode-framed : (geo : RawGeometry) (bytes : List ℕ) (node : Pnode) (bits : ℕ) → IsBytes bytes → bits ≡ node_number_bits geo + 4 * (2 * space_bits geo + 1) → IsPnodeBytes geo bytes node → IsFramed bytes 0 bits
pnode-framed geo bytes node bits fits e h =
    let P : ℕ → Type 0 = λ n. IsFramed bytes 0 n in
    let is = h.is in
    subst P (bits_len-pnode geo node is.four ∙ sym e) (packed-framed bytes 0 (pnode_fields geo node) fits (omega arith) is.fit h.packed).0

pub pnode_found : (geo : RawGeometry) (bytes : List ℕ) (nb w num : ℕ) (a b c d : Lprop) → nb ≡ node_number_bits geo → w ≡ 2 * space_bits geo + 1 → IsFramed bytes 0 (nb + 4 * w)
    → num ≡ bytes_number bytes / 2 ^ 20 % 2 ^ nb → IsAt bytes (20 + nb) (lprop_fields geo a) → IsAt bytes (20 + nb + w) (lprop_fields geo b) → IsAt bytes (20 + nb + 2 * w) (lprop_fields geo c)
    → IsAt bytes (20 + nb + 3 * w) (lprop_fields geo d) → AllByRecursion IsInEights (a ∷ b ∷ c ∷ d ∷ []) → IsPnodeBytes geo bytes (record { num = num; props = a ∷ b ∷ c ∷ d ∷ [] })
unfolding pnode_fields
pnode_found geo bytes nb w num a b c d en ew framed number ha hb hc hd eights =
    let node : Pnode = record { num = num; props = a ∷ b ∷ c ∷ d ∷ [] } in
    let wide : (p : Lprop) → bits_len (lprop_fields geo p) ≡ w = λ p. bits_len-lprop geo p ∙ sym ew in
    let N : ℕ → Type 0 = λ n. IsAt bytes 20 (field n num ∷ flat_map (lprop_fields geo) node.props) in
    let at : IsAt bytes 20 (pnode_fields geo node) = subst N en (IsAt-cons bytes 20 nb num (flat_map (lprop_fields geo) node.props) number (four_at (lprop_fields geo) w bytes (20 + nb) a b c d wide ha hb hc hd)) in
    let e : nb + 4 * w ≡ bits_len (pnode_fields geo node) = ap (λ n. n + 4 * w) en ∙ ap (λ n. node_number_bits geo + 4 * n) ew ∙ sym (bits_len-pnode geo node refl) in
    let F : ℕ → Type 0 = λ n. IsFramed bytes 0 n in
    record {
      is = record { four = refl; eights = eights; fit = IsAt-AllFit bytes 20 (pnode_fields geo node) at };
      packed = framed-packed bytes 0 (pnode_fields geo node) (subst F e framed) at;
    }

pub bits_len-place : (geo : RawGeometry) (place : LptPlace) → bits_len (place_fields geo place) ≡ place_lnum_bits geo + place_offs_bits geo
unfolding place_fields bits_len
bits_len-place geo place = omega arith

pub bits_len-nnode : (geo : RawGeometry) (node : Nnode) → length node.places ≡ 4 → bits_len (nnode_fields geo node) ≡ node_number_bits geo + 4 * (place_lnum_bits geo + place_offs_bits geo)
unfolding nnode_fields bits_len
bits_len-nnode geo node four = ap (λ n. node_number_bits geo + n) (bits_len-four (place_fields geo) (place_lnum_bits geo + place_offs_bits geo) node.places (bits_len-place geo) four)

-- what isn't framed is no nnode
pub nnode-framed : (geo : RawGeometry) (bytes : List ℕ) (node : Nnode) (bits : ℕ) → IsBytes bytes → bits ≡ node_number_bits geo + 4 * (place_lnum_bits geo + place_offs_bits geo) → IsNnodeBytes geo bytes node → IsFramed bytes 1 bits
nnode-framed geo bytes node bits fits e h =
    let P : ℕ → Type 0 = λ n. IsFramed bytes 1 n in
    let is = h.is in
    subst P (bits_len-nnode geo node is.four ∙ sym e) (packed-framed bytes 1 (nnode_fields geo node) fits (omega arith) is.fit h.packed).0

-- the places of an nnode are read behind its number
pub nnode_places : (geo : RawGeometry) (bytes : List ℕ) (node : Nnode) → IsBytes bytes → IsNnodeBytes geo bytes node → IsAt bytes (20 + node_number_bits geo) (flat_map (place_fields geo) node.places)
unfolding nnode_fields IsAt
nnode_places geo bytes node fits h = (packed-framed bytes 1 (nnode_fields geo node) fits (omega arith) h.is.fit h.packed).1.1

-- where a place reads as none, there is no nnode
pub no_nnode : (geo : RawGeometry) (bytes : List ℕ) (i at : ℕ) → i < 4 → at ≡ 20 + node_number_bits geo + i * (place_lnum_bits geo + place_offs_bits geo) → IsBytes bytes
    → ((place : LptPlace) → IsPlace geo place → IsAt bytes at (place_fields geo place) → ⊥) → (node : Nnode) → IsNnodeBytes geo bytes node → ⊥
no_nnode geo bytes i at low e fits none node h =
    let d : LptPlace = record { lnum = 0; offs = 0 } in
    let is = h.is in
    let four = is.four in
    let there : i < length node.places = omega (arith, four, low) in
    let P : ℕ → Type 0 = λ n. IsAt bytes n (place_fields geo (get_or node.places i d)) in
    none (get_or node.places i d) (all_item (IsPlace geo) node.places i d there is.places)
    (subst P (sym e) (at_item (place_fields geo) (place_lnum_bits geo + place_offs_bits geo) bytes (20 + node_number_bits geo) node.places i d (bits_len-place geo) there (nnode_places geo bytes node fits h)))

pub nnode_found : (geo : RawGeometry) (bytes : List ℕ) (nb w num : ℕ) (a b c d : LptPlace) → nb ≡ node_number_bits geo → w ≡ place_lnum_bits geo + place_offs_bits geo → IsFramed bytes 1 (nb + 4 * w)
    → num ≡ bytes_number bytes / 2 ^ 20 % 2 ^ nb → IsAt bytes (20 + nb) (place_fields geo a) → IsAt bytes (20 + nb + w) (place_fields geo b) → IsAt bytes (20 + nb + 2 * w) (place_fields geo c)
    → IsAt bytes (20 + nb + 3 * w) (place_fields geo d) → AllByRecursion (IsPlace geo) (a ∷ b ∷ c ∷ d ∷ []) → IsNnodeBytes geo bytes (record { num = num; places = a ∷ b ∷ c ∷ d ∷ [] })
unfolding nnode_fields
nnode_found geo bytes nb w num a b c d en ew framed number ha hb hc hd places =
    let node : Nnode = record { num = num; places = a ∷ b ∷ c ∷ d ∷ [] } in
    let wide : (p : LptPlace) → bits_len (place_fields geo p) ≡ w = λ p. bits_len-place geo p ∙ sym ew in
    let N : ℕ → Type 0 = λ n. IsAt bytes 20 (field n num ∷ flat_map (place_fields geo) node.places) in
    let at : IsAt bytes 20 (nnode_fields geo node) = subst N en (IsAt-cons bytes 20 nb num (flat_map (place_fields geo) node.places) number (four_at (place_fields geo) w bytes (20 + nb) a b c d wide ha hb hc hd)) in
    let e : nb + 4 * w ≡ bits_len (nnode_fields geo node) = ap (λ n. n + 4 * w) en ∙ ap (λ n. node_number_bits geo + 4 * n) ew ∙ sym (bits_len-nnode geo node refl) in
    let F : ℕ → Type 0 = λ n. IsFramed bytes 1 n in
    record {
      is = record { four = refl; places = places; fit = IsAt-AllFit bytes 20 (nnode_fields geo node) at };
      packed = framed-packed bytes 1 (nnode_fields geo node) (subst F e framed) at;
    }
