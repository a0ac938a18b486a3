-- How a LEB takes leaves as long as they fit.
use Rattle.std.proofs.Common.{◌≡◌, ℕ, ◌+◌, ◌<◌, ◌≤◌, List, [], ◌∷◌, ◌++◌, length, refl, sym, ap, ◌∙◌, arith, append_assoc, length-append, inl, inr}
use Rattle.std.proofs.lemmas.Bool.{cases_lt, le-leb, lt-leb}
use Rattle.ubifs_base.specs.declared.raw_geometry.RawGeometry.{RawGeometry}
use Rattle.media_leaf.specs.LeafNode.{LeafNode}
use Rattle.group_nodes.specs.Texts.{padded_leaf_bytes}
use Rattle.image_maker.specs.declared.open_leb.OpenLeb.{OpenLeb}
use Rattle.image_maker.specs.Laying.{IsLeafLebClosed, TakesLeaf}
use Rattle.image_maker.specs.Packed.{packed_after, packed_leaves}

pub packed_none : (size taken : ℕ) → packed_leaves size taken [] ≡ taken ∷ []
unfolding packed_leaves
packed_none size taken = refl

-- a leaf that fits
pub packed_fits : (size taken : ℕ) (leaf : LeafNode) (leaves : List LeafNode) → taken + padded_leaf_bytes leaf ≤ size → packed_leaves size taken (leaf ∷ leaves) ≡ packed_leaves size (taken + padded_leaf_bytes leaf) leaves
unfolding packed_leaves
packed_fits size taken leaf leaves le = let e = le-leb (taken + padded_leaf_bytes leaf) size le in rw e refl

-- and one that goes into the next LEB
pub packed_over : (size taken : ℕ) (leaf : LeafNode) (leaves : List LeafNode) → size < taken + padded_leaf_bytes leaf → packed_leaves size taken (leaf ∷ leaves) ≡ taken ∷ packed_leaves size (padded_leaf_bytes leaf) leaves
unfolding packed_leaves
packed_over size taken leaf leaves lt = let e = lt-leb (taken + padded_leaf_bytes leaf) size lt in rw e refl

-- some LEB is taken, and no fewer by more leaves
pub packed_some : (size taken : ℕ) (leaves : List LeafNode) → 1 ≤ length (packed_leaves size taken leaves)
packed_some size taken [] = let e = ap length (packed_none size taken) in omega (arith, e)
packed_some size taken (leaf ∷ leaves) = elim (cases_lt size (taken + padded_leaf_bytes leaf)) [
  | inl over ↦ let e = ap length (packed_over size taken leaf leaves over) in omega (arith, e)
  | inr fits ↦
      let e = ap length (packed_fits size taken leaf leaves (omega (arith, fits))) in
      let more = packed_some size (taken + padded_leaf_bytes leaf) leaves in
      omega (arith, e, more)
]

packed_grows : (size taken : ℕ) (first more : List LeafNode) → length (packed_leaves size taken first) ≤ length (packed_leaves size taken (first ++ more))
packed_grows size taken [] more =
    let e = ap length (packed_none size taken) in
    let some = packed_some size taken more in
    omega (arith, e, some)
packed_grows size taken (leaf ∷ first) more = elim (cases_lt size (taken + padded_leaf_bytes leaf)) [
  | inl over ↦
      let a = ap length (packed_over size taken leaf first over) in
      let b = ap length (packed_over size taken leaf (first ++ more) over) in
      let grows = packed_grows size (padded_leaf_bytes leaf) first more in
      omega (arith, a, b, grows)
  | inr fits ↦
      let a = ap length (packed_fits size taken leaf first (omega (arith, fits))) in
      let b = ap length (packed_fits size taken leaf (first ++ more) (omega (arith, fits))) in
      let grows = packed_grows size (taken + padded_leaf_bytes leaf) first more in
      omega (arith, a, b, grows)
]

pub packed_after_grows : (raw : RawGeometry) (leb : OpenLeb) (first more : List LeafNode) → length (packed_after raw leb first) ≤ length (packed_after raw leb (first ++ more))
packed_after_grows raw leb first more =
    let a = length-append leb.used.items (packed_leaves raw.leb_size (length leb.bytes.items) first) in
    let b = length-append leb.used.items (packed_leaves raw.leb_size (length leb.bytes.items) (first ++ more)) in
    let grows = packed_grows raw.leb_size (length leb.bytes.items) first more in
    omega (arith, a, b, grows)

-- the open LEB is among those that are taken
pub packed_after_some : (raw : RawGeometry) (leb : OpenLeb) (leaves : List LeafNode) → length leb.used.items < length (packed_after raw leb leaves)
packed_after_some raw leb leaves =
    let a = length-append leb.used.items (packed_leaves raw.leb_size (length leb.bytes.items) leaves) in
    let some = packed_some raw.leb_size (length leb.bytes.items) leaves in
    omega (arith, a, some)

-- a LEB is closed before a leaf that doesn't fit
pub closed_packs : (raw : RawGeometry) (before after : OpenLeb) (old new : ℕ → List ℕ) (leaf : LeafNode) (leaves : List LeafNode) → IsLeafLebClosed raw before after old new
    → raw.leb_size < length before.bytes.items + padded_leaf_bytes leaf → padded_leaf_bytes leaf ≤ raw.leb_size → packed_after raw after (leaf ∷ leaves) ≡ packed_after raw before (leaf ∷ leaves)
closed_packs raw before after old new leaf leaves closed over most =
    let empty : length after.bytes.items ≡ 0 = ap length closed.bytes in
    let rest = packed_leaves raw.leb_size (padded_leaf_bytes leaf) leaves in
    let zero : length after.bytes.items + padded_leaf_bytes leaf ≡ padded_leaf_bytes leaf = omega (arith, empty) in
    ap (λ xs. xs ++ packed_leaves raw.leb_size (length after.bytes.items) (leaf ∷ leaves)) closed.used
    ∙ ap (λ xs. (before.used.items ++ length before.bytes.items ∷ []) ++ xs) (packed_fits raw.leb_size (length after.bytes.items) leaf leaves (omega (arith, empty, most)) ∙ ap (λ (n : ℕ). packed_leaves raw.leb_size n leaves) zero)
    ∙ append_assoc before.used.items (length before.bytes.items ∷ []) rest
    ∙ ap (λ xs. before.used.items ++ xs) (sym (packed_over raw.leb_size (length before.bytes.items) leaf leaves over))

-- and a leaf goes behind the others
pub taken_packs : (raw : RawGeometry) (before after : OpenLeb) (leaf : LeafNode) (leaves : List LeafNode) → TakesLeaf leaf before after
    → length before.bytes.items + padded_leaf_bytes leaf ≤ raw.leb_size → packed_after raw after leaves ≡ packed_after raw before (leaf ∷ leaves)
taken_packs raw before after leaf leaves takes fits =
    ap (λ xs. xs ++ packed_leaves raw.leb_size (length after.bytes.items) leaves) takes.used
    ∙ ap (λ (n : ℕ). before.used.items ++ packed_leaves raw.leb_size n leaves) takes.len
    ∙ ap (λ xs. before.used.items ++ xs) (sym (packed_fits raw.leb_size (length before.bytes.items) leaf leaves fits))
