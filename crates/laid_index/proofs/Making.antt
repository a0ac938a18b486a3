-- Room in LEBs that suffice.
use Rattle.std.proofs.Common.{ℕ, ◌+◌, ◌<◌, ◌≤◌, List, [], ◌∷◌, ◌++◌, length, ap, arith, length-append}
use Rattle.std.specs.Prelude.{OnOk, IfOk, Result, Ok, Err}
use Rattle.ubifs_base.specs.declared.raw_geometry.RawGeometry.{RawGeometry}
use Rattle.laid_index.specs.Opened.{open_lnum, taken_after}
use Rattle.laid_index.specs.Packing.{packed}
use Rattle.laid_index.specs.declared.open_leb.OpenLeb.{OpenLeb}
use Rattle.laid_index.proofs.Packs.{packed_grows, packed_next, packed_some}

-- what holds where a call succeeded
pub on_ok : {X : Type 0} {E : Type 0} (r : Result X E) (P Q : Type 0) → (P → Q) → OnOk r P → OnOk r Q
on_ok (Ok x) P Q f h = f h
on_ok (Err e) P Q f h = tt

pub if_ok : {X : Type 0} {E : Type 0} (r : Result X E) (P Q : X → Type 0) → ((x : X) → P x → Q x) → IfOk r P → IfOk r Q
if_ok (Ok x) P Q f h = f x h
if_ok (Err e) P Q f h = tt

-- the open LEB is one of them
pub open_among : (geo : RawGeometry) (lens : List ℕ) (leb : OpenLeb) → open_lnum leb + 1 ≤ leb.first + length (taken_after geo leb lens)
open_among geo lens leb =
    let a = length-append leb.used.items (packed geo.leb_size (length leb.bytes.items) lens) in
    let s = packed_some geo.leb_size (length leb.bytes.items) lens in
    omega (arith, a, s)

-- so is the next one, if a node doesn't fit
pub next_among : (geo : RawGeometry) (len : ℕ) (leb : OpenLeb) → geo.leb_size < length leb.bytes.items + len → len ≤ geo.leb_size
    → open_lnum leb + 2 ≤ leb.first + length (taken_after geo leb (len ∷ []))
next_among geo len leb over fits =
    let a = length-append leb.used.items (packed geo.leb_size (length leb.bytes.items) (len ∷ [])) in
    let e = ap length (packed_next geo.leb_size (length leb.bytes.items) len [] over fits) in
    let s = packed_some geo.leb_size 0 (len ∷ []) in
    omega (arith, a, e, s)

-- more nodes take no fewer
pub more_taken : (geo : RawGeometry) (xs ys : List ℕ) (leb : OpenLeb) → length (taken_after geo leb xs) ≤ length (taken_after geo leb (xs ++ ys))
more_taken geo xs ys leb =
    let a = length-append leb.used.items (packed geo.leb_size (length leb.bytes.items) xs) in
    let b = length-append leb.used.items (packed geo.leb_size (length leb.bytes.items) (xs ++ ys)) in
    let s = packed_grows geo.leb_size (length leb.bytes.items) xs ys in
    omega (arith, a, b, s)

pub if_ok_all : {X : Type 0} {E : Type 0} (r : Result X E) (P Q R S : X → Type 0) → ((x : X) → P x → Q x → R x → S x) → IfOk r P → IfOk r Q → IfOk r R → IfOk r S
if_ok_all (Ok x) P Q R S f a b d = f x a b d
if_ok_all (Err e) P Q R S f a b d = tt
