-- The two tables.
use Rattle.std.proofs.Common.{◌≡◌, ℕ, ◌*◌, List, length, ap, sym, ◌∙◌, arith, subst}
use Rattle.std.specs.List.{flat_map}
use Rattle.ubifs_base.specs.NodeLaws.{IsBytes}
use Rattle.ubifs_base.specs.Properties.{fls}
use Rattle.ubifs_base.specs.declared.raw_geometry.RawGeometry.{RawGeometry}
use Rattle.media_lpt.specs.declared.ltab.LptRow.{LptRow}
use Rattle.media_lpt.specs.Nodes.{row_fields, IsLtabBytes, lnum_bits, lnum_fields, IsLsaveBytes}
use Rattle.media_lpt.specs.Packed.{bits_len, IsAt, IsFramed}
use Rattle.media_lpt.specs.PackedLaws.{IsAt-AllFit, packed-framed, framed-packed, bits_len-flat_map}

pub bits_len-row : (geo : RawGeometry) (row : LptRow) → bits_len (row_fields geo row) ≡ 2 * fls geo.leb_size
unfolding row_fields bits_len
bits_len-row geo row = omega arith

pub bits_len-rows : (geo : RawGeometry) (rows : List LptRow) → length rows ≡ geo.lpt_lebs → bits_len (flat_map (row_fields geo) rows) ≡ geo.lpt_lebs * (2 * fls geo.leb_size)
bits_len-rows geo rows whole = bits_len-flat_map (row_fields geo) (2 * fls geo.leb_size) rows (bits_len-row geo) ∙ ap (λ n. n * (2 * fls geo.leb_size)) whole

pub ltab-framed : (geo : RawGeometry) (bytes : List ℕ) (rows : List LptRow) (bits : ℕ) → IsBytes bytes → bits ≡ geo.lpt_lebs * (2 * fls geo.leb_size) → IsLtabBytes geo bytes rows → IsFramed bytes 2 bits
ltab-framed geo bytes rows bits fits e h =
    let P : ℕ → Type 0 = λ n. IsFramed bytes 2 n in
    subst P (bits_len-rows geo rows h.is.whole ∙ sym e) (packed-framed bytes 2 (flat_map (row_fields geo) rows) fits (omega arith) h.is.fit h.packed).0

pub ltab_found : (geo : RawGeometry) (bytes : List ℕ) (rows : List LptRow) (bits : ℕ) → bits ≡ geo.lpt_lebs * (2 * fls geo.leb_size) → IsFramed bytes 2 bits → length rows ≡ geo.lpt_lebs
    → IsAt bytes 20 (flat_map (row_fields geo) rows) → IsLtabBytes geo bytes rows
ltab_found geo bytes rows bits e framed whole at =
    let P : ℕ → Type 0 = λ n. IsFramed bytes 2 n in
    record {
      is = record { whole = whole; fit = IsAt-AllFit bytes 20 (flat_map (row_fields geo) rows) at };
      packed = framed-packed bytes 2 (flat_map (row_fields geo) rows) (subst P (e ∙ sym (bits_len-rows geo rows whole)) framed) at;
    }

pub bits_len-lnum : (geo : RawGeometry) (lnum : ℕ) → bits_len (lnum_fields geo lnum) ≡ lnum_bits geo
unfolding lnum_fields bits_len
bits_len-lnum geo lnum = omega arith

pub bits_len-lnums : (geo : RawGeometry) (lnums : List ℕ) → length lnums ≡ geo.lsave_cnt → bits_len (flat_map (lnum_fields geo) lnums) ≡ geo.lsave_cnt * lnum_bits geo
bits_len-lnums geo lnums whole = bits_len-flat_map (lnum_fields geo) (lnum_bits geo) lnums (bits_len-lnum geo) ∙ ap (λ n. n * lnum_bits geo) whole

pub lsave-framed : (geo : RawGeometry) (bytes : List ℕ) (lnums : List ℕ) (bits : ℕ) → IsBytes bytes → bits ≡ geo.lsave_cnt * lnum_bits geo → IsLsaveBytes geo bytes lnums → IsFramed bytes 3 bits
lsave-framed geo bytes lnums bits fits e h =
    let P : ℕ → Type 0 = λ n. IsFramed bytes 3 n in
    subst P (bits_len-lnums geo lnums h.is.whole ∙ sym e) (packed-framed bytes 3 (flat_map (lnum_fields geo) lnums) fits (omega arith) h.is.fit h.packed).0

pub lsave_found : (geo : RawGeometry) (bytes : List ℕ) (lnums : List ℕ) (bits : ℕ) → bits ≡ geo.lsave_cnt * lnum_bits geo → IsFramed bytes 3 bits → length lnums ≡ geo.lsave_cnt
    → IsAt bytes 20 (flat_map (lnum_fields geo) lnums) → IsLsaveBytes geo bytes lnums
lsave_found geo bytes lnums bits e framed whole at =
    let P : ℕ → Type 0 = λ n. IsFramed bytes 3 n in
    record {
      is = record { whole = whole; fit = IsAt-AllFit bytes 20 (flat_map (lnum_fields geo) lnums) at };
      packed = framed-packed bytes 3 (flat_map (lnum_fields geo) lnums) (subst P (e ∙ sym (bits_len-lnums geo lnums whole)) framed) at;
    }
