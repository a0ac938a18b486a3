-- A volume in memory, of which one LEB was worked on.
use Rattle.std.proofs.Common.{rules, ◌≡◌, ◌≢◌, ◌⊎◌, inl, inr, ℕ, zero, suc, ◌-◌, ◌<◌, false, List, [], ◌∷◌, ◌++◌, length, take, drop, replicate, Option, Some, refl, ap, sym, subst, ◌∙◌, arith}
use Rattle.std.specs.Prelude.{slice_get, slice_set, All}
use Rattle.std.specs.Option.{unwrap_or}
use Rattle.std.specs.Vec.{with_items}
use Rattle.std.proofs.Math.ListN.{length-set}
use Rattle.std.proofs.lemmas.Bool.{cases_lt}
use Rattle.std.proofs.lemmas.List.Elements.{All-set}
use Rattle.std.proofs.lemmas.List.{get_or-set_same, get_or-set_other}
use Rattle.std.proofs.lemmas.Option.{slice_get-get_or, slice_get_past}
use Rattle.ubifs_base.specs.NodeLaws.{IsBytes}
use Rattle.ubi_volume.specs.Volume.{WorksOn, Torn, IsLebBytes, filled}
use Rattle.ubi_volume.specs.Lebs.{LebView, IsLeft, IsLeb, IsReplaced, bytes_in, written_in, pending_in, view_of}
use Rattle.ubi_volume.specs.Effects.{final_leb, unmapped_leb}
use Rattle.ubi_volume.specs.MemVolume.{state_of, state_with}
use Rattle.ubi_volume.specs.declared.arming.Arming.{Arming}
use Rattle.ubi_volume.specs.declared.leb.Leb.{Leb}
use Rattle.ubi_volume.specs.declared.mem_volume.MemVolume.{MemVolume}
use Rattle.ubi_volume.specs.declared.mem_volume.VolShape.{VolShape}

-- what is written back into a list that was lent
refill : {A : Type 0} (n : ℕ) (ws xs : List A) → n ≡ length xs → length ws ≡ length xs → take n (ws ++ drop (length ws) xs) ≡ ws
refill zero [] [] h k = refl
refill (suc n) [] [] h k = absurd (omega arith)
refill n [] (x ∷ xs) h k = absurd (omega arith)
refill n (w ∷ ws) [] h k = absurd (omega arith)
refill zero (w ∷ ws) (x ∷ xs) h k = absurd (omega arith)
refill (suc n) (w ∷ ws) (x ∷ xs) h k = ap (λ v. w ∷ v) (refill n ws xs (omega arith) (omega arith))

there : (lebs : List Leb) (n : ℕ) (leb : Leb) → n < length lebs → slice_get (slice_set lebs n leb) n ≡ Some leb
there lebs n leb inside = slice_get-get_or (slice_set lebs n leb) n leb (rw length-set inside) ∙ ap Some (get_or-set_same lebs n leb leb inside)

elsewhere : (lebs : List Leb) (n k : ℕ) (leb : Leb) → (k ≡ n → ⊥) → slice_get (slice_set lebs n leb) k ≡ slice_get lebs k
elsewhere lebs n k leb ne = elim (cases_lt k (length lebs)) [
  | inl inside ↦ slice_get-get_or (slice_set lebs n leb) k leb (rw length-set inside) ∙ ap Some (get_or-set_other lebs n k leb leb ne) ∙ sym (slice_get-get_or lebs k leb inside)
  | inr past ↦ slice_get_past (slice_set lebs n leb) k (rw length-set past) ∙ sym (slice_get_past lebs k past)
]

set_replaced : (size lnum : ℕ) (lebs : List Leb) (leb : Leb) (bytes : List ℕ) → lnum < length lebs → All (IsLeb size) lebs → IsLeb size leb → leb.content.items ≡ bytes
    → IsReplaced size lebs (slice_set lebs lnum leb) lnum (record { bytes = bytes; written = leb.written; pending = pending_in (Some leb) })
set_replaced size lnum lebs leb bytes inside all is same =
    record {
      others = λ k ne. elsewhere lebs lnum k leb ne;
      bytes_are = ap bytes_in (there lebs lnum leb inside) ∙ same;
      written_is = ap written_in (there lebs lnum leb inside);
      pending_is = ap pending_in (there lebs lnum leb inside);
      len = length-set lebs lnum leb;
      sizes = All-set (IsLeb size) lebs lnum leb is all;
    }

replaced : (shape : VolShape) (a b : List Leb) (x y : Arming) (size lnum : ℕ) (leb : LebView) (P : List ℕ → Type 0) → IsReplaced size a b lnum leb
    → ((c : List ℕ) → IsLeft (slice_get b lnum) c → P c) → (y.is_cut ≡ false → x.is_cut ≡ false) → WorksOn (state_with shape a x) (state_with shape b y) lnum P
replaced shape a b x y size lnum leb P one left unbroken =
    let back : (k : ℕ) (c : List ℕ) → k ≢ lnum → IsLeft (slice_get b k) c → IsLeft (slice_get a k) c = λ k c ne h.
    let L : Option Leb → Type 0 = λ o. IsLeft o c in
    subst L (one.others k ne) h in
    record {
      others = λ k ne. ap bytes_in (one.others k ne);
      others_written = λ k ne. ap written_in (one.others k ne);
      others_left = λ k c ne h. back k c ne h;
      others_mapped = λ k c ne h. h ∙ ap bytes_in (one.others k ne);
      left = left;
      time = record {
        later = omega arith;
        nothing_else = λ t c early each. inr (λ k ne. back k (c k) ne (each k), left (c lnum) (each lnum));
      };
      spent = λ h. h;
      unbroken = unbroken;
    }

-- of the volume's own list, of which s was lent and b given back
pub replaced_works : (v : MemVolume) (s b : List Leb) (y : Arming) (size lnum : ℕ) (leb : LebView) (P : List Leb → List ℕ → Type 0) → s ≡ v.lebs.items → IsReplaced size s b lnum leb
    → ((c : List ℕ) → IsLeft (slice_get b lnum) c → P s c) → (y.is_cut ≡ false → v.arming.is_cut ≡ false)
    → WorksOn (state_of v) (state_with v.shape (with_items v.lebs b).items y) lnum (P v.lebs.items)
replaced_works v s b y size lnum leb P same one left unbroken =
    let R : List Leb → Type 0 = λ l. IsReplaced size l b lnum leb in
    let M : List Leb → Type 0 = λ l. (c : List ℕ) → IsLeft (slice_get b lnum) c → P l c in
    let W : List Leb → Type 0 = λ l. WorksOn (state_of v) (state_with v.shape l y) lnum (P v.lebs.items) in
    let back : (with_items v.lebs b).items ≡ b = refill v.lebs.len b v.lebs.items v.lebs.ok.0 (one.len ∙ ap length same) in
    subst W (sym back) (replaced v.shape v.lebs.items b v.arming y size lnum leb (P v.lebs.items) (subst R same one) (subst M same left) unbroken)

-- a LEB whose bytes were lent and given back
pub put_replaced : (size lnum written : ℕ) (lebs : List Leb) (leb : Leb) (buffer bytes : List ℕ) → lnum < length lebs → All (IsLeb size) lebs → IsLeb size leb → length buffer ≡ length leb.content.items → IsBytes buffer
    → drop written buffer ≡ replicate (size - written) 255 → buffer ≡ bytes
    → IsReplaced size lebs (slice_set lebs lnum (record { content = with_items leb.content buffer; written = written; before = leb.before; undo = false })) lnum (final_leb bytes written)
put_replaced size lnum written lebs leb buffer bytes inside all is long are blank same =
    let back : (with_items leb.content buffer).items ≡ buffer = refill leb.content.len buffer leb.content.items leb.content.ok.0 long in
    let new : Leb = record { content = with_items leb.content buffer; written = written; before = leb.before; undo = false } in
    let Whole : List ℕ → Type 0 = IsLebBytes size in
    let Blank : List ℕ → Type 0 = λ b. drop written b ≡ replicate (size - written) 255 in
    let one : IsLeb size new = record { content = subst Whole (sym back) (record { len = long ∙ is.content.len; bytes = are }); before = λ undone. absurd (search (rules, undone)); room = is.room; blank = subst Blank (sym back) blank } in
    set_replaced size lnum lebs new bytes inside all one (back ∙ same)

-- what a call on a LEB may leave, by what the LEBs were
abbrev pub WriteFrom : ℕ → ℕ → ℕ → List Leb → List ℕ → Type 0
WriteFrom lnum offs n lebs c = IsLeft (slice_get lebs lnum) c ⊎ ((d : List ℕ) × (d ≡ bytes_in (slice_get lebs lnum)) × Torn offs n d c)

abbrev pub UnmapFrom : ℕ → ℕ → List Leb → List ℕ → Type 0
UnmapFrom size lnum lebs c = IsLeft (slice_get lebs lnum) c ⊎ (c ≡ filled size [])

-- a LEB that was unmapped
pub unmapped_replaced : (size lnum : ℕ) (lebs : List Leb) (old new : Leb) → lnum < length lebs → All (IsLeb size) lebs → slice_get lebs lnum ≡ Some old → IsLeb size new → new.content.items ≡ filled size []
    → new.written ≡ 0 → pending_in (Some new) ≡ Some (unwrap_or (pending_in (Some old)) old.content.items)
    → IsReplaced size lebs (slice_set lebs lnum new) lnum (unmapped_leb size (view_of (slice_get lebs lnum)))
unmapped_replaced size lnum lebs old new inside all was is bytes written pending =
    let one = set_replaced size lnum lebs new (filled size []) inside all is bytes in
    let P : Option Leb → Type 0 = λ o. pending_in (slice_get (slice_set lebs lnum new) lnum) ≡ Some (unwrap_or (pending_in o) (bytes_in o)) in
    record {
      others = one.others;
      bytes_are = one.bytes_are;
      written_is = one.written_is ∙ written;
      pending_is = subst P (sym was) (one.pending_is ∙ pending);
      len = one.len;
      sizes = one.sizes;
    }

-- what a cut leaves of it
pub unmapped_left : (size lnum : ℕ) (lebs : List Leb) (old new : Leb) → lnum < length lebs → slice_get lebs lnum ≡ Some old
    → ((c : List ℕ) → IsLeft (Some new) c → IsLeft (Some old) c ⊎ (c ≡ filled size [])) → (c : List ℕ) → IsLeft (slice_get (slice_set lebs lnum new) lnum) c → UnmapFrom size lnum lebs c
unmapped_left size lnum lebs old new inside was left c here =
    let L : Option Leb → Type 0 = λ o. IsLeft o c in
    let M : Option Leb → Type 0 = λ o. IsLeft o c ⊎ (c ≡ filled size []) in
    subst M (sym was) (left c (subst L (there lebs lnum new inside) here))

-- a write under way into what a LEB held
pub torn_from : (s b : List Leb) (lnum offs n : ℕ) → Torn offs n (bytes_in (slice_get s lnum)) (bytes_in (slice_get b lnum))
    → ((c : List ℕ) → IsLeft (slice_get b lnum) c → c ≡ bytes_in (slice_get b lnum)) → (c : List ℕ) → IsLeft (slice_get b lnum) c → WriteFrom lnum offs n s c
torn_from s b lnum offs n torn only c left =
    let T : List ℕ → Type 0 = λ y. Torn offs n (bytes_in (slice_get s lnum)) y in
    inr (bytes_in (slice_get s lnum), refl, subst T (sym (only c left)) torn)
