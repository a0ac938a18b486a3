-- Heads that are open stay so while one of them is worked on.
use Rattle.std.proofs.Common.{◌≡◌, ◌≢◌, ℕ, Option, Some, None, List, refl, ap, sym, subst, ◌∙◌, inl, inr, arith}
use Rattle.std.specs.Prelude.{IsSome, Result, Ok, Err, IfOk, OnOk}
use Rattle.std.proofs.lemmas.Bool.{cases_eq, false≢true}
use Rattle.std.proofs.lemmas.Option.{none-some}
use Rattle.ubi_volume.specs.Volume.{VolumeState, SameShape, WorksOn}
use Rattle.write_buffer.specs.Buffer.{Buffered, IsOpenFor, Stands, number_of}
use Rattle.journal_heads.specs.declared.heads.Heads.{Heads}
use Rattle.journal_heads.specs.Heads.{AddsTo, AreOpen, IsOn, buffer_of}

-- a buffer is open for its LEB as before, while another LEB is worked on
pub open_still : (a b : VolumeState) (x : Buffered) (lnum other : ℕ) (D : List ℕ → Type 0) → lnum ≢ other → WorksOn a b other D → SameShape a b → IsOpenFor a x lnum → IsOpenFor b x lnum
open_still a b x lnum other D ne works shape is =
    let count = shape.leb_cnt in
    let size = shape.leb_size in
    let inside = is.inside in
    let written = works.others_written lnum ne in
    let before = is.open_there in
    let fits = is.fits in
    record {
      leb = is.leb;
      inside = omega (arith, count, inside);
      unit = is.unit ∙ sym shape.min_io;
      units = rw (shape.leb_size, shape.min_io) is.units;
      open_there = omega (arith, written, before);
      fits = omega (arith, fits, size);
      settled = λ c left. is.settled c (works.others_left lnum c ne left) ∙ sym (works.others lnum ne);
    }

-- the LEBs of two other heads differ
pub other_leb : (a : VolumeState) (x : Heads) (one two l m : ℕ) → AreOpen a x → one ≢ two → IsOn x one l → IsOn x two m → l ≢ m
other_leb a x one two l m open_before ne on_one on_two = λ same. ne (open_before.apart one two m (on_one ∙ ap (λ (n : ℕ). Some n) same) on_two)

-- all heads are open after one of them was worked on, if that one is
pub open_after : (a b : VolumeState) (x y : Heads) (head lnum : ℕ) (D : List ℕ → Type 0) → AreOpen a x → IsOn x head lnum → WorksOn a b lnum D → SameShape a b
    → ((k : ℕ) → k ≢ head → buffer_of y k ≡ buffer_of x k) → y.leb_size ≡ x.leb_size → IsOpenFor b (buffer_of y head) lnum → AreOpen b y
open_after a b x y head lnum D open_before on works shape others size is =
    let same_leb : (k : ℕ) → (buffer_of y k).leb ≡ (buffer_of x k).leb = λ k. elim (cases_eq k head) [
      | inl here ↦ let P : ℕ → Type 0 = λ h. (buffer_of y h).leb ≡ (buffer_of x h).leb in subst P (sym here) (is.leb ∙ sym on)
      | inr there ↦ ap (λ (z : Buffered). z.leb) (others k there)
    ] in
    record {
      each = λ k l on_k. elim (cases_eq k head) [
        | inl here ↦
            let P : ℕ → Type 0 = λ h. IsOpenFor b (buffer_of y h) l in
            let Q : ℕ → Type 0 = λ n. IsOpenFor b (buffer_of y head) n in
            let R : ℕ → Type 0 = λ h. (buffer_of y h).leb ≡ Some l in
            let there : lnum ≡ l = ap number_of (sym is.leb ∙ subst R here on_k) in
            subst P (sym here) (subst Q there is)
        | inr there ↦
            let P : Buffered → Type 0 = λ z. IsOpenFor b z l in
            let before : IsOn x k l = sym (same_leb k) ∙ on_k in
            subst P (sym (others k there)) (open_still a b (buffer_of x k) l lnum D (other_leb a x k head l lnum open_before there before on) works shape (open_before.each k l before))
      ];
      apart = λ one two l on_one on_two. open_before.apart one two l (sym (same_leb one) ∙ on_one) (sym (same_leb two) ∙ on_two);
      idle = λ k nothing. elim (cases_eq k head) [
        | inl here ↦
            let P : ℕ → Type 0 = λ h. (buffer_of x h).leb ≡ None in
            let gone : Some lnum ≡ None = sym on ∙ subst P here (sym (same_leb k) ∙ nothing) in
            absurd (none-some lnum (sym gone))
        | inr there ↦ ap (λ (z : Buffered). z.tail) (others k there) ∙ open_before.idle k (sym (same_leb k) ∙ nothing)
      ];
      size = size ∙ open_before.size ∙ sym shape.leb_size;
    }

-- bytes are added to a head that has a LEB
pub adds_on : (a b : VolumeState) (x y : Heads) (head lnum : ℕ) (bytes : List ℕ) → IsOn x head lnum → Stands a b (buffer_of x head) (buffer_of y head) lnum bytes → ((k : ℕ) → k ≢ head → buffer_of y k ≡ buffer_of x k) → y.leb_size ≡ x.leb_size
    → SameShape a b → AddsTo a b x y head bytes
adds_on a b x y head lnum bytes on stands others size shape = record {
  leb = stands.leb;
  stands = λ l there. let P : ℕ → Type 0 = λ n. Stands a b (buffer_of x head) (buffer_of y head) n bytes in subst P (ap number_of (sym on ∙ there)) stands;
  others = others;
  size = size;
  shape = shape;
}

-- where it has none, nothing happened
pub adds_none : (a : VolumeState) (x : Heads) (head : ℕ) (bytes : List ℕ) → (buffer_of x head).leb ≡ None → AddsTo a a x x head bytes
adds_none a x head bytes off = record {
  leb = refl;
  stands = λ l there. absurd (none-some l (sym off ∙ there));
  others = λ k ne. refl;
  size = refl;
  shape = record { leb_size = refl; min_io = refl; leb_cnt = refl };
}

-- a head that has a LEB is on it
pub on_number : (o : Option ℕ) → IsSome o → o ≡ Some (number_of o)
on_number (Some lnum) h = refl
on_number None h = absurd (false≢true h)

pub on_ok : {T E : Type 0} (r : Result T E) (A B : Type 0) → (A → B) → OnOk r A → OnOk r B
on_ok (Ok x) A B f h = f h
on_ok (Err e) A B f h = h

pub if_ok_both : {T E : Type 0} (r : Result T E) (A : Type 0) (P : T → Type 0) → OnOk r A → IfOk r P → IfOk r (λ x. A × P x)
if_ok_both (Ok x) A P h k = (h, k)
if_ok_both (Err e) A P h k = k
