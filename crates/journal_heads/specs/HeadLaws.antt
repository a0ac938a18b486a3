-- Which heads are open from the start, and after one was turned to an empty LEB; and what a call on one head leaves of the others.
use Rattle.std.specs.Prelude.{◌≡◌, ◌≢◌, ◌⊎◌, ℕ, zero, suc, ◌<◌, Some, None, List, [], ◌++◌, length, take}
use Rattle.std.proofs.Common.{refl, ap, sym, subst, ◌∙◌, inl, inr, arith}
use Rattle.std.proofs.lemmas.Bool.{cases_eq}
use Rattle.std.proofs.lemmas.List.{get_or-set_same, get_or-set_other}
use Rattle.std.proofs.lemmas.Option.{none-some}
use Rattle.ubi_volume.specs.Volume.{VolumeState}
use Rattle.ubi_volume.specs.Frame.{Works}
use Rattle.write_buffer.specs.Buffer.{Buffered, IsOpenFor, number_of, text_of}
use Rattle.journal_heads.specs.declared.heads.Heads.{Heads}
use Rattle.journal_heads.specs.Heads.{AddsTo, AreOpen, IsEmptyLeb, IsFree, IsOn, attached, buffer_of, fresh, fresh_buffer}

-- a head at its start
pub buffer_of-fresh : (unit size head : ℕ) → ((buffer_of (fresh unit size) head).leb ≡ None) × ((buffer_of (fresh unit size) head).tail ≡ [])
buffer_of-fresh unit size zero = (refl, refl)
buffer_of-fresh unit size (suc zero) = (refl, refl)
buffer_of-fresh unit size (suc (suc zero)) = (refl, refl)
buffer_of-fresh unit size (suc (suc (suc k))) = (refl, refl)

-- heads without a LEB are open
pub AreOpen-fresh : (state : VolumeState) (unit size : ℕ) → size ≡ state.leb_size → AreOpen state (fresh unit size)
AreOpen-fresh state unit size same = record {
  each = λ head lnum on. absurd (none-some lnum (sym (buffer_of-fresh unit size head).0 ∙ on));
  apart = λ one two lnum on other. absurd (none-some lnum (sym (buffer_of-fresh unit size one).0 ∙ on));
  idle = λ head off. (buffer_of-fresh unit size head).1;
  size = same;
}

-- a buffer at the start of a LEB
abbrev begun : Heads → ℕ → ℕ → Buffered
begun heads head lnum = record { unit = (buffer_of heads head).unit; leb = Some lnum; place = 0; tail = [] }

-- the head that was turned, and the others
pub attached-same : (heads : Heads) (head lnum : ℕ) → head < length heads.buffers → buffer_of (attached heads head lnum) head ≡ record { unit = (buffer_of heads head).unit; leb = Some lnum; place = 0; tail = [] }
attached-same heads head lnum inside = get_or-set_same heads.buffers head (begun heads head lnum) (fresh_buffer 0) inside

pub attached-other : (heads : Heads) (head lnum k : ℕ) → k ≢ head → buffer_of (attached heads head lnum) k ≡ buffer_of heads k
attached-other heads head lnum k ne = get_or-set_other heads.buffers head k (begun heads head lnum) (fresh_buffer 0) ne

-- on which LEB a head is then
pub IsOn-attached : (heads : Heads) (head lnum k l : ℕ) → head < length heads.buffers → IsOn (attached heads head lnum) k l → ((k ≡ head) × (l ≡ lnum)) ⊎ ((k ≢ head) × IsOn heads k l)
IsOn-attached heads head lnum k l inside on = elim (cases_eq k head) [
  | inl here ↦
      let P : ℕ → Type 0 = λ m. IsOn (attached heads head lnum) m l in
      inl (here, ap number_of (sym (subst P here on) ∙ ap (λ (z : Buffered). z.leb) (attached-same heads head lnum inside)))
  | inr there ↦ inr (there, ap (λ (z : Buffered). z.leb) (sym (attached-other heads head lnum k there)) ∙ on)
]

-- heads are open after one was turned to an empty LEB that no head writes to
pub AreOpen-attached : (state : VolumeState) (heads : Heads) (head lnum : ℕ) → head < length heads.buffers → AreOpen state heads → IsFree heads lnum → IsEmptyLeb state (buffer_of heads head).unit lnum
    → AreOpen state (attached heads head lnum)
AreOpen-attached state heads head lnum inside is free empty =
    let start = empty.written in
    let turned : IsOpenFor state (begun heads head lnum) lnum = record {
      leb = refl;
      inside = empty.inside;
      unit = empty.unit_is;
      units = empty.units;
      open_there = omega (arith, start);
      fits = omega arith;
      settled = empty.settled;
    } in
    record {
      each = λ k l on. elim (IsOn-attached heads head lnum k l inside on) [
        | inl (here, same) ↦
            let P : ℕ → Type 0 = λ m. IsOpenFor state (buffer_of (attached heads head lnum) m) l in
            let Q : ℕ → Type 0 = λ n. IsOpenFor state (buffer_of (attached heads head lnum) head) n in
            let R : Buffered → Type 0 = λ z. IsOpenFor state z lnum in
            subst P (sym here) (subst Q (sym same) (subst R (sym (attached-same heads head lnum inside)) turned))
        | inr (there, before) ↦ let R : Buffered → Type 0 = λ z. IsOpenFor state z l in subst R (sym (attached-other heads head lnum k there)) (is.each k l before)
      ];
      apart = λ one two l on_one on_two. elim (IsOn-attached heads head lnum one l inside on_one) [
        | inl (here, same) ↦ elim (IsOn-attached heads head lnum two l inside on_two) [
          | inl (also, too) ↦ here ∙ sym also
          | inr (there, before) ↦ let P : ℕ → Type 0 = λ n. IsOn heads two n in absurd (free two (subst P same before))
        ]
        | inr (there, before) ↦ elim (IsOn-attached heads head lnum two l inside on_two) [
          | inl (here, same) ↦ let P : ℕ → Type 0 = λ n. IsOn heads one n in absurd (free one (subst P same before))
          | inr (also, too) ↦ is.apart one two l before too
        ]
      ];
      idle = λ k off. elim (cases_eq k head) [
        | inl here ↦ let P : ℕ → Type 0 = λ m. (buffer_of (attached heads head lnum) m).tail ≡ [] in subst P (sym here) (ap (λ (z : Buffered). z.tail) (attached-same heads head lnum inside))
        | inr there ↦ ap (λ (z : Buffered). z.tail) (attached-other heads head lnum k there) ∙ is.idle k (ap (λ (z : Buffered). z.leb) (sym (attached-other heads head lnum k there)) ∙ off)
      ];
      size = is.size;
    }

-- what was put on the other heads is as it was, where the LEB of one head was worked on alone
pub other_text : (old new : VolumeState) (before after : Heads) (head : ℕ) (bytes : List ℕ) (P : (ℕ → List ℕ) → Type 0) → AreOpen old before → AddsTo old new before after head bytes → Works old new (IsOn before head) P
    → (other lnum : ℕ) → other ≢ head → IsOn before other lnum → text_of new (buffer_of after other) lnum ≡ text_of old (buffer_of before other) lnum
other_text old new before after head bytes P is adds works other lnum ne on =
    let off : IsOn before head lnum → ⊥ = λ h. ne (is.apart other head lnum on h) in
    ap (λ (z : Buffered). text_of new z lnum) (adds.others other ne) ∙ ap (λ (leb : List ℕ). take (buffer_of before other).place leb ++ (buffer_of before other).tail) (works.others lnum off).holds
