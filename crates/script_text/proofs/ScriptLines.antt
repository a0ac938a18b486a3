-- The lines of a script, and the first bad one.
use Rattle.std.proofs.Common.{◌≡◌, ℕ, ◌+◌, ◌<◌, Bool, false, List, [], ◌∷◌, ◌++◌, length, arith, sym, refl, ap, subst, ◌∙◌, append_assoc, append-nil, inl, inr}
use Rattle.std.specs.Prelude.{codes}
use Rattle.std.specs.List.{AllByRecursion}
use Rattle.script_text.specs.declared.part.Part.{Part}
use Rattle.script_text.specs.Script.{AreLinesOf, IsLineOf, MayStand, mounted_after, Leads, IsFirstBadLine, IsInRange, IsScript}
use Rattle.text_lines.specs.Lines.{ended}
use Rattle.script_text.specs.Words.{Lacks}
use Rattle.script_text.proofs.Cutting.{cut_once, not_cut}
use Rattle.script_text.proofs.PartLines.{part_line, part_in_range}
use Rattle.script_text.proofs.Sentences.{tight_of, tight_lacks}

pub leads_push : (ps : List Part) (s t : Bool) (p : Part) → Leads s ps t → MayStand t p → Leads s (ps ++ (p ∷ [])) (mounted_after t p)
leads_push [] s t p h k = let P : Bool → Type 0 = λ x. MayStand x p in (subst P (sym h) k, ap (λ (x : Bool). mounted_after x p) h)
leads_push (q ∷ ps) s t p h k = (h.0, leads_push ps (mounted_after s q) t p h.1 k)

-- one line more
pub lines_push : (ps : List Part) (p : Part) (good line : List ℕ) → AreLinesOf ps good → IsLineOf p line → AreLinesOf (ps ++ (p ∷ [])) (good ++ ended line)
lines_push [] p good line h k = (line, [], k, refl, ap (λ (t : List ℕ). t ++ ended line) h ∙ sym (append-nil (ended line)))
lines_push (q ∷ ps) p good line h k =
    (h.0, h.1 ++ ended line, h.2, lines_push ps p h.1 line h.3 k, ap (λ (t : List ℕ). t ++ ended line) h.4 ∙ append_assoc (ended h.0) h.1 (ended line))

-- the text is the lines so far, and then the rest
abbrev pub Reads : List ℕ → List Part → List ℕ → Type 0
Reads text parts rest = (good : List ℕ) × AreLinesOf parts good × (text ≡ good ++ rest)

pub reads_push : (ps : List Part) (p : Part) (text rest line more : List ℕ) → Reads text ps rest → rest ≡ line ++ (10 ∷ more) → IsLineOf p line → Reads text (ps ++ (p ∷ [])) more
reads_push ps p text rest line more h d k = (
  h.0 ++ ended line,
  lines_push ps p h.0 line h.1 k,
  h.2 ∙ (ap (λ (t : List ℕ). h.0 ++ t) (d ∙ sym (append_assoc line (10 ∷ []) more)) ∙ sym (append_assoc h.0 (ended line) more)),
)

-- what begins with a line has it before the first newline
pub front_line : (front rest line more after : List ℕ) → Lacks 10 front → rest ≡ line ++ (10 ∷ more) → Lacks 10 line → rest ≡ ended front ++ after → line ≡ front
front_line front rest line more after one e short d = (cut_once 10 line more front after short one (sym e ∙ (d ∙ append_assoc front (10 ∷ []) after))).0

pub no_line : (front rest after : List ℕ) → Lacks 10 rest → rest ≡ ended front ++ after → ⊥
no_line front rest after short d = not_cut 10 rest front after short (d ∙ append_assoc front (10 ∷ []) after)

pub end_lacks : Lacks 10 (codes "end")
end_lacks = tight_lacks 10 (codes "end") (omega arith) (tight_of (codes "end") refl)

-- no newline follows
pub bad_unterminated : (text rest : List ℕ) (parts : List Part) (mounted : Bool) (n : ℕ) → Reads text parts rest → Leads false parts mounted → length parts < 100000 → Lacks 10 rest → n ≡ length parts + 1 → IsFirstBadLine text n
bad_unterminated text rest parts mounted n h order few short d = (
  parts,
  mounted,
  h.0,
  rest,
  h.1,
  h.2,
  order,
  inr (inl (few, (λ begins. no_line begins.1 rest begins.2 short begins.5), (λ begins. no_line (codes "end") rest begins.0 short begins.1), d)),
)

-- a line follows that may not stand there
pub bad_line : (text rest line more : List ℕ) (parts : List Part) (mounted : Bool) (n : ℕ) → Reads text parts rest → Leads false parts mounted → length parts < 100000
    → rest ≡ line ++ (10 ∷ more) → Lacks 10 line
    → ((part : Part) → MayStand mounted part → IsLineOf part line → ⊥)
    → (line ≡ codes "end" → ⊥)
    → n ≡ length parts + 1 → IsFirstBadLine text n
bad_line text rest line more parts mounted n h order few cuts short none other d = (
  parts,
  mounted,
  h.0,
  rest,
  h.1,
  h.2,
  order,
  inr (inl (
    few,
    (λ begins.
        let P : List ℕ → Type 0 = λ t. IsLineOf begins.0 t in
        none begins.0 begins.3 (subst P (sym (front_line begins.1 rest line more begins.2 (part_line begins.0 begins.1 begins.4) cuts short begins.5)) begins.4)),
    (λ begins. other (front_line (codes "end") rest line more begins.0 end_lacks cuts short begins.1)),
    d,
  )),
)

-- something follows the end
pub bad_after_end : (text rest line more : List ℕ) (parts : List Part) (mounted : Bool) (n : ℕ) → Reads text parts rest → Leads false parts mounted → length parts < 100000
    → rest ≡ line ++ (10 ∷ more) → line ≡ codes "end" → (more ≡ [] → ⊥) → n ≡ length parts + 2 → IsFirstBadLine text n
bad_after_end text rest line more parts mounted n h order few cuts is some d =
    (parts, mounted, h.0, rest, h.1, h.2, order, inr (inr (few, (more, some, cuts ∙ ap (λ (t : List ℕ). t ++ (10 ∷ more)) is), d)))

-- there are too many lines
pub bad_limit : (text rest : List ℕ) (parts : List Part) (mounted : Bool) (n : ℕ) → Reads text parts rest → Leads false parts mounted → length parts ≡ 100000 → n ≡ length parts + 1 → IsFirstBadLine text n
bad_limit text rest parts mounted n h order many d = (parts, mounted, h.0, rest, h.1, h.2, order, inl (many, d))

pub lines_in_range : (parts : List Part) (good : List ℕ) → AreLinesOf parts good → AllByRecursion IsInRange parts
lines_in_range [] good h = tt
lines_in_range (part ∷ parts) good h = (part_in_range part h.0 h.2, lines_in_range parts h.1 h.3)

-- the last line follows, and nothing behind it
pub script_of : (text rest line more : List ℕ) (parts : List Part) (mounted : Bool) → Reads text parts rest → Leads false parts mounted → length parts < 100000
    → rest ≡ line ++ (10 ∷ more) → line ≡ codes "end" → more ≡ [] → IsScript text parts
script_of text rest line more parts mounted h order few cuts is none = record {
  lines = (h.0, h.1, h.2 ∙ ap (λ (t : List ℕ). h.0 ++ t) (cuts ∙ (ap (λ (t : List ℕ). t ++ (10 ∷ more)) is ∙ ap (λ (t : List ℕ). codes "end" ++ (10 ∷ t)) none)));
  order = (mounted, order);
  few = omega (arith, few);
}
