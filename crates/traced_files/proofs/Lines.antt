-- Lines with one line more.
use Rattle.std.proofs.Common.{◌≡◌, ◌⊎◌, inl, inr, List, [], ◌∷◌, ◌++◌, refl, sym, ap, subst, ◌∙◌, append_assoc}
use Rattle.std.proofs.lemmas.List.{append-nil}
use Rattle.fs_model.specs.declared.backing_answers.Mode.{Mode}
use Rattle.fs_model.specs.declared.trace.TraceLine.{TraceLine}
use Rattle.fs_model.specs.Files.{Files}
use Rattle.fs_model.specs.Legal.{AreLines, IsPlain, IsRefused, Opening, Place, behind, next_number}
use Rattle.traced_files.specs.History.{LinesLead, first_place}

-- a line at this place, answered in this mode
pub record IsLine (opening : Opening) (mode : Mode) (place : Place) (line : TraceLine) (after : Files) : Type 0 where
  pub number : line.number ≡ next_number place.before line.caller
  pub answer : IsPlain place mode line after ⊎ IsRefused opening place mode line after

pub before_is : (opening : Opening) (mode : Mode) (a : Place) (xs : List TraceLine) (b : Place) → AreLines opening mode a xs b → b.before ≡ a.before ++ xs
before_is opening mode a [] b lines = sym (ap (λ (p : Place). p.before) lines) ∙ sym (append-nil a.before)
before_is opening mode a (x ∷ xs) b lines =
    before_is opening mode (behind a x lines.1) xs b lines.3 ∙ append_assoc a.before (x ∷ []) xs

lines_on : (opening : Opening) (mode : Mode) (a : Place) (xs : List TraceLine) (b : Place) (line : TraceLine) (after : Files) → AreLines opening mode a xs b → IsLine opening mode b line after → AreLines opening mode a (xs ++ line ∷ []) (behind b line after)
lines_on opening mode a [] b line after lines one =
    let P : Place → Type 0 = λ p. AreLines opening mode p (line ∷ []) (behind b line after) in
    subst P (sym lines) (one.number, after, one.answer, refl)
lines_on opening mode a (x ∷ xs) b line after lines one =
    (lines.0, lines.1, lines.2, lines_on opening mode (behind a x lines.1) xs b line after lines.3 one)

lines_then : (opening : Opening) (mode : Mode) (a : Place) (xs : List TraceLine) (b : Place) (ys : List TraceLine) (c : Place) → AreLines opening mode a xs b → AreLines opening mode b ys c → AreLines opening mode a (xs ++ ys) c
lines_then opening mode a [] b ys c lines more = let P : Place → Type 0 = λ p. AreLines opening mode p ys c in subst P (sym lines) more
lines_then opening mode a (x ∷ xs) b ys c lines more =
    (lines.0, lines.1, lines.2, lines_then opening mode (behind a x lines.1) xs b ys c lines.3 more)

-- all lines stand before the last place
pub before_last : (opening : Opening) (mode : Mode) (lines : List TraceLine) (last : Place) → LinesLead opening mode lines last → last.before ≡ lines
before_last opening mode lines last h =
    before_is opening mode h.middle h.rest last h.closed ∙ ap (λ (xs : List TraceLine). xs ++ h.rest) (before_is opening opening.mode (first_place opening) h.first h.middle h.opened) ∙ sym h.all

-- a line more in the same mode
pub leads_same : (opening : Opening) (mode : Mode) (lines : List TraceLine) (last : Place) (line : TraceLine) (after : Files) → LinesLead opening mode lines last → IsLine opening mode last line after → LinesLead opening mode (lines ++ line ∷ []) (behind last line after)
leads_same opening mode lines last line after h one = record {
  first = h.first;
  rest = h.rest ++ line ∷ [];
  all = ap (λ (xs : List TraceLine). xs ++ line ∷ []) h.all ∙ append_assoc h.first h.rest (line ∷ []);
  middle = h.middle;
  opened = h.opened;
  closed = lines_on opening mode h.middle h.rest last line after h.closed one;
}

-- where the mode was that of the opening until now, all lines were answered in that one
pub leads_lost : (opening : Opening) (mode new : Mode) (lines : List TraceLine) (last : Place) → mode ≡ opening.mode → LinesLead opening mode lines last → LinesLead opening new lines last
leads_lost opening mode new lines last is h = record {
  first = lines;
  rest = [];
  all = sym (append-nil lines);
  middle = last;
  opened =
      let P : Mode → Type 0 = λ m. AreLines opening m h.middle h.rest last in
      let Q : List TraceLine → Type 0 = λ xs. AreLines opening opening.mode (first_place opening) xs last in
      subst Q (sym h.all) (lines_then opening opening.mode (first_place opening) h.first h.middle h.rest last h.opened (subst P is h.closed));
  closed = refl;
}

-- how the mode goes on: it stays, or it was that of the opening until now
abbrev pub ModeTurns : Opening → Mode → Mode → Type 0
ModeTurns opening old new = (new ≡ old) ⊎ (old ≡ opening.mode)

pub leads_stay : (opening : Opening) (old new : Mode) (lines : List TraceLine) (last : Place) → ModeTurns opening old new → LinesLead opening old lines last → LinesLead opening new lines last
leads_stay opening old new lines last (inl same) h = let P : Mode → Type 0 = λ m. LinesLead opening m lines last in subst P (sym same) h
leads_stay opening old new lines last (inr first) h = leads_lost opening old new lines last first h

pub leads_on : (opening : Opening) (old new : Mode) (lines : List TraceLine) (last : Place) (line : TraceLine) (after : Files) → ModeTurns opening old new → LinesLead opening old lines last → IsLine opening old last line after ⊎ IsLine opening new last line after
    → LinesLead opening new (lines ++ line ∷ []) (behind last line after)
leads_on opening old new lines last line after turns h (inl before) =
    leads_stay opening old new (lines ++ line ∷ []) (behind last line after) turns (leads_same opening old lines last line after h before)
leads_on opening old new lines last line after turns h (inr later) =
    leads_same opening new lines last line after (leads_stay opening old new lines last turns h) later
