-- A run on a volume that may only be read, line by line.
use Rattle.std.proofs.Common.{ℕ, ◌++◌, List, [], ◌∷◌, refl, sym, ap, subst, ◌∙◌}
use Rattle.std.proofs.lemmas.List.{append-nil, append_assoc}
use Rattle.fs_model.specs.declared.refusal.Cause.{Cause}
use Rattle.script_text.specs.declared.part.Part.{Part}
use Rattle.script_run.specs.Reading.{IsReadPart, IsReadRun, Reading}

-- one line more
pub read_more : (cause : Cause) (first last : Reading) (parts : List Part) (text : List ℕ) (mid : Reading) (part : Part) (line : List ℕ) → IsReadRun cause first parts text mid → IsReadPart cause mid part line last
    → IsReadRun cause first (parts ++ part ∷ []) (text ++ line) last
read_more cause first last [] text mid part line h more =
    (line, last, [], subst (λ s. IsReadPart cause s part line last) h.1 more, (refl, refl), ap (λ t. t ++ line) h.0 ∙ sym (append-nil line))
read_more cause first last (p ∷ parts) text mid part line (front, next, rest, one, others, e) more =
    (front, next, rest ++ line, one, read_more cause next last parts rest mid part line others more, ap (λ t. t ++ line) e ∙ append_assoc front rest line)
