-- What one knows of a trace, and how it grows.
use Rattle.std.specs.Prelude.{ℕ, ◌<◌, ◌==◌, ltb, if◌then◌else◌, List, [], ◌∷◌, ◌++◌, length, count_by, Contains}
use Rattle.fs_model.specs.declared.trace.TraceLine.{TraceLine}
use Rattle.trace_word.specs.declared.view.Known.{Known}

-- how many lines are of this caller
abbrev pub lines_of : ℕ → List TraceLine → ℕ
lines_of caller lines = count_by (λ line. line.caller == caller) lines

-- nothing was seen
abbrev pub none_known : Known
none_known = record { seen = []; earlier = []; shown = [] }

-- the longer list, the second where they are as long
abbrev pub longer : List TraceLine → List TraceLine → List TraceLine
longer xs ys = if ltb (length ys) (length xs) then xs else ys

-- a pass takes over what a note says: the longer list, both as earlier ones, and the claims shown of both
abbrev pub known_joined : Known → Known → Known
known_joined k n = record { seen = longer k.seen n.seen; earlier = k.earlier ++ k.seen ∷ n.seen ∷ []; shown = k.shown ++ n.shown }

-- the recorder takes over what a note says: it keeps its own list, which no other is longer than
abbrev pub known_told : Known → Known → Known
known_told k n = record { seen = k.seen; earlier = k.earlier ++ n.seen ∷ []; shown = k.shown ++ n.shown }

-- a line more was seen
abbrev pub with_line : TraceLine → Known → Known
with_line l k = record { seen = k.seen ++ l ∷ []; earlier = k.earlier; shown = k.shown }

-- what a note of this carries
abbrev pub note_of : Known → Known
note_of k = record { seen = k.seen; earlier = []; shown = k.shown }

-- what the note of a pass carries
abbrev pub claim_note : ℕ → ℕ → Known → Known
claim_note caller claim k = record { seen = k.seen; earlier = []; shown = (caller, claim) ∷ [] }

-- the caller has shown a claim above its lines
abbrev pub MayAppend : ℕ → Known → Type 0
MayAppend caller k = (claim : ℕ) × Contains k.shown (caller, claim) × (lines_of caller k.seen < claim)
