-- Lines of words.
use Rattle.std.specs.Prelude.{ℕ, List, [], ◌∷◌, ◌++◌}

-- a space before each word
abbrev pub spaced : List (List ℕ) → List ℕ
spaced [] = []
spaced (word ∷ words) = 32 ∷ (word ++ spaced words)

-- words with one space between them
abbrev pub sentence : List (List ℕ) → List ℕ
sentence [] = []
sentence (word ∷ words) = word ++ spaced words

-- a line ends with a newline
abbrev pub ended : List ℕ → List ℕ
ended text = text ++ (10 ∷ [])

-- a line of words
abbrev pub line_of : List (List ℕ) → List ℕ
line_of words = ended (sentence words)
