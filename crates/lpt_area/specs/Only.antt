-- That there is one thing with a property and no other, or that there is none.
use Rattle.std.specs.Prelude.{◌≡◌}

-- this has it, and nothing else
abbrev pub IsOnly : {X : Type 0} → (X → Type 0) → X → Type 0
IsOnly {X = X} P x = P x × ((y : X) → P y → y ≡ x)

-- nothing has it
abbrev pub HasNone : {X : Type 0} → (X → Type 0) → Type 0
HasNone {X = X} P = (y : X) → P y → ⊥

-- what has the one has the other
abbrev pub SameFor : {X : Type 0} → (X → Type 0) → (X → Type 0) → Type 0
SameFor {X = X} P Q = ((x : X) → P x → Q x) × ((x : X) → Q x → P x)
