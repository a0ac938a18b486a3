-- Whether a parser has words that hold for its subcommands too.
use Rattle.std.proofs.Common.{◌≡◌, ◌∙◌, ap₂, Bool, ◌||◌, false}

pub either_false : {x a b : Bool} → x ≡ (a || b) → a ≡ false → b ≡ false → x ≡ false
either_false e first second = e ∙ ap₂ (λ (a b : Bool). a || b) first second
