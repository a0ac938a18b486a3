-- Which LEBs keep a leaf that has no copy, candidate by candidate.
use Rattle.std.proofs.Common.{◌≡◌, ℕ, ◌≤◌, arith, length, Bool, true, false, ◌||◌, List, [], ◌∷◌, refl, sym, ap, subst, ◌∙◌}
use Rattle.std.specs.List.{list_any}
use Rattle.index_tree.specs.declared.leaf.Leaf.{Leaf}
use Rattle.index_tree.specs.Shape.{Shape, shape_weight}
use Rattle.log_replay.specs.declared.candidate.Candidate.{Candidate}
use Rattle.log_replay.specs.Moving.{stays_in}

or_turned : (s o r : Bool) → ((s || o) || r) ≡ (o || (s || r))
or_turned true true r = refl
or_turned true false r = refl
or_turned false true r = refl
or_turned false false r = refl

pub stay_on : (xs ys : List Leaf) (lnum : ℕ) (before rest all : List Candidate) (first : Candidate) (old new : Bool) → before ≡ first ∷ rest → ys ≡ xs → (old || list_any (stays_in xs lnum) before) ≡ list_any (stays_in xs lnum) all
    → new ≡ (stays_in ys lnum first || old) → (new || list_any (stays_in xs lnum) rest) ≡ list_any (stays_in xs lnum) all
stay_on xs ys lnum before rest all first old new split same i n =
    ap (λ (b : Bool). b || list_any (stays_in xs lnum) rest) (n ∙ ap (λ (zs : List Leaf). stays_in zs lnum first || old) same)
    ∙ or_turned (stays_in xs lnum first) old (list_any (stays_in xs lnum) rest) ∙ ap (λ (cs : List Candidate). old || list_any (stays_in xs lnum) cs) (sym split) ∙ i

pub stay_end : (xs : List Leaf) (lnum : ℕ) (rest all : List Candidate) (now : Bool) → rest ≡ [] → (now || list_any (stays_in xs lnum) rest) ≡ list_any (stays_in xs lnum) all → now ≡ list_any (stays_in xs lnum) all
stay_end xs lnum rest all now e i = by now ∙ ap (λ (cs : List Candidate). now || list_any (stays_in xs lnum) cs) (sym e) ∙ i
  where
    by : (b : Bool) → b ≡ (b || false)
    by true = refl
    by false = refl

pub none : (items : List Candidate) → length items ≡ 0 → items ≡ []
none [] e = refl
none (x ∷ items) e = absurd cc

pub weighs_on : (f g : ℕ) (s t u : Shape) → g ≡ f → shape_weight f t ≤ shape_weight f s → shape_weight g u ≤ shape_weight g t → shape_weight f u ≤ shape_weight f s
weighs_on f g s t u e h w = let v : shape_weight f u ≤ shape_weight f t = subst (λ (n : ℕ). shape_weight n u ≤ shape_weight n t) e w in omega (arith, h, v)
