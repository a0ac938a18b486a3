-- Where a leaf can't stand, by the first leaves of the rows behind.
use Rattle.std.specs.Prelude.{◌≡◌, ℕ, ◌<◌, nat_lt, true, List, [], ◌∷◌, ◌++◌, length}
use Rattle.std.proofs.Common.{refl, sym, ◌∙◌, arith, inl, inr, length-append}
use Rattle.std.proofs.lemmas.Bool.{cases_Bool}
use Rattle.std.proofs.lemmas.Bool.Decides.{nat_tests}
use Rattle.index_tree.specs.declared.leaf.Leaf.{Leaf}
use Rattle.index_tree.specs.Order.{starts_within}
use Rattle.index_tree.specs.Shape.{Shape, done, leaf, node, contents, count, filled, begins_within}

pub record NodeFilled (c rest : Shape) : Type 0 where
  pub least : 0 < count c
  pub children : filled c ≡ true
  pub others : filled rest ≡ true

pub node_filled : (c rest : Shape) → filled (node c rest) ≡ true → NodeFilled c rest
node_filled c rest h = elim (cases_Bool (nat_lt 0 (count c))) [
  | inr e ↦ let none = rw e at h in absurd cc
  | inl e ↦ elim (cases_Bool (filled c)) [
    | inr g ↦ let none = rw g at (rw e at h) in absurd cc
    | inl g ↦ record { least = grind (arith, nat_tests); children = g; others = rw g at (rw e at h) }
  ]
]

pub filled-length : (s : Shape) → filled s ≡ true → 0 < count s → 0 < length (contents s)
filled-length done f h = absurd (omega arith)
filled-length (leaf x rest) f h = omega arith
filled-length (node c rest) f h =
    let p = node_filled c rest f in
    omega (arith, length-append (contents c) (contents rest), filled-length c p.children p.least)

starts-append : (k : ℕ) (xs ys : List Leaf) → 0 < length xs → starts_within k (xs ++ ys) ≡ starts_within k xs
starts-append k [] ys h = absurd (omega arith)
starts-append k (x ∷ xs) ys h = refl

pub begins-starts : (k : ℕ) (s : Shape) → filled s ≡ true → begins_within k s ≡ starts_within k (contents s)
begins-starts k done f = refl
begins-starts k (leaf x rest) f = refl
begins-starts k (node c rest) f =
    let p = node_filled c rest f in
    begins-starts k c p.children ∙ sym (starts-append k (contents c) (contents rest) (filled-length c p.children p.least))
