-- Where the first leaf of a greater rank stands, of leaves in front and leaves behind them.
use Rattle.std.proofs.Common.{◌≡◌, ℕ, false, List, [], ◌∷◌, ◌++◌, refl, ap, sym, ◌∙◌}
use Rattle.std.specs.Prelude.{Option, Some, None, nat_lt, IfOk, Result, Ok, Err}
use Rattle.ubi_volume.specs.declared.fault.AreaFault.{AreaFault}
use Rattle.std.specs.Option.{option_or}
use Rattle.std.proofs.lemmas.Bool.{le-ltb}
use Rattle.std.proofs.lemmas.List.Folds.{find-append}
use Rattle.index_tree.specs.Order.{leaf_rank, first_after}
use Rattle.index_tree.specs.declared.leaf.Leaf.{Leaf}
use Rattle.index_media.specs.KeyedBounds.{AreAtMost}

none_after : (at : ℕ) (xs : List Leaf) → AreAtMost (Some at) xs → first_after at xs ≡ None
none_after at [] h = refl
none_after at (x ∷ xs) h = let e : nat_lt at (leaf_rank x) ≡ false = le-ltb at (leaf_rank x) h.0 in rw e (none_after at xs h.1)

parts : (at : ℕ) (all front back : List Leaf) → all ≡ front ++ back → first_after at all ≡ option_or (first_after at front) (first_after at back)
parts at all front back is = ap (first_after at) is ∙ find-append (λ y. nat_lt at (leaf_rank y)) front back

-- those in front are within the rank
pub after_passed : (at : ℕ) (all front back : List Leaf) → all ≡ front ++ back → AreAtMost (Some at) front → first_after at all ≡ first_after at back
after_passed at all front back is low = parts at all front back is ∙ ap (λ v. option_or v (first_after at back)) (none_after at front low)

-- it is in front
pub after_in_front : (at : ℕ) (all front back : List Leaf) (x : Leaf) → all ≡ front ++ back → first_after at front ≡ Some x → first_after at all ≡ Some x
after_in_front at all front back x is h = parts at all front back is ∙ ap (λ v. option_or v (first_after at back)) h

-- or behind, where none is in front
pub after_behind : (at : ℕ) (all front back : List Leaf) → all ≡ front ++ back → first_after at front ≡ None → first_after at all ≡ first_after at back
after_behind at all front back is h = parts at all front back is ∙ ap (λ v. option_or v (first_after at back)) h

-- an answer that is one is the other
pub after_ok : (r : Result (Option Leaf) AreaFault) (x y : Option Leaf) → y ≡ x → IfOk r (λ found. found ≡ x) → IfOk r (λ found. found ≡ y)
after_ok (Ok n) x y e h = h ∙ sym e
after_ok (Err f) x y e h = tt
