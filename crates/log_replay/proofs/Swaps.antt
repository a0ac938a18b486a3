-- A leaf that is put at its own place changes nothing.
use Rattle.std.proofs.Common.{◌≡◌, ℕ, Bool, true, false, cond, List, [], ◌∷◌, refl, sym, ap, ◌∙◌, arith}
use Rattle.std.proofs.lemmas.List.Elements.{All-head, All-tail}
use Rattle.ubifs_base.specs.declared.key.Key.{Key}
use Rattle.ubifs_base.specs.declared.key.Key.TheVariants.{Ino, Block, Dent, Xent}
use Rattle.ubifs_base.specs.Key.{IsKey}
use Rattle.index_tree.specs.declared.leaf.Leaf.{Leaf}
use Rattle.index_tree.specs.Keyed.{HasKey, HaveKeys}
use Rattle.index_tree.specs.Order.{key_rank}
use Rattle.index_tree.specs.Removal.{same_leaf}
use Rattle.index_tree.specs.Replacement.{swapped}
use Rattle.log_replay.specs.Placing.{is_key, moved_to}
use Rattle.log_replay.specs.Standing.{leaf_of_key}
use Rattle.log_replay.specs.declared.application.Place.{Place}
use Rattle.log_replay.proofs.Owning.{is_one}

-- keys of one place in the order are one
one_key : (k l : Key) → IsKey k → IsKey l → key_rank k ≡ key_rank l → k ≡ l
unfolding key_rank
one_key (Ino a) (Ino b) p q e = ap (λ (n : ℕ). Ino n) (omega (arith, e))
one_key (Ino a) (Block b n) p q e = let f = q.1 in absurd (omega (arith, e, f))
one_key (Ino a) (Dent b n) p q e = let f = q.1 in absurd (omega (arith, e, f))
one_key (Ino a) (Xent b n) p q e = let f = q.1 in absurd (omega (arith, e, f))
one_key (Block a m) (Ino b) p q e = let g = p.1 in absurd (omega (arith, e, g))
one_key (Block a m) (Block b n) p q e = let g = p.1 in let f = q.1 in let i : a ≡ b = omega (arith, e, f, g) in let j : m ≡ n = omega (arith, e, f, g) in ap (λ (z : ℕ). Block z m) i ∙ ap (λ (z : ℕ). Block b z) j
one_key (Block a m) (Dent b n) p q e = let g = p.1 in let f = q.1 in absurd (omega (arith, e, f, g))
one_key (Block a m) (Xent b n) p q e = let g = p.1 in let f = q.1 in absurd (omega (arith, e, f, g))
one_key (Dent a m) (Ino b) p q e = let g = p.1 in absurd (omega (arith, e, g))
one_key (Dent a m) (Block b n) p q e = let g = p.1 in let f = q.1 in absurd (omega (arith, e, f, g))
one_key (Dent a m) (Dent b n) p q e = let g = p.1 in let f = q.1 in let i : a ≡ b = omega (arith, e, f, g) in let j : m ≡ n = omega (arith, e, f, g) in ap (λ (z : ℕ). Dent z m) i ∙ ap (λ (z : ℕ). Dent b z) j
one_key (Dent a m) (Xent b n) p q e = let g = p.1 in let f = q.1 in absurd (omega (arith, e, f, g))
one_key (Xent a m) (Ino b) p q e = let g = p.1 in absurd (omega (arith, e, g))
one_key (Xent a m) (Block b n) p q e = let g = p.1 in let f = q.1 in absurd (omega (arith, e, f, g))
one_key (Xent a m) (Dent b n) p q e = let g = p.1 in let f = q.1 in absurd (omega (arith, e, f, g))
one_key (Xent a m) (Xent b n) p q e = let g = p.1 in let f = q.1 in let i : a ≡ b = omega (arith, e, f, g) in let j : m ≡ n = omega (arith, e, f, g) in ap (λ (z : ℕ). Xent z m) i ∙ ap (λ (z : ℕ). Xent b z) j

one_leaf : (x y : Leaf) → IsKey x.key → IsKey y.key → same_leaf x y ≡ true → y ≡ x
one_leaf x y p q e = let o = is_one x y e in by (one_key x.key y.key p q o.rank) o.lnum o.offs o.len
  where
    made : Key → ℕ → ℕ → ℕ → Leaf
    made k l o n = record { key = k; lnum = l; offs = o; len = n }

    by : x.key ≡ y.key → x.lnum ≡ y.lnum → x.offs ≡ y.offs → x.len ≡ y.len → y ≡ x
    by k l o n = sym (ap (λ (z : Key). made z x.lnum x.offs x.len) k ∙ ap (λ (z : ℕ). made y.key z x.offs x.len) l ∙ ap (λ (z : ℕ). made y.key y.lnum z x.len) o ∙ ap (λ (z : ℕ). made y.key y.lnum y.offs z) n)

pub swapped_itself : (leaf : Leaf) (xs : List Leaf) → IsKey leaf.key → HaveKeys xs → swapped leaf leaf xs ≡ xs
swapped_itself leaf [] k h = refl
swapped_itself leaf (x ∷ xs) k h = by (same_leaf x leaf) refl (swapped_itself leaf xs k (All-tail HasKey x xs h))
  where
    by : (b : Bool) → same_leaf x leaf ≡ b → swapped leaf leaf xs ≡ xs → cond b (leaf ∷ xs) (x ∷ swapped leaf leaf xs) ≡ x ∷ xs
    by true e more = ap (λ z. z ∷ xs) (one_leaf x leaf (All-head HasKey x xs h) k e)
    by false e more = ap (λ z. x ∷ z) more

pub moved_itself : (place : Place) (leaf : Leaf) (xs : List Leaf) → leaf_of_key leaf.key place ≡ leaf → (is_key leaf.key ≡ true → IsKey leaf.key) → HaveKeys xs → xs ≡ moved_to place leaf xs
moved_itself place leaf xs e fits h = by (is_key leaf.key) refl
  where
    by : (b : Bool) → is_key leaf.key ≡ b → xs ≡ cond b (swapped leaf (leaf_of_key leaf.key place) xs) xs
    by true k = sym (ap (λ (new : Leaf). swapped leaf new xs) e ∙ swapped_itself leaf xs (fits k) h)
    by false k = refl
