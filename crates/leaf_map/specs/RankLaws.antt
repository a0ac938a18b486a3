-- What is shown tells the place of a leaf in the order of keys, and what is shown at one place.
use Rattle.std.proofs.Common.{◌≡◌, ℕ, ◌+◌, ◌*◌, ◌^◌, Bool, true, refl, ap, ◌∙◌, arith, Option, Some, ◌⊎◌, false, sym, inl, inr}
use Rattle.std.specs.Prelude.{◌==◌}
use Rattle.std.proofs.lemmas.Bool.{and_from, eq-eqb}
use Rattle.ubifs_base.specs.R5.{r5_of}
use Rattle.ubifs_base.specs.declared.key.Key.{Key}
use Rattle.ubifs_base.specs.declared.key.Key.TheVariants.{Ino, Block, Dent, Xent}
use Rattle.ubifs_base.specs.Key.{IsKey}
use Rattle.index_tree.specs.declared.leaf.Leaf.{Leaf}
use Rattle.index_tree.specs.Order.{key_rank, leaf_rank}
use Rattle.fs_model.specs.declared.change.Change.{Change}
use Rattle.fs_model.specs.declared.change.Change.TheVariants.{SetInode, SetEntry, SetBlock}
use Rattle.group_nodes.specs.FitLaws.{r5_small}
use Rattle.leaf_map.specs.LeafMap.{HasKeyOf, shows_same}

-- the place of what is shown
abbrev pub rank_shown : Option Change → ℕ
rank_shown (Some (SetInode ino inode)) = ino * 2 ^ 33
rank_shown (Some (SetBlock ino number bytes)) = ino * 2 ^ 33 + (2 ^ 29 + number)
rank_shown (Some (SetEntry e)) = e.dir * 2 ^ 33 + (2 ^ 30 + r5_of e.name)
rank_shown other = 0

pub rank_is : (leaf : Leaf) (s : Option Change) → HasKeyOf leaf s → leaf_rank leaf ≡ rank_shown s
unfolding key_rank
rank_is leaf (Some (SetInode ino inode)) h = ap key_rank h ∙ omega arith
rank_is leaf (Some (SetBlock ino number bytes)) h = ap key_rank h.0 ∙ omega arith
rank_is leaf (Some (SetEntry e)) h = ap key_rank h ∙ omega arith
rank_is leaf other h = absurd h

-- whether a name is shown
abbrev pub is_entry : Option Change → Bool
is_entry (Some (SetEntry e)) = true
is_entry s = false

-- at one place stands the same, or names do
pub same_thing : (l m : Leaf) (s t : Option Change) → HasKeyOf l s → HasKeyOf m t → rank_shown s ≡ rank_shown t → (shows_same s t ≡ true) ⊎ ((is_entry s ≡ true) × (is_entry t ≡ true))
same_thing l m (Some (SetInode a x)) (Some (SetInode b y)) h g r = inl (eq-eqb b a (omega (arith, r)))
same_thing l m (Some (SetInode a x)) (Some (SetBlock b n y)) h g r = let small = g.1 in absurd (omega (arith, r, small))
same_thing l m (Some (SetInode a x)) (Some (SetEntry e)) h g r = let small = r5_small e.name in absurd (omega (arith, r, small))
same_thing l m (Some (SetBlock a n x)) (Some (SetInode b y)) h g r = let small = h.1 in absurd (omega (arith, r, small))
same_thing l m (Some (SetBlock a n x)) (Some (SetBlock b k y)) h g r =
    let p = h.1 in
    let q = g.1 in
    inl (and_from (b == a) (k == n) (eq-eqb b a (omega (arith, r, p, q))) (eq-eqb k n (omega (arith, r, p, q))))
same_thing l m (Some (SetBlock a n x)) (Some (SetEntry e)) h g r = let p = h.1 in let small = r5_small e.name in absurd (omega (arith, r, p, small))
same_thing l m (Some (SetEntry e)) (Some (SetInode b y)) h g r = let small = r5_small e.name in absurd (omega (arith, r, small))
same_thing l m (Some (SetEntry e)) (Some (SetBlock b n y)) h g r = let q = g.1 in let small = r5_small e.name in absurd (omega (arith, r, q, small))
same_thing l m (Some (SetEntry e)) (Some (SetEntry f)) h g r = inr (refl, refl)
same_thing l m (Some (SetInode a x)) t h g r = absurd g
same_thing l m (Some (SetBlock a n x)) t h g r = absurd g
same_thing l m (Some (SetEntry e)) t h g r = absurd g
same_thing l m s t h g r = absurd h

-- a key that is one has one place in the order
pub key_of_place : (l : Leaf) (s : Option Change) (k : Key) → HasKeyOf l s → IsKey k → leaf_rank l ≡ key_rank k → l.key ≡ k
unfolding key_rank
key_of_place l s k h g e = by s k h g (sym (rank_is l s h) ∙ e)
  where
    by : (s : Option Change) (k : Key) → HasKeyOf l s → IsKey k → rank_shown s ≡ key_rank k → l.key ≡ k
    by (Some (SetInode a x)) (Ino b) h g r = h ∙ ap (λ (n : ℕ). Ino n) (omega (arith, r))
    by (Some (SetInode a x)) (Block b n) h g r = let small = g.1 in absurd (omega (arith, r, small))
    by (Some (SetInode a x)) (Dent b n) h g r = let small = g.1 in absurd (omega (arith, r, small))
    by (Some (SetInode a x)) (Xent b n) h g r = let small = g.1 in absurd (omega (arith, r, small))
    by (Some (SetBlock a n x)) (Ino b) h g r = let small = h.1 in absurd (omega (arith, r, small))
    by (Some (SetBlock a n x)) (Block b k) h g r =
        let p = h.1 in
        let q = g.1 in
        let i : a ≡ b = omega (arith, r, p, q) in
        let j : n ≡ k = omega (arith, r, p, q) in
        h.0 ∙ ap (λ (z : ℕ). Block z n) i ∙ ap (λ (z : ℕ). Block b z) j
    by (Some (SetBlock a n x)) (Dent b k) h g r = let p = h.1 in let q = g.1 in absurd (omega (arith, r, p, q))
    by (Some (SetBlock a n x)) (Xent b k) h g r = let p = h.1 in let q = g.1 in absurd (omega (arith, r, p, q))
    by (Some (SetEntry e)) (Ino b) h g r = let p = r5_small e.name in absurd (omega (arith, r, p))
    by (Some (SetEntry e)) (Block b k) h g r = let p = r5_small e.name in let q = g.1 in absurd (omega (arith, r, p, q))
    by (Some (SetEntry e)) (Dent b k) h g r =
        let p = r5_small e.name in
        let q = g.1 in
        let i : e.dir ≡ b = omega (arith, r, p, q) in
        let j : r5_of e.name ≡ k = omega (arith, r, p, q) in
        h ∙ ap (λ (z : ℕ). Dent z (r5_of e.name)) i ∙ ap (λ (z : ℕ). Dent b z) j
    by (Some (SetEntry e)) (Xent b k) h g r = let p = r5_small e.name in let q = g.1 in absurd (omega (arith, r, p, q))
    by s k h g r = absurd h
