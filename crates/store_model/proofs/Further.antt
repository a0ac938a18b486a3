-- What a cut leaves where more is synced, or a greater number was given, it left before.
use Rattle.std.proofs.Common.{◌≡◌, ℕ, zero, suc, ◌≤◌, true, List, [], ◌∷◌, ◌++◌, length, take, refl, sym, ap, subst, ◌∙◌, arith}
use Rattle.std.specs.Prelude.{nat_lt}
use Rattle.std.specs.List.{flat_map, list_all}
use Rattle.std.proofs.lemmas.Bool.{and_parts, and_from}
use Rattle.fs_model.specs.declared.change.Change.{Change}
use Rattle.fs_model.specs.Files.{Tree}
use Rattle.fs_model.specs.Journal.{Puts, last_number, with_group_at}
use Rattle.fs_model.specs.Recovery.{Head, IsRecovered, KeepsSynced, Numbered, recovered, taken}

-- heads with the same groups, of which as many are synced, or more
abbrev pub AreFurther : List Head → List Head → Type 0
AreFurther [] [] = Unit {0}
AreFurther [] (b ∷ news) = ⊥
AreFurther (a ∷ olds) [] = ⊥
AreFurther (a ∷ olds) (b ∷ news) = (b.groups ≡ a.groups) × (a.synced ≤ b.synced) × AreFurther olds news

further_with : (olds news : List Head) (at : ℕ) (group : Numbered) → AreFurther olds news → AreFurther (with_group_at olds at group) (with_group_at news at group)
further_with [] [] at group f = tt
further_with [] (b ∷ news) at group f = absurd f
further_with (a ∷ olds) [] at group f = absurd f
further_with (a ∷ olds) (b ∷ news) zero group f = (ap (λ (groups : List Numbered). groups ++ group ∷ []) f.0, f.1, f.2)
further_with (a ∷ olds) (b ∷ news) (suc at) group f = (f.0, f.1, further_with olds news at group f.2)

last_low : (n k : ℕ) (group : Numbered) → n ≤ k → last_number n group ≤ last_number k group
last_low n k [] le = le
last_low n k (c ∷ group) le = omega arith

lower : (n k x : ℕ) → n ≤ k → nat_lt k x ≡ true → nat_lt n x ≡ true
lower n k x le h = grind (arith)

all_lower : (n k : ℕ) (group : Numbered) → n ≤ k → list_all (λ c. nat_lt k c.0) group ≡ true → list_all (λ c. nat_lt n c.0) group ≡ true
all_lower n k [] le h = refl
all_lower n k (c ∷ group) le h =
    let p = and_parts (nat_lt k c.0) (list_all (λ c. nat_lt k c.0) group) h in
    and_from (nat_lt n c.0) (list_all (λ c. nat_lt n c.0) group) (lower n k c.0 le p.0) (all_lower n k group le p.1)

-- what is put on the one can be put on the other
record ArePut (sqnum : ℕ) (heads : List Head) (puts : List (ℕ × List Change)) (after : List Head) : Type 0 where
  later : List Head
  put : Puts sqnum heads puts later
  further : AreFurther later after

further_puts : (n k : ℕ) (olds news : List Head) (puts : List (ℕ × List Change)) (after : List Head) → n ≤ k → AreFurther olds news → Puts k news puts after → ArePut n olds puts after
further_puts n k olds news [] after le f e = record { later = olds; put = refl; further = subst (AreFurther olds) (sym e) f }
further_puts n k olds news (put ∷ puts) after le f (group, next, same, rest) =
    let it = further_puts (last_number n group) (last_number k group) (with_group_at olds put.0 group) (with_group_at news put.0 group) puts after (last_low n k group le) (further_with olds news put.0 group f) rest in
    record { later = it.later; put = (group, record { ascending = next.ascending; above = all_lower n k group le next.above }, same, it.put); further = it.further }

pub further_keeps : (olds news : List Head) (counts : List ℕ) → AreFurther olds news → KeepsSynced news counts → KeepsSynced olds counts
further_keeps [] [] counts f k = k
further_keeps [] (b ∷ news) counts f k = absurd f
further_keeps (a ∷ olds) [] counts f k = absurd f
further_keeps (a ∷ olds) (b ∷ news) [] f k = absurd k
further_keeps (a ∷ olds) (b ∷ news) (count ∷ counts) f k =
    let more = f.1 in
    let low = k.0 in
    let P : List Numbered → Type 0 = λ groups. count ≤ length groups in
    (omega (arith, more, low), subst P f.0 k.1, further_keeps olds news counts f.2 k.2)

pub further_taken : (olds news : List Head) (counts : List ℕ) → AreFurther olds news → taken news counts ≡ taken olds counts
further_taken [] [] counts f = refl
further_taken [] (b ∷ news) counts f = absurd f
further_taken (a ∷ olds) [] counts f = absurd f
further_taken (a ∷ olds) (b ∷ news) [] f = refl
further_taken (a ∷ olds) (b ∷ news) (count ∷ counts) f =
    ap (λ (groups : List Numbered). flat_map (λ group. group) (take count groups) ++ taken news counts) f.0
    ∙ ap (λ (rest : Numbered). flat_map (λ group. group) (take count a.groups) ++ rest) (further_taken olds news counts f.2)

-- a cut may leave this tree of heads, once groups were put on them
abbrev pub MayCome : Tree → ℕ → List Head → List (ℕ × List Change) → Tree → Type 0
MayCome committed sqnum heads puts tree = (after : List Head) × Puts sqnum heads puts after × IsRecovered committed after tree

pub further_left : (committed : Tree) (n k : ℕ) (olds news : List Head) (puts : List (ℕ × List Change)) (tree : Tree) → n ≤ k → AreFurther olds news → MayCome committed k news puts tree
    → MayCome committed n olds puts tree
further_left committed n k olds news puts tree le f (heads, are, is) =
    let it = further_puts n k olds news puts heads le f are in
    (it.later, it.put, record { counts = is.counts; synced = further_keeps it.later heads is.counts it.further is.synced; tree_is = is.tree_is ∙ ap (recovered committed) (further_taken it.later heads is.counts it.further) })
