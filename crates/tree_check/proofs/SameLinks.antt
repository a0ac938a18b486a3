-- The links that leaves show, in whatever order.
use Rattle.std.proofs.Common.{◌≡◌, ◌+◌, ◌++◌, ◌||◌, ◌&&◌, ◌==◌, ℕ, zero, suc, Bool, true, false, cond, filter, sum_by, List, [], ◌∷◌, refl, sym, ap, ◌∙◌, IsPermutation, arith}
use Rattle.std.specs.Prelude.{⊤}
use Rattle.std.specs.BTreeMap.{insert_entry, is_at}
use Rattle.std.specs.List.{list_any}
use Rattle.std.specs.Map.{values_of}
use Rattle.std.specs.Ordering.{match_ordering}
use Rattle.std.specs.declared.cmp.Ordering.{Ordering}
use Rattle.std.specs.declared.cmp.Ordering.TheVariants.{Less, Equal, Greater}
use Rattle.std.proofs.lemmas.List.Sorted.{IsPermutation-append_left, IsPermutation-cons, IsPermutation-refl, IsPermutation-to_front, IsPermutation-trans, sum_by-IsPermutation}
use Rattle.std.proofs.lemmas.List.Sums.{sum_by-cons}
use Rattle.fs_laws.specs.Orders.{named}
use Rattle.fs_model.specs.Files.{name_cmp}
use Rattle.fs_model.specs.Path.{is_same_name}
use Rattle.tree_check.specs.KeyOrder.{ShowNothingTwice}
use Rattle.tree_check.specs.Links.{LinkMap, entries_over, entry_link, entry_links, links_shown, with_link}
use Rattle.tree_check.specs.Reach.{reaches}
use Rattle.tree_check.specs.Seen.{same_name, same_told}
use Rattle.tree_check.specs.declared.link.Link.{Link}
use Rattle.tree_check.specs.declared.shown_leaf.Shown.{Shown}
use Rattle.tree_check.specs.declared.shown_leaf.Shown.TheVariants.{Inode, Entry, Deletion, Block, Truncation, Nothing}
use Rattle.tree_check.specs.declared.shown_leaf.ShownLeaf.{ShownLeaf}
use Rattle.tree_check.proofs.GoingUp.{no}
use Rattle.tree_check.proofs.SeenMore.{at_name}
use Rattle.tree_check.proofs.TestLaws.{at_here}

-- ---- entries of leaves that show nothing twice
-- none of these entries has this name
abbrev AreOthers : ℕ × List ℕ → LinkMap → Type 0
AreOthers k [] = ⊤
AreOthers k (e ∷ entries) = (k ≡ e.0 → ⊥) × AreOthers k entries

insert_others : (k : ℕ × List ℕ) (entries : LinkMap) (q : ℕ × List ℕ) (v : Link) → (k ≡ q → ⊥) → AreOthers k entries → AreOthers k (insert_entry name_cmp entries q v)
insert_others k [] q v h a = (h, tt)
insert_others k (e ∷ entries) q v h a = by (name_cmp q e.0) (insert_others k entries q v h a.1)
  where
    by : (o : Ordering) → AreOthers k (insert_entry name_cmp entries q v) → AreOthers k (match_ordering o ((q, v) ∷ e ∷ entries) ((e.0, v) ∷ entries) (e ∷ insert_entry name_cmp entries q v))
    by Less more = (h, a)
    by Equal more = a
    by Greater more = (a.0, more)

-- two names are one
abbrev IsName : ℕ × List ℕ → ℕ × List ℕ → Type 0
IsName k q = k ≡ q

other_name : (dir : ℕ) (name : List ℕ) (d : ℕ) (n : List ℕ) → ((d == dir) && is_same_name n name) ≡ false → IsName (dir, name) (d, n) → ⊥
other_name dir name d n h e = by ((d == dir) && is_same_name n name) (at_name dir name d n) h
  where
    by : (b : Bool) → is_at (name_cmp (dir, name)) (d, n) ≡ b → b ≡ false → ⊥
    by false is h = no (sym is ∙ at_here name_cmp named (dir, name) (d, n) e)
    by true is h = no (sym h)

entries_others : (dir : ℕ) (name : List ℕ) (leaves : List ShownLeaf) → list_any (λ y. same_name dir name y.shown) leaves ≡ false → AreOthers (dir, name) (entries_over leaves [])
entries_others dir name [] h = tt
entries_others dir name (x ∷ leaves) h = by (same_name dir name x.shown) refl h (λ k. entries_others dir name leaves k)
  where
    one : (s : Shown) → same_name dir name s ≡ false → AreOthers (dir, name) (entries_over leaves []) → AreOthers (dir, name) (with_link s (entries_over leaves []))
    one (Entry d n ino kind) e a = insert_others (dir, name) (entries_over leaves []) (d, n) (record { dir = d; ino = ino }) (other_name dir name d n e) a
    one (Inode ino kind links) e a = a
    one (Deletion d n) e a = a
    one (Block ino block) e a = a
    one (Truncation ino size) e a = a
    one Nothing e a = a

    by : (b : Bool) → same_name dir name x.shown ≡ b → (b || list_any (λ y. same_name dir name y.shown) leaves) ≡ false
        → (list_any (λ y. same_name dir name y.shown) leaves ≡ false → AreOthers (dir, name) (entries_over leaves [])) → AreOthers (dir, name) (with_link x.shown (entries_over leaves []))
    by false e h more = one x.shown e (more h)
    by true e h more = absurd (no (sym h))

-- ---- a new entry
two_first : (a b : Link) (xs : List Link) → IsPermutation (a ∷ b ∷ xs) (b ∷ a ∷ xs)
two_first a b xs = IsPermutation-append_left xs (a ∷ b ∷ []) (b ∷ a ∷ []) (IsPermutation-to_front (a ∷ []) b)

new_entry : (entries : LinkMap) (k : ℕ × List ℕ) (v : Link) → AreOthers k entries → IsPermutation (v ∷ values_of entries) (values_of (insert_entry name_cmp entries k v))
new_entry [] k v a = IsPermutation-refl (v ∷ [])
new_entry (e ∷ entries) k v a = by (name_cmp k e.0) refl (new_entry entries k v a.1)
  where
    by : (o : Ordering) → name_cmp k e.0 ≡ o → IsPermutation (v ∷ values_of entries) (values_of (insert_entry name_cmp entries k v))
        → IsPermutation (v ∷ values_of (e ∷ entries)) (values_of (match_ordering o ((k, v) ∷ e ∷ entries) ((e.0, v) ∷ entries) (e ∷ insert_entry name_cmp entries k v)))
    by Less is more = IsPermutation-refl (v ∷ values_of (e ∷ entries))
    by Equal is more = absurd (a.0 (named.exact k e.0 is))
    by Greater is more =
        IsPermutation-trans (v ∷ e.1 ∷ values_of entries) (e.1 ∷ v ∷ values_of entries) (e.1 ∷ values_of (insert_entry name_cmp entries k v)) (two_first v e.1 (values_of entries))
        (IsPermutation-cons e.1 (v ∷ values_of entries) (values_of (insert_entry name_cmp entries k v)) more)

-- the links of leaves that show nothing twice are those that they show
pub same_links : (leaves : List ShownLeaf) → ShowNothingTwice leaves → IsPermutation (entry_links leaves) (links_shown leaves)
same_links [] h = IsPermutation-refl []
same_links (x ∷ leaves) h = by x.shown h.0 (same_links leaves h.1)
  where
    by : (s : Shown) → list_any (λ y. same_told s y.shown) leaves ≡ false → IsPermutation (entry_links leaves) (values_of (entries_over leaves []))
        → IsPermutation (entry_link s ++ entry_links leaves) (values_of (with_link s (entries_over leaves [])))
    by (Entry dir name ino kind) a more =
        let v : Link = record { dir = dir; ino = ino } in
        IsPermutation-trans (v ∷ entry_links leaves) (v ∷ values_of (entries_over leaves [])) (values_of (insert_entry name_cmp (entries_over leaves []) (dir, name) v))
        (IsPermutation-cons v (entry_links leaves) (values_of (entries_over leaves [])) more) (new_entry (entries_over leaves []) (dir, name) v (entries_others dir name leaves a))
    by (Inode ino kind links) a more = more
    by (Deletion dir name) a more = more
    by (Block ino block) a more = more
    by (Truncation ino size) a more = more
    by Nothing a more = more

-- ---- what is said of links in whatever order
abbrev weight : (Link → Bool) → Link → ℕ
weight p x = cond (p x) 1 0

abbrev is_some_of : ℕ → Bool
is_some_of zero = false
is_some_of (suc n) = true

one_more : (n : ℕ) → suc n ≡ 1 + n
one_more n = omega arith

none_more : (n : ℕ) → n ≡ 0 + n
none_more n = omega arith

any_weighed : (p : Link → Bool) (xs : List Link) → list_any p xs ≡ is_some_of (sum_by (weight p) xs)
any_weighed p [] = refl
any_weighed p (x ∷ xs) = by (p x) (any_weighed p xs) ∙ ap is_some_of (sym (sum_by-cons (weight p) x xs))
  where
    by : (b : Bool) → list_any p xs ≡ is_some_of (sum_by (weight p) xs) → (b || list_any p xs) ≡ is_some_of (cond b 1 0 + sum_by (weight p) xs)
    by true h = ap is_some_of (one_more (sum_by (weight p) xs))
    by false h = h ∙ ap is_some_of (none_more (sum_by (weight p) xs))

any_same : (p : Link → Bool) (xs ys : List Link) → IsPermutation xs ys → list_any p xs ≡ list_any p ys
any_same p xs ys s = any_weighed p xs ∙ ap is_some_of (sym (sum_by-IsPermutation (weight p) xs ys s)) ∙ sym (any_weighed p ys)

pub any_filtered : (p q : Link → Bool) (xs : List Link) → list_any p (filter q xs) ≡ list_any (λ x. q x && p x) xs
any_filtered p q [] = refl
any_filtered p q (x ∷ xs) = by (q x) (any_filtered p q xs)
  where
    by : (b : Bool) → list_any p (filter q xs) ≡ list_any (λ x. q x && p x) xs → list_any p (cond b (x ∷ filter q xs) (filter q xs)) ≡ ((b && p x) || list_any (λ x. q x && p x) xs)
    by true h = ap (λ (c : Bool). p x || c) h
    by false h = h

any_alike : (p q : Link → Bool) → ((x : Link) → p x ≡ q x) → (xs : List Link) → list_any p xs ≡ list_any q xs
any_alike p q h [] = refl
any_alike p q h (x ∷ xs) = ap (λ (c : Bool). c || list_any p xs) (h x) ∙ ap (λ (c : Bool). q x || c) (any_alike p q h xs)

pub reaches_same : (xs ys : List Link) → IsPermutation xs ys → (steps q : ℕ) → reaches xs steps q ≡ reaches ys steps q
reaches_same xs ys s zero q = refl
reaches_same xs ys s (suc steps) q =
    ap (λ (c : Bool). (q == 1) || c)
    (any_filtered (λ link. reaches xs steps link.dir) (λ link. link.ino == q) xs
    ∙ any_same (λ link. (link.ino == q) && reaches xs steps link.dir) xs ys s
    ∙ any_alike (λ link. (link.ino == q) && reaches xs steps link.dir) (λ link. (link.ino == q) && reaches ys steps link.dir) (λ link. ap (λ (c : Bool). (link.ino == q) && c) (reaches_same xs ys s steps link.dir)) ys
    ∙ sym (any_filtered (λ link. reaches ys steps link.dir) (λ link. link.ino == q) ys))
