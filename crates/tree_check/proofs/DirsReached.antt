-- What is reached through the links between directories alone.
use Rattle.std.proofs.Common.{◌≡◌, ◌||◌, ◌&&◌, ◌==◌, ℕ, zero, suc, Bool, true, false, cond, filter, List, [], ◌∷◌, length, refl, sym, ap, ◌∙◌, arith, eq-eqb, eqb-true}
use Rattle.std.specs.List.{list_any}
use Rattle.tree_check.specs.Reach.{AreDirsAmong, is_reached, mem, reaches}
use Rattle.tree_check.specs.declared.link.Link.{Link}
use Rattle.tree_check.proofs.SameLinks.{any_filtered}

-- two tests that answer alike at the links that lead to q, one of them of the links between alone
same_any : (dirs : List ℕ) (q : ℕ) (p r : Link → Bool) → mem q dirs ≡ true → (xs : List Link) → AreDirsAmong dirs xs → ((x : Link) → mem x.dir dirs ≡ true → p x ≡ r x)
    → list_any (λ x. mem x.ino dirs && ((x.ino == q) && p x)) xs ≡ list_any (λ x. (x.ino == q) && r x) xs
same_any dirs q p r h [] a same = refl
same_any dirs q p r h (x ∷ xs) a same = by (x.ino == q) refl (same_any dirs q p r h xs a.1 same)
  where
    none_of : (b : Bool) → (b && (false && p x)) ≡ false
    none_of true = refl
    none_of false = refl

    at_q : x.ino ≡ q → mem x.ino dirs ≡ true
    at_q e = ap (λ (z : ℕ). mem z dirs) e ∙ h

    by : (b : Bool) → (x.ino == q) ≡ b → list_any (λ x. mem x.ino dirs && ((x.ino == q) && p x)) xs ≡ list_any (λ x. (x.ino == q) && r x) xs
        → ((mem x.ino dirs && (b && p x)) || list_any (λ x. mem x.ino dirs && ((x.ino == q) && p x)) xs) ≡ ((b && r x) || list_any (λ x. (x.ino == q) && r x) xs)
    by true e more =
        ap (λ (c : Bool). (c && (true && p x)) || list_any (λ x. mem x.ino dirs && ((x.ino == q) && p x)) xs) (at_q (eqb-true x.ino q e))
        ∙ ap (λ (c : Bool). c || list_any (λ x. mem x.ino dirs && ((x.ino == q) && p x)) xs) (same x a.0)
        ∙ ap (λ (c : Bool). r x || c) more
    by false e more = ap (λ (c : Bool). c || list_any (λ x. mem x.ino dirs && ((x.ino == q) && p x)) xs) (none_of (mem x.ino dirs)) ∙ more

-- the links between these directories
abbrev between : List ℕ → List Link → List Link
between dirs links = filter (λ link. mem link.ino dirs) links

through : (dirs : List ℕ) (links : List Link) → AreDirsAmong dirs links → (p r : Link → Bool) → ((x : Link) → mem x.dir dirs ≡ true → p x ≡ r x) → (q : ℕ) → mem q dirs ≡ true
    → list_any p (filter (λ link. link.ino == q) (between dirs links)) ≡ list_any r (filter (λ link. link.ino == q) links)
through dirs links a p r same q h =
    any_filtered p (λ link. link.ino == q) (between dirs links)
    ∙ any_filtered (λ link. (link.ino == q) && p link) (λ link. mem link.ino dirs) links
    ∙ same_any dirs q p r h links a same
    ∙ sym (any_filtered r (λ link. link.ino == q) links)

-- those reach the directories that all reach
pub reached_between : (dirs : List ℕ) (links : List Link) → AreDirsAmong dirs links → (steps q : ℕ) → mem q dirs ≡ true → reaches (between dirs links) steps q ≡ reaches links steps q
reached_between dirs links a zero q h = refl
reached_between dirs links a (suc steps) q h =
    ap (λ (c : Bool). (q == 1) || c)
    (through dirs links a (λ link. reaches (between dirs links) steps link.dir) (λ link. reaches links steps link.dir) (λ x k. reached_between dirs links a steps x.dir k) q h)

-- ---- of links from these directories
any_from : (dirs : List ℕ) (p r : ℕ → Bool) → ((d : ℕ) → mem d dirs ≡ true → p d ≡ r d) → (q : ℕ) (xs : List Link) → AreDirsAmong dirs xs
    → list_any (λ link. p link.dir) (filter (λ link. link.ino == q) xs) ≡ list_any (λ link. r link.dir) (filter (λ link. link.ino == q) xs)
any_from dirs p r same q [] a = refl
any_from dirs p r same q (x ∷ xs) a = by (x.ino == q) (any_from dirs p r same q xs a.1)
  where
    by : (b : Bool) → list_any (λ link. p link.dir) (filter (λ link. link.ino == q) xs) ≡ list_any (λ link. r link.dir) (filter (λ link. link.ino == q) xs)
        → list_any (λ (link : Link). p link.dir) (cond b (x ∷ filter (λ link. link.ino == q) xs) (filter (λ link. link.ino == q) xs))
        ≡ list_any (λ (link : Link). r link.dir) (cond b (x ∷ filter (λ link. link.ino == q) xs) (filter (λ link. link.ino == q) xs))
    by true more = ap (λ (c : Bool). c || list_any (λ (link : Link). p link.dir) (filter (λ link. link.ino == q) xs)) (same x.dir a.0) ∙ ap (λ (c : Bool). r x.dir || c) more
    by false more = more

-- in a step more each inode is reached
pub reached_below : (dirs : List ℕ) (links : List Link) → AreDirsAmong dirs links → (steps : ℕ) (reached : ℕ → Bool) → ((q : ℕ) → reached q ≡ reaches (between dirs links) steps q) → (q : ℕ) → is_reached links reached q ≡ reaches links (suc steps) q
reached_below dirs links a steps reached h q =
    ap (λ (c : Bool). (q == 1) || c) (any_from dirs reached (reaches links steps) (λ d k. h d ∙ reached_between dirs links a steps d k) q links a)

none_from : (reached : ℕ → Bool) → ((q : ℕ) → reached q ≡ false) → (links : List Link) → list_any (λ link. reached link.dir) links ≡ false
none_from reached h [] = refl
none_from reached h (x ∷ links) = ap (λ (c : Bool). c || list_any (λ (link : Link). reached link.dir) links) (h x.dir) ∙ none_from reached h links

or_true : (b : Bool) → (b || true) ≡ true
or_true true = refl
or_true false = refl

or_false : (b : Bool) → (b || false) ≡ b
or_false true = refl
or_false false = refl

-- in no step the root alone is
pub reached_at_once : (links : List Link) (reached : ℕ → Bool) → ((q : ℕ) → reached q ≡ false) → (q : ℕ) → is_reached links reached q ≡ reaches links 0 q
reached_at_once links reached h q = ap (λ (c : Bool). (q == 1) || c) (none_from reached h (filter (λ link. link.ino == q) links)) ∙ or_false (q == 1)

-- ---- the directories of links
among_more : (dirs : List ℕ) (all : List Link) → ((q : ℕ) → list_any (λ link. link.dir == q) all ≡ true → mem q dirs ≡ true) → AreDirsAmong dirs all
among_more dirs [] h = tt
among_more dirs (x ∷ all) h = (
  h x.dir (ap (λ (b : Bool). b || list_any (λ (link : Link). link.dir == x.dir) all) (eq-eqb x.dir x.dir refl)),
  among_more dirs all (λ q e. h q (ap (λ (b : Bool). (x.dir == q) || b) e ∙ or_true (x.dir == q))),
)

pub dirs_are_among : (all left : List Link) (dirs sorted : List ℕ) → length left ≡ 0 → ((q : ℕ) → (mem q dirs || list_any (λ link. link.dir == q) left) ≡ list_any (λ link. link.dir == q) all) → ((q : ℕ) → mem q dirs ≡ mem q sorted) → AreDirsAmong sorted all
dirs_are_among all [] dirs sorted e h same = among_more sorted all (λ q k. sym (same q) ∙ sym (or_false (mem q dirs)) ∙ h q ∙ k)
dirs_are_among all (x ∷ left) dirs sorted e h same = absurd (omega (arith, e))

-- ---- one link after another
pub any_first : (p : Link → Bool) (left rest : List Link) (x : Link) → left ≡ x ∷ rest → p x ≡ true → list_any p left ≡ true
any_first p left rest x e h = ap (list_any p) e ∙ ap (λ (b : Bool). b || list_any p rest) h

pub any_rest : (p : Link → Bool) (left rest : List Link) (x : Link) → left ≡ x ∷ rest → p x ≡ false → list_any p left ≡ list_any p rest
any_rest p left rest x e h = ap (list_any p) e ∙ ap (λ (b : Bool). b || list_any p rest) h

pub any_none : (p : Link → Bool) (left : List Link) → length left ≡ 0 → false ≡ list_any p left
any_none p [] e = refl
any_none p (x ∷ left) e = absurd (omega (arith, e))
