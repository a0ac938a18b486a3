-- Leaves that are swapped one after another go where they are sent, each by itself.
use Rattle.std.proofs.Common.{◌≡◌, ℕ, Bool, true, false, cond, not, List, [], ◌∷◌, map, refl, sym, ap, ◌∙◌, Option, Some, None}
use Rattle.std.specs.Prelude.{filter, fold, MatchOption}
use Rattle.std.specs.List.{AllByRecursion}
use Rattle.std.proofs.lemmas.Bool.{false≢true, false_from_ne_true}
use Rattle.std.proofs.lemmas.Map.Keys.{IsDistinct-cons, IsDistinct-head, IsDistinct-tail}
use Rattle.index_tree.specs.declared.leaf.Leaf.{Leaf}
use Rattle.index_tree.specs.Distinct.{AreDistinct}
use Rattle.index_tree.specs.Removal.{same_leaf}
use Rattle.index_tree.specs.Replacement.{swapped}
use Rattle.leaf_map.specs.Parts.{Named, is_named}
use Rattle.log_replay.proofs.Distinct.{same_turned}
use Rattle.log_replay.proofs.Owning.{is_one}

-- a leaf that is sent to another place, if it is
pub record Sent : Type 0 where
  pub leaf : Leaf
  pub new : Option Leaf

-- leaves with one of them where it is sent
abbrev pub one_sent : List Leaf → Sent → List Leaf
one_sent xs sent = by sent.new
  where
    by : Option Leaf → List Leaf
    by None = xs
    by (Some new) = swapped sent.leaf new xs

-- where a leaf is sent, and where it stays if it isn't
abbrev pub if_sent : Option Leaf → Leaf → Leaf
if_sent None l = l
if_sent (Some new) l = new

-- where a leaf goes
abbrev pub goes_to : List Sent → Leaf → Leaf
goes_to [] l = l
goes_to (s ∷ sents) l = if_sent (cond (same_leaf l s.leaf) s.new None) (goes_to sents l)

-- a leaf in a LEB that isn't named
abbrev pub is_outside : List Named → Leaf → Bool
is_outside named l = not (is_named named l.lnum)

-- leaves of LEBs that aren't named are sent to LEBs that are
abbrev pub GoesIn : List Named → Sent → Type 0
GoesIn named s = (is_outside named s.leaf ≡ true) × MatchOption s.new (Unit {0}) (λ new. is_outside named new ≡ false)

-- a named LEB is none that isn't
apart : (named : List Named) (x y : Leaf) → is_outside named x ≡ false → is_outside named y ≡ true → same_leaf x y ≡ false
apart named x y h g = false_from_ne_true (same_leaf x y) (λ e. false≢true (sym h ∙ ap (λ (n : ℕ). not (is_named named n)) (is_one x y e).lnum ∙ g))

pub stays : (named : List Named) (sents : List Sent) (l : Leaf) → AllByRecursion (GoesIn named) sents → is_outside named l ≡ false → goes_to sents l ≡ l
stays named [] l all h = refl
stays named (s ∷ sents) l all h = rw (apart named l s.leaf h all.0.0) (stays named sents l all.1 h)

-- no two leaves of LEBs that aren't named are one
abbrev pub AreOutsideDistinct : List Named → List Leaf → Type 0
AreOutsideDistinct named xs = AreDistinct (filter (is_outside named) xs)

-- a leaf is none of these in LEBs that aren't named
abbrev Apart : List Named → Leaf → List Leaf → Type 0
Apart named x xs = AllByRecursion (λ y. same_leaf x y ≡ false) (filter (is_outside named) xs)

-- what is the same as one of two leaves that are one is the same as the other
one_same : (x y z : Leaf) → same_leaf x y ≡ true → same_leaf z x ≡ same_leaf z y
unfolding same_leaf
one_same x y z e = let o = is_one x y e in rw (o.rank, o.lnum, o.offs, o.len) refl

-- behind one that goes, none goes so
rest_goes : (named : List Named) (x : Leaf) (s : Sent) (new : Leaf) (sents : List Sent) (xs : List Leaf) → s.new ≡ Some new → is_outside named s.leaf ≡ true → same_leaf x s.leaf ≡ true → Apart named x xs
    → map (goes_to sents) xs ≡ map (goes_to (s ∷ sents)) xs
rest_goes named x s new sents [] n o e a = refl
rest_goes named x s new sents (y ∷ xs) n o e a = by (λ b. rest_goes named x s new sents xs n o e b) (is_outside named y) refl a
  where
    go : same_leaf y s.leaf ≡ false → map (goes_to sents) xs ≡ map (goes_to (s ∷ sents)) xs → map (goes_to sents) (y ∷ xs) ≡ map (goes_to (s ∷ sents)) (y ∷ xs)
    go f more = rw f (ap (λ z. goes_to sents y ∷ z) more)

    by : (Apart named x xs → map (goes_to sents) xs ≡ map (goes_to (s ∷ sents)) xs) → (b : Bool) → is_outside named y ≡ b → AllByRecursion (λ z. same_leaf x z ≡ false) (cond b (y ∷ filter (is_outside named) xs) (filter (is_outside named) xs)) → map (goes_to sents) (y ∷ xs) ≡ map (goes_to (s ∷ sents)) (y ∷ xs)
    by rest true i f = go (sym (one_same x s.leaf y e) ∙ same_turned y x ∙ f.0) (rest f.1)
    by rest false i f = go (apart named y s.leaf i o) (rest f)

swap_goes : (named : List Named) (s : Sent) (new : Leaf) (sents : List Sent) (xs : List Leaf) → s.new ≡ Some new → GoesIn named s → AllByRecursion (GoesIn named) sents → is_outside named new ≡ false → AreOutsideDistinct named xs
    → map (goes_to sents) (swapped s.leaf new xs) ≡ map (goes_to (s ∷ sents)) xs
swap_goes named s new sents [] n g all i d = refl
swap_goes named s new sents (x ∷ xs) n g all i d = by (swap_goes named s new sents xs n g all i) (same_leaf x s.leaf) refl (is_outside named x) refl d
  where
    by : (AreOutsideDistinct named xs → map (goes_to sents) (swapped s.leaf new xs) ≡ map (goes_to (s ∷ sents)) xs) → (b : Bool) → same_leaf x s.leaf ≡ b → (o : Bool) → is_outside named x ≡ o → AreDistinct (cond o (x ∷ filter (is_outside named) xs) (filter (is_outside named) xs))
        → map (goes_to sents) (cond b (new ∷ xs) (x ∷ swapped s.leaf new xs)) ≡ if_sent (cond b s.new None) (goes_to sents x) ∷ map (goes_to (s ∷ sents)) xs
    by rest true e true o f =
        ap (λ z. z ∷ map (goes_to sents) xs) (stays named sents new all i ∙ sym (ap (λ z. if_sent z (goes_to sents x)) n))
        ∙ ap (λ z. if_sent s.new (goes_to sents x) ∷ z) (rest_goes named x s new sents xs n g.0 e (IsDistinct-head same_leaf x (filter (is_outside named) xs) f))
    by rest true e false o f = absurd (false≢true (sym (apart named x s.leaf o g.0) ∙ e))
    by rest false e true o f = ap (λ z. goes_to sents x ∷ z) (rest (IsDistinct-tail same_leaf x (filter (is_outside named) xs) f))
    by rest false e false o f = ap (λ z. goes_to sents x ∷ z) (rest f)

swap_apart : (named : List Named) (x old new : Leaf) (xs : List Leaf) → is_outside named new ≡ false → Apart named x xs → Apart named x (swapped old new xs)
swap_apart named x old new [] i a = tt
swap_apart named x old new (y ∷ xs) i a = by (swap_apart named x old new xs i) (same_leaf y old) (is_outside named y) refl a
  where
    by : (Apart named x xs → Apart named x (swapped old new xs)) → (b o : Bool) → is_outside named y ≡ o → AllByRecursion (λ z. same_leaf x z ≡ false) (cond o (y ∷ filter (is_outside named) xs) (filter (is_outside named) xs)) → Apart named x (cond b (new ∷ xs) (y ∷ swapped old new xs))
    by rest true true o f = rw i f.1
    by rest true false o f = rw i f
    by rest false true o f = rw o (f.0, rest f.1)
    by rest false false o f = rw o (rest f)

swap_distinct : (named : List Named) (old new : Leaf) (xs : List Leaf) → is_outside named new ≡ false → AreOutsideDistinct named xs → AreOutsideDistinct named (swapped old new xs)
swap_distinct named old new [] i d = d
swap_distinct named old new (x ∷ xs) i d = by (swap_distinct named old new xs i) (same_leaf x old) (is_outside named x) refl d
  where
    inside : List Leaf
    inside = filter (is_outside named) xs

    by : (AreOutsideDistinct named xs → AreOutsideDistinct named (swapped old new xs)) → (b o : Bool) → is_outside named x ≡ o → AreDistinct (cond o (x ∷ inside) inside) → AreOutsideDistinct named (cond b (new ∷ xs) (x ∷ swapped old new xs))
    by rest true true o f = rw i (IsDistinct-tail same_leaf x inside f)
    by rest true false o f = rw i f
    by rest false true o f = rw o (IsDistinct-cons same_leaf x (filter (is_outside named) (swapped old new xs)) (swap_apart named x old new xs i (IsDistinct-head same_leaf x inside f)) (rest (IsDistinct-tail same_leaf x inside f)))
    by rest false false o f = rw o (rest f)

none_goes : (s : Sent) (sents : List Sent) (xs : List Leaf) → s.new ≡ None → map (goes_to sents) xs ≡ map (goes_to (s ∷ sents)) xs
none_goes s sents [] n = refl
none_goes s sents (x ∷ xs) n = rw n (by (none_goes s sents xs n) (same_leaf x s.leaf))
  where
    by : map (goes_to sents) xs ≡ map (goes_to (s ∷ sents)) xs → (b : Bool) → goes_to sents x ∷ map (goes_to sents) xs ≡ if_sent (cond b None None) (goes_to sents x) ∷ map (goes_to (s ∷ sents)) xs
    by rest true = ap (λ z. goes_to sents x ∷ z) rest
    by rest false = ap (λ z. goes_to sents x ∷ z) rest

pub all_go : (named : List Named) (sents : List Sent) (xs : List Leaf) → AllByRecursion (GoesIn named) sents → AreOutsideDistinct named xs → fold one_sent xs sents ≡ map (goes_to sents) xs
all_go named [] xs all d = stay xs
  where
    stay : (ys : List Leaf) → ys ≡ map (λ l. l) ys
    stay [] = refl
    stay (y ∷ ys) = ap (λ z. y ∷ z) (stay ys)
all_go named (s ∷ sents) xs all d = by (λ ys e. all_go named sents ys all.1 e) s.new refl all.0.1
  where
    by : ((ys : List Leaf) → AreOutsideDistinct named ys → fold one_sent ys sents ≡ map (goes_to sents) ys) → (n : Option Leaf) → s.new ≡ n → MatchOption n (Unit {0}) (λ new. is_outside named new ≡ false) → fold one_sent (one_sent xs s) sents ≡ map (goes_to (s ∷ sents)) xs
    by rest None n m = ap (λ z. fold one_sent z sents) (rw n refl) ∙ rest xs d ∙ none_goes s sents xs n
    by rest (Some new) n m =
        ap (λ z. fold one_sent z sents) (rw n refl) ∙ rest (swapped s.leaf new xs) (swap_distinct named s.leaf new xs m d) ∙ swap_goes named s new sents xs n all.0 all.1 m d

-- ---- where one leaf goes
apart_left : (named : List Named) (x : Leaf) (ys : List Leaf) → AllByRecursion (λ y. same_leaf x y ≡ false) ys → Apart named x ys
apart_left named x [] a = tt
apart_left named x (y ∷ ys) a = test (apart_left named x ys a.1) (is_outside named y)
  where
    test : Apart named x ys → (b : Bool) → AllByRecursion (λ z. same_leaf x z ≡ false) (cond b (y ∷ filter (is_outside named) ys) (filter (is_outside named) ys))
    test rest true = (a.0, rest)
    test rest false = rest

pub outside_distinct : (named : List Named) (xs : List Leaf) → AreDistinct xs → AreOutsideDistinct named xs
outside_distinct named [] d = d
outside_distinct named (x ∷ xs) d = by (is_outside named x) (outside_distinct named xs (IsDistinct-tail same_leaf x xs d))
  where
    by : (b : Bool) → AreOutsideDistinct named xs → AreDistinct (cond b (x ∷ filter (is_outside named) xs) (filter (is_outside named) xs))
    by true more = IsDistinct-cons same_leaf x (filter (is_outside named) xs) (apart_left named x xs (IsDistinct-head same_leaf x xs d)) more
    by false more = more
