-- Laws of recovery: groups whose numbers are all below those of later groups are made first, so what was synced is a tree of its own that later groups are put on.
use Rattle.std.proofs.Common.{◌≡◌, ℕ, zero, suc, ◌+◌, ◌-◌, ◌≤◌, ◌<◌, ◌⊎◌, inl, inr, Bool, true, false, cond, not, ◌&&◌, List, [], ◌∷◌, ◌++◌, length, take, drop, map, refl, sym, ap, subst, ◌∙◌, arith, append_assoc, append-nil, length-append}
use Rattle.std.specs.Prelude.{fold, nat_lt, nat_le, Option, Some, None}
use Rattle.std.specs.List.{list_all, flat_map}
use Rattle.std.specs.Ordering.{nat_cmp}
use Rattle.std.proofs.lemmas.Bool.{and_parts, and_from, ltb-true, lt-ltb, le-ltb, leb-true, le-leb}
use Rattle.std.proofs.lemmas.List.Sums.{fold-append}
use Rattle.std.proofs.lemmas.Grind.{flat_map-append}
use Rattle.std.proofs.lemmas.List.{map-append, take-append-drop}
use Rattle.std.proofs.lemmas.List.Folds.{list_all-append}
use Rattle.std.proofs.Math.Seq.{take-append-add}
use Rattle.fs_model.specs.declared.change.Change.{Change}
use Rattle.fs_model.specs.Change.{apply, applied}
use Rattle.fs_model.specs.Files.{Tree}
use Rattle.fs_model.specs.Journal.{Puts, AreNext, last_number, with_group_at}
use Rattle.fs_model.specs.Orphan.{without_nameless}
use Rattle.fs_model.specs.Recovery.{Numbered, Head, IsRecovered, KeepsSynced, taken, placed, by_number, as_replayed, recovered}

-- the tree after changes that are applied in order of number
abbrev pub replayed : Tree → Numbered → Tree
replayed committed changes = apply committed (map (λ c. as_replayed c.1) (by_number changes))

-- whether no number of these changes is above this one
abbrev pub are_low : ℕ → Numbered → Bool
are_low mark changes = list_all (λ c. nat_le c.0 mark) changes

-- whether each is
abbrev pub are_high : ℕ → Numbered → Bool
are_high mark changes = list_all (λ c. nat_lt mark c.0) changes

-- the changes of groups, one group behind another
abbrev pub in_groups : List Numbered → Numbered
in_groups groups = flat_map (λ group. group) groups

-- all changes of groups by head
abbrev pub in_heads : List (List Numbered) → Numbered
in_heads [] = []
in_heads (groups ∷ before) = in_groups groups ++ in_heads before

-- heads that had these groups before, all synced
abbrev pub joined : List (List Numbered) → List Head → List Head
joined [] heads = []
joined (groups ∷ before) [] = []
joined (groups ∷ before) (head ∷ heads) = record { groups = groups ++ head.groups; synced = length groups + head.synced } ∷ joined before heads

-- counts of all those groups, and of these of the later ones
abbrev pub counted : List (List Numbered) → List ℕ → List ℕ
counted [] counts = []
counted (groups ∷ before) [] = []
counted (groups ∷ before) (count ∷ counts) = (length groups + count) ∷ counted before counts

-- of each head all its groups
abbrev pub all_counts : List Head → List ℕ
all_counts heads = map (λ head. length head.groups) heads

placed_low : (mark : ℕ) (low high : Numbered) (c : ℕ × Change) → are_high mark high ≡ true → c.0 ≤ mark → placed (low ++ high) c ≡ placed low c ++ high
placed_low mark [] [] c h l = refl
placed_low mark [] (first ∷ high) c h l =
    let above = ltb-true mark first.0 (and_parts (nat_lt mark first.0) (are_high mark high) h).0 in
    by (nat_lt c.0 first.0) (lt-ltb c.0 first.0 (omega (arith, above, l)))
  where
    by : (b : Bool) → b ≡ true → cond b (c ∷ first ∷ high) (first ∷ placed high c) ≡ c ∷ first ∷ high
    by true t = refl
    by false t = absurd cc
placed_low mark (first ∷ low) high c h l = by (nat_lt c.0 first.0) (placed_low mark low high c h l)
  where
    by : (b : Bool) → placed (low ++ high) c ≡ placed low c ++ high → cond b (c ∷ first ∷ (low ++ high)) (first ∷ placed (low ++ high) c) ≡ cond b (c ∷ first ∷ low) (first ∷ placed low c) ++ high
    by true e = refl
    by false e = ap (λ rest. first ∷ rest) e

placed_high : (mark : ℕ) (low high : Numbered) (c : ℕ × Change) → are_low mark low ≡ true → mark < c.0 → placed (low ++ high) c ≡ low ++ placed high c
placed_high mark [] high c h l = refl
placed_high mark (first ∷ low) high c h l =
    let p = and_parts (nat_le first.0 mark) (are_low mark low) h in
    let below = leb-true first.0 mark p.0 in
    by (nat_lt c.0 first.0) (le-ltb c.0 first.0 (omega (arith, below, l))) (placed_high mark low high c p.1 l)
  where
    by : (b : Bool) → b ≡ false → placed (low ++ high) c ≡ low ++ placed high c → cond b (c ∷ first ∷ (low ++ high)) (first ∷ placed (low ++ high) c) ≡ first ∷ (low ++ placed high c)
    by true t e = absurd cc
    by false t e = ap (λ rest. first ∷ rest) e

-- what holds of each change of a list and of one more holds where that is placed
all_placed : (p : ℕ × Change → Bool) (changes : Numbered) (c : ℕ × Change) → list_all p changes ≡ true → p c ≡ true → list_all p (placed changes c) ≡ true
all_placed p [] c h one = and_from (p c) true one refl
all_placed p (first ∷ changes) c h one =
    let parts = and_parts (p first) (list_all p changes) h in
    by (nat_lt c.0 first.0) (and_from (p c) (list_all p (first ∷ changes)) one h) (and_from (p first) (list_all p (placed changes c)) parts.0 (all_placed p changes c parts.1 one))
  where
    by : (b : Bool) → list_all p (c ∷ first ∷ changes) ≡ true → list_all p (first ∷ placed changes c) ≡ true → list_all p (cond b (c ∷ first ∷ changes) (first ∷ placed changes c)) ≡ true
    by true x y = x
    by false x y = y

all_fold : (p : ℕ × Change → Bool) (changes sorted : Numbered) → list_all p changes ≡ true → list_all p sorted ≡ true → list_all p (fold placed sorted changes) ≡ true
all_fold p [] sorted h s = s
all_fold p (c ∷ changes) sorted h s = let parts = and_parts (p c) (list_all p changes) h in all_fold p changes (placed sorted c) parts.1 (all_placed p sorted c s parts.0)

fold_low : (mark : ℕ) (changes low high : Numbered) → are_low mark changes ≡ true → are_high mark high ≡ true → fold placed (low ++ high) changes ≡ fold placed low changes ++ high
fold_low mark [] low high l h = refl
fold_low mark (c ∷ changes) low high l h =
    let p = and_parts (nat_le c.0 mark) (are_low mark changes) l in
    ap (λ start. fold placed start changes) (placed_low mark low high c h (leb-true c.0 mark p.0)) ∙ fold_low mark changes (placed low c) high p.1 h

fold_high : (mark : ℕ) (changes low high : Numbered) → are_high mark changes ≡ true → are_low mark low ≡ true → fold placed (low ++ high) changes ≡ low ++ fold placed high changes
fold_high mark [] low high h l = refl
fold_high mark (c ∷ changes) low high h l =
    let p = and_parts (nat_lt mark c.0) (are_high mark changes) h in
    ap (λ start. fold placed start changes) (placed_high mark low high c l (ltb-true mark c.0 p.0)) ∙ fold_high mark changes low (placed high c) p.1 l

-- the first groups of a head whose numbers are all high are high
high_taken : (mark count : ℕ) (groups : List Numbered) → are_high mark (in_groups groups) ≡ true → are_high mark (in_groups (take count groups)) ≡ true
high_taken mark count groups h =
    let whole = ap in_groups (take-append-drop count groups) in
    let parts = flat_map-append (λ (group : Numbered). group) (take count groups) (drop count groups) in
    let split = list_all-append (λ (c : ℕ × Change). nat_lt mark c.0) (in_groups (take count groups)) (in_groups (drop count groups)) in
    let all : are_high mark (in_groups (take count groups) ++ in_groups (drop count groups)) ≡ true = ap (are_high mark) (sym parts ∙ whole) ∙ h in
    (and_parts (are_high mark (in_groups (take count groups))) (are_high mark (in_groups (drop count groups))) (sym split ∙ all)).0

-- groups by head, none of whose numbers is above this one
abbrev pub AreLow : ℕ → List (List Numbered) → Type 0
AreLow mark before = list_all (λ groups. are_low mark (in_groups groups)) before ≡ true

-- heads, each of whose numbers is
abbrev pub AreHigh : ℕ → List Head → Type 0
AreHigh mark heads = list_all (λ head. are_high mark (in_groups head.groups)) heads ≡ true

-- low and high changes, head by head
fold_heads : (mark : ℕ) (before : List (List Numbered)) (heads : List Head) (counts : List ℕ) (low high : Numbered) → length heads ≡ length before → length counts ≡ length before
    → AreLow mark before → AreHigh mark heads → are_low mark low ≡ true → are_high mark high ≡ true
    → fold placed (low ++ high) (taken (joined before heads) (counted before counts)) ≡ fold placed low (in_heads before) ++ fold placed high (taken heads counts)
fold_heads mark [] [] counts low high n m l h x y = refl
fold_heads mark [] (head ∷ heads) counts low high n m l h x y = absurd cc
fold_heads mark (groups ∷ before) [] counts low high n m l h x y = absurd cc
fold_heads mark (groups ∷ before) (head ∷ heads) [] low high n m l h x y = absurd cc
fold_heads mark (groups ∷ before) (head ∷ heads) (count ∷ counts) low high n m l h x y =
    let first : Numbered = in_groups groups in
    let more : Numbered = in_groups (take count head.groups) in
    let rest : Numbered = taken (joined before heads) (counted before counts) in
    let lows = and_parts (are_low mark first) (list_all (λ groups. are_low mark (in_groups groups)) before) l in
    let highs = and_parts (are_high mark (in_groups head.groups)) (list_all (λ head. are_high mark (in_groups head.groups)) heads) h in
    let is_more = high_taken mark count head.groups highs.0 in
    let low_first = all_fold (λ c. nat_le c.0 mark) first low lows.0 x in
    let high_more = all_fold (λ c. nat_lt mark c.0) more high is_more y in
    let split : in_groups (take (length groups + count) (groups ++ head.groups)) ≡ first ++ more =
    ap in_groups (take-append-add groups head.groups count) ∙ flat_map-append (λ (group : Numbered). group) groups (take count head.groups) in
    let a : fold placed (low ++ high) (in_groups (take (length groups + count) (groups ++ head.groups)) ++ rest) ≡ fold placed (fold placed (fold placed (low ++ high) first) more) rest =
    ap (λ z. fold placed (low ++ high) (z ++ rest)) split ∙ fold-append placed (low ++ high) (first ++ more) rest ∙ ap (λ z. fold placed z rest) (fold-append placed (low ++ high) first more) in
    let b = ap (λ z. fold placed (fold placed z more) rest) (fold_low mark first low high lows.0 y) in
    let c = ap (λ z. fold placed z rest) (fold_high mark more (fold placed low first) high is_more low_first) in
    let d = fold_heads mark before heads counts (fold placed low first) (fold placed high more) (omega (arith, n)) (omega (arith, m)) lows.1 highs.1 low_first high_more in
    let e = ap (λ z. z ++ fold placed (fold placed high more) (taken heads counts)) (sym (fold-append placed low first (in_heads before))) in
    let f = ap (λ z. fold placed low (first ++ in_heads before) ++ z) (sym (fold-append placed high more (taken heads counts))) in
    a ∙ b ∙ c ∙ d ∙ e ∙ f

-- what comes of all low changes and some high ones is what the high ones make of what comes of the low ones
pub recovered_again : (committed : Tree) (mark : ℕ) (before : List (List Numbered)) (heads : List Head) (counts : List ℕ) → length heads ≡ length before → length counts ≡ length before → AreLow mark before → AreHigh mark heads
    → recovered committed (taken (joined before heads) (counted before counts)) ≡ recovered (replayed committed (in_heads before)) (taken heads counts)
recovered_again committed mark before heads counts n m l h =
    let f : ℕ × Change → Change = λ c. as_replayed c.1 in
    let low : Numbered = by_number (in_heads before) in
    let high : Numbered = by_number (taken heads counts) in
    ap (λ (z : Numbered). without_nameless (apply committed (map f z))) (fold_heads mark before heads counts [] [] n m l h refl refl)
    ∙ ap (λ z. without_nameless (apply committed z)) (map-append f low high)
    ∙ ap without_nameless (fold-append applied committed (map f low) (map f high))

counts_long : (heads : List Head) (counts : List ℕ) → KeepsSynced heads counts → length counts ≡ length heads
counts_long [] [] k = refl
counts_long [] (count ∷ counts) k = absurd k
counts_long (head ∷ heads) [] k = absurd k
counts_long (head ∷ heads) (count ∷ counts) k = ap (λ n. suc n) (counts_long heads counts k.2)

keeps_joined : (before : List (List Numbered)) (heads : List Head) (counts : List ℕ) → length heads ≡ length before → KeepsSynced heads counts → KeepsSynced (joined before heads) (counted before counts)
keeps_joined [] heads counts n k = tt
keeps_joined (groups ∷ before) [] counts n k = absurd cc
keeps_joined (groups ∷ before) (head ∷ heads) [] n k = absurd k
keeps_joined (groups ∷ before) (head ∷ heads) (count ∷ counts) n k =
    let low = k.0 in
    let high = k.1 in
    let long = length-append groups head.groups in
    (omega (arith, low), omega (arith, high, long), keeps_joined before heads counts (omega (arith, n)) k.2)

-- counts that keep what is synced have all groups of before
record IsCounted (before : List (List Numbered)) (heads : List Head) (all : List ℕ) : Type 0 where
  counts : List ℕ
  same : all ≡ counted before counts
  keeps : KeepsSynced heads counts

is_counted : (before : List (List Numbered)) (heads : List Head) (all : List ℕ) → length heads ≡ length before → KeepsSynced (joined before heads) all → IsCounted before heads all
is_counted [] [] [] n k = record { counts = []; same = refl; keeps = tt }
is_counted [] [] (count ∷ all) n k = absurd k
is_counted [] (head ∷ heads) all n k = absurd cc
is_counted (groups ∷ before) [] all n k = absurd cc
is_counted (groups ∷ before) (head ∷ heads) [] n k = absurd k
is_counted (groups ∷ before) (head ∷ heads) (count ∷ all) n k =
    let more = is_counted before heads all (omega (arith, n)) k.2 in
    let low = k.0 in
    let high = k.1 in
    let long = length-append groups head.groups in
    let e : count ≡ length groups + (count - length groups) = omega (arith, low) in
    record {
      counts = (count - length groups) ∷ more.counts;
      same = ap (λ n. n ∷ all) e ∙ ap (λ (rest : List ℕ). (length groups + (count - length groups)) ∷ rest) more.same;
      keeps = (omega (arith, low), omega (arith, low, high, long), more.keeps);
    }

-- a cut that may leave a tree of the later groups may leave it of all
pub recovered_of_all : (committed : Tree) (mark : ℕ) (before : List (List Numbered)) (heads : List Head) (tree : Tree) → length heads ≡ length before → AreLow mark before → AreHigh mark heads
    → IsRecovered (replayed committed (in_heads before)) heads tree → IsRecovered committed (joined before heads) tree
recovered_of_all committed mark before heads tree n l h is = record {
  counts = counted before is.counts;
  synced = keeps_joined before heads is.counts n is.synced;
  tree_is = is.tree_is ∙ sym (recovered_again committed mark before heads is.counts n (counts_long heads is.counts is.synced ∙ n) l h);
}

-- and one that may leave it of all may leave it of the later ones
pub recovered_of_later : (committed : Tree) (mark : ℕ) (before : List (List Numbered)) (heads : List Head) (tree : Tree) → length heads ≡ length before → AreLow mark before → AreHigh mark heads
    → IsRecovered committed (joined before heads) tree → IsRecovered (replayed committed (in_heads before)) heads tree
recovered_of_later committed mark before heads tree n l h is =
    let it = is_counted before heads is.counts n is.synced in
    record {
      counts = it.counts;
      synced = it.keeps;
      tree_is = is.tree_is ∙ ap (λ counts. recovered committed (taken (joined before heads) counts)) it.same ∙ recovered_again committed mark before heads it.counts n (counts_long heads it.counts it.keeps ∙ n) l h;
    }

-- a group that is put at a head stands behind all that it had before
pub joined_with : (before : List (List Numbered)) (heads : List Head) (at : ℕ) (group : Numbered) → with_group_at (joined before heads) at group ≡ joined before (with_group_at heads at group)
joined_with [] heads at group = by heads
  where
    by : (heads : List Head) → with_group_at [] at group ≡ joined [] (with_group_at heads at group)
    by heads = refl
joined_with (groups ∷ before) [] at group = refl
joined_with (groups ∷ before) (head ∷ heads) zero group =
    ap (λ all. record { groups = all; synced = length groups + head.synced } ∷ joined before heads) (append_assoc groups head.groups (group ∷ []))
joined_with (groups ∷ before) (head ∷ heads) (suc at) group = ap (λ rest. record { groups = groups ++ head.groups; synced = length groups + head.synced } ∷ rest) (joined_with before heads at group)

pub puts_behind : (before : List (List Numbered)) (puts : List (ℕ × List Change)) (sqnum : ℕ) (heads after : List Head) → Puts sqnum heads puts after → Puts sqnum (joined before heads) puts (joined before after)
puts_behind before [] sqnum heads after e = ap (joined before) e
puts_behind before (put ∷ puts) sqnum heads after (group, next, same, rest) =
    (group, next, same, subst (λ z. Puts (last_number sqnum group) z puts (joined before after)) (sym (joined_with before heads put.0 group)) (puts_behind before puts (last_number sqnum group) (with_group_at heads put.0 group) after rest))

-- what was put behind groups was put by itself
pub record IsPutBehind (before : List (List Numbered)) (sqnum : ℕ) (heads : List Head) (puts : List (ℕ × List Change)) (after : List Head) : Type 0 where
  pub later : List Head
  pub same : after ≡ joined before later
  pub put : Puts sqnum heads puts later

pub put_behind : (before : List (List Numbered)) (puts : List (ℕ × List Change)) (sqnum : ℕ) (heads after : List Head) → Puts sqnum (joined before heads) puts after → IsPutBehind before sqnum heads puts after
put_behind before [] sqnum heads after e = record { later = heads; same = e; put = refl }
put_behind before (put ∷ puts) sqnum heads after (group, next, same, rest) =
    let it = put_behind before puts (last_number sqnum group) (with_group_at heads put.0 group) after (subst (λ z. Puts (last_number sqnum group) z puts after) (joined_with before heads put.0 group) rest) in
    record { later = it.later; same = it.same; put = (group, next, same, it.put) }

last_above : (sqnum : ℕ) (group : Numbered) → are_high sqnum group ≡ true → sqnum ≤ last_number sqnum group
last_above sqnum [] h = omega arith
last_above sqnum (change ∷ changes) h =
    let p = and_parts (nat_lt sqnum change.0) (are_high sqnum changes) h in by changes change.0 (ltb-true sqnum change.0 p.0) p.1
  where
    by : (changes : Numbered) (n : ℕ) → sqnum < n → are_high sqnum changes ≡ true → sqnum ≤ last_number n changes
    by [] n l h = omega (arith, l)
    by (change ∷ changes) n l h = let p = and_parts (nat_lt sqnum change.0) (are_high sqnum changes) h in by changes change.0 (ltb-true sqnum change.0 p.0) p.1

higher : (mark sqnum : ℕ) (changes : Numbered) → mark ≤ sqnum → are_high sqnum changes ≡ true → are_high mark changes ≡ true
higher mark sqnum [] l h = refl
higher mark sqnum (change ∷ changes) l h =
    let p = and_parts (nat_lt sqnum change.0) (are_high sqnum changes) h in
    let above = ltb-true sqnum change.0 p.0 in
    and_from (nat_lt mark change.0) (are_high mark changes) (lt-ltb mark change.0 (omega (arith, l, above))) (higher mark sqnum changes l p.1)

pub high_with : (mark : ℕ) (heads : List Head) (at : ℕ) (group : Numbered) → AreHigh mark heads → are_high mark group ≡ true → AreHigh mark (with_group_at heads at group)
high_with mark [] at group h g = refl
high_with mark (head ∷ heads) zero group h g =
    let parts = and_parts (are_high mark (in_groups head.groups)) (list_all (λ head. are_high mark (in_groups head.groups)) heads) h in
    let split = flat_map-append (λ (group : Numbered). group) head.groups (group ∷ []) in
    let all = list_all-append (λ (c : ℕ × Change). nat_lt mark c.0) (in_groups head.groups) (in_groups (group ∷ [])) in
    let one : are_high mark (in_groups (group ∷ [])) ≡ true = ap (are_high mark) (append-nil group) ∙ g in
    and_from (are_high mark (in_groups (head.groups ++ group ∷ []))) (list_all (λ head. are_high mark (in_groups head.groups)) heads)
    (ap (are_high mark) split ∙ all ∙ and_from (are_high mark (in_groups head.groups)) (are_high mark (in_groups (group ∷ []))) parts.0 one) parts.1
high_with mark (head ∷ heads) (suc at) group h g =
    let parts = and_parts (are_high mark (in_groups head.groups)) (list_all (λ head. are_high mark (in_groups head.groups)) heads) h in
    and_from (are_high mark (in_groups head.groups)) (list_all (λ head. are_high mark (in_groups head.groups)) (with_group_at heads at group)) parts.0 (high_with mark heads at group parts.1 g)

pub long_with : (heads : List Head) (at : ℕ) (group : Numbered) → length (with_group_at heads at group) ≡ length heads
long_with [] at group = refl
long_with (head ∷ heads) zero group = refl
long_with (head ∷ heads) (suc at) group = ap (λ n. suc n) (long_with heads at group)

-- what is put later has high numbers
pub record ArePut (mark : ℕ) (heads after : List Head) : Type 0 where
  pub long : length after ≡ length heads
  pub high : AreHigh mark after

pub are_put : (mark : ℕ) (puts : List (ℕ × List Change)) (sqnum : ℕ) (heads after : List Head) → mark ≤ sqnum → AreHigh mark heads → Puts sqnum heads puts after → ArePut mark heads after
are_put mark [] sqnum heads after l h e = record { long = ap length e; high = subst (AreHigh mark) (sym e) h }
are_put mark (put ∷ puts) sqnum heads after l h (group, next, same, rest) =
    let above = last_above sqnum group next.above in
    let it = are_put mark puts (last_number sqnum group) (with_group_at heads put.0 group) after (omega (arith, l, above)) (high_with mark heads put.0 group h (higher mark sqnum group l next.above)) rest in
    record { long = it.long ∙ long_with heads put.0 group; high = it.high }

-- Heads whose later groups have high numbers, all those before being low.
pub record IsParted (mark sqnum : ℕ) (before : List (List Numbered)) (heads : List Head) : Type 0 where
  pub long : length heads ≡ length before
  pub low : AreLow mark before
  pub high : AreHigh mark heads
  pub above : mark ≤ sqnum

-- A cut may leave a tree once these groups were put on heads over a committed tree.
pub record WouldLeave (committed : Tree) (sqnum : ℕ) (heads : List Head) (puts : List (ℕ × List Change)) (tree : Tree) : Type 0 where
  pub after : List Head
  pub put : Puts sqnum heads puts after
  pub is : IsRecovered committed after tree

-- what may come of the later groups on what came of those before may come of all on what was committed
pub left_of_all : (committed : Tree) (mark sqnum : ℕ) (before : List (List Numbered)) (heads : List Head) (puts : List (ℕ × List Change)) (tree : Tree) → IsParted mark sqnum before heads
    → WouldLeave (replayed committed (in_heads before)) sqnum heads puts tree → WouldLeave committed sqnum (joined before heads) puts tree
left_of_all committed mark sqnum before heads puts tree parted left =
    let it = are_put mark puts sqnum heads left.after parted.above parted.high left.put in
    record { after = joined before left.after; put = puts_behind before puts sqnum heads left.after left.put; is = recovered_of_all committed mark before left.after tree (it.long ∙ parted.long) parted.low it.high left.is }

-- and the other way round
pub left_of_later : (committed : Tree) (mark sqnum : ℕ) (before : List (List Numbered)) (heads : List Head) (puts : List (ℕ × List Change)) (tree : Tree) → IsParted mark sqnum before heads
    → WouldLeave committed sqnum (joined before heads) puts tree → WouldLeave (replayed committed (in_heads before)) sqnum heads puts tree
left_of_later committed mark sqnum before heads puts tree parted left =
    let behind = put_behind before puts sqnum heads left.after left.put in
    let it = are_put mark puts sqnum heads behind.later parted.above parted.high behind.put in
    record { after = behind.later; put = behind.put; is = recovered_of_later committed mark before behind.later tree (it.long ∙ parted.long) parted.low it.high (subst (λ z. IsRecovered committed z tree) behind.same left.is) }
