-- What a cut leaves after groups were put has at each place a value from before, or one that a group gives.
use Rattle.std.proofs.Common.{◌≡◌, ℕ, zero, suc, ◌≤◌, ◌<◌, ◌⊎◌, inl, inr, Bool, true, false, cond, ◌&&◌, List, [], ◌∷◌, ◌++◌, length, take, map, refl, sym, ap, subst, ◌∙◌, arith, append_assoc, append-nil, length-append, take_all}
use Rattle.std.specs.Prelude.{nat_lt, nat_le, fold, Option, Some, None}
use Rattle.std.specs.List.{list_all, AllByRecursion}
use Rattle.std.specs.Ordering.{nat_cmp, is_lt}
use Rattle.std.proofs.lemmas.Bool.{and_parts, and_from, ltb-true, le-ltb, leb-true, le-leb}
use Rattle.std.proofs.lemmas.Bool.Decides.{nat_tests}
use Rattle.std.proofs.lemmas.Grind.{flat_map-append}
use Rattle.std.proofs.lemmas.List.Folds.{list_all-append}
use Rattle.fs_model.specs.declared.change.Change.{Change}
use Rattle.fs_model.specs.Change.{apply}
use Rattle.fs_model.specs.Files.{Tree}
use Rattle.fs_model.specs.Journal.{Journal, Medium, IfTold, Puts, last_number, with_group_at, IsJournalOf, MightLeave, MayLeave}
use Rattle.fs_model.specs.JournalLaws.{Leaves-now, recovered_replayed, replayed_named}
use Rattle.fs_model.specs.Orphan.{nameless}
use Rattle.fs_model.specs.Proper.{ascends, IsInOrder}
use Rattle.fs_model.specs.Recovery.{Numbered, Head, IsRecovered, KeepsSynced, taken, placed, by_number, as_replayed, recovered}
use Rattle.fs_model.specs.RecoveryLaws.{replayed, are_low, are_high, in_groups, recovered_again}
use Rattle.fs_laws.specs.Forgotten.{apply_in_order}
use Rattle.fs_laws.specs.Orders.{named}
use Rattle.buffered_files.specs.Cuts.{TreePlace, Values, value_at, HasValues, replayed_on, GivesOnly, PutsOnly}

-- no more is synced than there is
abbrev AreWithin : List Head → Type 0
AreWithin heads = list_all (λ head. nat_le head.synced (length head.groups)) heads ≡ true

-- no number is above this one
abbrev AreLow : ℕ → List Head → Type 0
AreLow mark heads = list_all (λ head. are_low mark (in_groups head.groups)) heads ≡ true

-- What is taken of heads with one group more: what is taken without it, and the group between, or not.
record IsTaken (heads : List Head) (group all : Numbered) : Type 0 where
  counts : List ℕ
  keeps : KeepsSynced heads counts
  first : Numbered
  last : Numbered
  took : taken heads counts ≡ first ++ last
  all_are : (all ≡ first ++ last) ⊎ (all ≡ first ++ (group ++ last))

take_left : {X : Type 0} (n : ℕ) (xs ys : List X) → n ≤ length xs → take n (xs ++ ys) ≡ take n xs
take_left zero xs ys h = refl
take_left (suc n) [] ys h = absurd (omega (arith, h))
take_left (suc n) (x ∷ xs) ys h = ap (λ rest. x ∷ rest) (take_left n xs ys (omega (arith, h)))

taken_with : (heads : List Head) (at : ℕ) (group : Numbered) (counts : List ℕ) → KeepsSynced (with_group_at heads at group) counts → AreWithin heads → IsTaken heads group (taken (with_group_at heads at group) counts)
taken_with [] at group [] k w = record { counts = []; keeps = tt; first = []; last = []; took = refl; all_are = inl refl }
taken_with [] at group (n ∷ ns) k w = absurd k
taken_with (head ∷ heads) zero group [] k w = absurd k
taken_with (head ∷ heads) zero group (n ∷ ns) k w = by (nat_le n (length head.groups)) refl
  where
    within : head.synced ≤ length head.groups
    within = leb-true head.synced (length head.groups) (and_parts (nat_le head.synced (length head.groups)) (list_all (λ head. nat_le head.synced (length head.groups)) heads) w).0

    by : (b : Bool) → nat_le n (length head.groups) ≡ b → IsTaken (head ∷ heads) group (in_groups (take n (head.groups ++ group ∷ [])) ++ taken heads ns)
    by true t =
        let few = leb-true n (length head.groups) t in
        record {
          counts = n ∷ ns;
          keeps = (k.0, few, k.2);
          first = [];
          last = taken (head ∷ heads) (n ∷ ns);
          took = refl;
          all_are = inl (ap (λ (groups : List Numbered). in_groups groups ++ taken heads ns) (take_left n head.groups (group ∷ []) few));
        }
    by false t =
        let many : length head.groups < n = grind (arith, nat_tests) in
        let long = length-append head.groups (group ∷ []) in
        let most : n ≤ length (head.groups ++ group ∷ []) = k.1 in
        let whole : take n (head.groups ++ group ∷ []) ≡ head.groups ++ group ∷ [] = take_all n (head.groups ++ group ∷ []) (omega (arith, many, long)) in
        let own : take (length head.groups) head.groups ≡ head.groups = take_all (length head.groups) head.groups (omega arith) in
        record {
          counts = length head.groups ∷ ns;
          keeps = (within, omega arith, k.2);
          first = in_groups head.groups;
          last = taken heads ns;
          took = ap (λ (groups : List Numbered). in_groups groups ++ taken heads ns) own;
          all_are = inr (ap (λ (groups : List Numbered). in_groups groups ++ taken heads ns) whole
              ∙ ap (λ (all : Numbered). all ++ taken heads ns) (flat_map-append (λ (group : Numbered). group) head.groups (group ∷ []) ∙ ap (λ (one : Numbered). in_groups head.groups ++ one) (append-nil group))
              ∙ append_assoc (in_groups head.groups) group (taken heads ns));
        }
taken_with (head ∷ heads) (suc at) group [] k w = absurd k
taken_with (head ∷ heads) (suc at) group (n ∷ ns) k w =
    let more = taken_with heads at group ns k.2 (and_parts (nat_le head.synced (length head.groups)) (list_all (λ head. nat_le head.synced (length head.groups)) heads) w).1 in
    let own : Numbered = in_groups (take n head.groups) in
    record {
      counts = n ∷ more.counts;
      keeps = (k.0, k.1, more.keeps);
      first = own ++ more.first;
      last = more.last;
      took = ap (λ (rest : Numbered). own ++ rest) more.took ∙ sym (append_assoc own more.first more.last);
      all_are = by own more.first more.last (taken (with_group_at heads at group) ns) more.all_are;
    }
  where
    by : (own first last all : Numbered) → (all ≡ first ++ last) ⊎ (all ≡ first ++ (group ++ last)) → (own ++ all ≡ (own ++ first) ++ last) ⊎ (own ++ all ≡ (own ++ first) ++ (group ++ last))
    by own first last all (inl e) = inl (ap (λ (rest : Numbered). own ++ rest) e ∙ sym (append_assoc own first last))
    by own first last all (inr e) = inr (ap (λ (rest : Numbered). own ++ rest) e ∙ sym (append_assoc own first (group ++ last)))

low_append : (mark : ℕ) (xs ys : Numbered) → are_low mark (xs ++ ys) ≡ (are_low mark xs && are_low mark ys)
low_append mark xs ys = list_all-append (λ (c : ℕ × Change). nat_le c.0 mark) xs ys

-- the first groups of a head whose numbers are all low are low
low_groups : (mark n : ℕ) (groups : List Numbered) → are_low mark (in_groups groups) ≡ true → are_low mark (in_groups (take n groups)) ≡ true
low_groups mark zero groups h = refl
low_groups mark (suc n) [] h = refl
low_groups mark (suc n) (group ∷ groups) h =
    let p = and_parts (are_low mark group) (are_low mark (in_groups groups)) (sym (low_append mark group (in_groups groups)) ∙ h) in
    low_append mark group (in_groups (take n groups)) ∙ and_from (are_low mark group) (are_low mark (in_groups (take n groups))) p.0 (low_groups mark n groups p.1)

low_taken : (mark : ℕ) (heads : List Head) (counts : List ℕ) → AreLow mark heads → are_low mark (taken heads counts) ≡ true
low_taken mark [] counts h = refl
low_taken mark (head ∷ heads) [] h = refl
low_taken mark (head ∷ heads) (n ∷ ns) h =
    let p = and_parts (are_low mark (in_groups head.groups)) (list_all (λ head. are_low mark (in_groups head.groups)) heads) h in
    low_append mark (in_groups (take n head.groups)) (taken heads ns)
    ∙ and_from (are_low mark (in_groups (take n head.groups))) (are_low mark (taken heads ns)) (low_groups mark n head.groups p.0) (low_taken mark heads ns p.1)

lower : (mark more : ℕ) (changes : Numbered) → mark ≤ more → are_low mark changes ≡ true → are_low more changes ≡ true
lower mark more [] l h = refl
lower mark more (c ∷ changes) l h =
    let p = and_parts (nat_le c.0 mark) (are_low mark changes) h in
    let below = leb-true c.0 mark p.0 in
    and_from (nat_le c.0 more) (are_low more changes) (le-leb c.0 more (omega (arith, below, l))) (lower mark more changes l p.1)

lower_heads : (mark more : ℕ) (heads : List Head) → mark ≤ more → AreLow mark heads → AreLow more heads
lower_heads mark more [] l h = refl
lower_heads mark more (head ∷ heads) l h =
    let p = and_parts (are_low mark (in_groups head.groups)) (list_all (λ head. are_low mark (in_groups head.groups)) heads) h in
    and_from (are_low more (in_groups head.groups)) (list_all (λ head. are_low more (in_groups head.groups)) heads) (lower mark more (in_groups head.groups) l p.0) (lower_heads mark more heads l p.1)

low_with : (mark : ℕ) (heads : List Head) (at : ℕ) (group : Numbered) → AreLow mark heads → are_low mark group ≡ true → AreLow mark (with_group_at heads at group)
low_with mark [] at group h g = refl
low_with mark (head ∷ heads) zero group h g =
    let p = and_parts (are_low mark (in_groups head.groups)) (list_all (λ head. are_low mark (in_groups head.groups)) heads) h in
    let one : are_low mark (in_groups (group ∷ [])) ≡ true = ap (are_low mark) (append-nil group) ∙ g in
    and_from (are_low mark (in_groups (head.groups ++ group ∷ []))) (list_all (λ head. are_low mark (in_groups head.groups)) heads)
    (ap (are_low mark) (flat_map-append (λ (group : Numbered). group) head.groups (group ∷ [])) ∙ low_append mark (in_groups head.groups) (in_groups (group ∷ []))
    ∙ and_from (are_low mark (in_groups head.groups)) (are_low mark (in_groups (group ∷ []))) p.0 one) p.1
low_with mark (head ∷ heads) (suc at) group h g =
    let p = and_parts (are_low mark (in_groups head.groups)) (list_all (λ head. are_low mark (in_groups head.groups)) heads) h in
    and_from (are_low mark (in_groups head.groups)) (list_all (λ head. are_low mark (in_groups head.groups)) (with_group_at heads at group)) p.0 (low_with mark heads at group p.1 g)

within_with : (heads : List Head) (at : ℕ) (group : Numbered) → AreWithin heads → AreWithin (with_group_at heads at group)
within_with [] at group w = refl
within_with (head ∷ heads) zero group w =
    let p = and_parts (nat_le head.synced (length head.groups)) (list_all (λ head. nat_le head.synced (length head.groups)) heads) w in
    let few = leb-true head.synced (length head.groups) p.0 in
    let long = length-append head.groups (group ∷ []) in
    and_from (nat_le head.synced (length (head.groups ++ group ∷ []))) (list_all (λ head. nat_le head.synced (length head.groups)) heads) (le-leb head.synced (length (head.groups ++ group ∷ [])) (omega (arith, few, long))) p.1
within_with (head ∷ heads) (suc at) group w =
    let p = and_parts (nat_le head.synced (length head.groups)) (list_all (λ head. nat_le head.synced (length head.groups)) heads) w in
    and_from (nat_le head.synced (length head.groups)) (list_all (λ head. nat_le head.synced (length head.groups)) (with_group_at heads at group)) p.0 (within_with heads at group p.1)

lt_number : (a b : ℕ) → is_lt (nat_cmp a b) ≡ true → a < b
lt_number a b h = grind (arith, nat_tests)

-- the numbers of a group that ascends are at most the last
abbrev Ascends : Numbered → Type 0
Ascends group = ascends nat_cmp (map (λ c. c.0) group) ≡ true

last_after : (c : ℕ × Change) (group : Numbered) → Ascends (c ∷ group) → c.0 ≤ last_number c.0 group
last_after c [] h = omega arith
last_after c (next ∷ group) h =
    let p = and_parts (is_lt (nat_cmp c.0 next.0)) (ascends nat_cmp (map (λ c. c.0) (next ∷ group))) h in
    let less = lt_number c.0 next.0 p.0 in
    let more = last_after next group p.1 in
    omega (arith, less, more)

group_low : (sqnum : ℕ) (group : Numbered) → Ascends group → are_low (last_number sqnum group) group ≡ true
group_low sqnum [] h = refl
group_low sqnum (c ∷ []) h = and_from (nat_le c.0 c.0) true (le-leb c.0 c.0 (omega arith)) refl
group_low sqnum (c ∷ next ∷ group) h =
    let p = and_parts (is_lt (nat_cmp c.0 next.0)) (ascends nat_cmp (map (λ c. c.0) (next ∷ group))) h in
    let last = last_after c (next ∷ group) h in
    and_from (nat_le c.0 (last_number next.0 group)) (are_low (last_number next.0 group) (next ∷ group)) (le-leb c.0 (last_number next.0 group) last) (group_low c.0 (next ∷ group) p.1)

last_grows : (sqnum : ℕ) (group : Numbered) → Ascends group → are_high sqnum group ≡ true → sqnum ≤ last_number sqnum group
last_grows sqnum [] h g = omega arith
last_grows sqnum (c ∷ group) h g =
    let p = and_parts (nat_lt sqnum c.0) (are_high sqnum group) g in
    let above = ltb-true sqnum c.0 p.0 in
    let last = last_after c group h in
    omega (arith, above, last)

placed_last : (sorted : Numbered) (c : ℕ × Change) → are_low c.0 sorted ≡ true → placed sorted c ≡ sorted ++ c ∷ []
placed_last [] c h = refl
placed_last (first ∷ sorted) c h =
    let p = and_parts (nat_le first.0 c.0) (are_low c.0 sorted) h in
    let below = leb-true first.0 c.0 p.0 in
    by (nat_lt c.0 first.0) (le-ltb c.0 first.0 below) (placed_last sorted c p.1)
  where
    by : (b : Bool) → b ≡ false → placed sorted c ≡ sorted ++ c ∷ [] → cond b (c ∷ first ∷ sorted) (first ∷ placed sorted c) ≡ first ∷ (sorted ++ c ∷ [])
    by true t e = absurd cc
    by false t e = ap (λ rest. first ∷ rest) e

sorted_behind : (sorted group : Numbered) → ((c : ℕ × Change) (rest : Numbered) → group ≡ c ∷ rest → are_low c.0 sorted ≡ true) → Ascends group → fold placed sorted group ≡ sorted ++ group
sorted_behind sorted [] low h = sym (append-nil sorted)
sorted_behind sorted (c ∷ group) low h =
    let one = low c group refl in
    let tail : Ascends group = by_tail c group h in
    ap (λ (start : Numbered). fold placed start group) (placed_last sorted c one)
    ∙ sorted_behind (sorted ++ c ∷ []) group (λ d rest e. next c d sorted rest one (subst (λ (g : Numbered). Ascends (c ∷ g)) e h)) tail
    ∙ append_assoc sorted (c ∷ []) group
  where
    by_tail : (c : ℕ × Change) (group : Numbered) → Ascends (c ∷ group) → Ascends group
    by_tail c [] h = refl
    by_tail c (d ∷ group) h = (and_parts (is_lt (nat_cmp c.0 d.0)) (ascends nat_cmp (map (λ c. c.0) (d ∷ group))) h).1

    next : (c d : ℕ × Change) (sorted rest : Numbered) → are_low c.0 sorted ≡ true → Ascends (c ∷ d ∷ rest) → are_low d.0 (sorted ++ c ∷ []) ≡ true
    next c d sorted rest one h =
        let p = and_parts (is_lt (nat_cmp c.0 d.0)) (ascends nat_cmp (map (λ c. c.0) (d ∷ rest))) h in
        let less = lt_number c.0 d.0 p.0 in
        low_append d.0 sorted (c ∷ [])
        ∙ and_from (are_low d.0 sorted) (are_low d.0 (c ∷ [])) (lower c.0 d.0 sorted (omega (arith, less)) one) (and_from (nat_le c.0 d.0) true (le-leb c.0 d.0 (omega (arith, less))) refl)

-- a group that ascends is in order already
in_order : (group : Numbered) → Ascends group → by_number group ≡ group
in_order group h = sorted_behind [] group (λ c rest e. refl) h

map_twice : (group : Numbered) → map (λ c. as_replayed c.1) group ≡ map as_replayed (map (λ c. c.1) group)
map_twice [] = refl
map_twice (c ∷ group) = ap (λ rest. as_replayed c.1 ∷ rest) (map_twice group)

-- a group of higher numbers is replayed on what comes of the others, wherever it stands
replayed_last : (committed : Tree) (mark : ℕ) (first last group : Numbered) → nameless committed ≡ [] → are_low mark first ≡ true → are_low mark last ≡ true → are_high mark group ≡ true → Ascends group
    → replayed committed (first ++ (group ++ last)) ≡ replayed_on (replayed committed (first ++ last)) (map (λ c. c.1) group)
replayed_last committed mark first last group named low more high asc =
    let one : first ++ (group ++ last) ≡ (first ++ (group ++ [])) ++ ((last ++ []) ++ []) = simp (append_assoc, append-nil) in
    let two : (first ++ []) ++ ((last ++ []) ++ []) ≡ first ++ last = simp append-nil in
    let three : (group ++ []) ++ ([] ++ []) ≡ group = simp append-nil in
    let f : are_low mark (first ++ []) ≡ true = ap (are_low mark) (append-nil first) ∙ low in
    let l : are_low mark (last ++ []) ≡ true = ap (are_low mark) (append-nil last) ∙ more in
    let g : are_high mark (group ++ []) ≡ true = ap (are_high mark) (append-nil group) ∙ high in
    let lows = and_from (are_low mark (first ++ [])) (are_low mark (last ++ []) && true) f (and_from (are_low mark (last ++ [])) true l refl) in
    let highs = and_from (are_high mark (group ++ [])) true g refl in
    let again = recovered_again committed mark ((first ∷ []) ∷ (last ∷ []) ∷ []) (record { groups = group ∷ []; synced = 0 } ∷ record { groups = []; synced = 0 } ∷ []) (1 ∷ 0 ∷ []) refl refl lows highs in
    let base : Tree = replayed committed (first ++ last) in
    sym (recovered_replayed committed (first ++ (group ++ last)) named)
    ∙ ap (recovered committed) one ∙ again
    ∙ ap (λ (changes : Numbered). recovered (replayed committed changes) ((group ++ []) ++ ([] ++ []))) two
    ∙ ap (recovered base) three
    ∙ recovered_replayed base group (replayed_named committed (first ++ last) named)
    ∙ ap (λ (changes : Numbered). apply base (map (λ c. as_replayed c.1) changes)) (in_order group asc)
    ∙ ap (apply base) (map_twice group)

-- A tree came of what a cut might have left before: each value is of that, or one of these.
record CameOf (values : Values) (committed : Tree) (heads : List Head) (tree : Tree) : Type 0 where
  counts : List ℕ
  keeps : KeepsSynced heads counts
  of : (place : TreePlace) → (value_at tree place ≡ value_at (replayed committed (taken heads counts)) place) ⊎ values place (value_at tree place)

came : (values : Values) (committed : Tree) (puts : List (ℕ × List Change)) (sqnum : ℕ) (heads after : List Head) (counts : List ℕ) → nameless committed ≡ [] → IsInOrder committed → AreWithin heads → AreLow sqnum heads
    → Puts sqnum heads puts after → KeepsSynced after counts → AllByRecursion (λ put. GivesOnly values put.1) puts → CameOf values committed heads (replayed committed (taken after counts))
came values committed [] sqnum heads after counts none order w low e keeps gives = record {
  counts = counts;
  keeps = subst (λ (heads : List Head). KeepsSynced heads counts) e keeps;
  of = λ place. inl (ap (λ (heads : List Head). value_at (replayed committed (taken heads counts)) place) e);
}
came values committed (put ∷ puts) sqnum heads after counts none order w low (group, next, same, rest) keeps gives =
    let more = came values committed puts (last_number sqnum group) (with_group_at heads put.0 group) after counts none order (within_with heads put.0 group w)
    (low_with (last_number sqnum group) heads put.0 group (lower_heads sqnum (last_number sqnum group) heads (last_grows sqnum group next.ascending next.above) low) (group_low sqnum group next.ascending)) rest keeps gives.1 in
    let it = taken_with heads put.0 group more.counts more.keeps w in
    let lows = and_parts (are_low sqnum it.first) (are_low sqnum it.last) (sym (low_append sqnum it.first it.last) ∙ ap (are_low sqnum) (sym it.took) ∙ low_taken sqnum heads it.counts low) in
    let base : Tree = replayed committed (taken heads it.counts) in
    let made : replayed committed (it.first ++ (group ++ it.last)) ≡ replayed_on base put.1 =
    replayed_last committed sqnum it.first it.last group none lows.0 lows.1 next.above next.ascending
    ∙ ap (λ (changes : Numbered). replayed_on (replayed committed changes) (map (λ c. c.1) group)) (sym it.took) ∙ ap (replayed_on base) same in
    record {
      counts = it.counts;
      keeps = it.keeps;
      of = λ place. by (replayed committed (taken after counts)) base place (replayed committed (taken (with_group_at heads put.0 group) more.counts))
          (step (replayed committed (taken (with_group_at heads put.0 group) more.counts)) base
          (over (replayed committed (taken (with_group_at heads put.0 group) more.counts)) base (taken (with_group_at heads put.0 group) more.counts) it.first it.last group refl (ap (replayed committed) (sym it.took)) made it.all_are)
          (apply_in_order (map (λ c. as_replayed c.1) (by_number (taken heads it.counts))) committed order) place)
          (more.of place);
    }
  where
    over : (tree base : Tree) (all first last group : Numbered) → tree ≡ replayed committed all → replayed committed (first ++ last) ≡ base → replayed committed (first ++ (group ++ last)) ≡ replayed_on base put.1
        → (all ≡ first ++ last) ⊎ (all ≡ first ++ (group ++ last)) → (tree ≡ base) ⊎ (tree ≡ replayed_on base put.1)
    over tree base all first last group is plain made (inl e) = inl (is ∙ ap (replayed committed) e ∙ plain)
    over tree base all first last group is plain made (inr e) = inr (is ∙ ap (replayed committed) e ∙ made)

    step : (tree base : Tree) → (tree ≡ base) ⊎ (tree ≡ replayed_on base put.1) → IsInOrder base → (place : TreePlace) → (value_at tree place ≡ value_at base place) ⊎ values place (value_at tree place)
    step tree base (inl e) order place = inl (ap (λ t. value_at t place) e)
    step tree base (inr e) order place = one (gives.0 base place order)
      where
        one : (value_at (replayed_on base put.1) place ≡ value_at base place) ⊎ values place (value_at (replayed_on base put.1) place) → (value_at tree place ≡ value_at base place) ⊎ values place (value_at tree place)
        one (inl kept) = inl (ap (λ t. value_at t place) e ∙ kept)
        one (inr given) = inr (subst (λ t. values place (value_at t place)) (sym e) given)

    by : (tree base : Tree) (place : TreePlace) (mid : Tree) → (value_at mid place ≡ value_at base place) ⊎ values place (value_at mid place) → (value_at tree place ≡ value_at mid place) ⊎ values place (value_at tree place)
        → (value_at tree place ≡ value_at base place) ⊎ values place (value_at tree place)
    by tree base place mid (inl before) (inl same) = inl (same ∙ before)
    by tree base place mid (inr given) (inl same) = inr (subst (λ v. values place v) (sym same) given)
    by tree base place mid before (inr given) = inr given

-- a journal with this medium
abbrev with : Journal → Option Medium → Journal
with journal medium = record journal { medium = medium }

cut_by : (old : Journal) (medium : Option Medium) (tree : Tree) (values : Values) (puts : List (ℕ × List Change)) → IfTold (with old medium) (IsJournalOf tree) → AllByRecursion (λ put. GivesOnly values put.1) puts
    → (left : Tree) → MightLeave (with old medium) puts left → HasValues (with old medium) values left
cut_by old None tree values puts told gives left may = absurd may
cut_by old (Some medium) tree values puts told gives left (heads, put, is) =
    let it = came values medium.committed puts medium.sqnum medium.heads heads is.counts told.named told.ordered told.synced told.given put is.synced gives in
    let same : left ≡ replayed medium.committed (taken heads is.counts) = is.tree_is ∙ recovered_replayed medium.committed (taken heads is.counts) told.named in
    let base : Tree = replayed medium.committed (taken medium.heads it.counts) in
    let before : IsRecovered medium.committed medium.heads base =
    record { counts = it.counts; synced = it.keeps; tree_is = sym (recovered_replayed medium.committed (taken medium.heads it.counts) told.named) } in
    λ place. by (replayed medium.committed (taken heads is.counts)) base place same (medium.heads, refl, before) (it.of place)
  where
    by : (tree base : Tree) (place : TreePlace) → left ≡ tree → MayLeave (with old (Some medium)) base → (value_at tree place ≡ value_at base place) ⊎ values place (value_at tree place)
        → ((before : Tree) × MayLeave (with old (Some medium)) before × (value_at left place ≡ value_at before place)) ⊎ values place (value_at left place)
    by tree base place same may (inl kept) = inl (base, may, ap (λ t. value_at t place) same ∙ kept)
    by tree base place same may (inr given) = inr (subst (λ t. values place (value_at t place)) (sym same) given)

-- What a cut leaves after calls has at each place a value of what it might have left before, or one of those that were put.
pub cut_has_values : (old new : Journal) (tree : Tree) (values : Values) → IfTold old (IsJournalOf tree) → PutsOnly values old new → (left : Tree) → MayLeave new left → HasValues old values left
cut_has_values old new tree values told puts left may = cut_by old old.medium tree values puts.puts told puts.gives left (Leaves-now old new puts.puts puts.cut left may)
