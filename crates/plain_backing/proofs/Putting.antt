-- What a story becomes by groups that are put, or that the volume failed to put.
use Rattle.std.proofs.Common.{◌≡◌, ℕ, zero, suc, ◌+◌, ◌≤◌, ◌<◌, Bool, true, false, cond, List, [], ◌∷◌, ◌++◌, length, take, map, refl, sym, ap, subst, ◌∙◌, arith, length-append, append-nil, append_assoc, take_all}
use Rattle.std.specs.Prelude.{fold, nat_le, nat_lt}
use Rattle.std.specs.List.{list_all}
use Rattle.std.specs.Ordering.{nat_cmp, is_lt}
use Rattle.std.specs.Cmp.{nat_cmp_is}
use Rattle.std.specs.declared.cmp.Ordering.TheVariants.{Less}
use Rattle.std.proofs.lemmas.Bool.{and_parts, and_from, leb-true, le-leb, lt-ltb, le-ltb}
use Rattle.std.proofs.lemmas.List.Folds.{list_all-append}
use Rattle.std.proofs.lemmas.List.{take-append-le}
use Rattle.fs_model.specs.declared.change.Change.{Change}
use Rattle.fs_model.specs.Change.{apply}
use Rattle.fs_model.specs.Files.{Tree}
use Rattle.fs_model.specs.Journal.{Medium, AreNext, Puts, last_number, with_group_at}
use Rattle.fs_model.specs.JournalLaws.{AreWithin, emptied, groups_of, replayed_named, recovered_replayed, is_emptied}
use Rattle.fs_model.specs.Orphan.{nameless, without_nameless, all_revive_none}
use Rattle.fs_model.specs.Proper.{ascends}
use Rattle.fs_model.specs.Recovery.{Numbered, Head, IsRecovered, KeepsSynced, taken, placed, as_replayed, recovered}
use Rattle.fs_model.specs.RecoveryLaws.{IsParted, joined, in_groups, in_heads, are_low, are_high, replayed, all_counts, counted, joined_with, high_with, long_with, recovered_again}
use Rattle.fs_laws.specs.Forgotten.{apply_in_order, group_forgotten}
use Rattle.plain_backing.specs.Story.{Story, IsStory, HasAllGroups, AreGiven, medium_of, numbered, put_at, failed_puts, with_all}
use Rattle.plain_backing.specs.StoryLaws.{heads_within, lower_mark, low_joined}

-- the numbers that a group gets

numbered_changes : (sqnum : ℕ) (changes : List Change) → map (λ (c : ℕ × Change). c.1) (numbered sqnum changes) ≡ changes
numbered_changes sqnum [] = refl
numbered_changes sqnum (change ∷ changes) = ap (λ rest. change ∷ rest) (numbered_changes (sqnum + 1) changes)

numbered_replayed : (sqnum : ℕ) (changes : List Change) → map (λ (c : ℕ × Change). as_replayed c.1) (numbered sqnum changes) ≡ map as_replayed changes
numbered_replayed sqnum [] = refl
numbered_replayed sqnum (change ∷ changes) = ap (λ rest. as_replayed change ∷ rest) (numbered_replayed (sqnum + 1) changes)

numbered_high : (mark sqnum : ℕ) (changes : List Change) → mark ≤ sqnum → are_high mark (numbered sqnum changes) ≡ true
numbered_high mark sqnum [] l = refl
numbered_high mark sqnum (change ∷ changes) l =
    and_from (nat_lt mark (sqnum + 1)) (are_high mark (numbered (sqnum + 1) changes)) (lt-ltb mark (sqnum + 1) (omega (arith, l))) (numbered_high mark (sqnum + 1) changes (omega (arith, l)))

last_higher : (sqnum : ℕ) (changes : List Change) → sqnum ≤ last_number sqnum (numbered sqnum changes)
last_higher sqnum [] = omega arith
last_higher sqnum (change ∷ changes) = let more = last_higher (sqnum + 1) changes in omega (arith, more)

numbered_low : (sqnum : ℕ) (changes : List Change) → are_low (last_number sqnum (numbered sqnum changes)) (numbered sqnum changes) ≡ true
numbered_low sqnum [] = refl
numbered_low sqnum (change ∷ changes) =
    let last = last_number (sqnum + 1) (numbered (sqnum + 1) changes) in
    and_from (nat_le (sqnum + 1) last) (are_low last (numbered (sqnum + 1) changes)) (le-leb (sqnum + 1) last (last_higher (sqnum + 1) changes)) (numbered_low (sqnum + 1) changes)

less_next : (n : ℕ) → is_lt (nat_cmp (n + 1) (n + 1 + 1)) ≡ true
less_next n = ap is_lt (sym (nat_cmp_is (n + 1) (n + 1 + 1) Less (omega arith)))

numbered_ascend : (sqnum : ℕ) (changes : List Change) → ascends nat_cmp (map (λ (c : ℕ × Change). c.0) (numbered sqnum changes)) ≡ true
numbered_ascend sqnum [] = refl
numbered_ascend sqnum (change ∷ []) = refl
numbered_ascend sqnum (change ∷ next ∷ changes) =
    and_from (is_lt (nat_cmp (sqnum + 1) (sqnum + 1 + 1))) (ascends nat_cmp (map (λ (c : ℕ × Change). c.0) (numbered (sqnum + 1) (next ∷ changes)))) (less_next sqnum) (numbered_ascend (sqnum + 1) (next ∷ changes))

pub are_next : (sqnum : ℕ) (changes : List Change) → AreNext sqnum (numbered sqnum changes)
are_next sqnum changes = record { ascending = numbered_ascend sqnum changes; above = numbered_high sqnum sqnum changes (omega arith) }

-- a change of a greater number is placed last
placed_last : (m : ℕ) (low : Numbered) (c : ℕ × Change) → are_low m low ≡ true → m < c.0 → placed low c ≡ low ++ c ∷ []
placed_last m [] c h l = refl
placed_last m (first ∷ low) c h l =
    let p = and_parts (nat_le first.0 m) (are_low m low) h in
    let below = leb-true first.0 m p.0 in
    by (nat_lt c.0 first.0) (le-ltb c.0 first.0 (omega (arith, below, l))) (placed_last m low c p.1 l)
  where
    by : (b : Bool) → b ≡ false → placed low c ≡ low ++ c ∷ [] → cond b (c ∷ first ∷ low) (first ∷ placed low c) ≡ first ∷ (low ++ c ∷ [])
    by true t e = absurd cc
    by false t e = ap (λ rest. first ∷ rest) e

low_with : (sqnum : ℕ) (low : Numbered) (change : Change) → are_low sqnum low ≡ true → are_low (sqnum + 1) (low ++ (sqnum + 1, change) ∷ []) ≡ true
low_with sqnum low change h =
    list_all-append (λ (c : ℕ × Change). nat_le c.0 (sqnum + 1)) low ((sqnum + 1, change) ∷ [])
    ∙ and_from (are_low (sqnum + 1) low) (are_low (sqnum + 1) ((sqnum + 1, change) ∷ [])) (lower_mark sqnum (sqnum + 1) low (omega arith) h) (and_from (nat_le (sqnum + 1) (sqnum + 1)) true (le-leb (sqnum + 1) (sqnum + 1) (omega arith)) refl)

numbered_placed : (sqnum : ℕ) (low : Numbered) (changes : List Change) → are_low sqnum low ≡ true → fold placed low (numbered sqnum changes) ≡ low ++ numbered sqnum changes
numbered_placed sqnum low [] h = sym (append-nil low)
numbered_placed sqnum low (change ∷ changes) h =
    ap (λ start. fold placed start (numbered (sqnum + 1) changes)) (placed_last sqnum low (sqnum + 1, change) h (omega arith))
    ∙ numbered_placed (sqnum + 1) (low ++ (sqnum + 1, change) ∷ []) changes (low_with sqnum low change h)
    ∙ append_assoc low ((sqnum + 1, change) ∷ []) (numbered (sqnum + 1) changes)

-- groups that a cut may leave, whether or not the tree has them

keeps_with : (heads : List Head) (at : ℕ) (group : Numbered) (counts : List ℕ) → KeepsSynced heads counts → KeepsSynced (with_group_at heads at group) counts
keeps_with [] at group counts k = k
keeps_with (head ∷ heads) at group [] k = absurd (none at)
  where
    none : (at : ℕ) → ⊥
    none at = k
keeps_with (head ∷ heads) zero group (count ∷ counts) k =
    let high = k.1 in
    let long = length-append head.groups (group ∷ []) in
    (k.0, omega (arith, high, long), k.2)
keeps_with (head ∷ heads) (suc at) group (count ∷ counts) k = (k.0, k.1, keeps_with heads at group counts k.2)

taken_with : (heads : List Head) (at : ℕ) (group : Numbered) (counts : List ℕ) → KeepsSynced heads counts → taken (with_group_at heads at group) counts ≡ taken heads counts
taken_with [] at group counts k = refl
taken_with (head ∷ heads) zero group [] k = absurd k
taken_with (head ∷ heads) (suc at) group [] k = absurd k
taken_with (head ∷ heads) zero group (count ∷ counts) k = ap (λ groups. in_groups groups ++ taken heads counts) (take-append-le count head.groups (group ∷ []) k.1)
taken_with (head ∷ heads) (suc at) group (count ∷ counts) k = ap (λ rest. in_groups (take count head.groups) ++ rest) (taken_with heads at group counts k.2)

given_with : (sqnum last : ℕ) (heads : List Head) (at : ℕ) (group : Numbered) → sqnum ≤ last → AreGiven sqnum heads → are_low last group ≡ true → AreGiven last (with_group_at heads at group)
given_with sqnum last [] at group l h g = refl
given_with sqnum last (head ∷ heads) zero group l h g =
    let p = and_parts (are_low sqnum (in_groups head.groups)) (list_all (λ (head : Head). are_low sqnum (in_groups head.groups)) heads) h in
    let one : are_low last (in_groups (group ∷ [])) ≡ true = ap (are_low last) (append-nil group) ∙ g in
    and_from (are_low last (in_groups (head.groups ++ group ∷ []))) (list_all (λ (head : Head). are_low last (in_groups head.groups)) heads)
    (low_joined last head.groups (group ∷ []) (lower_mark sqnum last (in_groups head.groups) l p.0) one) (given_more sqnum last heads l p.1)
  where
    given_more : (sqnum last : ℕ) (heads : List Head) → sqnum ≤ last → AreGiven sqnum heads → AreGiven last heads
    given_more sqnum last [] l h = refl
    given_more sqnum last (head ∷ heads) l h =
        let p = and_parts (are_low sqnum (in_groups head.groups)) (list_all (λ (head : Head). are_low sqnum (in_groups head.groups)) heads) h in
        and_from (are_low last (in_groups head.groups)) (list_all (λ (head : Head). are_low last (in_groups head.groups)) heads) (lower_mark sqnum last (in_groups head.groups) l p.0) (given_more sqnum last heads l p.1)
given_with sqnum last (head ∷ heads) (suc at) group l h g =
    let p = and_parts (are_low sqnum (in_groups head.groups)) (list_all (λ (head : Head). are_low sqnum (in_groups head.groups)) heads) h in
    and_from (are_low last (in_groups head.groups)) (list_all (λ (head : Head). are_low last (in_groups head.groups)) (with_group_at heads at group)) (lower_mark sqnum last (in_groups head.groups) l p.0) (given_with sqnum last heads at group l p.1 g)

parted_with : (s : Story) (at : ℕ) (changes : List Change) → IsParted s.mark s.sqnum s.before s.since → IsParted s.mark (put_at s at changes).sqnum s.before (put_at s at changes).since
parted_with s at changes is =
    let group : Numbered = numbered s.sqnum changes in
    let last = last_higher s.sqnum changes in
    let above = is.above in
    record { long = long_with s.since at group ∙ is.long; low = is.low; high = high_with s.mark s.since at group is.high (numbered_high s.mark s.sqnum changes above); above = omega (arith, last, above) }

-- a group at whose put the volume failed
pub put_failed : (tree : Tree) (s : Story) (at : ℕ) (changes : List Change) → IsStory tree s → IsStory tree (put_at s at changes)
put_failed tree s at changes is =
    let group : Numbered = numbered s.sqnum changes in
    record {
      in_order = is.in_order;
      three = long_with s.since at group ∙ is.three;
      parted = parted_with s at changes is.parted;
      given = given_with s.sqnum (last_number s.sqnum group) s.since at group (last_higher s.sqnum changes) is.given (numbered_low s.sqnum changes);
      began = is.began;
      named = is.named;
      ordered = is.ordered;
      keeps = keeps_with s.since at group s.counts is.keeps;
      left = is.left ∙ ap (recovered s.started) (sym (taken_with s.since at group s.counts is.keeps));
    }

pub puts_failed : (tree : Tree) (s : Story) (puts : List (ℕ × List Change)) → IsStory tree s → IsStory tree (failed_puts s puts)
puts_failed tree s [] is = is
puts_failed tree s (put ∷ puts) is = puts_failed tree (put_at s put.0 put.1) puts (put_failed tree s put.0 put.1 is)

-- a cut may leave this tree once groups were put on what a medium tells
abbrev pub Left : Medium → List (ℕ × List Change) → Tree → Type 0
Left medium puts tree = (heads : List Head) × Puts medium.sqnum medium.heads puts heads × IsRecovered medium.committed heads tree

-- they stand last in the journal
pub put_left : (s : Story) (at : ℕ) (changes : List Change) (more : List (ℕ × List Change)) (tree : Tree) → Left (medium_of (put_at s at changes)) more tree → Left (medium_of s) ((at, changes) ∷ more) tree
put_left s at changes more tree (heads, put, is) =
    let group : Numbered = numbered s.sqnum changes in
    let P : List Head → Type 0 = λ z. Puts (last_number s.sqnum group) z more heads in
    (heads, (group, are_next s.sqnum changes, numbered_changes s.sqnum changes, subst P (sym (joined_with s.before s.since at group)) put), is)

pub puts_left : (s : Story) (puts more : List (ℕ × List Change)) (tree : Tree) → Left (medium_of (failed_puts s puts)) more tree → Left (medium_of s) (puts ++ more) tree
puts_left s [] more tree left = left
puts_left s (put ∷ puts) more tree left = put_left s put.0 put.1 (puts ++ more) tree (puts_left (put_at s put.0 put.1) puts more tree left)

-- groups that were put

pub all_keep : (heads : List Head) → AreWithin heads → KeepsSynced heads (all_counts heads)
all_keep [] w = tt
all_keep (head ∷ heads) w =
    let p = and_parts (nat_le head.synced (length head.groups)) (list_all (λ (head : Head). nat_le head.synced (length head.groups)) heads) w in
    (leb-true head.synced (length head.groups) p.0, omega arith, all_keep heads p.1)

pub all_taken : (heads : List Head) → taken heads (all_counts heads) ≡ in_heads (groups_of heads)
all_taken [] = refl
all_taken (head ∷ heads) =
    ap (λ groups. in_groups groups ++ taken heads (all_counts heads)) (take_all (length head.groups) head.groups (omega arith))
    ∙ ap (λ rest. in_groups head.groups ++ rest) (all_taken heads)

pub named_started : (tree : Tree) (s : Story) → IsStory tree s → nameless s.started ≡ []
named_started tree s is = ap nameless is.began ∙ replayed_named s.committed (in_heads s.before) is.named

-- where the tree has all groups they lead to it
pub whole_tree : (tree : Tree) (s : Story) → IsStory tree s → HasAllGroups s → without_nameless tree ≡ replayed s.started (in_heads (groups_of s.since))
whole_tree tree s is whole =
    is.left ∙ ap (λ counts. recovered s.started (taken s.since counts)) whole ∙ ap (recovered s.started) (all_taken s.since) ∙ recovered_replayed s.started (in_heads (groups_of s.since)) (named_started tree s is)

-- all groups with one more are those before, and this one
all_with : (heads : List Head) (at : ℕ) (group : Numbered) → taken (with_group_at heads at group) (all_counts (with_group_at heads at group))
    ≡ taken (joined (groups_of heads) (with_group_at (emptied heads) at group)) (counted (groups_of heads) (all_counts (with_group_at (emptied heads) at group)))
all_with [] at group = refl
all_with (head ∷ heads) zero group =
    let n : length (head.groups ++ group ∷ []) ≡ length head.groups + 1 = length-append head.groups (group ∷ []) in
    ap (λ n. in_groups (take n (head.groups ++ group ∷ [])) ++ taken heads (all_counts heads)) n ∙ ap (λ rest. in_groups (take (length head.groups + 1) (head.groups ++ group ∷ [])) ++ rest) (rest heads)
  where
    rest : (heads : List Head) → taken heads (all_counts heads) ≡ taken (joined (groups_of heads) (emptied heads)) (counted (groups_of heads) (all_counts (emptied heads)))
    rest [] = refl
    rest (head ∷ heads) =
        let e : length head.groups ≡ length head.groups + 0 = omega arith in
        ap (λ groups. in_groups (take (length head.groups) groups) ++ taken heads (all_counts heads)) (sym (append-nil head.groups))
        ∙ ap (λ n. in_groups (take n (head.groups ++ [])) ++ taken heads (all_counts heads)) e
        ∙ ap (λ more. in_groups (take (length head.groups + 0) (head.groups ++ [])) ++ more) (rest heads)
all_with (head ∷ heads) (suc at) group =
    let e : length head.groups ≡ length head.groups + 0 = omega arith in
    let more : Numbered = taken (with_group_at heads at group) (all_counts (with_group_at heads at group)) in
    ap (λ groups. in_groups (take (length head.groups) groups) ++ more) (sym (append-nil head.groups))
    ∙ ap (λ n. in_groups (take n (head.groups ++ [])) ++ more) e
    ∙ ap (λ more. in_groups (take (length head.groups + 0) (head.groups ++ [])) ++ more) (all_with heads at group)

none_taken : (heads : List Head) → taken (emptied heads) (all_counts (emptied heads)) ≡ []
none_taken [] = refl
none_taken (head ∷ heads) = none_taken heads

one_taken : (heads : List Head) (at : ℕ) (group : Numbered) → at < length heads → taken (with_group_at (emptied heads) at group) (all_counts (with_group_at (emptied heads) at group)) ≡ group
one_taken [] at group l = absurd (omega (arith, l))
one_taken (head ∷ heads) zero group l = ap (λ rest. (group ++ []) ++ rest) (none_taken heads) ∙ append-nil (group ++ []) ∙ append-nil group
one_taken (head ∷ heads) (suc at) group l = one_taken heads at group (omega (arith, l))

-- a group whose numbers come next makes of the tree what its replay does
with_one : (tree : Tree) (s : Story) (at : ℕ) (changes : List Change) → IsStory tree s → HasAllGroups s → at < 3
    → recovered s.started (taken (with_group_at s.since at (numbered s.sqnum changes)) (all_counts (with_group_at s.since at (numbered s.sqnum changes)))) ≡ apply (without_nameless tree) (map as_replayed changes)
with_one tree s at changes is whole l =
    let group : Numbered = numbered s.sqnum changes in
    let E : List Head = with_group_at (emptied s.since) at group in
    let X : Tree = replayed s.started (in_heads (groups_of s.since)) in
    let empty = is_emptied s.sqnum s.since is.given in
    let high = high_with s.sqnum (emptied s.since) at group empty.high (numbered_high s.sqnum s.sqnum changes (omega arith)) in
    let long = long_with (emptied s.since) at group ∙ empty.long in
    let named = replayed_named s.started (in_heads (groups_of s.since)) (named_started tree s is) in
    let three = is.three in
    ap (recovered s.started) (all_with s.since at group)
    ∙ recovered_again s.started s.sqnum (groups_of s.since) E (all_counts E) long (counts_of E ∙ long) empty.low high
    ∙ ap (recovered X) (one_taken s.since at group (omega (arith, l, three)))
    ∙ recovered_replayed X group named
    ∙ ap (λ (z : Numbered). apply X (map (λ (c : ℕ × Change). as_replayed c.1) z)) (numbered_placed s.sqnum [] changes refl)
    ∙ ap (apply X) (numbered_replayed s.sqnum changes)
    ∙ ap (λ z. apply z (map as_replayed changes)) (sym (whole_tree tree s is whole))
  where
    counts_of : (heads : List Head) → length (all_counts heads) ≡ length heads
    counts_of [] = refl
    counts_of (head ∷ heads) = ap (λ n. suc n) (counts_of heads)

pub put_done : (tree : Tree) (s : Story) (at : ℕ) (changes : List Change) → IsStory tree s → HasAllGroups s → at < 3 → all_revive_none tree changes ≡ true → IsStory (apply tree changes) (with_all (put_at s at changes))
put_done tree s at changes is whole l none =
    let group : Numbered = numbered s.sqnum changes in
    let failed = put_failed tree s at changes is in
    record {
      in_order = apply_in_order changes tree is.in_order;
      three = failed.three;
      parted = failed.parted;
      given = failed.given;
      began = is.began;
      named = is.named;
      ordered = is.ordered;
      keeps = all_keep (with_group_at s.since at group) (heads_within (with_group_at s.since at group) s.counts failed.keeps);
      left = group_forgotten changes tree is.in_order none ∙ sym (with_one tree s at changes is whole l);
    }
