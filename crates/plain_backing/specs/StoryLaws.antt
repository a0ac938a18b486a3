-- What a story says of the journal that it tells.
use Rattle.std.proofs.Common.{◌≡◌, ℕ, suc, ◌+◌, ◌≤◌, true, List, [], ◌∷◌, ◌++◌, length, refl, ap, subst, ◌∙◌, arith, length-append}
use Rattle.std.specs.Prelude.{nat_le}
use Rattle.std.specs.List.{list_all}
use Rattle.std.specs.Coded.{Coded}
use Rattle.std.proofs.lemmas.Bool.{and_parts, and_from, leb-true, le-leb}
use Rattle.std.proofs.lemmas.Grind.{flat_map-append}
use Rattle.std.proofs.lemmas.List.Folds.{list_all-append}
use Rattle.fs_model.specs.declared.change.Change.{Change}
use Rattle.fs_model.specs.Files.{Tree}
use Rattle.fs_model.specs.Journal.{IsJournalOf}
use Rattle.fs_model.specs.JournalLaws.{AreWithin}
use Rattle.fs_model.specs.Orphan.{without_nameless}
use Rattle.fs_model.specs.Recovery.{Numbered, Head, IsRecovered, KeepsSynced}
use Rattle.fs_model.specs.RecoveryLaws.{AreLow, joined, in_groups, are_low, recovered_of_all}
use Rattle.plain_backing.specs.Story.{Story, IsStory, AreGiven, medium_of}
use denote.Struct.Props.{props}

keeps_prop : (heads : List Head) (counts : List ℕ) → IsProp (KeepsSynced heads counts)
keeps_prop [] [] = hlevel props
keeps_prop [] (count ∷ counts) = hlevel props
keeps_prop (head ∷ heads) [] = hlevel props
keeps_prop (head ∷ heads) (count ∷ counts) = let more = keeps_prop heads counts in hlevel (props, more)

-- a story tells one thing of a tree at most
pub story_prop : Coded Tree → (tree : Tree) (s : Story) → IsProp (IsStory tree s)
story_prop code tree s = let keeps = keeps_prop s.since s.counts in hlevel (props, code, keeps)

-- counts that keep what is synced show that no more is synced than there is
pub heads_within : (heads : List Head) (counts : List ℕ) → KeepsSynced heads counts → AreWithin heads
heads_within [] counts k = refl
heads_within (head ∷ heads) [] k = absurd k
heads_within (head ∷ heads) (count ∷ counts) k =
    let low = k.0 in
    let high = k.1 in
    and_from (nat_le head.synced (length head.groups)) (list_all (λ (head : Head). nat_le head.synced (length head.groups)) heads) (le-leb head.synced (length head.groups) (omega (arith, low, high))) (heads_within heads counts k.2)

pub joined_long : (before : List (List Numbered)) (heads : List Head) → length heads ≡ length before → length (joined before heads) ≡ length heads
joined_long [] [] n = refl
joined_long [] (head ∷ heads) n = absurd cc
joined_long (groups ∷ before) [] n = refl
joined_long (groups ∷ before) (head ∷ heads) n = ap (λ n. suc n) (joined_long before heads (omega (arith, n)))

joined_within : (before : List (List Numbered)) (heads : List Head) → AreWithin heads → AreWithin (joined before heads)
joined_within [] heads w = refl
joined_within (groups ∷ before) [] w = refl
joined_within (groups ∷ before) (head ∷ heads) w =
    let p = and_parts (nat_le head.synced (length head.groups)) (list_all (λ (head : Head). nat_le head.synced (length head.groups)) heads) w in
    let le = leb-true head.synced (length head.groups) p.0 in
    let long = length-append groups head.groups in
    and_from (nat_le (length groups + head.synced) (length (groups ++ head.groups))) (list_all (λ (head : Head). nat_le head.synced (length head.groups)) (joined before heads))
    (le-leb (length groups + head.synced) (length (groups ++ head.groups)) (omega (arith, le, long))) (joined_within before heads p.1)

-- numbers below one are below a greater one
pub lower_mark : (mark sqnum : ℕ) (changes : Numbered) → mark ≤ sqnum → are_low mark changes ≡ true → are_low sqnum changes ≡ true
lower_mark mark sqnum [] l h = refl
lower_mark mark sqnum (c ∷ changes) l h =
    let p = and_parts (nat_le c.0 mark) (are_low mark changes) h in
    let below = leb-true c.0 mark p.0 in
    and_from (nat_le c.0 sqnum) (are_low sqnum changes) (le-leb c.0 sqnum (omega (arith, l, below))) (lower_mark mark sqnum changes l p.1)

-- the numbers of groups behind groups
pub low_joined : (sqnum : ℕ) (first second : List Numbered) → are_low sqnum (in_groups first) ≡ true → are_low sqnum (in_groups second) ≡ true → are_low sqnum (in_groups (first ++ second)) ≡ true
low_joined sqnum first second a b =
    ap (are_low sqnum) (flat_map-append (λ (group : Numbered). group) first second) ∙ list_all-append (λ (c : ℕ × Change). nat_le c.0 sqnum) (in_groups first) (in_groups second)
    ∙ and_from (are_low sqnum (in_groups first)) (are_low sqnum (in_groups second)) a b

joined_given : (mark sqnum : ℕ) (before : List (List Numbered)) (heads : List Head) → mark ≤ sqnum → AreLow mark before → AreGiven sqnum heads → AreGiven sqnum (joined before heads)
joined_given mark sqnum [] heads l low given = refl
joined_given mark sqnum (groups ∷ before) [] l low given = refl
joined_given mark sqnum (groups ∷ before) (head ∷ heads) l low given =
    let p = and_parts (are_low mark (in_groups groups)) (list_all (λ (groups : List Numbered). are_low mark (in_groups groups)) before) low in
    let q = and_parts (are_low sqnum (in_groups head.groups)) (list_all (λ (head : Head). are_low sqnum (in_groups head.groups)) heads) given in
    and_from (are_low sqnum (in_groups (groups ++ head.groups))) (list_all (λ (head : Head). are_low sqnum (in_groups head.groups)) (joined before heads))
    (low_joined sqnum groups head.groups (lower_mark mark sqnum (in_groups groups) l p.0) q.0) (joined_given mark sqnum before heads l p.1 q.1)

-- the journal that is told is one of this tree
pub story_journal : (tree : Tree) (s : Story) → IsStory tree s → IsJournalOf tree (medium_of s)
story_journal tree s is =
    let parted = is.parted in
    let since : IsRecovered s.started s.since (without_nameless tree) = record { counts = s.counts; synced = is.keeps; tree_is = is.left } in
    record {
      three = joined_long s.before s.since parted.long ∙ is.three;
      synced = joined_within s.before s.since (heads_within s.since s.counts is.keeps);
      given = joined_given s.mark s.sqnum s.before s.since parted.above parted.low is.given;
      named = is.named;
      ordered = is.ordered;
      left = recovered_of_all s.committed s.mark s.before s.since (without_nameless tree) parted.long parted.low parted.high (subst (λ t. IsRecovered t s.since (without_nameless tree)) is.began since);
    }
