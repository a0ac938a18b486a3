-- What a story becomes by a sync and by commits.
use Rattle.std.proofs.Common.{◌≡◌, ℕ, zero, suc, ◌+◌, ◌≤◌, true, not, List, [], ◌∷◌, ◌++◌, length, take, drop, map, refl, sym, ap, subst, ◌∙◌, arith, append-nil, length-append}
use Rattle.std.specs.Prelude.{nat_lt, nat_le}
use Rattle.std.specs.List.{list_all}
use Rattle.std.proofs.lemmas.Bool.{and_parts, and_from, le-ltb, leb-true}
use Rattle.std.proofs.Math.Seq.{drop-append_seam}
use Rattle.fs_model.specs.declared.change.Change.{Change}
use Rattle.fs_model.specs.Files.{Tree}
use Rattle.fs_model.specs.Journal.{Puts, AreSynced, last_number, with_group_at, later_groups}
use Rattle.fs_model.specs.JournalLaws.{AreWithin, emptied, groups_of, is_emptied}
use Rattle.fs_model.specs.Orphan.{without_nameless, is_nameless}
use Rattle.fs_model.specs.Path.{is_empty}
use Rattle.fs_model.specs.Change.{without_inode}
use Rattle.fs_model.specs.Proper.{IsInOrder}
use Rattle.fs_model.specs.Recovery.{Numbered, Head, IsRecovered, KeepsSynced, taken, recovered, as_replayed, by_number}
use Rattle.fs_model.specs.RecoveryLaws.{AreHigh, WouldLeave, joined, in_groups, in_heads, are_high, are_low, replayed, all_counts, left_of_all}
use Rattle.fs_laws.specs.Forgotten.{apply_in_order, forgotten_twice, dropped_forgotten, dropped_in_order}
use Rattle.plain_backing.specs.Story.{Story, IsStory, HasAllGroups, AreGiven, medium_of, none_before, synced_story, begun, ended_story, is_story_idle}
use Rattle.plain_backing.specs.StoryLaws.{heads_within}
use Rattle.plain_backing.proofs.Putting.{Left, named_started, whole_tree}

-- heads with the same groups, of which as many are synced, or more
abbrev pub IsFurther : List Head → List Head → Type 0
IsFurther [] [] = Unit {0}
IsFurther [] (b ∷ news) = ⊥
IsFurther (a ∷ olds) [] = ⊥
IsFurther (a ∷ olds) (b ∷ news) = (b.groups ≡ a.groups) × (a.synced ≤ b.synced) × IsFurther olds news

further_with : (olds news : List Head) (at : ℕ) (group : Numbered) → IsFurther olds news → IsFurther (with_group_at olds at group) (with_group_at news at group)
further_with [] [] at group f = tt
further_with [] (b ∷ news) at group f = absurd f
further_with (a ∷ olds) [] at group f = absurd f
further_with (a ∷ olds) (b ∷ news) zero group f = (ap (λ (groups : List Numbered). groups ++ group ∷ []) f.0, f.1, f.2)
further_with (a ∷ olds) (b ∷ news) (suc at) group f = (f.0, f.1, further_with olds news at group f.2)

-- what is put on the one can be put on the other
record ArePut (sqnum : ℕ) (heads : List Head) (puts : List (ℕ × List Change)) (after : List Head) : Type 0 where
  later : List Head
  put : Puts sqnum heads puts later
  further : IsFurther later after

further_puts : (sqnum : ℕ) (olds news : List Head) (puts : List (ℕ × List Change)) (after : List Head) → IsFurther olds news → Puts sqnum news puts after → ArePut sqnum olds puts after
further_puts sqnum olds news [] after f e = record { later = olds; put = refl; further = subst (IsFurther olds) (sym e) f }
further_puts sqnum olds news (put ∷ puts) after f (group, next, same, rest) =
    let it = further_puts (last_number sqnum group) (with_group_at olds put.0 group) (with_group_at news put.0 group) puts after (further_with olds news put.0 group f) rest in
    record { later = it.later; put = (group, next, same, it.put); further = it.further }

further_keeps : (olds news : List Head) (counts : List ℕ) → IsFurther olds news → KeepsSynced news counts → KeepsSynced olds counts
further_keeps [] [] counts f k = k
further_keeps [] (b ∷ news) counts f k = absurd f
further_keeps (a ∷ olds) [] counts f k = absurd f
further_keeps (a ∷ olds) (b ∷ news) [] f k = absurd k
further_keeps (a ∷ olds) (b ∷ news) (count ∷ counts) f k =
    let more = f.1 in
    let low = k.0 in
    let P : List Numbered → Type 0 = λ groups. count ≤ length groups in
    (omega (arith, more, low), subst P f.0 k.1, further_keeps olds news counts f.2 k.2)

further_taken : (olds news : List Head) (counts : List ℕ) → IsFurther olds news → taken news counts ≡ taken olds counts
further_taken [] [] counts f = refl
further_taken [] (b ∷ news) counts f = absurd f
further_taken (a ∷ olds) [] counts f = absurd f
further_taken (a ∷ olds) (b ∷ news) [] f = refl
further_taken (a ∷ olds) (b ∷ news) (count ∷ counts) f =
    ap (λ (groups : List Numbered). in_groups (take count groups) ++ taken news counts) f.0 ∙ ap (λ (rest : Numbered). in_groups (take count a.groups) ++ rest) (further_taken olds news counts f.2)

-- where more is synced a cut leaves no more
pub further_left : (committed : Tree) (sqnum : ℕ) (olds news : List Head) (puts : List (ℕ × List Change)) (tree : Tree) → IsFurther olds news → ((heads : List Head) × Puts sqnum news puts heads × IsRecovered committed heads tree)
    → (heads : List Head) × Puts sqnum olds puts heads × IsRecovered committed heads tree
further_left committed sqnum olds news puts tree f (heads, put, is) =
    let it = further_puts sqnum olds news puts heads f put in
    (it.later, it.put, record { counts = is.counts; synced = further_keeps it.later heads is.counts it.further is.synced; tree_is = is.tree_is ∙ ap (recovered committed) (further_taken it.later heads is.counts it.further) })

-- a sync

abbrev pub all_synced : List Head → List Head
all_synced heads = map (λ (head : Head). record { groups = head.groups; synced = length head.groups }) heads

synced_counts : (heads : List Head) → all_counts (map (λ (head : Head). record { groups = head.groups; synced = length head.groups }) heads) ≡ all_counts heads
synced_counts [] = refl
synced_counts (head ∷ heads) = ap (λ (rest : List ℕ). length head.groups ∷ rest) (synced_counts heads)

synced_further : (heads : List Head) → AreWithin heads → IsFurther heads (all_synced heads)
synced_further [] w = tt
synced_further (head ∷ heads) w =
    let p = and_parts (nat_le head.synced (length head.groups)) (list_all (λ (head : Head). nat_le head.synced (length head.groups)) heads) w in
    (refl, leb-true head.synced (length head.groups) p.0, synced_further heads p.1)

further_joined : (before : List (List Numbered)) (olds news : List Head) → IsFurther olds news → IsFurther (joined before olds) (joined before news)
further_joined [] olds news f = tt
further_joined (groups ∷ before) [] [] f = tt
further_joined (groups ∷ before) [] (b ∷ news) f = absurd f
further_joined (groups ∷ before) (a ∷ olds) [] f = absurd f
further_joined (groups ∷ before) (a ∷ olds) (b ∷ news) f =
    let more = f.1 in
    (ap (λ (later : List Numbered). groups ++ later) f.0, omega (arith, more), further_joined before olds news f.2)

synced_length : (heads : List Head) → length (all_synced heads) ≡ length heads
synced_length [] = refl
synced_length (head ∷ heads) = ap (λ n. suc n) (synced_length heads)

synced_high : (mark : ℕ) (heads : List Head) → AreHigh mark heads → AreHigh mark (all_synced heads)
synced_high mark [] h = refl
synced_high mark (head ∷ heads) h =
    let p = and_parts (are_high mark (in_groups head.groups)) (list_all (λ (head : Head). are_high mark (in_groups head.groups)) heads) h in
    and_from (are_high mark (in_groups head.groups)) (list_all (λ (head : Head). are_high mark (in_groups head.groups)) (all_synced heads)) p.0 (synced_high mark heads p.1)

synced_given : (sqnum : ℕ) (heads : List Head) → AreGiven sqnum heads → AreGiven sqnum (all_synced heads)
synced_given sqnum [] h = refl
synced_given sqnum (head ∷ heads) h =
    let p = and_parts (are_low sqnum (in_groups head.groups)) (list_all (λ (head : Head). are_low sqnum (in_groups head.groups)) heads) h in
    and_from (are_low sqnum (in_groups head.groups)) (list_all (λ (head : Head). are_low sqnum (in_groups head.groups)) (all_synced heads)) p.0 (synced_given sqnum heads p.1)

synced_keeps : (heads : List Head) → KeepsSynced (all_synced heads) (all_counts heads)
synced_keeps [] = tt
synced_keeps (head ∷ heads) = (omega arith, omega arith, synced_keeps heads)

pub sync_whole : (s : Story) → HasAllGroups s → HasAllGroups (synced_story s)
sync_whole s whole = whole ∙ sym (synced_counts s.since)

pub sync_done : (tree : Tree) (s : Story) → IsStory tree s → HasAllGroups s → IsStory tree (synced_story s)
sync_done tree s is whole =
    let parted = is.parted in
    let P : List ℕ → Type 0 = λ counts. KeepsSynced (all_synced s.since) counts in
    let further = synced_further s.since (heads_within s.since s.counts is.keeps) in
    record {
      in_order = is.in_order;
      three = synced_length s.since ∙ is.three;
      parted = record { long = synced_length s.since ∙ parted.long; low = parted.low; high = synced_high s.mark s.since parted.high; above = parted.above };
      given = synced_given s.sqnum s.since is.given;
      began = is.began;
      named = is.named;
      ordered = is.ordered;
      keeps = subst P (sym whole) (synced_keeps s.since);
      left = is.left ∙ ap (recovered s.started) (sym (further_taken s.since (all_synced s.since) s.counts further));
    }

pub sync_left : (tree : Tree) (s : Story) (more : List (ℕ × List Change)) (left : Tree) → IsStory tree s → Left (medium_of (synced_story s)) more left → Left (medium_of s) more left
sync_left tree s more left is would =
    further_left s.committed s.sqnum (joined s.before s.since) (joined s.before (all_synced s.since)) more left (further_joined s.before s.since (all_synced s.since) (synced_further s.since (heads_within s.since s.counts is.keeps))) would

not_less : (n : ℕ) → not (nat_lt n n) ≡ true
not_less n = ap not (le-ltb n n (omega arith))

pub sync_synced : (before : List (List Numbered)) (heads : List Head) → AreSynced (joined before (all_synced heads))
sync_synced [] heads = refl
sync_synced (groups ∷ before) [] = refl
sync_synced (groups ∷ before) (head ∷ heads) =
    let long = length-append groups head.groups in
    and_from (not (nat_lt (length groups + length head.groups) (length (groups ++ head.groups)))) (list_all (λ (head : Head). not (nat_lt head.synced (length head.groups))) (joined before (all_synced heads)))
    (ap (λ n. not (nat_lt (length groups + length head.groups) n)) long ∙ not_less (length groups + length head.groups)) (sync_synced before heads)

-- a commit's start

-- where nothing was put before, what was committed is what the groups since are put on
nothing_before : (before : List (List Numbered)) → list_all is_empty before ≡ true → in_heads before ≡ []
nothing_before [] h = refl
nothing_before ([] ∷ before) h = nothing_before before h
nothing_before ((group ∷ groups) ∷ before) h = absurd cc

idle_start : (tree : Tree) (s : Story) → IsStory tree s → is_story_idle s ≡ true → s.started ≡ s.committed
idle_start tree s is idle = is.began ∙ ap (replayed s.committed) (nothing_before s.before idle)

begun_given : (sqnum : ℕ) (heads : List Head) → AreGiven sqnum (emptied heads)
begun_given sqnum [] = refl
begun_given sqnum (head ∷ heads) = begun_given sqnum heads

begun_keeps : (heads : List Head) → KeepsSynced (emptied heads) (all_counts (emptied heads))
begun_keeps [] = tt
begun_keeps (head ∷ heads) = (omega arith, omega arith, begun_keeps heads)

begun_taken : (heads : List Head) → taken (emptied heads) (all_counts (emptied heads)) ≡ []
begun_taken [] = refl
begun_taken (head ∷ heads) = begun_taken heads

begun_length : (heads : List Head) → length (emptied heads) ≡ length heads
begun_length [] = refl
begun_length (head ∷ heads) = ap (λ n. suc n) (begun_length heads)

pub begin_done : (tree : Tree) (s : Story) → IsStory tree s → HasAllGroups s → is_story_idle s ≡ true → IsStory tree (begun s tree)
begin_done tree s is whole idle = record {
  in_order = is.in_order;
  three = begun_length s.since ∙ is.three;
  parted = is_emptied s.sqnum s.since is.given;
  given = begun_given s.sqnum s.since;
  began = whole_tree tree s is whole ∙ ap (λ t. replayed t (in_heads (groups_of s.since))) (idle_start tree s is idle);
  named = is.named;
  ordered = is.ordered;
  keeps = begun_keeps s.since;
  left = sym (ap (recovered (without_nameless tree)) (begun_taken s.since) ∙ forgotten_twice tree is.in_order);
}

begun_further : (before : List (List Numbered)) (heads : List Head) → length heads ≡ length before → AreWithin heads → list_all is_empty before ≡ true
    → IsFurther (joined before heads) (joined (groups_of heads) (emptied heads))
begun_further [] [] n w h = tt
begun_further [] (head ∷ heads) n w h = absurd cc
begun_further (groups ∷ before) [] n w h = absurd cc
begun_further ((group ∷ groups) ∷ before) (head ∷ heads) n w h = absurd cc
begun_further ([] ∷ before) (head ∷ heads) n w h =
    let p = and_parts (nat_le head.synced (length head.groups)) (list_all (λ (head : Head). nat_le head.synced (length head.groups)) heads) w in
    let le = leb-true head.synced (length head.groups) p.0 in
    (append-nil head.groups, omega (arith, le), begun_further before heads (omega (arith, n)) p.1 h)

pub begin_left : (tree : Tree) (s : Story) (more : List (ℕ × List Change)) (left : Tree) → IsStory tree s → is_story_idle s ≡ true → Left (medium_of (begun s tree)) more left → Left (medium_of s) more left
begin_left tree s more left is idle would =
    let parted = is.parted in
    further_left s.committed s.sqnum (joined s.before s.since) (joined (groups_of s.since) (emptied s.since)) more left
    (begun_further s.before s.since parted.long (heads_within s.since s.counts is.keeps) idle) would

pub begin_synced : (heads : List Head) → AreSynced (joined (groups_of heads) (emptied heads))
begin_synced [] = refl
begin_synced (head ∷ heads) =
    let long : length (head.groups ++ []) ≡ length head.groups + 0 = ap length (append-nil head.groups) ∙ omega arith in
    and_from (not (nat_lt (length head.groups + 0) (length (head.groups ++ [])))) (list_all (λ (head : Head). not (nat_lt head.synced (length head.groups))) (joined (groups_of heads) (emptied heads)))
    (ap (λ n. not (nat_lt (length head.groups + 0) n)) long ∙ not_less (length head.groups + 0)) (begin_synced heads)

pub begin_counts : (heads : List Head) → map (λ (groups : List Numbered). length groups) (groups_of heads) ≡ map (λ (head : Head). length head.groups) (joined (groups_of heads) (emptied heads))
begin_counts [] = refl
begin_counts (head ∷ heads) =
    ap (λ (n : ℕ). n ∷ map (λ (groups : List Numbered). length groups) (groups_of heads)) (sym (ap length (append-nil head.groups)))
    ∙ ap (λ (rest : List ℕ). length (head.groups ++ []) ∷ rest) (begin_counts heads)

-- its end

pub end_done : (tree : Tree) (s : Story) → IsStory tree s → IsStory tree (ended_story s)
end_done tree s is =
    let parted = is.parted in
    record {
      in_order = is.in_order;
      three = is.three;
      parted = record { long = is.three; low = refl; high = parted.high; above = parted.above };
      given = is.given;
      began = refl;
      named = named_started tree s is;
      ordered = subst IsInOrder (sym is.began) (apply_in_order (map (λ c. as_replayed c.1) (by_number (in_heads s.before))) s.committed is.ordered);
      keeps = is.keeps;
      left = is.left;
    }

pub none_joined : (heads : List Head) → length heads ≡ 3 → joined none_before heads ≡ heads
none_joined [] n = refl
none_joined (a ∷ []) n = absurd cc
none_joined (a ∷ b ∷ []) n = absurd cc
none_joined (a ∷ b ∷ c ∷ []) n = ap (λ (x : Head). x ∷ joined ([] ∷ [] ∷ []) (b ∷ c ∷ [])) (none a) ∙ ap (λ (y : Head). a ∷ y ∷ joined ([] ∷ []) (c ∷ [])) (none b) ∙ ap (λ (z : Head). a ∷ b ∷ z ∷ []) (none c)
  where
    none : (head : Head) → record { groups = head.groups; synced = 0 + head.synced } ≡ head
    none head = let e : 0 + head.synced ≡ head.synced = omega arith in ap (λ (n : ℕ). record { groups = head.groups; synced = n }) e
none_joined (a ∷ b ∷ c ∷ d ∷ heads) n = absurd (omega (arith, n))

pub end_left : (tree : Tree) (s : Story) (more : List (ℕ × List Change)) (left : Tree) → IsStory tree s → Left (medium_of (ended_story s)) more left → Left (medium_of s) more left
end_left tree s more left is (heads, put, may) =
    let P : List Head → Type 0 = λ z. Puts s.sqnum z more heads in
    let Q : Tree → Type 0 = λ z. WouldLeave z s.sqnum s.since more left in
    let would : WouldLeave s.started s.sqnum s.since more left = record { after = heads; put = subst P (none_joined s.since is.three) put; is = may } in
    let all = left_of_all s.committed s.mark s.sqnum s.before s.since more left is.parted (subst Q is.began would) in
    (all.after, all.put, all.is)

pub end_groups : (before : List (List Numbered)) (heads : List Head) → length heads ≡ length before
    → groups_of heads ≡ later_groups (joined before heads) (map (λ (groups : List Numbered). length groups) before)
end_groups [] [] n = refl
end_groups [] (head ∷ heads) n = absurd cc
end_groups (groups ∷ before) [] n = absurd cc
end_groups (groups ∷ before) (head ∷ heads) n =
    ap (λ (later : List Numbered). later ∷ groups_of heads) (sym (drop-append_seam groups head.groups)) ∙ ap (λ (rest : List (List Numbered)). drop (length groups) (groups ++ head.groups) ∷ rest) (end_groups before heads (omega (arith, n)))

-- an inode without a name that goes

pub drop_done : (tree : Tree) (s : Story) (ino : ℕ) → IsStory tree s → is_nameless tree ino ≡ true → IsStory (without_inode tree ino) s
drop_done tree s ino is gone = record {
  in_order = dropped_in_order tree ino is.in_order;
  three = is.three;
  parted = is.parted;
  given = is.given;
  began = is.began;
  named = is.named;
  ordered = is.ordered;
  keeps = is.keeps;
  left = dropped_forgotten tree ino is.in_order gone ∙ is.left;
}
