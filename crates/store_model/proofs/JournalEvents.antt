-- All groups, put on what was committed, lead to the files, after each event too.
use Rattle.std.proofs.Common.{◌≡◌, ◌⊎◌, ◌+◌, ◌∙◌, ℕ, suc, arith, Bool, true, false, cond, not, List, [], ◌∷◌, ◌++◌, length, length-append, map, refl, sym, ap, subst, append_assoc, append-nil, Option, Some, None, inl, inr}
use Rattle.std.specs.Prelude.{◌==◌, ◌||◌, filter, fold, nat_le, nat_lt}
use Rattle.std.specs.BTreeMap.{is_at}
use Rattle.std.specs.List.{list_all, list_any}
use Rattle.std.specs.Map.{keys_of, lookup}
use Rattle.std.specs.Option.{option_map_or}
use Rattle.std.specs.Ordering.{nat_cmp}
use Rattle.std.proofs.lemmas.Bool.{and_from, and_parts, eqb-true, false≢true}
use Rattle.std.proofs.lemmas.List.{map-append}
use Rattle.std.proofs.lemmas.List.Folds.{list_all-append}
use Rattle.fs_model.specs.declared.change.Change.{Change}
use Rattle.fs_model.specs.Change.{apply}
use Rattle.fs_model.specs.declared.inode.Inode.{Inode}
use Rattle.fs_model.specs.Files.{Inodes, Tree}
use Rattle.fs_model.specs.JournalLaws.{groups_of as head_groups, left_of_synced, replayed_named}
use Rattle.fs_model.specs.Orphan.{is_nameless, nameless, without_nameless}
use Rattle.fs_model.specs.Proper.{ascends, IsProper, IsInOrder}
use Rattle.fs_model.specs.Recovery.{as_replayed, by_number, Head, IsRecovered, KeepsSynced, Numbered, placed, recovered, taken}
use Rattle.fs_model.specs.RecoveryLaws.{all_counts, are_high, AreHigh, AreLow, in_groups, in_heads, joined, recovered_of_later, replayed}
use Rattle.fs_laws.specs.Forgotten.{dropped_forgotten, group_forgotten}
use Rattle.fs_laws.specs.Maps.{apart, key_cases, missing_first, tail_ascends}
use Rattle.fs_laws.specs.Orders.{numbers}
use Rattle.store_model.specs.Begun.{HasBegun, IsCommitBegun, JournalLeads}
use Rattle.store_model.specs.Events.{after_part, credit, drop_inode, end_at, end_commit, granted, paid, Part, Payment, put, Putting}
use Rattle.store_model.specs.Fits.{faced_now}
use Rattle.store_model.specs.Heads.{changes_of, groups_of_head, heads_of, numbered_group, synced_since, with_head_group}
use Rattle.store_model.specs.Invariant.{AreRolesApart, AreNumbered, HasNumbers}
use Rattle.store_model.specs.Legal.{AreConsecutive, AreLegalParts, FitHead, is_orphan, IsLegalPart}
use Rattle.store_model.specs.Store.{At, Bud, Carried, StoreIndex, Next, Orphan, Store}
use Rattle.store_model.proofs.Apart.{groups_other}
use Rattle.store_model.proofs.BackingPuts.{groups_added, has_last}
use Rattle.store_model.proofs.BegunCommits.{low_heads}
use Rattle.store_model.proofs.BegunEvents.{high_group}
use Rattle.store_model.proofs.LebPuts.{end_bud, part_apart}
use Rattle.store_model.proofs.PutNumbers.{part_numbers}
use Rattle.store_model.proofs.RecoveryCopies.{either_of}

-- ---- groups in two parts
-- heads with these groups, all synced
abbrev pub full : List Numbered → Head
full groups = record { groups = groups; synced = length groups }

abbrev pub fulls : List (List Numbered) → List Head
fulls lists = map full lists

-- of each head the first groups and those behind them
abbrev pub both : List (List Numbered) → List (List Numbered) → List (List Numbered)
both [] last = []
both (groups ∷ before) [] = []
both (groups ∷ before) (more ∷ last) = (groups ++ more) ∷ both before last

pub full_joined : (before last : List (List Numbered)) → joined before (fulls last) ≡ fulls (both before last)
full_joined [] last = refl
full_joined (groups ∷ before) [] = refl
full_joined (groups ∷ before) (more ∷ last) =
    let synced : ℕ → Head = λ n. record { groups = groups ++ more; synced = n } in
    ap (λ (n : ℕ). synced n ∷ joined before (fulls last)) (sym (length-append groups more)) ∙ ap (λ (heads : List Head). full (groups ++ more) ∷ heads) (full_joined before last)

full_groups : (lists : List (List Numbered)) → head_groups (fulls lists) ≡ lists
full_groups [] = refl
full_groups (groups ∷ lists) = ap (λ (rest : List (List Numbered)). groups ∷ rest) (full_groups lists)

pub full_length : (lists : List (List Numbered)) → length (fulls lists) ≡ length lists
full_length [] = refl
full_length (groups ∷ lists) = ap (λ n. suc n) (full_length lists)

self_lt : (n : ℕ) → not (nat_lt n n) ≡ true
self_lt n = grind (arith)

full_synced : (lists : List (List Numbered)) → list_all (λ (head : Head). not (nat_lt head.synced (length head.groups))) (fulls lists) ≡ true
full_synced [] = refl
full_synced (groups ∷ lists) = and_from (not (nat_lt (length groups) (length groups))) (list_all (λ (head : Head). not (nat_lt head.synced (length head.groups))) (fulls lists)) (self_lt (length groups)) (full_synced lists)

full_keeps : (lists : List (List Numbered)) → KeepsSynced (fulls lists) (all_counts (fulls lists))
full_keeps [] = tt
full_keeps (groups ∷ lists) = (omega arith, omega arith, full_keeps lists)

-- what all groups lead to is what the later ones make of that to which the earlier ones lead
split : (committed : Tree) (mark : ℕ) (before last : List (List Numbered)) → length last ≡ length before → AreLow mark before → AreHigh mark (fulls last) → nameless committed ≡ []
    → replayed committed (in_heads (both before last)) ≡ replayed (replayed committed (in_heads before)) (in_heads last)
split committed mark before last long low high named =
    let all : List (List Numbered) = both before last in
    let tree : Tree = recovered committed (taken (fulls all) (all_counts (fulls all))) in
    let is : IsRecovered committed (fulls all) tree = record { counts = all_counts (fulls all); synced = full_keeps all; tree_is = refl } in
    let whole = left_of_synced committed (fulls all) tree (full_synced all) named is in
    let later = recovered_of_later committed mark before (fulls last) tree (full_length last ∙ long) low high (subst (λ (heads : List Head). IsRecovered committed heads tree) (sym (full_joined before last)) is) in
    let parts = left_of_synced (replayed committed (in_heads before)) (fulls last) tree (full_synced last) (replayed_named committed (in_heads before) named) later in
    sym (ap (λ (z : List (List Numbered)). replayed committed (in_heads z)) (full_groups all)) ∙ sym whole ∙ parts ∙ ap (λ (z : List (List Numbered)). replayed (replayed committed (in_heads before)) (in_heads z)) (full_groups last)

-- ---- changes whose numbers follow one another
not_before : (c x n : ℕ) → nat_le x n ≡ true → c ≡ n + 1 → nat_lt c x ≡ false
not_before c x n h e = grind (arith)

placed_last : (n : ℕ) (c : ℕ × Change) (changes : Numbered) → list_all (λ x. nat_le x.0 n) changes ≡ true → c.0 ≡ n + 1 → placed changes c ≡ changes ++ c ∷ []
placed_last n c [] h e = refl
placed_last n c (x ∷ changes) h e =
    let p = and_parts (nat_le x.0 n) (list_all (λ x. nat_le x.0 n) changes) h in
    rw (not_before c.0 x.0 n p.0 e) (ap (λ (rest : Numbered). x ∷ rest) (placed_last n c changes p.1 e))

low_more : (x n : ℕ) → nat_le x n ≡ true → nat_le x (n + 1) ≡ true
low_more x n h = grind (arith)

low_here : (x n : ℕ) → x ≡ n + 1 → nat_le x (n + 1) ≡ true
low_here x n h = grind (arith)

all_low : (n : ℕ) (changes : Numbered) → list_all (λ x. nat_le x.0 n) changes ≡ true → list_all (λ x. nat_le x.0 (n + 1)) changes ≡ true
all_low n [] h = refl
all_low n (x ∷ changes) h =
    let p = and_parts (nat_le x.0 n) (list_all (λ x. nat_le x.0 n) changes) h in
    and_from (nat_le x.0 (n + 1)) (list_all (λ x. nat_le x.0 (n + 1)) changes) (low_more x.0 n p.0) (all_low n changes p.1)

placed_all : (n : ℕ) (front group : Numbered) → list_all (λ x. nat_le x.0 n) front ≡ true → AreConsecutive n group → fold placed front group ≡ front ++ group
placed_all n front [] h follow = sym (append-nil front)
placed_all n front (c ∷ group) h follow =
    let one : list_all (λ (x : ℕ × Change). nat_le x.0 (n + 1)) (c ∷ []) ≡ true = and_from (nat_le c.0 (n + 1)) true (low_here c.0 n follow.0) refl in
    let low = list_all-append (λ (x : ℕ × Change). nat_le x.0 (n + 1)) front (c ∷ [])
    ∙ and_from (list_all (λ (x : ℕ × Change). nat_le x.0 (n + 1)) front) (list_all (λ (x : ℕ × Change). nat_le x.0 (n + 1)) (c ∷ [])) (all_low n front h) one in
    ap (λ (z : Numbered). fold placed z group) (placed_last n c front h follow.0) ∙ placed_all (n + 1) (front ++ c ∷ []) group low follow.1 ∙ append_assoc front (c ∷ []) group

pub in_turn : (n : ℕ) (group : Numbered) → AreConsecutive n group → by_number group ≡ group
in_turn n group follow = placed_all n [] group refl follow

pub numbered_replayed : (group : List Carried) → map (λ c. as_replayed c.1) (numbered_group group) ≡ map as_replayed (changes_of group)
numbered_replayed [] = refl
numbered_replayed (c ∷ group) = ap (λ (rest : List Change). as_replayed c.change ∷ rest) (numbered_replayed group)

-- ---- a group
-- the groups of the three heads
abbrev pub lists_of : List Bud → List (List Numbered)
lists_of buds = [] ∷ map numbered_group (groups_of_head 1 buds) ∷ map numbered_group (groups_of_head 2 buds) ∷ []

high_one : (mark : ℕ) (group : Numbered) → are_high mark group ≡ true → are_high mark (in_groups (group ∷ [])) ≡ true
high_one mark group h = ap (are_high mark) (append-nil group) ∙ h

-- a group that is put last at a head: the groups of each head that come with it
pub record IsPutLast (mark head : ℕ) (group : List Carried) (buds : List Bud) : Type 0 where
  pub last : List (List Numbered)
  pub long : length last ≡ 3
  pub lists : lists_of (with_head_group head group buds) ≡ both (lists_of buds) last
  pub high : AreHigh mark (fulls last)
  pub alone : in_heads last ≡ numbered_group group

pub put_last : (mark head : ℕ) (group : List Carried) (buds : List Bud) → AreConsecutive mark (numbered_group group) → (head ≡ 1) ⊎ (head ≡ 2) → groups_of_head head (with_head_group head group buds) ≡ groups_of_head head buds ++ group ∷ [] → IsPutLast mark head group buds
put_last mark head group buds follow (inl one) added =
    let mine = subst (λ (k : ℕ). groups_of_head k (with_head_group head group buds) ≡ groups_of_head k buds ++ group ∷ []) one added in
    let other = groups_other 2 head group buds (ap (λ (k : ℕ). k == 2) one) in
    let new : Numbered = numbered_group group in
    record {
      last = [] ∷ (new ∷ []) ∷ [] ∷ [];
      long = refl;
      lists =
          ap (λ (gs : List (List Carried)). [] ∷ map numbered_group gs ∷ map numbered_group (groups_of_head 2 (with_head_group head group buds)) ∷ []) mine
          ∙ ap (λ (gs : List Numbered). [] ∷ gs ∷ map numbered_group (groups_of_head 2 (with_head_group head group buds)) ∷ []) (map-append numbered_group (groups_of_head 1 buds) (group ∷ []))
          ∙ ap (λ (gs : List (List Carried)). [] ∷ (map numbered_group (groups_of_head 1 buds) ++ new ∷ []) ∷ map numbered_group gs ∷ []) other
          ∙ ap (λ (gs : List Numbered). [] ∷ (map numbered_group (groups_of_head 1 buds) ++ new ∷ []) ∷ gs ∷ []) (sym (append-nil (map numbered_group (groups_of_head 2 buds))));
      high = and_from (are_high mark (in_groups (new ∷ []))) true (high_one mark new (high_group mark mark new (omega arith) follow)) refl;
      alone = append-nil (new ++ []) ∙ append-nil new;
    }
put_last mark head group buds follow (inr two) added =
    let mine = subst (λ (k : ℕ). groups_of_head k (with_head_group head group buds) ≡ groups_of_head k buds ++ group ∷ []) two added in
    let other = groups_other 1 head group buds (ap (λ (k : ℕ). k == 1) two) in
    let new : Numbered = numbered_group group in
    record {
      last = [] ∷ [] ∷ (new ∷ []) ∷ [];
      long = refl;
      lists =
          ap (λ (gs : List (List Carried)). [] ∷ map numbered_group (groups_of_head 1 (with_head_group head group buds)) ∷ map numbered_group gs ∷ []) mine
          ∙ ap (λ (gs : List Numbered). [] ∷ map numbered_group (groups_of_head 1 (with_head_group head group buds)) ∷ gs ∷ []) (map-append numbered_group (groups_of_head 2 buds) (group ∷ []))
          ∙ ap (λ (gs : List (List Carried)). [] ∷ map numbered_group gs ∷ (map numbered_group (groups_of_head 2 buds) ++ new ∷ []) ∷ []) other
          ∙ ap (λ (gs : List Numbered). [] ∷ gs ∷ (map numbered_group (groups_of_head 2 buds) ++ new ∷ []) ∷ []) (sym (append-nil (map numbered_group (groups_of_head 1 buds))));
      high = and_from (are_high mark (in_groups (new ∷ []))) true (high_one mark new (high_group mark mark new (omega arith) follow)) refl;
      alone = append-nil (new ++ []) ∙ append-nil new;
    }

-- what a group makes of that to which all before lead
group_replayed : (m : Store) (part : Part) → IsLegalPart m part → AreNumbered m (faced_now m) → nameless (without_nameless m.now.tree) ≡ [] → groups_of_head part.head (with_head_group part.head part.group m.now.buds) ≡ groups_of_head part.head m.now.buds ++ part.group ∷ []
    → replayed (without_nameless m.now.tree) (in_heads (lists_of (with_head_group part.head part.group m.now.buds)))
    ≡ apply (replayed (without_nameless m.now.tree) (in_heads (lists_of m.now.buds))) (map as_replayed (changes_of part.group))
group_replayed m part is n named added =
    let committed : Tree = without_nameless m.now.tree in
    let group : Numbered = numbered_group part.group in
    let before : List (List Numbered) = lists_of m.now.buds in
    let it = put_last m.sqnum part.head part.group m.now.buds is.numbers is.head added in
    let parts = split committed m.sqnum before it.last it.long (low_heads m n) it.high named in
    ap (λ (z : List (List Numbered)). replayed committed (in_heads z)) it.lists ∙ parts ∙ ap (replayed (replayed committed (in_heads before))) it.alone
    ∙ ap (λ (z : Numbered). apply (replayed committed (in_heads before)) (map (λ c. as_replayed c.1) z)) (in_turn m.sqnum group is.numbers) ∙ ap (apply (replayed committed (in_heads before))) (numbered_replayed part.group)

pub in_order : (tree : Tree) → IsProper tree → IsInOrder tree
in_order tree p = record { inodes = p.inodes_ascend; blocks = p.blocks_ascend; entries = p.entries_ascend }

part_leads : (m : Store) (part : Part) → IsLegalPart m part → IsProper m.tree → AreRolesApart m → AreNumbered m (faced_now m) → JournalLeads m → JournalLeads (after_part m part)
part_leads m part is proper a n j = by (end_at m.ends part.head) refl is.fits
  where
    of : (at : At) → end_at m.ends part.head ≡ Some at → JournalLeads (after_part m part)
    of at e =
        let has = has_last m.now.buds part.head at.lnum (end_bud m.now.buds 0 part.head part.head m.ends at (omega arith) a.ends e) in
        record {
          named = j.named;
          leads = group_forgotten (changes_of part.group) m.tree (in_order m.tree proper) is.keeps.revives_none ∙ ap (λ (t : Tree). apply t (map as_replayed (changes_of part.group))) j.leads
              ∙ sym (group_replayed m part is n j.named (groups_added part.head part.group m.now.buds has));
        }

    by : (o : Option At) → end_at m.ends part.head ≡ o → FitHead m o (map (λ c. c.placed) part.group) → JournalLeads (after_part m part)
    by None e fits = absurd fits
    by (Some at) e fits = of at e

parts_leads : (parts : List Part) (m : Store) → AreLegalParts m parts → IsProper m.tree → AreRolesApart m → HasNumbers m → JournalLeads m → JournalLeads (fold after_part m parts)
parts_leads [] m are proper a n j = j
parts_leads (part ∷ parts) m are proper a n j =
    parts_leads parts (after_part m part) are.1 are.0.keeps.proper (part_apart m part are.0 a) (part_numbers m part are.0.head are.0.numbers n) (part_leads m part are.0 proper a n.both.0 j)

-- where the files, what was committed and the groups stay
pub same_leads : (m k : Store) → k.tree ≡ m.tree → k.now.tree ≡ m.now.tree → lists_of k.now.buds ≡ lists_of m.now.buds → JournalLeads m → JournalLeads k
same_leads m k tree committed lists j = record {
  named = ap (λ (t : Tree). nameless (without_nameless t)) committed ∙ j.named;
  leads = ap without_nameless tree ∙ j.leads ∙ sym (ap (λ (t : Tree). replayed (without_nameless t) (in_heads (lists_of k.now.buds))) committed ∙ ap (λ (z : List (List Numbered)). replayed (without_nameless m.now.tree) (in_heads z)) lists);
}

pub put_leads : (m : Store) (p : Putting) → AreLegalParts m p.parts → IsProper m.tree → AreRolesApart m → HasNumbers m → JournalLeads m → JournalLeads (put p m)
put_leads m p are proper a n j = by p.payment (parts_leads p.parts m are proper a n j)
  where
    end : Store
    end = fold after_part m p.parts

    by : (payment : Payment) → JournalLeads end → JournalLeads (record (paid payment end) { index = p.index })
    by credit j = same_leads end (record (paid credit end) { index = p.index }) refl refl refl j
    by granted j = same_leads end (record (paid granted end) { index = p.index }) refl refl refl j

-- ---- an inode without a name goes
-- an inode that is listed as nameless has no name
pub listed_nameless : (inodes : Inodes) (ino : ℕ) → ascends nat_cmp (keys_of inodes) ≡ true → list_any (λ k. k == ino) (keys_of (filter (λ e. e.1.nlink == 0) inodes)) ≡ true
    → option_map_or (λ inode. inode.nlink == 0) (lookup (is_at (nat_cmp ino)) inodes) false ≡ true
listed_nameless [] ino up h = absurd (false≢true h)
listed_nameless (e ∷ inodes) ino up h = by (λ more. listed_nameless inodes ino (tail_ascends nat_cmp inodes e up) more) (is_at (nat_cmp ino) e.0) refl (e.1.nlink == 0) refl h
  where
    Later : Type 0
    Later = list_any (λ k. k == ino) (keys_of (filter (λ x. x.1.nlink == 0) inodes)) ≡ true → option_map_or (λ inode. inode.nlink == 0) (lookup (is_at (nat_cmp ino)) inodes) false ≡ true

    clash : is_at (nat_cmp ino) e.0 ≡ true → option_map_or (λ inode. inode.nlink == 0) (lookup (is_at (nat_cmp ino)) inodes) false ≡ true → ⊥
    clash here found = elim (key_cases nat_cmp numbers ino e.0) [
      | inl same ↦
          let none = subst (λ (n : ℕ). lookup (is_at (nat_cmp n)) inodes ≡ None) (sym same) (missing_first nat_cmp numbers inodes e up) in
          false≢true (sym (ap (λ (o : Option Inode). option_map_or (λ inode. inode.nlink == 0) o false) none) ∙ found)
      | inr other ↦ false≢true (sym (apart nat_cmp numbers ino e.0 other) ∙ here)
    ]

    of : Later → is_at (nat_cmp ino) e.0 ≡ false → ((e.0 == ino) ≡ true) ⊎ (list_any (λ k. k == ino) (keys_of (filter (λ x. x.1.nlink == 0) inodes)) ≡ true) → option_map_or (λ inode. inode.nlink == 0) (lookup (is_at (nat_cmp ino)) inodes) false ≡ true
    of later at (inl same) =
        let self : is_at (nat_cmp e.0) e.0 ≡ true = rw (numbers.same e.0) refl in
        absurd (false≢true (sym at ∙ subst (λ (n : ℕ). is_at (nat_cmp n) e.0 ≡ true) (eqb-true e.0 ino same) self))
    of later at (inr more) = later more

    by : Later → (b : Bool) → is_at (nat_cmp ino) e.0 ≡ b → (z : Bool) → (e.1.nlink == 0) ≡ z → list_any (λ k. k == ino) (keys_of (cond z (e ∷ filter (λ x. x.1.nlink == 0) inodes) (filter (λ x. x.1.nlink == 0) inodes))) ≡ true
        → option_map_or (λ inode. inode.nlink == 0) (cond b (Some e.1) (lookup (is_at (nat_cmp ino)) inodes)) false ≡ true
    by later true at true zero h = zero
    by later true at false zero h = absurd (clash at (later h))
    by later false at true zero h = of later at (either_of (e.0 == ino) (list_any (λ k. k == ino) (keys_of (filter (λ x. x.1.nlink == 0) inodes))) h)
    by later false at false zero h = later h

orphan_listed : (ino : ℕ) (orphans : List Orphan) → list_any (λ orphan. orphan.ino == ino) orphans ≡ list_any (λ k. k == ino) (map (λ orphan. orphan.ino) orphans)
orphan_listed ino [] = refl
orphan_listed ino (orphan ∷ orphans) = ap (λ (b : Bool). (orphan.ino == ino) || b) (orphan_listed ino orphans)

-- an open inode that is told as without a name has none
pub orphan_nameless : (m : Store) (ino : ℕ) → is_orphan m ino ≡ true → map (λ orphan. orphan.ino) m.orphans ≡ nameless m.tree → IsProper m.tree → is_nameless m.tree ino ≡ true
orphan_nameless m ino orphan are proper =
    let listed = sym (ap (λ (ns : List ℕ). list_any (λ k. k == ino) ns) are) ∙ sym (orphan_listed ino m.orphans) ∙ orphan in
    listed_nameless m.tree.inodes ino proper.inodes_ascend listed

pub drop_leads : (m : Store) (ino : ℕ) (index : StoreIndex) → is_orphan m ino ≡ true → map (λ orphan. orphan.ino) m.orphans ≡ nameless m.tree → IsProper m.tree → JournalLeads m → JournalLeads (drop_inode ino index m)
drop_leads m ino index orphan are proper j = record { named = j.named; leads = dropped_forgotten m.tree ino (in_order m.tree proper) (orphan_nameless m ino orphan are proper) ∙ j.leads }

-- ---- a commit's end
joined_lists : (before : List (List Numbered)) (heads : List Head) → head_groups (joined before heads) ≡ both before (head_groups heads)
joined_lists [] heads = refl
joined_lists (groups ∷ before) [] = refl
joined_lists (groups ∷ before) (head ∷ heads) = ap (λ (rest : List (List Numbered)). (groups ++ head.groups) ∷ rest) (joined_lists before heads)

high_lists : (mark : ℕ) (heads : List Head) → AreHigh mark heads → AreHigh mark (fulls (head_groups heads))
high_lists mark [] h = refl
high_lists mark (head ∷ heads) h =
    let p = and_parts (are_high mark (in_groups head.groups)) (list_all (λ (head : Head). are_high mark (in_groups head.groups)) heads) h in
    and_from (are_high mark (in_groups head.groups)) (list_all (λ (head : Head). are_high mark (in_groups head.groups)) (fulls (head_groups heads))) p.0 (high_lists mark heads p.1)

list_length : (heads : List Head) → length (head_groups heads) ≡ length heads
list_length [] = refl
list_length (head ∷ heads) = ap (λ n. suc n) (list_length heads)

ended_leads : (m : Store) (next : Next) → IsCommitBegun m next → JournalLeads m → JournalLeads (end_commit m (Some next))
ended_leads m next b j =
    let committed : Tree = without_nameless m.now.tree in
    let since : List Head = heads_of next.view.buds (synced_since m next) in
    let lists : lists_of m.now.buds ≡ both b.before (head_groups since) = ap head_groups b.heads ∙ joined_lists b.before since in
    let parts = split committed b.mark b.before (head_groups since) (list_length since ∙ b.parted.long) b.parted.low (high_lists b.mark since b.parted.high) j.named in
    record {
      named = ap nameless b.began ∙ replayed_named committed (in_heads b.before) j.named;
      leads = j.leads ∙ ap (λ (z : List (List Numbered)). replayed committed (in_heads z)) lists ∙ parts ∙ ap (λ (t : Tree). replayed t (in_heads (head_groups since))) (sym b.began);
    }

pub end_leads : (m : Store) (next : Option Next) → m.next ≡ next → HasBegun m m.next → JournalLeads m → JournalLeads (end_commit m next)
end_leads m None e b j = j
end_leads m (Some next) e b j = ended_leads m next (subst (λ (o : Option Next). HasBegun m o) e b) j
