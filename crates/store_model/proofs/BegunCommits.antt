-- A cut after a commit's end leaves no more than before it: what came since stands on the tree on which the commit began, and that is what came before.
use Rattle.std.proofs.Common.{◌≡◌, ◌+◌, ◌-◌, ◌∙◌, ℕ, arith, true, List, [], ◌∷◌, ◌++◌, length, map, refl, sym, ap, subst, Option, Some, None}
use Rattle.std.specs.Prelude.{false, get_or, nat_le, nat_lt, not}
use Rattle.std.specs.List.{flat_map, list_all}
use Rattle.std.proofs.lemmas.Bool.{and_parts, le-leb}
use Rattle.fs_model.specs.declared.change.Change.{Change}
use Rattle.fs_model.specs.Files.{Tree}
use Rattle.fs_model.specs.Journal.{Leaves}
use Rattle.fs_model.specs.JournalLaws.{all_joined, emptied, groups_of as head_groups, is_emptied, no_groups as empty_head}
use Rattle.fs_model.specs.Orphan.{without_nameless}
use Rattle.fs_model.specs.Recovery.{Head, IsRecovered, Numbered}
use Rattle.fs_model.specs.RecoveryLaws.{in_groups, in_heads, IsParted, joined, left_of_all, replayed, WouldLeave}
use Rattle.store_model.specs.Backing.{store_journal_of}
use Rattle.store_model.specs.Begun.{HasBegun, IsCommitBegun, JournalLeads}
use Rattle.store_model.specs.Events.{end_commit, next_list, open_buds, start, view_now}
use Rattle.store_model.specs.Heads.{head_counts, groups_of_head, heads_of, numbered_group, synced_since}
use Rattle.store_model.specs.Invariant.{AreNumbered, are_given}
use Rattle.store_model.specs.Legal.{CanStart}
use Rattle.store_model.specs.Fits.{faced_now}
use Rattle.store_model.specs.Store.{Bud, Carried, Next, Store}
use Rattle.store_model.proofs.BackingCalls.{heads_synced, length_map, same_further}
use Rattle.store_model.proofs.BackingStarts.{no_groups}
use Rattle.store_model.proofs.BegunEvents.{head_with, plain_head, since_is}
use Rattle.store_model.proofs.Further.{further_left}

-- ---- a commit's end
pub ended_leaves : (m : Store) (next : Next) → m.next ≡ Some next → IsCommitBegun m next → Leaves (store_journal_of m) (store_journal_of (end_commit m (Some next))) []
ended_leaves m next e b more tree left =
    let since : List Head = heads_of next.view.buds (synced_since m next) in
    let began : Tree = without_nameless next.view.tree in
    let committed : Tree = without_nameless m.now.tree in
    let lower = further_left began m.sqnum (m.sqnum + 1) since since more tree (omega arith) (same_further next.view.buds (synced_since m next)) left in
    let would : WouldLeave (replayed committed (in_heads b.before)) m.sqnum since more tree =
    record { after = lower.0; put = lower.1; is = subst (λ (t : Tree). IsRecovered t lower.0 tree) b.began lower.2 } in
    let all = subst (λ (heads : List Head). WouldLeave committed m.sqnum heads more tree) (sym b.heads) (left_of_all committed b.mark m.sqnum b.before since more tree b.parted would) in
    (all.after, all.put, all.is)

-- ---- a commit's start
numbers_joined : (groups : List (List Carried)) → in_groups (map numbered_group groups) ≡ flat_map numbered_group groups
numbers_joined [] = refl
numbers_joined (group ∷ groups) = ap (λ (ns : Numbered). numbered_group group ++ ns) (numbers_joined groups)

pub low_head : (n : ℕ) (groups : List (List Carried)) → are_given n (flat_map numbered_group groups) ≡ true → list_all (λ (c : ℕ × Change). nat_le c.0 n) (in_groups (map numbered_group groups)) ≡ true
low_head n groups h = ap (list_all (λ (c : ℕ × Change). nat_le c.0 n)) (numbers_joined groups) ∙ (and_parts _ (list_all (λ c. nat_le c.0 n) (flat_map numbered_group groups)) h).1

-- no group is above the number given last
pub low_heads : (m : Store) → AreNumbered m (faced_now m) → list_all (λ (head : Head). list_all (λ (c : ℕ × Change). nat_le c.0 m.sqnum) (in_groups head.groups)) (heads_of m.now.buds m.synced) ≡ true
low_heads m n =
    let one = low_head m.sqnum (groups_of_head 1 m.now.buds) n.base in
    let two = low_head m.sqnum (groups_of_head 2 m.now.buds) n.data_nodes in
    rw (one, two) refl

-- a head that has got nothing since
none_head : (all last : List (List Carried)) (n : ℕ) → last ≡ [] → n ≡ length all → head_with last n all ≡ empty_head
none_head all last n none count =
    let zero : n - (length all - 0) ≡ 0 = omega (arith, count) in
    subst (λ (l : List (List Carried)). head_with l n all ≡ empty_head) (sym none) (ap (plain_head []) zero)

abbrev pub next_started : Store → List ℕ → Next
next_started m taken = record { view = view_now m taken; taken = taken; written = 0; listed = next_list m; offered = false }

-- the heads of a new section have got nothing
pub none_since : (m : Store) (taken : List ℕ) → m.synced ≡ head_counts m.now.buds → heads_of (open_buds 0 m.ends) (synced_since (start taken m) (next_started m taken)) ≡ empty_head ∷ empty_head ∷ empty_head ∷ []
none_since m taken synced =
    let one = none_head (groups_of_head 1 m.now.buds) (groups_of_head 1 (open_buds 0 m.ends)) (get_or m.synced 1 0) (no_groups 1 0 m.ends) (ap (λ (counts : List ℕ). get_or counts 1 0) synced) in
    let two = none_head (groups_of_head 2 m.now.buds) (groups_of_head 2 (open_buds 0 m.ends)) (get_or m.synced 2 0) (no_groups 2 0 m.ends) (ap (λ (counts : List ℕ). get_or counts 2 0) synced) in
    since_is (start taken m) (next_started m taken)
    ∙ ap (λ (x : Head). empty_head ∷ x ∷ head_with (groups_of_head 2 (open_buds 0 m.ends)) (get_or m.synced 2 0) (groups_of_head 2 m.now.buds) ∷ []) one ∙ ap (λ (x : Head). empty_head ∷ empty_head ∷ x ∷ []) two

all_within : (buds : List Bud) → list_all (λ (head : Head). nat_le head.synced (length head.groups)) (heads_of buds (head_counts buds)) ≡ true
all_within buds =
    let one = le-leb (length (groups_of_head 1 buds)) (length (map numbered_group (groups_of_head 1 buds))) (let same = length_map numbered_group (groups_of_head 1 buds) in omega (arith, same)) in
    let two = le-leb (length (groups_of_head 2 buds)) (length (map numbered_group (groups_of_head 2 buds))) (let same = length_map numbered_group (groups_of_head 2 buds) in omega (arith, same)) in
    rw (one, two) refl

pub start_begun : (m : Store) (taken : List ℕ) → CanStart m taken → AreNumbered m (faced_now m) → JournalLeads m → IsCommitBegun (start taken m) (next_started m taken)
start_begun m taken can n leads =
    let heads : List Head = heads_of m.now.buds m.synced in
    let next : Next = next_started m taken in
    let since : List Head = heads_of next.view.buds (synced_since (start taken m) next) in
    let none : since ≡ emptied heads = none_since m taken can.synced.counts in
    let within = subst (λ (synced : List ℕ). list_all (λ (head : Head). nat_le head.synced (length head.groups)) (heads_of m.now.buds synced) ≡ true) (sym can.synced.counts) (all_within m.now.buds) in
    let synced = subst (λ (synced : List ℕ). list_all (λ (head : Head). not (nat_lt head.synced (length head.groups))) (heads_of m.now.buds synced) ≡ true) (sym can.synced.counts) (heads_synced m.now.buds) in
    let parted = is_emptied m.sqnum heads (low_heads m n) in
    record {
      before = head_groups heads;
      mark = m.sqnum;
      heads = all_joined heads within synced ∙ ap (joined (head_groups heads)) (sym none);
      parted = subst (IsParted m.sqnum (start taken m).sqnum (head_groups heads)) (sym none) (record { long = parted.long; low = parted.low; high = parted.high; above = omega arith });
      began = leads.leads;
    }

-- ---- after its end no commit runs
pub end_begun : (m : Store) (next : Option Next) → HasBegun m m.next → HasBegun (end_commit m next) (end_commit m next).next
end_begun m None b = b
end_begun m (Some next) b = tt

pub end_leaves : (m : Store) → HasBegun m m.next → Leaves (store_journal_of m) (store_journal_of (end_commit m m.next)) []
end_leaves m b = by m.next refl b
  where
    by : (next : Option Next) → m.next ≡ next → HasBegun m next → Leaves (store_journal_of m) (store_journal_of (end_commit m next)) []
    by None e b = λ more tree left. left
    by (Some next) e b = ended_leaves m next e b
