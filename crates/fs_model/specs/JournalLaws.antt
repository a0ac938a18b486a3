-- What follows from the clauses on a journal over several calls.
use Rattle.std.proofs.Common.{◌≡◌, ℕ, zero, suc, ◌+◌, ◌≤◌, ◌⊎◌, inl, inr, Bool, true, false, cond, not, ◌&&◌, List, [], ◌∷◌, ◌++◌, length, take, map, refl, sym, ap, subst, ◌∙◌, arith, append_assoc, append-nil}
use Rattle.std.specs.Prelude.{◌==◌, IsTrue, nat_lt, nat_le, Some, None, Err, filter, fold, is_some}
use Rattle.std.specs.declared.cmp.Ordering.{Ordering}
use Rattle.std.specs.declared.cmp.Ordering.TheVariants.{Less, Equal, Greater}
use Rattle.std.specs.List.{list_all, flat_map}
use Rattle.std.specs.Ordering.{nat_cmp, match_ordering}
use Rattle.std.specs.BTreeMap.{insert_entry, is_at}
use Rattle.std.specs.Map.{remove_entry, keys_of}
use Rattle.std.proofs.lemmas.Bool.{and_parts, and_from, ltb-true, lt-ltb, le-ltb, ltb-false, leb-true, le-leb}
use Rattle.std.proofs.lemmas.List.{take_all}
use Rattle.fs_model.specs.declared.change.Change.{Change}
use Rattle.fs_model.specs.declared.change.Change.TheVariants.{SetInode, SetEntry, DropEntry, SetBlock, CutBlocks, DropInode}
use Rattle.fs_model.specs.declared.inode.Inode.{Inode}
use Rattle.fs_model.specs.Change.{apply, applied, changed, without_inode}
use Rattle.fs_model.specs.Files.{Tree, Inodes, inode_at, with_block}
use Rattle.fs_model.specs.Journal.{Journal, Medium, Leaves, MightLeave, MayLeave, AreSynced, IsJournalOf}
use Rattle.fs_model.specs.Orphan.{nameless, without_nameless}
use Rattle.fs_model.specs.Recovery.{Numbered, Head, IsRecovered, KeepsSynced, taken, by_number, as_replayed, recovered}
use Rattle.fs_model.specs.RecoveryLaws.{replayed, in_groups, in_heads, are_low, joined, all_counts, IsParted, WouldLeave, left_of_later}

-- one call after another: what both put stands last
pub Leaves-then : (a b c : Journal) (first second : List (ℕ × List Change)) → Leaves a b first → Leaves b c second → Leaves a c (first ++ second)
Leaves-then a b c first second ab bc more tree left =
    let P : List (ℕ × List Change) → Type 0 = λ puts. MightLeave a puts tree in
    subst P (sym (append_assoc first second more)) (ab (second ++ more) tree (bc more tree left))

-- no call at all puts nothing
pub Leaves-none : (a : Journal) → Leaves a a []
Leaves-none a more tree left = left

-- what a cut leaves after a call
pub Leaves-now : (a b : Journal) (puts : List (ℕ × List Change)) → Leaves a b puts → (tree : Tree) → MayLeave b tree → MightLeave a puts tree
Leaves-now a b puts ab tree left =
    let P : List (ℕ × List Change) → Type 0 = λ all. MightLeave a all tree in
    subst P (append-nil puts) (ab [] tree left)

-- a head that has got nothing
abbrev pub no_groups : Head
no_groups = record { groups = []; synced = 0 }

-- as many heads, which have got nothing
abbrev pub emptied : List Head → List Head
emptied heads = map (λ head. no_groups) heads

-- what each head got
abbrev pub groups_of : List Head → List (List Numbered)
groups_of heads = map (λ head. head.groups) heads

-- whether each of these inodes has a name
abbrev pub are_named : Inodes → Bool
are_named inodes = list_all (λ e. not (e.1.nlink == 0)) inodes

named_from : (inodes : Inodes) → keys_of (filter (λ e. e.1.nlink == 0) inodes) ≡ [] → are_named inodes ≡ true
named_from [] h = refl
named_from (e ∷ inodes) h = by (e.1.nlink == 0) h (named_from inodes)
  where
    by : (b : Bool) → keys_of (cond b (e ∷ filter (λ e. e.1.nlink == 0) inodes) (filter (λ e. e.1.nlink == 0) inodes)) ≡ [] → (keys_of (filter (λ e. e.1.nlink == 0) inodes) ≡ [] → are_named inodes ≡ true) → (not b && are_named inodes) ≡ true
    by true h more = absurd cc
    by false h more = more h

none_from : (inodes : Inodes) → are_named inodes ≡ true → keys_of (filter (λ e. e.1.nlink == 0) inodes) ≡ []
none_from [] h = refl
none_from (e ∷ inodes) h = by (e.1.nlink == 0) h (none_from inodes)
  where
    by : (b : Bool) → (not b && are_named inodes) ≡ true → (are_named inodes ≡ true → keys_of (filter (λ e. e.1.nlink == 0) inodes) ≡ []) → keys_of (cond b (e ∷ filter (λ e. e.1.nlink == 0) inodes) (filter (λ e. e.1.nlink == 0) inodes)) ≡ []
    by true h more = absurd cc
    by false h more = more h

named_with : (inodes : Inodes) (ino : ℕ) (inode : Inode) → not (inode.nlink == 0) ≡ true → are_named inodes ≡ true → are_named (insert_entry nat_cmp inodes ino inode) ≡ true
named_with [] ino inode one h = and_from (not (inode.nlink == 0)) true one refl
named_with (e ∷ inodes) ino inode one h = by (and_parts (not (e.1.nlink == 0)) (are_named inodes) h) (named_with inodes ino inode one) (nat_cmp ino e.0)
  where
    by : (not (e.1.nlink == 0) ≡ true) × (are_named inodes ≡ true) → (are_named inodes ≡ true → are_named (insert_entry nat_cmp inodes ino inode) ≡ true) → (o : Ordering)
        → are_named (match_ordering o ((ino, inode) ∷ e ∷ inodes) ((e.0, inode) ∷ inodes) (e ∷ insert_entry nat_cmp inodes ino inode)) ≡ true
    by parts more Less = and_from (not (inode.nlink == 0)) (are_named (e ∷ inodes)) one h
    by parts more Equal = and_from (not (inode.nlink == 0)) (are_named inodes) one parts.1
    by parts more Greater = and_from (not (e.1.nlink == 0)) (are_named (insert_entry nat_cmp inodes ino inode)) parts.0 (more parts.1)

named_without : (gone : ℕ → Bool) (inodes : Inodes) → are_named inodes ≡ true → are_named (remove_entry gone inodes) ≡ true
named_without gone [] h = refl
named_without gone (e ∷ inodes) h =
    let parts = and_parts (not (e.1.nlink == 0)) (are_named inodes) h in
    by (gone e.0) parts.1 (and_from (not (e.1.nlink == 0)) (are_named (remove_entry gone inodes)) parts.0 (named_without gone inodes parts.1))
  where
    by : (b : Bool) → are_named inodes ≡ true → are_named (e ∷ remove_entry gone inodes) ≡ true → are_named (cond b inodes (e ∷ remove_entry gone inodes)) ≡ true
    by true x y = x
    by false x y = y

-- what is replayed leaves no inode without a name
named_after : (tree : Tree) (change : Change) → are_named tree.inodes ≡ true → are_named (applied tree (as_replayed change)).inodes ≡ true
named_after tree (SetInode ino inode) h = by (inode.nlink == 0) refl
  where
    by : (b : Bool) → (inode.nlink == 0) ≡ b → are_named (applied tree (cond b (DropInode ino) (SetInode ino inode))).inodes ≡ true
    by true z = named_without (is_at (nat_cmp ino)) tree.inodes h
    by false z = named_with tree.inodes ino inode (rw z refl) h
named_after tree (SetEntry entry) h = h
named_after tree (DropEntry dir name) h = h
named_after tree (SetBlock ino block bytes) h = by (is_some (inode_at tree ino))
  where
    by : (b : Bool) → are_named (cond b (record tree { blocks = with_block tree.blocks ino block bytes }) tree).inodes ≡ true
    by true = h
    by false = h
named_after tree (CutBlocks ino old_size new_size) h = h
named_after tree (DropInode ino) h = named_without (is_at (nat_cmp ino)) tree.inodes h

named_all : (changes : Numbered) (tree : Tree) → are_named tree.inodes ≡ true → are_named (apply tree (map (λ c. as_replayed c.1) changes)).inodes ≡ true
named_all [] tree h = h
named_all (c ∷ changes) tree h = named_all changes (applied tree (as_replayed c.1)) (named_after tree c.1 h)

without_none : (tree : Tree) → nameless tree ≡ [] → without_nameless tree ≡ tree
without_none tree h = ap (λ gone. fold without_inode tree gone) h

-- what comes of changes on a tree without nameless inodes has none
pub replayed_named : (committed : Tree) (changes : Numbered) → nameless committed ≡ [] → nameless (replayed committed changes) ≡ []
replayed_named committed changes h = none_from (replayed committed changes).inodes (named_all (by_number changes) committed (named_from committed.inodes h))

pub recovered_replayed : (committed : Tree) (changes : Numbered) → nameless committed ≡ [] → recovered committed changes ≡ replayed committed changes
recovered_replayed committed changes h = without_none (replayed committed changes) (replayed_named committed changes h)

-- no more is synced than there is
abbrev pub AreWithin : List Head → Type 0
AreWithin heads = list_all (λ head. nat_le head.synced (length head.groups)) heads ≡ true

-- where all is synced a cut leaves all
all_kept : (heads : List Head) (counts : List ℕ) → list_all (λ head. not (nat_lt head.synced (length head.groups))) heads ≡ true → KeepsSynced heads counts → counts ≡ all_counts heads
all_kept [] [] s k = refl
all_kept [] (count ∷ counts) s k = absurd k
all_kept (head ∷ heads) [] s k = absurd k
all_kept (head ∷ heads) (count ∷ counts) s k =
    let p = and_parts (not (nat_lt head.synced (length head.groups))) (list_all (λ head. not (nat_lt head.synced (length head.groups))) heads) s in
    let most = not_below head.synced (length head.groups) p.0 in
    let low = k.0 in
    let high = k.1 in
    ap (λ (n : ℕ). n ∷ counts) (omega (arith, most, low, high)) ∙ ap (λ (rest : List ℕ). length head.groups ∷ rest) (all_kept heads counts p.1 k.2)
  where
    not_below : (a b : ℕ) → not (nat_lt a b) ≡ true → b ≤ a
    not_below a b h = by (nat_lt a b) refl h
      where
        by : (c : Bool) → nat_lt a b ≡ c → not c ≡ true → b ≤ a
        by true e t = absurd cc
        by false e t = ltb-false a b e

taken_all : (heads : List Head) → taken heads (all_counts heads) ≡ in_heads (groups_of heads)
taken_all [] = refl
taken_all (head ∷ heads) =
    ap (λ groups. in_groups groups ++ taken heads (all_counts heads)) (take_all (length head.groups) head.groups (omega arith))
    ∙ ap (λ rest. in_groups head.groups ++ rest) (taken_all heads)

-- A cut leaves what all groups make, where all are synced.
pub left_of_synced : (committed : Tree) (heads : List Head) (tree : Tree) → list_all (λ head. not (nat_lt head.synced (length head.groups))) heads ≡ true → nameless committed ≡ [] → IsRecovered committed heads tree
    → tree ≡ replayed committed (in_heads (groups_of heads))
left_of_synced committed heads tree synced named is =
    is.tree_is ∙ ap (λ counts. recovered committed (taken heads counts)) (all_kept heads is.counts synced is.synced)
    ∙ ap (recovered committed) (taken_all heads) ∙ recovered_replayed committed (in_heads (groups_of heads)) named

-- after a sync a cut leaves the tree, but for what has no name
pub Synced-leaves : (tree : Tree) (medium : Medium) → IsJournalOf tree medium → AreSynced medium.heads → (left : Tree) → IsRecovered medium.committed medium.heads left → left ≡ without_nameless tree
Synced-leaves tree medium is synced left may =
    left_of_synced medium.committed medium.heads left synced is.named may ∙ sym (left_of_synced medium.committed medium.heads (without_nameless tree) synced is.named is.left)

pub all_joined : (heads : List Head) → AreWithin heads → list_all (λ head. not (nat_lt head.synced (length head.groups))) heads ≡ true → heads ≡ joined (groups_of heads) (emptied heads)
all_joined [] w s = refl
all_joined (head ∷ heads) w s =
    let p = and_parts (nat_le head.synced (length head.groups)) (list_all (λ head. nat_le head.synced (length head.groups)) heads) w in
    let q = and_parts (not (nat_lt head.synced (length head.groups))) (list_all (λ head. not (nat_lt head.synced (length head.groups))) heads) s in
    let most = leb-true head.synced (length head.groups) p.0 in
    let all = (all_kept (head ∷ []) (head.synced ∷ []) (and_from (not (nat_lt head.synced (length head.groups))) true q.0 refl) (omega arith, most, tt)) in
    let e : head.synced ≡ length head.groups = cc in
    let f : head.synced ≡ length head.groups + 0 = omega (arith, e) in
    ap (λ (n : ℕ). record { groups = head.groups; synced = n } ∷ heads) f
    ∙ ap (λ groups. record { groups = groups; synced = length head.groups + 0 } ∷ heads) (sym (append-nil head.groups))
    ∙ ap (λ rest. record { groups = head.groups ++ []; synced = length head.groups + 0 } ∷ rest) (all_joined heads p.1 q.1)

emptied_high : (mark : ℕ) (heads : List Head) → list_all (λ (head : Head). list_all (λ (c : ℕ × Change). nat_lt mark c.0) (in_groups head.groups)) (emptied heads) ≡ true
emptied_high mark [] = refl
emptied_high mark (head ∷ heads) = emptied_high mark heads

emptied_long : (heads : List Head) → length (emptied heads) ≡ length (groups_of heads)
emptied_long [] = refl
emptied_long (head ∷ heads) = ap (λ n. suc n) (emptied_long heads)

low_groups : (mark : ℕ) (heads : List Head) → list_all (λ head. are_low mark (in_groups head.groups)) heads ≡ true → list_all (λ groups. are_low mark (in_groups groups)) (groups_of heads) ≡ true
low_groups mark [] h = refl
low_groups mark (head ∷ heads) h =
    let p = and_parts (are_low mark (in_groups head.groups)) (list_all (λ head. are_low mark (in_groups head.groups)) heads) h in
    and_from (are_low mark (in_groups head.groups)) (list_all (λ groups. are_low mark (in_groups groups)) (groups_of heads)) p.0 (low_groups mark heads p.1)

pub is_emptied : (mark : ℕ) (heads : List Head) → list_all (λ head. are_low mark (in_groups head.groups)) heads ≡ true → IsParted mark mark (groups_of heads) (emptied heads)
is_emptied mark heads h = record { long = emptied_long heads; low = low_groups mark heads h; high = emptied_high mark heads; above = omega arith }

-- After a sync, whatever is put: a cut leaves what was synced, with first groups of each head of what was put since.
pub Synced-stays : (tree : Tree) (medium : Medium) (puts : List (ℕ × List Change)) (left : Tree) → IsJournalOf tree medium → AreSynced medium.heads → WouldLeave medium.committed medium.sqnum medium.heads puts left
    → WouldLeave (without_nameless tree) medium.sqnum (emptied medium.heads) puts left
Synced-stays tree medium puts left is synced would =
    let heads = medium.heads in
    let whole = all_joined heads is.synced synced in
    let of_all = subst (λ z. WouldLeave medium.committed medium.sqnum z puts left) whole would in
    let later = left_of_later medium.committed medium.sqnum medium.sqnum (groups_of heads) (emptied heads) puts left (is_emptied medium.sqnum heads is.given) of_all in
    subst (λ z. WouldLeave z medium.sqnum (emptied heads) puts left) (sym (left_of_synced medium.committed heads (without_nameless tree) synced is.named is.left)) later
