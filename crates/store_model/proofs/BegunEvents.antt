-- What a running commit began on stays, whatever is put, opened, synced, copied or dropped while it runs.
use Rattle.std.proofs.Common.{◌≡◌, ◌⊎◌, ◌≤◌, ◌+◌, ◌-◌, ◌∙◌, ℕ, arith, true, List, [], ◌∷◌, ◌++◌, length, length-append, map, refl, sym, ap, subst, inl, inr, leb-true, lt-ltb, Option, Some, None}
use Rattle.std.specs.Prelude.{◌==◌, fold, get_or, nat_lt}
use Rattle.std.specs.Option.{option_map}
use Rattle.std.proofs.lemmas.Bool.{and_from}
use Rattle.std.proofs.lemmas.List.{map-append}
use Rattle.fs_model.specs.Journal.{with_group_at}
use Rattle.fs_model.specs.Orphan.{without_nameless}
use Rattle.fs_model.specs.Recovery.{Head, Numbered}
use Rattle.fs_model.specs.RecoveryLaws.{are_high, high_with, in_heads, IsParted, joined, joined_with, long_with, replayed}
use Rattle.store_model.specs.Begun.{HasBegun, IsCommitBegun}
use Rattle.store_model.specs.Events.{after_part, begin, Copying, credit, drop_inode, end_at, free_victim, granted, in_next, move, new_bud, offer, offered, open_leb, paid, Part, Payment, put, Putting, sync, write_index}
use Rattle.store_model.specs.Heads.{head_counts, groups_of_head, has_bud, heads_of, less, numbered_group, synced_since, with_copy, with_head_group}
use Rattle.store_model.specs.Invariant.{AreRolesApart, HasSince, IsSince}
use Rattle.store_model.specs.Legal.{AreConsecutive, AreLegalParts, FitHead, IsLegalPart}
use Rattle.store_model.specs.Store.{At, Bud, Carried, StoreIndex, Moving, Next, Store, View}
use Rattle.store_model.proofs.Apart.{groups_other}
use Rattle.store_model.proofs.BackingCalls.{heads_open, length_map}
use Rattle.store_model.proofs.BackingPuts.{groups_added, has_last, heads_put}
use Rattle.store_model.proofs.EventNumbers.{groups_copied}
use Rattle.store_model.proofs.LebPuts.{end_bud, part_apart}
use Rattle.store_model.proofs.Numbers.{consecutive_next, no_less}
use Rattle.store_model.proofs.Opens.{groups_open}
use Rattle.store_model.proofs.Since.{part_since}

-- ---- the heads since a commit began

pub one_less : (xs : List ℕ) (a b c : ℕ) → get_or (less xs (a ∷ b ∷ c ∷ [])) 1 0 ≡ get_or xs 1 0 - b
one_less [] a b c = omega arith
one_less (x ∷ []) a b c = omega arith
one_less (x ∷ y ∷ xs) a b c = refl

pub two_less : (xs : List ℕ) (a b c : ℕ) → get_or (less xs (a ∷ b ∷ c ∷ [])) 2 0 ≡ get_or xs 2 0 - c
two_less [] a b c = omega arith
two_less (x ∷ []) a b c = omega arith
two_less (x ∷ y ∷ []) a b c = omega arith
two_less (x ∷ y ∷ z ∷ xs) a b c = refl

-- a head with these groups, of which so many are synced
abbrev pub plain_head : List Numbered → ℕ → Head
plain_head groups synced = record { groups = groups; synced = synced }

-- so many less those before
abbrev pub head_with : List (List Carried) → ℕ → List (List Carried) → Head
head_with groups synced all = record { groups = map numbered_group groups; synced = synced - (length all - length groups) }

abbrev pub since_heads : List ℕ → List Bud → List Bud → List Head
since_heads synced all last =
    (record { groups = []; synced = 0 }) ∷ head_with (groups_of_head 1 last) (get_or synced 1 0) (groups_of_head 1 all) ∷ head_with (groups_of_head 2 last) (get_or synced 2 0) (groups_of_head 2 all) ∷ []

pub since_is : (m : Store) (next : Next) → heads_of next.view.buds (synced_since m next) ≡ since_heads m.synced m.now.buds next.view.buds
since_is m next =
    let gone : List ℕ = less (head_counts m.now.buds) (head_counts next.view.buds) in
    ap (λ (n : ℕ). (record { groups = []; synced = 0 }) ∷ (record { groups = map numbered_group (groups_of_head 1 next.view.buds); synced = n }) ∷ (record { groups = map numbered_group (groups_of_head 2 next.view.buds); synced = get_or (less m.synced gone) 2 0 }) ∷ [])
    (one_less m.synced _ _ _)
    ∙ ap (λ (n : ℕ). (record { groups = []; synced = 0 }) ∷ head_with (groups_of_head 1 next.view.buds) (get_or m.synced 1 0) (groups_of_head 1 m.now.buds) ∷ (record { groups = map numbered_group (groups_of_head 2 next.view.buds); synced = n }) ∷ [])
    (two_less m.synced _ _ _)

pub same_since : (a b : Store) (next after : Next) → a.synced ≡ b.synced → groups_of_head 1 a.now.buds ≡ groups_of_head 1 b.now.buds → groups_of_head 2 a.now.buds ≡ groups_of_head 2 b.now.buds
    → groups_of_head 1 after.view.buds ≡ groups_of_head 1 next.view.buds → groups_of_head 2 after.view.buds ≡ groups_of_head 2 next.view.buds
    → heads_of after.view.buds (synced_since a after) ≡ heads_of next.view.buds (synced_since b next)
same_since a b next after synced one two one_next two_next = since_is a after ∙ rw (synced, one, two, one_next, two_next) refl ∙ sym (since_is b next)

-- ---- events that put nothing
same_begun : (m k : Store) (next after : Next) → k.now.tree ≡ m.now.tree → after.view.tree ≡ next.view.tree → heads_of k.now.buds k.synced ≡ heads_of m.now.buds m.synced
    → heads_of after.view.buds (synced_since k after) ≡ heads_of next.view.buds (synced_since m next) → m.sqnum ≤ k.sqnum → IsCommitBegun m next → IsCommitBegun k after
same_begun m k next after tree began now since up b =
    let above = b.parted.above in
    record {
      before = b.before;
      mark = b.mark;
      heads = now ∙ b.heads ∙ ap (joined b.before) (sym since);
      parted = subst (IsParted b.mark k.sqnum b.before) (sym since) (record { long = b.parted.long; low = b.parted.low; high = b.parted.high; above = omega (arith, above, up) });
      began = ap without_nameless began ∙ b.began ∙ ap (λ t. replayed (without_nameless t) (in_heads b.before)) (sym tree);
    }

pub begin_begun : (m : Store) (victim : ℕ) → HasBegun m m.next → HasBegun (begin victim m) (begin victim m).next
begin_begun m victim b = by m.next b
  where
    by : (next : Option Next) → HasBegun m next → HasBegun (begin victim m) next
    by None b = tt
    by (Some next) b = same_begun m (begin victim m) next next refl refl refl refl (omega arith) b

pub free_begun : (m : Store) (moving : Option Moving) → HasBegun m m.next → HasBegun (free_victim m moving) (free_victim m moving).next
free_begun m None b = b
free_begun m (Some moving) b = by m.next b
  where
    by : (next : Option Next) → HasBegun m next → HasBegun (free_victim m (Some moving)) next
    by None b = tt
    by (Some next) b = same_begun m (free_victim m (Some moving)) next next refl refl refl refl (omega arith) b

pub drop_begun : (m : Store) (ino : ℕ) (index : StoreIndex) → HasBegun m m.next → HasBegun (drop_inode ino index m) (drop_inode ino index m).next
drop_begun m ino index b = by m.next b
  where
    by : (next : Option Next) → HasBegun m next → HasBegun (drop_inode ino index m) next
    by None b = tt
    by (Some next) b = same_begun m (drop_inode ino index m) next next refl refl refl refl (omega arith) b

pub write_begun : (m : Store) (next : Option Next) → m.next ≡ next → HasBegun m m.next → HasBegun (write_index m next) (write_index m next).next
write_begun m None e b = b
write_begun m (Some next) e b =
    same_begun m (write_index m (Some next)) next (record next { written = next.written + 1 }) refl refl refl refl (omega arith) (subst (λ (o : Option Next). HasBegun m o) e b)

pub offer_begun : (m : Store) → HasBegun m m.next → HasBegun (offer m) (offer m).next
offer_begun m b = by m.next b
  where
    by : (next : Option Next) → HasBegun m next → HasBegun (offer m) (option_map offered next)
    by None b = tt
    by (Some next) b = same_begun m (offer m) next (offered next) refl refl refl refl (omega arith) b

pub open_begun : (m : Store) (head lnum : ℕ) → HasBegun m m.next → HasBegun (open_leb head lnum m) (open_leb head lnum m).next
open_begun m head lnum b = by m.next b
  where
    more : List Bud → List Bud
    more buds = buds ++ new_bud head lnum 0 ∷ []

    by : (next : Option Next) → HasBegun m next → HasBegun (open_leb head lnum m) (option_map (in_next (λ buds. buds ++ new_bud head lnum 0 ∷ []) 0) next)
    by None b = tt
    by (Some next) b =
        let k : Store = open_leb head lnum m in
        let after : Next = in_next (λ buds. buds ++ new_bud head lnum 0 ∷ []) 0 next in
        same_begun m k next after refl refl (heads_open head lnum m.now.buds m.synced)
        (same_since k m next after refl (groups_open 1 head lnum m.now.buds) (groups_open 2 head lnum m.now.buds) (groups_open 1 head lnum next.view.buds) (groups_open 2 head lnum next.view.buds)) (omega arith) b

pub move_begun : (m : Store) (c : Copying) → HasBegun m m.next → HasBegun (move c m) (move c m).next
move_begun m c b = by m.next b
  where
    by : (next : Option Next) → HasBegun m next → HasBegun (move c m) (option_map (in_next (with_copy c.copy) 0) next)
    by None b = tt
    by (Some next) b =
        let k : Store = move c m in
        let after : Next = in_next (with_copy c.copy) 0 next in
        let one = groups_copied 1 c.copy m.now.buds in
        let two = groups_copied 2 c.copy m.now.buds in
        same_begun m k next after refl refl (rw (one, two) refl) (same_since k m next after refl one two (groups_copied 1 c.copy next.view.buds) (groups_copied 2 c.copy next.view.buds)) (omega arith) b

-- ---- a put
-- a group stands last at its head, of those since too
grown : (all last : List (List Carried)) (group : List Carried) (synced : ℕ) → head_with (last ++ group ∷ []) synced (all ++ group ∷ []) ≡ record (head_with last synced all) { groups = map numbered_group last ++ numbered_group group ∷ [] }
grown all last group synced =
    let a = length-append all (group ∷ []) in
    let b = length-append last (group ∷ []) in
    let same : synced - (length (all ++ group ∷ []) - length (last ++ group ∷ [])) ≡ synced - (length all - length last) = omega (arith, a, b) in
    ap (λ (n : ℕ). record { groups = map numbered_group (last ++ group ∷ []); synced = n }) same ∙ ap (λ (gs : List Numbered). record { groups = gs; synced = synced - (length all - length last) }) (map-append numbered_group last (group ∷ []))

since_put : (h : ℕ) (group : List Carried) (synced : List ℕ) (all last : List Bud) → (h ≡ 1) ⊎ (h ≡ 2) → has_bud h all ≡ true → has_bud h last ≡ true
    → since_heads synced (with_head_group h group all) (with_head_group h group last) ≡ with_group_at (since_heads synced all last) h (numbered_group group)
since_put h group synced all last (inl one) in_all in_last =
    let P : ℕ → List Bud → Type 0 = λ k buds. groups_of_head k (with_head_group h group buds) ≡ groups_of_head k buds ++ group ∷ [] in
    let a = subst (λ (k : ℕ). P k all) one (groups_added h group all in_all) in
    let b = subst (λ (k : ℕ). P k last) one (groups_added h group last in_last) in
    let c = groups_other 2 h group all (ap (λ (k : ℕ). k == 2) one) in
    let d = groups_other 2 h group last (ap (λ (k : ℕ). k == 2) one) in
    subst (λ (k : ℕ). since_heads synced (with_head_group h group all) (with_head_group h group last) ≡ with_group_at (since_heads synced all last) k (numbered_group group)) (sym one)
    (rw (a, b, c, d) (ap (λ (x : Head). (record { groups = []; synced = 0 }) ∷ x ∷ head_with (groups_of_head 2 last) (get_or synced 2 0) (groups_of_head 2 all) ∷ []) (grown (groups_of_head 1 all) (groups_of_head 1 last) group (get_or synced 1 0))))
since_put h group synced all last (inr two) in_all in_last =
    let P : ℕ → List Bud → Type 0 = λ k buds. groups_of_head k (with_head_group h group buds) ≡ groups_of_head k buds ++ group ∷ [] in
    let a = subst (λ (k : ℕ). P k all) two (groups_added h group all in_all) in
    let b = subst (λ (k : ℕ). P k last) two (groups_added h group last in_last) in
    let c = groups_other 1 h group all (ap (λ (k : ℕ). k == 1) two) in
    let d = groups_other 1 h group last (ap (λ (k : ℕ). k == 1) two) in
    subst (λ (k : ℕ). since_heads synced (with_head_group h group all) (with_head_group h group last) ≡ with_group_at (since_heads synced all last) k (numbered_group group)) (sym two)
    (rw (a, b, c, d) (ap (λ (x : Head). (record { groups = []; synced = 0 }) ∷ head_with (groups_of_head 1 last) (get_or synced 1 0) (groups_of_head 1 all) ∷ x ∷ []) (grown (groups_of_head 2 all) (groups_of_head 2 last) group (get_or synced 2 0))))

pub high_group : (mark n : ℕ) (group : Numbered) → mark ≤ n → AreConsecutive n group → are_high mark group ≡ true
high_group mark n [] low follow = refl
high_group mark n (c ∷ group) low follow =
    let here = follow.0 in
    and_from (nat_lt mark c.0) (are_high mark group) (lt-ltb mark c.0 (omega (arith, here, low))) (high_group mark (n + 1) group (omega (arith, low)) follow.1)

put_begun_at : (m : Store) (part : Part) (next : Next) (at : At) → end_at m.ends part.head ≡ Some at → IsLegalPart m part → AreRolesApart m → IsSince m next.view → IsCommitBegun m next → IsCommitBegun (after_part m part) (in_next (with_head_group part.head part.group) (length part.group) next)
put_begun_at m part next at e is a s b =
    let k : Store = after_part m part in
    let after : Next = in_next (with_head_group part.head part.group) (length part.group) next in
    let old = has_last m.now.buds part.head at.lnum (end_bud m.now.buds 0 part.head part.head m.ends at (omega arith) a.ends e) in
    let new = has_last next.view.buds part.head at.lnum (end_bud next.view.buds 0 part.head part.head m.ends at (omega arith) s.ends e) in
    let group : Numbered = numbered_group part.group in
    let since : List Head = heads_of next.view.buds (synced_since m next) in
    let since_then : heads_of after.view.buds (synced_since k after) ≡ with_group_at since part.head group =
    since_is k after ∙ since_put part.head part.group m.synced m.now.buds next.view.buds is.head old new ∙ ap (λ (heads : List Head). with_group_at heads part.head group) (sym (since_is m next)) in
    let p = b.parted in
    let low = p.above in
    let more = no_less m.sqnum group (consecutive_next m.sqnum group is.numbers) in
    let up = leb-true m.sqnum k.sqnum more in
    record {
      before = b.before;
      mark = b.mark;
      heads = heads_put part.head part.group m.now.buds m.synced is.head old ∙ ap (λ (heads : List Head). with_group_at heads part.head group) b.heads ∙ joined_with b.before since part.head group ∙ ap (joined b.before) (sym since_then);
      parted = subst (IsParted b.mark k.sqnum b.before) (sym since_then) (record {
        long = long_with since part.head group ∙ p.long;
        low = p.low;
        high = high_with b.mark since part.head group p.high (high_group b.mark m.sqnum group low is.numbers);
        above = omega (arith, low, up);
      });
      began = b.began;
    }

part_begun : (m : Store) (part : Part) → IsLegalPart m part → AreRolesApart m → HasSince m m.next → HasBegun m m.next → HasBegun (after_part m part) (after_part m part).next
part_begun m part is a s b = by (end_at m.ends part.head) refl is.fits
  where
    of : (at : At) → end_at m.ends part.head ≡ Some at → (next : Option Next) → HasSince m next → HasBegun m next → HasBegun (after_part m part) (option_map (in_next (with_head_group part.head part.group) (length part.group)) next)
    of at e None s b = tt
    of at e (Some next) s b = put_begun_at m part next at e is a s b

    by : (o : Option At) → end_at m.ends part.head ≡ o → FitHead m o (map (λ c. c.placed) part.group) → HasBegun (after_part m part) (after_part m part).next
    by None e fits = absurd fits
    by (Some at) e fits = of at e m.next s b

parts_begun : (parts : List Part) (m : Store) → AreLegalParts m parts → AreRolesApart m → HasSince m m.next → HasBegun m m.next → HasBegun (fold after_part m parts) (fold after_part m parts).next
parts_begun [] m are a s b = b
parts_begun (part ∷ parts) m are a s b = parts_begun parts (after_part m part) are.1 (part_apart m part are.0 a) (part_since m part are.0 a s) (part_begun m part are.0 a s b)

pub put_begun : (m : Store) (p : Putting) → AreLegalParts m p.parts → AreRolesApart m → HasSince m m.next → HasBegun m m.next → HasBegun (put p m) (put p m).next
put_begun m p are a s b = by p.payment (parts_begun p.parts m are a s b)
  where
    end : Store
    end = fold after_part m p.parts

    of : (k : Store) → k.now ≡ end.now → k.synced ≡ end.synced → k.sqnum ≡ end.sqnum → (next : Option Next) → HasBegun end next → HasBegun k next
    of k now synced sqnum None b = tt
    of k now synced sqnum (Some next) b =
        same_begun end k next next (ap (λ (v : View). v.tree) now) refl (rw (now, synced) refl) (rw (now, synced) refl) (omega (arith, sqnum)) b

    by : (payment : Payment) → HasBegun end end.next → HasBegun (record (paid payment end) { index = p.index }) (record (paid payment end) { index = p.index }).next
    by credit b = of (record (paid credit end) { index = p.index }) refl refl refl end.next b
    by granted b = of (record (paid granted end) { index = p.index }) refl refl refl end.next b

-- ---- a sync
-- of each head all is synced
all_joined_at : (before : List Numbered) (all last : List (List Carried)) → map numbered_group all ≡ before ++ map numbered_group last
    → plain_head (map numbered_group all) (length all) ≡ plain_head (before ++ map numbered_group last) (length before + (length all - (length all - length last)))
all_joined_at before all last e =
    let a = ap (λ (gs : List Numbered). length gs) e in
    let b = length-append before (map numbered_group last) in
    let c = length_map numbered_group all in
    let d = length_map numbered_group last in
    let count : length all ≡ length before + (length all - (length all - length last)) = omega (arith, a, b, c, d) in
    ap (λ (gs : List Numbered). plain_head gs (length all)) e ∙ ap (plain_head (before ++ map numbered_group last)) count

-- the groups of the n-th head
abbrev groups_at : ℕ → List Head → List Numbered
groups_at n heads = (get_or heads n (plain_head [] 0)).groups

nothing : (a : List Numbered) → [] ≡ a ++ [] → plain_head [] 0 ≡ plain_head (a ++ []) (length a + 0)
nothing [] h = refl
nothing (x ∷ a) h = absurd cc

synced_heads : (m : Store) (next : Next) (before : List (List Numbered)) → length (heads_of next.view.buds (synced_since m next)) ≡ length before → heads_of m.now.buds m.synced ≡ joined before (heads_of next.view.buds (synced_since m next))
    → heads_of m.now.buds (head_counts m.now.buds) ≡ joined before (since_heads (head_counts m.now.buds) m.now.buds next.view.buds)
synced_heads m next [] long e = absurd (omega (arith, long))
synced_heads m next (a ∷ []) long e = absurd (omega (arith, long))
synced_heads m next (a ∷ b ∷ []) long e = absurd (omega (arith, long))
synced_heads m next (a ∷ b ∷ c ∷ d ∷ before) long e = absurd (omega (arith, long))
synced_heads m next (a ∷ b ∷ c ∷ []) long e =
    let all1 : List (List Carried) = groups_of_head 1 m.now.buds in
    let all2 : List (List Carried) = groups_of_head 2 m.now.buds in
    let last1 : List (List Carried) = groups_of_head 1 next.view.buds in
    let last2 : List (List Carried) = groups_of_head 2 next.view.buds in
    let first = nothing a (ap (groups_at 0) e) in
    let one = all_joined_at b all1 last1 (ap (groups_at 1) e) in
    let two = all_joined_at c all2 last2 (ap (groups_at 2) e) in
    ap (λ (x : Head). x ∷ plain_head (map numbered_group all1) (length all1) ∷ plain_head (map numbered_group all2) (length all2) ∷ []) first
    ∙ ap (λ (x : Head). plain_head (a ++ []) (length a + 0) ∷ x ∷ plain_head (map numbered_group all2) (length all2) ∷ []) one
    ∙ ap (λ (x : Head). plain_head (a ++ []) (length a + 0) ∷ plain_head (b ++ map numbered_group last1) (length b + (length all1 - (length all1 - length last1))) ∷ x ∷ []) two

pub sync_begun : (m : Store) → HasBegun m m.next → HasBegun (sync m) (sync m).next
sync_begun m b = by m.next b
  where
    by : (next : Option Next) → HasBegun m next → HasBegun (sync m) next
    by None b = tt
    by (Some next) b =
        let k : Store = sync m in
        let p = b.parted in
        let since : heads_of next.view.buds (synced_since k next) ≡ since_heads (head_counts m.now.buds) m.now.buds next.view.buds = since_is k next in
        record {
          before = b.before;
          mark = b.mark;
          heads = synced_heads m next b.before p.long b.heads ∙ ap (joined b.before) (sym since);
          parted = record { long = p.long; low = p.low; high = p.high; above = p.above };
          began = b.began;
        }
