-- What all groups of a view lead to is the files, but for inodes without a name, after each event too.
use Rattle.std.proofs.Common.{◌≡◌, ◌∙◌, ℕ, suc, arith, List, [], ◌∷◌, ◌++◌, length, length-append, map, refl, sym, ap, subst, Option, Some, None}
use Rattle.std.specs.Prelude.{fold, true}
use Rattle.std.specs.Option.{option_map}
use Rattle.std.proofs.lemmas.List.{take_all}
use Rattle.fs_model.specs.declared.change.Change.{Change}
use Rattle.fs_model.specs.Change.{apply}
use Rattle.fs_model.specs.Files.{Inodes, Tree}
use Rattle.fs_model.specs.Orphan.{without_nameless}
use Rattle.fs_model.specs.Proper.{IsProper, IsInOrder}
use Rattle.fs_model.specs.Recovery.{as_replayed, by_number, Numbered, recovered, taken}
use Rattle.fs_model.specs.RecoveryLaws.{all_counts, AreHigh, AreLow, counted, in_groups, in_heads, recovered_again, replayed}
use Rattle.fs_laws.specs.Forgotten.{apply_in_order, dropped_forgotten, forgotten_twice}
use Rattle.leaf_map.specs.Kept.{Kept}
use Rattle.leaf_map.specs.LeafMap.{IsLeafMap}
use Rattle.leaf_map.specs.Recovered.{highest_key}
use Rattle.leaf_map.specs.Shown.{tree_of}
use Rattle.store_model.specs.Events.{after, after_part, Begin, begin, Copying, credit, Drop, drop_inode, End, end_at, end_commit, Event, Free, free_victim, granted, in_next, Move, move, Offer, offer, offered, Open, open_buds, open_leb, new_bud, paid, Part, Payment, Put, put, Putting, Start, start, Sync, sync, Write, write_index}
use Rattle.store_model.specs.Fits.{Faced, faced_now}
use Rattle.store_model.specs.Heads.{changes_of, groups_of_head, numbered_group, with_copy, with_head_group}
use Rattle.store_model.specs.Invariant.{all_changes, AreRolesApart, AreNumbered, HasCommittedView, HasNumbers, HasSince, HasViews, IsStore, LeadsTo, OfBoth, OfNext}
use Rattle.store_model.specs.Legal.{AreLegalParts, FitHead, IsLegalEvent, IsLegalPart}
use Rattle.store_model.specs.Store.{At, Bud, StoreIndex, Moving, Next, Store, View}
use Rattle.store_model.proofs.BackingPuts.{groups_added, has_last}
use Rattle.store_model.proofs.BackingStarts.{no_groups}
use Rattle.store_model.proofs.BegunCommits.{low_head}
use Rattle.store_model.proofs.Beside.{all_low, forgotten_high, group_beside, has_low_inodes, IsBeside, leaves_low}
use Rattle.store_model.proofs.EventNumbers.{groups_copied}
use Rattle.store_model.proofs.JournalEvents.{both, full_joined, full_length, fulls, in_order, in_turn, lists_of, numbered_replayed, orphan_nameless, put_last}
use Rattle.store_model.proofs.LebPuts.{end_bud, part_apart}
use Rattle.store_model.proofs.Opens.{groups_open}
use Rattle.store_model.proofs.PutNumbers.{part_numbers}
use Rattle.store_model.proofs.Since.{part_since}

-- ---- all groups of a view
full_taken : (lists : List (List Numbered)) → taken (fulls lists) (all_counts (fulls lists)) ≡ in_heads lists
full_taken [] = refl
full_taken (groups ∷ lists) =
    ap (λ (gs : List Numbered). in_groups gs ++ taken (fulls lists) (all_counts (fulls lists))) (take_all (length groups) groups (omega arith)) ∙ ap (λ (z : Numbered). in_groups groups ++ z) (full_taken lists)

all_is : (f : Faced) → all_changes f ≡ in_heads (lists_of f.view.buds)
all_is f = full_taken (lists_of f.view.buds)

-- the tree to which a view's groups lead
abbrev led : View → Tree
led view = replayed view.tree (in_heads (lists_of view.buds))

-- a tree in order, in which no inode has a number above the highest
record IsPlain (tree : Tree) : Type 0 where
  order : IsInOrder tree
  low : has_low_inodes tree.highest tree.inodes ≡ true

led_order : (view : View) → IsPlain view.tree → IsInOrder (led view)
led_order view p = apply_in_order (map (λ c. as_replayed c.1) (by_number (in_heads (lists_of view.buds)))) view.tree p.order

to_led : (tree : Tree) (f : Faced) → IsPlain f.view.tree → LeadsTo tree f → without_nameless (led f.view) ≡ without_nameless tree
to_led tree f p h = sym (forgotten_twice (led f.view) (led_order f.view p)) ∙ ap (λ (c : Numbered). without_nameless (recovered f.view.tree c)) (sym (all_is f)) ∙ h

from_led : (tree : Tree) (f : Faced) → IsPlain f.view.tree → without_nameless (led f.view) ≡ without_nameless tree → LeadsTo tree f
from_led tree f p h = ap (λ (c : Numbered). without_nameless (recovered f.view.tree c)) (all_is f) ∙ forgotten_twice (led f.view) (led_order f.view p) ∙ h

-- where a view's tree and groups stay
same_history : (tree : Tree) (f g : Faced) → g.view.tree ≡ f.view.tree → lists_of g.view.buds ≡ lists_of f.view.buds → LeadsTo tree f → LeadsTo tree g
same_history tree f g same lists h =
    ap (λ (c : Numbered). without_nameless (recovered g.view.tree c)) (all_is g)
    ∙ ap (λ (z : List (List Numbered)). without_nameless (recovered g.view.tree (in_heads z))) lists
    ∙ ap (λ (t : Tree). without_nameless (recovered t (in_heads (lists_of f.view.buds)))) same
    ∙ sym (ap (λ (c : Numbered). without_nameless (recovered f.view.tree c)) (all_is f)) ∙ h

-- ---- a view's tree is plain
abbrev pub SortedLaw : Type 0
SortedLaw = (kept : List Kept) (highest : ℕ) → IsLeafMap kept → IsInOrder (tree_of kept highest)

view_plain : SortedLaw → (view : View) → HasCommittedView view → IsPlain view.tree
view_plain sorted view has = record {
  order = subst IsInOrder has.tree (sorted view.kept view.tree.highest has.leaves);
  low = subst (λ (n : ℕ). has_low_inodes n view.tree.inodes ≡ true) has.highest
      (subst (λ (inodes : Inodes). has_low_inodes (highest_key view.highest (map (λ x. x.leaf.key) view.kept)) inodes ≡ true) (ap (λ (t : Tree). t.inodes) has.tree) (leaves_low view.highest view.kept has.leaves.keyed));
}

abbrev NextPlain : Option Next → Type 0
NextPlain None = Unit {0}
NextPlain (Some next) = IsPlain next.view.tree

abbrev NextLed : Tree → Option Next → Type 0
NextLed tree None = Unit {0}
NextLed tree (Some next) = without_nameless (led next.view) ≡ without_nameless tree

-- of both views
record AreLed (m : Store) : Type 0 where
  plain : IsPlain m.now.tree
  next_plain : NextPlain m.next
  now : without_nameless (led m.now) ≡ without_nameless m.tree
  next : NextLed m.tree m.next

are_led : SortedLaw → (m : Store) → HasViews m → OfBoth m (LeadsTo m.tree) → AreLed m
are_led sorted m v h = record { plain = plain; next_plain = first m.next v.committed.1; now = to_led m.tree (faced_now m) plain h.0; next = then m.next v.committed.1 h.1 }
  where
    plain : IsPlain m.now.tree
    plain = view_plain sorted m.now v.committed.0

    first : (next : Option Next) → OfNext m next (λ f. HasCommittedView f.view) → NextPlain next
    first None c = tt
    first (Some next) c = view_plain sorted next.view c

    then : (next : Option Next) → OfNext m next (λ f. HasCommittedView f.view) → OfNext m next (LeadsTo m.tree) → NextLed m.tree next
    then None c g = tt
    then (Some next) c g = to_led m.tree (record { view = next.view; synced = []; lists = [] }) (view_plain sorted next.view c) g

of_led : (m : Store) → AreLed m → OfBoth m (LeadsTo m.tree)
of_led m l = (from_led m.tree (faced_now m) l.plain l.now, by m.next l.next_plain l.next)
  where
    by : (next : Option Next) → NextPlain next → NextLed m.tree next → OfNext m next (LeadsTo m.tree)
    by None p h = tt
    by (Some next) p h = from_led m.tree (record { view = next.view; synced = []; lists = [] }) p h

-- ---- a group
counted_full : (before last : List (List Numbered)) → counted before (all_counts (fulls last)) ≡ all_counts (fulls (both before last))
counted_full [] last = refl
counted_full (groups ∷ before) [] = refl
counted_full (groups ∷ before) (more ∷ last) =
    ap (λ (n : ℕ). n ∷ counted before (all_counts (fulls last))) (sym (length-append groups more)) ∙ ap (λ (ns : List ℕ). length (groups ++ more) ∷ ns) (counted_full before last)

counts_length : (lists : List (List Numbered)) → length (all_counts (fulls lists)) ≡ length lists
counts_length [] = refl
counts_length (groups ∷ lists) = ap suc (counts_length lists)

-- what has a name after all groups is what has one once the later ones are made on that to which the earlier ones lead
split_left : (committed : Tree) (mark : ℕ) (before last : List (List Numbered)) → length last ≡ length before → AreLow mark before → AreHigh mark (fulls last)
    → without_nameless (replayed committed (in_heads (both before last))) ≡ without_nameless (replayed (replayed committed (in_heads before)) (in_heads last))
split_left committed mark before last long low high =
    let all : List (List Numbered) = both before last in
    ap (recovered committed) (sym (full_taken all))
    ∙ ap (λ (counts : List ℕ). recovered committed (taken (fulls all) counts)) (sym (counted_full before last))
    ∙ ap (λ heads. recovered committed (taken heads (counted before (all_counts (fulls last))))) (sym (full_joined before last))
    ∙ recovered_again committed mark before (fulls last) (all_counts (fulls last)) (full_length last ∙ long) (counts_length last ∙ long) low high
    ∙ ap (recovered (replayed committed (in_heads before))) (full_taken last)

low_lists : (m : Store) (f : Faced) → AreNumbered m f → AreLow m.sqnum (lists_of f.view.buds)
low_lists m f n =
    let one = low_head m.sqnum (groups_of_head 1 f.view.buds) n.base in
    let two = low_head m.sqnum (groups_of_head 2 f.view.buds) n.data_nodes in
    rw (one, two) refl

-- a group is put to a view
part_led : (m : Store) (part : Part) (f : Faced) (lnum : ℕ) → IsLegalPart m part → IsProper m.tree → AreNumbered m f → groups_of_head part.head (with_head_group part.head part.group f.view.buds) ≡ groups_of_head part.head f.view.buds ++ part.group ∷ [] → IsPlain f.view.tree
    → without_nameless (led f.view) ≡ without_nameless m.tree → without_nameless (replayed f.view.tree (in_heads (lists_of (with_head_group part.head part.group f.view.buds)))) ≡ without_nameless (apply m.tree (changes_of part.group))
part_led m part f lnum is proper n added plain h =
    let before : Tree = led f.view in
    let it = put_last m.sqnum part.head part.group f.view.buds is.numbers is.head added in
    ap (λ (z : List (List Numbered)). without_nameless (replayed f.view.tree (in_heads z))) it.lists
    ∙ split_left f.view.tree m.sqnum (lists_of f.view.buds) it.last it.long (low_lists m f n) it.high
    ∙ ap (λ (z : Numbered). without_nameless (replayed before z)) it.alone
    ∙ ap (λ (z : Numbered). without_nameless (apply before (map (λ c. as_replayed c.1) z))) (in_turn m.sqnum (numbered_group part.group) is.numbers)
    ∙ ap (λ (z : List Change). without_nameless (apply before z)) (numbered_replayed part.group)
    ∙ (group_beside (changes_of part.group) m.tree before beside is.keeps.revives_none).same
  where
    beside : IsBeside m.tree (led f.view)
    beside = record {
      order = in_order m.tree proper;
      in_order = led_order f.view plain;
      same = h;
      highest = sym (forgotten_high (led f.view)) ∙ ap (λ (t : Tree). t.highest) h ∙ forgotten_high m.tree;
      low = all_low (map (λ c. as_replayed c.1) (by_number (in_heads (lists_of f.view.buds)))) f.view.tree plain.low;
    }

one_led : (m : Store) (part : Part) → IsLegalPart m part → IsProper m.tree → AreRolesApart m → HasSince m m.next → HasNumbers m → AreLed m → AreLed (after_part m part)
one_led m part is proper a since n l = by (end_at m.ends part.head) refl is.fits
  where
    of : (at : At) → end_at m.ends part.head ≡ Some at → AreLed (after_part m part)
    of at e = record {
      plain = l.plain;
      next_plain = plain m.next l.next_plain;
      now = part_led m part (faced_now m) at.lnum is proper n.both.0 (groups_added part.head part.group m.now.buds (has_last m.now.buds part.head at.lnum (end_bud m.now.buds 0 part.head part.head m.ends at (omega arith) a.ends e))) l.plain l.now;
      next = then m.next since n.both.1 l.next_plain l.next;
    }
      where
        plain : (next : Option Next) → NextPlain next → NextPlain (option_map (in_next (with_head_group part.head part.group) (length part.group)) next)
        plain None p = tt
        plain (Some next) p = p

        then : (next : Option Next) → HasSince m next → OfNext m next (AreNumbered m) → NextPlain next → NextLed m.tree next
            → NextLed (apply m.tree (changes_of part.group)) (option_map (in_next (with_head_group part.head part.group) (length part.group)) next)
        then None s k p h = tt
        then (Some next) s k p h =
            part_led m part (record { view = next.view; synced = []; lists = [] }) at.lnum is proper (record { base = k.base; data_nodes = k.data_nodes; apart = k.apart; kept = k.kept })
            (groups_added part.head part.group next.view.buds (has_last next.view.buds part.head at.lnum (end_bud next.view.buds 0 part.head part.head m.ends at (omega arith) s.ends e))) p h

    by : (o : Option At) → end_at m.ends part.head ≡ o → FitHead m o (map (λ c. c.placed) part.group) → AreLed (after_part m part)
    by None e fits = absurd fits
    by (Some at) e fits = of at e

parts_led : (parts : List Part) (m : Store) → AreLegalParts m parts → IsProper m.tree → AreRolesApart m → HasSince m m.next → HasNumbers m → AreLed m → AreLed (fold after_part m parts)
parts_led [] m are proper a since n l = l
parts_led (part ∷ parts) m are proper a since n l =
    parts_led parts (after_part m part) are.1 are.0.keeps.proper (part_apart m part are.0 a) (part_since m part are.0 a since) (part_numbers m part are.0.head are.0.numbers n) (one_led m part are.0 proper a since n l)

put_history : SortedLaw → (m : Store) (p : Putting) → AreLegalParts m p.parts → IsStore m → OfBoth (put p m) (LeadsTo (put p m).tree)
put_history sorted m p are s = by p.payment (parts_led p.parts m are s.proper_now s.apart s.since s.numbers (are_led sorted m s.views s.history))
  where
    end : Store
    end = fold after_part m p.parts

    by : (payment : Payment) → AreLed end → OfBoth (record (paid payment end) { index = p.index }) (LeadsTo (record (paid payment end) { index = p.index }).tree)
    by credit l = of_led (record (paid credit end) { index = p.index }) (record { plain = l.plain; next_plain = l.next_plain; now = l.now; next = l.next })
    by granted l = of_led (record (paid granted end) { index = p.index }) (record { plain = l.plain; next_plain = l.next_plain; now = l.now; next = l.next })

-- ---- others
-- what a running commit's view leads to, by the same view of another state
next_stays : (m k : Store) (tree : Tree) (next : Option Next) → OfNext m next (LeadsTo tree) → OfNext k next (LeadsTo tree)
next_stays m k tree None h = tt
next_stays m k tree (Some next) h = h

open_history : (m : Store) (head lnum : ℕ) → OfBoth m (LeadsTo m.tree) → OfBoth (open_leb head lnum m) (LeadsTo m.tree)
open_history m head lnum h = (same_history m.tree (faced_now m) (faced_now (open_leb head lnum m)) refl (lists m.now.buds) h.0, by m.next h.1)
  where
    k : Store
    k = open_leb head lnum m

    more : List Bud → List Bud
    more buds = buds ++ new_bud head lnum 0 ∷ []

    lists : (buds : List Bud) → lists_of (more buds) ≡ lists_of buds
    lists buds = rw (groups_open 1 head lnum buds, groups_open 2 head lnum buds) refl

    by : (next : Option Next) → OfNext m next (LeadsTo m.tree) → OfNext k (option_map (in_next more 0) next) (LeadsTo m.tree)
    by None g = tt
    by (Some next) g = same_history m.tree (record { view = next.view; synced = []; lists = [] }) (record { view = (in_next more 0 next).view; synced = []; lists = [] }) refl (lists next.view.buds) g

move_history : (m : Store) (c : Copying) → OfBoth m (LeadsTo m.tree) → OfBoth (move c m) (LeadsTo m.tree)
move_history m c h = (same_history m.tree (faced_now m) (faced_now (move c m)) refl (lists m.now.buds) h.0, by m.next h.1)
  where
    k : Store
    k = move c m

    lists : (buds : List Bud) → lists_of (with_copy c.copy buds) ≡ lists_of buds
    lists buds = rw (groups_copied 1 c.copy buds, groups_copied 2 c.copy buds) refl

    by : (next : Option Next) → OfNext m next (LeadsTo m.tree) → OfNext k (option_map (in_next (with_copy c.copy) 0) next) (LeadsTo m.tree)
    by None g = tt
    by (Some next) g = same_history m.tree (record { view = next.view; synced = []; lists = [] }) (record { view = (in_next (with_copy c.copy) 0 next).view; synced = []; lists = [] }) refl (lists next.view.buds) g

free_history : (m : Store) (moving : Option Moving) → OfBoth m (LeadsTo m.tree) → OfBoth (free_victim m moving) (LeadsTo (free_victim m moving).tree)
free_history m None h = h
free_history m (Some moving) h = (h.0, next_stays m (free_victim m (Some moving)) m.tree m.next h.1)

-- a commit's view has the files, and no group yet
start_history : (m : Store) (taken : List ℕ) → IsProper m.tree → OfBoth m (LeadsTo m.tree) → OfBoth (start taken m) (LeadsTo m.tree)
start_history m taken proper h =
    let order = in_order m.tree proper in
    let lists : lists_of (open_buds 0 m.ends) ≡ [] ∷ [] ∷ [] ∷ [] = rw (no_groups 1 0 m.ends, no_groups 2 0 m.ends) refl in
    let first = all_is (record { view = record m.now { tree = m.tree; buds = open_buds 0 m.ends }; synced = []; lists = [] }) in
    let none = ap (λ (z : List (List Numbered)). without_nameless (recovered m.tree (in_heads z))) lists in
    (h.0, ap (λ (c : Numbered). without_nameless (recovered m.tree c)) first ∙ none ∙ forgotten_twice m.tree order)

write_history : (m : Store) (next : Option Next) → m.next ≡ next → OfBoth m (LeadsTo m.tree) → OfBoth (write_index m next) (LeadsTo (write_index m next).tree)
write_history m None e h = h
write_history m (Some next) e h = (h.0, subst (λ (o : Option Next). OfNext m o (LeadsTo m.tree)) e h.1)

offer_history : (m : Store) → OfBoth m (LeadsTo m.tree) → OfBoth (offer m) (LeadsTo m.tree)
offer_history m h = (h.0, by m.next h.1)
  where
    by : (next : Option Next) → OfNext m next (LeadsTo m.tree) → OfNext (offer m) (option_map offered next) (LeadsTo m.tree)
    by None g = tt
    by (Some next) g = g

end_history : (m : Store) (next : Option Next) → m.next ≡ next → OfBoth m (LeadsTo m.tree) → OfBoth (end_commit m next) (LeadsTo (end_commit m next).tree)
end_history m None e h = h
end_history m (Some next) e h = (subst (λ (o : Option Next). OfNext m o (LeadsTo m.tree)) e h.1, tt)

-- an inode without a name goes, which no cut leaves
drop_history : (m : Store) (ino : ℕ) (index : StoreIndex) → without_nameless m.tree ≡ without_nameless (drop_inode ino index m).tree → OfBoth m (LeadsTo m.tree) → OfBoth (drop_inode ino index m) (LeadsTo (drop_inode ino index m).tree)
drop_history m ino index same h = (h.0 ∙ same, by m.next h.1)
  where
    k : Store
    k = drop_inode ino index m

    by : (next : Option Next) → OfNext m next (LeadsTo m.tree) → OfNext k next (LeadsTo k.tree)
    by None g = tt
    by (Some next) g = g ∙ same

-- ---- all events
pub each_history : SortedLaw → (m : Store) (event : Event) → IsLegalEvent m event → IsStore m → OfBoth (after event m) (LeadsTo (after event m).tree)
each_history sorted m (Put p) can s = put_history sorted m p can.parts s
each_history sorted m (Open head lnum) can s = open_history m head lnum s.history
each_history sorted m Sync can s = (s.history.0, next_stays m (sync m) m.tree m.next s.history.1)
each_history sorted m (Begin victim) can s = (s.history.0, next_stays m (begin victim m) m.tree m.next s.history.1)
each_history sorted m (Move c) can s = move_history m c s.history
each_history sorted m Free can s = free_history m m.moving s.history
each_history sorted m (Start taken) can s = start_history m taken s.proper_now s.history
each_history sorted m Write can s = write_history m m.next refl s.history
each_history sorted m Offer can s = offer_history m s.history
each_history sorted m End can s = end_history m m.next refl s.history
each_history sorted m (Drop ino index) can s =
    drop_history m ino index (sym (dropped_forgotten m.tree ino (in_order m.tree s.proper_now) (orphan_nameless m ino can.orphan s.nameless_are s.proper_now))) s.history
