-- The open inodes that a store tells without a name are those of its tree.
use Rattle.std.proofs.Common.{◌≡◌, ℕ, Bool, true, false, cond, not, List, [], ◌∷◌, map, refl, sym, ap, subst, ◌∙◌, Option, Some, None, inl, inr}
use Rattle.std.specs.Prelude.{◌==◌, filter, fold}
use Rattle.std.specs.BTreeMap.{is_at}
use Rattle.std.specs.List.{find}
use Rattle.std.specs.Map.{keys_of, lookup, remove_entry}
use Rattle.std.specs.Option.{option_map_or}
use Rattle.std.specs.Ordering.{nat_cmp}
use Rattle.std.proofs.lemmas.Bool.{eq-eqb, eqb-true}
use Rattle.fs_model.specs.Files.{Inodes}
use Rattle.fs_model.specs.Orphan.{nameless}
use Rattle.fs_model.specs.Proper.{ascends, IsProper}
use Rattle.fs_laws.specs.Maps.{apart, key_cases, missing_first, tail_ascends}
use Rattle.fs_laws.specs.Orders.{numbers}
use Rattle.store_model.specs.Events.{after, after_part, Begin, credit, Drop, drop_inode, End, end_commit, Event, Free, free_victim, granted, Move, Offer, Open, orphan_in, paid, Part, Payment, Put, put, Putting, Start, Sync, synced_orphan, Write, write_index}
use Rattle.store_model.specs.Invariant.{IsStore}
use Rattle.store_model.specs.Legal.{IsLegalEvent}
use Rattle.store_model.specs.Store.{StoreIndex, Moving, Next, Orphan, Store}
use Rattle.store_model.proofs.RecoveryListed.{at_number}

abbrev AreNameless : Store → Type 0
AreNameless m = map (λ orphan. orphan.ino) m.orphans ≡ nameless m.tree

found_ino : (ino : ℕ) (orphans : List Orphan) → (orphan_in orphans ino).ino ≡ ino
found_ino ino [] = refl
found_ino ino (orphan ∷ orphans) = by (orphan.ino == ino) refl (found_ino ino orphans)
  where
    by : (b : Bool) → (orphan.ino == ino) ≡ b → (orphan_in orphans ino).ino ≡ ino
        → (option_map_or (λ (o : Orphan). o) (cond b (Some orphan) (find (λ o. o.ino == ino) orphans)) (record { ino = ino; synced = false })).ino ≡ ino
    by true e rest = eqb-true orphan.ino ino e
    by false e rest = rest

all_found : (orphans : List Orphan) (inos : List ℕ) → map (λ orphan. orphan.ino) (map (orphan_in orphans) inos) ≡ inos
all_found orphans [] = refl
all_found orphans (ino ∷ inos) = ap (λ (n : ℕ). n ∷ map (λ (orphan : Orphan). orphan.ino) (map (orphan_in orphans) inos)) (found_ino ino orphans) ∙ ap (λ (ns : List ℕ). ino ∷ ns) (all_found orphans inos)

pub part_nameless : (m : Store) (part : Part) → AreNameless (after_part m part)
part_nameless m part = all_found m.orphans (nameless (after_part m part).tree)

parts_nameless : (parts : List Part) (m : Store) → AreNameless m → AreNameless (fold after_part m parts)
parts_nameless [] m h = h
parts_nameless (part ∷ parts) m h = parts_nameless parts (after_part m part) (part_nameless m part)

put_nameless : (m : Store) (p : Putting) → AreNameless m → AreNameless (put p m)
put_nameless m p h = by p.payment (parts_nameless p.parts m h)
  where
    by : (payment : Payment) → AreNameless (fold after_part m p.parts) → AreNameless (record (paid payment (fold after_part m p.parts)) { index = p.index })
    by credit h = h
    by granted h = h

synced_inos : (orphans : List Orphan) → map (λ orphan. orphan.ino) (map synced_orphan orphans) ≡ map (λ orphan. orphan.ino) orphans
synced_inos [] = refl
synced_inos (orphan ∷ orphans) = ap (λ (ns : List ℕ). orphan.ino ∷ ns) (synced_inos orphans)

-- ---- an inode without a name goes
others : (ino : ℕ) (orphans : List Orphan) → map (λ orphan. orphan.ino) (filter (λ orphan. not (orphan.ino == ino)) orphans) ≡ filter (λ k. not (k == ino)) (map (λ orphan. orphan.ino) orphans)
others ino [] = refl
others ino (orphan ∷ orphans) = by (orphan.ino == ino) (others ino orphans)
  where
    by : (b : Bool) → map (λ orphan. orphan.ino) (filter (λ orphan. not (orphan.ino == ino)) orphans) ≡ filter (λ k. not (k == ino)) (map (λ orphan. orphan.ino) orphans)
        → map (λ orphan. orphan.ino) (cond (not b) (orphan ∷ filter (λ orphan. not (orphan.ino == ino)) orphans) (filter (λ orphan. not (orphan.ino == ino)) orphans))
        ≡ cond (not b) (orphan.ino ∷ filter (λ k. not (k == ino)) (map (λ orphan. orphan.ino) orphans)) (filter (λ k. not (k == ino)) (map (λ orphan. orphan.ino) orphans))
    by true rest = rest
    by false rest = ap (λ (ns : List ℕ). orphan.ino ∷ ns) rest

at_is : (ino k : ℕ) → is_at (nat_cmp ino) k ≡ (k == ino)
at_is ino k = elim (key_cases nat_cmp numbers ino k) [
  | inl same ↦ ap (λ (n : ℕ). is_at (nat_cmp ino) n) (sym same) ∙ (rw (numbers.same ino) refl) ∙ sym (eq-eqb k ino (sym same))
  | inr other ↦ apart nat_cmp numbers ino k other ∙ sym (away (k == ino) refl other)
]
  where
    away : (b : Bool) → (k == ino) ≡ b → (ino ≡ k → ⊥) → (k == ino) ≡ false
    away true e other = absurd (other (sym (eqb-true k ino e)))
    away false e other = e

-- an inode that isn't there takes nothing away
untouched : (ino : ℕ) (inodes : Inodes) → lookup (is_at (nat_cmp ino)) inodes ≡ None → filter (λ k. not (k == ino)) (keys_of (filter (λ e. e.1.nlink == 0) inodes)) ≡ keys_of (filter (λ e. e.1.nlink == 0) inodes)
untouched ino [] none = refl
untouched ino (e ∷ inodes) none = by (is_at (nat_cmp ino) e.0) refl none (e.1.nlink == 0) (λ n. untouched ino inodes n)
  where
    Rest : Type 0
    Rest = filter (λ k. not (k == ino)) (keys_of (filter (λ e. e.1.nlink == 0) inodes)) ≡ keys_of (filter (λ e. e.1.nlink == 0) inodes)

    by : (b : Bool) → is_at (nat_cmp ino) e.0 ≡ b → cond b (Some e.1) (lookup (is_at (nat_cmp ino)) inodes) ≡ None → (z : Bool) → (lookup (is_at (nat_cmp ino)) inodes ≡ None → Rest)
        → filter (λ k. not (k == ino)) (keys_of (cond z (e ∷ filter (λ e. e.1.nlink == 0) inodes) (filter (λ e. e.1.nlink == 0) inodes))) ≡ keys_of (cond z (e ∷ filter (λ e. e.1.nlink == 0) inodes) (filter (λ e. e.1.nlink == 0) inodes))
    by true at none z more = let found : Some e.1 ≡ None = none in absurd cc
    by false at none true more = rw (sym (at_is ino e.0) ∙ at) (ap (λ (ns : List ℕ). e.0 ∷ ns) (more none))
    by false at none false more = more none

removed : (ino : ℕ) (inodes : Inodes) → ascends nat_cmp (keys_of inodes) ≡ true
    → filter (λ k. not (k == ino)) (keys_of (filter (λ e. e.1.nlink == 0) inodes)) ≡ keys_of (filter (λ e. e.1.nlink == 0) (remove_entry (is_at (nat_cmp ino)) inodes))
removed ino [] up = refl
removed ino (e ∷ inodes) up = by (is_at (nat_cmp ino) e.0) refl (e.1.nlink == 0) refl (removed ino inodes (tail_ascends nat_cmp inodes e up))
  where
    none : is_at (nat_cmp ino) e.0 ≡ true → lookup (is_at (nat_cmp ino)) inodes ≡ None
    none at = subst (λ (n : ℕ). lookup (is_at (nat_cmp n)) inodes ≡ None) (sym (at_number ino e.0 at)) (missing_first nat_cmp numbers inodes e up)

    by : (b : Bool) → is_at (nat_cmp ino) e.0 ≡ b → (z : Bool) → (e.1.nlink == 0) ≡ z → filter (λ k. not (k == ino)) (keys_of (filter (λ e. e.1.nlink == 0) inodes)) ≡ keys_of (filter (λ e. e.1.nlink == 0) (remove_entry (is_at (nat_cmp ino)) inodes))
        → filter (λ k. not (k == ino)) (keys_of (cond z (e ∷ filter (λ e. e.1.nlink == 0) inodes) (filter (λ e. e.1.nlink == 0) inodes))) ≡ keys_of (filter (λ e. e.1.nlink == 0) (cond b inodes (e ∷ remove_entry (is_at (nat_cmp ino)) inodes)))
    by true at true z rest = rw (sym (at_is ino e.0) ∙ at) (untouched ino inodes (none at))
    by true at false z rest = untouched ino inodes (none at)
    by false at true z rest = rw (sym (at_is ino e.0) ∙ at, z) (ap (λ (ns : List ℕ). e.0 ∷ ns) rest)
    by false at false z rest = rw z rest

drop_nameless : (m : Store) (ino : ℕ) (index : StoreIndex) → IsProper m.tree → AreNameless m → AreNameless (drop_inode ino index m)
drop_nameless m ino index proper h = others ino m.orphans ∙ ap (filter (λ k. not (k == ino))) h ∙ removed ino m.tree.inodes proper.inodes_ascend

free_nameless : (m : Store) (moving : Option Moving) → AreNameless m → AreNameless (free_victim m moving)
free_nameless m None h = h
free_nameless m (Some moving) h = h

write_nameless : (m : Store) (next : Option Next) → AreNameless m → AreNameless (write_index m next)
write_nameless m None h = h
write_nameless m (Some next) h = h

end_nameless : (m : Store) (next : Option Next) → AreNameless m → AreNameless (end_commit m next)
end_nameless m None h = h
end_nameless m (Some next) h = h

pub each_nameless : (m : Store) (event : Event) → IsLegalEvent m event → IsStore m → map (λ orphan. orphan.ino) (after event m).orphans ≡ nameless (after event m).tree
each_nameless m (Put p) can s = put_nameless m p s.nameless_are
each_nameless m (Open head lnum) can s = s.nameless_are
each_nameless m Sync can s = synced_inos m.orphans ∙ s.nameless_are
each_nameless m (Begin victim) can s = s.nameless_are
each_nameless m (Move c) can s = s.nameless_are
each_nameless m Free can s = free_nameless m m.moving s.nameless_are
each_nameless m (Start taken) can s = s.nameless_are
each_nameless m Write can s = write_nameless m m.next s.nameless_are
each_nameless m Offer can s = s.nameless_are
each_nameless m End can s = end_nameless m m.next s.nameless_are
each_nameless m (Drop ino index) can s = drop_nameless m ino index s.proper_now s.nameless_are
