-- Each tree that a cut may leave is proper, after all events but a put too.
use Rattle.std.proofs.Common.{◌≡◌, ◌≤◌, ◌-◌, ◌∙◌, ℕ, zero, suc, arith, List, [], ◌∷◌, ◌++◌, length, refl, sym, ap, subst, Option, Some, None}
use Rattle.std.specs.Prelude.{get_or, true}
use Rattle.std.specs.Option.{option_map}
use Rattle.fs_model.specs.Files.{Tree}
use Rattle.fs_model.specs.JournalLaws.{no_groups as empty_head}
use Rattle.fs_model.specs.Orphan.{without_nameless}
use Rattle.fs_model.specs.Proper.{IsProper}
use Rattle.fs_model.specs.Recovery.{Head, IsRecovered, recovered, taken}
use Rattle.store_model.specs.Events.{after, Begin, begin, Copying, Drop, drop_inode, End, end_commit, Event, Free, free_victim, in_next, Move, move, new_bud, Offer, offer, offered, Open, open_leb, Put, Putting, Start, start, Sync, sync, Write, write_index}
use Rattle.store_model.specs.Fits.{Faced, faced_now}
use Rattle.store_model.specs.Heads.{head_counts, groups_of_head, heads_of, synced_since, with_copy}
use Rattle.store_model.specs.Invariant.{AreProper, are_within, faced_later, IsStore, OfBoth, OfNext}
use Rattle.store_model.specs.Legal.{CanStart, IsLegalEvent}
use Rattle.store_model.specs.Store.{Bud, StoreIndex, Moving, Next, Store}
use Rattle.store_model.proofs.BackingCalls.{heads_open, synced_further}
use Rattle.store_model.proofs.BegunCommits.{next_started, none_since}
use Rattle.store_model.proofs.BegunEvents.{same_since, since_heads, since_is}
use Rattle.store_model.proofs.EventNumbers.{groups_copied}
use Rattle.store_model.proofs.Further.{AreFurther, further_keeps, further_taken}
use Rattle.store_model.proofs.Opens.{groups_open}

-- where a view's tree and heads stay
same_proper : (f g : Faced) → g.view.tree ≡ f.view.tree → heads_of g.view.buds g.synced ≡ heads_of f.view.buds f.synced → AreProper f → AreProper g
same_proper f g same heads p tree is =
    p tree (subst (λ (t : Tree). IsRecovered t (heads_of f.view.buds f.synced) tree) same (subst (λ (hs : List Head). IsRecovered g.view.tree hs tree) heads is))

-- where more is synced
further_proper : (f g : Faced) → g.view.tree ≡ f.view.tree → AreFurther (heads_of f.view.buds f.synced) (heads_of g.view.buds g.synced) → AreProper f → AreProper g
further_proper f g same further p tree is =
    let olds : List Head = heads_of f.view.buds f.synced in
    let news : List Head = heads_of g.view.buds g.synced in
    p tree (subst (λ (t : Tree). IsRecovered t olds tree) same (record {
      counts = is.counts;
      synced = further_keeps olds news is.counts further is.synced;
      tree_is = is.tree_is ∙ ap (recovered g.view.tree) (further_taken olds news is.counts further);
    }))

-- ---- events that leave the views
next_stays : (m k : Store) → k.now ≡ m.now → k.synced ≡ m.synced → (next : Option Next) → OfNext m next AreProper → OfNext k next AreProper
next_stays m k now synced None h = tt
next_stays m k now synced (Some next) h = same_proper (faced_later m next) (faced_later k next) refl (rw (now, synced) refl) h

stays : (m k : Store) → k.now ≡ m.now → k.synced ≡ m.synced → k.next ≡ m.next → OfBoth m AreProper → OfBoth k AreProper
stays m k now synced next h = (
  same_proper (faced_now m) (faced_now k) (ap (λ v. v.tree) now) (rw (now, synced) refl) h.0,
  subst (λ (o : Option Next). OfNext k o AreProper) (sym next) (next_stays m k now synced m.next h.1),
)

free_cut : (m : Store) (moving : Option Moving) → OfBoth m AreProper → OfBoth (free_victim m moving) AreProper
free_cut m None h = h
free_cut m (Some moving) h = stays m (free_victim m (Some moving)) refl refl refl h

write_cut : (m : Store) (next : Option Next) → m.next ≡ next → OfBoth m AreProper → OfBoth (write_index m next) AreProper
write_cut m None e h = h
write_cut m (Some next) e h = (h.0, subst (λ (o : Option Next). OfNext m o AreProper) e h.1)

offer_cut : (m : Store) → OfBoth m AreProper → OfBoth (offer m) AreProper
offer_cut m h = (h.0, by m.next h.1)
  where
    by : (next : Option Next) → OfNext m next AreProper → OfNext (offer m) (option_map offered next) AreProper
    by None g = tt
    by (Some next) g = g

end_cut : (m : Store) (next : Option Next) → m.next ≡ next → OfBoth m AreProper → OfBoth (end_commit m next) AreProper
end_cut m None e h = h
end_cut m (Some next) e h = (subst (λ (o : Option Next). OfNext m o AreProper) e h.1, tt)

-- ---- a LEB that is opened, and a copy
open_cut : (m : Store) (head lnum : ℕ) → OfBoth m AreProper → OfBoth (open_leb head lnum m) AreProper
open_cut m head lnum h = (same_proper (faced_now m) (faced_now k) refl (heads_open head lnum m.now.buds m.synced) h.0, by m.next h.1)
  where
    k : Store
    k = open_leb head lnum m

    more : List Bud → List Bud
    more buds = buds ++ new_bud head lnum 0 ∷ []

    by : (next : Option Next) → OfNext m next AreProper → OfNext k (option_map (in_next (λ buds. buds ++ new_bud head lnum 0 ∷ []) 0) next) AreProper
    by None g = tt
    by (Some next) g =
        let later : Next = in_next (λ buds. buds ++ new_bud head lnum 0 ∷ []) 0 next in
        same_proper (faced_later m next) (faced_later k later) refl
        (same_since k m next later refl (groups_open 1 head lnum m.now.buds) (groups_open 2 head lnum m.now.buds) (groups_open 1 head lnum next.view.buds) (groups_open 2 head lnum next.view.buds)) g

move_cut : (m : Store) (c : Copying) → OfBoth m AreProper → OfBoth (move c m) AreProper
move_cut m c h = (same_proper (faced_now m) (faced_now k) refl (rw (one, two) refl) h.0, by m.next h.1)
  where
    k : Store
    k = move c m

    one : groups_of_head 1 (with_copy c.copy m.now.buds) ≡ groups_of_head 1 m.now.buds
    one = groups_copied 1 c.copy m.now.buds

    two : groups_of_head 2 (with_copy c.copy m.now.buds) ≡ groups_of_head 2 m.now.buds
    two = groups_copied 2 c.copy m.now.buds

    by : (next : Option Next) → OfNext m next AreProper → OfNext k (option_map (in_next (with_copy c.copy) 0) next) AreProper
    by None g = tt
    by (Some next) g =
        let later : Next = in_next (with_copy c.copy) 0 next in
        same_proper (faced_later m next) (faced_later k later) refl (same_since k m next later refl one two (groups_copied 1 c.copy next.view.buds) (groups_copied 2 c.copy next.view.buds)) g

-- ---- a sync
less_left : (a b c : ℕ) → a ≤ b → a - c ≤ b - c
less_left a b c h = omega (arith, h)

next_further : (m : Store) (next : Next) → are_within m.synced (head_counts m.now.buds) ≡ true → AreFurther (heads_of next.view.buds (synced_since m next)) (heads_of next.view.buds (synced_since (sync m) next))
next_further m next within =
    let all = synced_further m.now.buds m.synced within in
    let one = length (groups_of_head 1 m.now.buds) - length (groups_of_head 1 next.view.buds) in
    let two = length (groups_of_head 2 m.now.buds) - length (groups_of_head 2 next.view.buds) in
    let both : AreFurther (since_heads m.synced m.now.buds next.view.buds) (since_heads (head_counts m.now.buds) m.now.buds next.view.buds) =
    (refl, omega arith, (refl, less_left (get_or m.synced 1 0) (length (groups_of_head 1 m.now.buds)) one all.2.1, (refl, less_left (get_or m.synced 2 0) (length (groups_of_head 2 m.now.buds)) two all.2.2.1, tt))) in
    subst (λ (olds : List Head). AreFurther olds (heads_of next.view.buds (synced_since (sync m) next))) (sym (since_is m next))
    (subst (λ (news : List Head). AreFurther (since_heads m.synced m.now.buds next.view.buds) news) (sym (since_is (sync m) next)) both)

sync_cut : (m : Store) → are_within m.synced (head_counts m.now.buds) ≡ true → OfBoth m AreProper → OfBoth (sync m) AreProper
sync_cut m within h = (further_proper (faced_now m) (faced_now (sync m)) refl (synced_further m.now.buds m.synced within) h.0, by m.next h.1)
  where
    by : (next : Option Next) → OfNext m next AreProper → OfNext (sync m) next AreProper
    by None g = tt
    by (Some next) g = further_proper (faced_later m next) (faced_later (sync m) next) refl (next_further m next within) g

-- ---- a commit's start
abbrev pub MountLaw : Type 0
MountLaw = (tree : Tree) → IsProper tree → IsProper (without_nameless tree)

none_taken : (counts : List ℕ) → taken (empty_head ∷ empty_head ∷ empty_head ∷ []) counts ≡ []
none_taken [] = refl
none_taken (zero ∷ counts) = two counts
  where
    one : (counts : List ℕ) → taken (empty_head ∷ []) counts ≡ []
    one [] = refl
    one (zero ∷ counts) = refl
    one (suc n ∷ counts) = refl

    two : (counts : List ℕ) → taken (empty_head ∷ empty_head ∷ []) counts ≡ []
    two [] = refl
    two (zero ∷ counts) = one counts
    two (suc n ∷ counts) = one counts
none_taken (suc n ∷ counts) = two counts
  where
    one : (counts : List ℕ) → taken (empty_head ∷ []) counts ≡ []
    one [] = refl
    one (zero ∷ counts) = refl
    one (suc n ∷ counts) = refl

    two : (counts : List ℕ) → taken (empty_head ∷ empty_head ∷ []) counts ≡ []
    two [] = refl
    two (zero ∷ counts) = one counts
    two (suc n ∷ counts) = one counts

-- a cut leaves the files as they are, but for what has no name
start_cut : MountLaw → (m : Store) (taken : List ℕ) → CanStart m taken → IsProper m.tree → OfBoth m AreProper → OfBoth (start taken m) AreProper
start_cut law m numbers can proper h = (h.0, later)
  where
    k : Store
    k = start numbers m

    later : AreProper (faced_later k (next_started m numbers))
    later tree is =
        let empty = subst (λ (hs : List Head). IsRecovered m.tree hs tree) (none_since m numbers can.synced.counts) is in
        subst IsProper (sym (empty.tree_is ∙ ap (recovered m.tree) (none_taken empty.counts))) (law m.tree proper)

-- ---- all but a put
drop_cut : (m : Store) (ino : ℕ) (index : StoreIndex) → OfBoth m AreProper → OfBoth (drop_inode ino index m) AreProper
drop_cut m ino index h = stays m (drop_inode ino index m) refl refl refl h

pub each_cut : MountLaw → (m : Store) (event : Event) → IsLegalEvent m event → ((p : Putting) → event ≡ Put p → ⊥) → IsStore m → OfBoth (after event m) AreProper
each_cut law m (Put p) can other s = absurd (other p refl)
each_cut law m (Open head lnum) can other s = open_cut m head lnum s.proper
each_cut law m Sync can other s = sync_cut m s.numbers.synced s.proper
each_cut law m (Begin victim) can other s = stays m (begin victim m) refl refl refl s.proper
each_cut law m (Move c) can other s = move_cut m c s.proper
each_cut law m Free can other s = free_cut m m.moving s.proper
each_cut law m (Start taken) can other s = start_cut law m taken can s.proper_now s.proper
each_cut law m Write can other s = write_cut m m.next refl s.proper
each_cut law m Offer can other s = offer_cut m s.proper
each_cut law m End can other s = end_cut m m.next refl s.proper
each_cut law m (Drop ino index) can other s = drop_cut m ino index s.proper
