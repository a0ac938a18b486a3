-- Live and held leaves are a view's, or stand in its buds, whatever the event: a copy stands in the collector's bud, and a commit begins with the live leaves.
use Rattle.std.proofs.Common.{◌≡◌, ℕ, arith, Bool, true, false, cond, not, List, [], ◌∷◌, map, refl, sym, ap, subst, ◌∙◌, inl, inr, Option, Some, None}
use Rattle.std.specs.Prelude.{◌==◌, ◌&&◌, nat_le}
use Rattle.std.specs.List.{AllByRecursion, list_any}
use Rattle.std.specs.Option.{option_map}
use Rattle.index_tree.specs.Removal.{same_leaf}
use Rattle.leaf_map.specs.Kept.{Kept, kept_at, Placed}
use Rattle.store_model.specs.Events.{after, at_its_copy, Begin, Copying, Drop, End, end_at, end_commit, Event, Free, free_victim, Move, move, Offer, offer, offered, Open, Put, Start, start, Sync, Write, write_index}
use Rattle.store_model.specs.Fits.{named_by_log}
use Rattle.store_model.specs.Heads.{has_bud, with_copy}
use Rattle.store_model.specs.Invariant.{AreRolesApart, AreOfViews, HasSince, IsOfNext, IsOfView, IsStore}
use Rattle.store_model.specs.Legal.{FitHead, IsLeafOf, IsLegalEvent}
use Rattle.store_model.specs.Store.{At, Bud, Moving, Next, Store}
use Rattle.store_model.specs.Texts.{AreNextBudsIn, AreTexts, items_len, text_in}
use Rattle.leaf_map.specs.Parts.{in_bud, Named}
use Rattle.index_tree.specs.declared.leaf.Leaf.{Leaf}
use Rattle.store_model.proofs.LebPuts.{end_bud}
use Rattle.store_model.proofs.OfViews.{both_more, bud_begins, drop_views, each_weaker, next_more, open_views, put_views, sync_views}
use Rattle.store_model.proofs.TextEnds.{end_of}
use Rattle.store_model.proofs.Units.{some_unit}

-- ---- a copy
pub named_copy : (copy : Placed) (buds : List Bud) → map named_by_log (with_copy copy buds) ≡ map named_by_log buds
named_copy copy [] = refl
named_copy copy (bud ∷ buds) = by (named_copy copy buds) ((bud.head == 0) && not (has_bud 0 buds)) refl
  where
    by : map named_by_log (with_copy copy buds) ≡ map named_by_log buds → (b : Bool) → ((bud.head == 0) && not (has_bud 0 buds)) ≡ b → map named_by_log (with_copy copy (bud ∷ buds)) ≡ map named_by_log (bud ∷ buds)
    by rest true e = rw e refl
    by rest false e = rw e (ap (λ (ns : List Named). named_by_log bud ∷ ns) rest)

copy_buds : (copy : Placed) (buds : List Bud) (leaf : Leaf) → in_bud (map named_by_log buds) leaf ≡ true → in_bud (map named_by_log (with_copy copy buds)) leaf ≡ true
copy_buds copy buds leaf is = ap (λ (ns : List Named). in_bud ns leaf) (named_copy copy buds) ∙ is

each_map : (P Q : Kept → Type 0) (f : Kept → Kept) → ((x : Kept) → P x → Q (f x)) → (xs : List Kept) → AllByRecursion P xs → AllByRecursion Q (map f xs)
each_map P Q f more [] h = tt
each_map P Q f more (x ∷ xs) h = (more x h.0, each_map P Q f more xs h.1)

move_views : (m : Store) (c : Copying) → FitHead m (end_at m.ends 0) (c.copy ∷ []) → AreRolesApart m → HasSince m m.next → AreTexts m → AreOfViews m → AreOfViews (move c m)
move_views m c fits a since t v = by (end_at m.ends 0) refl fits
  where
    k : Store
    k = move c m

    P : Kept → Type 0
    P x = IsOfView m.now x × IsOfNext m.next x

    Q : Kept → Type 0
    Q x = IsOfView k.now x × IsOfNext k.next x

    more : (x : Kept) → P x → Q x
    more x h = both_more m k (record { kept = refl; buds = copy_buds c.copy m.now.buds }) (next_more (with_copy c.copy) 0 m.next (copy_buds c.copy)) x h

    copied : Kept → Kept
    copied x = record x { leaf = (kept_at c.copy).leaf }

    later : (at : At) (x : Kept) (next : Option Next) → end_at m.ends 0 ≡ Some at → c.copy.lnum ≡ at.lnum → c.copy.offs ≡ items_len (text_in m.lebs at.lnum) → HasSince m next → AreNextBudsIn m.lebs next → IsOfNext next (copied x)
    later at x None e same low since b = tt
    later at x (Some next) e same low since b =
        inl (subst (λ (n : ℕ). list_any (λ b. (b.lnum == n) && nat_le b.from c.copy.offs) (map named_by_log next.view.buds) ≡ true) (sym same)
        (bud_begins m.lebs 0 at.lnum c.copy.offs next.view.buds (omega (arith, low)) (end_bud next.view.buds 0 0 0 m.ends at (omega arith) since.ends e) b.each))

    by : (o : Option At) → end_at m.ends 0 ≡ o → FitHead m o (c.copy ∷ []) → AreOfViews k
    by None e fits = absurd fits
    by (Some at) e fits = record { live = each_map P Q (at_its_copy c) one m.live v.live; held = each_weaker P Q more m.held v.held }
      where
        low : c.copy.offs ≡ items_len (text_in m.lebs at.lnum)
        low = fits.0.1 ∙ (end_of m.geo m.lebs 0 m.ends at t.ends e).0

        here : (x : Kept) → P (copied x)
        here x = (
          inl (subst (λ (n : ℕ). list_any (λ b. (b.lnum == n) && nat_le b.from c.copy.offs) (map named_by_log m.now.buds) ≡ true) (sym fits.0.0)
              (bud_begins m.lebs 0 at.lnum c.copy.offs m.now.buds (omega (arith, low)) (end_bud m.now.buds 0 0 0 m.ends at (omega arith) a.ends e) t.buds.each)),
          later at x m.next e fits.0.0 low since t.later,
        )

        one : (x : Kept) → P x → Q (at_its_copy c x)
        one x h = by_copy (same_leaf x.leaf c.leaf.leaf)
          where
            by_copy : (b : Bool) → Q (cond b (copied x) x)
            by_copy true = more (copied x) (here x)
            by_copy false = more x h

-- ---- a commit
are_leaves : (all xs : List Kept) → ((x : Kept) → IsLeafOf xs x → IsLeafOf all x) → AllByRecursion (IsLeafOf all) xs
are_leaves all [] more = tt
are_leaves all (x ∷ xs) more = (more x (inl refl), are_leaves all xs (λ y h. more y (inr h)))

started_live : (m : Store) (taken : List ℕ) (xs : List Kept) → AllByRecursion (λ x. IsOfView m.now x × IsOfNext m.next x) xs → AllByRecursion (IsLeafOf m.live) xs
    → AllByRecursion (λ x. IsOfView m.now x × IsOfNext (start taken m).next x) xs
started_live m taken [] h l = tt
started_live m taken (x ∷ xs) h l = ((h.0.0, inr l.0), started_live m taken xs h.1 l.1)

start_views : (m : Store) (taken : List ℕ) → m.held ≡ [] → AreOfViews m → AreOfViews (start taken m)
start_views m taken none v = record {
  live = started_live m taken m.live v.live (are_leaves m.live m.live (λ x h. h));
  held = subst (AllByRecursion (λ x. IsOfView m.now x × IsOfNext (start taken m).next x)) (sym none) tt;
}

write_views : (m : Store) (next : Option Next) → m.next ≡ next → AreOfViews m → AreOfViews (write_index m next)
write_views m None e v = v
write_views m (Some next) e v = record {
  live = each_weaker (λ (x : Kept). IsOfView m.now x × IsOfNext m.next x) (λ x. IsOfView m.now x × IsOfView next.view x) (λ x h. (h.0, subst (λ (o : Option Next). IsOfNext o x) e h.1)) m.live v.live;
  held = each_weaker (λ (x : Kept). IsOfView m.now x × IsOfNext m.next x) (λ x. IsOfView m.now x × IsOfView next.view x) (λ x h. (h.0, subst (λ (o : Option Next). IsOfNext o x) e h.1)) m.held v.held;
}

offered_next : (next : Option Next) (x : Kept) → IsOfNext next x → IsOfNext (option_map offered next) x
offered_next None x h = h
offered_next (Some next) x h = h

offer_views : (m : Store) → AreOfViews m → AreOfViews (offer m)
offer_views m v = record { live = each_weaker P Q more m.live v.live; held = each_weaker P Q more m.held v.held }
  where
    P : Kept → Type 0
    P x = IsOfView m.now x × IsOfNext m.next x

    Q : Kept → Type 0
    Q x = IsOfView m.now x × IsOfNext (option_map offered m.next) x

    more : (x : Kept) → P x → Q x
    more x h = (h.0, offered_next m.next x h.1)

end_views : (m : Store) (next : Option Next) → m.next ≡ next → AreOfViews m → AreOfViews (end_commit m next)
end_views m None e v = v
end_views m (Some next) e v = record {
  live = each_weaker (λ (x : Kept). IsOfView m.now x × IsOfNext m.next x) (λ x. IsOfView next.view x × Unit {0}) (λ x h. (subst (λ (o : Option Next). IsOfNext o x) e h.1, tt)) m.live v.live;
  held = each_weaker (λ (x : Kept). IsOfView m.now x × IsOfNext m.next x) (λ x. IsOfView next.view x × Unit {0}) (λ x h. (subst (λ (o : Option Next). IsOfNext o x) e h.1, tt)) m.held v.held;
}

free_views : (m : Store) (moving : Option Moving) → AreOfViews m → AreOfViews (free_victim m moving)
free_views m None v = v
free_views m (Some moving) v = record { live = v.live; held = v.held }

-- ---- each event
pub each_views : (m : Store) (event : Event) → IsLegalEvent m event → IsStore m → AreOfViews (after event m)
each_views m (Put p) can s = put_views m p can.parts (some_unit m.geo s.geometry) s.apart s.since s.numbers s.standing.texts s.standing.of_views
each_views m (Open head lnum) can s = open_views m head lnum s.standing.of_views
each_views m Sync can s = sync_views m s.standing.of_views
each_views m (Begin victim) can s = record { live = s.standing.of_views.live; held = s.standing.of_views.held }
each_views m (Move c) can s = move_views m c can.fits s.apart s.since s.standing.texts s.standing.of_views
each_views m Free can s = free_views m m.moving s.standing.of_views
each_views m (Start taken) can s = start_views m taken can.synced.none_held s.standing.of_views
each_views m Write can s = write_views m m.next refl s.standing.of_views
each_views m Offer can s = offer_views m s.standing.of_views
each_views m End can s = end_views m m.next refl s.standing.of_views
each_views m (Drop ino index) can s = drop_views m ino index s.standing.of_views
