use Rattle.std.proofs.Common.{◌≡◌, Bool, true, false, cond, Option, Some, None, refl, subst, inl, inr, [], ◌∷◌}
use Rattle.leaf_map.specs.Parts.{Parts}
use Rattle.leaf_map.specs.Recovered.{tree_found}
use Rattle.store_model.specs.Fits.{FitsAny, FitsFaced, FitsStore, faced_next, faced_now, faces}
use Rattle.store_model.specs.Invariant.{AreChangesCarried, AreNumbered, HasCommittedView, HaveOrphans, KeepOrphans, IsStore, OfNext, faced_later}
use Rattle.store_model.specs.Recovery.{IsFoundBy}
use Rattle.store_model.specs.Store.{Next, Store}
use Rattle.store_model.proofs.Orphans.{have_orphans_now}
use Rattle.store_model.proofs.recovery.a_store_is_recovered.Goals as goal

pub returns-clause-now : goal.returns-clause-now
returns-clause-now c = λ m parts is fits.
    c.what_fits_is_recovered.ensures.tree (faced_now m) parts is.views.committed.0 is.views.carried.0 is.numbers.both.0.apart (have_orphans_now m is.orphans) fits

pub returns-clause-next : goal.returns-clause-next
returns-clause-next c = λ m next parts is e fits.
    let committed = subst (λ (o : Option Next). OfNext m o (λ f. HasCommittedView f.view)) e is.views.committed.1 in
    let carried = subst (λ (o : Option Next). OfNext m o (λ f. AreChangesCarried f.view)) e is.views.carried.1 in
    let numbers = subst (λ (o : Option Next). OfNext m o (AreNumbered m)) e is.numbers.both.1 in
    let later = subst (λ (o : Option Next). KeepOrphans m o) e is.orphans.later in
    let orphans : HaveOrphans (faced_later m next) (next.listed ∷ []) = (later.1, tt) in
    c.what_fits_is_recovered.ensures.tree (faced_later m next) parts committed carried numbers.apart orphans fits

pub returns-clause-any : goal.returns-clause-any
returns-clause-any c = λ m parts is fits. by m parts is fits
  where
    later : (m : Store) (parts : Parts) (next : Next) (b : Bool) → (FitsFaced (faced_later m next) parts → IsFoundBy (faced_later m next ∷ []) (tree_found parts))
        → FitsAny (cond b (faced_later m next ∷ []) []) parts → IsFoundBy (cond b (faced_later m next ∷ []) []) (tree_found parts)
    later m parts next true found (inl fits) = found fits
    later m parts next true found (inr none) = absurd none
    later m parts next false found fits = absurd fits

    next_found : (m : Store) (parts : Parts) → IsStore m → (o : Option Next) → m.next ≡ o → FitsAny (faced_next m o) parts → IsFoundBy (faced_next m o) (tree_found parts)
    next_found m parts is None e fits = absurd fits
    next_found m parts is (Some next) e fits = later m parts next next.offered (λ fits. inl (returns-clause-next c m next parts is e fits)) fits

    by : (m : Store) (parts : Parts) → IsStore m → FitsStore m parts → IsFoundBy (faces m) (tree_found parts)
    by m parts is (inl fits) = inl (returns-clause-now c m parts is fits)
    by m parts is (inr fits) = inr (next_found m parts is m.next refl fits)
