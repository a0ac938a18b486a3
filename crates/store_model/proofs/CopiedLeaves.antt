-- A leaf that is copied is a committed one of both views: its LEB is the victim, so none of the journal's.
use Rattle.std.proofs.Common.{◌≡◌, ◌⊎◌, ℕ, true, List, [], ◌∷◌, map, refl, sym, subst, ◌∙◌, inl, inr, Option, Some, None}
use Rattle.std.specs.Prelude.{◌==◌, ◌&&◌, nat_le}
use Rattle.std.specs.List.{AllByRecursion, list_all}
use Rattle.std.proofs.lemmas.Bool.{and_parts, eq-eqb, eqb-true, false≢true}
use Rattle.media_lpt.specs.declared.leb_kind.LebKind.TheVariants as kind
use Rattle.index_tree.specs.declared.leaf.Leaf.{Leaf}
use Rattle.leaf_map.specs.Kept.{Kept}
use Rattle.leaf_map.specs.Parts.{in_bud}
use Rattle.store_model.specs.Events.{Copying}
use Rattle.store_model.specs.Fits.{named_by_log}
use Rattle.store_model.specs.Invariant.{AreRolesApart, AreOfViews, IsOfNext, IsOfView, IsTaking, OfBoth, OfNext}
use Rattle.store_model.specs.Legal.{CanMove, IfMoving, IsLeafOf}
use Rattle.store_model.specs.Store.{Bud, Moving, Next, Store, View}
use Rattle.store_model.proofs.LebPuts.{other_leb}
use Rattle.store_model.proofs.LebRows.{has_row, Row, rows, to_rows, victim_row}
use Rattle.store_model.proofs.RecoveryCopies.{either_of}
use Rattle.store_model.proofs.TextSyncs.{next_role}

pub each_of : (P : Kept → Type 0) (xs : List Kept) (x : Kept) → AllByRecursion P xs → IsLeafOf xs x → P x
each_of P [] x h i = absurd i
each_of P (y ∷ xs) x h (inl e) = subst P e h.0
each_of P (y ∷ xs) x h (inr i) = each_of P xs x h.1 i

-- a leaf in a bud stands in a LEB that is one
bud_row : (rs : List Row) (buds : List Bud) (leaf : Leaf) → list_all (λ bud. has_row kind.Bud rs bud.lnum) buds ≡ true → in_bud (map named_by_log buds) leaf ≡ true → has_row kind.Bud rs leaf.lnum ≡ true
bud_row rs [] leaf h i = absurd (false≢true i)
bud_row rs (bud ∷ buds) leaf h i =
    let p = and_parts (has_row kind.Bud rs bud.lnum) (list_all (λ bud. has_row kind.Bud rs bud.lnum) buds) h in
    by p.0 (bud_row rs buds leaf p.1) (either_of ((bud.lnum == leaf.lnum) && nat_le bud.from leaf.offs) (in_bud (map named_by_log buds) leaf) i)
  where
    by : has_row kind.Bud rs bud.lnum ≡ true → (in_bud (map named_by_log buds) leaf ≡ true → has_row kind.Bud rs leaf.lnum ≡ true) → (((bud.lnum == leaf.lnum) && nat_le bud.from leaf.offs) ≡ true) ⊎ (in_bud (map named_by_log buds) leaf ≡ true)
        → has_row kind.Bud rs leaf.lnum ≡ true
    by first rest (inl e) = subst (λ (n : ℕ). has_row kind.Bud rs n ≡ true) (eqb-true bud.lnum leaf.lnum (and_parts (bud.lnum == leaf.lnum) (nat_le bud.from leaf.offs) e).0) first
    by first rest (inr e) = rest e

of_view : (m : Store) (view : View) (x : Kept) → AreRolesApart m → list_all (λ bud. has_row kind.Bud (rows m.lebs) bud.lnum) view.buds ≡ true → has_row kind.Leaf (rows m.lebs) x.leaf.lnum ≡ true → IsOfView view x → IsLeafOf view.kept x
of_view m view x a buds leaf (inl in_it) =
    let bud = bud_row (rows m.lebs) view.buds x.leaf buds in_it in
    let other = other_leb (rows m.lebs) x.leaf.lnum x.leaf.lnum kind.Bud kind.Leaf (to_rows m a).numbers bud leaf refl in
    absurd (false≢true (sym other ∙ eq-eqb x.leaf.lnum x.leaf.lnum refl))
of_view m view x a buds leaf (inr i) = i

pub copied_of : (m : Store) (c : Copying) → CanMove m c → AreRolesApart m → IsTaking m m.next → AreOfViews m → OfBoth m (λ f. IsLeafOf f.view.kept c.leaf)
copied_of m c can a t v = (of_view m m.now c.leaf a (to_rows m a).buds leaf of.0, by m.next t of.1)
  where
    of : IsOfView m.now c.leaf × IsOfNext m.next c.leaf
    of = each_of (λ x. IsOfView m.now x × IsOfNext m.next x) m.live c.leaf v.live can.live

    leaf : has_row kind.Leaf (rows m.lebs) c.leaf.leaf.lnum ≡ true
    leaf = there m.moving refl can.victim (to_rows m a).victim
      where
        there : (moving : Option Moving) → m.moving ≡ moving → IfMoving m (λ moving. c.leaf.leaf.lnum ≡ moving.victim) → victim_row (rows m.lebs) m.moving ≡ true → has_row kind.Leaf (rows m.lebs) c.leaf.leaf.lnum ≡ true
        there None e at row = absurd (rw e at at)
        there (Some moving) e at row =
            let is : c.leaf.leaf.lnum ≡ moving.victim = rw e at at in
            subst (λ (n : ℕ). has_row kind.Leaf (rows m.lebs) n ≡ true) (sym is) (subst (λ (o : Option Moving). victim_row (rows m.lebs) o ≡ true) e row)

    by : (next : Option Next) → IsTaking m next → IsOfNext next c.leaf → OfNext m next (λ f. IsLeafOf f.view.kept c.leaf)
    by None t h = tt
    by (Some next) t h = of_view m next.view c.leaf a (next_role m next t) leaf h
