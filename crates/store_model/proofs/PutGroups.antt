-- What a put makes of the groups of heads: a group stands last at its head, or a head without a bud gets none.
use Rattle.std.proofs.Common.{◌≡◌, ℕ, ◌⊎◌, Bool, true, false, List, [], ◌∷◌, ◌++◌, refl, sym, ap, subst, ◌∙◌, inl, inr}
use Rattle.std.specs.Prelude.{not, ◌==◌, ◌&&◌, ◌||◌}
use Rattle.std.specs.List.{flat_map}
use Rattle.std.proofs.lemmas.Bool.{eqb-true}
use Rattle.std.proofs.lemmas.List.{append-nil, append_assoc}
use Rattle.store_model.specs.Heads.{copies_of, groups_of_head, has_bud, numbered_group, with_head_group}
use Rattle.store_model.specs.Store.{Bud, Carried}

-- as it was, or with a group behind
abbrev pub IsGrown : List (List Carried) → List Carried → List (List Carried) → Type 0
IsGrown old group new = (new ≡ old) ⊎ (new ≡ old ++ group ∷ [])

or_parts : (a b : Bool) → (a || b) ≡ false → (a ≡ false) × (b ≡ false)
or_parts false b h = (refl, h)
or_parts true b h = absurd cc

-- a head without a bud has no groups
pub none_of : (head : ℕ) (buds : List Bud) → has_bud head buds ≡ false → groups_of_head head buds ≡ []
none_of head [] h = refl
none_of head (bud ∷ buds) h =
    let p = or_parts (bud.head == head) (has_bud head buds) h in
    rw p.0 (none_of head buds p.1)

pub groups_put : (head h : ℕ) (group : List Carried) (buds : List Bud) → IsGrown (groups_of_head head buds) group (groups_of_head head (with_head_group h group buds))
groups_put head h group [] = inl refl
groups_put head h group (bud ∷ buds) = by (groups_put head h group buds) (has_bud h buds) refl (bud.head == h) refl (bud.head == head) refl
  where
    Goal : Type 0
    Goal = IsGrown (groups_of_head head (bud ∷ buds)) group (groups_of_head head (with_head_group h group (bud ∷ buds)))

    deeper : (bud.head == head) ≡ true → IsGrown (groups_of_head head buds) group (groups_of_head head (with_head_group h group buds))
        → IsGrown (groups_of_head head (bud ∷ buds)) group (groups_of_head head (bud ∷ with_head_group h group buds))
    deeper here (inl same) = inl (rw here (ap (λ gs. bud.groups ++ gs) same))
    deeper here (inr more) = inr (rw here (ap (λ gs. bud.groups ++ gs) more ∙ sym (append_assoc bud.groups (groups_of_head head buds) (group ∷ []))))

    beside : (bud.head == head) ≡ false → IsGrown (groups_of_head head buds) group (groups_of_head head (with_head_group h group buds))
        → IsGrown (groups_of_head head (bud ∷ buds)) group (groups_of_head head (bud ∷ with_head_group h group buds))
    beside away (inl same) = inl (rw away same)
    beside away (inr more) = inr (rw away more)

    by : IsGrown (groups_of_head head buds) group (groups_of_head head (with_head_group h group buds)) → (other : Bool) → has_bud h buds ≡ other → (mine : Bool) → (bud.head == h) ≡ mine → (here : Bool) → (bud.head == head) ≡ here → Goal
    by s true o true m true i = rw (m, o) (deeper i s)
    by s true o true m false i = rw (m, o) (beside i s)
    by s o x false m true i = rw m (deeper i s)
    by s o x false m false i = rw m (beside i s)
    by s false o true m true i =
        let none = none_of head buds (subst (λ n. has_bud n buds ≡ false) (sym (eqb-true bud.head h m) ∙ eqb-true bud.head head i) o) in
        inr (rw (m, o, i) (ap (λ gs. (bud.groups ++ group ∷ []) ++ gs) none ∙ append-nil (bud.groups ++ group ∷ []) ∙ sym (ap (λ gs. (bud.groups ++ gs) ++ group ∷ []) none ∙ ap (λ gs. gs ++ group ∷ []) (append-nil bud.groups))))
    by s false o true m false i = inl (rw (m, o, i) refl)

pub copies_put : (h : ℕ) (group : List Carried) (buds : List Bud) → copies_of (with_head_group h group buds) ≡ copies_of buds
copies_put h group [] = refl
copies_put h group (bud ∷ buds) = by (copies_put h group buds) ((bud.head == h) && not (has_bud h buds)) refl (bud.head == 0) refl
  where
    by : copies_of (with_head_group h group buds) ≡ copies_of buds → (last : Bool) → ((bud.head == h) && not (has_bud h buds)) ≡ last → (here : Bool) → (bud.head == 0) ≡ here
        → copies_of (with_head_group h group (bud ∷ buds)) ≡ copies_of (bud ∷ buds)
    by s true l true i = rw (l, i) refl
    by s true l false i = rw (l, i) refl
    by s false l true i = rw (l, i) (ap (λ cs. bud.copies ++ cs) s)
    by s false l false i = rw (l, i) s

pub numbers_end : (groups : List (List Carried)) (group : List Carried) → flat_map numbered_group (groups ++ group ∷ []) ≡ flat_map numbered_group groups ++ numbered_group group
numbers_end [] group = append-nil (numbered_group group)
numbers_end (first ∷ groups) group = ap (λ ns. numbered_group first ++ ns) (numbers_end groups group) ∙ sym (append_assoc (numbered_group first) (flat_map numbered_group groups) (numbered_group group))
