-- What holds of clean nodes still does after a change, and what stands on a volume is loaded so.
use Rattle.std.proofs.Common.{◌≡◌, ℕ, ◌+◌, ◌-◌, true, List, [], ◌∷◌, ◌++◌, length, refl, sym, subst, arith, inl, inr, map}
use Rattle.std.specs.Prelude.{◌==◌, nat_le, nat_lt, Option, None, All}
use Rattle.std.proofs.lemmas.Bool.{and_from, cases_Bool, eq-eqb, lt-ltb}
use Rattle.std.proofs.lemmas.Bool.Decides.{nat_tests}
use Rattle.std.proofs.lemmas.List.Elements.{All-cons, All-head, All-nil, All-tail}
use Rattle.ubifs_base.specs.declared.key.Key.{Key}
use Rattle.index_tree.specs.Levels.{levelled}
use Rattle.index_tree.specs.Order.{key_rank, leaf_rank}
use Rattle.index_tree.specs.RangeRemoval.{in_range, within_range}
use Rattle.index_tree.specs.Removal.{holds, same_leaf}
use Rattle.index_tree.specs.Shape.{Shape, contents, count, fits, left_half, lone}
use Rattle.index_tree.specs.declared.leaf.Leaf.{Leaf}
use Rattle.index_media.specs.Insertion.{inserted_by_keys, keyed_back, keyed_front, keyed_parted, lowered, starts_by, with_leaf_by_keys}
use Rattle.index_media.specs.InsertionLaws.{clean_bare}
use Rattle.index_media.specs.InsertionSound.{fit_node}
use Rattle.index_media.specs.KeyedRange.{place_without_range, pruned_by_keys, without_range_by_keys}
use Rattle.index_media.specs.KeyedRemoval.{keyed_collapsed, keyed_tidied, removed_by_keys, replaced_by_keys, without_leaf_by_keys}
use Rattle.index_media.specs.KeyedRow.{KeyedRow, no_more, leaf_in, node_in, all_clean, bare}
use Rattle.index_media.specs.PlacedRow.{PlacedRow, ended, leaf_at, node_at, Stretch, all_nodes, branches_of, lebs_of, plain}
use Rattle.index_media.specs.Standing.{OfClean, OfCleanNodes, StandsAs}
use Rattle.index_media.specs.Stored.{AreStored, IsIndexNodeAt}
use Rattle.media_sys.specs.declared.branch.Branch.{Branch}
use Rattle.node_table.specs.Changing.{changed_row}
use Rattle.node_table.specs.Exchange.{tree_without}
use Rattle.node_table.specs.declared.change.Change.{Change}
use Rattle.node_table.specs.declared.change.Change.TheVariants.{Insert, Remove, RemoveRange, Replace}
use Rattle.index_commit.specs.Lebs.{IsGiven}
use Rattle.index_commit.specs.Standing.{AreOutside, IsOutside}
use Rattle.node_cache.specs.CleanRows.{all_is_clean, placed_again}

-- ---- insertions
front_clean : (P : Key → Stretch → KeyedRow → Type 0) (n : ℕ) (row : KeyedRow) → OfCleanNodes P row → OfCleanNodes P (keyed_front n row)
front_clean P n no_more h = tt
front_clean P n (leaf_in x rest) h = elim (cases_Bool (n == 0)) [
  | inl e ↦ rw e tt
  | inr e ↦ rw e (front_clean P (n - 1) rest h)
]
front_clean P n (node_in key place c rest) h = elim (cases_Bool (n == 0)) [
  | inl e ↦ rw e tt
  | inr e ↦ rw e (h.0, h.1, front_clean P (n - 1) rest h.2)
]

back_clean : (P : Key → Stretch → KeyedRow → Type 0) (n : ℕ) (row : KeyedRow) → OfCleanNodes P row → OfCleanNodes P (keyed_back n row)
back_clean P n no_more h = tt
back_clean P n (leaf_in x rest) h = elim (cases_Bool (n == 0)) [
  | inl e ↦ rw e h
  | inr e ↦ rw e (back_clean P (n - 1) rest h)
]
back_clean P n (node_in key place c rest) h = elim (cases_Bool (n == 0)) [
  | inl e ↦ rw e h
  | inr e ↦ rw e (back_clean P (n - 1) rest h.2)
]

parted_clean : (P : Key → Stretch → KeyedRow → Type 0) (f : ℕ) (key : Key) (c rest : KeyedRow) → OfCleanNodes P c → OfCleanNodes P rest → OfCleanNodes P (keyed_parted f key c rest)
unfolding keyed_parted
parted_clean P f key c rest below others = elim (cases_Bool (nat_le (f + 1) (count (bare c)))) [
  | inl e ↦ rw e (tt, front_clean P (left_half f) c below, (tt, back_clean P (left_half f) c below, others))
  | inr e ↦ rw e (tt, below, others)
]

inserted_clean : (P : Key → Stretch → KeyedRow → Type 0) (f : ℕ) (new : Leaf) (row : KeyedRow) → OfCleanNodes P row → OfCleanNodes P (inserted_by_keys f new row)
inserted_clean P f new no_more h = tt
inserted_clean P f new (leaf_in x rest) h = elim (cases_Bool (nat_le (leaf_rank x) (leaf_rank new))) [
  | inl e ↦ rw e (inserted_clean P f new rest h)
  | inr e ↦ rw e h
]
inserted_clean P f new (node_in key place c rest) h = elim (cases_Bool (starts_by (leaf_rank new) rest)) [
  | inl e ↦ rw e (h.0, h.1, inserted_clean P f new rest h.2)
  | inr e ↦ rw e (parted_clean P f (lowered new key) (inserted_by_keys f new c) rest (inserted_clean P f new c h.1) h.2)
]

with_leaf_clean : (P : Key → Stretch → KeyedRow → Type 0) (f : ℕ) (new : Leaf) (row : KeyedRow) → OfCleanNodes P row → OfCleanNodes P (with_leaf_by_keys f new row)
unfolding with_leaf_by_keys
with_leaf_clean P f new row h = elim (cases_Bool (lone (bare (inserted_by_keys f new row)))) [
  | inl e ↦ rw e (inserted_clean P f new row h)
  | inr e ↦ rw e (tt, inserted_clean P f new row h, tt)
]

-- ---- removals and replacements
tidied_clean : (P : Key → Stretch → KeyedRow → Type 0) (key : Key) (place : Option Stretch) (c rest : KeyedRow) → OfClean P key place c → OfCleanNodes P c → OfCleanNodes P rest
    → OfCleanNodes P (keyed_tidied (node_in key place c rest))
tidied_clean P key place c rest own below others = elim (cases_Bool (count (bare c) == 0)) [
  | inl e ↦ rw e others
  | inr e ↦ rw e (own, below, others)
]

removed_clean : (P : Key → Stretch → KeyedRow → Type 0) (gone : Leaf) (row : KeyedRow) → OfCleanNodes P row → OfCleanNodes P (removed_by_keys gone row)
removed_clean P gone no_more h = tt
removed_clean P gone (leaf_in x rest) h = elim (cases_Bool (same_leaf x gone)) [
  | inl e ↦ rw e h
  | inr e ↦ rw e (removed_clean P gone rest h)
]
removed_clean P gone (node_in key place c rest) h = elim (cases_Bool (holds gone (contents (bare c)))) [
  | inl e ↦ rw e (tidied_clean P key None (removed_by_keys gone c) rest tt (removed_clean P gone c h.1) h.2)
  | inr e ↦ rw e (h.0, h.1, removed_clean P gone rest h.2)
]

collapsed_clean : (P : Key → Stretch → KeyedRow → Type 0) (row : KeyedRow) → OfCleanNodes P row → OfCleanNodes P (keyed_collapsed row)
collapsed_clean P no_more h = tt
collapsed_clean P (leaf_in x rest) h = h
collapsed_clean P (node_in key place c rest) h = elim (cases_Bool (lone (bare c))) [
  | inl e ↦ rw e (collapsed_clean P c h.1)
  | inr e ↦ rw e h
]

without_clean : (P : Key → Stretch → KeyedRow → Type 0) (gone : Leaf) (row : KeyedRow) → OfCleanNodes P row → OfCleanNodes P (tree_without gone row)
unfolding without_leaf_by_keys
without_clean P gone row h = elim (cases_Bool (holds gone (contents (bare row)))) [
  | inl e ↦ rw e (collapsed_clean P (removed_by_keys gone row) (removed_clean P gone row h))
  | inr e ↦ rw e h
]

replaced_clean : (P : Key → Stretch → KeyedRow → Type 0) (old new : Leaf) (row : KeyedRow) → OfCleanNodes P row → OfCleanNodes P (replaced_by_keys old new row)
replaced_clean P old new no_more h = tt
replaced_clean P old new (leaf_in x rest) h = elim (cases_Bool (same_leaf x old)) [
  | inl e ↦ rw e h
  | inr e ↦ rw e (replaced_clean P old new rest h)
]
replaced_clean P old new (node_in key place c rest) h = elim (cases_Bool (holds old (contents (bare c)))) [
  | inl e ↦ rw e (tt, replaced_clean P old new c h.1, h.2)
  | inr e ↦ rw e (h.0, h.1, replaced_clean P old new rest h.2)
]

-- ---- removals of a range
none_long : (xs : List Leaf) → length xs ≡ 0 → xs ≡ []
none_long [] e = refl
none_long (x ∷ xs) e = absurd (omega (arith, e))

-- the law that a row stays from which nothing goes
abbrev pub RowsStay : Type 0
RowsStay = (fanout from to : ℕ) (row : KeyedRow) → fits fanout (bare row) ≡ true → within_range from to (contents (bare row)) ≡ [] → pruned_by_keys from to row ≡ row

pruned_own : RowsStay → (P : Key → Stretch → KeyedRow → Type 0) (f from to : ℕ) (key : Key) (place : Option Stretch) (c : KeyedRow) → fits f (bare c) ≡ true → OfClean P key place c
    → OfClean P key (place_without_range from to c place) (pruned_by_keys from to c)
pruned_own stay P f from to key place c g h = elim (cases_Bool (length (within_range from to (contents (bare c))) == 0)) [
  | inl e ↦
      let none : within_range from to (contents (bare c)) ≡ [] = none_long (within_range from to (contents (bare c))) (grind (arith, nat_tests, e)) in
      rw e (subst (λ d. OfClean P key place d) (sym (stay f from to c g none)) h)
  | inr e ↦ rw e tt
]

pruned_clean : RowsStay → (P : Key → Stretch → KeyedRow → Type 0) (f from to : ℕ) (row : KeyedRow) → fits f (bare row) ≡ true → OfCleanNodes P row → OfCleanNodes P (pruned_by_keys from to row)
pruned_clean stay P f from to no_more g h = tt
pruned_clean stay P f from to (leaf_in x rest) g h = elim (cases_Bool (in_range from to x)) [
  | inl e ↦ rw e (pruned_clean stay P f from to rest g h)
  | inr e ↦ rw e (pruned_clean stay P f from to rest g h)
]
pruned_clean stay P f from to (node_in key place c rest) g h =
    let fit = fit_node f (bare c) (bare rest) g in
    tidied_clean P key (place_without_range from to c place) (pruned_by_keys from to c) (pruned_by_keys from to rest) (pruned_own stay P f from to key place c fit.children h.0)
    (pruned_clean stay P f from to c fit.children h.1) (pruned_clean stay P f from to rest fit.others h.2)

without_range_clean : RowsStay → (P : Key → Stretch → KeyedRow → Type 0) (f from to : ℕ) (row : KeyedRow) → fits f (bare row) ≡ true → OfCleanNodes P row → OfCleanNodes P (without_range_by_keys from to row)
unfolding without_range_by_keys
without_range_clean stay P f from to row g h = collapsed_clean P (pruned_by_keys from to row) (pruned_clean stay P f from to row g h)

-- ---- any change
pub change_keeps : RowsStay → (f : ℕ) (change : Change) (contents : ℕ → List ℕ) (lebs : List ℕ) (row : KeyedRow) → fits f (bare row) ≡ true → AreOutside contents lebs row
    → AreOutside contents lebs (changed_row f change row)
change_keeps stay f (Insert x) contents lebs row g h = with_leaf_clean (StandsAs contents (IsOutside lebs)) f x row h
change_keeps stay f (Remove x) contents lebs row g h = without_clean (StandsAs contents (IsOutside lebs)) x row h
change_keeps stay f (Replace gone come) contents lebs row g h = replaced_clean (StandsAs contents (IsOutside lebs)) gone come row h
change_keeps stay f (RemoveRange from to) contents lebs row g h = without_range_clean stay (StandsAs contents (IsOutside lebs)) f (key_rank from) (key_rank to) row g h

-- ---- an index that stands
stored_levels : (media : ℕ → List ℕ) (levels : ℕ) (row : PlacedRow) → AreStored media levels row → levelled levels (plain row) ≡ true
unfolding AreStored
stored_levels media levels ended h = refl
stored_levels media levels (leaf_at x rest) h = and_from (levels == 0) (levelled levels (plain rest)) (eq-eqb levels 0 h.0) (stored_levels media levels rest h.1)
stored_levels media levels (node_at b c rest) h =
    let above : nat_lt 0 levels ≡ true = lt-ltb 0 levels h.0 in
    let children = stored_levels media (levels - 1) c h.2 in
    let others = stored_levels media levels rest h.3 in
    rw (above, children, others) refl

abbrev leb_of : Branch → ℕ
leb_of branch = branch.lnum

split_all : (P : ℕ → Type 0) (xs ys : List Branch) → All P (map leb_of (xs ++ ys)) → All P (map leb_of xs) × All P (map leb_of ys)
split_all P [] ys h = (All-nil P, h)
split_all P (x ∷ xs) ys h =
    let rest = split_all P xs ys (All-tail P x.lnum (map leb_of (xs ++ ys)) h) in
    (All-cons P x.lnum (map leb_of xs) (All-head P x.lnum (map leb_of (xs ++ ys)) h) rest.0, rest.1)

pub stored_outside : (media : ℕ → List ℕ) (lebs : List ℕ) (levels : ℕ) (row : PlacedRow) → AreStored media levels row → All (λ k. IsGiven lebs k → ⊥) (lebs_of row) → AreOutside media lebs (all_clean row)
unfolding AreStored
stored_outside media lebs levels ended h apart = tt
stored_outside media lebs levels (leaf_at x rest) h apart = stored_outside media lebs levels rest h.1 apart
stored_outside media lebs levels (node_at b c rest) h apart =
    let Q : ℕ → Type 0 = λ k. IsGiven lebs k → ⊥ in
    let others = map leb_of (all_nodes c ++ all_nodes rest) in
    let both = split_all Q (all_nodes c) (all_nodes rest) (All-tail Q b.lnum others apart) in
    let L : Shape → Type 0 = λ s. levelled (levels - 1) s ≡ true in
    let N : PlacedRow → Type 0 = λ r. IsIndexNodeAt media b (record { level = levels - 1; branches = branches_of r }) in (
      record {
        clean = all_is_clean c;
        level = levels - 1;
        levels = subst L (sym (clean_bare c)) (stored_levels media (levels - 1) c h.2);
        node = subst N (sym (placed_again c)) h.1;
        holds = All-head Q b.lnum others apart;
      },
      stored_outside media lebs (levels - 1) c h.2 both.0,
      stored_outside media lebs levels rest h.3 both.1,
    )
