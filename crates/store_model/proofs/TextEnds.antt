-- Where heads end and what of them is written, where one of them gets nodes.
use Rattle.std.proofs.Common.{◌≡◌, ◌≤◌, ◌<◌, ℕ, zero, suc, ◌+◌, ◌*◌, ◌/◌, arith, Bool, true, false, not, List, [], ◌∷◌, ◌++◌, length, map, take, refl, sym, ap, subst, ◌∙◌, inl, inr, Option, Some, None}
use Rattle.std.specs.Prelude.{◌==◌, ◌||◌, get_or, nat_le}
use Rattle.std.specs.List.{AllByRecursion, list_all}
use Rattle.std.specs.Option.{option_map}
use Rattle.std.proofs.lemmas.Bool.{and_parts}
use Rattle.std.proofs.lemmas.List.{take-append-le}
use Rattle.ubifs_base.specs.declared.raw_geometry.RawGeometry.{RawGeometry}
use Rattle.fs_model.specs.Cover.{round_8}
use Rattle.leaf_map.specs.Kept.{Placed}
use Rattle.store_model.specs.Events.{changed_end, end_at, moved_on, nodes_len}
use Rattle.store_model.specs.Fits.{nodes_of_groups}
use Rattle.store_model.specs.Heads.{copies_of, head_counts, groups_of_head, with_head_group}
use Rattle.store_model.specs.Invariant.{are_within, AreAtBuds, last_bud}
use Rattle.store_model.specs.Legal.{are_distinct}
use Rattle.store_model.specs.Store.{At, Bud, Carried, leaf, Leb, Store}
use Rattle.store_model.specs.Texts.{AreHeadsWritten, ends_by, IsEnd, items_len, text_in}
use Rattle.store_model.proofs.LebRows.{all_weaker}
use Rattle.store_model.proofs.PutGroups.{copies_put, groups_put, IsGrown}
use Rattle.store_model.proofs.TextBuds.{Adds, bud_lnums, other_head}
use Rattle.store_model.proofs.TextItems.{len_append, len_map}
use Rattle.store_model.proofs.Units.{floor_grows}

-- ---- ends
pub end_of : (geo : RawGeometry) (lebs : List Leb) (head : ℕ) (ends : List (Option At)) (at : At) → AllByRecursion (IsEnd geo lebs) ends → end_at ends head ≡ Some at → IsEnd geo lebs (Some at)
end_of geo lebs head [] at all e = absurd (none head e)
  where
    none : (head : ℕ) → end_at [] head ≡ Some at → ⊥
    none zero e = absurd cc
    none (suc head) e = absurd cc
end_of geo lebs zero (first ∷ ends) at all e = subst (IsEnd geo lebs) e all.0
end_of geo lebs (suc head) (first ∷ ends) at all e = end_of geo lebs head ends at all.1 e

-- the LEBs of heads other than one keep their texts
abbrev pub OthersStay : List Bud → ℕ → List Leb → List Leb → Type 0
OthersStay buds head old new = (i l : ℕ) → (head == i) ≡ false → last_bud buds i ≡ Some l → text_in new l ≡ text_in old l

-- a head is open in its last bud
abbrev pub IsHeadAt : List Bud → ℕ → Option At → Type 0
IsHeadAt buds head None = Unit {0}
IsHeadAt buds head (Some at) = last_bud buds head ≡ Some at.lnum

pub end_stays : (geo : RawGeometry) (old new : List Leb) (at : At) → text_in new at.lnum ≡ text_in old at.lnum → IsEnd geo old (Some at) → IsEnd geo new (Some at)
end_stays geo old new at text e = (e.0 ∙ ap items_len (sym text), e.1)

low_other : (head n : ℕ) → head < n → (head == n) ≡ false
low_other head n h = grind (arith)

-- heads behind it
pub ends_behind : (geo : RawGeometry) (old new : List Leb) (buds : List Bud) (n head : ℕ) (ends : List (Option At)) → OthersStay buds head old new → head < n → AreAtBuds buds n ends
    → AllByRecursion (IsEnd geo old) ends → AllByRecursion (IsEnd geo new) ends
ends_behind geo old new buds n head [] stay past are all = tt
ends_behind geo old new buds n head (None ∷ ends) stay past are all = (tt, ends_behind geo old new buds (n + 1) head ends stay (omega (arith, past)) are all.1)
ends_behind geo old new buds n head (Some at ∷ ends) stay past are all = (
  end_stays geo old new at (stay n at.lnum (low_other head n past) are.0) all.0,
  ends_behind geo old new buds (n + 1) head ends stay (omega (arith, past)) are.1 all.1,
)

far_other : (head n j : ℕ) → head ≡ n + suc j → (head == n) ≡ false
far_other head n j h = grind (arith)

-- one head is changed
pub ends_change : (geo : RawGeometry) (old new : List Leb) (buds : List Bud) (n j head : ℕ) (change : Option At → Option At) (ends : List (Option At)) → head ≡ n + j → OthersStay buds head old new
    → ((at : Option At) → IsHeadAt buds head at → IsEnd geo old at → IsEnd geo new (change at)) → AreAtBuds buds n ends
    → AllByRecursion (IsEnd geo old) ends → AllByRecursion (IsEnd geo new) (changed_end j change ends)
ends_change geo old new buds n j head change [] same stay one are all = tt
ends_change geo old new buds n zero head change (None ∷ ends) same stay one are all =
    (one None tt tt, ends_behind geo old new buds (n + 1) head ends stay (omega (arith, same)) are all.1)
ends_change geo old new buds n zero head change (Some at ∷ ends) same stay one are all =
    let is : head ≡ n = omega (arith, same) in
    (one (Some at) (ap (last_bud buds) is ∙ are.0) all.0, ends_behind geo old new buds (n + 1) head ends stay (omega (arith, same)) are.1 all.1)
ends_change geo old new buds n (suc j) head change (None ∷ ends) same stay one are all =
    (tt, ends_change geo old new buds (n + 1) j head change ends (omega (arith, same)) stay one are all.1)
ends_change geo old new buds n (suc j) head change (Some at ∷ ends) same stay one are all = (
  end_stays geo old new at (stay n at.lnum (far_other head n j same) are.0) all.0,
  ends_change geo old new buds (n + 1) j head change ends (omega (arith, same)) stay one are.1 all.1,
)

-- a head moves on behind the nodes that it gets
pub ends_grow : (geo : RawGeometry) (old new : List Leb) (buds : List Bud) (head lnum : ℕ) (nodes : List Placed) (ends : List (Option At)) → Adds old new lnum nodes
    → are_distinct (bud_lnums buds) ≡ true → last_bud buds head ≡ Some lnum → AreAtBuds buds 0 ends → AllByRecursion (IsEnd geo old) ends
    → AllByRecursion (IsEnd geo new) (changed_end head (option_map (moved_on geo (nodes_len nodes))) ends)
ends_grow geo old new buds head lnum nodes ends adds d last are all =
    ends_change geo old new buds 0 head head (option_map (moved_on geo (nodes_len nodes))) ends (omega arith) (λ i l away e. adds.away l (other_head head i lnum l buds d away last e)) one are all
  where
    one : (at : Option At) → IsHeadAt buds head at → IsEnd geo old at → IsEnd geo new (option_map (moved_on geo (nodes_len nodes)) at)
    one None is e = tt
    one (Some at) is e = (off, refl)
      where
        here : lnum ≡ at.lnum
        here = let both : Some lnum ≡ Some at.lnum = sym last ∙ is in cc

        off : at.offs + nodes_len nodes ≡ items_len (text_in new at.lnum)
        off =
            ap (λ (i : ℕ). i + nodes_len nodes) e.0
            ∙ ap (λ (i : ℕ). items_len (text_in old at.lnum) + i) (sym (len_map nodes))
            ∙ sym (len_append (text_in old at.lnum) (map leaf nodes))
            ∙ sym (subst (λ (i : ℕ). items_len (text_in new i) ≡ items_len (text_in old i ++ map leaf nodes)) here (ap items_len adds.here))

-- ---- what is synced
pub within_at : (a b : List ℕ) (i : ℕ) → are_within a b ≡ true → get_or a i 0 ≤ get_or b i 0
within_at [] b i h = none i
  where
    none : (i : ℕ) → get_or [] i 0 ≤ get_or b i 0
    none zero = omega arith
    none (suc i) = omega arith
within_at (n ∷ a) [] i h = absurd cc
within_at (n ∷ a) (k ∷ b) zero h = le n k (and_parts (nat_le n k) (are_within a b) h).0
  where
    le : (n k : ℕ) → nat_le n k ≡ true → n ≤ k
    le n k h = grind (arith)
within_at (n ∷ a) (k ∷ b) (suc i) h = within_at a b i (and_parts (nat_le n k) (are_within a b) h).1

-- of a head no more groups are synced than it has
pub counts_fit : (synced : List ℕ) (buds : List Bud) (i : ℕ) → are_within synced (head_counts buds) ≡ true → get_or synced (suc i) 0 ≤ length (groups_of_head (suc i) buds)
counts_fit synced buds zero h = within_at synced (head_counts buds) 1 h
counts_fit synced buds (suc zero) h = within_at synced (head_counts buds) 2 h
counts_fit synced buds (suc (suc i)) h =
    let none : get_or synced (suc (suc (suc i))) 0 ≤ get_or (head_counts buds) (suc (suc (suc i))) 0 = within_at synced (head_counts buds) (suc (suc (suc i))) h in
    let zero_of : get_or (head_counts buds) (suc (suc (suc i))) 0 ≡ 0 = nothing i in
    omega (arith, none, zero_of)
  where
    nothing : (i : ℕ) → get_or {A = ℕ} [] i 0 ≡ 0
    nothing zero = refl
    nothing (suc i) = refl

-- a group behind them changes none that is synced
pub synced_put : (synced : List ℕ) (buds : List Bud) (h : ℕ) (group : List Carried) (i : ℕ) → are_within synced (head_counts buds) ≡ true
    → nodes_of_groups (take (get_or synced (suc i) 0) (groups_of_head (suc i) (with_head_group h group buds))) ≡ nodes_of_groups (take (get_or synced (suc i) 0) (groups_of_head (suc i) buds))
synced_put synced buds h group i fits = by (groups_put (suc i) h group buds)
  where
    by : IsGrown (groups_of_head (suc i) buds) group (groups_of_head (suc i) (with_head_group h group buds))
        → nodes_of_groups (take (get_or synced (suc i) 0) (groups_of_head (suc i) (with_head_group h group buds))) ≡ nodes_of_groups (take (get_or synced (suc i) 0) (groups_of_head (suc i) buds))
    by (inl same) = ap (λ (gs : List (List Carried)). nodes_of_groups (take (get_or synced (suc i) 0) gs)) same
    by (inr more) =
        ap (λ (gs : List (List Carried)). nodes_of_groups (take (get_or synced (suc i) 0) gs)) more
        ∙ ap nodes_of_groups (take-append-le (get_or synced (suc i) 0) (groups_of_head (suc i) buds) (group ∷ []) (counts_fit synced buds i fits))

pub copies_synced : (synced : List ℕ) (buds : List Bud) (h : ℕ) (group : List Carried) → take (get_or synced 0 0) (copies_of (with_head_group h group buds)) ≡ take (get_or synced 0 0) (copies_of buds)
copies_synced synced buds h group = ap (λ (cs : List Placed). take (get_or synced 0 0) cs) (copies_put h group buds)

-- ---- what is written
pub ends_later : (lnum low high : ℕ) (p : Placed) → low ≤ high → ends_by lnum low p ≡ true → ends_by lnum high p ≡ true
ends_later lnum low high p more h = by (p.lnum == lnum) (p.offs + round_8 p.len) h
  where
    by : (b : Bool) (end : ℕ) → (not b || nat_le end low) ≡ true → (not b || nat_le end high) ≡ true
    by true end h = grind (arith, more, h)
    by false end h = refl

pub same_written : (old new : ℕ → List Placed) (n : ℕ) (ends : List (Option At)) → ((i : ℕ) → new i ≡ old i) → AreHeadsWritten old n ends → AreHeadsWritten new n ends
same_written old new n [] same w = tt
same_written old new n (None ∷ ends) same w = same_written old new (n + 1) ends same w
same_written old new n (Some at ∷ ends) same w = (ap (λ (ns : List Placed). list_all (ends_by at.lnum at.written) ns) (same n) ∙ w.0, same_written old new (n + 1) ends same w.1)

pub written_grows : (m : Store) (old new : ℕ → List Placed) (n j bytes : ℕ) (ends : List (Option At)) → 0 < m.geo.min_io → ((i : ℕ) → new i ≡ old i) → AllByRecursion (IsEnd m.geo m.lebs) ends → AreHeadsWritten old n ends
    → AreHeadsWritten new n (changed_end j (option_map (moved_on m.geo bytes)) ends)
written_grows m old new n j bytes [] some same all w = tt
written_grows m old new n zero bytes (None ∷ ends) some same all w = same_written old new (n + 1) ends same w
written_grows m old new n zero bytes (Some at ∷ ends) some same all w = (
  ap (λ (ns : List Placed). list_all (ends_by at.lnum later) ns) (same n) ∙ all_weaker (ends_by at.lnum at.written) (ends_by at.lnum later) (λ p h. ends_later at.lnum at.written later p more h) (old n) w.0,
  same_written old new (n + 1) ends same w.1,
)
  where
    later : ℕ
    later = (at.offs + bytes) / m.geo.min_io * m.geo.min_io

    more : at.written ≤ later
    more =
        let grows : at.offs / m.geo.min_io * m.geo.min_io ≤ later = floor_grows at.offs (at.offs + bytes) m.geo.min_io some (omega arith) in
        let is = all.0.1 in
        omega (arith, grows, is)
written_grows m old new n (suc j) bytes (None ∷ ends) some same all w = written_grows m old new (n + 1) j bytes ends some same all.1 w
written_grows m old new n (suc j) bytes (Some at ∷ ends) some same all w =
    (ap (λ (ns : List Placed). list_all (ends_by at.lnum at.written) ns) (same n) ∙ w.0, written_grows m old new (n + 1) j bytes ends some same all.1 w.1)
