-- What a volume holds, told: a row that stands there is the one that is told.
use Rattle.std.proofs.Common.{◌≡◌, ℕ, zero, suc, ◌+◌, ◌-◌, ◌<◌, List, [], ◌∷◌, ◌++◌, length, refl, ap, sym, ◌∙◌, subst, arith, length-append, inl, inr}
use Rattle.std.specs.Prelude.{All, Option, Some, slice_get, unwrap_or}
use Rattle.std.proofs.lemmas.Bool.{cases_eq}
use Rattle.index_media.specs.Clean.{placed_of}
use Rattle.index_media.specs.KeyedRow.{all_clean}
use Rattle.index_media.specs.PlacedRow.{PlacedRow, ended, leaf_at, node_at, branches_of, lebs_of}
use Rattle.index_media.specs.Stored.{AreStored, IsIndexNodeAt}
use Rattle.media_sys.specs.Index.{Index}
use Rattle.media_sys.specs.declared.branch.Branch.{Branch}
use Rattle.node_cache.specs.Loaded.{IsRowOn}
use Rattle.node_cache.specs.RowsOn.{below, lebs_parts, node_moved}
use Rattle.rows_below.specs.NodeSaid.{node_said_at, node_said_told}
use Rattle.rows_below.specs.RowBelow.{row_by}
use Rattle.rows_below.specs.RowBelowLaws.{branches_read, row_read_back}
use Rattle.ubi_volume.specs.Volume.{VolumeState}
use Rattle.table_nodes.specs.Beyond.{branch_at_place, contents_told, lebs_held, place_by, row_told}
use Rattle.node_cache.specs.CleanRows.{placed_again}

get_first : (xs ys : List (List ℕ)) (i : ℕ) → i < length xs → slice_get (xs ++ ys) i ≡ slice_get xs i
get_first [] ys i h = absurd (omega (arith, h))
get_first (x ∷ xs) ys zero h = refl
get_first (x ∷ xs) ys (suc i) h = get_first xs ys i (omega (arith, h))

get_seam : (xs : List (List ℕ)) (v : List ℕ) → slice_get (xs ++ v ∷ []) (length xs) ≡ Some v
get_seam [] v = refl
get_seam (x ∷ xs) v = get_seam xs v

held_long : (contents : ℕ → List ℕ) (n : ℕ) → length (lebs_held contents n) ≡ n
held_long contents zero = refl
held_long contents (suc n) =
    let long = held_long contents n in
    let one = length-append (lebs_held contents n) (contents n ∷ []) in
    omega (arith, long, one)

held_there : (contents : ℕ → List ℕ) (n k : ℕ) → k < n → slice_get (lebs_held contents n) k ≡ Some (contents k)
held_there contents zero k h = absurd (omega (arith, h))
held_there contents (suc n) k h = elim (cases_eq k n) [
  | inl e ↦
      let P : ℕ → Type 0 = λ i. slice_get (lebs_held contents n ++ contents n ∷ []) i ≡ Some (contents n) in
      let last = subst P (held_long contents n) (get_seam (lebs_held contents n) (contents n)) in
      let Q : ℕ → Type 0 = λ i. slice_get (lebs_held contents n ++ contents n ∷ []) i ≡ Some (contents i) in
      subst Q (sym e) last
  | inr ne ↦
      let before : k < n = omega (arith, h, ne) in
      let long = held_long contents n in
      get_first (lebs_held contents n) (contents n ∷ []) k (omega (arith, before, long)) ∙ held_there contents n k before
]

-- what is told of a LEB is what it held
pub leb_told : (contents : ℕ → List ℕ) (n k : ℕ) → k < n → contents_told (lebs_held contents n) k ≡ contents k
leb_told contents n k h = ap (λ (o : Option (List ℕ)). unwrap_or o []) (held_there contents n k h)

stored_told : (contents : ℕ → List ℕ) (n levels : ℕ) (row : PlacedRow) → All (λ lnum. lnum < n) (lebs_of row) → AreStored contents levels row → AreStored (contents_told (lebs_held contents n)) levels row
unfolding AreStored
stored_told contents n levels ended there h = tt
stored_told contents n levels (leaf_at x rest) there h = (h.0, stored_told contents n levels rest there h.1)
stored_told contents n levels (node_at b c rest) there h =
    let lebs = lebs_parts (λ lnum. lnum < n) b c rest there in (
      h.0,
      node_moved contents (contents_told (lebs_held contents n)) b (record { level = levels - 1; branches = branches_of c }) (leb_told contents n b.lnum lebs.0) h.1,
      stored_told contents n (levels - 1) c lebs.1 h.2,
      stored_told contents n levels rest lebs.2 h.3,
    )

-- what is read where a branch leads, of what is told of a volume, is what stands there
pub said_on : (s : VolumeState) (fanout level : ℕ) (branch : Branch) (row : PlacedRow) → IsRowOn s fanout (level + 1) (node_at branch row ended)
    → node_said_at (contents_told (lebs_held s.holds s.leb_cnt)) branch ≡ record { level = level; branches = branches_of row }
said_on s fanout level branch row h =
    let told = contents_told (lebs_held s.holds s.leb_cnt) in
    let said : Index = record { level = level; branches = branches_of row } in
    let p = below s fanout level branch row h in
    node_said_told told branch said (node_moved s.holds told branch said (leb_told s.holds s.leb_cnt branch.lnum p.lnum) p.said)

-- so the row below a node on a volume is the one that is told
pub row_on : (s : VolumeState) (fanout level : ℕ) (branch : Branch) (row : PlacedRow) → IsRowOn s fanout (level + 1) (node_at branch row ended)
    → row_told (lebs_held s.holds s.leb_cnt) level branch ≡ all_clean row
row_on s fanout level branch row h =
    let told = contents_told (lebs_held s.holds s.leb_cnt) in
    let p = below s fanout level branch row h in
    ap (λ (said : Index). all_clean (row_by told level said.branches)) (said_on s fanout level branch row h)
    ∙ ap all_clean (row_read_back told level row (stored_told s.holds s.leb_cnt level row p.on.there p.on.stored))

-- no key is asked for where a node stands at a place
pub stands_at : (contents : ℕ → List ℕ) (branch : Branch) (said : Index) → IsIndexNodeAt contents branch said → IsIndexNodeAt contents (branch_at_place (place_by branch)) said
stands_at contents branch said h = record { sqnum = h.sqnum; group = h.group; room = h.room; is = h.is }

-- an index node stands at a place, with the branches that are told
abbrev pub StandsAsTold : (ℕ → List ℕ) → List (List ℕ) → Branch → Type 0
StandsAsTold contents lebs branch = (said : Index) × IsIndexNodeAt contents branch said × (said.branches ≡ (node_said_at (contents_told lebs) branch).branches)

-- a node that stands with the branches of the children that are shown of it stands as it was told
pub told_stands : (contents : ℕ → List ℕ) (lebs : List (List ℕ)) (level levels : ℕ) (branch : Branch) → IsIndexNodeAt contents branch (record { level = levels; branches = branches_of (placed_of (row_told lebs level branch)) })
    → StandsAsTold contents lebs (branch_at_place (place_by branch))
told_stands contents lebs level levels branch h =
    let told = contents_told lebs in
    let below = (node_said_at told branch).branches in (
      record { level = levels; branches = branches_of (placed_of (row_told lebs level branch)) },
      stands_at contents branch (record { level = levels; branches = branches_of (placed_of (row_told lebs level branch)) }) h,
      ap branches_of (placed_again (row_by told level below)) ∙ branches_read told level below,
    )
