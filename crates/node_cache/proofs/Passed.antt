-- What a walk along the branches of a row passes over.
use Rattle.std.proofs.Common.{◌≡◌, ℕ, zero, suc, ◌+◌, ◌-◌, ◌<◌, ◌≤◌, true, List, [], ◌∷◌, ◌++◌, drop, refl, ap, sym, ◌∙◌, subst, arith, append_assoc}
use Rattle.std.specs.Prelude.{None, Some, ⊤}
use Rattle.std.proofs.lemmas.Bool.{le-leb, leb-true}
use Rattle.index_tree.specs.Order.{leaf_rank}
use Rattle.index_tree.specs.Shape.{contents}
use Rattle.index_tree.specs.declared.leaf.Leaf.{Leaf}
use Rattle.media_sys.specs.declared.branch.Branch.{Branch}
use Rattle.index_media.specs.KeyedBounds.{AreAtMost, most_append}
use Rattle.index_media.specs.Keys.{branch_rank, AreBounded}
use Rattle.index_media.specs.PlacedRow.{PlacedRow, ended, leaf_at, node_at, plain, branches_of}
use Rattle.ubi_volume.specs.Volume.{VolumeState, Keeps, SameShape}
use Rattle.node_cache.specs.Branches.{branches_begin}
use Rattle.node_cache.specs.FirstAt.{first_at}
use Rattle.node_cache.specs.Loaded.{IsRowOn}
use Rattle.node_cache.specs.RowsOn.{below, row_moved}

-- ---- a row that begins within a rank further on begins within it
lowest : (least at : ℕ) (row : PlacedRow) → AreBounded least None row → branches_begin at (branches_of row) ≡ true → least ≤ at
lowest least at ended h b = absurd cc
lowest least at (leaf_at x rest) h b = let low = h.0 in let up = leb-true (leaf_rank x) at b in omega (arith, low, up)
lowest least at (node_at c children rest) h b = let low = h.0 in let up = leb-true (branch_rank c) at b in omega (arith, low, up)

earlier : (at least : ℕ) (row : PlacedRow) (n : ℕ) → AreBounded least None row → branches_begin at (drop n (branches_of row)) ≡ true → branches_begin at (branches_of row) ≡ true
earlier at least row zero h b = b
earlier at least ended (suc n) h b = absurd cc
earlier at least (leaf_at x rest) (suc n) h b = le-leb (leaf_rank x) at (lowest (leaf_rank x) at rest h.2 (earlier at (leaf_rank x) rest n h.2 b))
earlier at least (node_at c children rest) (suc n) h b = le-leb (branch_rank c) at (lowest (branch_rank c) at rest h.3 (earlier at (branch_rank c) rest n h.3 b))

begins : (at : ℕ) (row : PlacedRow) (all : List Branch) (n : ℕ) → branches_of row ≡ all → AreBounded 0 None row → branches_begin at (drop n all) ≡ true → branches_begin at all ≡ true
begins at row all n e h b =
    let P : List Branch → Type 0 = λ v. branches_begin at (drop n v) ≡ true in
    let Q : List Branch → Type 0 = λ v. branches_begin at v ≡ true in
    subst Q e (earlier at 0 row n h (subst P (sym e) b))

-- ---- the row behind those that are passed over, whose leaves are within the rank
pub record Passed (s : VolumeState) (fanout levels at : ℕ) (row : PlacedRow) (behind : List Branch) (n : ℕ) : Type 0 where
  pub others : PlacedRow
  pub branches : branches_of others ≡ behind
  pub on : IsRowOn s fanout levels others
  pub front : List Leaf
  pub is : contents (plain row) ≡ front ++ contents (plain others)
  pub within : AreAtMost (Some at) front
  pub none : n ≡ 0 → front ≡ []

pub passed : (s : VolumeState) (fanout levels at : ℕ) (row : PlacedRow) (all : List Branch) (n : ℕ) → branches_of row ≡ all → IsRowOn s fanout levels row
    → (0 < n → branches_begin at (drop n all) ≡ true) → Passed s fanout levels at row (drop n all) n
passed s fanout levels at row all zero e on b = record { others = row; branches = e; on = on; front = []; is = refl; within = tt; none = λ z. refl }
passed s fanout levels at row [] (suc n) e on b = record { others = row; branches = e; on = on; front = []; is = refl; within = tt; none = λ z. refl }
passed s fanout levels at row (branch ∷ rest) (suc n) e on b =
    let p = first_at s fanout levels row branch rest e on in
    let here = b (omega arith) in
    let more = passed s fanout levels at p.others rest n p.branches p.on (λ some. here) in
    let own = contents (plain p.alone) in
    record {
      others = more.others;
      branches = more.branches;
      on = more.on;
      front = own ++ more.front;
      is = p.is ∙ ap (λ (v : List Leaf). own ++ v) more.is ∙ sym (append_assoc own more.front (contents (plain more.others)));
      within = most_append (Some at) own more.front (p.within at (begins at p.others rest n p.branches p.on.bounded here)) more.within;
      none = λ z. absurd (omega (arith, z));
    }

-- the same of the children of a node, on a volume that keeps all
pub behind : (a b : VolumeState) (fanout level at : ℕ) (branch : Branch) (row : PlacedRow) (all : List Branch) (n : ℕ) → IsRowOn a fanout (level + 1) (node_at branch row ended)
    → Keeps a b → SameShape a b → branches_of row ≡ all → (0 < n → branches_begin at (drop n all) ≡ true) → Passed b fanout level at row (drop n all) n
behind a b fanout level at branch row all n on k s e h =
    passed b fanout level at row all n e (row_moved a b fanout level row k s (below a fanout level branch row on).on) h

-- ---- leaves below a rank
abbrev pub AreBelow : ℕ → List Leaf → Type 0
AreBelow at [] = ⊤
AreBelow at (x ∷ xs) = (leaf_rank x < at) × AreBelow at xs

pub below_next : (at : ℕ) (xs : List Leaf) → 0 < at → AreAtMost (Some (at - 1)) xs → AreBelow at xs
below_next at [] some h = tt
below_next at (x ∷ xs) some h = let low = h.0 in (omega (arith, some, low), below_next at xs some h.1)

-- those in front where branches of a lower rank are passed over, if there are any
pub below_passed : (at n : ℕ) (front : List Leaf) → (0 < n → 0 < at) → (n ≡ 0 → front ≡ []) → AreAtMost (Some (at - 1)) front → AreBelow at front
below_passed at zero front some none h = let P : List Leaf → Type 0 = λ v. AreBelow at v in subst P (sym (none refl)) tt
below_passed at (suc n) front some none h = below_next at front (some (omega arith)) h
