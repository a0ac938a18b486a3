-- What is at a row's first branch, and what is behind it.
use Rattle.std.proofs.Common.{◌≡◌, ℕ, ◌+◌, ◌-◌, ◌<◌, true, false, List, [], ◌∷◌, ◌++◌, length, refl, ap, sym, ◌∙◌, subst, arith, append-nil}
use Rattle.std.specs.Prelude.{None, Some}
use Rattle.std.proofs.lemmas.List.Elements.{All-nil}
use Rattle.index_tree.specs.Order.{leaf_rank}
use Rattle.index_tree.specs.Shape.{Shape, contents, done}
use Rattle.index_tree.specs.declared.leaf.Leaf.{Leaf}
use Rattle.media_sys.specs.declared.branch.Branch.{Branch}
use Rattle.index_media.specs.Insertion.{starts_by}
use Rattle.index_media.specs.InsertionLaws.{clean_bare}
use Rattle.index_media.specs.InsertionSound.{fit_node, fits_node}
use Rattle.index_media.specs.KeyedBounds.{AreAtMost, AreAtLeast, most_append, most_weaken, keyed_at_most, within_start, above_start, start_above}
use Rattle.index_media.specs.KeyedKeys.{key_before, AreKeysBounded}
use Rattle.index_media.specs.KeyedRow.{all_clean}
use Rattle.index_media.specs.Keys.{branch_rank}
use Rattle.index_media.specs.PlacedRow.{PlacedRow, ended, leaf_at, node_at, plain, branch_to, leaf_of, branches_of}
use Rattle.index_media.specs.Stored.{AreStored}
use Rattle.ubi_volume.specs.Volume.{VolumeState}
use Rattle.node_cache.specs.Branches.{branches_begin}
use Rattle.node_cache.specs.Loaded.{IsRowOn}
use Rattle.node_cache.specs.RowsOn.{clean_bounded, loose, first_leaf, first_node, lebs_parts, lebs_alone}

-- a row, in two: what is at its first branch alone, and the others
pub record FirstAt (s : VolumeState) (fanout levels : ℕ) (row : PlacedRow) (branch : Branch) (rest : List Branch) : Type 0 where
  pub alone : PlacedRow
  pub others : PlacedRow
  pub own : branches_of alone ≡ branch ∷ []
  pub branches : branches_of others ≡ rest
  pub on_alone : IsRowOn s fanout levels alone
  pub on : IsRowOn s fanout levels others
  pub is : contents (plain row) ≡ contents (plain alone) ++ contents (plain others)
  pub within : (rank : ℕ) → branches_begin rank rest ≡ true → AreAtMost (Some rank) (contents (plain alone))
  pub behind : (rank : ℕ) → branches_begin rank rest ≡ false → AreAtLeast (rank + 1) (contents (plain others))

begins_as : (rank : ℕ) (row : PlacedRow) (branches : List Branch) → branches_of row ≡ branches → branches_begin rank branches ≡ starts_by rank (all_clean row)
begins_as rank ended branches e = ap (branches_begin rank) (sym e)
begins_as rank (leaf_at x rest) branches e = ap (branches_begin rank) (sym e)
begins_as rank (node_at b c rest) branches e = ap (branches_begin rank) (sym e)

-- behind a rank that a row doesn't start within
above : (rank : ℕ) (row : PlacedRow) (branches : List Branch) (least : ℕ) → branches_of row ≡ branches → AreKeysBounded least None (all_clean row) → branches_begin rank branches ≡ false
    → AreAtLeast (rank + 1) (contents (plain row))
above rank row branches least e h b =
    let P : Shape → Type 0 = λ t. AreAtLeast (rank + 1) (contents t) in
    subst P (clean_bare row) (above_start rank least None (all_clean row) h (sym (begins_as rank row branches e) ∙ b))

pub first_at : (s : VolumeState) (fanout levels : ℕ) (row : PlacedRow) (branch : Branch) (rest : List Branch) → branches_of row ≡ branch ∷ rest → IsRowOn s fanout levels row
    → FirstAt s fanout levels row branch rest
unfolding AreStored
first_at s fanout levels ended branch rest e h = absurd cc
first_at s fanout levels (leaf_at x others) branch rest e h =
    let same : branch_to x ≡ branch = cc in
    let next : branches_of others ≡ rest = cc in
    let bounded = clean_bounded (leaf_rank x) None others h.bounded.2 in
    record {
      alone = leaf_at x ended;
      others = others;
      own = ap (λ b. b ∷ []) same;
      branches = next;
      on_alone = record { stored = (h.stored.0, tt); fits = refl; bounded = (omega arith, tt, tt); keys = (h.keys.0, tt); there = All-nil (λ lnum. lnum < s.leb_cnt) };
      on = record { stored = h.stored.1; fits = h.fits; bounded = loose 0 (leaf_rank x) None others (omega arith) h.bounded.2; keys = h.keys.1; there = h.there };
      is = refl;
      within = λ rank b. (start_above (leaf_rank x) rank None (all_clean others) bounded (sym (begins_as rank others rest next) ∙ b), tt);
      behind = λ rank b. above rank others rest (leaf_rank x) next bounded b;
    }
first_at s fanout levels (node_at b c others) branch rest e h =
    let same : b ≡ branch = cc in
    let next : branches_of others ≡ rest = cc in
    let fit = fit_node fanout (plain c) (plain others) h.fits in
    let lebs = lebs_parts (λ lnum. lnum < s.leb_cnt) b c others h.there in
    let all = clean_bounded 0 None (node_at b c others) h.bounded in
    let P : Shape → Type 0 = λ t. AreAtMost (key_before (all_clean others) None) (contents t) in
    let below = subst P (clean_bare c) (keyed_at_most (branch_rank b) (key_before (all_clean others) None) (all_clean c) all.2) in
    record {
      alone = node_at b c ended;
      others = others;
      own = ap (λ d. d ∷ []) same;
      branches = next;
      on_alone = record {
        stored = (h.stored.0, h.stored.1, h.stored.2, tt);
        fits = fits_node fanout (plain c) done fit.least fit.most fit.children refl;
        bounded = loose 0 0 None (node_at b c ended) (omega arith) (h.bounded.0, tt, loose (branch_rank b) (branch_rank b) _ c (omega arith) h.bounded.2, tt);
        keys = (h.keys.0, tt);
        there = lebs_alone (λ lnum. lnum < s.leb_cnt) b c lebs.0 lebs.1;
      };
      on = record { stored = h.stored.3; fits = fit.others; bounded = loose 0 (branch_rank b) None others (omega arith) h.bounded.3; keys = h.keys.1; there = lebs.2 };
      is = ap (λ (v : List Leaf). v ++ contents (plain others)) (sym (append-nil (contents (plain c))));
      within = λ rank e. most_append (Some rank) (contents (plain c)) [] (most_weaken (key_before (all_clean others) None) (Some rank) (contents (plain c)) (within_start rank None (all_clean others) (sym (begins_as rank others rest next) ∙ e)) below) tt;
      behind = λ rank e. above rank others rest (branch_rank b) next all.3 e;
    }

-- ---- a row of one branch
none_at : (row : PlacedRow) → branches_of row ≡ [] → contents (plain row) ≡ []
none_at ended e = refl
none_at (leaf_at x rest) e = absurd cc
none_at (node_at b c rest) e = absurd cc

pub no_leaf : (row : PlacedRow) (branches : List Branch) → branches_of row ≡ branches → length branches ≡ 0 → contents (plain row) ≡ []
no_leaf ended branches e none = refl
no_leaf (leaf_at x rest) branches e none = let long = ap length e in absurd (omega (arith, long, none))
no_leaf (node_at b c rest) branches e none = let long = ap length e in absurd (omega (arith, long, none))

pub only_leaf : (s : VolumeState) (fanout levels : ℕ) (row : PlacedRow) (branch : Branch) → levels ≡ 0 → branches_of row ≡ branch ∷ [] → IsRowOn s fanout levels row
    → contents (plain row) ≡ leaf_of branch ∷ []
only_leaf s fanout levels row branch z e h =
    let p = first_leaf s fanout levels row branch [] z e h in
    ap (λ r. contents (plain r)) p.is ∙ ap (λ (v : List Leaf). leaf_of branch ∷ v) (none_at p.others p.branches)

pub record OnlyNode (s : VolumeState) (fanout levels : ℕ) (row : PlacedRow) (branch : Branch) : Type 0 where
  pub children : PlacedRow
  pub alone : IsRowOn s fanout (levels - 1 + 1) (node_at branch children ended)
  pub is : contents (plain row) ≡ contents (plain children)

pub only_node : (s : VolumeState) (fanout levels : ℕ) (row : PlacedRow) (branch : Branch) → 0 < levels → branches_of row ≡ branch ∷ [] → IsRowOn s fanout levels row
    → OnlyNode s fanout levels row branch
only_node s fanout levels row branch z e h =
    let p = first_node s fanout levels row branch [] z e h in
    record {
      children = p.children;
      alone = p.alone;
      is = ap (λ r. contents (plain r)) p.is ∙ ap (λ (v : List Leaf). contents (plain p.children) ++ v) (none_at p.others p.branches) ∙ append-nil (contents (plain p.children));
    }

-- the leaves of an index are those below its root
pub root_leaves : (placed children : PlacedRow) (root : Branch) → placed ≡ node_at root children ended → contents (plain placed) ≡ contents (plain children)
root_leaves placed children root e = ap (λ r. contents (plain r)) e ∙ append-nil (contents (plain children))
