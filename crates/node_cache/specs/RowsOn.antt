-- Rows of an index that stand on a volume: their first sibling, what is below it, and what is beside it.
use Rattle.std.proofs.Common.{◌≡◌, ℕ, ◌+◌, ◌-◌, ◌<◌, ◌≤◌, true, List, [], ◌∷◌, ◌++◌, length, take, drop, map, refl, ap, sym, ◌∙◌, subst, arith, append-nil}
use Rattle.std.specs.Prelude.{Option, None, All}
use Rattle.std.proofs.Math.Seq.{take-append_seam}
use Rattle.std.proofs.lemmas.List.Elements.{All-nil, All-cons, All-head, All-tail}
use Rattle.index_tree.specs.Order.{leaf_rank}
use Rattle.index_tree.specs.Shape.{done, fits}
use Rattle.media_sys.specs.Index.{Index, IsIdxNode}
use Rattle.media_sys.specs.SystemNode.{index, IsSystemNode}
use Rattle.media_sys.specs.declared.branch.Branch.{Branch}
use Rattle.index_media.specs.InsertionSound.{fit_node, fits_node}
use Rattle.index_media.specs.KeyedKeys.{key_before, AreKeysBounded}
use Rattle.index_media.specs.KeyedRow.{all_clean}
use Rattle.index_media.specs.Keys.{branch_rank, bound_before, AreBounded}
use Rattle.index_media.specs.PlacedRow.{PlacedRow, ended, leaf_at, node_at, plain, branch_to, leaf_of, branches_of, all_nodes, lebs_of}
use Rattle.index_media.specs.Stored.{IsIndexNodeAt, AreStored}
use Rattle.ubi_volume.specs.Volume.{VolumeState, Keeps, SameShape}
use Rattle.node_cache.specs.Loaded.{IsIndexOn, IsRowOn}

-- ---- bounds
before_clean : (rest : PlacedRow) (most : Option ℕ) → key_before (all_clean rest) most ≡ bound_before rest most
before_clean ended most = refl
before_clean (leaf_at x rest) most = refl
before_clean (node_at b c rest) most = refl

pub clean_bounded : (least : ℕ) (most : Option ℕ) (row : PlacedRow) → AreBounded least most row → AreKeysBounded least most (all_clean row)
clean_bounded least most ended h = tt
clean_bounded least most (leaf_at x rest) h = (h.0, h.1, clean_bounded (leaf_rank x) most rest h.2)
clean_bounded least most (node_at b c rest) h =
    let P : Option ℕ → Type 0 = λ m. AreKeysBounded (branch_rank b) m (all_clean c) in (
      h.0,
      h.1,
      subst P (sym (before_clean rest most)) (clean_bounded (branch_rank b) (bound_before rest most) c h.2),
      clean_bounded (branch_rank b) most rest h.3,
    )

-- a lower least, and no most
loose_before : (rank : ℕ) (most : Option ℕ) (c rest : PlacedRow) → (AreBounded rank most c → AreBounded rank None c) → AreBounded rank (bound_before rest most) c → AreBounded rank (bound_before rest None) c
loose_before rank most c ended f h = f h
loose_before rank most c (leaf_at x rest) f h = h
loose_before rank most c (node_at b d rest) f h = h

pub loose : (low least : ℕ) (most : Option ℕ) (row : PlacedRow) → low ≤ least → AreBounded least most row → AreBounded low None row
loose low least most ended l h = tt
loose low least most (leaf_at x rest) l h = (omega (arith, l, h.0), tt, loose (leaf_rank x) (leaf_rank x) most rest (omega arith) h.2)
loose low least most (node_at b c rest) l h = (
  omega (arith, l, h.0),
  tt,
  loose_before (branch_rank b) most c rest (loose (branch_rank b) (branch_rank b) most c (omega arith)) h.2,
  loose (branch_rank b) (branch_rank b) most rest (omega arith) h.3,
)

-- ---- nodes
pub said_is_node : (media : ℕ → List ℕ) (branch : Branch) (said : Index) → IsIndexNodeAt media branch said → IsIdxNode said
said_is_node media branch said h = h.is.is

pub node_moved : (old new : ℕ → List ℕ) (branch : Branch) (said : Index) → new branch.lnum ≡ old branch.lnum → IsIndexNodeAt old branch said → IsIndexNodeAt new branch said
node_moved old new branch said e h =
    let P : List ℕ → Type 0 = λ leb. branch.offs + branch.len ≤ length leb in
    let Q : List ℕ → Type 0 = λ leb. IsSystemNode (take branch.len (drop branch.offs leb)) h.sqnum h.group (index said) in
    record { sqnum = h.sqnum; group = h.group; room = subst P (sym e) h.room; is = subst Q (sym e) h.is }

stored_moved : (old new : ℕ → List ℕ) (levels : ℕ) (row : PlacedRow) → ((k : ℕ) → new k ≡ old k) → AreStored old levels row → AreStored new levels row
unfolding AreStored
stored_moved old new levels ended e h = tt
stored_moved old new levels (leaf_at x rest) e h = (h.0, stored_moved old new levels rest e h.1)
stored_moved old new levels (node_at b c rest) e h = (
  h.0,
  node_moved old new b (record { level = levels - 1; branches = branches_of c }) (e b.lnum) h.1,
  stored_moved old new (levels - 1) c e h.2,
  stored_moved old new levels rest e h.3,
)

-- a volume that keeps all keeps a row
pub row_moved : (a b : VolumeState) (fanout levels : ℕ) (row : PlacedRow) → Keeps a b → SameShape a b → IsRowOn a fanout levels row → IsRowOn b fanout levels row
row_moved a b fanout levels row k s h =
    let P : ℕ → Type 0 = λ n. All (λ lnum. lnum < n) (lebs_of row) in
    record {
      stored = stored_moved a.holds b.holds levels row k.holds h.stored;
      fits = h.fits;
      bounded = h.bounded;
      keys = h.keys;
      there = subst P (sym s.leb_cnt) h.there;
    }

-- and an index
pub index_moved : (a b : VolumeState) (fanout : ℕ) (root : Branch) (placed : PlacedRow) → Keeps a b → SameShape a b → IsIndexOn a fanout root placed → IsIndexOn b fanout root placed
index_moved a b fanout root placed k s h =
    let P : ℕ → Type 0 = λ n. All (λ lnum. lnum < n) (lebs_of placed) in
    let own = h.index in
    record {
      index = record { children = own.children; whole = own.whole; levels = own.levels; stored = stored_moved a.holds b.holds own.levels placed k.holds own.stored; fits = own.fits; bounded = own.bounded };
      there = subst P (sym s.leb_cnt) h.there;
      key = h.key;
    }

-- ---- LEBs
abbrev leb_of : Branch → ℕ
leb_of branch = branch.lnum

split_all : (P : ℕ → Type 0) (xs ys : List Branch) → All P (map leb_of (xs ++ ys)) → All P (map leb_of xs) × All P (map leb_of ys)
split_all P [] ys h = (All-nil P, h)
split_all P (x ∷ xs) ys h =
    let rest = split_all P xs ys (All-tail P x.lnum (map leb_of (xs ++ ys)) h) in
    (All-cons P x.lnum (map leb_of xs) (All-head P x.lnum (map leb_of (xs ++ ys)) h) rest.0, rest.1)

pub lebs_parts : (P : ℕ → Type 0) (branch : Branch) (children rest : PlacedRow) → All P (lebs_of (node_at branch children rest)) → P branch.lnum × All P (lebs_of children) × All P (lebs_of rest)
lebs_parts P branch children rest h =
    let behind = map leb_of (all_nodes children ++ all_nodes rest) in
    let both = split_all P (all_nodes children) (all_nodes rest) (All-tail P branch.lnum behind h) in
    (All-head P branch.lnum behind h, both.0, both.1)

pub lebs_alone : (P : ℕ → Type 0) (branch : Branch) (children : PlacedRow) → P branch.lnum → All P (lebs_of children) → All P (lebs_of (node_at branch children ended))
lebs_alone P branch children own below =
    let Q : List Branch → Type 0 = λ all. All P (map leb_of all) in
    All-cons P branch.lnum (map leb_of (all_nodes children ++ [])) own (subst Q (sym (append-nil (all_nodes children))) below)

-- ---- a row's first sibling
pub record FirstLeaf (s : VolumeState) (fanout levels : ℕ) (row : PlacedRow) (branch : Branch) (rest : List Branch) : Type 0 where
  pub others : PlacedRow
  pub is : row ≡ leaf_at (leaf_of branch) others
  pub branches : branches_of others ≡ rest
  pub on : IsRowOn s fanout levels others

pub first_leaf : (s : VolumeState) (fanout levels : ℕ) (row : PlacedRow) (branch : Branch) (rest : List Branch) → levels ≡ 0 → branches_of row ≡ branch ∷ rest → IsRowOn s fanout levels row → FirstLeaf s fanout levels row branch rest
unfolding AreStored
first_leaf s fanout levels ended branch rest z e h = absurd cc
first_leaf s fanout levels (leaf_at x others) branch rest z e h =
    let same : branch_to x ≡ branch = cc in
    let behind : branches_of others ≡ rest = cc in
    record {
      others = others;
      is = ap (λ b. leaf_at (leaf_of b) others) same;
      branches = behind;
      on = record { stored = h.stored.1; fits = h.fits; bounded = loose 0 (leaf_rank x) None others (omega arith) h.bounded.2; keys = h.keys.1; there = h.there };
    }
first_leaf s fanout levels (node_at b c others) branch rest z e h = absurd (omega (arith, z, h.stored.0))

pub record FirstNode (s : VolumeState) (fanout levels : ℕ) (row : PlacedRow) (branch : Branch) (rest : List Branch) : Type 0 where
  pub children : PlacedRow
  pub others : PlacedRow
  pub is : row ≡ node_at branch children others
  pub branches : branches_of others ≡ rest
  pub alone : IsRowOn s fanout (levels - 1 + 1) (node_at branch children ended)
  pub on : IsRowOn s fanout levels others

pub first_node : (s : VolumeState) (fanout levels : ℕ) (row : PlacedRow) (branch : Branch) (rest : List Branch) → 0 < levels → branches_of row ≡ branch ∷ rest → IsRowOn s fanout levels row → FirstNode s fanout levels row branch rest
unfolding AreStored
first_node s fanout levels ended branch rest z e h = absurd cc
first_node s fanout levels (leaf_at x others) branch rest z e h = absurd (omega (arith, z, h.stored.0))
first_node s fanout levels (node_at b c others) branch rest z e h =
    let same : b ≡ branch = cc in
    let behind : branches_of others ≡ rest = cc in
    let fit = fit_node fanout (plain c) (plain others) h.fits in
    let lebs = lebs_parts (λ lnum. lnum < s.leb_cnt) b c others h.there in
    let up : levels - 1 + 1 ≡ levels = omega (arith, z) in
    let P : ℕ → Type 0 = λ n. AreStored s.holds n (node_at b c ended) in
    let Q : Branch → Type 0 = λ d. IsRowOn s fanout (levels - 1 + 1) (node_at d c ended) in
    record {
      children = c;
      others = others;
      is = ap (λ d. node_at d c others) same;
      branches = behind;
      alone = subst Q same (record {
        stored = subst P (sym up) (h.stored.0, h.stored.1, h.stored.2, tt);
        fits = fits_node fanout (plain c) done fit.least fit.most fit.children refl;
        bounded = loose 0 0 None (node_at b c ended) (omega arith) (h.bounded.0, tt, loose (branch_rank b) (branch_rank b) (bound_before others None) c (omega arith) h.bounded.2, tt);
        keys = (h.keys.0, tt);
        there = lebs_alone (λ lnum. lnum < s.leb_cnt) b c lebs.0 lebs.1;
      });
      on = record { stored = h.stored.3; fits = fit.others; bounded = loose 0 (branch_rank b) None others (omega arith) h.bounded.3; keys = h.keys.1; there = lebs.2 };
    }

-- ---- what a node's branch says of it and of what is below
pub record Below (s : VolumeState) (fanout level : ℕ) (branch : Branch) (row : PlacedRow) : Type 0 where
  pub said : IsIndexNodeAt s.holds branch (record { level = level; branches = branches_of row })
  pub lnum : branch.lnum < s.leb_cnt
  pub on : IsRowOn s fanout level row

pub below : (s : VolumeState) (fanout level : ℕ) (branch : Branch) (row : PlacedRow) → IsRowOn s fanout (level + 1) (node_at branch row ended) → Below s fanout level branch row
unfolding AreStored
below s fanout level branch row h =
    let same : level + 1 - 1 ≡ level = omega arith in
    let fit = fit_node fanout (plain row) done h.fits in
    let lebs = lebs_parts (λ lnum. lnum < s.leb_cnt) branch row ended h.there in
    let P : ℕ → Type 0 = λ n. IsIndexNodeAt s.holds branch (record { level = n; branches = branches_of row }) in
    let Q : ℕ → Type 0 = λ n. AreStored s.holds n row in
    let said = subst P same h.stored.1 in
    let own = said_is_node s.holds branch (record { level = level; branches = branches_of row }) said in
    record {
      said = said;
      lnum = lebs.0;
      on = record { stored = subst Q same h.stored.2; fits = fit.children; bounded = loose 0 (branch_rank branch) None row (omega arith) h.bounded.2; keys = own.keys; there = lebs.1 };
    }

-- ---- the root
pub record RootOn (s : VolumeState) (fanout : ℕ) (root : Branch) (placed : PlacedRow) : Type 0 where
  pub children : PlacedRow
  pub level : ℕ
  pub is : placed ≡ node_at root children ended
  pub on : IsRowOn s fanout (level + 1) (node_at root children ended)

pub root_on : (s : VolumeState) (fanout : ℕ) (root : Branch) (placed : PlacedRow) → IsIndexOn s fanout root placed → RootOn s fanout root placed
unfolding AreStored
root_on s fanout root placed h =
    let whole = h.index.whole in
    let S : PlacedRow → Type 0 = λ row. AreStored s.holds h.index.levels row in
    let F : PlacedRow → Type 0 = λ row. fits fanout (plain row) ≡ true in
    let B : PlacedRow → Type 0 = λ row. AreBounded 0 None row in
    let A : PlacedRow → Type 0 = λ row. All (λ lnum. lnum < s.leb_cnt) (lebs_of row) in
    let stored = subst S whole h.index.stored in
    let up : h.index.levels ≡ h.index.levels - 1 + 1 = omega (arith, stored.0) in
    let N : ℕ → Type 0 = λ n. AreStored s.holds n (node_at root h.index.children ended) in
    record {
      children = h.index.children;
      level = h.index.levels - 1;
      is = whole;
      on = record {
        stored = subst N up stored;
        fits = subst F whole h.index.fits;
        bounded = subst B whole h.index.bounded;
        keys = (h.key, tt);
        there = subst A whole h.there;
      };
    }

-- ---- the same row over other numbers
pub row_as : (s : VolumeState) (fanout f levels l : ℕ) (row : PlacedRow) → f ≡ fanout → l ≡ levels → IsRowOn s fanout levels row → IsRowOn s f l row
row_as s fanout f levels l row e k h =
    let P : ℕ → Type 0 = λ n. IsRowOn s n levels row in
    let Q : ℕ → Type 0 = λ n. IsRowOn s f n row in
    subst Q (sym k) (subst P (sym e) h)

-- the bytes that are read
pub read_bytes : (leb : List ℕ) (offs n len : ℕ) → n ≡ len → take (offs + n - offs) (drop offs leb) ≡ take len (drop offs leb)
read_bytes leb offs n len e = let same : offs + n - offs ≡ len = omega (arith, e) in ap (λ k. take k (drop offs leb)) same

pub front_taken : (xs ys : List ℕ) (n : ℕ) → n ≡ length xs → take n (xs ++ ys) ≡ xs
front_taken xs ys n e = ap (λ k. take k (xs ++ ys)) e ∙ take-append_seam xs ys
