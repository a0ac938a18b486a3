-- Leaves are counted one after another.
use Rattle.std.proofs.Common.{◌≡◌, ℕ, suc, ◌+◌, ◌*◌, ◌<◌, ◌≤◌, List, [], ◌∷◌, ◌++◌, length, refl, sym, ap, ◌∙◌, subst, arith, append_assoc, length-append}
use Rattle.std.specs.Prelude.{sum_by}
use Rattle.std.specs.Map.{values_of}
use Rattle.std.proofs.lemmas.Bool.{le-leb, lt-leb}
use Rattle.std.proofs.lemmas.List.{append-nil, length-map}
use Rattle.std.proofs.lemmas.List.Sums.{sum_by-cons}
use Rattle.ubifs_base.specs.declared.raw_geometry.RawGeometry.{RawGeometry}
use Rattle.media_leaf.specs.LeafNode.{LeafNode}
use Rattle.group_nodes.specs.Texts.{padded_leaf_bytes}
use Rattle.fs_model.specs.Cover.{block_bytes, entry_bytes, inode_bytes, tree_bytes}
use Rattle.fs_model.specs.Files.{Tree}
use Rattle.plain_backing.specs.Covering.{leaf_count}
use Rattle.image_maker.specs.Packed.{packed_leaves}
use Rattle.tree_space.specs.Counted.{CanTake, Counts, lebs_with}
use Rattle.tree_space.specs.declared.tally.Tally.{Tally}

packed_none : (size taken : ℕ) → packed_leaves size taken [] ≡ taken ∷ []
unfolding packed_leaves
packed_none size taken = refl

packed_fits : (size taken : ℕ) (leaf : LeafNode) (leaves : List LeafNode) → taken + padded_leaf_bytes leaf ≤ size → packed_leaves size taken (leaf ∷ leaves) ≡ packed_leaves size (taken + padded_leaf_bytes leaf) leaves
unfolding packed_leaves
packed_fits size taken leaf leaves le = let e = le-leb (taken + padded_leaf_bytes leaf) size le in rw e refl

packed_over : (size taken : ℕ) (leaf : LeafNode) (leaves : List LeafNode) → size < taken + padded_leaf_bytes leaf → packed_leaves size taken (leaf ∷ leaves) ≡ taken ∷ packed_leaves size (padded_leaf_bytes leaf) leaves
unfolding packed_leaves
packed_over size taken leaf leaves lt = let e = lt-leb (taken + padded_leaf_bytes leaf) size lt in rw e refl

-- a leaf that fits is counted, and one that goes into the next LEB
pub counts_fit : (geo : RawGeometry) (leaf : LeafNode) (len : ℕ) (before after : Tally) → padded_leaf_bytes leaf ≡ len → after.leaves ≡ before.leaves + 1 → after.full ≡ before.full
    → after.taken ≡ before.taken + len → before.taken + len ≤ geo.leb_size → Counts geo (leaf ∷ []) before after
counts_fit geo leaf len before after long leaves full taken fits = record {
  leaves = omega (arith, leaves);
  full = λ h. omega (arith, h, leaves, full);
  lebs = λ more.
      let now : after.taken ≡ before.taken + padded_leaf_bytes leaf = omega (arith, taken, long) in
      let e = ap length (packed_fits geo.leb_size before.taken leaf more (omega (arith, long, fits))) in
      let same = ap (λ (n : ℕ). length (packed_leaves geo.leb_size n more)) now in
      omega (arith, e, same, full);
}

pub counts_over : (geo : RawGeometry) (leaf : LeafNode) (len : ℕ) (before after : Tally) → padded_leaf_bytes leaf ≡ len → after.leaves ≡ before.leaves + 1 → after.full ≡ before.full + 1
    → after.taken ≡ len → geo.leb_size < before.taken + len → Counts geo (leaf ∷ []) before after
counts_over geo leaf len before after long leaves full taken over = record {
  leaves = omega (arith, leaves);
  full = λ h. omega (arith, h, leaves, full);
  lebs = λ more.
      let now : after.taken ≡ padded_leaf_bytes leaf = omega (arith, taken, long) in
      let e = ap length (packed_over geo.leb_size before.taken leaf more (omega (arith, long, over))) in
      let same = ap (λ (n : ℕ). length (packed_leaves geo.leb_size n more)) now in
      omega (arith, e, same, full);
}

counts_none : (geo : RawGeometry) (tally : Tally) → Counts geo [] tally tally
counts_none geo tally = record { leaves = omega arith; full = λ h. h; lebs = λ more. refl }

pub counts_more : (geo : RawGeometry) (first next : List LeafNode) (a b c : Tally) → Counts geo first a b → Counts geo next b c → Counts geo (first ++ next) a c
counts_more geo first next a b c l m = record {
  leaves = let x = l.leaves in let y = m.leaves in let len = length-append first next in omega (arith, x, y, len);
  full = λ h. m.full (l.full h);
  lebs = λ more. m.lebs more ∙ l.lebs (next ++ more) ∙ ap (lebs_with geo a) (sym (append_assoc first next more));
}

-- the first of some leaves can be counted, and then the others
pub can_first : (first next : List LeafNode) (tally : Tally) → CanTake (first ++ next) tally → CanTake first tally
can_first first next tally can = record { few = let few = can.few in let len = length-append first next in omega (arith, few, len); full = can.full }

pub can_next : (geo : RawGeometry) (first next : List LeafNode) (a b : Tally) → CanTake (first ++ next) a → Counts geo first a b → CanTake next b
can_next geo first next a b can l = record {
  few = let few = can.few in let len = length-append first next in let now = l.leaves in omega (arith, few, len, now);
  full = l.full can.full;
}

-- ---- leaves that are under way
-- of all these leaves, those up to the ones that are still to come are counted
pub record IsCounting (geo : RawGeometry) (all rest : List LeafNode) (before now : Tally) : Type 0 where
  pub done : List LeafNode
  pub parts : done ++ rest ≡ all
  pub counts : Counts geo done before now

pub begins : (geo : RawGeometry) (all rest : List LeafNode) (tally : Tally) → rest ≡ all → IsCounting geo all rest tally tally
begins geo all rest tally is = record { done = []; parts = is; counts = counts_none geo tally }

pub next_can : (geo : RawGeometry) (all rest next more : List LeafNode) (before now : Tally) → CanTake all before → rest ≡ next ++ more → IsCounting geo all rest before now → CanTake next now
next_can geo all rest next more before now can is u =
    let whole : all ≡ u.done ++ (next ++ more) = sym u.parts ∙ ap (λ x. u.done ++ x) is in
    can_first next more now (can_next geo u.done (next ++ more) before now (subst (λ leaves. CanTake leaves before) whole can) u.counts)

pub next_counted : (geo : RawGeometry) (all rest next more : List LeafNode) (before now after : Tally) → rest ≡ next ++ more → IsCounting geo all rest before now → Counts geo next now after
    → IsCounting geo all more before after
next_counted geo all rest next more before now after is u l = record {
  done = u.done ++ next;
  parts = append_assoc u.done next more ∙ ap (λ x. u.done ++ x) (sym is) ∙ u.parts;
  counts = counts_more geo u.done next before now after u.counts l;
}

pub all_counted : (geo : RawGeometry) (all rest : List LeafNode) (before now : Tally) → rest ≡ [] → IsCounting geo all rest before now → Counts geo all before now
all_counted geo all rest before now none u =
    let whole : u.done ≡ all = sym (append-nil u.done) ∙ ap (λ x. u.done ++ x) (sym none) ∙ u.parts in
    subst (λ leaves. Counts geo leaves before now) whole u.counts

-- ---- leaves take bytes
many : {X : Type 0} (size : X → ℕ) (least : ℕ) (xs : List X) → ((x : X) → least ≤ size x) → least * length xs ≤ sum_by size xs
many size least [] h = omega arith
many size least (x ∷ xs) h =
    let more = many size least xs h in
    let one = h x in
    let sum = sum_by-cons size x xs in
    let step : least * suc (length xs) ≡ least + least * length xs = omega arith in
    omega (arith, more, one, sum, step)

pub few_leaves : (tree : Tree) → 48 * leaf_count tree ≤ tree_bytes tree
few_leaves tree =
    let inodes = many inode_bytes 48 (values_of tree.inodes) (λ x. omega arith) in
    let blocks = many block_bytes 48 (values_of tree.blocks) (λ x. omega arith) in
    let entries = many entry_bytes 48 (values_of tree.entries) (λ x. omega arith) in
    let a = length-map tree.inodes (λ e. e.1) in
    let b = length-map tree.blocks (λ e. e.1) in
    let c = length-map tree.entries (λ e. e.1) in
    omega (arith, inodes, blocks, entries, a, b, c)

-- ---- once all are counted
pub all_lebs : (geo : RawGeometry) (leaves : List LeafNode) (before after : Tally) → before.full ≡ 0 → before.taken ≡ 0 → Counts geo leaves before after
    → after.full + 1 ≡ length (packed_leaves geo.leb_size 0 leaves)
all_lebs geo leaves before after full taken l =
    let all = l.lebs [] in
    let one = ap length (packed_none geo.leb_size after.taken) in
    let whole = ap (λ xs. length (packed_leaves geo.leb_size before.taken xs)) (append-nil leaves) in
    let zero = ap (λ (n : ℕ). length (packed_leaves geo.leb_size n leaves)) taken in
    omega (arith, all, one, whole, zero, full)
