-- What changes make of the bytes and of the number of a tree's leaves, and that what was promised has room still.
use Rattle.std.proofs.Common.{◌≡◌, ℕ, ◌+◌, ◌*◌, ◌≤◌, Bool, true, false, cond, List, [], ◌∷◌, length, refl, arith, inl, inr}
use Rattle.std.specs.Prelude.{sum_by, filter, is_some, nat_le, ◌==◌, ◌&&◌, not}
use Rattle.std.specs.BTreeMap.{insert_entry, is_at}
use Rattle.std.specs.Map.{remove_entry, values_of}
use Rattle.std.specs.Ordering.{match_ordering, nat_cmp}
use Rattle.std.specs.declared.cmp.Ordering.{Ordering}
use Rattle.std.specs.declared.cmp.Ordering.TheVariants.{Less, Equal, Greater}
use Rattle.std.proofs.lemmas.Bool.{cases_Bool}
use Rattle.std.proofs.lemmas.List.Sums.{sum_by-cons}
use Rattle.std.proofs.lemmas.Map.Entries.{sum_by-remove_entry}
use Rattle.std.proofs.Math.Nat.{mul-le-mul_left}
use Rattle.fs_model.specs.declared.change.Change.{Change}
use Rattle.fs_model.specs.declared.change.Change.TheVariants.{SetInode, SetEntry, DropEntry, SetBlock, CutBlocks, DropInode}
use Rattle.fs_model.specs.declared.inode.Inode.{Inode}
use Rattle.fs_model.specs.declared.inode.Entry.{Entry}
use Rattle.fs_model.specs.Change.{apply, applied, without_inode}
use Rattle.fs_model.specs.Cover.{inode_bytes, block_bytes, entry_bytes, tree_bytes}
use Rattle.fs_model.specs.Files.{Tree, inode_at, name_cmp, pair_cmp}
use Rattle.fs_model.specs.Need.{change_bytes}
use Rattle.plain_backing.specs.Covering.{leaf_count}

-- what the parts of a tree come to
abbrev measure : (Inode → ℕ) → (List ℕ → ℕ) → (Entry → ℕ) → Tree → ℕ
measure wi wb we tree = sum_by wi (values_of tree.inodes) + sum_by wb (values_of tree.blocks) + sum_by we (values_of tree.entries)

insert_grows : {K V : Type 0} (cmp : K → K → Ordering) (w : V → ℕ) (es : List (K × V)) (k : K) (v : V) → sum_by w (values_of (insert_entry cmp es k v)) ≤ sum_by w (values_of es) + w v
insert_grows cmp w [] k v = let one = sum_by-cons w v [] in omega (arith, one)
insert_grows cmp w (e ∷ es) k v = by (insert_grows cmp w es k v) (cmp k e.0)
  where
    by : sum_by w (values_of (insert_entry cmp es k v)) ≤ sum_by w (values_of es) + w v → (o : Ordering) → sum_by w (values_of (match_ordering o ((k, v) ∷ e ∷ es) ((e.0, v) ∷ es) (e ∷ insert_entry cmp es k v))) ≤ sum_by w (values_of (e ∷ es)) + w v
    by more Less = let new = sum_by-cons w v (values_of (e ∷ es)) in omega (arith, new)
    by more Equal =
        let new = sum_by-cons w v (values_of es) in
        let old = sum_by-cons w e.1 (values_of es) in
        omega (arith, new, old)
    by more Greater =
        let new = sum_by-cons w e.1 (values_of (insert_entry cmp es k v)) in
        let old = sum_by-cons w e.1 (values_of es) in
        omega (arith, more, new, old)

remove_shrinks : {K V : Type 0} (w : V → ℕ) (test : K → Bool) (es : List (K × V)) → sum_by w (values_of (remove_entry test es)) ≤ sum_by w (values_of es)
remove_shrinks w test es = let e = sum_by-remove_entry w test es in omega (arith, e)

filter_shrinks : {K V : Type 0} (w : V → ℕ) (test : K × V → Bool) (es : List (K × V)) → sum_by w (values_of (filter test es)) ≤ sum_by w (values_of es)
filter_shrinks w test [] = omega arith
filter_shrinks w test (e ∷ es) = by (filter_shrinks w test es) (test e)
  where
    by : sum_by w (values_of (filter test es)) ≤ sum_by w (values_of es) → (b : Bool) → sum_by w (values_of (cond b (e ∷ filter test es) (filter test es))) ≤ sum_by w (values_of (e ∷ es))
    by more true =
        let new = sum_by-cons w e.1 (values_of (filter test es)) in
        let old = sum_by-cons w e.1 (values_of es) in
        omega (arith, more, new, old)
    by more false = let old = sum_by-cons w e.1 (values_of es) in omega (arith, more, old)

dropped_shrinks : (wi : Inode → ℕ) (wb : List ℕ → ℕ) (we : Entry → ℕ) (tree : Tree) (ino : ℕ) → measure wi wb we (without_inode tree ino) ≤ measure wi wb we tree
dropped_shrinks wi wb we tree ino =
    let a = remove_shrinks wi (is_at (nat_cmp ino)) tree.inodes in
    let b = filter_shrinks wb (λ b. not (b.0.0 == ino)) tree.blocks in
    omega (arith, a, b)

-- what a change costs at least
record Costs (wi : Inode → ℕ) (wb : List ℕ → ℕ) (we : Entry → ℕ) (cost : Change → ℕ) : Type 0 where
  inodes : (ino : ℕ) (inode : Inode) → wi inode ≤ cost (SetInode ino inode)
  blocks : (ino block : ℕ) (bytes : List ℕ) → wb bytes ≤ cost (SetBlock ino block bytes)
  entries : (entry : Entry) → we entry ≤ cost (SetEntry entry)

applied_grows : (wi : Inode → ℕ) (wb : List ℕ → ℕ) (we : Entry → ℕ) (cost : Change → ℕ) → Costs wi wb we cost → (tree : Tree) (change : Change) → measure wi wb we (applied tree change) ≤ measure wi wb we tree + cost change
applied_grows wi wb we cost h tree (SetInode ino inode) =
    let a = insert_grows nat_cmp wi tree.inodes ino inode in
    let b = h.inodes ino inode in
    omega (arith, a, b)
applied_grows wi wb we cost h tree (SetEntry entry) =
    let a = insert_grows name_cmp we tree.entries (entry.dir, entry.name) entry in
    let b = h.entries entry in
    omega (arith, a, b)
applied_grows wi wb we cost h tree (DropEntry dir name) =
    let a = remove_shrinks we (is_at (name_cmp (dir, name))) tree.entries in
    omega (arith, a)
applied_grows wi wb we cost h tree (SetBlock ino block bytes) = elim (cases_Bool (is_some (inode_at tree ino))) [
  | inl e ↦ rw e (
      let a = insert_grows pair_cmp wb tree.blocks (ino, block) bytes in
      let b = h.blocks ino block bytes in
      omega (arith, a, b))
  | inr e ↦ rw e (omega arith)
]
applied_grows wi wb we cost h tree (CutBlocks ino old_size new_size) =
    let a = filter_shrinks wb (λ b. not ((b.0.0 == ino) && nat_le new_size (4096 * b.0.1))) tree.blocks in
    omega (arith, a)
applied_grows wi wb we cost h tree (DropInode ino) =
    let a = dropped_shrinks wi wb we tree ino in
    omega (arith, a)

apply_grows : (wi : Inode → ℕ) (wb : List ℕ → ℕ) (we : Entry → ℕ) (cost : Change → ℕ) → Costs wi wb we cost → (tree : Tree) (group : List Change) → measure wi wb we (apply tree group) ≤ measure wi wb we tree + sum_by cost group
apply_grows wi wb we cost h tree [] = omega arith
apply_grows wi wb we cost h tree (change ∷ group) =
    let more = apply_grows wi wb we cost h (applied tree change) group in
    let one = applied_grows wi wb we cost h tree change in
    let sum = sum_by-cons cost change group in
    omega (arith, more, one, sum)

-- a group adds no more bytes than its nodes take
pub bytes_grow : (tree : Tree) (group : List Change) → tree_bytes (apply tree group) ≤ tree_bytes tree + sum_by (change_bytes tree) group
bytes_grow tree group = apply_grows inode_bytes block_bytes entry_bytes (change_bytes tree) (record { inodes = λ ino inode. omega arith; blocks = λ ino block bytes. omega arith; entries = λ entry. omega arith }) tree group

-- a count is a sum of ones
ones : {K V : Type 0} (es : List (K × V)) → sum_by (λ (v : V). 1) (values_of es) ≡ length es
ones [] = refl
ones {V = V} (e ∷ es) =
    let more = ones es in
    let sum = sum_by-cons (λ (v : V). 1) e.1 (values_of es) in
    omega (arith, more, sum)

counted_leaves : (tree : Tree) → measure (λ inode. 1) (λ bytes. 1) (λ entry. 1) tree ≡ leaf_count tree
counted_leaves tree =
    let a = ones tree.inodes in
    let b = ones tree.blocks in
    let d = ones tree.entries in
    omega (arith, a, b, d)

all_ones : (group : List Change) → sum_by (λ (change : Change). 1) group ≡ length group
all_ones [] = refl
all_ones (change ∷ group) =
    let more = all_ones group in
    let sum = sum_by-cons (λ (change : Change). 1) change group in
    omega (arith, more, sum)

-- nor more leaves than it has changes
pub leaves_grow : (tree : Tree) (group : List Change) → leaf_count (apply tree group) ≤ leaf_count tree + length group
leaves_grow tree group =
    let all = apply_grows (λ inode. 1) (λ bytes. 1) (λ entry. 1) (λ change. 1) (record { inodes = λ ino inode. omega arith; blocks = λ ino block bytes. omega arith; entries = λ entry. omega arith }) tree group in
    let was = counted_leaves tree in
    let is = counted_leaves (apply tree group) in
    let many = all_ones group in
    omega (arith, all, was, is, many)

-- an inode that goes takes bytes and leaves with it
pub bytes_less : (tree : Tree) (ino : ℕ) → tree_bytes (without_inode tree ino) ≤ tree_bytes tree
bytes_less tree ino = dropped_shrinks inode_bytes block_bytes entry_bytes tree ino

pub leaves_less : (tree : Tree) (ino : ℕ) → leaf_count (without_inode tree ino) ≤ leaf_count tree
leaves_less tree ino =
    let all = dropped_shrinks (λ inode. 1) (λ bytes. 1) (λ entry. 1) tree ino in
    let was = counted_leaves tree in
    let is = counted_leaves (without_inode tree ino) in
    omega (arith, all, was, is)

-- each leaf takes bytes
sum_ones : {K V : Type 0} (w : V → ℕ) → ((v : V) → 1 ≤ w v) → (es : List (K × V)) → length es ≤ sum_by w (values_of es)
sum_ones w some [] = omega arith
sum_ones w some (e ∷ es) =
    let more = sum_ones w some es in
    let sum = sum_by-cons w e.1 (values_of es) in
    let one = some e.1 in
    omega (arith, more, sum, one)

pub few_leaves : (tree : Tree) → leaf_count tree ≤ tree_bytes tree
few_leaves tree =
    let a = sum_ones inode_bytes (λ inode. omega arith) tree.inodes in
    let b = sum_ones block_bytes (λ bytes. omega arith) tree.blocks in
    let d = sum_ones entry_bytes (λ entry. omega arith) tree.entries in
    omega (arith, a, b, d)

-- weight for more leaves
pub weighed_more : (fanout leaves now weight more : ℕ) → 3 ≤ fanout → leaves ≤ fanout * weight → now ≤ leaves + more → now ≤ fanout * (weight + more)
weighed_more fanout leaves now weight more wide le grown =
    let part = mul-le-mul_left more wide in
    let swap : more * fanout ≡ fanout * more = omega arith in
    let all : fanout * (weight + more) ≡ fanout * weight + fanout * more = omega arith in
    omega (arith, part, swap, all, le, grown)
