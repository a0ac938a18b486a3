-- How many inodes have no name once a group of changes is made.
use Rattle.std.proofs.Common.{◌≡◌, ℕ, ◌+◌, ◌≤◌, ◌⊎◌, inl, inr, Bool, true, false, cond, ◌||◌, List, [], ◌∷◌, length, Option, Some, None, refl, sym, ap, subst, ◌∙◌, arith}
use Rattle.std.specs.Prelude.{◌==◌, nat_lt, is_some, filter, fold}
use Rattle.std.specs.List.{AllByRecursion}
use Rattle.std.specs.Map.{lookup, remove_entry, keys_of, values_of}
use Rattle.std.specs.BTreeMap.{insert_entry, is_at}
use Rattle.std.specs.Option.{option_map_or}
use Rattle.std.specs.Ordering.{nat_cmp}
use Rattle.std.proofs.lemmas.Bool.{false≢true}
use Rattle.std.proofs.lemmas.Bool.Decides.{nat_tests}
use Rattle.fs_model.specs.declared.change.Change.{Change}
use Rattle.fs_model.specs.declared.change.Change.TheVariants.{SetInode, SetEntry, DropEntry, SetBlock, CutBlocks, DropInode}
use Rattle.fs_model.specs.declared.inode.Inode.{Inode}
use Rattle.fs_model.specs.Change.{changed, applied, apply}
use Rattle.fs_model.specs.Files.{Tree, Files, Inodes, inode_at, with_block}
use Rattle.fs_model.specs.Orphan.{nameless, leaves_orphan}
use Rattle.fs_model.specs.Proper.{IsProper, ascends}
use Rattle.fs_laws.specs.Maps.{apart, missing_first, tail_ascends, set_here, set_other, removed_here, removed_other, insert_ascends, remove_ascends, count_in, count_remove, key_cases}
use Rattle.fs_laws.specs.Orders.{numbers}
use Rattle.vfs_ops.specs.Operations.{is_orphaned, orphans}

abbrev pub has_no_link : Inode → Bool
has_no_link inode = inode.nlink == 0

-- whether an inode is there and has no link
abbrev pub no_link_at : Inodes → ℕ → Bool
no_link_at inodes ino = option_map_or has_no_link (lookup (is_at (nat_cmp ino)) inodes) false

nameless_counted : (inodes : Inodes) → length (keys_of (filter (λ e. e.1.nlink == 0) inodes)) ≡ count_in has_no_link inodes
nameless_counted [] = refl
nameless_counted (e ∷ inodes) = by (nameless_counted inodes) (has_no_link e.1)
  where
    by : length (keys_of (filter (λ f. f.1.nlink == 0) inodes)) ≡ count_in has_no_link inodes → (b : Bool)
        → length (keys_of (cond b (e ∷ filter (λ f. f.1.nlink == 0) inodes) (filter (λ f. f.1.nlink == 0) inodes))) ≡ length (cond b (e.1 ∷ filter has_no_link (values_of inodes)) (filter has_no_link (values_of inodes)))
    by more true = omega (arith, more)
    by more false = more

-- an inode that is there and has no link
record HasNone (inodes : Inodes) (ino : ℕ) : Type 0 where
  value : Inode
  found : lookup (is_at (nat_cmp ino)) inodes ≡ Some value
  none : has_no_link value ≡ true

has_none : (inodes : Inodes) (ino : ℕ) → no_link_at inodes ino ≡ true → HasNone inodes ino
has_none inodes ino h = by (lookup (is_at (nat_cmp ino)) inodes) refl h
  where
    by : (at : Option Inode) → lookup (is_at (nat_cmp ino)) inodes ≡ at → option_map_or has_no_link at false ≡ true → HasNone inodes ino
    by None e t = absurd (false≢true t)
    by (Some v) e t = record { value = v; found = e; none = t }

-- no more are counted where each that is counted is counted there
count_within : (a b : Inodes) → ascends nat_cmp (keys_of a) ≡ true → ((k : ℕ) → no_link_at a k ≡ true → no_link_at b k ≡ true) → count_in has_no_link a ≤ count_in has_no_link b
count_within [] b h each = omega arith
count_within (e ∷ a) b h each = by (λ c more. count_within a c (tail_ascends nat_cmp a e h) more) (has_no_link e.1) refl
  where
    later : (k : ℕ) → no_link_at a k ≡ true → k ≡ e.0 → ⊥
    later k s same =
        let none = missing_first nat_cmp numbers a e h in
        let t : no_link_at a e.0 ≡ true = subst (λ q. no_link_at a q ≡ true) same s in
        absurd (false≢true (rw none at t))

    there : (k : ℕ) → no_link_at a k ≡ true → no_link_at b k ≡ true
    there k s = each k (rw (apart nat_cmp numbers k e.0 (later k s)) s)

    by : ((c : Inodes) → ((k : ℕ) → no_link_at a k ≡ true → no_link_at c k ≡ true) → count_in has_no_link a ≤ count_in has_no_link c)
        → (t : Bool) → has_no_link e.1 ≡ t → length (cond t (e.1 ∷ filter has_no_link (values_of a)) (filter has_no_link (values_of a))) ≤ count_in has_no_link b
    by rest true z =
        let first : no_link_at b e.0 ≡ true = each e.0 (rw (numbers.same e.0) z) in
        let it = has_none b e.0 first in
        let counted : cond (has_no_link it.value) 1 0 + count_in has_no_link (remove_entry (is_at (nat_cmp e.0)) b) ≡ count_in has_no_link b = count_remove nat_cmp has_no_link b e.0 it.value it.found in
        let one = rw it.none at counted in
        let less = rest (remove_entry (is_at (nat_cmp e.0)) b) (λ k s. ap (λ o. option_map_or has_no_link o false) (removed_other nat_cmp numbers b e.0 k (later k s)) ∙ there k s) in
        omega (arith, one, less)
    by rest false z = rest b there

-- the inodes after a change
abbrev set_in : Inodes → Change → Inodes
set_in inodes (SetInode ino inode) = insert_entry nat_cmp inodes ino inode
set_in inodes (DropInode ino) = remove_entry (is_at (nat_cmp ino)) inodes
set_in inodes (SetEntry entry) = inodes
set_in inodes (DropEntry dir name) = inodes
set_in inodes (SetBlock ino block bytes) = inodes
set_in inodes (CutBlocks ino old_size new_size) = inodes

applied_inodes : (tree : Tree) (change : Change) → (changed tree change).inodes ≡ set_in tree.inodes change
applied_inodes tree (SetInode ino inode) = refl
applied_inodes tree (DropInode ino) = refl
applied_inodes tree (SetEntry entry) = refl
applied_inodes tree (DropEntry dir name) = refl
applied_inodes tree (SetBlock ino block bytes) = by (is_some (inode_at tree ino))
  where
    by : (b : Bool) → (cond b (record tree { blocks = with_block tree.blocks ino block bytes }) tree).inodes ≡ tree.inodes
    by true = refl
    by false = refl
applied_inodes tree (CutBlocks ino old_size new_size) = refl

inodes_after : (tree : Tree) (group : List Change) → (apply tree group).inodes ≡ fold set_in tree.inodes group
inodes_after tree [] = refl
inodes_after tree (change ∷ group) = inodes_after (applied tree change) group ∙ ap (λ inodes. fold set_in inodes group) (applied_inodes tree change)

-- a change with which no inode loses its last name and stays
abbrev pub Spares : Inodes → Change → Type 0
Spares first (SetInode ino inode) = (is_orphaned (SetInode ino inode) ≡ false) × (has_no_link inode ≡ true → no_link_at first ino ≡ true)
Spares first (SetEntry entry) = Unit {0}
Spares first (DropEntry dir name) = Unit {0}
Spares first (SetBlock ino block bytes) = Unit {0}
Spares first (CutBlocks ino old_size new_size) = Unit {0}
Spares first (DropInode ino) = Unit {0}

record Fewer (first inodes : Inodes) : Type 0 where
  ascends : ascends nat_cmp (keys_of inodes) ≡ true
  within : (k : ℕ) → no_link_at inodes k ≡ true → no_link_at first k ≡ true

fewer_on : (first inodes : Inodes) (change : Change) → Spares first change → Fewer first inodes → Fewer first (set_in inodes change)
fewer_on first inodes (SetInode ino inode) spares fewer = record {
  ascends = insert_ascends nat_cmp numbers inodes ino inode fewer.ascends;
  within = λ k h. elim (key_cases nat_cmp numbers k ino) [
    | inl same ↦
        let t : no_link_at (insert_entry nat_cmp inodes ino inode) ino ≡ true = subst (λ q. no_link_at (insert_entry nat_cmp inodes ino inode) q ≡ true) same h in
        let z : has_no_link inode ≡ true = rw (set_here nat_cmp numbers inodes ino inode) at t in
        subst (λ q. no_link_at first q ≡ true) (sym same) (spares.1 z)
    | inr other ↦ fewer.within k (rw (set_other nat_cmp numbers inodes ino inode k other) at h)
  ];
}
fewer_on first inodes (DropInode ino) spares fewer = record {
  ascends = remove_ascends nat_cmp numbers (is_at (nat_cmp ino)) inodes fewer.ascends;
  within = λ k h. elim (key_cases nat_cmp numbers k ino) [
    | inl same ↦
        let t : no_link_at (remove_entry (is_at (nat_cmp ino)) inodes) ino ≡ true = subst (λ q. no_link_at (remove_entry (is_at (nat_cmp ino)) inodes) q ≡ true) same h in
        absurd (false≢true (rw (removed_here nat_cmp numbers inodes ino fewer.ascends) at t))
    | inr other ↦ fewer.within k (rw (removed_other nat_cmp numbers inodes ino k other) at h)
  ];
}
fewer_on first inodes (SetEntry entry) spares fewer = fewer
fewer_on first inodes (DropEntry dir name) spares fewer = fewer
fewer_on first inodes (SetBlock ino block bytes) spares fewer = fewer
fewer_on first inodes (CutBlocks ino old_size new_size) spares fewer = fewer

fewer_after : (first inodes : Inodes) (group : List Change) → AllByRecursion (Spares first) group → Fewer first inodes → Fewer first (fold set_in inodes group)
fewer_after first inodes [] all fewer = fewer
fewer_after first inodes (change ∷ group) all fewer = fewer_after first (set_in inodes change) group all.1 (fewer_on first inodes change all.0 fewer)

none_orphaned : (first : Inodes) (group : List Change) → AllByRecursion (Spares first) group → orphans group ≡ false
none_orphaned first [] all = refl
none_orphaned first (SetInode ino inode ∷ group) all = rw all.0.0 (none_orphaned first group all.1)
none_orphaned first (SetEntry entry ∷ group) all = none_orphaned first group all.1
none_orphaned first (DropEntry dir name ∷ group) all = none_orphaned first group all.1
none_orphaned first (SetBlock ino block bytes ∷ group) all = none_orphaned first group all.1
none_orphaned first (CutBlocks ino old_size new_size ∷ group) all = none_orphaned first group all.1
none_orphaned first (DropInode ino ∷ group) all = none_orphaned first group all.1

-- a change that leaves no inode without a name but this one, and this one and those that had none without a name
abbrev pub Leaves : Inodes → ℕ → Change → Type 0
Leaves first left (SetInode ino inode) = (is_orphaned (SetInode ino inode) ≡ true → ino ≡ left) × (ino ≡ left → has_no_link inode ≡ true) × (no_link_at first ino ≡ true → has_no_link inode ≡ true) × (has_no_link inode ≡ true → (ino ≡ left) ⊎ (no_link_at first ino ≡ true))
Leaves first left (DropInode ino) = ⊥
Leaves first left (SetEntry entry) = Unit {0}
Leaves first left (DropEntry dir name) = Unit {0}
Leaves first left (SetBlock ino block bytes) = Unit {0}
Leaves first left (CutBlocks ino old_size new_size) = Unit {0}

none_here : (inodes : Inodes) (ino k : ℕ) (inode : Inode) → k ≡ ino → has_no_link inode ≡ true → no_link_at (insert_entry nat_cmp inodes ino inode) k ≡ true
none_here inodes ino k inode same z = subst (λ q. no_link_at (insert_entry nat_cmp inodes ino inode) q ≡ true) (sym same) (rw (set_here nat_cmp numbers inodes ino inode) z)

stays : (first inodes : Inodes) (left k : ℕ) (change : Change) → Leaves first left change → (k ≡ left) ⊎ (no_link_at first k ≡ true) → no_link_at inodes k ≡ true → no_link_at (set_in inodes change) k ≡ true
stays first inodes left k (SetInode ino inode) leaves which h = elim (key_cases nat_cmp numbers k ino) [
  | inl same ↦ none_here inodes ino k inode same (elim which [
    | inl is ↦ leaves.1 (sym same ∙ is)
    | inr had ↦ leaves.2 (subst (λ q. no_link_at first q ≡ true) same had)
  ])
  | inr other ↦ rw (set_other nat_cmp numbers inodes ino inode k other) h
]
stays first inodes left k (DropInode ino) leaves which h = absurd leaves
stays first inodes left k (SetEntry entry) leaves which h = h
stays first inodes left k (DropEntry dir name) leaves which h = h
stays first inodes left k (SetBlock ino block bytes) leaves which h = h
stays first inodes left k (CutBlocks ino old_size new_size) leaves which h = h

stays_after : (first inodes : Inodes) (left k : ℕ) (group : List Change) → AllByRecursion (Leaves first left) group → (k ≡ left) ⊎ (no_link_at first k ≡ true) → no_link_at inodes k ≡ true → no_link_at (fold set_in inodes group) k ≡ true
stays_after first inodes left k [] all which h = h
stays_after first inodes left k (change ∷ group) all which h = stays_after first (set_in inodes change) left k group all.1 which (stays first inodes left k change all.0 which h)

comes : (first inodes : Inodes) (left : ℕ) (change : Change) → Leaves first left change → is_orphaned change ≡ true → no_link_at (set_in inodes change) left ≡ true
comes first inodes left (SetInode ino inode) leaves h = let same = leaves.0 h in none_here inodes ino left inode (sym same) (leaves.1 same)
comes first inodes left (DropInode ino) leaves h = absurd leaves
comes first inodes left (SetEntry entry) leaves h = absurd (false≢true h)
comes first inodes left (DropEntry dir name) leaves h = absurd (false≢true h)
comes first inodes left (SetBlock ino block bytes) leaves h = absurd (false≢true h)
comes first inodes left (CutBlocks ino old_size new_size) leaves h = absurd (false≢true h)

comes_after : (first inodes : Inodes) (left : ℕ) (group : List Change) → AllByRecursion (Leaves first left) group → orphans group ≡ true → no_link_at (fold set_in inodes group) left ≡ true
comes_after first inodes left [] all any = absurd (false≢true any)
comes_after first inodes left (change ∷ group) all any = by (comes_after first (set_in inodes change) left group all.1) (is_orphaned change) refl any
  where
    by : (orphans group ≡ true → no_link_at (fold set_in (set_in inodes change) group) left ≡ true) → (b : Bool) → is_orphaned change ≡ b → (b || orphans group) ≡ true → no_link_at (fold set_in (set_in inodes change) group) left ≡ true
    by more true is h = stays_after first (set_in inodes change) left left group all.1 (inl refl) (comes first inodes left change all.0 is)
    by more false is h = more h

-- a group with which an inode loses its last name and stays
pub record Orphaned (first : Inodes) (group : List Change) : Type 0 where
  pub left : ℕ
  pub named : no_link_at first left ≡ false
  pub any : orphans group ≡ true
  pub all : AllByRecursion (Leaves first left) group

one_more : (first : Inodes) (group : List Change) → ascends nat_cmp (keys_of first) ≡ true → Orphaned first group → count_in has_no_link first + 1 ≤ count_in has_no_link (fold set_in first group)
one_more first group h it =
    let after : Inodes = fold set_in first group in
    let one = has_none after it.left (comes_after first first it.left group it.all it.any) in
    let whole : cond (has_no_link one.value) 1 0 + count_in has_no_link (remove_entry (is_at (nat_cmp it.left)) after) ≡ count_in has_no_link after = count_remove nat_cmp has_no_link after it.left one.value one.found in
    let counted = rw one.none at whole in
    let less = count_within first (remove_entry (is_at (nat_cmp it.left)) after) h (λ k s.
    let other : k ≡ it.left → ⊥ = λ same. false≢true (sym it.named ∙ subst (λ q. no_link_at first q ≡ true) same s) in
    ap (λ o. option_map_or has_no_link o false) (removed_other nat_cmp numbers after it.left k other) ∙ stays_after first first it.left k group it.all (inr s) s) in
    omega (arith, counted, less)

-- a group that tells whether an inode loses its last name and stays
abbrev pub Tells : Inodes → List Change → Type 0
Tells first group = AllByRecursion (Spares first) group ⊎ Orphaned first group

counts_told : (first : Inodes) (group : List Change) → ascends nat_cmp (keys_of first) ≡ true → Tells first group → nat_lt (count_in has_no_link first) (count_in has_no_link (fold set_in first group)) ≡ orphans group
counts_told first group h (inl all) =
    let fewer = fewer_after first first group all (record { ascends = h; within = λ k s. s }) in
    let less = count_within (fold set_in first group) first fewer.ascends fewer.within in
    let low : nat_lt (count_in has_no_link first) (count_in has_no_link (fold set_in first group)) ≡ false = grind (arith, nat_tests, less) in
    low ∙ sym (none_orphaned first group all)
counts_told first group h (inr it) =
    let more = one_more first group h it in
    let high : nat_lt (count_in has_no_link first) (count_in has_no_link (fold set_in first group)) ≡ true = grind (arith, nat_tests, more) in
    high ∙ sym it.any

-- such a group leaves an orphan where it tells so
pub orphan_told : (files : Files) (group : List Change) → IsProper files.tree → Tells files.tree.inodes group → leaves_orphan files (record files { tree = apply files.tree group }) ≡ orphans group
orphan_told files group proper tells =
    let first : Inodes = files.tree.inodes in
    let before : length (nameless files.tree) ≡ count_in has_no_link first = nameless_counted first in
    let after : length (nameless (apply files.tree group)) ≡ count_in has_no_link (fold set_in first group) = nameless_counted (apply files.tree group).inodes ∙ ap (λ inodes. count_in has_no_link inodes) (inodes_after files.tree group) in
    ap (λ n. nat_lt n (length (nameless (apply files.tree group)))) before ∙ ap (λ n. nat_lt (count_in has_no_link first) n) after ∙ counts_told first group proper.inodes_ascend tells

-- an inode without a name is this one, or had none before
record Within (first inodes : Inodes) (left : ℕ) : Type 0 where
  ascends : ascends nat_cmp (keys_of inodes) ≡ true
  within : (k : ℕ) → no_link_at inodes k ≡ true → (k ≡ left) ⊎ (no_link_at first k ≡ true)

within_on : (first inodes : Inodes) (left : ℕ) (change : Change) → Leaves first left change → Within first inodes left → Within first (set_in inodes change) left
within_on first inodes left (SetInode ino inode) leaves it = record {
  ascends = insert_ascends nat_cmp numbers inodes ino inode it.ascends;
  within = λ k h. elim (key_cases nat_cmp numbers k ino) [
    | inl same ↦
        let t : no_link_at (insert_entry nat_cmp inodes ino inode) ino ≡ true = subst (λ q. no_link_at (insert_entry nat_cmp inodes ino inode) q ≡ true) same h in
        let z : has_no_link inode ≡ true = rw (set_here nat_cmp numbers inodes ino inode) at t in
        subst (λ q. (q ≡ left) ⊎ (no_link_at first q ≡ true)) (sym same) (leaves.3 z)
    | inr other ↦ it.within k (rw (set_other nat_cmp numbers inodes ino inode k other) at h)
  ];
}
within_on first inodes left (DropInode ino) leaves it = absurd leaves
within_on first inodes left (SetEntry entry) leaves it = it
within_on first inodes left (DropEntry dir name) leaves it = it
within_on first inodes left (SetBlock ino block bytes) leaves it = it
within_on first inodes left (CutBlocks ino old_size new_size) leaves it = it

within_after : (first inodes : Inodes) (left : ℕ) (group : List Change) → AllByRecursion (Leaves first left) group → Within first inodes left → Within first (fold set_in inodes group) left
within_after first inodes left [] all it = it
within_after first inodes left (change ∷ group) all it = within_after first (set_in inodes change) left group all.1 (within_on first inodes left change all.0 it)

few_more : (first : Inodes) (group : List Change) → ascends nat_cmp (keys_of first) ≡ true → Orphaned first group → count_in has_no_link (fold set_in first group) ≤ count_in has_no_link first + 1
few_more first group h it =
    let after : Inodes = fold set_in first group in
    let all = within_after first first it.left group it.all (record { ascends = h; within = λ k s. inr s }) in
    let one = has_none after it.left (comes_after first first it.left group it.all it.any) in
    let whole : cond (has_no_link one.value) 1 0 + count_in has_no_link (remove_entry (is_at (nat_cmp it.left)) after) ≡ count_in has_no_link after = count_remove nat_cmp has_no_link after it.left one.value one.found in
    let counted = rw one.none at whole in
    let less = count_within (remove_entry (is_at (nat_cmp it.left)) after) first (remove_ascends nat_cmp numbers (is_at (nat_cmp it.left)) after all.ascends) (λ k s. elim (key_cases nat_cmp numbers k it.left) [
      | inl same ↦
          let t : no_link_at (remove_entry (is_at (nat_cmp it.left)) after) it.left ≡ true = subst (λ q. no_link_at (remove_entry (is_at (nat_cmp it.left)) after) q ≡ true) same s in
          absurd (false≢true (rw (removed_here nat_cmp numbers after it.left all.ascends) at t))
      | inr other ↦
          let t : no_link_at after k ≡ true = ap (λ o. option_map_or has_no_link o false) (sym (removed_other nat_cmp numbers after it.left k other)) ∙ s in
          later k other (all.within k t)
    ]) in
    omega (arith, counted, less)
  where
    later : (k : ℕ) → (k ≡ it.left → ⊥) → (k ≡ it.left) ⊎ (no_link_at first k ≡ true) → no_link_at first k ≡ true
    later k other (inl same) = absurd (other same)
    later k other (inr had) = had

-- such a group leaves one inode more without a name at most
pub one_at_most : (files : Files) (group : List Change) → IsProper files.tree → Tells files.tree.inodes group → length (nameless (apply files.tree group)) ≤ length (nameless files.tree) + 1
one_at_most files group proper tells =
    let first : Inodes = files.tree.inodes in
    let before : length (nameless files.tree) ≡ count_in has_no_link first = nameless_counted first in
    let after : length (nameless (apply files.tree group)) ≡ count_in has_no_link (fold set_in first group) = nameless_counted (apply files.tree group).inodes ∙ ap (λ inodes. count_in has_no_link inodes) (inodes_after files.tree group) in
    let most = by tells in
    omega (arith, before, after, most)
  where
    by : Tells files.tree.inodes group → count_in has_no_link (fold set_in files.tree.inodes group) ≤ count_in has_no_link files.tree.inodes + 1
    by (inl all) =
        let fewer = fewer_after files.tree.inodes files.tree.inodes group all (record { ascends = proper.inodes_ascend; within = λ k s. s }) in
        let less = count_within (fold set_in files.tree.inodes group) files.tree.inodes fewer.ascends fewer.within in
        omega (arith, less)
    by (inr it) = few_more files.tree.inodes group proper.inodes_ascend it

-- an inode that is set again with as many links
pub set_again : (tree : Tree) (ino : ℕ) (old new : Inode) → IsProper tree → inode_at tree ino ≡ Some old → new.nlink ≡ old.nlink → length (keys_of (filter (λ e. e.1.nlink == 0) (insert_entry nat_cmp tree.inodes ino new))) ≤ length (nameless tree)
set_again tree ino old new proper found links =
    let up : ascends nat_cmp (keys_of tree.inodes) ≡ true = proper.inodes_ascend in
    let few = count_within (insert_entry nat_cmp tree.inodes ino new) tree.inodes (insert_ascends nat_cmp numbers tree.inodes ino new up) within in
    let first = nameless_counted (insert_entry nat_cmp tree.inodes ino new) in
    let last = nameless_counted tree.inodes in
    omega (arith, few, first, last)
  where
    within : (k : ℕ) → no_link_at (insert_entry nat_cmp tree.inodes ino new) k ≡ true → no_link_at tree.inodes k ≡ true
    within k h = elim (key_cases nat_cmp numbers k ino) [
      | inl same ↦
          let t : no_link_at (insert_entry nat_cmp tree.inodes ino new) ino ≡ true = subst (λ q. no_link_at (insert_entry nat_cmp tree.inodes ino new) q ≡ true) same h in
          let z : has_no_link new ≡ true = rw (set_here nat_cmp numbers tree.inodes ino new) at t in
          let y : has_no_link old ≡ true = subst (λ n. (n == 0) ≡ true) links z in
          subst (λ q. no_link_at tree.inodes q ≡ true) (sym same) (ap (λ o. option_map_or has_no_link o false) found ∙ y)
      | inr other ↦ rw (set_other nat_cmp numbers tree.inodes ino new k other) at h
    ]
