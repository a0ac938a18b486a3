-- The groups of operations take no more bytes than a group may.
use Rattle.std.proofs.Common.{◌≡◌, ℕ, ◌+◌, ◌≤◌, ◌/◌, ◌%◌, Bool, true, false, cond, ◌&&◌, ◌||◌, not, List, [], ◌∷◌, ◌++◌, Option, Some, None, length, take, sum_by, refl, sym, ap, ◌∙◌, subst, arith}
use Rattle.std.specs.Prelude.{◌==◌, nat_lt}
use Rattle.std.specs.BTreeMap.{is_at}
use Rattle.std.specs.List.{list_all}
use Rattle.std.specs.Map.{lookup}
use Rattle.std.specs.Option.{option_map_or}
use Rattle.std.specs.Ordering.{nat_cmp}
use Rattle.std.proofs.lemmas.Bool.{and_parts, false≢true}
use Rattle.std.proofs.lemmas.Bool.Decides.{nat_tests}
use Rattle.std.proofs.lemmas.List.Sums.{sum_by-cons, sum_by-append}
use Rattle.fs_model.specs.declared.change.Change.{Change}
use Rattle.fs_model.specs.declared.change.Change.TheVariants.{SetInode, SetEntry, DropEntry, SetBlock, CutBlocks, DropInode}
use Rattle.fs_model.specs.declared.inode.Entry.{Entry}
use Rattle.fs_model.specs.declared.inode.Inode.{Inode}
use Rattle.fs_model.specs.declared.inode.Kind.{Kind}
use Rattle.fs_model.specs.declared.inode.Kind.TheVariants.{File, Dir, Symlink, Block, Char, Fifo, Socket}
use Rattle.fs_model.specs.Backing.{group_limit, is_node}
use Rattle.fs_model.specs.Cover.{inode_bytes, entry_bytes, block_bytes, round_8}
use Rattle.fs_model.specs.declared.share.Share.{Share}
use Rattle.fs_model.specs.Directory.{counted, no_share, share_of}
use Rattle.fs_model.specs.Files.{Tree, Files, Inodes, inode_at, block_at, size_of}
use Rattle.fs_model.specs.Links.{less_linked, linking, losing, removing}
use Rattle.fs_model.specs.Making.{making, touched, touching}
use Rattle.fs_model.specs.Need.{change_bytes, truncation_need}
use Rattle.fs_model.specs.Orphan.{is_open}
use Rattle.fs_model.specs.Path.{is_empty}
use Rattle.fs_model.specs.Proper.{IsProper, has_kind, has_data, is_inode_node, same_kind}
use Rattle.fs_model.specs.Rename.{coming, moving}
use Rattle.fs_model.specs.Truncation.{truncating}
use Rattle.op_groups.proofs.Asked.{one_little, rounded}

entry_little : (entry : Entry) → is_node (SetEntry entry) ≡ true → entry_bytes entry ≤ 312
entry_little entry h = let short : length entry.name ≤ 255 = grind (arith, nat_tests) in rounded (57 + length entry.name) 39 (omega arith)

drop_little : (dir : ℕ) (name : List ℕ) → is_node (DropEntry dir name) ≡ true → round_8 (57 + length name) ≤ 312
drop_little dir name h = let short : length name ≤ 255 = grind (arith, nat_tests) in rounded (57 + length name) 39 (omega arith)

inode_little : (ino : ℕ) (inode : Inode) → is_inode_node (ino, inode) ≡ true → inode_bytes inode ≤ 4256
inode_little ino inode h = one_little 0 (SetInode ino inode) (omega arith) h

-- an inode that is there is no longer
found_little : (inodes : Inodes) (ino : ℕ) (inode : Inode) → lookup (is_at (nat_cmp ino)) inodes ≡ Some inode → list_all is_inode_node inodes ≡ true → inode_bytes inode ≤ 4256
found_little [] ino inode h n = absurd cc
found_little (e ∷ inodes) ino inode h n =
    let p = and_parts (is_inode_node e) (list_all is_inode_node inodes) n in
    by (inode_little e.0 e.1 p.0) (λ l. found_little inodes ino inode l p.1) (is_at (nat_cmp ino) e.0) h
  where
    by : inode_bytes e.1 ≤ 4256 → (lookup (is_at (nat_cmp ino)) inodes ≡ Some inode → inode_bytes inode ≤ 4256) → (b : Bool) → cond b (Some e.1) (lookup (is_at (nat_cmp ino)) inodes) ≡ Some inode → inode_bytes inode ≤ 4256
    by here rest true l = let same : e.1 ≡ inode = cc in let P : Inode → Type 0 = λ i. inode_bytes i ≤ 4256 in subst P same here
    by here rest false l = rest l

dir_has_no_data : (kind : Kind) → same_kind kind Dir ≡ true → has_data kind ≡ false
dir_has_no_data File h = refl
dir_has_no_data Dir h = refl
dir_has_no_data Symlink h = absurd (false≢true h)
dir_has_no_data Block h = absurd (false≢true h)
dir_has_no_data Char h = absurd (false≢true h)
dir_has_no_data Fifo h = refl
dir_has_no_data Socket h = refl

no_bytes : (bytes : List ℕ) (b : Bool) → b ≡ false → (is_empty bytes || b) ≡ true → length bytes ≡ 0
no_bytes [] b e h = refl
no_bytes (x ∷ bytes) true e h = absurd (false≢true (sym e))
no_bytes (x ∷ bytes) false e h = absurd (false≢true h)

has_room : (ino : ℕ) (inode : Inode) → is_inode_node (ino, inode) ≡ true → (is_empty inode.extra || has_data inode.kind) ≡ true
has_room ino inode h = grind (arith, nat_tests)

-- an inode whose kind has no data
plain_little : (ino : ℕ) (inode : Inode) → has_data inode.kind ≡ false → is_inode_node (ino, inode) ≡ true → inode_bytes inode ≤ 160
plain_little ino inode d h =
    let none : length inode.extra ≡ 0 = no_bytes inode.extra (has_data inode.kind) d (has_room ino inode h) in
    rounded (160 + length inode.extra) 20 (omega arith)

touching_little : (tree : Tree) (dir now : ℕ) (came gone : Share) → has_kind tree dir Dir ≡ true → list_all is_node (touching tree dir now came gone) ≡ true → sum_by (change_bytes tree) (touching tree dir now came gone) ≤ 160
touching_little tree dir now came gone = by (inode_at tree dir)
  where
    by : (at : Option Inode) → option_map_or (λ inode. same_kind inode.kind Dir) at false ≡ true → list_all is_node (option_map_or (λ inode. SetInode dir (touched now (counted came gone inode)) ∷ []) at []) ≡ true
        → sum_by (change_bytes tree) (option_map_or (λ inode. SetInode dir (touched now (counted came gone inode)) ∷ []) at []) ≤ 160
    by None d h = omega arith
    by (Some inode) d h = rw (sum_by-cons (change_bytes tree) (SetInode dir (touched now (counted came gone inode))) []) (let little = plain_little dir (touched now (counted came gone inode)) (dir_has_no_data inode.kind d) (and_parts (is_node (SetInode dir (touched now (counted came gone inode)))) true h).0 in omega (arith, little))

losing_little : (files : Files) (ino now : ℕ) (inode : Inode) → IsProper files.tree → inode_at files.tree ino ≡ Some inode → is_node (losing files ino now inode) ≡ true → change_bytes files.tree (losing files ino now inode) ≤ 4256
losing_little files ino now inode proper found = by (found_little files.tree.inodes ino inode found proper.inode_nodes) (((less_linked now inode).nlink == 0) && not (is_open files ino))
  where
    by : inode_bytes inode ≤ 4256 → (b : Bool) → is_node (cond b (DropInode ino) (SetInode ino (less_linked now inode))) ≡ true → change_bytes files.tree (cond b (DropInode ino) (SetInode ino (less_linked now inode))) ≤ 4256
    by little true h = rw found little
    by little false h = inode_little ino (less_linked now inode) h

split_two : (a b : Change) (rest : List Change) → list_all is_node (a ∷ b ∷ rest) ≡ true → (is_node a ≡ true) × (is_node b ≡ true) × (list_all is_node rest ≡ true)
split_two a b rest h =
    let p = and_parts (is_node a) (list_all is_node (b ∷ rest)) h in let q = and_parts (is_node b) (list_all is_node rest) p.1 in (p.0, q.0, q.1)

split_append : (front back : List Change) → list_all is_node (front ++ back) ≡ true → (list_all is_node front ≡ true) × (list_all is_node back ≡ true)
split_append [] back h = (refl, h)
split_append (a ∷ front) back h =
    let p = and_parts (is_node a) (list_all is_node (front ++ back)) h in let q = split_append front back p.1 in
    (rw (p.0, q.0) refl, q.1)

sum_two : (tree : Tree) (a b : Change) (rest : List Change) → sum_by (change_bytes tree) (a ∷ b ∷ rest) ≡ change_bytes tree a + (change_bytes tree b + sum_by (change_bytes tree) rest)
sum_two tree a b rest = sum_by-cons (change_bytes tree) a (b ∷ rest) ∙ ap (λ n. change_bytes tree a + n) (sum_by-cons (change_bytes tree) b rest)

pub making_fits : (tree : Tree) (dir : ℕ) (name : List ℕ) (inode : Inode) (now : ℕ) → has_kind tree dir Dir ≡ true → list_all is_node (making tree dir name inode now) ≡ true → sum_by (change_bytes tree) (making tree dir name inode now) ≤ group_limit
making_fits tree dir name inode now d h =
    let entry : Entry = record { dir = dir; name = name; ino = tree.highest + 1; kind = inode.kind } in
    let n = split_two (SetEntry entry) (SetInode (tree.highest + 1) inode) (touching tree dir now (share_of entry) no_share) h in
    let first = entry_little entry n.0 in
    let second = inode_little (tree.highest + 1) inode n.1 in
    let rest = touching_little tree dir now (share_of entry) no_share d n.2 in
    rw (sum_two tree (SetEntry entry) (SetInode (tree.highest + 1) inode) (touching tree dir now (share_of entry) no_share)) (omega (arith, first, second, rest))

pub linking_fits : (tree : Tree) (entry : Entry) (inode : Inode) (dir : ℕ) (name : List ℕ) (now : ℕ) → has_kind tree dir Dir ≡ true → list_all is_node (linking tree entry inode dir name now) ≡ true → sum_by (change_bytes tree) (linking tree entry inode dir name now) ≤ group_limit
linking_fits tree entry inode dir name now d h =
    let new : Entry = record entry { dir = dir; name = name } in
    let more : Inode = touched now (record inode { nlink = inode.nlink + 1 }) in
    let n = split_two (SetEntry new) (SetInode entry.ino more) (touching tree dir now (share_of new) no_share) h in
    let first = entry_little new n.0 in
    let second = inode_little entry.ino more n.1 in
    let rest = touching_little tree dir now (share_of new) no_share d n.2 in
    rw (sum_two tree (SetEntry new) (SetInode entry.ino more) (touching tree dir now (share_of new) no_share)) (omega (arith, first, second, rest))

pub removing_fits : (files : Files) (entry : Entry) (inode : Inode) (now : ℕ) → IsProper files.tree → inode_at files.tree entry.ino ≡ Some inode → has_kind files.tree entry.dir Dir ≡ true → list_all is_node (removing files entry inode now) ≡ true
    → sum_by (change_bytes files.tree) (removing files entry inode now) ≤ group_limit
removing_fits files entry inode now proper found d h =
    let lost : Change = losing files entry.ino now inode in
    let n = split_two (DropEntry entry.dir entry.name) lost (touching files.tree entry.dir now no_share (share_of entry)) h in
    let first = drop_little entry.dir entry.name n.0 in
    let second = losing_little files entry.ino now inode proper found n.1 in
    let rest = touching_little files.tree entry.dir now no_share (share_of entry) d n.2 in
    rw (sum_two files.tree (DropEntry entry.dir entry.name) lost (touching files.tree entry.dir now no_share (share_of entry))) (omega (arith, first, second, rest))

moving_lost_fits : (files : Files) (from : Entry) (dir : ℕ) (name : List ℕ) (lost : List Change) (now : ℕ) → (list_all is_node lost ≡ true → sum_by (change_bytes files.tree) lost ≤ 4256) → has_kind files.tree from.dir Dir ≡ true → has_kind files.tree dir Dir ≡ true
    → list_all is_node (moving files from dir name lost now) ≡ true → sum_by (change_bytes files.tree) (moving files from dir name lost now) ≤ group_limit
moving_lost_fits files from dir name lost now few f d h =
    let new : Entry = record from { dir = dir; name = name } in
    let came : Share = coming new lost in
    let first_came : Share = cond (from.dir == dir) came no_share in
    let left : List Change = touching files.tree from.dir now first_came (share_of from) in
    let come : List Change = cond (from.dir == dir) [] (touching files.tree dir now came no_share) in
    let n = split_two (SetEntry new) (DropEntry from.dir from.name) (lost ++ left ++ come) h in
    let both = split_append (lost ++ left) come n.2 in
    let parts = split_append lost left both.0 in
    let first = entry_little new n.0 in
    let second = drop_little from.dir from.name n.1 in
    let third = few parts.0 in
    let fourth = touching_little files.tree from.dir now first_came (share_of from) f parts.1 in
    let fifth = by came (from.dir == dir) both.1 in
    rw (sum_two files.tree (SetEntry new) (DropEntry from.dir from.name) (lost ++ left ++ come), sum_by-append (change_bytes files.tree) (lost ++ left) come, sum_by-append (change_bytes files.tree) lost left) (omega (arith, first, second, third, fourth, fifth))
  where
    by : (came : Share) (b : Bool) → list_all is_node (cond b [] (touching files.tree dir now came no_share)) ≡ true → sum_by (change_bytes files.tree) (cond b [] (touching files.tree dir now came no_share)) ≤ 160
    by came true h = omega arith
    by came false h = touching_little files.tree dir now came no_share d h

pub moving_fits : (files : Files) (from : Entry) (dir : ℕ) (name : List ℕ) (now : ℕ) → has_kind files.tree from.dir Dir ≡ true → has_kind files.tree dir Dir ≡ true → list_all is_node (moving files from dir name [] now) ≡ true
    → sum_by (change_bytes files.tree) (moving files from dir name [] now) ≤ group_limit
moving_fits files from dir name now = moving_lost_fits files from dir name [] now (λ h. omega arith)

pub moving_over_fits : (files : Files) (from over : Entry) (inode : Inode) (dir : ℕ) (name : List ℕ) (now : ℕ) → IsProper files.tree → inode_at files.tree over.ino ≡ Some inode → has_kind files.tree from.dir Dir ≡ true → has_kind files.tree dir Dir ≡ true
    → list_all is_node (moving files from dir name (losing files over.ino now inode ∷ []) now) ≡ true → sum_by (change_bytes files.tree) (moving files from dir name (losing files over.ino now inode ∷ []) now) ≤ group_limit
moving_over_fits files from over inode dir name now proper found =
    let lost : Change = losing files over.ino now inode in
    moving_lost_fits files from dir name (lost ∷ []) now (λ h. rw (sum_by-cons (change_bytes files.tree) lost []) (let little = losing_little files over.ino now inode proper found (and_parts (is_node lost) true h).0 in omega (arith, little)))

block_little : (ino block : ℕ) (bytes : List ℕ) → is_node (SetBlock ino block bytes) ≡ true → block_bytes bytes ≤ 4144
block_little ino block bytes h = let short : length bytes ≤ 4096 = grind (arith, nat_tests) in rounded (48 + length bytes) 518 (omega arith)

-- a group that sets a size takes what it asks for, or less
record Enough (tree : Tree) (group : List Change) : Type 0 where
  bytes : sum_by (change_bytes tree) group ≤ (truncation_need group).bytes
  nodes : length group ≤ (truncation_need group).nodes
  limit : sum_by (change_bytes tree) group ≤ group_limit

truncating_enough : (tree : Tree) (ino : ℕ) (inode : Inode) (size now : ℕ) → has_data inode.kind ≡ false → list_all is_node (truncating tree ino inode size now) ≡ true → Enough tree (truncating tree ino inode size now)
truncating_enough tree ino inode size now d = by (nat_lt size (size_of tree ino inode)) (not (size % 4096 == 0) && nat_lt (size % 4096) (length (block_at tree.blocks ino (size / 4096))))
  where
    by : (b c : Bool) → let set = SetInode ino (touched now (record inode { size = size })) in
        let rest = cond b (CutBlocks ino (size_of tree ino inode) size ∷ cond c (SetBlock ino (size / 4096) (take (size % 4096) (block_at tree.blocks ino (size / 4096))) ∷ []) []) [] in
        list_all is_node (set ∷ rest) ≡ true → Enough tree (set ∷ rest)
    by false c h =
        let set : Change = SetInode ino (touched now (record inode { size = size })) in
        let little = plain_little ino (touched now (record inode { size = size })) d (and_parts (is_node set) true h).0 in
        let sum = sum_by-cons (change_bytes tree) set [] in
        record { bytes = omega (arith, little, sum); nodes = omega arith; limit = omega (arith, little, sum) }
    by true false h =
        let set : Change = SetInode ino (touched now (record inode { size = size })) in
        let cut : Change = CutBlocks ino (size_of tree ino inode) size in
        let n = split_two set cut [] h in
        let little = plain_little ino (touched now (record inode { size = size })) d n.0 in
        let sum = sum_two tree set cut [] in
        record { bytes = omega (arith, little, sum); nodes = omega arith; limit = omega (arith, little, sum) }
    by true true h =
        let set : Change = SetInode ino (touched now (record inode { size = size })) in
        let cut : Change = CutBlocks ino (size_of tree ino inode) size in
        let short : Change = SetBlock ino (size / 4096) (take (size % 4096) (block_at tree.blocks ino (size / 4096))) in
        let n = split_two set cut (short ∷ []) h in
        let little = plain_little ino (touched now (record inode { size = size })) d n.0 in
        let last = block_little ino (size / 4096) (take (size % 4096) (block_at tree.blocks ino (size / 4096))) (and_parts (is_node short) true n.2).0 in
        let sum = sum_two tree set cut (short ∷ []) in
        let one = sum_by-cons (change_bytes tree) short [] in
        record { bytes = omega (arith, little, last, sum, one); nodes = omega arith; limit = omega (arith, little, last, sum, one) }

pub truncating_bytes : (tree : Tree) (ino : ℕ) (inode : Inode) (size now : ℕ) → has_data inode.kind ≡ false → list_all is_node (truncating tree ino inode size now) ≡ true
    → sum_by (change_bytes tree) (truncating tree ino inode size now) ≤ (truncation_need (truncating tree ino inode size now)).bytes
truncating_bytes tree ino inode size now d h = (truncating_enough tree ino inode size now d h).bytes

pub truncating_nodes : (tree : Tree) (ino : ℕ) (inode : Inode) (size now : ℕ) → has_data inode.kind ≡ false → list_all is_node (truncating tree ino inode size now) ≡ true
    → length (truncating tree ino inode size now) ≤ (truncation_need (truncating tree ino inode size now)).nodes
truncating_nodes tree ino inode size now d h = (truncating_enough tree ino inode size now d h).nodes

pub truncating_fits : (tree : Tree) (ino : ℕ) (inode : Inode) (size now : ℕ) → has_data inode.kind ≡ false → list_all is_node (truncating tree ino inode size now) ≡ true
    → sum_by (change_bytes tree) (truncating tree ino inode size now) ≤ group_limit
truncating_fits tree ino inode size now d h = (truncating_enough tree ino inode size now d h).limit
