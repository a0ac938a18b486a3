-- Inodes and blocks that a node can carry.
use Rattle.std.proofs.Common.{◌≡◌, ℕ, ◌+◌, ◌-◌, ◌<◌, ◌≤◌, ◌^◌, Bool, true, false, cond, min, max, not, ◌&&◌, ◌||◌, List, [], ◌∷◌, length, refl, arith}
use Rattle.std.specs.Prelude.{◌==◌, nat_le, nat_lt}
use Rattle.std.proofs.lemmas.Bool.{and_parts, and_from, lt-ltb, ltb-true, le-leb, leb-true}
use Rattle.fs_model.specs.declared.inode.Inode.{Inode}
use Rattle.fs_model.specs.declared.share.Share.{Share}
use Rattle.fs_model.specs.Directory.{counted}
use Rattle.fs_model.specs.Making.{touched}
use Rattle.fs_model.specs.Path.{is_dir, is_empty}
use Rattle.fs_model.specs.Proper.{are_bytes, are_words, are_long_words, has_data, is_inode_node, is_block_node}

abbrev pub words_of : ℕ → Inode → List ℕ
words_of ino i = ino ∷ i.uid ∷ i.gid ∷ i.flags ∷ i.nlink ∷ []

-- the parts of the test
pub record InodeNode (number : ℕ) (i : Inode) : Type 0 where
  pub ino : not (number == 0) ≡ true
  pub mode : nat_lt i.mode 4096 ≡ true
  pub words : are_words (words_of number i) ≡ true
  pub longs : are_long_words (i.size ∷ i.atime ∷ i.ctime ∷ i.mtime ∷ []) ≡ true
  pub bytes : are_bytes i.extra ≡ true
  pub short : nat_le (length i.extra) 4096 ≡ true
  pub own : (is_empty i.extra || has_data i.kind) ≡ true

pub node_of : (number : ℕ) (i : Inode) → is_inode_node (number, i) ≡ true → InodeNode number i
node_of number i h =
    let a : Bool = not (number == 0) in
    let b : Bool = nat_lt i.mode 4096 in
    let c : Bool = are_words (words_of number i) in
    let d : Bool = are_long_words (i.size ∷ i.atime ∷ i.ctime ∷ i.mtime ∷ []) in
    let e : Bool = are_bytes i.extra in
    let f : Bool = nat_le (length i.extra) 4096 in
    let g : Bool = is_empty i.extra || has_data i.kind in
    let p6 = and_parts (a && b && c && d && e && f) g h in
    let p5 = and_parts (a && b && c && d && e) f p6.0 in
    let p4 = and_parts (a && b && c && d) e p5.0 in
    let p3 = and_parts (a && b && c) d p4.0 in
    let p2 = and_parts (a && b) c p3.0 in
    let p1 = and_parts a b p2.0 in
    record { ino = p1.0; mode = p1.1; words = p2.1; longs = p3.1; bytes = p4.1; short = p5.1; own = p6.1 }

pub node_from : (number : ℕ) (i : Inode) → InodeNode number i → is_inode_node (number, i) ≡ true
node_from number i n =
    let a : Bool = not (number == 0) in
    let b : Bool = nat_lt i.mode 4096 in
    let c : Bool = are_words (words_of number i) in
    let d : Bool = are_long_words (i.size ∷ i.atime ∷ i.ctime ∷ i.mtime ∷ []) in
    let e : Bool = are_bytes i.extra in
    let f : Bool = nat_le (length i.extra) 4096 in
    let g : Bool = is_empty i.extra || has_data i.kind in
    and_from (a && b && c && d && e && f) g (and_from (a && b && c && d && e) f (and_from (a && b && c && d) e (and_from (a && b && c) d (and_from (a && b) c (and_from a b n.ino n.mode) n.words) n.longs) n.bytes) n.short) n.own

pub longs_touched : (size atime ctime mtime now : ℕ) → now < 2 ^ 64 → are_long_words (size ∷ atime ∷ ctime ∷ mtime ∷ []) ≡ true → are_long_words (size ∷ atime ∷ now ∷ now ∷ []) ≡ true
longs_touched size atime ctime mtime now h t =
    let moment : nat_lt now (2 ^ 64) ≡ true = lt-ltb now (2 ^ 64) h in
    let first = and_parts (nat_lt size (2 ^ 64)) (are_long_words (atime ∷ ctime ∷ mtime ∷ [])) t in
    let second = and_parts (nat_lt atime (2 ^ 64)) (are_long_words (ctime ∷ mtime ∷ [])) first.1 in
    and_from (nat_lt size (2 ^ 64)) (are_long_words (atime ∷ now ∷ now ∷ [])) first.0
    (and_from (nat_lt atime (2 ^ 64)) (are_long_words (now ∷ now ∷ [])) second.0
    (and_from (nat_lt now (2 ^ 64)) (are_long_words (now ∷ [])) moment
    (and_from (nat_lt now (2 ^ 64)) true moment refl)))

-- an inode that is changed at this moment
pub node_touched : (number : ℕ) (i : Inode) (now : ℕ) → now < 2 ^ 64 → is_inode_node (number, i) ≡ true → is_inode_node (number, touched now i) ≡ true
node_touched number i now h t =
    let n = node_of number i t in
    node_from number (touched now i) (record { ino = n.ino; mode = n.mode; words = n.words; longs = longs_touched i.size i.atime i.ctime i.mtime now h n.longs; bytes = n.bytes; short = n.short; own = n.own })

pub node_moded : (number : ℕ) (i : Inode) (mode : ℕ) → mode ≤ 4095 → is_inode_node (number, i) ≡ true → is_inode_node (number, record i { mode = mode }) ≡ true
node_moded number i mode h t =
    let n = node_of number i t in
    node_from number (record i { mode = mode }) (record { ino = n.ino; mode = lt-ltb mode 4096 (omega (arith, h)); words = n.words; longs = n.longs; bytes = n.bytes; short = n.short; own = n.own })

pub node_sized : (number : ℕ) (i : Inode) (size : ℕ) → size < 2 ^ 64 → is_inode_node (number, i) ≡ true → is_inode_node (number, record i { size = size }) ≡ true
node_sized number i size h t =
    let n = node_of number i t in
    let first = and_parts (nat_lt i.size (2 ^ 64)) (are_long_words (i.atime ∷ i.ctime ∷ i.mtime ∷ [])) n.longs in
    node_from number (record i { size = size }) (record { ino = n.ino; mode = n.mode; words = n.words; longs = and_from (nat_lt size (2 ^ 64)) (are_long_words (i.atime ∷ i.ctime ∷ i.mtime ∷ [])) (lt-ltb size (2 ^ 64) h) first.1; bytes = n.bytes; short = n.short; own = n.own })

pub node_linked : (number : ℕ) (i : Inode) (nlink : ℕ) → nlink < 2 ^ 32 → is_inode_node (number, i) ≡ true → is_inode_node (number, record i { nlink = nlink }) ≡ true
node_linked number i nlink h t =
    let n = node_of number i t in
    let a = and_parts (nat_lt number (2 ^ 32)) (are_words (i.uid ∷ i.gid ∷ i.flags ∷ i.nlink ∷ [])) n.words in
    let b = and_parts (nat_lt i.uid (2 ^ 32)) (are_words (i.gid ∷ i.flags ∷ i.nlink ∷ [])) a.1 in
    let c = and_parts (nat_lt i.gid (2 ^ 32)) (are_words (i.flags ∷ i.nlink ∷ [])) b.1 in
    let d = and_parts (nat_lt i.flags (2 ^ 32)) (are_words (i.nlink ∷ [])) c.1 in
    node_from number (record i { nlink = nlink }) (record {
      ino = n.ino;
      mode = n.mode;
      words = and_from (nat_lt number (2 ^ 32)) (are_words (i.uid ∷ i.gid ∷ i.flags ∷ nlink ∷ [])) a.0
          (and_from (nat_lt i.uid (2 ^ 32)) (are_words (i.gid ∷ i.flags ∷ nlink ∷ [])) b.0
          (and_from (nat_lt i.gid (2 ^ 32)) (are_words (i.flags ∷ nlink ∷ [])) c.0
          (and_from (nat_lt i.flags (2 ^ 32)) (are_words (nlink ∷ [])) d.0 (and_from (nat_lt nlink (2 ^ 32)) true (lt-ltb nlink (2 ^ 32) h) refl))));
      longs = n.longs;
      bytes = n.bytes;
      short = n.short;
      own = n.own;
    })

pub node_links : (number : ℕ) (i : Inode) → is_inode_node (number, i) ≡ true → i.nlink < 2 ^ 32
node_links number i t =
    let n = node_of number i t in
    let a = and_parts (nat_lt number (2 ^ 32)) (are_words (i.uid ∷ i.gid ∷ i.flags ∷ i.nlink ∷ [])) n.words in
    let b = and_parts (nat_lt i.uid (2 ^ 32)) (are_words (i.gid ∷ i.flags ∷ i.nlink ∷ [])) a.1 in
    let c = and_parts (nat_lt i.gid (2 ^ 32)) (are_words (i.flags ∷ i.nlink ∷ [])) b.1 in
    let d = and_parts (nat_lt i.flags (2 ^ 32)) (are_words (i.nlink ∷ [])) c.1 in
    ltb-true i.nlink (2 ^ 32) (and_parts (nat_lt i.nlink (2 ^ 32)) true d.1).0

pub node_number : (number : ℕ) (i : Inode) → is_inode_node (number, i) ≡ true → nat_lt number (2 ^ 32) ≡ true
node_number number i t =
    let n = node_of number i t in (and_parts (nat_lt number (2 ^ 32)) (are_words (i.uid ∷ i.gid ∷ i.flags ∷ i.nlink ∷ [])) n.words).0

pub node_size : (number : ℕ) (i : Inode) → is_inode_node (number, i) ≡ true → i.size < 2 ^ 64
node_size number i t =
    let n = node_of number i t in ltb-true i.size (2 ^ 64) (and_parts (nat_lt i.size (2 ^ 64)) (are_long_words (i.atime ∷ i.ctime ∷ i.mtime ∷ [])) n.longs).0

-- a directory's inode whose entries change
pub node_counted : (number : ℕ) (came gone : Share) (i : Inode) → is_inode_node (number, i) ≡ true → is_inode_node (number, counted came gone i) ≡ true
node_counted number came gone i t =
    let links : ℕ = cond (is_dir i.kind) (max 1 (min (i.nlink + came.links) 4294967295 - gone.links)) i.nlink in
    let size : ℕ = cond (is_dir i.kind) (min (i.size + came.bytes) 18446744073709551615 - gone.bytes) i.size in
    node_sized number (record i { nlink = links }) size (few_bytes (is_dir i.kind) (node_size number i t))
    (node_linked number i links (few_links (is_dir i.kind) (node_links number i t)) t)
  where
    few_links : (d : Bool) → i.nlink < 2 ^ 32 → cond d (max 1 (min (i.nlink + came.links) 4294967295 - gone.links)) i.nlink < 2 ^ 32
    few_links true h = omega arith
    few_links false h = h

    few_bytes : (d : Bool) → i.size < 2 ^ 64 → cond d (min (i.size + came.bytes) 18446744073709551615 - gone.bytes) i.size < 2 ^ 64
    few_bytes true h = omega arith
    few_bytes false h = h

-- and that changes at this moment
pub node_changed : (number : ℕ) (came gone : Share) (i : Inode) (now : ℕ) → now < 2 ^ 64 → is_inode_node (number, i) ≡ true → is_inode_node (number, touched now (counted came gone i)) ≡ true
node_changed number came gone i now h t = node_touched number (counted came gone i) now h (node_counted number came gone i t)

-- the parts of the test of a block
pub record BlockNode (e : (ℕ × ℕ) × List ℕ) : Type 0 where
  pub ino : nat_lt e.0.0 (2 ^ 32) ≡ true
  pub block : e.0.1 < 536870912
  pub full : not (is_empty e.1) ≡ true
  pub short : length e.1 ≤ 4096
  pub bytes : are_bytes e.1 ≡ true

pub block_node_of : (e : (ℕ × ℕ) × List ℕ) → is_block_node e ≡ true → BlockNode e
block_node_of e h =
    let a : Bool = nat_lt e.0.0 (2 ^ 32) in
    let b : Bool = nat_lt e.0.1 (2 ^ 29) in
    let c : Bool = not (is_empty e.1) in
    let d : Bool = nat_le (length e.1) 4096 in
    let p4 = and_parts (a && b && c && d) (are_bytes e.1) h in
    let p3 = and_parts (a && b && c) d p4.0 in
    let p2 = and_parts (a && b) c p3.0 in
    let p1 = and_parts a b p2.0 in
    record { ino = p1.0; block = ltb-true e.0.1 536870912 p1.1; full = p2.1; short = leb-true (length e.1) 4096 p3.1; bytes = p4.1 }

pub block_node_from : (e : (ℕ × ℕ) × List ℕ) → BlockNode e → is_block_node e ≡ true
block_node_from e n =
    let a : Bool = nat_lt e.0.0 (2 ^ 32) in
    let b : Bool = nat_lt e.0.1 (2 ^ 29) in
    let c : Bool = not (is_empty e.1) in
    let d : Bool = nat_le (length e.1) 4096 in
    and_from (a && b && c && d) (are_bytes e.1) (and_from (a && b && c) d (and_from (a && b) c (and_from a b n.ino (lt-ltb e.0.1 536870912 n.block)) n.full) (le-leb (length e.1) 4096 n.short)) n.bytes
