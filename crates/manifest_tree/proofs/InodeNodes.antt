-- Inodes that a node can carry, and what may change of them.
use Rattle.std.proofs.Common.{◌≡◌, ℕ, ◌+◌, ◌-◌, ◌<◌, ◌≤◌, ◌^◌, Bool, true, cond, max, min, List, [], ◌∷◌, length, refl, sym, ap, subst, arith}
use Rattle.std.specs.Prelude.{◌==◌, ◌&&◌, ◌||◌, not, nat_le, nat_lt}
use Rattle.std.proofs.lemmas.Bool.{and_from, and_parts, lt-ltb, ltb-true}
use Rattle.fs_model.specs.declared.inode.Inode.{Inode}
use Rattle.fs_model.specs.declared.inode.Kind.TheVariants.{Dir}
use Rattle.fs_model.specs.declared.share.Share.{Share}
use Rattle.fs_model.specs.Directory.{counted, no_share}
use Rattle.fs_model.specs.Making.{touched}
use Rattle.fs_model.specs.Path.{is_dir, is_empty}
use Rattle.fs_model.specs.Proper.{are_bytes, are_long_words, are_words, has_data, is_inode_node}

-- the parts of the test
pub record NodeParts (ino : ℕ) (i : Inode) : Type 0 where
  pub some : not (ino == 0) ≡ true
  pub mode : nat_lt i.mode 4096 ≡ true
  pub words : are_words (ino ∷ i.uid ∷ i.gid ∷ i.flags ∷ i.nlink ∷ []) ≡ true
  pub longs : are_long_words (i.size ∷ i.atime ∷ i.ctime ∷ i.mtime ∷ []) ≡ true
  pub bytes : are_bytes i.extra ≡ true
  pub short : nat_le (length i.extra) 4096 ≡ true
  pub own : (is_empty i.extra || has_data i.kind) ≡ true

pub parts_of : (ino : ℕ) (i : Inode) → is_inode_node (ino, i) ≡ true → NodeParts ino i
parts_of ino i h =
    let a : Bool = not (ino == 0) in
    let b : Bool = nat_lt i.mode 4096 in
    let c : Bool = are_words (ino ∷ i.uid ∷ i.gid ∷ i.flags ∷ i.nlink ∷ []) in
    let d : Bool = are_long_words (i.size ∷ i.atime ∷ i.ctime ∷ i.mtime ∷ []) in
    let e : Bool = are_bytes i.extra in
    let f : Bool = nat_le (length i.extra) 4096 in
    let p6 = and_parts (a && b && c && d && e && f) (is_empty i.extra || has_data i.kind) h in
    let p5 = and_parts (a && b && c && d && e) f p6.0 in
    let p4 = and_parts (a && b && c && d) e p5.0 in
    let p3 = and_parts (a && b && c) d p4.0 in
    let p2 = and_parts (a && b) c p3.0 in
    let p1 = and_parts a b p2.0 in
    record { some = p1.0; mode = p1.1; words = p2.1; longs = p3.1; bytes = p4.1; short = p5.1; own = p6.1 }

pub node_from : (ino : ℕ) (i : Inode) → NodeParts ino i → is_inode_node (ino, i) ≡ true
node_from ino i n =
    let a : Bool = not (ino == 0) in
    let b : Bool = nat_lt i.mode 4096 in
    let c : Bool = are_words (ino ∷ i.uid ∷ i.gid ∷ i.flags ∷ i.nlink ∷ []) in
    let d : Bool = are_long_words (i.size ∷ i.atime ∷ i.ctime ∷ i.mtime ∷ []) in
    let e : Bool = are_bytes i.extra in
    let f : Bool = nat_le (length i.extra) 4096 in
    let g : Bool = is_empty i.extra || has_data i.kind in
    and_from (a && b && c && d && e && f) g (and_from (a && b && c && d && e) f (and_from (a && b && c && d) e (and_from (a && b && c) d (and_from (a && b) c (and_from a b n.some n.mode) n.words) n.longs) n.bytes) n.short) n.own

-- an inode of another size is a node still
pub resized_node : (ino n : ℕ) (i : Inode) → n < 2 ^ 64 → is_inode_node (ino, i) ≡ true → is_inode_node (ino, record i { size = n }) ≡ true
resized_node ino n i h node =
    let p = parts_of ino i node in
    let times : Bool = are_long_words (i.atime ∷ i.ctime ∷ i.mtime ∷ []) in
    let q = and_parts (nat_lt i.size (2 ^ 64)) times p.longs in
    node_from ino (record i { size = n }) (record { some = p.some; mode = p.mode; words = p.words; longs = and_from (nat_lt n (2 ^ 64)) times (lt-ltb n (2 ^ 64) h) q.1; bytes = p.bytes; short = p.short; own = p.own })

-- and so is one of other links that was changed at the beginning
pub linked_node : (ino n : ℕ) (i : Inode) → n < 2 ^ 32 → is_inode_node (ino, i) ≡ true → is_inode_node (ino, touched 0 (record i { nlink = n })) ≡ true
linked_node ino n i h node =
    let p = parts_of ino i node in
    let a = and_parts (nat_lt ino (2 ^ 32)) (are_words (i.uid ∷ i.gid ∷ i.flags ∷ i.nlink ∷ [])) p.words in
    let b = and_parts (nat_lt i.uid (2 ^ 32)) (are_words (i.gid ∷ i.flags ∷ i.nlink ∷ [])) a.1 in
    let c = and_parts (nat_lt i.gid (2 ^ 32)) (are_words (i.flags ∷ i.nlink ∷ [])) b.1 in
    let d = and_parts (nat_lt i.flags (2 ^ 32)) (are_words (i.nlink ∷ [])) c.1 in
    let s = and_parts (nat_lt i.size (2 ^ 64)) (are_long_words (i.atime ∷ i.ctime ∷ i.mtime ∷ [])) p.longs in
    let t = and_parts (nat_lt i.atime (2 ^ 64)) (are_long_words (i.ctime ∷ i.mtime ∷ [])) s.1 in
    let last : are_words (n ∷ []) ≡ true = and_from (nat_lt n (2 ^ 32)) true (lt-ltb n (2 ^ 32) h) refl in
    node_from ino (touched 0 (record i { nlink = n })) (record {
      some = p.some;
      mode = p.mode;
      words = and_from (nat_lt ino (2 ^ 32)) (are_words (i.uid ∷ i.gid ∷ i.flags ∷ n ∷ [])) a.0
          (and_from (nat_lt i.uid (2 ^ 32)) (are_words (i.gid ∷ i.flags ∷ n ∷ [])) b.0
          (and_from (nat_lt i.gid (2 ^ 32)) (are_words (i.flags ∷ n ∷ [])) c.0
          (and_from (nat_lt i.flags (2 ^ 32)) (are_words (n ∷ [])) d.0 last)));
      longs = and_from (nat_lt i.size (2 ^ 64)) (are_long_words (i.atime ∷ 0 ∷ 0 ∷ [])) s.0
          (and_from (nat_lt i.atime (2 ^ 64)) (are_long_words (0 ∷ 0 ∷ [])) t.0 refl);
      bytes = p.bytes;
      short = p.short;
      own = p.own;
    })

-- and so is a directory to which an entry came
pub counted_node : (ino : ℕ) (came : Share) (d : Inode) → d.kind ≡ Dir → is_inode_node (ino, d) ≡ true → is_inode_node (ino, touched 0 (counted came no_share d)) ≡ true
counted_node ino came d kind node =
    let links : ℕ = max 1 (min (d.nlink + came.links) 4294967295 - 0) in
    let size : ℕ = min (d.size + came.bytes) 18446744073709551615 - 0 in
    let P : Bool → Type 0 = λ b. is_inode_node (ino, touched 0 (record d { nlink = cond b links d.nlink; size = cond b size d.size })) ≡ true in
    subst P (sym (ap is_dir kind)) (linked_node ino links (record d { size = size }) (omega arith) (resized_node ino size d (omega arith) node))

-- its number fits a word
pub node_number : (ino : ℕ) (i : Inode) → is_inode_node (ino, i) ≡ true → nat_lt ino (2 ^ 32) ≡ true
node_number ino i node = (and_parts (nat_lt ino (2 ^ 32)) (are_words (i.uid ∷ i.gid ∷ i.flags ∷ i.nlink ∷ [])) (parts_of ino i node).words).0
