-- One more leaf is seen.
use Rattle.std.proofs.Common.{◌≡◌, ℕ, Bool, true, false, List, refl, sym, ap, subst, ◌∙◌}
use Rattle.std.specs.Prelude.{◌==◌, ◌||◌, ◌&&◌, is_some}
use Rattle.std.specs.BTreeMap.{BTreeMap, get, is_at}
use Rattle.std.specs.Cmp.Lexicographic.{slice_cmp}
use Rattle.std.specs.Ordering.{is_eq, nat_cmp}
use Rattle.std.specs.declared.cmp.Ordering.{Ordering}
use Rattle.std.specs.declared.cmp.Ordering.TheVariants.{Less, Equal, Greater}
use Rattle.std.proofs.lemmas.Bool.{and_from, and_parts, eq-eqb, eqb-true}
use Rattle.std.proofs.lemmas.Map.Lookups.{exact_bytes}
use Rattle.fs_laws.specs.Orders.{bytes_same, named, pairs}
use Rattle.fs_model.specs.Files.{name_cmp, pair_cmp}
use Rattle.fs_model.specs.Path.{is_same_name}
use Rattle.tree_check.proofs.TestLaws.{at_here, at_same, or_none, same_tests}
use Rattle.tree_check.specs.Seen.{is_cut_off, is_seen, same_block, same_name}
use Rattle.tree_check.specs.declared.seen_leaves.SeenLeaves.{SeenLeaves}
use Rattle.tree_check.specs.declared.shown_leaf.Shown.{Shown}
use Rattle.tree_check.specs.declared.shown_leaf.Shown.TheVariants as shows

or_mid : (o t c : Bool) → ((o || t) || c) ≡ ((o || c) || t)
or_mid true t c = refl
or_mid false true true = refl
or_mid false true false = refl
or_mid false false true = refl
or_mid false false false = refl

-- ---- a key is at itself alone
at_pair : (a b c d : ℕ) → is_at (pair_cmp (a, b)) (c, d) ≡ ((c == a) && (d == b))
at_pair a b c d = same_tests (is_at (pair_cmp (a, b)) (c, d)) ((c == a) && (d == b))
    (λ h. let e = at_same pair_cmp pairs (a, b) (c, d) h in and_from (c == a) (d == b) (eq-eqb c a (ap (λ (p : ℕ × ℕ). p.0) (sym e))) (eq-eqb d b (ap (λ (p : ℕ × ℕ). p.1) (sym e))))
    (λ h.
    let e = and_parts (c == a) (d == b) h in
    at_here pair_cmp pairs (a, b) (c, d) (let x = eqb-true c a e.0 in let y = eqb-true d b e.1 in let z : (a, b) ≡ (c, d) = cc in z))

pub name_from : (n m : List ℕ) (o : Ordering) → slice_cmp nat_cmp n m ≡ o → is_eq o ≡ true → n ≡ m
name_from n m Less e k = absurd cc
name_from n m Equal e k = exact_bytes n m e
name_from n m Greater e k = absurd cc

same_name_of : (n m : List ℕ) → n ≡ m → is_same_name n m ≡ true
same_name_of n m e = subst (λ x. is_same_name n x ≡ true) e (ap is_eq (bytes_same n))

pub at_name : (a : ℕ) (b : List ℕ) (c : ℕ) (d : List ℕ) → is_at (name_cmp (a, b)) (c, d) ≡ ((c == a) && is_same_name d b)
at_name a b c d = same_tests (is_at (name_cmp (a, b)) (c, d)) ((c == a) && is_same_name d b)
    (λ h. let e = at_same name_cmp named (a, b) (c, d) h in and_from (c == a) (is_same_name d b) (eq-eqb c a (ap (λ (p : ℕ × List ℕ). p.0) (sym e))) (same_name_of d b (ap (λ (p : ℕ × List ℕ). p.1) (sym e))))
    (λ h.
    let e = and_parts (c == a) (is_same_name d b) h in
    at_here name_cmp named (a, b) (c, d) (let x = eqb-true c a e.0 in let y = name_from d b (slice_cmp nat_cmp d b) refl e.1 in let z : (a, b) ≡ (c, d) = cc in z))

-- ---- what is seen then
pub block_noted : (old : SeenLeaves) (ino block : ℕ) (blocks : BTreeMap (ℕ × ℕ) Bool) → ((q : ℕ × ℕ) → is_some (get pair_cmp blocks q) ≡ (is_some (get pair_cmp old.blocks q) || is_at (pair_cmp (ino, block)) q))
    → (s : Shown) → is_seen (record { inodes = old.inodes; names = old.names; blocks = blocks; cuts = old.cuts }) s ≡ (is_seen old s || same_block ino block s)
block_noted old ino block blocks h (shows.Block other at) =
    let o = is_some (get pair_cmp old.blocks (other, at)) in
    ap (λ b. b || is_cut_off old.cuts other at) (h (other, at) ∙ ap (λ b. o || b) (at_pair ino block other at)) ∙ or_mid o ((other == ino) && (at == block)) (is_cut_off old.cuts other at)
block_noted old ino block blocks h (shows.Inode n kind links) = or_none (is_seen old (shows.Inode n kind links))
block_noted old ino block blocks h (shows.Entry dir name n kind) = or_none (is_seen old (shows.Entry dir name n kind))
block_noted old ino block blocks h (shows.Deletion dir name) = refl
block_noted old ino block blocks h (shows.Truncation n size) = refl
block_noted old ino block blocks h shows.Nothing = refl

pub name_noted : (old : SeenLeaves) (dir : ℕ) (name : List ℕ) (names : BTreeMap (ℕ × List ℕ) Bool) → ((q : ℕ × List ℕ) → is_some (get name_cmp names q) ≡ (is_some (get name_cmp old.names q) || is_at (name_cmp (dir, name)) q))
    → (s : Shown) → is_seen (record { inodes = old.inodes; names = names; blocks = old.blocks; cuts = old.cuts }) s ≡ (is_seen old s || same_name dir name s)
name_noted old dir name names h (shows.Entry d n ino kind) = h (d, n) ∙ ap (λ b. is_some (get name_cmp old.names (d, n)) || b) (at_name dir name d n)
name_noted old dir name names h (shows.Inode n kind links) = or_none (is_seen old (shows.Inode n kind links))
name_noted old dir name names h (shows.Block ino block) = or_none (is_seen old (shows.Block ino block))
name_noted old dir name names h (shows.Deletion d n) = refl
name_noted old dir name names h (shows.Truncation n size) = refl
name_noted old dir name names h shows.Nothing = refl
