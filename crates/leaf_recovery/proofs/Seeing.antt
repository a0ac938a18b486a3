-- What is kept of leaves tells what they show.
use Rattle.std.proofs.Common.{◌≡◌, ℕ, Bool, true, false, cond, ◌&&◌, ◌||◌, ◌*◌, List, [], ◌∷◌, ◌++◌, refl, sym, ap, subst, ◌∙◌, Option, Some}
use Rattle.std.specs.Prelude.{◌==◌, is_some, nat_le}
use Rattle.std.specs.BTreeMap.{get, is_at}
use Rattle.std.specs.Cmp.Lexicographic.{slice_cmp}
use Rattle.std.specs.Ordering.{is_eq, nat_cmp}
use Rattle.std.specs.declared.cmp.Ordering.{Ordering}
use Rattle.std.specs.declared.cmp.Ordering.TheVariants.{Less, Equal, Greater}
use Rattle.std.proofs.lemmas.Bool.{false≢true, and_parts, and_from, eqb-true, eq-eqb}
use Rattle.fs_model.specs.Files.{name_cmp, pair_cmp}
use Rattle.fs_model.specs.Path.{is_same_name}
use Rattle.fs_laws.specs.Maps.{IsOrder}
use Rattle.fs_laws.specs.Orders.{bytes_same, named, numbers, pairs}
use Rattle.journal_scan.specs.declared.node_content.NodeContent.{NodeContent}
use Rattle.journal_scan.specs.declared.node_content.NodeContent.TheVariants.{Inode, Block, Entry, Truncation, Unknown}
use Rattle.leaf_recovery.specs.declared.seen.Cut.{Cut}
use Rattle.leaf_recovery.specs.declared.seen.Seen.{Seen}
use Rattle.leaf_recovery.specs.Seen.{cut_seen, has_seen}
use Rattle.leaf_recovery.specs.Things.{shows_told}

-- ---- keys of a map
pub at_same : {K : Type 0} (cmp : K → K → Ordering) → IsOrder cmp → (a b : K) → is_at (cmp a) b ≡ true → a ≡ b
at_same cmp order a b h = by (cmp a b) refl h
  where
    by : (o : Ordering) → cmp a b ≡ o → is_eq o ≡ true → a ≡ b
    by Less e t = absurd (false≢true t)
    by Equal e t = order.exact a b e
    by Greater e t = absurd (false≢true t)

pub at_itself : {K : Type 0} (cmp : K → K → Ordering) → IsOrder cmp → (a b : K) → a ≡ b → is_at (cmp a) b ≡ true
at_itself {K} cmp order a b e = subst (λ (z : K). is_at (cmp a) z ≡ true) e (ap is_eq (order.same a))

-- a test that holds of a key alone is that of the map
pub test_at : {K : Type 0} (cmp : K → K → Ordering) → IsOrder cmp → (a b : K) (test : Bool) → (test ≡ true → a ≡ b) → (a ≡ b → test ≡ true) → is_at (cmp a) b ≡ test
test_at cmp order a b test f g = by (is_at (cmp a) b) refl test refl
  where
    by : (s : Bool) → is_at (cmp a) b ≡ s → (t : Bool) → test ≡ t → s ≡ t
    by true e true h = refl
    by false e false h = refl
    by true e false h = absurd (false≢true (sym h ∙ g (at_same cmp order a b e)))
    by false e true h = absurd (false≢true (sym e ∙ at_itself cmp order a b (f h)))

number_at : (a b : ℕ) → is_at (nat_cmp a) b ≡ (b == a)
number_at a b = test_at nat_cmp numbers a b (b == a) (λ h. sym (eqb-true b a h)) (λ e. eq-eqb b a (sym e))

pair_at : (a b c d : ℕ) → is_at (pair_cmp (a, b)) (c, d) ≡ ((c == a) && (d == b))
pair_at a b c d =
    test_at pair_cmp pairs (a, b) (c, d) ((c == a) && (d == b))
    (λ h. let p = and_parts (c == a) (d == b) h in ap (λ (n : ℕ). make n b) (sym (eqb-true c a p.0)) ∙ ap (make c) (sym (eqb-true d b p.1)))
    (λ e. and_from (c == a) (d == b) (eq-eqb c a (sym (ap (λ (p : ℕ × ℕ). p.0) e))) (eq-eqb d b (sym (ap (λ (p : ℕ × ℕ). p.1) e))))
  where
    make : ℕ → ℕ → ℕ × ℕ
    make m n = (m, n)

pub text_is : (a b : List ℕ) → is_same_name a b ≡ true → a ≡ b
text_is a b h = by (slice_cmp nat_cmp a b) refl h
  where
    by : (o : Ordering) → slice_cmp nat_cmp a b ≡ o → is_eq o ≡ true → a ≡ b
    by Less e t = absurd (false≢true t)
    by Equal e t = ap (λ (k : ℕ × List ℕ). k.1) (named.exact (0, a) (0, b) e)
    by Greater e t = absurd (false≢true t)

text_same : (a b : List ℕ) → a ≡ b → is_same_name a b ≡ true
text_same a b e = subst (λ (z : List ℕ). is_same_name a z ≡ true) e (ap is_eq (bytes_same a))

name_at : (a : ℕ) (b : List ℕ) (c : ℕ) (d : List ℕ) → is_at (name_cmp (a, b)) (c, d) ≡ ((c == a) && is_same_name d b)
name_at a b c d =
    test_at name_cmp named (a, b) (c, d) ((c == a) && is_same_name d b)
    (λ h. let p = and_parts (c == a) (is_same_name d b) h in ap (λ (n : ℕ). make n b) (sym (eqb-true c a p.0)) ∙ ap (make c) (sym (text_is d b p.1)))
    (λ e. and_from (c == a) (is_same_name d b) (eq-eqb c a (sym (ap (λ (p : ℕ × List ℕ). p.0) e))) (text_same d b (sym (ap (λ (p : ℕ × List ℕ). p.1) e))))
  where
    make : ℕ → List ℕ → ℕ × List ℕ
    make m n = (m, n)

-- ---- one more
set_or : {A : Type 0} (b c : Bool) (new old : Option A) (x : A) → b ≡ c → new ≡ cond b (Some x) old → is_some new ≡ (c || is_some old)
set_or b c new old x e h = ap is_some h ∙ by b c e
  where
    by : (b c : Bool) → b ≡ c → is_some (cond b (Some x) old) ≡ (c || is_some old)
    by true true e = refl
    by false false e = refl
    by true false e = absurd cc
    by false true e = absurd cc

assoc : (a b c : Bool) → ((a || b) || c) ≡ (a || (b || c))
assoc true b c = refl
assoc false b c = refl

-- an inode is kept
pub inode_noted : (ino : ℕ) (linked : Bool) (s t : Seen) → ((q : ℕ) → get nat_cmp t.inodes q ≡ cond (is_at (nat_cmp ino) q) (Some true) (get nat_cmp s.inodes q)) → t.blocks ≡ s.blocks → t.names ≡ s.names → t.cuts ≡ s.cuts
    → (c : NodeContent) → has_seen t c ≡ (shows_told (Inode ino linked) c || has_seen s c)
inode_noted ino linked s t h b n k (Inode q l) = set_or (is_at (nat_cmp ino) q) (q == ino) (get nat_cmp t.inodes q) (get nat_cmp s.inodes q) true (number_at ino q) (h q)
inode_noted ino linked s t h b n k (Block q m) = rw (b, k) refl
inode_noted ino linked s t h b n k (Entry q m true) = rw n refl
inode_noted ino linked s t h b n k (Entry q m false) = refl
inode_noted ino linked s t h b n k (Truncation q m) = refl
inode_noted ino linked s t h b n k (Unknown q l) = refl

pub block_noted : (ino number : ℕ) (s t : Seen) → t.inodes ≡ s.inodes → ((q : ℕ × ℕ) → get pair_cmp t.blocks q ≡ cond (is_at (pair_cmp (ino, number)) q) (Some true) (get pair_cmp s.blocks q)) → t.names ≡ s.names → t.cuts ≡ s.cuts
    → (c : NodeContent) → has_seen t c ≡ (shows_told (Block ino number) c || has_seen s c)
block_noted ino number s t i h n k (Inode q l) = rw i refl
block_noted ino number s t i h n k (Block q m) =
    rw k (ap (λ (z : Bool). z || cut_seen s.cuts.items q m) (set_or (is_at (pair_cmp (ino, number)) (q, m)) ((q == ino) && (m == number)) (get pair_cmp t.blocks (q, m)) (get pair_cmp s.blocks (q, m)) true (pair_at ino number q m) (h (q, m)))
    ∙ assoc ((q == ino) && (m == number)) (is_some (get pair_cmp s.blocks (q, m))) (cut_seen s.cuts.items q m))
block_noted ino number s t i h n k (Entry q m true) = rw n refl
block_noted ino number s t i h n k (Entry q m false) = refl
block_noted ino number s t i h n k (Truncation q m) = refl
block_noted ino number s t i h n k (Unknown q l) = refl

pub name_noted : (dir : ℕ) (name : List ℕ) (linked : Bool) (s t : Seen) → t.inodes ≡ s.inodes → t.blocks ≡ s.blocks → ((q : ℕ × List ℕ) → get name_cmp t.names q ≡ cond (is_at (name_cmp (dir, name)) q) (Some true) (get name_cmp s.names q)) → t.cuts ≡ s.cuts
    → (c : NodeContent) → has_seen t c ≡ (shows_told (Entry dir name linked) c || has_seen s c)
name_noted dir name linked s t i b h k (Inode q l) = rw i refl
name_noted dir name linked s t i b h k (Block q m) = rw (b, k) refl
name_noted dir name linked s t i b h k (Entry q m true) =
    set_or (is_at (name_cmp (dir, name)) (q, m)) ((q == dir) && is_same_name m name) (get name_cmp t.names (q, m)) (get name_cmp s.names (q, m)) true (name_at dir name q m) (h (q, m))
name_noted dir name linked s t i b h k (Entry q m false) = refl
name_noted dir name linked s t i b h k (Truncation q m) = refl
name_noted dir name linked s t i b h k (Unknown q l) = refl

turned : (a b c : Bool) → (a || (b || c)) ≡ (c || (a || b))
turned true b true = refl
turned true b false = refl
turned false true true = refl
turned false true false = refl
turned false false true = refl
turned false false false = refl

pub cut_noted : (ino size : ℕ) (s t : Seen) → t.inodes ≡ s.inodes → t.blocks ≡ s.blocks → t.names ≡ s.names
    → ((q number : ℕ) → cut_seen t.cuts.items q number ≡ (cut_seen s.cuts.items q number || ((q == ino) && nat_le size (4096 * number)))) → (c : NodeContent) → has_seen t c ≡ (shows_told (Truncation ino size) c || has_seen s c)
cut_noted ino size s t i b n h (Inode q l) = rw i refl
cut_noted ino size s t i b n h (Block q m) =
    rw b (ap (λ (z : Bool). is_some (get pair_cmp s.blocks (q, m)) || z) (h q m) ∙ turned (is_some (get pair_cmp s.blocks (q, m))) (cut_seen s.cuts.items q m) ((q == ino) && nat_le size (4096 * m)))
cut_noted ino size s t i b n h (Entry q m true) = rw n refl
cut_noted ino size s t i b n h (Entry q m false) = refl
cut_noted ino size s t i b n h (Truncation q m) = refl
cut_noted ino size s t i b n h (Unknown q l) = refl

-- ---- one cut more
pub cut_more : (cuts : List Cut) (ino size q number : ℕ) → cut_seen (cuts ++ record { ino = ino; size = size } ∷ []) q number ≡ (cut_seen cuts q number || ((q == ino) && nat_le size (4096 * number)))
cut_more [] ino size q number = by ((q == ino) && nat_le size (4096 * number))
  where
    by : (b : Bool) → (b || false) ≡ b
    by true = refl
    by false = refl
cut_more (c ∷ cuts) ino size q number =
    ap (λ (z : Bool). ((q == c.ino) && nat_le c.size (4096 * number)) || z) (cut_more cuts ino size q number)
    ∙ sym (assoc ((q == c.ino) && nat_le c.size (4096 * number)) (cut_seen cuts q number) ((q == ino) && nat_le size (4096 * number)))
