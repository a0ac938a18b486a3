-- What goes for a change, by what it shows.
use Rattle.std.proofs.Common.{◌≡◌, ℕ, Bool, true, false, List, refl, sym, ap, subst, ◌∙◌, Option, Some}
use Rattle.std.specs.Prelude.{◌==◌}
use Rattle.std.specs.BTreeMap.{is_at}
use Rattle.std.specs.Cmp.Lexicographic.{slice_cmp}
use Rattle.std.specs.Ordering.{is_eq, nat_cmp}
use Rattle.std.specs.declared.cmp.Ordering.{Ordering}
use Rattle.std.specs.declared.cmp.Ordering.TheVariants.{Less, Equal, Greater}
use Rattle.std.proofs.lemmas.Bool.{false≢true, and_parts, and_from, eqb-true, eq-eqb}
use Rattle.fs_model.specs.declared.change.Change.{Change}
use Rattle.fs_model.specs.declared.change.Change.TheVariants.{SetInode, SetEntry, DropEntry, SetBlock, CutBlocks, DropInode}
use Rattle.fs_model.specs.declared.inode.Entry.{Entry}
use Rattle.fs_model.specs.declared.inode.Inode.{Inode}
use Rattle.fs_model.specs.Files.{name_cmp}
use Rattle.fs_model.specs.Path.{is_same_name}
use Rattle.fs_laws.specs.Maps.{IsOrder}
use Rattle.fs_laws.specs.Orders.{bytes_same, named, numbers}
use Rattle.leaf_map.specs.After.{goes, is_inode}
use Rattle.log_replay.specs.Standing.{is_entry, is_name_shown}

-- ---- keys of a map
-- a key that is found is the one that is sought
pub at_same : {K : Type 0} (cmp : K → K → Ordering) → IsOrder cmp → (a b : K) → is_at (cmp a) b ≡ true → a ≡ b
at_same cmp order a b h = by (cmp a b) refl h
  where
    by : (o : Ordering) → cmp a b ≡ o → is_eq o ≡ true → a ≡ b
    by Less e t = absurd (false≢true t)
    by Equal e t = order.exact a b e
    by Greater e t = absurd (false≢true t)

-- and one that isn't found is another
pub at_other : {K : Type 0} (cmp : K → K → Ordering) → IsOrder cmp → (a b : K) → is_at (cmp a) b ≡ false → a ≡ b → ⊥
at_other {K} cmp order a b h e =
    let here : is_at (cmp a) a ≡ true = ap is_eq (order.same a) in
    false≢true (sym h ∙ subst (λ (z : K). is_at (cmp a) z ≡ true) e here)

pub other_number : (a b : ℕ) → (a ≡ b → ⊥) → (a == b) ≡ false
other_number a b h = by (a == b) refl
  where
    by : (c : Bool) → (a == b) ≡ c → c ≡ false
    by true e = absurd (h (eqb-true a b e))
    by false e = refl

-- ---- names
-- the key of a name
abbrev pub key : Entry → ℕ × List ℕ
key e = (e.dir, e.name)

text_is : (a b : List ℕ) → is_same_name a b ≡ true → a ≡ b
text_is a b h = by (slice_cmp nat_cmp a b) refl h
  where
    by : (o : Ordering) → slice_cmp nat_cmp a b ≡ o → is_eq o ≡ true → a ≡ b
    by Less e t = absurd (false≢true t)
    by Equal e t = ap (λ (k : ℕ × List ℕ). k.1) (named.exact (0, a) (0, b) e)
    by Greater e t = absurd (false≢true t)

pub name_is : (q : ℕ × List ℕ) (e : Entry) → is_name_shown q (Some (SetEntry e)) ≡ true → key e ≡ q
name_is q e h =
    let p = and_parts (e.dir == q.0) (is_same_name e.name q.1) h in
    ap (λ (n : ℕ). make n e.name) (eqb-true e.dir q.0 p.0) ∙ ap (make q.0) (text_is e.name q.1 p.1)
  where
    make : ℕ → List ℕ → ℕ × List ℕ
    make n name = (n, name)

pub name_here : (q : ℕ × List ℕ) (e : Entry) → key e ≡ q → is_name_shown q (Some (SetEntry e)) ≡ true
name_here q e h = subst (λ (k : ℕ × List ℕ). is_name_shown k (Some (SetEntry e)) ≡ true) h (and_from (e.dir == e.dir) (is_same_name e.name e.name) (eq-eqb e.dir e.dir refl) (ap is_eq (bytes_same e.name)))

pub name_other : (q : ℕ × List ℕ) (e : Entry) → (key e ≡ q → ⊥) → is_name_shown q (Some (SetEntry e)) ≡ false
name_other q e h = by (is_name_shown q (Some (SetEntry e))) refl
  where
    by : (c : Bool) → is_name_shown q (Some (SetEntry e)) ≡ c → c ≡ false
    by true f = absurd (h (name_is q e f))
    by false f = refl

-- ---- what goes
pub no_name : (q : ℕ × List ℕ) (s : Option Change) → is_entry s ≡ false → is_name_shown q s ≡ false
no_name q (Some (SetEntry e)) h = absurd (false≢true (sym h))
no_name q s h = refl

pub no_inode : (q : ℕ) (s : Option Change) → is_entry s ≡ true → is_inode q s ≡ false
no_inode q (Some (SetEntry e)) h = refl
no_inode q s h = absurd (false≢true h)

pub inode_goes : (ino : ℕ) (inode : Inode) (s : Option Change) → goes (SetInode ino inode) s ≡ true → is_entry s ≡ false
inode_goes ino inode (Some (SetInode other old)) h = refl
inode_goes ino inode s h = absurd (false≢true h)

pub all_goes : (ino : ℕ) (s : Option Change) → goes (DropInode ino) s ≡ true → is_entry s ≡ false
all_goes ino (Some (SetInode other old)) h = refl
all_goes ino (Some (SetBlock other at old)) h = refl
all_goes ino s h = absurd (false≢true h)

pub block_goes : (ino number : ℕ) (bytes : List ℕ) (s : Option Change) → goes (SetBlock ino number bytes) s ≡ true → is_entry s ≡ false
block_goes ino number bytes (Some (SetBlock other at old)) h = refl
block_goes ino number bytes s h = absurd (false≢true h)

pub block_stays : (q ino number : ℕ) (bytes : List ℕ) (s : Option Change) → goes (SetBlock ino number bytes) s ≡ true → is_inode q s ≡ false
block_stays q ino number bytes (Some (SetBlock other at old)) h = refl
block_stays q ino number bytes s h = absurd (false≢true h)

pub cut_goes : (ino old_size new_size : ℕ) (s : Option Change) → goes (CutBlocks ino old_size new_size) s ≡ true → is_entry s ≡ false
cut_goes ino old_size new_size (Some (SetBlock other at old)) h = refl
cut_goes ino old_size new_size s h = absurd (false≢true h)

pub cut_stays : (q ino old_size new_size : ℕ) (s : Option Change) → goes (CutBlocks ino old_size new_size) s ≡ true → is_inode q s ≡ false
cut_stays q ino old_size new_size (Some (SetBlock other at old)) h = refl
cut_stays q ino old_size new_size s h = absurd (false≢true h)

pub entry_goes : (e : Entry) (s : Option Change) → goes (SetEntry e) s ≡ true → is_entry s ≡ true
entry_goes e (Some (SetEntry old)) h = refl
entry_goes e s h = absurd (false≢true h)

pub name_goes : (dir : ℕ) (name : List ℕ) (s : Option Change) → goes (DropEntry dir name) s ≡ true → is_entry s ≡ true
name_goes dir name (Some (SetEntry old)) h = refl
name_goes dir name s h = absurd (false≢true h)

-- an inode that goes is the one of its number
pub inode_is : (ino : ℕ) (inode : Inode) (s : Option Change) → goes (SetInode ino inode) s ≡ is_inode ino s
inode_is ino inode (Some (SetInode other old)) = refl
inode_is ino inode s = refl

pub inode_other : (ino q : ℕ) → (ino ≡ q → ⊥) → (s : Option Change) → is_inode ino s ≡ true → is_inode q s ≡ false
inode_other ino q h (Some (SetInode other old)) t = other_number other q (λ e. h (sym (eqb-true other ino t) ∙ e))
inode_other ino q h s t = absurd (false≢true t)

pub all_other : (ino q : ℕ) → (ino ≡ q → ⊥) → (s : Option Change) → goes (DropInode ino) s ≡ true → is_inode q s ≡ false
all_other ino q h (Some (SetInode other old)) t = other_number other q (λ e. h (sym (eqb-true other ino t) ∙ e))
all_other ino q h (Some (SetBlock other at old)) t = refl
all_other ino q h s t = absurd (false≢true t)

pub all_stay : (ino : ℕ) (s : Option Change) → goes (DropInode ino) s ≡ false → is_inode ino s ≡ false
all_stay ino (Some (SetInode other old)) t = t
all_stay ino s t = refl

-- a name that goes is the one of its key
pub entry_is : (e : Entry) (s : Option Change) → goes (SetEntry e) s ≡ is_name_shown (key e) s
entry_is e (Some (SetEntry old)) = refl
entry_is e s = refl

pub entry_other : (p q : ℕ × List ℕ) → (p ≡ q → ⊥) → (s : Option Change) → is_name_shown p s ≡ true → is_name_shown q s ≡ false
entry_other p q h (Some (SetEntry old)) t = name_other q old (λ e. h (sym (name_is p old t) ∙ e))
entry_other p q h s t = absurd (false≢true t)

-- the orders of the maps' keys
pub number_same : (a b : ℕ) → is_at (nat_cmp a) b ≡ true → a ≡ b
number_same a b h = at_same nat_cmp numbers a b h

pub number_other : (a b : ℕ) → is_at (nat_cmp a) b ≡ false → a ≡ b → ⊥
number_other a b h = at_other nat_cmp numbers a b h

pub key_same : (a b : ℕ × List ℕ) → is_at (name_cmp a) b ≡ true → a ≡ b
key_same a b h = at_same name_cmp named a b h

pub key_other : (a b : ℕ × List ℕ) → is_at (name_cmp a) b ≡ false → a ≡ b → ⊥
key_other a b h = at_other name_cmp named a b h
