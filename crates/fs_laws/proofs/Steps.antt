-- What stays fitting: an inode that is set anew, a name that comes with its inode, and a name that goes with its inode.
use Rattle.std.proofs.Common.{◌≡◌, ◌≢◌, ℕ, zero, suc, ◌+◌, ◌⊎◌, true, false, List, Some, refl, sym, ap, subst, ◌∙◌, arith, inl, inr}
use Rattle.std.specs.Prelude.{◌==◌, None}
use Rattle.std.specs.BTreeMap.{insert_entry}
use Rattle.std.specs.Ordering.{nat_cmp}
use Rattle.std.proofs.lemmas.Bool.{eq-eqb}
use Rattle.std.proofs.lemmas.Bool.Decides.{eqb_tells}
use Rattle.fs_model.specs.declared.inode.Inode.{Inode}
use Rattle.fs_model.specs.declared.inode.Entry.{Entry}
use Rattle.fs_model.specs.declared.inode.Kind.{Kind}
use Rattle.fs_model.specs.declared.inode.Kind.TheVariants.{Dir}
use Rattle.fs_model.specs.Files.{Inodes, Entries, name_cmp}
use Rattle.fs_model.specs.Path.{is_dir}
use Rattle.fs_model.specs.Proper.{same_kind}
use Rattle.fs_laws.specs.Maps.{set_here, set_other, key_cases, count_insert}
use Rattle.fs_laws.specs.Orders.{numbers, named}
use Rattle.fs_laws.proofs.Rel.{Rel, SoundEntry, SoundInode, Step, Up, Any, there_of, dir_reaches, inode_in, entry_in, kind_is, names}

pub some_same : {X : Type 0} {a b : X} → Some a ≡ Some b → a ≡ b
some_same e = cc e

-- each inode that was there is there, with its kind
abbrev pub KeepsKinds : Inodes → Inodes → Type 0
KeepsKinds before after = (ino : ℕ) (kind : Kind) → kind_is before ino kind ≡ true → kind_is after ino kind ≡ true

pub keeps_kinds : (inodes : Inodes) (ino : ℕ) (new : Inode) → ((old : Inode) → inode_in inodes ino ≡ Some old → new.kind ≡ old.kind) → KeepsKinds inodes (insert_entry nat_cmp inodes ino new)
keeps_kinds inodes ino new same x kind h = elim (key_cases nat_cmp numbers x ino) [
  | inl here ↦
      let it = there_of inodes x kind h in
      let k = same it.inode (subst (λ q. inode_in inodes q ≡ Some it.inode) here it.found) in
      let f : inode_in (insert_entry nat_cmp inodes ino new) x ≡ Some new = subst (λ q. inode_in (insert_entry nat_cmp inodes ino new) q ≡ Some new) (sym here) (set_here nat_cmp numbers inodes ino new) in
      rw (f, k) it.same
  | inr other ↦ rw (set_other nat_cmp numbers inodes ino new x other) h
]

pub sound_entry_kept : (before after : Inodes) (e : Entry) → KeepsKinds before after → SoundEntry before e → SoundEntry after e
sound_entry_kept before after e keeps sound = record { dir = keeps e.dir Dir sound.dir; ino = keeps e.ino e.kind sound.ino; root = sound.root }

-- an inode that is set with its kind as it was, and with its links, if it is no directory
pub rel_touched : (inodes : Inodes) (entries : Entries) (ino : ℕ) (old new : Inode) → inode_in inodes ino ≡ Some old → new.kind ≡ old.kind → (is_dir old.kind ≡ false → new.nlink ≡ old.nlink) → Rel inodes entries → Rel (insert_entry nat_cmp inodes ino new) entries
rel_touched inodes entries ino old new found kind nlink rel =
    let keeps = keeps_kinds inodes ino new (λ o f. kind ∙ ap (λ (i : Inode). i.kind) (some_same (sym found ∙ f))) in
    record {
      root = keeps 1 Dir rel.root;
      entry = λ key e f. sound_entry_kept inodes (insert_entry nat_cmp inodes ino new) e keeps (rel.entry key e f);
      inode = λ x i f. elim (key_cases nat_cmp numbers x ino) [
        | inl here ↦
            let g = subst (λ q. inode_in (insert_entry nat_cmp inodes ino new) q ≡ Some i) here f in
            let is : new ≡ i = some_same (sym (set_here nat_cmp numbers inodes ino new) ∙ g) in
            let sound = rel.inode x old (subst (λ q. inode_in inodes q ≡ Some old) (sym here) found) in
            subst (λ j. SoundInode entries x j) is (record {
              plain = λ d. nlink (ap is_dir (sym kind) ∙ d) ∙ sound.plain (ap is_dir (sym kind) ∙ d);
              one = λ d r. sound.one (ap is_dir (sym kind) ∙ d) r;
              reaches = λ d. sound.reaches (ap is_dir (sym kind) ∙ d);
            })
        | inr other ↦ rel.inode x i (sym (set_other nat_cmp numbers inodes ino new x other) ∙ f)
      ];
    }

-- a new name leaves the others
pub new_keeps : (entries : Entries) (k : ℕ × List ℕ) (e : Entry) → entry_in entries k ≡ None → (q : ℕ × List ℕ) (x : Entry) → entry_in entries q ≡ Some x → entry_in (insert_entry name_cmp entries k e) q ≡ Some x
new_keeps entries k e none q x f = elim (key_cases name_cmp named q k) [
  | inl here ↦ let g = subst (λ w. entry_in entries w ≡ Some x) here f in absurd cc
  | inr other ↦ set_other name_cmp named entries k e q other ∙ f
]

pub up_more : (P : ℕ → Type 0) (entries : Entries) (k : ℕ × List ℕ) (e : Entry) → entry_in entries k ≡ None → (n ino : ℕ) → Up P entries n ino → Up P (insert_entry name_cmp entries k e) n ino
up_more P entries k e none zero ino up = up
up_more P entries k e none (suc n) ino up = by (λ dir u. up_more P entries k e none n dir u) up
  where
    by : ((dir : ℕ) → Up P entries n dir → Up P (insert_entry name_cmp entries k e) n dir) → (ino ≡ 1) ⊎ ((step : Step P entries ino) × Up P entries n step.entry.dir) → Up P (insert_entry name_cmp entries k e) (suc n) ino
    by more (inl root) = inl root
    by more (inr s) = inr (record { key = s.0.key; entry = s.0.entry; found = new_keeps entries k e none s.0.key s.0.entry s.0.found; named = s.0.named; allowed = s.0.allowed }, more s.0.entry.dir s.1)

-- What is asked of a name that comes with its inode.
pub record Comes (inodes : Inodes) (entries : Entries) (e : Entry) (new : Inode) : Type 0 where
  pub free : entry_in entries (e.dir, e.name) ≡ None
  pub dir : kind_is inodes e.dir Dir ≡ true
  pub kind : same_kind new.kind e.kind ≡ true
  pub root : e.ino ≢ 1
  pub same : (old : Inode) → inode_in inodes e.ino ≡ Some old → new.kind ≡ old.kind
  pub links : is_dir new.kind ≡ false → new.nlink ≡ 1 + names entries e.ino
  pub none : is_dir new.kind ≡ true → names entries e.ino ≡ 0

names_here : (entries : Entries) (e : Entry) → entry_in entries (e.dir, e.name) ≡ None → names (insert_entry name_cmp entries (e.dir, e.name) e) e.ino ≡ 1 + names entries e.ino
names_here entries e free =
    let it = count_insert name_cmp (λ (x : Entry). x.ino == e.ino) entries (e.dir, e.name) e free in
    rw (eq-eqb e.ino e.ino refl) at it

names_other : (entries : Entries) (e : Entry) (x : ℕ) → x ≢ e.ino → entry_in entries (e.dir, e.name) ≡ None → names (insert_entry name_cmp entries (e.dir, e.name) e) x ≡ names entries x
names_other entries e x other free =
    let it = count_insert name_cmp (λ (y : Entry). y.ino == x) entries (e.dir, e.name) e free in
    elim (eqb_tells e.ino x) [ inl same ↦ absurd (other (sym same.1)) | inr apart ↦ let z = rw apart.0 at it in omega (arith, z) ]

pub rel_named : (inodes : Inodes) (entries : Entries) (e : Entry) (new : Inode) → Comes inodes entries e new → Rel inodes entries → Rel (insert_entry nat_cmp inodes e.ino new) (insert_entry name_cmp entries (e.dir, e.name) e)
rel_named inodes entries e new comes rel =
    let after : Inodes = insert_entry nat_cmp inodes e.ino new in
    let more : Entries = insert_entry name_cmp entries (e.dir, e.name) e in
    let keeps = keeps_kinds inodes e.ino new comes.same in
    let above = dir_reaches inodes entries rel e.dir comes.dir in
    let free = comes.free in
    record {
      root = keeps 1 Dir rel.root;
      entry = λ key x f. elim (key_cases name_cmp named key (e.dir, e.name)) [
        | inl here ↦
            let g = subst (λ q. entry_in more q ≡ Some x) here f in
            let is : e ≡ x = some_same (sym (set_here name_cmp named entries (e.dir, e.name) e) ∙ g) in
            subst (λ y. SoundEntry after y) is (record { dir = keeps e.dir Dir comes.dir; ino = rw (set_here nat_cmp numbers inodes e.ino new) comes.kind; root = comes.root })
        | inr other ↦ sound_entry_kept inodes after x keeps (rel.entry key x (sym (set_other name_cmp named entries (e.dir, e.name) e key other) ∙ f))
      ];
      inode = λ x i f. elim (key_cases nat_cmp numbers x e.ino) [
        | inl here ↦
            let g = subst (λ q. inode_in after q ≡ Some i) here f in
            let is : new ≡ i = some_same (sym (set_here nat_cmp numbers inodes e.ino new) ∙ g) in
            subst (λ y. SoundInode more y i) (sym here) (subst (λ j. SoundInode more e.ino j) is (record {
              plain = λ d. comes.links d ∙ sym (names_here entries e free);
              one = λ d r. names_here entries e free ∙ ap (λ n. 1 + n) (comes.none d);
              reaches = λ d. (suc above.0, inr (record { key = (e.dir, e.name); entry = e; found = set_here name_cmp named entries (e.dir, e.name) e; named = refl; allowed = tt }, up_more Any entries (e.dir, e.name) e free above.0 e.dir above.1));
            }))
        | inr other ↦
            let sound = rel.inode x i (sym (set_other nat_cmp numbers inodes e.ino new x other) ∙ f) in
            record {
              plain = λ d. sound.plain d ∙ sym (names_other entries e x other free);
              one = λ d r. names_other entries e x other free ∙ sound.one d r;
              reaches = λ d. let it = sound.reaches d in (it.0, up_more Any entries (e.dir, e.name) e free it.0 x it.1);
            }
      ];
    }
