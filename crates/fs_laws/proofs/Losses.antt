-- A name that goes, and what becomes of its inode.
use Rattle.std.proofs.Common.{◌≡◌, ◌≢◌, ℕ, zero, suc, ◌+◌, ◌⊎◌, true, false, List, Some, refl, sym, ap, subst, ◌∙◌, arith, inl, inr}
use Rattle.std.specs.Prelude.{◌==◌}
use Rattle.std.specs.Map.{keys_of, remove_entry}
use Rattle.std.specs.BTreeMap.{is_at, insert_entry}
use Rattle.std.specs.Ordering.{nat_cmp}
use Rattle.std.proofs.lemmas.Bool.{false≢true, eq-eqb}
use Rattle.std.proofs.lemmas.Bool.Decides.{eqb_tells}
use Rattle.fs_model.specs.declared.inode.Inode.{Inode}
use Rattle.fs_model.specs.declared.inode.Entry.{Entry}
use Rattle.fs_model.specs.declared.inode.Kind.{Kind}
use Rattle.fs_model.specs.declared.inode.Kind.TheVariants.{Dir}
use Rattle.fs_model.specs.Files.{Inodes, Entries, name_cmp}
use Rattle.fs_model.specs.Path.{is_dir}
use Rattle.fs_model.specs.Proper.{ascends}
use Rattle.fs_laws.specs.Maps.{count_found, count_remove, key_cases, removed_here, removed_other, set_here, set_other}
use Rattle.fs_laws.specs.Orders.{numbers, named}
use Rattle.fs_laws.proofs.Rel.{Rel, SoundInode, Step, Up, Any, inode_in, entry_in, kind_is, names}
use Rattle.fs_laws.proofs.Steps.{keeps_kinds, some_same, sound_entry_kept}
use Rattle.fs_laws.proofs.Walks.{IsIn}

-- nothing stands in it
abbrev pub IsChildless : Entries → ℕ → Type 0
IsChildless entries ino = (key : ℕ × List ℕ) (x : Entry) → entry_in entries key ≡ Some x → x.dir ≡ ino → ⊥

abbrev pub without : Entries → Entry → Entries
without entries e = remove_entry (is_at (name_cmp (e.dir, e.name))) entries

pub still_there : (entries : Entries) (e : Entry) → IsIn entries e → (key : ℕ × List ℕ) (x : Entry) → entry_in entries key ≡ Some x → (x.ino ≡ e.ino → ⊥) → entry_in (without entries e) key ≡ Some x
still_there entries e here key x f other = removed_other name_cmp named entries (e.dir, e.name) key (λ same.
    let g = subst (λ k. entry_in entries k ≡ Some x) same f in
    let is : x ≡ e = some_same (sym g ∙ here) in other (ap (λ (y : Entry). y.ino) is)) ∙ f

pub up_less : (P : ℕ → Type 0) (entries : Entries) (e : Entry) → IsIn entries e → IsChildless entries e.ino → (n ino : ℕ) → (ino ≡ e.ino → ⊥) → Up P entries n ino → Up P (without entries e) n ino
up_less P entries e here none zero ino other up = up
up_less P entries e here none (suc n) ino other up = by (λ dir o u. up_less P entries e here none n dir o u) up
  where
    by : ((dir : ℕ) → (dir ≡ e.ino → ⊥) → Up P entries n dir → Up P (without entries e) n dir) → (ino ≡ 1) ⊎ ((step : Step P entries ino) × Up P entries n step.entry.dir) → Up P (without entries e) (suc n) ino
    by more (inl root) = inl root
    by more (inr s) = inr (record { key = s.0.key; entry = s.0.entry; found = still_there entries e here s.0.key s.0.entry s.0.found (λ same. other (sym s.0.named ∙ same)); named = s.0.named; allowed = s.0.allowed }, more s.0.entry.dir (none s.0.key s.0.entry s.0.found) s.1)

pub names_less_here : (entries : Entries) (e : Entry) → IsIn entries e → 1 + names (without entries e) e.ino ≡ names entries e.ino
names_less_here entries e here =
    let it = count_remove name_cmp (λ (x : Entry). x.ino == e.ino) entries (e.dir, e.name) e here in
    rw (eq-eqb e.ino e.ino refl) at it

names_less_other : (entries : Entries) (e : Entry) (x : ℕ) → IsIn entries e → x ≢ e.ino → names (without entries e) x ≡ names entries x
names_less_other entries e x here other =
    let it = count_remove name_cmp (λ (y : Entry). y.ino == x) entries (e.dir, e.name) e here in
    elim (eqb_tells e.ino x) [ inl same ↦ absurd (other (sym same.1)) | inr apart ↦ let z = rw apart.0 at it in omega (arith, z) ]

-- an entry that is left was there
was_there : (entries : Entries) (e : Entry) → ascends name_cmp (keys_of entries) ≡ true → (key : ℕ × List ℕ) (x : Entry) → entry_in (without entries e) key ≡ Some x → entry_in entries key ≡ Some x
was_there entries e h key x f = elim (key_cases name_cmp named key (e.dir, e.name)) [
  | inl same ↦
      let gone = removed_here name_cmp named entries (e.dir, e.name) h in
      let g = subst (λ k. entry_in (without entries e) k ≡ Some x) same f in absurd cc
  | inr other ↦ sym (removed_other name_cmp named entries (e.dir, e.name) key other) ∙ f
]

pub kind_left : (inodes : Inodes) (gone x : ℕ) (kind : Kind) → (x ≡ gone → ⊥) → kind_is inodes x kind ≡ true → kind_is (remove_entry (is_at (nat_cmp gone)) inodes) x kind ≡ true
kind_left inodes gone x kind other h = rw (removed_other nat_cmp numbers inodes gone x other) h

-- the inode goes with its last name
pub rel_dropped : (inodes : Inodes) (entries : Entries) (e : Entry) → ascends nat_cmp (keys_of inodes) ≡ true → ascends name_cmp (keys_of entries) ≡ true → IsIn entries e → IsChildless entries e.ino → names entries e.ino ≡ 1 → Rel inodes entries → Rel (remove_entry (is_at (nat_cmp e.ino)) inodes) (without entries e)
rel_dropped inodes entries e hi h here none one rel =
    let it = rel.entry (e.dir, e.name) e here in
    let last = names_less_here entries e here in
    record {
      root = kind_left inodes e.ino 1 Dir (λ same. it.root (sym same)) rel.root;
      entry = λ key x f.
          let was = was_there entries e h key x f in
          let sound = rel.entry key x was in
          let other : x.ino ≡ e.ino → ⊥ = λ same. (let some = count_found name_cmp (λ (y : Entry). y.ino == e.ino) (without entries e) key x f (eq-eqb x.ino e.ino same) in omega (arith, last, one, some)) in
          record { dir = kind_left inodes e.ino x.dir Dir (none key x was) sound.dir; ino = kind_left inodes e.ino x.ino x.kind other sound.ino; root = sound.root };
      inode = λ x i f. elim (key_cases nat_cmp numbers x e.ino) [
        | inl same ↦
            let gone = removed_here nat_cmp numbers inodes e.ino hi in
            let g = subst (λ k. inode_in (remove_entry (is_at (nat_cmp e.ino)) inodes) k ≡ Some i) same f in absurd cc
        | inr other ↦
            let sound = rel.inode x i (sym (removed_other nat_cmp numbers inodes e.ino x other) ∙ f) in
            record {
              plain = λ d. sound.plain d ∙ sym (names_less_other entries e x here other);
              one = λ d r. names_less_other entries e x here other ∙ sound.one d r;
              reaches = λ d. let up = sound.reaches d in (up.0, up_less Any entries e here none up.0 x other up.1);
            }
      ];
    }

-- the inode stays with a link less
pub rel_unlinked : (inodes : Inodes) (entries : Entries) (e : Entry) (old new : Inode) → ascends name_cmp (keys_of entries) ≡ true → IsIn entries e → IsChildless entries e.ino → inode_in inodes e.ino ≡ Some old → new.kind ≡ old.kind → is_dir new.kind ≡ false → new.nlink + 1 ≡ names entries e.ino
    → Rel inodes entries → Rel (insert_entry nat_cmp inodes e.ino new) (without entries e)
rel_unlinked inodes entries e old new h here none found kind plain links rel =
    let keeps = keeps_kinds inodes e.ino new (λ o f. kind ∙ ap (λ (i : Inode). i.kind) (some_same (sym found ∙ f))) in
    let last = names_less_here entries e here in
    record {
      root = keeps 1 Dir rel.root;
      entry = λ key x f. sound_entry_kept inodes (insert_entry nat_cmp inodes e.ino new) x keeps (rel.entry key x (was_there entries e h key x f));
      inode = λ x i f. elim (key_cases nat_cmp numbers x e.ino) [
        | inl same ↦
            let g = subst (λ q. inode_in (insert_entry nat_cmp inodes e.ino new) q ≡ Some i) same f in
            let is : new ≡ i = some_same (sym (set_here nat_cmp numbers inodes e.ino new) ∙ g) in
            subst (λ y. SoundInode (without entries e) y i) (sym same) (subst (λ j. SoundInode (without entries e) e.ino j) is (record {
              plain = λ d. omega (arith, links, last);
              one = λ d r. absurd (false≢true (sym plain ∙ d));
              reaches = λ d. absurd (false≢true (sym plain ∙ d));
            }))
        | inr other ↦
            let sound = rel.inode x i (sym (set_other nat_cmp numbers inodes e.ino new x other) ∙ f) in
            record {
              plain = λ d. sound.plain d ∙ sym (names_less_other entries e x here other);
              one = λ d r. names_less_other entries e x here other ∙ sound.one d r;
              reaches = λ d. let up = sound.reaches d in (up.0, up_less Any entries e here none up.0 x other up.1);
            }
      ];
    }
