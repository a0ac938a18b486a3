-- A name that moves to a free place.
use Rattle.std.proofs.Common.{◌≡◌, ℕ, zero, suc, ◌+◌, ◌⊎◌, true, cond, List, Some, sym, ap, subst, ◌∙◌, arith, inl, inr}
use Rattle.std.specs.Prelude.{◌==◌, None}
use Rattle.std.specs.Map.{keys_of, remove_entry}
use Rattle.std.specs.BTreeMap.{is_at, insert_entry}
use Rattle.std.specs.Ordering.{nat_cmp}
use Rattle.fs_model.specs.declared.inode.Entry.{Entry}
use Rattle.fs_model.specs.declared.inode.Kind.TheVariants.{Dir}
use Rattle.fs_model.specs.Files.{Inodes, Entries, name_cmp}
use Rattle.fs_model.specs.Path.{is_dir}
use Rattle.fs_model.specs.Proper.{ascends}
use Rattle.fs_laws.proofs.InodeKinds.{dir_same}
use Rattle.fs_laws.specs.Maps.{count_insert, count_remove, insert_ascends, key_cases, removed_here, removed_other, set_here, set_other}
use Rattle.fs_laws.specs.Orders.{numbers, named}
use Rattle.fs_laws.proofs.Rel.{Rel, SoundEntry, Step, Up, Any, Reaches, entry_in, kind_is, names}
use Rattle.fs_laws.proofs.Removals.{dir_agrees}
use Rattle.fs_laws.proofs.Steps.{new_keeps, some_same}
use Rattle.fs_laws.proofs.Walks.{IsIn}

-- an entry under another name
abbrev pub placed_at : Entry → ℕ → List ℕ → Entry
placed_at from dir name = record from { dir = dir; name = name }

abbrev pub moved_entries : Entries → Entry → ℕ → List ℕ → Entries
moved_entries entries from dir name = remove_entry (is_at (name_cmp (from.dir, from.name))) (insert_entry name_cmp entries (dir, name) (placed_at from dir name))

abbrev pub IsNot : ℕ → ℕ → Type 0
IsNot gone ino = ino ≡ gone → ⊥

-- what is asked of a move: a directory doesn't come below itself
pub record Moves (inodes : Inodes) (entries : Entries) (from : Entry) (dir : ℕ) (name : List ℕ) : Type 0 where
  pub ascend : ascends name_cmp (keys_of entries) ≡ true
  pub here : IsIn entries from
  pub free : entry_in entries (dir, name) ≡ None
  pub into : kind_is inodes dir Dir ≡ true
  pub above : is_dir from.kind ≡ true → Reaches (IsNot from.ino) entries dir

old_apart : (entries : Entries) (from : Entry) → IsIn entries from → (key : ℕ × List ℕ) → entry_in entries key ≡ None → key ≡ (from.dir, from.name) → ⊥
old_apart entries from here key free same = let g = subst (λ k. entry_in entries k ≡ None) same free in absurd cc

moved_kept : (entries : Entries) (from : Entry) (dir : ℕ) (name : List ℕ) → entry_in entries (dir, name) ≡ None → (key : ℕ × List ℕ) (x : Entry) → (key ≡ (from.dir, from.name) → ⊥) → entry_in entries key ≡ Some x → entry_in (moved_entries entries from dir name) key ≡ Some x
moved_kept entries from dir name free key x other f = removed_other name_cmp named (insert_entry name_cmp entries (dir, name) (placed_at from dir name)) (from.dir, from.name) key other ∙ new_keeps entries (dir, name) (placed_at from dir name) free key x f

moved_new : (inodes : Inodes) (entries : Entries) (from : Entry) (dir : ℕ) (name : List ℕ) → Moves inodes entries from dir name → entry_in (moved_entries entries from dir name) (dir, name) ≡ Some (placed_at from dir name)
moved_new inodes entries from dir name m = removed_other name_cmp named (insert_entry name_cmp entries (dir, name) (placed_at from dir name)) (from.dir, from.name) (dir, name) (λ same. old_apart entries from m.here (dir, name) m.free same) ∙ set_here name_cmp named entries (dir, name) (placed_at from dir name)

moved_from : (inodes : Inodes) (entries : Entries) (from : Entry) (dir : ℕ) (name : List ℕ) → Moves inodes entries from dir name → (key : ℕ × List ℕ) (x : Entry) → entry_in (moved_entries entries from dir name) key ≡ Some x → (placed_at from dir name ≡ x) ⊎ (entry_in entries key ≡ Some x)
moved_from inodes entries from dir name m key x f =
    let new : Entries = insert_entry name_cmp entries (dir, name) (placed_at from dir name) in
    elim (key_cases name_cmp named key (from.dir, from.name)) [
      | inl same ↦
          let gone = removed_here name_cmp named new (from.dir, from.name) (insert_ascends name_cmp named entries (dir, name) (placed_at from dir name) m.ascend) in
          let g = subst (λ k. entry_in (moved_entries entries from dir name) k ≡ Some x) same f in absurd cc
      | inr other ↦
          let was = sym (removed_other name_cmp named new (from.dir, from.name) key other) ∙ f in
          elim (key_cases name_cmp named key (dir, name)) [
            | inl here ↦ inl (some_same (sym (set_here name_cmp named entries (dir, name) (placed_at from dir name)) ∙ subst (λ k. entry_in new k ≡ Some x) here was))
            | inr apart ↦ inr (sym (set_other name_cmp named entries (dir, name) (placed_at from dir name) key apart) ∙ was)
          ]
    ]

moved_names : (inodes : Inodes) (entries : Entries) (from : Entry) (dir : ℕ) (name : List ℕ) → Moves inodes entries from dir name → (x : ℕ) → names (moved_entries entries from dir name) x ≡ names entries x
moved_names inodes entries from dir name m x =
    let new : Entries = insert_entry name_cmp entries (dir, name) (placed_at from dir name) in
    let still = new_keeps entries (dir, name) (placed_at from dir name) m.free (from.dir, from.name) from m.here in
    let less = count_remove name_cmp (λ (e : Entry). e.ino == x) new (from.dir, from.name) from still in
    let more = count_insert name_cmp (λ (e : Entry). e.ino == x) entries (dir, name) (placed_at from dir name) m.free in
    sums (cond (from.ino == x) 1 0) (names (moved_entries entries from dir name) x) (names new x) (names entries x) less more
  where
    sums : (c a b d : ℕ) → c + a ≡ b → b ≡ c + d → a ≡ d
    sums c a b d h k = omega (arith, h, k)

same_entry : (entries : Entries) (from : Entry) → IsIn entries from → (key : ℕ × List ℕ) (x : Entry) → entry_in entries key ≡ Some x → key ≡ (from.dir, from.name) → x.ino ≡ from.ino
same_entry entries from here key x f same =
    let g = subst (λ k. entry_in entries k ≡ Some x) same f in
    let is : x ≡ from = some_same (sym g ∙ here) in ap (λ (e : Entry). e.ino) is

up_avoiding : (entries : Entries) (from : Entry) (dir : ℕ) (name : List ℕ) → IsIn entries from → entry_in entries (dir, name) ≡ None → (n x : ℕ) → Up (IsNot from.ino) entries n x → Up Any (moved_entries entries from dir name) n x
up_avoiding entries from dir name here free zero x up = up
up_avoiding entries from dir name here free (suc n) x up = by (λ d u. up_avoiding entries from dir name here free n d u) up
  where
    by : ((d : ℕ) → Up (IsNot from.ino) entries n d → Up Any (moved_entries entries from dir name) n d) → (x ≡ 1) ⊎ ((step : Step (IsNot from.ino) entries x) × Up (IsNot from.ino) entries n step.entry.dir) → Up Any (moved_entries entries from dir name) (suc n) x
    by more (inl root) = inl root
    by more (inr s) = inr (
      record {
        key = s.0.key;
        entry = s.0.entry;
        found = moved_kept entries from dir name free s.0.key s.0.entry (λ same. s.0.allowed (sym s.0.named ∙ same_entry entries from here s.0.key s.0.entry s.0.found same)) s.0.found;
        named = s.0.named;
        allowed = tt;
      },
      more s.0.entry.dir s.1,
    )

up_moved : (inodes : Inodes) (entries : Entries) (from : Entry) (dir : ℕ) (name : List ℕ) → Rel inodes entries → Moves inodes entries from dir name → (n x : ℕ) → kind_is inodes x Dir ≡ true → Up Any entries n x → Reaches Any (moved_entries entries from dir name) x
up_moved inodes entries from dir name rel m zero x d up = (0, up)
up_moved inodes entries from dir name rel m (suc n) x d up = by (λ y k u. up_moved inodes entries from dir name rel m n y k u) up
  where
    by : ((y : ℕ) → kind_is inodes y Dir ≡ true → Up Any entries n y → Reaches Any (moved_entries entries from dir name) y) → (x ≡ 1) ⊎ ((step : Step Any entries x) × Up Any entries n step.entry.dir) → Reaches Any (moved_entries entries from dir name) x
    by more (inl root) = (0, root)
    by more (inr s) = elim (key_cases nat_cmp numbers x from.ino) [
      | inl same ↦
          let k = subst (λ y. kind_is inodes y Dir ≡ true) same d in
          let up = m.above (dir_agrees inodes from.ino from.kind Dir (rel.entry (from.dir, from.name) from m.here).ino k) in
          (suc up.0, inr (record { key = (dir, name); entry = placed_at from dir name; found = moved_new inodes entries from dir name m; named = sym same; allowed = tt }, up_avoiding entries from dir name m.here m.free up.0 dir up.1))
      | inr other ↦
          let up = more s.0.entry.dir (rel.entry s.0.key s.0.entry s.0.found).dir s.1 in (
            suc up.0,
            inr (
              record {
                key = s.0.key;
                entry = s.0.entry;
                found = moved_kept entries from dir name m.free s.0.key s.0.entry (λ same. other (sym s.0.named ∙ same_entry entries from m.here s.0.key s.0.entry s.0.found same)) s.0.found;
                named = s.0.named;
                allowed = tt;
              },
              up.1,
            ),
          )
    ]

pub rel_moved : (inodes : Inodes) (entries : Entries) (from : Entry) (dir : ℕ) (name : List ℕ) → Rel inodes entries → Moves inodes entries from dir name → Rel inodes (moved_entries entries from dir name)
rel_moved inodes entries from dir name rel m =
    let was = rel.entry (from.dir, from.name) from m.here in
    record {
      root = rel.root;
      entry = λ key x f. elim (moved_from inodes entries from dir name m key x f) [
        | inl new ↦ subst (λ e. SoundEntry inodes e) new (record { dir = m.into; ino = was.ino; root = was.root })
        | inr old ↦ rel.entry key x old
      ];
      inode = λ x i f.
          let sound = rel.inode x i f in
          let count = moved_names inodes entries from dir name m x in
          record {
            plain = λ d. sound.plain d ∙ sym count;
            one = λ d r. count ∙ sound.one d r;
            reaches = λ d. let up = sound.reaches d in up_moved inodes entries from dir name rel m up.0 x (rw f (dir_same i.kind d)) up.1;
          };
    }
