-- How entries and inodes fit one another, told by look-ups.
use Rattle.std.proofs.Common.{◌≡◌, ◌≢◌, ℕ, zero, suc, ◌⊎◌, Bool, true, false, cond, not, ◌&&◌, ◌||◌, List, length, Some, refl, sym, ◌∙◌, inl, inr}
use Rattle.std.specs.Prelude.{◌==◌, Option, None}
use Rattle.std.specs.List.{list_any}
use Rattle.std.specs.Map.{lookup, keys_of}
use Rattle.std.specs.BTreeMap.{is_at}
use Rattle.std.specs.Option.{option_map_or}
use Rattle.std.specs.Ordering.{nat_cmp}
use Rattle.std.proofs.lemmas.Bool.{false≢true, and_parts, and_from, or_left, or_right, eqb-true, eq-eqb}
use Rattle.std.proofs.lemmas.Bool.Decides.{eqb_tells}
use Rattle.fs_model.specs.declared.inode.Inode.{Inode}
use Rattle.fs_model.specs.declared.inode.Entry.{Entry}
use Rattle.fs_model.specs.declared.inode.Kind.{Kind}
use Rattle.fs_model.specs.declared.inode.Kind.TheVariants.{Dir}
use Rattle.fs_model.specs.Files.{Tree, Inodes, Entries, name_cmp}
use Rattle.fs_model.specs.Path.{is_dir}
use Rattle.fs_model.specs.Proper.{IsProper, ascends, same_kind, climbs, names_of, has_kind, is_sound_entry, is_sound_dir, is_sound_inode}
use Rattle.fs_laws.proofs.InodeKinds.{dir_is}
use Rattle.fs_laws.specs.Maps.{all_at, any_found, found_any, values_all, count_in}
use Rattle.fs_laws.specs.Orders.{numbers, named}

abbrev Key : Type 0
Key = ℕ × List ℕ

-- what stands at a number, and at a name
abbrev pub inode_in : Inodes → ℕ → Option Inode
inode_in inodes ino = lookup (is_at (nat_cmp ino)) inodes

abbrev pub entry_in : Entries → ℕ × List ℕ → Option Entry
entry_in entries key = lookup (is_at (name_cmp key)) entries

abbrev pub kind_is : Inodes → ℕ → Kind → Bool
kind_is inodes ino kind = option_map_or (λ inode. same_kind inode.kind kind) (inode_in inodes ino) false

-- how many names an inode has
abbrev pub names : Entries → ℕ → ℕ
names entries ino = count_in (λ (e : Entry). e.ino == ino) entries

-- one step up by a name of an inode that is one of these
pub record Step (P : ℕ → Type 0) (entries : Entries) (ino : ℕ) : Type 0 where
  pub key : ℕ × List ℕ
  pub entry : Entry
  pub found : entry_in entries key ≡ Some entry
  pub named : entry.ino ≡ ino
  pub allowed : P ino

-- so many steps up to the root, or fewer
abbrev pub Up : (ℕ → Type 0) → Entries → ℕ → ℕ → Type 0
Up P entries zero ino = ino ≡ 1
Up P entries (suc n) ino = (ino ≡ 1) ⊎ ((step : Step P entries ino) × Up P entries n step.entry.dir)

abbrev pub Any : ℕ → Type 0
Any ino = Unit {0}

abbrev pub Reaches : (ℕ → Type 0) → Entries → ℕ → Type 0
Reaches P entries ino = (n : ℕ) × Up P entries n ino

pub record SoundEntry (inodes : Inodes) (entry : Entry) : Type 0 where
  pub dir : kind_is inodes entry.dir Dir ≡ true
  pub ino : kind_is inodes entry.ino entry.kind ≡ true
  pub root : entry.ino ≢ 1

pub record SoundInode (entries : Entries) (ino : ℕ) (inode : Inode) : Type 0 where
  pub plain : is_dir inode.kind ≡ false → inode.nlink ≡ names entries ino
  pub one : is_dir inode.kind ≡ true → ino ≢ 1 → names entries ino ≡ 1
  pub reaches : is_dir inode.kind ≡ true → Reaches Any entries ino

pub record Rel (inodes : Inodes) (entries : Entries) : Type 0 where
  pub root : kind_is inodes 1 Dir ≡ true
  pub entry : (key : ℕ × List ℕ) (e : Entry) → entry_in entries key ≡ Some e → SoundEntry inodes e
  pub inode : (ino : ℕ) (i : Inode) → inode_in inodes ino ≡ Some i → SoundInode entries ino i

-- climbing up
abbrev names_it : ℕ → Entry → Bool
names_it ino e = e.ino == ino

up_of : (tree : Tree) → ascends name_cmp (keys_of tree.entries) ≡ true → (n ino : ℕ) → climbs tree n ino ≡ true → Up Any tree.entries n ino
up_of tree h zero ino c = eqb-true ino 1 c
up_of tree h (suc n) ino c = by (λ dir. up_of tree h n dir) (ino == 1) refl c
  where
    by : ((dir : ℕ) → climbs tree n dir ≡ true → Up Any tree.entries n dir) → (b : Bool) → (ino == 1) ≡ b → (b || list_any (λ e. climbs tree n e.dir) (names_of tree ino)) ≡ true → Up Any tree.entries (suc n) ino
    by more true e t = inl (eqb-true ino 1 e)
    by more false e t =
        let it = any_found name_cmp named (names_it ino) (λ e. climbs tree n e.dir) tree.entries h t in
        inr (record { key = it.key; entry = it.value; found = it.found; named = eqb-true it.value.ino ino it.passes; allowed = tt }, more it.value.dir it.also)

pub climbs_of : (tree : Tree) (n ino : ℕ) → Up Any tree.entries n ino → climbs tree n ino ≡ true
climbs_of tree zero ino up = eq-eqb ino 1 up
climbs_of tree (suc n) ino up = by (λ dir. climbs_of tree n dir) up
  where
    by : ((dir : ℕ) → Up Any tree.entries n dir → climbs tree n dir ≡ true) → (ino ≡ 1) ⊎ ((step : Step Any tree.entries ino) × Up Any tree.entries n step.entry.dir) → climbs tree (suc n) ino ≡ true
    by more (inl root) = or_left (ino == 1) (list_any (λ e. climbs tree n e.dir) (names_of tree ino)) (eq-eqb ino 1 root)
    by more (inr s) = or_right (ino == 1) (list_any (λ e. climbs tree n e.dir) (names_of tree ino))
        (found_any name_cmp (names_it ino) (λ e. climbs tree n e.dir) tree.entries s.0.key s.0.entry s.0.found (eq-eqb s.0.entry.ino ino s.0.named) (more s.0.entry.dir s.1))

not_one : (a b : ℕ) → not (a == b) ≡ true → a ≢ b
not_one a b t = elim (eqb_tells a b) [ inl same ↦ absurd (false≢true (rw same.0 at t)) | inr other ↦ other.1 ]

sound_entry_of : (tree : Tree) (e : Entry) → is_sound_entry tree e ≡ true → SoundEntry tree.inodes e
sound_entry_of tree e h =
    let a = and_parts (has_kind tree e.dir Dir && has_kind tree e.ino e.kind) (not (e.ino == 1)) h in
    let b = and_parts (has_kind tree e.dir Dir) (has_kind tree e.ino e.kind) a.0 in
    record { dir = b.0; ino = b.1; root = not_one e.ino 1 a.1 }

not_one_from : (a b : ℕ) → a ≢ b → not (a == b) ≡ true
not_one_from a b h = elim (eqb_tells a b) [ inl same ↦ absurd (h same.1) | inr other ↦ rw other.0 refl ]

pub sound_entry_from : (tree : Tree) (e : Entry) → SoundEntry tree.inodes e → is_sound_entry tree e ≡ true
sound_entry_from tree e s =
    and_from (has_kind tree e.dir Dir && has_kind tree e.ino e.kind) (not (e.ino == 1)) (and_from (has_kind tree e.dir Dir) (has_kind tree e.ino e.kind) s.dir s.ino) (not_one_from e.ino 1 s.root)

sound_dir_of : (tree : Tree) (ino : ℕ) → ascends name_cmp (keys_of tree.entries) ≡ true → is_sound_dir tree ino ≡ true → (ino ≡ 1) ⊎ ((names tree.entries ino ≡ 1) × Reaches Any tree.entries ino)
sound_dir_of tree ino h t = by (ino == 1) refl t
  where
    by : (b : Bool) → (ino == 1) ≡ b → (b || ((length (names_of tree ino) == 1) && climbs tree (length tree.inodes) ino)) ≡ true → (ino ≡ 1) ⊎ ((names tree.entries ino ≡ 1) × Reaches Any tree.entries ino)
    by true e s = inl (eqb-true ino 1 e)
    by false e s =
        let parts = and_parts (length (names_of tree ino) == 1) (climbs tree (length tree.inodes) ino) s in
        inr (eqb-true (length (names_of tree ino)) 1 parts.0, (length tree.inodes, up_of tree h (length tree.inodes) ino parts.1))

sound_inode_of : (tree : Tree) (ino : ℕ) (inode : Inode) → ascends name_cmp (keys_of tree.entries) ≡ true → is_sound_inode tree (ino, inode) ≡ true → SoundInode tree.entries ino inode
sound_inode_of tree ino inode h t = by (is_dir inode.kind) refl t
  where
    by : (b : Bool) → is_dir inode.kind ≡ b → cond b (is_sound_dir tree ino) (inode.nlink == length (names_of tree ino)) ≡ true → SoundInode tree.entries ino inode
    by true e s = elim (sound_dir_of tree ino h s) [
      | inl root ↦ record { plain = λ d. absurd (false≢true (sym d ∙ e)); one = λ d r. absurd (r root); reaches = λ d. (0, root) }
      | inr both ↦ record { plain = λ d. absurd (false≢true (sym d ∙ e)); one = λ d r. both.0; reaches = λ d. both.1 }
    ]
    by false e s = record {
      plain = λ d. eqb-true inode.nlink (length (names_of tree ino)) s;
      one = λ d r. absurd (false≢true (sym e ∙ d));
      reaches = λ d. absurd (false≢true (sym e ∙ d));
    }

pub rel_of : (tree : Tree) → IsProper tree → Rel tree.inodes tree.entries
rel_of tree proper = record {
  root = proper.root;
  entry = λ key e f. sound_entry_of tree e (all_at name_cmp named (λ k. is_sound_entry tree k.1) tree.entries key e (sym (values_all (is_sound_entry tree) tree.entries) ∙ proper.entries) f);
  inode = λ ino i f. sound_inode_of tree ino i proper.entries_ascend (all_at nat_cmp numbers (is_sound_inode tree) tree.inodes ino i proper.inodes f);
}

-- an inode of a kind is there
pub record There (inodes : Inodes) (ino : ℕ) (kind : Kind) : Type 0 where
  pub inode : Inode
  pub found : inode_in inodes ino ≡ Some inode
  pub same : same_kind inode.kind kind ≡ true

pub there_of : (inodes : Inodes) (ino : ℕ) (kind : Kind) → kind_is inodes ino kind ≡ true → There inodes ino kind
there_of inodes ino kind h = by (inode_in inodes ino) refl h
  where
    by : (o : Option Inode) → inode_in inodes ino ≡ o → option_map_or (λ inode. same_kind inode.kind kind) o false ≡ true → There inodes ino kind
    by None f t = absurd (false≢true t)
    by (Some i) f t = record { inode = i; found = f; same = t }

pub dir_reaches : (inodes : Inodes) (entries : Entries) → Rel inodes entries → (ino : ℕ) → kind_is inodes ino Dir ≡ true → Reaches Any entries ino
dir_reaches inodes entries rel ino h =
    let it = there_of inodes ino Dir h in
    (rel.inode ino it.inode it.found).reaches (dir_is it.inode.kind it.same)
