-- A chain of directories is no longer than there are inodes; so what is said by look-ups makes a tree proper.
use Rattle.std.proofs.Common.{◌≡◌, ◌≢◌, ℕ, zero, suc, ◌<◌, ◌≤◌, ◌⊎◌, Bool, true, false, cond, not, ◌&&◌, ◌||◌, List, [], ◌∷◌, length, Some, refl, sym, ◌∙◌, arith, inl, inr}
use Rattle.std.specs.Prelude.{filter, ◌==◌, nat_le}
use Rattle.std.specs.List.{list_all, list_any}
use Rattle.std.specs.Map.{lookup}
use Rattle.std.specs.BTreeMap.{is_at}
use Rattle.std.specs.Ordering.{nat_cmp, is_eq}
use Rattle.std.specs.declared.cmp.Ordering.{Ordering}
use Rattle.std.specs.declared.cmp.Ordering.TheVariants.{Less, Equal, Greater}
use Rattle.std.proofs.lemmas.Bool.{false≢true, and_parts, and_from, or_left, or_right, or_cases, eqb-true, eq-eqb, cases_lt}
use Rattle.fs_model.specs.declared.inode.Inode.{Inode}
use Rattle.fs_model.specs.declared.inode.Entry.{Entry}
use Rattle.fs_model.specs.declared.inode.Kind.TheVariants.{Dir}
use Rattle.fs_model.specs.Files.{Tree, name_cmp}
use Rattle.fs_model.specs.Path.{is_dir, is_same_name}
use Rattle.fs_model.specs.Proper.{IsProper, climbs, names_of, is_sound_entry, is_sound_dir, is_sound_inode, is_linked, is_name, are_words, is_entry_node}
use Rattle.fs_laws.proofs.Local.{IsLocal}
use Rattle.fs_laws.specs.Maps.{IsOrder, all_at, all_from, found_any, values_all}
use Rattle.fs_laws.specs.Orders.{numbers, named}
use Rattle.fs_laws.proofs.Rel.{Rel, SoundInode, Step, Up, Any, Reaches, there_of, inode_in, entry_in, sound_entry_from}

length_filter : {X : Type 0} (p : X → Bool) (xs : List X) → length (filter p xs) ≤ length xs
length_filter p [] = omega arith
length_filter p (x ∷ xs) = by (length_filter p xs) (p x)
  where
    by : length (filter p xs) ≤ length xs → (b : Bool) → length (cond b (x ∷ filter p xs) (filter p xs)) ≤ length (x ∷ xs)
    by more true = omega (arith, more)
    by more false = omega (arith, more)

filter_more : {X : Type 0} (p q : X → Bool) → ((x : X) → p x ≡ true → q x ≡ true) → (xs : List X) → length (filter p xs) ≤ length (filter q xs)
filter_more p q h [] = omega arith
filter_more p q h (x ∷ xs) = by (filter_more p q h xs) (p x) refl (q x) refl
  where
    by : length (filter p xs) ≤ length (filter q xs) → (a : Bool) → p x ≡ a → (b : Bool) → q x ≡ b → length (cond a (x ∷ filter p xs) (filter p xs)) ≤ length (cond b (x ∷ filter q xs) (filter q xs))
    by more true e true f = omega (arith, more)
    by more true e false f = absurd (false≢true (sym f ∙ h x e))
    by more false e true f = omega (arith, more)
    by more false e false f = more

-- where no more pass, those that pass are the same
filter_same : {X : Type 0} (p q : X → Bool) → ((x : X) → p x ≡ true → q x ≡ true) → (xs : List X) → length (filter q xs) ≤ length (filter p xs) → list_all (λ x. not (q x) || p x) xs ≡ true
filter_same p q h [] l = refl
filter_same p q h (x ∷ xs) l = by (filter_same p q h xs) (filter_more p q h xs) (p x) refl (q x) refl l
  where
    by : (length (filter q xs) ≤ length (filter p xs) → list_all (λ x. not (q x) || p x) xs ≡ true) → length (filter p xs) ≤ length (filter q xs) → (a : Bool) → p x ≡ a → (b : Bool) → q x ≡ b
        → length (cond b (x ∷ filter q xs) (filter q xs)) ≤ length (cond a (x ∷ filter p xs) (filter p xs)) → list_all (λ y. not (q y) || p y) (x ∷ xs) ≡ true
    by rest more true e true f k = rw (e, f) (rest (omega (arith, k)))
    by rest more true e false f k = absurd (false≢true (sym f ∙ h x e))
    by rest more false e true f k = absurd (omega (arith, k, more))
    by rest more false e false f k = rw (e, f) (rest k)

filter_found : {K X : Type 0} (cmp : K → K → Ordering) → IsOrder cmp → (test : K × X → Bool) (es : List (K × X)) (k : K) (v : X) → lookup (is_at (cmp k)) es ≡ Some v → test (k, v) ≡ true → 0 < length (filter test es)
filter_found cmp order test [] k v f t = absurd cc
filter_found {K} {X} cmp order test (e ∷ es) k v f t = by (λ g. filter_found cmp order test es k v g t) (cmp k e.0) refl f
  where
    longer : 0 < length (filter test es) → (b : Bool) → 0 < length (cond b (e ∷ filter test es) (filter test es))
    longer h true = omega arith
    longer h false = h

    by : (lookup (is_at (cmp k)) es ≡ Some v → 0 < length (filter test es)) → (o : Ordering) → cmp k e.0 ≡ o → cond (is_eq o) (Some e.1) (lookup (is_at (cmp k)) es) ≡ Some v → 0 < length (filter test (e ∷ es))
    by rest Less x g = longer (rest g) (test e)
    by rest Equal x g =
        let b : e.1 ≡ v = cc g in
        let a = order.exact k e.0 x in
        let it : test e ≡ true = rw (sym a, b) t in
        rw it (omega arith)
    by rest Greater x g = longer (rest g) (test e)

climbs_more : (tree : Tree) (n ino : ℕ) → climbs tree n ino ≡ true → climbs tree (suc n) ino ≡ true
climbs_more tree zero ino h = or_left (ino == 1) (list_any (λ e. climbs tree zero e.dir) (names_of tree ino)) h
climbs_more tree (suc n) ino h = elim (or_cases (ino == 1) (list_any (λ e. climbs tree n e.dir) (names_of tree ino)) h) [
  | inl root ↦ or_left (ino == 1) (list_any (λ e. climbs tree (suc n) e.dir) (names_of tree ino)) root
  | inr up ↦ or_right (ino == 1) (list_any (λ e. climbs tree (suc n) e.dir) (names_of tree ino)) (any_more (λ e. climbs tree n e.dir) (λ e. climbs tree (suc n) e.dir) (λ e t. climbs_more tree n e.dir t) (names_of tree ino) up)
]
  where
    any_more : (p q : Entry → Bool) → ((e : Entry) → p e ≡ true → q e ≡ true) → (es : List Entry) → list_any p es ≡ true → list_any q es ≡ true
    any_more p q m [] t = absurd (false≢true t)
    any_more p q m (e ∷ es) t = elim (or_cases (p e) (list_any p es) t) [ inl a ↦ or_left (q e) (list_any q es) (m e a) | inr b ↦ or_right (q e) (list_any q es) (any_more p q m es b) ]

root_climbs : (tree : Tree) (n ino : ℕ) → ino ≡ 1 → climbs tree n ino ≡ true
root_climbs tree zero ino h = eq-eqb ino 1 h
root_climbs tree (suc n) ino h = or_left (ino == 1) (list_any (λ e. climbs tree n e.dir) (names_of tree ino)) (eq-eqb ino 1 h)

-- more steps reach nothing more
abbrev Settled : Tree → ℕ → Type 0
Settled tree k = (n ino : ℕ) (i : Inode) → inode_in tree.inodes ino ≡ Some i → Up Any tree.entries n ino → climbs tree k ino ≡ true

settled_from : (tree : Tree) → Rel tree.inodes tree.entries → (k : ℕ) → ((ino : ℕ) (i : Inode) → inode_in tree.inodes ino ≡ Some i → climbs tree (suc k) ino ≡ true → climbs tree k ino ≡ true) → Settled tree k
settled_from tree rel k same zero ino i f up = root_climbs tree k ino up
settled_from tree rel k same (suc n) ino i f up = by (λ dir j g u. settled_from tree rel k same n dir j g u) up
  where
    by : ((dir : ℕ) (j : Inode) → inode_in tree.inodes dir ≡ Some j → Up Any tree.entries n dir → climbs tree k dir ≡ true) → (ino ≡ 1) ⊎ ((step : Step Any tree.entries ino) × Up Any tree.entries n step.entry.dir) → climbs tree k ino ≡ true
    by more (inl root) = root_climbs tree k ino root
    by more (inr s) =
        let it = there_of tree.inodes s.0.entry.dir Dir (rel.entry s.0.key s.0.entry s.0.found).dir in
        let above = more s.0.entry.dir it.inode it.found s.1 in
        same ino i f (or_right (ino == 1) (list_any (λ e. climbs tree k e.dir) (names_of tree ino))
        (found_any name_cmp (λ (e : Entry). e.ino == ino) (λ e. climbs tree k e.dir) tree.entries s.0.key s.0.entry s.0.found (eq-eqb s.0.entry.ino ino s.0.named) above))

abbrev within : Tree → ℕ → ℕ × Inode → Bool
within tree k e = climbs tree k e.0

settles : (tree : Tree) → Rel tree.inodes tree.entries → (k : ℕ) → (k < length (filter (within tree k) tree.inodes)) ⊎ Settled tree k
settles tree rel zero =
    let it = there_of tree.inodes 1 Dir rel.root in
    inl (filter_found nat_cmp numbers (within tree 0) tree.inodes 1 it.inode it.found refl)
settles tree rel (suc k) = by (settles tree rel k)
  where
    more : (e : ℕ × Inode) → within tree k e ≡ true → within tree (suc k) e ≡ true
    more e t = climbs_more tree k e.0 t

    by : (k < length (filter (within tree k) tree.inodes)) ⊎ Settled tree k → (suc k < length (filter (within tree (suc k)) tree.inodes)) ⊎ Settled tree (suc k)
    by (inr settled) = inr (λ n ino i f up. climbs_more tree k ino (settled n ino i f up))
    by (inl many) = elim (cases_lt (length (filter (within tree k) tree.inodes)) (length (filter (within tree (suc k)) tree.inodes))) [
      | inl less ↦ inl (omega (arith, many, less))
      | inr same ↦ inr (λ n ino i f up. climbs_more tree k ino (settled_from tree rel k (λ x j g t.
          let all = all_at nat_cmp numbers (λ e. not (within tree (suc k) e) || within tree k e) tree.inodes x j (filter_same (within tree k) (within tree (suc k)) more tree.inodes same) g in
          rw t at all) n ino i f up))
    ]

-- a chain needs no more steps than there are inodes
pub climbs_within : (tree : Tree) → Rel tree.inodes tree.entries → (ino : ℕ) (i : Inode) → inode_in tree.inodes ino ≡ Some i → Reaches Any tree.entries ino → climbs tree (length tree.inodes) ino ≡ true
climbs_within tree rel ino i f reaches = elim (settles tree rel (length tree.inodes)) [
  | inl many ↦ let few = length_filter (within tree (length tree.inodes)) tree.inodes in absurd (omega (arith, many, few))
  | inr settled ↦ settled reaches.0 ino i f reaches.1
]

sound_inode_from : (tree : Tree) → Rel tree.inodes tree.entries → (ino : ℕ) (i : Inode) → inode_in tree.inodes ino ≡ Some i → is_sound_inode tree (ino, i) ≡ true
sound_inode_from tree rel ino i f = by (rel.inode ino i f) (is_dir i.kind) refl
  where
    dir : SoundInode tree.entries ino i → is_dir i.kind ≡ true → (b : Bool) → (ino == 1) ≡ b → (b || ((length (names_of tree ino) == 1) && climbs tree (length tree.inodes) ino)) ≡ true
    dir sound d true e = refl
    dir sound d false e =
        let other : ino ≢ 1 = λ one. absurd (false≢true (sym e ∙ eq-eqb ino 1 one)) in
        and_from (length (names_of tree ino) == 1) (climbs tree (length tree.inodes) ino) (eq-eqb (length (names_of tree ino)) 1 (sound.one d other)) (climbs_within tree rel ino i f (sound.reaches d))

    by : SoundInode tree.entries ino i → (b : Bool) → is_dir i.kind ≡ b → cond b (is_sound_dir tree ino) (i.nlink == length (names_of tree ino)) ≡ true
    by sound true d = dir sound d (ino == 1) refl
    by sound false d = eq-eqb i.nlink (length (names_of tree ino)) (sound.plain d)

pub numbered : (tree : Tree) → IsLocal tree → (ino : ℕ) (i : Inode) → inode_in tree.inodes ino ≡ Some i → nat_le ino tree.highest ≡ true
numbered tree local ino i f = all_at nat_cmp numbers (λ e. nat_le e.0 tree.highest) tree.inodes ino i local.inode_numbers f

pub entry_numbered : (tree : Tree) → IsLocal tree → Rel tree.inodes tree.entries → (key : ℕ × List ℕ) (e : Entry) → entry_in tree.entries key ≡ Some e → (nat_le key.0 tree.highest && nat_le e.ino tree.highest) ≡ true
entry_numbered tree local rel key e f =
    let sound = rel.entry key e f in
    let dir = there_of tree.inodes e.dir Dir sound.dir in
    let it = there_of tree.inodes e.ino e.kind sound.ino in
    let node = all_at name_cmp named is_entry_node tree.entries key e local.entry_nodes f in
    let most = (and_parts ((key.0 == e.dir) && is_same_name key.1 e.name && is_name e.name) (are_words (e.dir ∷ e.ino ∷ [])) node).0 in
    let both = (and_parts ((key.0 == e.dir) && is_same_name key.1 e.name) (is_name e.name) most).0 in
    let same = eqb-true key.0 e.dir (and_parts (key.0 == e.dir) (is_same_name key.1 e.name) both).0 in
    and_from (nat_le key.0 tree.highest) (nat_le e.ino tree.highest) (rw same (numbered tree local e.dir dir.inode dir.found)) (numbered tree local e.ino it.inode it.found)

pub proper_of : (tree : Tree) → IsLocal tree → Rel tree.inodes tree.entries → list_all is_linked tree.inodes ≡ true → IsProper tree
proper_of tree local rel linked = record {
  linked = linked;
  inodes_ascend = local.inodes_ascend;
  blocks_ascend = local.blocks_ascend;
  entries_ascend = local.entries_ascend;
  inode_nodes = local.inode_nodes;
  block_nodes = local.block_nodes;
  entry_nodes = local.entry_nodes;
  root = rel.root;
  entries = values_all (is_sound_entry tree) tree.entries ∙ all_from name_cmp named (λ k. is_sound_entry tree k.1) tree.entries local.entries_ascend (λ key e f. sound_entry_from tree e (rel.entry key e f));
  inodes = all_from nat_cmp numbers (is_sound_inode tree) tree.inodes local.inodes_ascend (λ ino i f. sound_inode_from tree rel ino i f);
  numbers = and_from (list_all (λ e. nat_le e.0 tree.highest) tree.inodes && list_all (λ e. nat_le e.0.0 tree.highest) tree.blocks) (list_all (λ e. nat_le e.0.0 tree.highest && nat_le e.1.ino tree.highest) tree.entries)
      (and_from (list_all (λ e. nat_le e.0 tree.highest) tree.inodes) (list_all (λ e. nat_le e.0.0 tree.highest) tree.blocks) local.inode_numbers local.block_numbers)
      (all_from name_cmp named (λ e. nat_le e.0.0 tree.highest && nat_le e.1.ino tree.highest) tree.entries local.entries_ascend (λ key e f. entry_numbered tree local rel key e f));
}
