-- A name comes with its inode, a file that is there or a new one, however many links there are: the tree stays proper.
use Rattle.std.proofs.Common.{◌≡◌, ◌≢◌, ℕ, zero, suc, ◌+◌, ◌-◌, ◌≤◌, Bool, true, false, cond, max, Option, Some, None, List, [], ◌∷◌, length, arith, refl, sym, ap, subst, ◌∙◌, inl, inr}
use Rattle.std.specs.Prelude.{◌==◌, ◌&&◌, ◌||◌, not, nat_le, filter}
use Rattle.std.specs.List.{list_all, list_any}
use Rattle.std.specs.Map.{keys_of, lookup, values_of}
use Rattle.std.specs.Option.{option_map_or}
use Rattle.std.specs.BTreeMap.{insert_entry, is_at}
use Rattle.std.specs.Ordering.{is_eq, match_ordering, nat_cmp}
use Rattle.std.specs.declared.cmp.Ordering.{Ordering}
use Rattle.std.specs.declared.cmp.Ordering.TheVariants.{Less, Equal, Greater}
use Rattle.std.proofs.lemmas.Bool.{and_from, and_parts, eq-eqb, eqb-true, false≢true, or_left, or_right}
use Rattle.std.proofs.lemmas.Bool.Decides.{eqb_tells, nat_tests}
use Rattle.fs_model.specs.declared.inode.Entry.{Entry}
use Rattle.fs_model.specs.declared.inode.Inode.{Inode}
use Rattle.fs_model.specs.declared.inode.Kind.{Kind}
use Rattle.fs_model.specs.declared.inode.Kind.TheVariants.{File, Dir}
use Rattle.fs_model.specs.Files.{Entries, Inodes, Tree, inode_at, name_cmp}
use Rattle.fs_model.specs.Path.{is_dir}
use Rattle.fs_model.specs.Proper.{IsProper, are_numbered, ascends, climbs, has_kind, is_entry_node, is_inode_node, is_linked, is_sound_dir, is_sound_entry, is_sound_inode, names_of, same_kind}
use Rattle.fs_laws.specs.Maps.{all_at, all_filter, all_from, all_insert, all_weaken, count_insert, found_any, insert_ascends, key_cases, length_replace, set_here, set_other, values_all}
use Rattle.fs_laws.specs.Orders.{named, numbers}

-- What is known of a name that comes, of the inode that it names, which wasn't a directory, and of the directory that it comes to.
pub record GainsName (tree : Tree) (e : Entry) (new d up : Inode) : Type 0 where
  pub free : lookup (is_at (name_cmp (e.dir, e.name))) tree.entries ≡ None
  pub no_dir : has_kind tree e.ino Dir ≡ false
  pub keeps : (kind : Kind) → has_kind tree e.ino kind ≡ true → same_kind new.kind kind ≡ true
  pub kind : same_kind new.kind e.kind ≡ true
  pub links : is_dir new.kind ≡ false → new.nlink ≡ 1 + length (names_of tree e.ino)
  pub first : is_dir new.kind ≡ true → length (names_of tree e.ino) ≡ 0
  pub absent : is_dir new.kind ≡ true → inode_at tree e.ino ≡ None
  pub linked : is_linked (e.ino, new) ≡ true
  pub dir : inode_at tree e.dir ≡ Some d
  pub dir_kind : d.kind ≡ Dir
  pub up_kind : up.kind ≡ Dir
  pub up_linked : is_linked (e.dir, up) ≡ true
  pub entry_node : is_entry_node ((e.dir, e.name), e) ≡ true
  pub new_node : is_inode_node (e.ino, new) ≡ true
  pub up_node : is_inode_node (e.dir, up) ≡ true

-- the tree with that name
abbrev pub gained : Tree → Entry → Inode → Inode → ℕ → Tree
gained tree e new up highest = record {
  inodes = insert_entry nat_cmp (insert_entry nat_cmp tree.inodes e.ino new) e.dir up;
  blocks = tree.blocks;
  entries = insert_entry name_cmp tree.entries (e.dir, e.name) e;
  highest = highest;
}

-- values that don't pass aren't seen
filter_insert : {K X : Type 0} (cmp : K → K → Ordering) (test : X → Bool) (es : List (K × X)) (k : K) (v : X) → lookup (is_at (cmp k)) es ≡ None → test v ≡ false → filter test (values_of (insert_entry cmp es k v)) ≡ filter test (values_of es)
filter_insert cmp test [] k v h t = rw t refl
filter_insert cmp test (e ∷ es) k v h t = by (λ g. filter_insert cmp test es k v g t) (cmp k e.0) refl h
  where
    by : (lookup (is_at (cmp k)) es ≡ None → filter test (values_of (insert_entry cmp es k v)) ≡ filter test (values_of es)) → (o : Ordering) → cmp k e.0 ≡ o → cond (is_eq o) (Some e.1) (lookup (is_at (cmp k)) es) ≡ None
        → filter test (values_of (match_ordering o ((k, v) ∷ e ∷ es) ((e.0, v) ∷ es) (e ∷ insert_entry cmp es k v))) ≡ filter test (values_of (e ∷ es))
    by more Less x g = rw t refl
    by more Equal x g = absurd cc
    by more Greater x g = ap (λ z. cond (test e.1) (e.1 ∷ z) z) (more g)

any_same : {X : Type 0} (f g p : X → Bool) → ((x : X) → p x ≡ true → f x ≡ g x) → (xs : List X) → list_all p xs ≡ true → list_any f xs ≡ list_any g xs
any_same f g p same [] h = refl
any_same f g p same (x ∷ xs) h = let q = and_parts (p x) (list_all p xs) h in rw (same x q.0, any_same f g p same xs q.1) refl

any_more : {X : Type 0} (f g : X → Bool) → ((x : X) → f x ≡ true → g x ≡ true) → (xs : List X) → list_any f xs ≡ true → list_any g xs ≡ true
any_more f g more [] h = h
any_more f g more (x ∷ xs) h = by (any_more f g more xs) (f x) refl h
  where
    by : (list_any f xs ≡ true → list_any g xs ≡ true) → (b : Bool) → f x ≡ b → (b || list_any f xs) ≡ true → (g x || list_any g xs) ≡ true
    by rest true e t = or_left (g x) (list_any g xs) (more x e)
    by rest false e t = or_right (g x) (list_any g xs) (rest t)

or_same : (a b c : Bool) → (b ≡ true → c ≡ true) → (a || b) ≡ true → (a || c) ≡ true
or_same true b c h t = refl
or_same false b c h t = h t

-- a step more is no harm
climbs_step : (tree : Tree) (m ino : ℕ) → climbs tree m ino ≡ true → climbs tree (suc m) ino ≡ true
climbs_step tree zero ino h = or_left (ino == 1) (list_any (λ e. climbs tree zero e.dir) (names_of tree ino)) h
climbs_step tree (suc m) ino h =
    or_same (ino == 1) (list_any (λ e. climbs tree m e.dir) (names_of tree ino)) (list_any (λ e. climbs tree (suc m) e.dir) (names_of tree ino))
    (any_more (λ e. climbs tree m e.dir) (λ e. climbs tree (suc m) e.dir) (λ e t. climbs_step tree m e.dir t) (names_of tree ino)) h

climbs_steps : (tree : Tree) (k m n ino : ℕ) → n ≡ k + m → climbs tree m ino ≡ true → climbs tree n ino ≡ true
climbs_steps tree zero m n ino e h = subst (λ x. climbs tree x ino ≡ true) (omega (arith, e)) h
climbs_steps tree (suc k) m zero ino e h = absurd (omega (arith, e))
climbs_steps tree (suc k) m (suc n) ino e h = climbs_step tree n ino (climbs_steps tree k m n ino (omega (arith, e)) h)

climbs_more : (tree : Tree) (m n ino : ℕ) → m ≤ n → climbs tree m ino ≡ true → climbs tree n ino ≡ true
climbs_more tree m n ino few h = climbs_steps tree (n - m) m n ino (omega (arith, few)) h

dir_kind_of : (kind : Kind) → is_dir kind ≡ true → same_kind kind Dir ≡ true
dir_kind_of Dir h = refl
dir_kind_of kind h = absurd (false≢true h)

some_one : {X : Type 0} (a b : X) → Some a ≡ Some b → a ≡ b
some_one a b e = cc e

-- an entry that is new is one more
length_new : {K X : Type 0} (cmp : K → K → Ordering) (es : List (K × X)) (k : K) (v : X) → lookup (is_at (cmp k)) es ≡ None → length (insert_entry cmp es k v) ≡ length es + 1
length_new cmp [] k v h = refl
length_new cmp (e ∷ es) k v h = by (length_new cmp es k v) (cmp k e.0) refl h
  where
    by : (lookup (is_at (cmp k)) es ≡ None → length (insert_entry cmp es k v) ≡ length es + 1) → (o : Ordering) → cmp k e.0 ≡ o → cond (is_eq o) (Some e.1) (lookup (is_at (cmp k)) es) ≡ None
        → length (match_ordering o ((k, v) ∷ e ∷ es) ((e.0, v) ∷ es) (e ∷ insert_entry cmp es k v)) ≡ length (e ∷ es) + 1
    by more Less x g = omega arith
    by more Equal x g = absurd cc
    by more Greater x g = let rest = more g in omega (arith, rest)

-- the root is climbed from in no step
root_climbs : (tree : Tree) (m ino : ℕ) → ino ≡ 1 → climbs tree m ino ≡ true
root_climbs tree zero ino h = eq-eqb ino 1 h
root_climbs tree (suc m) ino h = or_left (ino == 1) (list_any (λ e. climbs tree m e.dir) (names_of tree ino)) (eq-eqb ino 1 h)

module _ (tree : Tree) (e : Entry) (new d up : Inode) (highest : ℕ) (g : GainsName tree e new d up) (proper : IsProper tree) (above : tree.highest ≤ highest) (number : nat_le e.ino highest ≡ true) where
  abbrev after : Tree
  after = gained tree e new up highest

  dir_is : has_kind tree e.dir Dir ≡ true
  dir_is = rw (g.dir, g.dir_kind) refl

  -- a directory isn't the inode that is named
  no_dir : (x : ℕ) → has_kind tree x Dir ≡ true → x ≡ e.ino → ⊥
  no_dir x h same = false≢true (sym g.no_dir ∙ (ap (λ y. has_kind tree y Dir) (sym same) ∙ h))

  apart_dir : e.dir ≡ e.ino → ⊥
  apart_dir same = no_dir e.dir dir_is same

  at_dir : inode_at after e.dir ≡ Some up
  at_dir = set_here nat_cmp numbers (insert_entry nat_cmp tree.inodes e.ino new) e.dir up

  at_ino : inode_at after e.ino ≡ Some new
  at_ino = set_other nat_cmp numbers (insert_entry nat_cmp tree.inodes e.ino new) e.dir up e.ino (λ same. apart_dir (sym same)) ∙ set_here nat_cmp numbers tree.inodes e.ino new

  at_other : (x : ℕ) → (x ≡ e.dir → ⊥) → (x ≡ e.ino → ⊥) → inode_at after x ≡ inode_at tree x
  at_other x a b = set_other nat_cmp numbers (insert_entry nat_cmp tree.inodes e.ino new) e.dir up x a ∙ set_other nat_cmp numbers tree.inodes e.ino new x b

  -- each inode keeps its kind
  keeps : (x : ℕ) (kind : Kind) → has_kind tree x kind ≡ true → has_kind after x kind ≡ true
  keeps x kind h = elim (key_cases nat_cmp numbers x e.dir) [
    | inl same ↦
        let was : same_kind Dir kind ≡ true = rw (same, g.dir, g.dir_kind) at h in
        let is : has_kind after e.dir kind ≡ true = rw (at_dir, g.up_kind) was in subst (λ y. has_kind after y kind ≡ true) (sym same) is
    | inr other ↦ elim (key_cases nat_cmp numbers x e.ino) [
      | inl same ↦
          let is : has_kind after e.ino kind ≡ true = rw at_ino (g.keeps kind (ap (λ y. has_kind tree y kind) (sym same) ∙ h)) in subst (λ y. has_kind after y kind ≡ true) (sym same) is
      | inr apart ↦ rw (at_other x other apart) h
    ]
  ]

  -- the names of another inode are the same
  names_same : (x : ℕ) → (x ≡ e.ino → ⊥) → names_of after x ≡ names_of tree x
  names_same x other = filter_insert name_cmp (λ (f : Entry). f.ino == x) tree.entries (e.dir, e.name) e g.free (elim (eqb_tells e.ino x) [ inl same ↦ absurd (other (sym same.1)) | inr differs ↦ differs.0 ])

  names_here : length (names_of after e.ino) ≡ 1 + length (names_of tree e.ino)
  names_here = rw (eq-eqb e.ino e.ino refl) at (count_insert name_cmp (λ (f : Entry). f.ino == e.ino) tree.entries (e.dir, e.name) e g.free)

  -- names stand in directories
  stand : (x : ℕ) → list_all (λ f. has_kind tree f.dir Dir) (names_of tree x) ≡ true
  stand x = all_filter (λ f. has_kind tree f.dir Dir) (λ f. f.ino == x) (values_of tree.entries) (all_weaken (is_sound_entry tree) (λ f. has_kind tree f.dir Dir) (λ f t.
      (and_parts (has_kind tree f.dir Dir) (has_kind tree f.ino f.kind) (and_parts (has_kind tree f.dir Dir && has_kind tree f.ino f.kind) (not (f.ino == 1)) t).0).0) (values_of tree.entries) proper.entries)

  climbs_same : (m x : ℕ) → has_kind tree x Dir ≡ true → climbs after m x ≡ climbs tree m x
  climbs_same zero x h = refl
  climbs_same (suc m) x h =
      ap (λ fs. (x == 1) || list_any (λ f. climbs after m f.dir) fs) (names_same x (no_dir x h))
      ∙ ap (λ b. (x == 1) || b) (any_same (λ f. climbs after m f.dir) (λ f. climbs tree m f.dir) (λ f. has_kind tree f.dir Dir) (λ f t. climbs_same m f.dir t) (names_of tree x) (stand x))

  inodes_more : length tree.inodes ≤ length after.inodes
  inodes_more =
      let a = length_replace nat_cmp tree.inodes e.ino new in
      let b = length_replace nat_cmp (insert_entry nat_cmp tree.inodes e.ino new) e.dir up in omega (arith, a, b)

  dir_stays : (x : ℕ) → has_kind tree x Dir ≡ true → is_sound_dir tree x ≡ true → is_sound_dir after x ≡ true
  dir_stays x kind h = or_same (x == 1) ((length (names_of tree x) == 1) && climbs tree (length tree.inodes) x) ((length (names_of after x) == 1) && climbs after (length after.inodes) x) (λ t.
      let p = and_parts (length (names_of tree x) == 1) (climbs tree (length tree.inodes) x) t in
      and_from (length (names_of after x) == 1) (climbs after (length after.inodes) x) (ap (λ fs. length fs == 1) (names_same x (no_dir x kind)) ∙ p.0)
      (climbs_more after (length tree.inodes) (length after.inodes) x inodes_more (climbs_same (length tree.inodes) x kind ∙ p.1))) h

  -- what was said of an inode
  was_sound : (x : ℕ) (i : Inode) → inode_at tree x ≡ Some i → is_sound_inode tree (x, i) ≡ true
  was_sound x i f = all_at nat_cmp numbers (is_sound_inode tree) tree.inodes x i proper.inodes f

  dir_there : (x : ℕ) (i : Inode) → inode_at tree x ≡ Some i → is_dir i.kind ≡ true → has_kind tree x Dir ≡ true
  dir_there x i f h = rw f (dir_kind_of i.kind h)

  -- an inode that isn't the file and wasn't changed
  other_stays : (x : ℕ) (i : Inode) → inode_at tree x ≡ Some i → (x ≡ e.ino → ⊥) → is_sound_inode after (x, i) ≡ true
  other_stays x i f other = by (is_dir i.kind) refl (was_sound x i f)
    where
      by : (b : Bool) → is_dir i.kind ≡ b → cond b (is_sound_dir tree x) (i.nlink == length (names_of tree x)) ≡ true → cond b (is_sound_dir after x) (i.nlink == length (names_of after x)) ≡ true
      by true k t = dir_stays x (dir_there x i f k) t
      by false k t = ap (λ fs. i.nlink == length fs) (names_same x other) ∙ t

  dir_sound : is_sound_inode after (e.dir, up) ≡ true
  dir_sound =
      let was : is_sound_dir tree e.dir ≡ true = rw g.dir_kind at (was_sound e.dir d g.dir) in
      ap (λ b. cond b (is_sound_dir after e.dir) (up.nlink == length (names_of after e.dir))) (ap is_dir g.up_kind) ∙ dir_stays e.dir dir_is was

  -- the way up from the directory
  dir_climbs : climbs after (length tree.inodes) e.dir ≡ true
  dir_climbs =
      let was : is_sound_dir tree e.dir ≡ true = rw g.dir_kind at (was_sound e.dir d g.dir) in by (e.dir == 1) refl was
    where
      by : (b : Bool) → (e.dir == 1) ≡ b → (b || ((length (names_of tree e.dir) == 1) && climbs tree (length tree.inodes) e.dir)) ≡ true → climbs after (length tree.inodes) e.dir ≡ true
      by true h t = root_climbs after (length tree.inodes) e.dir (eqb-true e.dir 1 h)
      by false h t = climbs_same (length tree.inodes) e.dir dir_is ∙ (and_parts (length (names_of tree e.dir) == 1) (climbs tree (length tree.inodes) e.dir) t).1

  new_dir_sound : is_dir new.kind ≡ true → is_sound_dir after e.ino ≡ true
  new_dir_sound h =
      let none = g.first h in
      let one : (length (names_of after e.ino) == 1) ≡ true = eq-eqb (length (names_of after e.ino)) 1 (omega (arith, names_here, none)) in
      let step : climbs after (suc (length tree.inodes)) e.ino ≡ true = or_right (e.ino == 1) (list_any (λ f. climbs after (length tree.inodes) f.dir) (names_of after e.ino))
      (found_any name_cmp (λ (f : Entry). f.ino == e.ino) (λ f. climbs after (length tree.inodes) f.dir) after.entries (e.dir, e.name) e (set_here name_cmp named tree.entries (e.dir, e.name) e) (eq-eqb e.ino e.ino refl) dir_climbs) in
      let a = length_new nat_cmp tree.inodes e.ino new (g.absent h) in
      let b = length_replace nat_cmp (insert_entry nat_cmp tree.inodes e.ino new) e.dir up in
      let more : suc (length tree.inodes) ≤ length after.inodes = omega (arith, a, b) in
      or_right (e.ino == 1) ((length (names_of after e.ino) == 1) && climbs after (length after.inodes) e.ino)
      (and_from (length (names_of after e.ino) == 1) (climbs after (length after.inodes) e.ino) one (climbs_more after (suc (length tree.inodes)) (length after.inodes) e.ino more step))

  it_sound : is_sound_inode after (e.ino, new) ≡ true
  it_sound = by (is_dir new.kind) refl
    where
      by : (b : Bool) → is_dir new.kind ≡ b → cond b (is_sound_dir after e.ino) (new.nlink == length (names_of after e.ino)) ≡ true
      by true h = new_dir_sound h
      by false h = let links = g.links h in eq-eqb new.nlink (length (names_of after e.ino)) (omega (arith, links, names_here))

  inode_sound : (x : ℕ) (i : Inode) → inode_at after x ≡ Some i → is_sound_inode after (x, i) ≡ true
  inode_sound x i f = elim (key_cases nat_cmp numbers x e.dir) [
    | inl same ↦
        let is : up ≡ i = some_one up i (sym at_dir ∙ (ap (inode_at after) (sym same) ∙ f)) in
        subst (λ y. is_sound_inode after (y, i) ≡ true) (sym same) (subst (λ j. is_sound_inode after (e.dir, j) ≡ true) is dir_sound)
    | inr other ↦ elim (key_cases nat_cmp numbers x e.ino) [
      | inl same ↦
          let is : new ≡ i = some_one new i (sym at_ino ∙ (ap (inode_at after) (sym same) ∙ f)) in
          subst (λ y. is_sound_inode after (y, i) ≡ true) (sym same) (subst (λ j. is_sound_inode after (e.ino, j) ≡ true) is it_sound)
      | inr apart ↦ other_stays x i (sym (at_other x other apart) ∙ f) apart
    ]
  ]

  -- the entries stay sound
  entry_stays : (f : Entry) → is_sound_entry tree f ≡ true → is_sound_entry after f ≡ true
  entry_stays f t =
      let a = and_parts (has_kind tree f.dir Dir && has_kind tree f.ino f.kind) (not (f.ino == 1)) t in
      let b = and_parts (has_kind tree f.dir Dir) (has_kind tree f.ino f.kind) a.0 in
      and_from (has_kind after f.dir Dir && has_kind after f.ino f.kind) (not (f.ino == 1)) (and_from (has_kind after f.dir Dir) (has_kind after f.ino f.kind) (keeps f.dir Dir b.0) (keeps f.ino f.kind b.1)) a.1

  not_root : not (e.ino == 1) ≡ true
  not_root = elim (eqb_tells e.ino 1) [
    | inl same ↦ absurd (no_dir 1 proper.root (sym same.1))
    | inr other ↦ rw other.0 refl
  ]

  new_sound : is_sound_entry after e ≡ true
  new_sound =
      and_from (has_kind after e.dir Dir && has_kind after e.ino e.kind) (not (e.ino == 1))
      (and_from (has_kind after e.dir Dir) (has_kind after e.ino e.kind) (rw (at_dir, g.up_kind) refl) (rw at_ino g.kind)) not_root

  all_entries : list_all (is_sound_entry after) (values_of after.entries) ≡ true
  all_entries =
      let test : (ℕ × List ℕ) × Entry → Bool = λ k. is_sound_entry after k.1 in
      let was : list_all (λ (k : (ℕ × List ℕ) × Entry). is_sound_entry tree k.1) tree.entries ≡ true = sym (values_all (is_sound_entry tree) tree.entries) ∙ proper.entries in
      values_all (is_sound_entry after) after.entries ∙ all_insert name_cmp named test tree.entries (e.dir, e.name) e new_sound
      (all_weaken (λ (k : (ℕ × List ℕ) × Entry). is_sound_entry tree k.1) test (λ k t. entry_stays k.1 t) tree.entries was)

  inodes_ascend : ascends nat_cmp (keys_of after.inodes) ≡ true
  inodes_ascend = insert_ascends nat_cmp numbers (insert_entry nat_cmp tree.inodes e.ino new) e.dir up (insert_ascends nat_cmp numbers tree.inodes e.ino new proper.inodes_ascend)

  all_inodes : (test : ℕ × Inode → Bool) → test (e.ino, new) ≡ true → test (e.dir, up) ≡ true → list_all test tree.inodes ≡ true → list_all test after.inodes ≡ true
  all_inodes test a b h = all_insert nat_cmp numbers test (insert_entry nat_cmp tree.inodes e.ino new) e.dir up b (all_insert nat_cmp numbers test tree.inodes e.ino new a h)

  -- no number passes the highest
  le_more : (n : ℕ) → nat_le n tree.highest ≡ true → nat_le n highest ≡ true
  le_more n t = grind (arith, nat_tests, t, above)

  numbered : are_numbered after ≡ true
  numbered =
      let fs : ℕ → ℕ × Inode → Bool = λ h k. nat_le k.0 h in
      let bs : ℕ → (ℕ × ℕ) × List ℕ → Bool = λ h k. nat_le k.0.0 h in
      let es : ℕ → (ℕ × List ℕ) × Entry → Bool = λ h k. nat_le k.0.0 h && nat_le k.1.ino h in
      let p = and_parts (list_all (fs tree.highest) tree.inodes && list_all (bs tree.highest) tree.blocks) (list_all (es tree.highest) tree.entries) proper.numbers in
      let q = and_parts (list_all (fs tree.highest) tree.inodes) (list_all (bs tree.highest) tree.blocks) p.0 in
      let dir = le_more e.dir (all_at nat_cmp numbers (fs tree.highest) tree.inodes e.dir d q.0 g.dir) in
      and_from (list_all (fs highest) after.inodes && list_all (bs highest) tree.blocks) (list_all (es highest) after.entries)
      (and_from (list_all (fs highest) after.inodes) (list_all (bs highest) tree.blocks)
      (all_inodes (fs highest) number dir (all_weaken (fs tree.highest) (fs highest) (λ k t. le_more k.0 t) tree.inodes q.0))
      (all_weaken (bs tree.highest) (bs highest) (λ k t. le_more k.0.0 t) tree.blocks q.1))
      (all_insert name_cmp named (es highest) tree.entries (e.dir, e.name) e (and_from (nat_le e.dir highest) (nat_le e.ino highest) dir number)
      (all_weaken (es tree.highest) (es highest) (λ k t. let r = and_parts (nat_le k.0.0 tree.highest) (nat_le k.1.ino tree.highest) t in and_from (nat_le k.0.0 highest) (nat_le k.1.ino highest) (le_more k.0.0 r.0) (le_more k.1.ino r.1)) tree.entries p.1))

  pub gained_proper : IsProper (gained tree e new up highest)
  gained_proper = record {
    inodes_ascend = inodes_ascend;
    blocks_ascend = proper.blocks_ascend;
    entries_ascend = insert_ascends name_cmp named tree.entries (e.dir, e.name) e proper.entries_ascend;
    inode_nodes = all_inodes is_inode_node g.new_node g.up_node proper.inode_nodes;
    block_nodes = proper.block_nodes;
    entry_nodes = all_insert name_cmp named is_entry_node tree.entries (e.dir, e.name) e g.entry_node proper.entry_nodes;
    root = keeps 1 Dir proper.root;
    entries = all_entries;
    inodes = all_from nat_cmp numbers (is_sound_inode after) after.inodes inodes_ascend inode_sound;
    linked = all_inodes is_linked g.linked g.up_linked proper.linked;
    numbers = numbered;
  }
