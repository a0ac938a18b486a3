-- The names of a tree, directory by directory in order of hash, set one after another, are the names of the tree.
use Rattle.std.proofs.Common.{◌≡◌, ◌⊎◌, ◌++◌, ℕ, Bool, true, false, cond, not, ◌||◌, List, [], ◌∷◌, refl, sym, ap, subst, ◌∙◌, arith, inl, inr, Option, Some, None}
use Rattle.std.specs.Prelude.{◌==◌}
use Rattle.std.specs.BTreeMap.{insert_entry, is_at}
use Rattle.std.specs.List.{AllByRecursion, list_all, list_any}
use Rattle.std.specs.Map.{keys_of, lookup, values_of}
use Rattle.std.specs.Option.{option_map_or}
use Rattle.std.specs.Ordering.{is_eq, match_ordering, nat_cmp}
use Rattle.std.specs.declared.cmp.Ordering.{Ordering}
use Rattle.std.specs.declared.cmp.Ordering.TheVariants.{Less, Equal, Greater}
use Rattle.std.proofs.lemmas.Bool.{false≢true, and_parts, or_left, or_right}
use Rattle.std.proofs.lemmas.Bool.Decides.{nat_tests}
use Rattle.fs_model.specs.declared.inode.Entry.{Entry}
use Rattle.fs_model.specs.declared.inode.Inode.{Inode}
use Rattle.fs_model.specs.declared.inode.Kind.TheVariants.{Dir}
use Rattle.fs_model.specs.Directory.{by_hash, entries_in}
use Rattle.fs_model.specs.Files.{Entries, Inodes, Tree, inode_at, name_cmp}
use Rattle.fs_model.specs.Proper.{IsProper, ascends, has_kind, is_entry_node, is_sound_entry, same_kind}
use Rattle.fs_laws.specs.Maps.{all_at, apart, found_any, insert_ascends, key_cases, missing_first, set_here, set_other, tail_ascends, values_all}
use Rattle.fs_laws.specs.Orders.{named, numbers}
use Rattle.fs_laws.specs.SameMaps.{same_maps}
use Rattle.tree_nodes.specs.Stored.{hash_and_name}
use Rattle.tree_nodes.proofs.Before.{IsRowOf, all_in, insert_rows, sorted_rows}
use Rattle.tree_nodes.proofs.Changes.{all_append, all_by_hash, all_filter, own_key}
use Rattle.tree_nodes.proofs.Shown.{names_by, set_all}

-- where an entry is kept
abbrev key_of : Entry → ℕ × List ℕ
key_of e = (e.dir, e.name)

-- whether an entry is kept at this key
abbrev is_kept : ℕ × List ℕ → Entry → Bool
is_kept q e = is_at (name_cmp q) (e.dir, e.name)

-- the first of some entries that is kept at a key
abbrev found : ℕ × List ℕ → List Entry → Option Entry
found q [] = None
found q (e ∷ es) = cond (is_kept q e) (Some e) (found q es)

set_ascends : (es : List Entry) → ascends name_cmp (keys_of (set_all es)) ≡ true
set_ascends [] = refl
set_ascends (e ∷ es) = insert_ascends name_cmp named (set_all es) (e.dir, e.name) e (set_ascends es)

at_own : (q : ℕ × List ℕ) (e : Entry) → q ≡ key_of e → is_kept q e ≡ true
at_own q e same = subst (λ k. is_at (name_cmp k) (e.dir, e.name) ≡ true) (sym same) (ap is_eq (named.same (e.dir, e.name)))

set_found : (q : ℕ × List ℕ) (es : List Entry) → lookup (is_at (name_cmp q)) (set_all es) ≡ found q es
set_found q [] = refl
set_found q (e ∷ es) = elim (key_cases name_cmp named q (key_of e)) [
  | inl same ↦
      subst (λ k. lookup (is_at (name_cmp k)) (set_all (e ∷ es)) ≡ Some e) (sym same) (set_here name_cmp named (set_all es) (e.dir, e.name) e)
      ∙ sym (ap (λ b. cond b (Some e) (found q es)) (at_own q e same))
  | inr other ↦
      set_other name_cmp named (set_all es) (e.dir, e.name) e q other ∙ set_found q es
      ∙ sym (ap (λ b. cond b (Some e) (found q es)) (apart name_cmp named q (key_of e) other))
]

-- an entry is found at its own key
abbrev pub IsFoundIn : Entries → Entry → Type 0
IsFoundIn all e = lookup (is_at (name_cmp (e.dir, e.name))) all ≡ Some e

found_own : (all : Entries) (q : ℕ × List ℕ) (es : List Entry) (w : Entry) → AllByRecursion (IsFoundIn all) es → found q es ≡ Some w → lookup (is_at (name_cmp q)) all ≡ Some w
found_own all q [] w h f = absurd cc
found_own all q (e ∷ es) w h f = elim (key_cases name_cmp named q (key_of e)) [
  | inl same ↦
      let it : Some e ≡ Some w = sym (ap (λ b. cond b (Some e) (found q es)) (at_own q e same)) ∙ f in
      subst (λ k. lookup (is_at (name_cmp k)) all ≡ Some e) (sym same) h.0 ∙ it
  | inr other ↦ found_own all q es w h.1 (sym (ap (λ b. cond b (Some e) (found q es)) (apart name_cmp named q (key_of e) other)) ∙ f)
]

found_some : (q : ℕ × List ℕ) (es : List Entry) → list_any (is_kept q) es ≡ true → (w : Entry) × (found q es ≡ Some w)
found_some q [] h = absurd (false≢true h)
found_some q (e ∷ es) h = by (is_kept q e) (found_some q es) h
  where
    by : (b : Bool) → (list_any (is_kept q) es ≡ true → (w : Entry) × (found q es ≡ Some w)) → (b || list_any (is_kept q) es) ≡ true → (w : Entry) × (cond b (Some e) (found q es) ≡ Some w)
    by true more t = (e, refl)
    by false more t = more t

-- ---- each entry of the tree is among those that are set
any_append_left : (p : Entry → Bool) (xs ys : List Entry) → list_any p xs ≡ true → list_any p (xs ++ ys) ≡ true
any_append_left p [] ys h = absurd (false≢true h)
any_append_left p (x ∷ xs) ys h = by (any_append_left p xs ys) (p x) h
  where
    by : (list_any p xs ≡ true → list_any p (xs ++ ys) ≡ true) → (b : Bool) → (b || list_any p xs) ≡ true → (b || list_any p (xs ++ ys)) ≡ true
    by more true t = refl
    by more false t = more t

any_append_right : (p : Entry → Bool) (xs ys : List Entry) → list_any p ys ≡ true → list_any p (xs ++ ys) ≡ true
any_append_right p [] ys h = h
any_append_right p (x ∷ xs) ys h = or_right (p x) (list_any p (xs ++ ys)) (any_append_right p xs ys h)

insert_new : (p : Entry → Bool) (rows : List ((ℕ × List ℕ) × Entry)) (k : ℕ × List ℕ) (e : Entry) → p e ≡ true → list_any p (values_of (insert_entry name_cmp rows k e)) ≡ true
insert_new p [] k e h = or_left (p e) false h
insert_new p (r ∷ rows) k e h = by (insert_new p rows k e h) (name_cmp k r.0)
  where
    by : list_any p (values_of (insert_entry name_cmp rows k e)) ≡ true → (o : Ordering) → list_any p (values_of (match_ordering o ((k, e) ∷ r ∷ rows) ((r.0, e) ∷ rows) (r ∷ insert_entry name_cmp rows k e))) ≡ true
    by more Less = or_left (p e) _ h
    by more Equal = or_left (p e) _ h
    by more Greater = or_right (p r.1) _ more

insert_old : (dir : ℕ) (q : ℕ × List ℕ) (rows : List ((ℕ × List ℕ) × Entry)) (e : Entry) → AllByRecursion (IsRowOf dir) rows → e.dir ≡ dir → list_any (is_kept q) (values_of rows) ≡ true
    → list_any (is_kept q) (values_of (insert_entry name_cmp rows (hash_and_name e) e)) ≡ true
insert_old dir q [] e all d h = absurd (false≢true h)
insert_old dir q (r ∷ rows) e all d h = by (insert_old dir q rows e all.1 d) (name_cmp (hash_and_name e) r.0) refl (is_kept q r.1) refl h
  where
    same : name_cmp (hash_and_name e) r.0 ≡ Equal → key_of r.1 ≡ key_of e
    same x =
        let one : hash_and_name e ≡ hash_and_name r.1 = named.exact (hash_and_name e) r.0 x ∙ all.0.0 in
        let dirs : r.1.dir ≡ e.dir = all.0.1 ∙ sym d in
        ap (λ (n : ℕ). (n, r.1.name)) dirs ∙ ap (λ (k : ℕ × List ℕ). (e.dir, k.1)) (sym one)

    by : (list_any (is_kept q) (values_of rows) ≡ true → list_any (is_kept q) (values_of (insert_entry name_cmp rows (hash_and_name e) e)) ≡ true)
        → (o : Ordering) → name_cmp (hash_and_name e) r.0 ≡ o → (b : Bool) → is_kept q r.1 ≡ b → (b || list_any (is_kept q) (values_of rows)) ≡ true
        → list_any (is_kept q) (values_of (match_ordering o ((hash_and_name e, e) ∷ r ∷ rows) ((r.0, e) ∷ rows) (r ∷ insert_entry name_cmp rows (hash_and_name e) e))) ≡ true
    by more Less x b y t = or_right (is_kept q e) _ (ap (λ z. z || list_any (is_kept q) (values_of rows)) y ∙ t)
    by more Equal x true y t = or_left (is_kept q e) _ (subst (λ k. is_at (name_cmp q) k ≡ true) (same x) y)
    by more Equal x false y t = or_right (is_kept q e) _ t
    by more Greater x true y t = or_left (is_kept q r.1) _ y
    by more Greater x false y t = or_right (is_kept q r.1) _ (more t)

sorted_any : (dir : ℕ) (q : ℕ × List ℕ) (rows : List ((ℕ × List ℕ) × Entry)) (es : List Entry) → AllByRecursion (IsRowOf dir) rows → AllByRecursion (λ (e : Entry). e.dir ≡ dir) es
    → (list_any (is_kept q) (values_of rows) ≡ true) ⊎ (list_any (is_kept q) es ≡ true) → list_any (is_kept q) (values_of (sorted_rows rows es)) ≡ true
sorted_any dir q rows [] all d (inl h) = h
sorted_any dir q rows [] all d (inr h) = absurd (false≢true h)
sorted_any dir q rows (e ∷ es) all d h = sorted_any dir q (insert_entry name_cmp rows (hash_and_name e) e) es (insert_rows dir rows e all d.0) d.1 (next h)
  where
    by : (b : Bool) → is_kept q e ≡ b → (b || list_any (is_kept q) es) ≡ true
        → (list_any (is_kept q) (values_of (insert_entry name_cmp rows (hash_and_name e) e)) ≡ true) ⊎ (list_any (is_kept q) es ≡ true)
    by true x t = inl (insert_new (is_kept q) rows (hash_and_name e) e x)
    by false x t = inr t

    next : (list_any (is_kept q) (values_of rows) ≡ true) ⊎ (list_any (is_kept q) (e ∷ es) ≡ true) → (list_any (is_kept q) (values_of (insert_entry name_cmp rows (hash_and_name e) e)) ≡ true) ⊎ (list_any (is_kept q) es ≡ true)
    next (inl f) = inl (insert_old dir q rows e all d.0 f)
    next (inr f) = by (is_kept q e) refl f

in_directory : (tree : Tree) (dir : ℕ) (q : ℕ × List ℕ) → list_any (is_kept q) (entries_in tree dir) ≡ true → list_any (is_kept q) (by_hash (entries_in tree dir)) ≡ true
in_directory tree dir q h = sorted_any dir q [] (entries_in tree dir) tt (all_in dir (values_of tree.entries)) (inr h)

in_directories : (tree : Tree) (dir : ℕ) (i : Inode) (q : ℕ × List ℕ) (inodes : Inodes) → lookup (is_at (nat_cmp dir)) inodes ≡ Some i → list_any (is_kept q) (by_hash (entries_in tree dir)) ≡ true → list_any (is_kept q) (names_by tree inodes) ≡ true
in_directories tree dir i q [] f h = absurd cc
in_directories tree dir i q (e ∷ inodes) f h = elim (key_cases nat_cmp numbers dir e.0) [
  | inl same ↦ any_append_left (is_kept q) (by_hash (entries_in tree e.0)) (names_by tree inodes) (subst (λ n. list_any (is_kept q) (by_hash (entries_in tree n)) ≡ true) same h)
  | inr other ↦
      let g : lookup (is_at (nat_cmp dir)) inodes ≡ Some i = rw (apart nat_cmp numbers dir e.0 other) at f in
      any_append_right (is_kept q) (by_hash (entries_in tree e.0)) (names_by tree inodes) (in_directories tree dir i q inodes g h)
]

is_there : (tree : Tree) (ino : ℕ) → has_kind tree ino Dir ≡ true → (i : Inode) × (inode_at tree ino ≡ Some i)
is_there tree ino h = by (inode_at tree ino) refl h
  where
    by : (o : Option Inode) → inode_at tree ino ≡ o → option_map_or (λ (inode : Inode). same_kind inode.kind Dir) o false ≡ true → (i : Inode) × (inode_at tree ino ≡ Some i)
    by None e t = absurd (false≢true t)
    by (Some i) e t = (i, e)

listed : (tree : Tree) → IsProper tree → (q : ℕ × List ℕ) (v : Entry) → lookup (is_at (name_cmp q)) tree.entries ≡ Some v → list_any (is_kept q) (names_by tree tree.inodes) ≡ true
listed tree p q v f =
    let own : q ≡ key_of v = own_key (q, v) (all_at name_cmp named is_entry_node tree.entries q v p.entry_nodes f) in
    let sound : is_sound_entry tree v ≡ true = all_at name_cmp named (λ e. is_sound_entry tree e.1) tree.entries q v (sym (values_all (is_sound_entry tree) tree.entries) ∙ p.entries) f in
    let dir : has_kind tree v.dir Dir ≡ true = (and_parts (has_kind tree v.dir Dir) (has_kind tree v.ino v.kind) (and_parts _ (not (v.ino == 1)) sound).0).0 in
    let there = is_there tree v.dir dir in
    let here = found_any name_cmp (λ (e : Entry). e.dir == v.dir) (is_kept q) tree.entries q v f (same v.dir) (at_own q v own) in
    in_directories tree v.dir there.0 q tree.inodes there.1 (in_directory tree v.dir q here)
  where
    same : (n : ℕ) → (n == n) ≡ true
    same n = grind (arith, nat_tests)

-- ---- and each that is set is the tree's
all_mapped : {X : Type 0} (P Q : X → Type 0) → ((x : X) → P x → Q x) → (xs : List X) → AllByRecursion P xs → AllByRecursion Q xs
all_mapped P Q f [] h = tt
all_mapped P Q f (x ∷ xs) h = (f x h.0, all_mapped P Q f xs h.1)

own_found : (es : Entries) → list_all is_entry_node es ≡ true → ascends name_cmp (keys_of es) ≡ true → AllByRecursion (IsFoundIn es) (values_of es)
own_found [] n h = tt
own_found (e ∷ es) n h =
    let parts = and_parts (is_entry_node e) (list_all is_entry_node es) n in
    let first : IsFoundIn (e ∷ es) e.1 = ap (λ b. cond b (Some e.1) (lookup (is_at (name_cmp (key_of e.1))) es)) (subst (λ k. is_at (name_cmp k) e.0 ≡ true) (own_key e parts.0) (ap is_eq (named.same e.0))) in
    (first, all_mapped (IsFoundIn es) (IsFoundIn (e ∷ es)) later (values_of es) (own_found es parts.1 (tail_ascends name_cmp es e h)))
  where
    later : (f : Entry) → IsFoundIn es f → IsFoundIn (e ∷ es) f
    later f is = ap (λ b. cond b (Some e.1) (lookup (is_at (name_cmp (key_of f))) es)) (apart name_cmp named (key_of f) e.0 other) ∙ is
      where
        other : key_of f ≡ e.0 → ⊥
        other same =
            let none = missing_first name_cmp named es e h in
            let some : lookup (is_at (name_cmp e.0)) es ≡ Some f = subst (λ k. lookup (is_at (name_cmp k)) es ≡ Some f) same is in
            absurd cc

-- those of a directory
pub own_names : (tree : Tree) → IsProper tree → (dir : ℕ) → AllByRecursion (IsFoundIn tree.entries) (by_hash (entries_in tree dir))
own_names tree p dir =
    all_by_hash (IsFoundIn tree.entries) (entries_in tree dir)
    (all_filter (IsFoundIn tree.entries) (λ (x : Entry). x.dir == dir) (values_of tree.entries) (own_found tree.entries p.entry_nodes p.entries_ascend))

own_listed : (tree : Tree) → IsProper tree → (inodes : Inodes) → AllByRecursion (IsFoundIn tree.entries) (names_by tree inodes)
own_listed tree p [] = tt
own_listed tree p (e ∷ inodes) = all_append (IsFoundIn tree.entries) (by_hash (entries_in tree e.0)) (names_by tree inodes) (own_names tree p e.0) (own_listed tree p inodes)

-- the names that have nodes are those of the tree
pub names_same : (tree : Tree) → IsProper tree → set_all (names_by tree tree.inodes) ≡ tree.entries
names_same tree p = same_maps name_cmp named (set_all names) tree.entries (set_ascends names) p.entries_ascend (λ q. set_found q names ∙ each q)
  where
    names : List Entry
    names = names_by tree tree.inodes

    own : AllByRecursion (IsFoundIn tree.entries) names
    own = own_listed tree p tree.inodes

    each : (q : ℕ × List ℕ) → found q names ≡ lookup (is_at (name_cmp q)) tree.entries
    each q = by (found q names) refl (lookup (is_at (name_cmp q)) tree.entries) refl
      where
        by : (o : Option Entry) → found q names ≡ o → (l : Option Entry) → lookup (is_at (name_cmp q)) tree.entries ≡ l → found q names ≡ lookup (is_at (name_cmp q)) tree.entries
        by (Some w) e l f = e ∙ sym (found_own tree.entries q names w own e)
        by None e None f = e ∙ sym f
        by None e (Some v) f = let some = found_some q names (listed tree p q v f) in absurd (apart_of some.0 (sym e ∙ some.1))
          where
            apart_of : (w : Entry) → None ≡ Some w → ⊥
            apart_of w same = absurd cc
