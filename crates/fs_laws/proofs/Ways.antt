-- The way from the root down to an entry: a directory has one, so that what isn't under its path isn't under it.
use Rattle.std.proofs.Common.{◌≡◌, ℕ, suc, ◌⊎◌, Bool, true, false, cond, not, List, [], ◌∷◌, ◌++◌, Some, Ok, Err, refl, sym, ap, subst, ◌∙◌, append_assoc, arith, inl, inr}
use Rattle.std.specs.Prelude.{◌==◌, Option, None, Result, reverse}
use Rattle.std.specs.Ordering.{nat_cmp}
use Rattle.std.proofs.lemmas.Bool.{false≢true, and_from, eq-eqb}
use Rattle.std.proofs.lemmas.Grind.{reverse_onto}
use Rattle.std.proofs.lemmas.List.{append-nil, reverse-append, reverse-reverse}
use Rattle.fs_model.specs.declared.inode.Entry.{Entry}
use Rattle.fs_model.specs.declared.inode.Kind.TheVariants.{Dir}
use Rattle.fs_model.specs.declared.refusal.Refusal.{Refusal}
use Rattle.fs_model.specs.declared.refusal.Refusal.TheVariants.{Enotdir}
use Rattle.fs_model.specs.Files.{Tree, Inodes, Entries, entry_at, name_cmp}
use Rattle.fs_model.specs.Making.{is_name_path}
use Rattle.fs_model.specs.Path.{root_entry, reached, child, or_missing, only_dir, walked, parent_of, components, front_of, last_of, is_dir, is_empty, is_same_name}
use Rattle.fs_model.specs.Proper.{is_entry_node}
use Rattle.fs_model.specs.Rename.{is_under}
use Rattle.fs_laws.proofs.InodeKinds.{dir_is}
use Rattle.fs_laws.proofs.Local.{IsLocal}
use Rattle.fs_laws.proofs.Losses.{without, names_less_here}
use Rattle.fs_laws.specs.Maps.{all_at, count_found, key_cases, removed_other}
use Rattle.fs_laws.proofs.Moves.{IsNot}
use Rattle.fs_laws.specs.Orders.{numbers, named, bytes_same}
use Rattle.fs_laws.proofs.Rel.{Rel, Up, Reaches, there_of, entry_in, kind_is, names}
use Rattle.fs_laws.proofs.Steps.{some_same}
use Rattle.fs_laws.proofs.Walks.{IsIn, entry_node_of, is_in, not_root}

-- an entry of this name, in a directory that another one names
pub record Below (entries : Entries) (name : List ℕ) (at : Entry) : Type 0 where
  pub named : at.name ≡ name
  pub here : IsIn entries at
  pub up : Entry
  pub place : up.ino ≡ at.dir

-- names lead from the root to an entry, the last name first
abbrev pub Leads : Entries → List (List ℕ) → Entry → Type 0
Leads entries [] at = at ≡ root_entry
Leads entries (name ∷ names) at = (below : Below entries name at) × Leads entries names below.up

child_leads : (tree : Tree) → IsLocal tree → (name : List ℕ) (back : List (List ℕ)) (s a : Entry) → Leads tree.entries back s → child tree name (Ok s) ≡ Ok a → Leads tree.entries (name ∷ back) a
child_leads tree local name back s a leads h = by (is_dir s.kind) (entry_at tree s.ino name) refl h
  where
    by : (d : Bool) (o : Option Entry) → entry_at tree s.ino name ≡ o → cond d (or_missing o) (Err Enotdir) ≡ Ok a → Leads tree.entries (name ∷ back) a
    by false o f g = absurd cc
    by true None f g = absurd cc
    by true (Some x) f g =
        let is : x ≡ a = cc g in
        let found : entry_in tree.entries (s.ino, name) ≡ Some a = f ∙ ap Some is in
        let node = entry_node_of (s.ino, name) a (all_at name_cmp named is_entry_node tree.entries (s.ino, name) a local.entry_nodes found) in
        (record { named = sym (ap (λ (k : ℕ × List ℕ). k.1) node.key); here = is_in tree local (s.ino, name) a found; up = s; place = ap (λ (k : ℕ × List ℕ). k.0) node.key }, leads)

reached_leads : (tree : Tree) → IsLocal tree → (parts back : List (List ℕ)) (start : Result Entry Refusal) (at : Entry) → ((s : Entry) → start ≡ Ok s → Leads tree.entries back s) → reached tree start parts ≡ Ok at → Leads tree.entries (reverse parts ++ back) at
reached_leads tree local [] back start at first h = first at h
reached_leads tree local (name ∷ parts) back start at first h =
    let more = reached_leads tree local parts (name ∷ back) (child tree name start) at (λ a g. by start first a g) h in
    subst (λ ns. Leads tree.entries ns at) (sym (ap (λ x. x ++ back) (reverse_onto parts name []) ∙ append_assoc (reverse parts) (name ∷ []) back)) more
  where
    by : (start : Result Entry Refusal) → ((s : Entry) → start ≡ Ok s → Leads tree.entries back s) → (a : Entry) → child tree name start ≡ Ok a → Leads tree.entries (name ∷ back) a
    by (Err e) first a g = absurd cc
    by (Ok s) first a g = child_leads tree local name back s a (first s refl) g

root_leads : (tree : Tree) → IsLocal tree → (parts : List (List ℕ)) (at : Entry) → reached tree (Ok root_entry) parts ≡ Ok at → Leads tree.entries (reverse parts) at
root_leads tree local parts at h =
    let all = reached_leads tree local parts [] (Ok root_entry) at (λ s f. let is : root_entry ≡ s = cc f in sym is) h in
    subst (λ ns. Leads tree.entries ns at) (append-nil (reverse parts)) all

parent_leads : (tree : Tree) → IsLocal tree → (path : List ℕ) (at : Entry) → parent_of tree path ≡ Ok at → Leads tree.entries (reverse (front_of (components path))) at
parent_leads tree local path at h = by (reached tree (Ok root_entry) (front_of (components path))) refl h
  where
    test : (a : Entry) → reached tree (Ok root_entry) (front_of (components path)) ≡ Ok a → (d : Bool) → cond d (Ok a) (Err Enotdir) ≡ Ok at → Leads tree.entries (reverse (front_of (components path))) at
    test a f true g = let is : a ≡ at = cc g in root_leads tree local (front_of (components path)) at (f ∙ ap Ok is)
    test a f false g = absurd cc

    by : (r : Result Entry Refusal) → reached tree (Ok root_entry) (front_of (components path)) ≡ r → only_dir r ≡ Ok at → Leads tree.entries (reverse (front_of (components path))) at
    by (Err e) f g = absurd cc
    by (Ok a) f g = test a f (is_dir a.kind) g

-- an inode of one name is named by one entry
only_entry : (entries : Entries) (a b : Entry) → IsIn entries a → IsIn entries b → a.ino ≡ b.ino → names entries a.ino ≡ 1 → a ≡ b
only_entry entries a b ha hb same one = elim (key_cases name_cmp named (b.dir, b.name) (a.dir, a.name)) [
  | inl here ↦ some_same (sym ha ∙ subst (λ k. entry_in entries k ≡ Some b) here hb)
  | inr other ↦
      let left : entry_in (without entries a) (b.dir, b.name) ≡ Some b = removed_other name_cmp named entries (a.dir, a.name) (b.dir, b.name) other ∙ hb in
      let some = count_found name_cmp (λ (x : Entry). x.ino == a.ino) (without entries a) (b.dir, b.name) b left (eq-eqb b.ino a.ino (sym same)) in
      let less = names_less_here entries a ha in
      absurd (omega (arith, some, less, one))
]

-- no two ways lead to a directory
one_way : (inodes : Inodes) (entries : Entries) → Rel inodes entries → (r s : List (List ℕ)) (a b : Entry) → Leads entries r a → Leads entries s b → a.ino ≡ b.ino → kind_is inodes a.ino Dir ≡ true → r ≡ s
one_way inodes entries rel [] [] a b la lb same dir = refl
one_way inodes entries rel [] (m ∷ s) a b la lb same dir = absurd ((rel.entry (b.dir, b.name) b lb.0.here).root (sym same ∙ ap (λ (e : Entry). e.ino) la))
one_way inodes entries rel (n ∷ r) [] a b la lb same dir = absurd ((rel.entry (a.dir, a.name) a la.0.here).root (same ∙ ap (λ (e : Entry). e.ino) lb))
one_way inodes entries rel (n ∷ r) (m ∷ s) a b la lb same dir =
    let sound = rel.entry (a.dir, a.name) a la.0.here in
    let it = there_of inodes a.ino Dir dir in
    let is = only_entry entries a b la.0.here lb.0.here same ((rel.inode a.ino it.inode it.found).one (dir_is it.inode.kind it.same) sound.root) in
    let name : n ≡ m = sym la.0.named ∙ ap (λ (e : Entry). e.name) is ∙ lb.0.named in
    let place : la.0.up.ino ≡ lb.0.up.ino = la.0.place ∙ ap (λ (e : Entry). e.dir) is ∙ sym lb.0.place in
    let rest = one_way inodes entries rel r s la.0.up lb.0.up la.1 lb.1 place (subst (λ x. kind_is inodes x Dir ≡ true) (sym la.0.place) sound.dir) in
    ap (λ x. x ∷ r) name ∙ ap (λ y. m ∷ y) rest

-- a way that goes through this inode
record Meets (entries : Entries) (ino : ℕ) (way : List (List ℕ)) : Type 0 where
  pub below : List (List ℕ)
  pub above : List (List ℕ)
  pub parts : way ≡ below ++ above
  pub entry : Entry
  pub leads : Leads entries above entry
  pub is : entry.ino ≡ ino

avoids : (entries : Entries) (gone : ℕ) (way : List (List ℕ)) (at : Entry) → Leads entries way at → Reaches (IsNot gone) entries at.ino ⊎ Meets entries gone way
avoids entries gone [] at leads = inl (0, ap (λ (e : Entry). e.ino) leads)
avoids entries gone (name ∷ way) at leads = elim (key_cases nat_cmp numbers at.ino gone) [
  | inl same ↦ inr (record { below = []; above = name ∷ way; parts = refl; entry = at; leads = leads; is = same })
  | inr other ↦ elim (avoids entries gone way leads.0.up leads.1) [
    | inl up ↦ inl (suc up.0, inr (record { key = (at.dir, at.name); entry = at; found = leads.0.here; named = refl; allowed = other }, subst (λ x. Up (IsNot gone) entries up.0 x) leads.0.place up.1))
    | inr m ↦ inr (record { below = name ∷ m.below; above = m.above; parts = ap (λ x. name ∷ x) m.parts; entry = m.entry; leads = m.leads; is = m.is })
  ]
]

under_it : (old rest : List (List ℕ)) (last : List ℕ) → is_under old ((old ++ rest) ++ last ∷ []) ≡ true
under_it [] [] last = refl
under_it [] (x ∷ rest) last = refl
under_it (name ∷ old) rest last =
    let same : is_same_name name name ≡ true = rw (bytes_same name) refl in
    and_from (is_same_name name name) (is_under old ((old ++ rest) ++ last ∷ [])) same (under_it old rest last)

front_and_last : (parts : List (List ℕ)) → is_empty parts ≡ false → parts ≡ front_of parts ++ last_of parts ∷ []
front_and_last [] h = absurd (false≢true (sym h))
front_and_last (x ∷ []) h = refl
front_and_last (x ∷ y ∷ rest) h = ap (λ xs. x ∷ xs) (front_and_last (y ∷ rest) refl)

-- the directory of a path that isn't under another directory's is reached past that one
pub reaches_apart : (tree : Tree) → IsLocal tree → Rel tree.inodes tree.entries → (old new : List ℕ) (from parent : Entry) → not (is_name_path new) ≡ false → walked tree old ≡ Ok from → parent_of tree new ≡ Ok parent → is_under (components old) (components new) ≡ false → kind_is tree.inodes from.ino Dir ≡ true
    → Reaches (IsNot from.ino) tree.entries parent.ino
reaches_apart tree local rel old new from parent good at up apart dir = elim (avoids tree.entries from.ino (reverse (front_of (components new))) parent (parent_leads tree local new parent up)) [
  | inl reaches ↦ reaches
  | inr m ↦
      let parts : List (List ℕ) = components old in
      let front : List (List ℕ) = front_of (components new) in
      let last : List ℕ = last_of (components new) in
      let above : m.above ≡ reverse parts = one_way tree.inodes tree.entries rel m.above (reverse parts) m.entry from m.leads (root_leads tree local parts from at) m.is (subst (λ x. kind_is tree.inodes x Dir ≡ true) (sym m.is) dir) in
      let back : reverse front ≡ m.below ++ reverse parts = m.parts ∙ ap (λ x. m.below ++ x) above in
      let begins : front ≡ parts ++ reverse m.below = sym (reverse-reverse front) ∙ ap reverse back ∙ reverse-append m.below (reverse parts) ∙ ap (λ x. x ++ reverse m.below) (reverse-reverse parts) in
      let whole : components new ≡ (parts ++ reverse m.below) ++ last ∷ [] = front_and_last (components new) (not_root new good) ∙ ap (λ x. x ++ last ∷ []) begins in
      let under : is_under parts (components new) ≡ true = ap (λ x. is_under parts x) whole ∙ under_it parts (reverse m.below) last in
      absurd (false≢true (sym apart ∙ under))
]
