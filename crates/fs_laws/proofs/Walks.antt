-- Where paths lead: to the root, or to an entry of the tree at its own place.
use Rattle.std.proofs.Common.{◌≡◌, ℕ, ◌⊎◌, Bool, true, false, cond, not, ◌&&◌, List, [], ◌∷◌, Some, Ok, Err, refl, sym, ap, subst, ◌∙◌, inl, inr}
use Rattle.std.specs.Prelude.{◌==◌, Option, None, Result}
use Rattle.std.specs.Ordering.{nat_cmp, is_eq}
use Rattle.std.specs.Cmp.Lexicographic.{slice_cmp}
use Rattle.std.specs.declared.cmp.Ordering.{Ordering}
use Rattle.std.specs.declared.cmp.Ordering.TheVariants.{Less, Equal, Greater}
use Rattle.std.proofs.lemmas.Bool.{false≢true, and_parts, eqb-true}
use Rattle.std.proofs.lemmas.Map.Lookups.{exact_bytes}
use Rattle.fs_model.specs.declared.inode.Entry.{Entry}
use Rattle.fs_model.specs.declared.inode.Kind.{Kind}
use Rattle.fs_model.specs.declared.inode.Kind.TheVariants.{Dir}
use Rattle.fs_model.specs.declared.refusal.Refusal.{Refusal}
use Rattle.fs_model.specs.declared.refusal.Refusal.TheVariants.{Enotdir}
use Rattle.fs_model.specs.Files.{Tree, Entries, entry_at, name_cmp}
use Rattle.fs_model.specs.Path.{root_entry, reached, child, or_missing, only_dir, walked, parent_of, components, front_of, is_dir, is_root, is_path, is_same_name, is_empty}
use Rattle.fs_model.specs.Making.{is_name_path}
use Rattle.fs_model.specs.Proper.{is_entry_node, is_name, are_words}
use Rattle.fs_laws.proofs.Local.{IsLocal}
use Rattle.fs_laws.specs.Maps.{all_at}
use Rattle.fs_laws.specs.Orders.{named}
use Rattle.fs_laws.proofs.Rel.{Rel, entry_in, kind_is}

is_equal : (o : Ordering) → is_eq o ≡ true → o ≡ Equal
is_equal Less h = absurd (false≢true h)
is_equal Equal h = refl
is_equal Greater h = absurd (false≢true h)

-- the parts of the test of an entry
pub record EntryNode (place : ℕ × List ℕ) (e : Entry) : Type 0 where
  pub key : place ≡ (e.dir, e.name)
  pub name : is_name e.name ≡ true
  pub words : are_words (e.dir ∷ e.ino ∷ []) ≡ true

pair_of : (key : ℕ × List ℕ) (dir : ℕ) (name : List ℕ) → key.0 ≡ dir → key.1 ≡ name → key ≡ (dir, name)
pair_of key dir name a b = ap (λ (x : ℕ). (x, key.1)) a ∙ ap (λ (y : List ℕ). (dir, y)) b

pub entry_node_of : (k : ℕ × List ℕ) (e : Entry) → is_entry_node (k, e) ≡ true → EntryNode k e
entry_node_of k e node =
    let most = and_parts ((k.0 == e.dir) && is_same_name k.1 e.name && is_name e.name) (are_words (e.dir ∷ e.ino ∷ [])) node in
    let both = and_parts ((k.0 == e.dir) && is_same_name k.1 e.name) (is_name e.name) most.0 in
    let parts = and_parts (k.0 == e.dir) (is_same_name k.1 e.name) both.0 in
    record {
      key = pair_of k e.dir e.name (eqb-true k.0 e.dir parts.0) (exact_bytes k.1 e.name (is_equal (slice_cmp nat_cmp k.1 e.name) parts.1));
      name = both.1;
      words = most.1;
    }

-- an entry of the tree, at its own directory and name
abbrev pub IsIn : Entries → Entry → Type 0
IsIn entries e = entry_in entries (e.dir, e.name) ≡ Some e

pub is_in : (tree : Tree) → IsLocal tree → (key : ℕ × List ℕ) (e : Entry) → entry_in tree.entries key ≡ Some e → IsIn tree.entries e
is_in tree local key e f =
    let node = entry_node_of key e (all_at name_cmp named is_entry_node tree.entries key e local.entry_nodes f) in
    subst (λ k. entry_in tree.entries k ≡ Some e) node.key f

-- the root, or an entry of the tree
abbrev pub IsPlaced : Entries → Entry → Type 0
IsPlaced entries e = (e ≡ root_entry) ⊎ IsIn entries e

child_in : (tree : Tree) → IsLocal tree → (name : List ℕ) (start : Result Entry Refusal) (a : Entry) → child tree name start ≡ Ok a → IsIn tree.entries a
child_in tree local name (Err e) a h = absurd cc
child_in tree local name (Ok s) a h = by (is_dir s.kind) (entry_at tree s.ino name) refl h
  where
    by : (d : Bool) (o : Option Entry) → entry_at tree s.ino name ≡ o → cond d (or_missing o) (Err Enotdir) ≡ Ok a → IsIn tree.entries a
    by false o f g = absurd cc
    by true None f g = absurd cc
    by true (Some x) f g = let is : x ≡ a = cc g in is_in tree local (s.ino, name) a (f ∙ ap Some is)

reached_in : (tree : Tree) → IsLocal tree → (parts : List (List ℕ)) (start : Result Entry Refusal) (at : Entry) → ((a : Entry) → start ≡ Ok a → IsIn tree.entries a) → reached tree start parts ≡ Ok at → IsIn tree.entries at
reached_in tree local [] start at first h = first at h
reached_in tree local (name ∷ parts) start at first h = reached_in tree local parts (child tree name start) at (λ a g. child_in tree local name start a g) h

pub reached_placed : (tree : Tree) → IsLocal tree → (parts : List (List ℕ)) (at : Entry) → reached tree (Ok root_entry) parts ≡ Ok at → IsPlaced tree.entries at
reached_placed tree local [] at h = inl (cc h)
reached_placed tree local (name ∷ parts) at h = inr (reached_in tree local parts (child tree name (Ok root_entry)) at (λ a g. child_in tree local name (Ok root_entry) a g) h)

pub placed_kind : (tree : Tree) → Rel tree.inodes tree.entries → (at : Entry) → IsPlaced tree.entries at → kind_is tree.inodes at.ino at.kind ≡ true
placed_kind tree rel at (inl is) = rw is rel.root
placed_kind tree rel at (inr here) = (rel.entry (at.dir, at.name) at here).ino

pub not_root : (path : List ℕ) → not (is_name_path path) ≡ false → is_root path ≡ false
not_root path g = turn (is_path path) (is_root path) g
  where
    turn : (a b : Bool) → not (a && not b) ≡ false → b ≡ false
    turn true true t = t
    turn true false t = refl
    turn false true t = t
    turn false false t = refl

-- a path of a name leads to an entry of the tree
pub walked_in : (tree : Tree) → IsLocal tree → (path : List ℕ) (at : Entry) → not (is_name_path path) ≡ false → walked tree path ≡ Ok at → IsIn tree.entries at
walked_in tree local path at good h = by (components path) (not_root path good) h
  where
    by : (parts : List (List ℕ)) → is_empty parts ≡ false → reached tree (Ok root_entry) parts ≡ Ok at → IsIn tree.entries at
    by [] e g = absurd (false≢true (sym e))
    by (name ∷ parts) e g = reached_in tree local parts (child tree name (Ok root_entry)) at (λ a f. child_in tree local name (Ok root_entry) a f) g

pub dir_eq : (kind : Kind) → is_dir kind ≡ true → kind ≡ Dir
dir_eq Dir h = refl
dir_eq kind h = absurd (false≢true h)

-- the directory of a path's last component
pub parent_in : (tree : Tree) → IsLocal tree → Rel tree.inodes tree.entries → (path : List ℕ) (at : Entry) → parent_of tree path ≡ Ok at → kind_is tree.inodes at.ino Dir ≡ true
parent_in tree local rel path at h = by (reached tree (Ok root_entry) (front_of (components path))) refl h
  where
    found : (a : Entry) → reached tree (Ok root_entry) (front_of (components path)) ≡ Ok a → is_dir a.kind ≡ true → kind_is tree.inodes a.ino Dir ≡ true
    found a f d = subst (λ k. kind_is tree.inodes a.ino k ≡ true) (dir_eq a.kind d) (placed_kind tree rel a (reached_placed tree local (front_of (components path)) a f))

    test : (a : Entry) → reached tree (Ok root_entry) (front_of (components path)) ≡ Ok a → (d : Bool) → is_dir a.kind ≡ d → cond d (Ok a) (Err Enotdir) ≡ Ok at → kind_is tree.inodes at.ino Dir ≡ true
    test a f true d g = let is : a ≡ at = cc g in subst (λ x. kind_is tree.inodes x.ino Dir ≡ true) is (found a f d)
    test a f false d g = absurd cc

    by : (r : Result Entry Refusal) → reached tree (Ok root_entry) (front_of (components path)) ≡ r → only_dir r ≡ Ok at → kind_is tree.inodes at.ino Dir ≡ true
    by (Err e) f g = absurd cc
    by (Ok a) f g = test a f (is_dir a.kind) refl g
