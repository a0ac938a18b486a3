-- A tree hangs together as its nodes say it, if it is proper and no inode has lost its last name.
use Rattle.std.proofs.Common.{◌≡◌, ℕ, zero, suc, Bool, true, false, cond, not, ◌&&◌, ◌||◌, List, [], ◌∷◌, length, map, refl, sym, ap, ◌∙◌, arith, Option, Some}
use Rattle.std.specs.Prelude.{◌==◌, nat_lt, filter}
use Rattle.std.specs.BTreeMap.{is_at}
use Rattle.std.specs.List.{AllByRecursion, list_all, list_any}
use Rattle.std.specs.Map.{keys_of, lookup}
use Rattle.std.specs.Option.{option_map_or}
use Rattle.std.specs.Ordering.{nat_cmp}
use Rattle.std.proofs.lemmas.Bool.{and_from, and_parts}
use Rattle.std.proofs.lemmas.Bool.Decides.{nat_tests}
use Rattle.fs_model.specs.declared.change.Change.{Change}
use Rattle.fs_model.specs.declared.change.Change.TheVariants.{SetEntry}
use Rattle.fs_model.specs.declared.inode.Entry.{Entry}
use Rattle.fs_model.specs.declared.inode.Inode.{Inode}
use Rattle.fs_model.specs.declared.inode.Kind.{Kind}
use Rattle.fs_model.specs.declared.inode.Kind.TheVariants.{Dir}
use Rattle.fs_model.specs.Files.{Inodes, Tree, name_cmp}
use Rattle.fs_model.specs.Orphan.{nameless}
use Rattle.fs_model.specs.Path.{is_dir}
use Rattle.fs_model.specs.Proper.{IsProper, climbs, has_kind, is_sound_dir, is_sound_entry, is_sound_inode, names_of, same_kind}
use Rattle.fs_laws.specs.Maps.{all_at, values_all}
use Rattle.fs_laws.specs.Orders.{named}
use Rattle.leaf_map.specs.Kept.{Placed, kept_at, shown, shown_by}
use Rattle.leaf_map.specs.LeafMap.{IsLeafMap}
use Rattle.sound_image.specs.Tree.{has_its_links, is_in_place, is_named_well}
use Rattle.laid_image.specs.Laid.{ShowTree}
use Rattle.tree_nodes.specs.Stored.{IsLiveLeaf, as_stored, stored_tree}

found_kind : (tree : Tree) (ino : ℕ) (kind : Kind) (inodes : Inodes)
    → option_map_or (λ (i : Inode). same_kind i.kind kind) (lookup (is_at (nat_cmp ino)) (map (as_stored tree) inodes)) false ≡ option_map_or (λ (i : Inode). same_kind i.kind kind) (lookup (is_at (nat_cmp ino)) inodes) false
found_kind tree ino kind [] = refl
found_kind tree ino kind (e ∷ inodes) = by (found_kind tree ino kind inodes) (is_at (nat_cmp ino) e.0)
  where
    by : option_map_or (λ (i : Inode). same_kind i.kind kind) (lookup (is_at (nat_cmp ino)) (map (as_stored tree) inodes)) false ≡ option_map_or (λ (i : Inode). same_kind i.kind kind) (lookup (is_at (nat_cmp ino)) inodes) false
        → (b : Bool) → option_map_or (λ (i : Inode). same_kind i.kind kind) (cond b (Some (as_stored tree e).1) (lookup (is_at (nat_cmp ino)) (map (as_stored tree) inodes))) false
        ≡ option_map_or (λ (i : Inode). same_kind i.kind kind) (cond b (Some e.1) (lookup (is_at (nat_cmp ino)) inodes)) false
    by more true = refl
    by more false = more

kind_same : (tree : Tree) (ino : ℕ) (kind : Kind) → has_kind (stored_tree tree) ino kind ≡ has_kind tree ino kind
kind_same tree ino kind = found_kind tree ino kind tree.inodes

any_same : (p q : Entry → Bool) → ((e : Entry) → p e ≡ q e) → (es : List Entry) → list_any p es ≡ list_any q es
any_same p q h [] = refl
any_same p q h (e ∷ es) = ap (λ (b : Bool). b || list_any p es) (h e) ∙ ap (λ (b : Bool). q e || b) (any_same p q h es)

climbs_same : (tree : Tree) (n ino : ℕ) → climbs (stored_tree tree) n ino ≡ climbs tree n ino
climbs_same tree zero ino = refl
climbs_same tree (suc n) ino = ap (λ (b : Bool). (ino == 1) || b) (any_same (λ e. climbs (stored_tree tree) n e.dir) (λ e. climbs tree n e.dir) (λ e. climbs_same tree n e.dir) (names_of tree ino))

as_many : (tree : Tree) (inodes : Inodes) → length (map (as_stored tree) inodes) ≡ length inodes
as_many tree [] = refl
as_many tree (e ∷ inodes) = ap suc (as_many tree inodes)

dir_same : (tree : Tree) (ino : ℕ) → is_sound_dir (stored_tree tree) ino ≡ is_sound_dir tree ino
dir_same tree ino =
    ap (λ (b : Bool). (ino == 1) || ((length (names_of tree ino) == 1) && b)) (climbs_same tree (length (map (as_stored tree) tree.inodes)) ino ∙ ap (λ n. climbs tree n ino) (as_many tree tree.inodes))

entry_same : (tree : Tree) (e : Entry) → is_sound_entry (stored_tree tree) e ≡ is_sound_entry tree e
entry_same tree e =
    ap (λ (b : Bool). (b && has_kind (stored_tree tree) e.ino e.kind) && not (e.ino == 1)) (kind_same tree e.dir Dir) ∙ ap (λ (b : Bool). (has_kind tree e.dir Dir && b) && not (e.ino == 1)) (kind_same tree e.ino e.kind)

-- ---- names
named_well : (tree : Tree) → IsProper tree → (x : Placed) → IsLiveLeaf tree x → is_named_well (stored_tree tree) (shown x.node) ≡ true
named_well tree p x live = by (shown x.node) refl
  where
    by : (o : Option Change) → shown x.node ≡ o → is_named_well (stored_tree tree) o ≡ true
    by (Some (SetEntry e)) f = entry_same tree e ∙ all_at name_cmp named (λ k. is_sound_entry tree k.1) tree.entries (e.dir, e.name) e (sym (values_all (is_sound_entry tree) tree.entries) ∙ p.entries) (live.named e f)
    by o f = refl

all_named : (tree : Tree) → IsProper tree → (nodes : List Placed) → AllByRecursion (IsLiveLeaf tree) nodes → list_all (λ x. is_named_well (stored_tree tree) (shown_by x)) (map kept_at nodes) ≡ true
all_named tree p [] h = refl
all_named tree p (x ∷ nodes) h = and_from (is_named_well (stored_tree tree) (shown x.node)) (list_all (λ x. is_named_well (stored_tree tree) (shown_by x)) (map kept_at nodes)) (named_well tree p x h.0) (all_named tree p nodes h.1)

-- ---- directories and links
in_place : (tree : Tree) (e : ℕ × Inode) → is_sound_inode tree e ≡ true → is_in_place (stored_tree tree) (as_stored tree e) ≡ true
in_place tree e h = by (is_dir e.1.kind) refl h
  where
    by : (b : Bool) → is_dir e.1.kind ≡ b → cond b (is_sound_dir tree e.0) (e.1.nlink == length (names_of tree e.0)) ≡ true → is_in_place (stored_tree tree) (as_stored tree e) ≡ true
    by true x t = ap (λ (b : Bool). not b || is_sound_dir (stored_tree tree) e.0) x ∙ dir_same tree e.0 ∙ t
    by false x t = ap (λ (b : Bool). not b || is_sound_dir (stored_tree tree) e.0) x

all_in_place : (tree : Tree) (inodes : Inodes) → list_all (is_sound_inode tree) inodes ≡ true → list_all (is_in_place (stored_tree tree)) (map (as_stored tree) inodes) ≡ true
all_in_place tree [] h = refl
all_in_place tree (e ∷ inodes) h =
    let parts = and_parts (is_sound_inode tree e) (list_all (is_sound_inode tree) inodes) h in
    and_from (is_in_place (stored_tree tree) (as_stored tree e)) (list_all (is_in_place (stored_tree tree)) (map (as_stored tree) inodes)) (in_place tree e parts.0) (all_in_place tree inodes parts.1)

some_links : (n : ℕ) → (n == 0) ≡ false → nat_lt 0 n ≡ true
some_links n h = grind (arith, nat_tests)

its_links : (tree : Tree) (e : ℕ × Inode) → is_sound_inode tree e ≡ true → (e.1.nlink == 0) ≡ false → has_its_links (stored_tree tree) (as_stored tree e) ≡ true
its_links tree e h some = by (is_dir e.1.kind) refl h
  where
    by : (b : Bool) → is_dir e.1.kind ≡ b → cond b (is_sound_dir tree e.0) (e.1.nlink == length (names_of tree e.0)) ≡ true → has_its_links (stored_tree tree) (as_stored tree e) ≡ true
    by true x t = rw x refl
    by false x t = rw x (and_from (nat_lt 0 e.1.nlink) (e.1.nlink == length (names_of tree e.0)) (some_links e.1.nlink some) t)

all_links : (tree : Tree) (inodes : Inodes) → list_all (is_sound_inode tree) inodes ≡ true → keys_of (filter (λ e. e.1.nlink == 0) inodes) ≡ [] → list_all (has_its_links (stored_tree tree)) (map (as_stored tree) inodes) ≡ true
all_links tree [] h none = refl
all_links tree (e ∷ inodes) h none = by (all_links tree inodes parts.1) (e.1.nlink == 0) refl none
  where
    parts : (is_sound_inode tree e ≡ true) × (list_all (is_sound_inode tree) inodes ≡ true)
    parts = and_parts (is_sound_inode tree e) (list_all (is_sound_inode tree) inodes) h

    by : (keys_of (filter (λ e. e.1.nlink == 0) inodes) ≡ [] → list_all (has_its_links (stored_tree tree)) (map (as_stored tree) inodes) ≡ true)
        → (b : Bool) → (e.1.nlink == 0) ≡ b → keys_of (cond b (e ∷ filter (λ e. e.1.nlink == 0) inodes) (filter (λ e. e.1.nlink == 0) inodes)) ≡ []
        → list_all (has_its_links (stored_tree tree)) (map (as_stored tree) (e ∷ inodes)) ≡ true
    by more true x z = absurd cc
    by more false x z = and_from (has_its_links (stored_tree tree) (as_stored tree e)) (list_all (has_its_links (stored_tree tree)) (map (as_stored tree) inodes)) (its_links tree e parts.0 x) (more z)

-- the leaves of an index that show a proper tree without nameless inodes
pub hangs_together : (tree : Tree) (nodes : List Placed) → IsProper tree → nameless tree ≡ [] → IsLeafMap (map kept_at nodes) → AllByRecursion (IsLiveLeaf tree) nodes → ShowTree (map kept_at nodes) (stored_tree tree)
hangs_together tree nodes p none kept live = record {
  apart = kept.apart;
  root = kind_same tree 1 Dir ∙ p.root;
  entries = all_named tree p nodes live;
  dirs = all_in_place tree tree.inodes p.inodes;
  links = all_links tree tree.inodes p.inodes none;
}
