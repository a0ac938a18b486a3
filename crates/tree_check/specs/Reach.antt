-- What is reached from the root.
use Rattle.std.specs.Prelude.{◌≡◌, ℕ, zero, suc, ◌==◌, ◌||◌, Bool, true, List, [], ◌∷◌, ◌++◌, cond, filter, map, is_some, Option, Some, None}
use Rattle.std.specs.List.{AllByRecursion, list_any}
use Rattle.std.specs.BTreeMap.{BTreeMap, get, is_at}
use Rattle.std.specs.Ordering.{nat_cmp}
use Rattle.std.specs.declared.alloc.Global.{Global}
use Rattle.std.specs.declared.vec.Vec.{Vec}
use Rattle.tree_check.specs.declared.link.Link.{Link}

-- whether a number is among some
abbrev pub mem : ℕ → List ℕ → Bool
mem q numbers = list_any (λ n. n == q) numbers

-- whether a number is in a set
abbrev pub has : BTreeMap ℕ Bool → ℕ → Bool
has set q = is_some (get nat_cmp set q)

-- what the entries of a directory lead to
abbrev pub inodes_below : List Link → ℕ → List ℕ
inodes_below links d = map (λ link. link.ino) (filter (λ link. link.dir == d) links)

-- whether so many steps down from the root lead to a number, or fewer
abbrev pub reaches : List Link → ℕ → ℕ → Bool
reaches links zero q = q == 1
reaches links (suc steps) q = (q == 1) || list_any (λ link. reaches links steps link.dir) (filter (λ link. link.ino == q) links)

-- whether this is the root, or one of some directories leads to it
abbrev pub is_reached : List Link → (ℕ → Bool) → ℕ → Bool
is_reached links dirs q = (q == 1) || list_any (λ link. dirs link.dir) (filter (λ link. link.ino == q) links)

-- the directory of each of these links is among some numbers
abbrev pub AreDirsAmong : List ℕ → List Link → Type 0
AreDirsAmong dirs links = AllByRecursion (λ link. mem link.dir dirs ≡ true) links

-- inodes by directory
abbrev pub Children : Type 0
Children = BTreeMap ℕ (Vec ℕ Global)

-- the inodes of a directory
abbrev pub children_at : Children → ℕ → List ℕ
children_at children d = by (get nat_cmp children d)
  where
    by : Option (Vec ℕ Global) → List ℕ
    by None = []
    by (Some numbers) = numbers.items

-- the inodes of a directory with the one of a link behind them, if that leads from this directory
abbrev pub with_child : Link → ℕ → List ℕ → List ℕ
with_child link d numbers = cond (is_at (nat_cmp link.dir) d) (numbers ++ link.ino ∷ []) numbers

-- whether an entry of one of some directories names an inode
abbrev pub leads : Children → List ℕ → ℕ → Bool
leads children level q = list_any (λ d. mem q (children_at children d)) level
