-- What main LEBs are for, and the numbers of a store.
use Rattle.std.specs.Prelude.{ℕ, ◌+◌, ◌==◌, ◌&&◌, ◌||◌, nat_lt, not, Bool, true, false, if◌then◌else◌, List, [], length, filter, map, count_by, Option, Some, None}
use Rattle.std.specs.List.{list_any}
use Rattle.ubifs_base.specs.declared.raw_geometry.RawGeometry.{RawGeometry}
use Rattle.ubifs_base.specs.Geometry.{leb_reserve}
use Rattle.media_lpt.specs.declared.leb_kind.LebKind.{LebKind}
use Rattle.media_lpt.specs.declared.leb_kind.LebKind.TheVariants as kind
use Rattle.index_tree.specs.Shape.{shape_weight}
use Rattle.fs_model.specs.declared.space.Space.{Space}
use Rattle.fs_model.specs.Settled.{IsSettled}
use Rattle.leaf_map.specs.After.{used_by}
use Rattle.leaf_map.specs.Kept.{Kept}
use Rattle.space_sums.specs.Spaces.{Running, IsSettledTwice, with_empty}
use Rattle.store_model.specs.Store.{Store, View, Next, Leb, IndexNodePlace, Moving}

-- whether two roles are one
abbrev pub is_role : LebKind → LebKind → Bool
is_role kind.Free kind.Free = true
is_role kind.Leaf kind.Leaf = true
is_role kind.Index kind.Index = true
is_role kind.Bud kind.Bud = true
is_role kind.Taken kind.Taken = true
is_role role other = false

-- how many LEBs have a role
abbrev pub role_count : LebKind → List Leb → ℕ
role_count role lebs = count_by (λ leb. is_role role leb.role) lebs

-- whether a LEB has a role
abbrev pub has_role : LebKind → List Leb → ℕ → Bool
has_role role lebs lnum = list_any (λ leb. (leb.lnum == lnum) && is_role role leb.role) lebs

-- the LEBs, with this done to one
abbrev pub changed_leb : ℕ → (Leb → Leb) → List Leb → List Leb
changed_leb lnum change lebs = map (λ leb. if leb.lnum == lnum then change leb else leb) lebs

-- whether a number is among these
abbrev pub is_among : List ℕ → ℕ → Bool
is_among numbers n = list_any (λ k. k == n) numbers

-- whether a leaf stands in a LEB
abbrev pub stands_in : ℕ → Kept → Bool
stands_in lnum x = x.leaf.lnum == lnum

-- the bytes of the live, and of the held, leaves of a LEB
abbrev pub used_in : Store → ℕ → ℕ
used_in m lnum = used_by (filter (stands_in lnum) m.live)

abbrev pub held_in : Store → ℕ → ℕ
held_in m lnum = used_by (filter (stands_in lnum) m.held)

-- whether a leaf, live or held, stands in a LEB
abbrev pub has_leaf : Store → ℕ → Bool
has_leaf m lnum = list_any (stands_in lnum) m.live || list_any (stands_in lnum) m.held

-- the weight that a view's index has at most once all was written that was put since
abbrev pub weight_of : RawGeometry → View → ℕ
weight_of geo view = shape_weight geo.fanout view.shape + view.put

-- the numbers that admission reckons with
abbrev pub space_of : Store → Space
space_of m = record {
  used = used_by m.live;
  held = used_by m.held;
  credits = m.credits;
  empty = role_count kind.Free m.lebs;
  index = role_count kind.Index m.lebs;
  weight = weight_of m.geo m.now;
  main = length m.lebs;
}

-- whether a node stands in a LEB
abbrev pub has_node : List IndexNodePlace → ℕ → Bool
has_node places lnum = list_any (λ place. place.lnum == lnum) places

-- what a running commit comes to
abbrev pub running_commit_of : Store → Next → Running
running_commit_of m next = record {
  taken = length next.taken;
  lebs = count_by (λ leb. has_node next.view.places leb.lnum) m.lebs;
  weight = weight_of m.geo next.view;
}

-- a LEB is lent that a collection opened for its copies: a mount finds it empty, or its victim
abbrev pub lent : Option Moving → ℕ
lent None = 0
lent (Some moving) = if moving.opened then 1 else 0

-- settled, also as the end of a commit that runs leaves it, where these LEBs are lent
abbrev pub IsSettledWith : Store → Space → Option Next → Type 0
IsSettledWith m space None = IsSettled m.geo space
IsSettledWith m space (Some next) = IsSettledTwice m.geo (running_commit_of m next) space

-- a store is settled
abbrev pub IsStoreSettled : Store → Type 0
IsStoreSettled m = IsSettledWith m (with_empty (lent m.moving) (space_of m)) m.next

-- whether a collection of a LEB gains
abbrev pub is_victim : Store → Leb → Bool
is_victim m leb = is_role kind.Leaf leb.role && not (nat_lt m.geo.leb_size (used_in m leb.lnum + leb_reserve m.geo))

-- leaf LEBs without a leaf are empty, but for a victim, which the collector itself frees
abbrev pub is_victim_of : Option Moving → ℕ → Bool
is_victim_of None lnum = false
is_victim_of (Some moving) lnum = moving.victim == lnum

-- an empty LEB; what a device still has of it is never read
abbrev pub emptied_leb : Leb → Leb
emptied_leb leb = record leb { role = kind.Free; text = [] }

abbrev pub freed : Store → Leb → Leb
freed m leb = if is_role kind.Leaf leb.role && not (has_leaf m leb.lnum) && not (is_victim_of m.moving leb.lnum) then emptied_leb leb else leb

abbrev pub tidied_store : Store → Store
tidied_store m = record m { lebs = map (freed m) m.lebs }
