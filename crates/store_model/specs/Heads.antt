-- What the buds of a view say of the journal's heads.
use Rattle.std.specs.Prelude.{ℕ, ◌-◌, ◌==◌, ◌&&◌, not, Bool, if◌then◌else◌, List, [], ◌∷◌, ◌++◌, filter, map, length, get_or}
use Rattle.std.specs.List.{flat_map, list_any}
use Rattle.fs_model.specs.declared.change.Change.{Change}
use Rattle.fs_model.specs.Recovery.{Head, Numbered}
use Rattle.leaf_map.specs.Kept.{Placed}
use Rattle.store_model.specs.Store.{Store, Next, Bud, Carried}

-- the buds of a head
abbrev pub buds_of_head : ℕ → List Bud → List Bud
buds_of_head head buds = filter (λ bud. bud.head == head) buds

-- the groups that a head got, oldest first, and the collector's copies
abbrev pub groups_of_head : ℕ → List Bud → List (List Carried)
groups_of_head head buds = flat_map (λ bud. bud.groups) (buds_of_head head buds)

abbrev pub copies_of : List Bud → List Placed
copies_of buds = flat_map (λ bud. bud.copies) (buds_of_head 0 buds)

-- how many groups, or copies, each head got
abbrev pub head_counts : List Bud → List ℕ
head_counts buds = length (copies_of buds) ∷ length (groups_of_head 1 buds) ∷ length (groups_of_head 2 buds) ∷ []

-- changes with the sequence numbers of their nodes
abbrev pub numbered_group : List Carried → Numbered
numbered_group group = map (λ c. (c.placed.sqnum, c.change)) group

-- the changes of a group
abbrev pub changes_of : List Carried → List Change
changes_of group = map (λ c. c.change) group

-- a head's groups, of which so many are synced
abbrev pub synced_head_of : List Bud → List ℕ → ℕ → Head
synced_head_of buds synced head = record { groups = map numbered_group (groups_of_head head buds); synced = get_or synced head 0 }

-- the three heads; copies change no tree, so the collector's has no groups
abbrev pub heads_of : List Bud → List ℕ → List Head
heads_of buds synced = (record { groups = []; synced = 0 }) ∷ synced_head_of buds synced 1 ∷ synced_head_of buds synced 2 ∷ []

-- one list less another, number by number
abbrev pub less : List ℕ → List ℕ → List ℕ
less [] gone = []
less (n ∷ numbers) [] = n ∷ numbers
less (n ∷ numbers) (k ∷ gone) = (n - k) ∷ less numbers gone

-- how many groups, or copies, each head had when the running commit began
abbrev pub begun_of : Store → Next → List ℕ
begun_of m next = less (head_counts m.now.buds) (head_counts next.view.buds)

-- how many of those that came since are synced
abbrev pub synced_since : Store → Next → List ℕ
synced_since m next = less m.synced (begun_of m next)

-- whether a head has a bud among these
abbrev pub has_bud : ℕ → List Bud → Bool
has_bud head buds = list_any (λ bud. bud.head == head) buds

-- the buds, with this done to the last one of a head
abbrev pub changed_last : ℕ → (Bud → Bud) → List Bud → List Bud
changed_last head change [] = []
changed_last head change (bud ∷ buds) =
    if (bud.head == head) && not (has_bud head buds) then change bud ∷ buds else bud ∷ changed_last head change buds

-- a group, or a copy, stands last at its head
abbrev pub with_head_group : ℕ → List Carried → List Bud → List Bud
with_head_group head group buds = changed_last head (λ bud. record bud { groups = bud.groups ++ group ∷ [] }) buds

abbrev pub with_copy : Placed → List Bud → List Bud
with_copy copy buds = changed_last 0 (λ bud. record bud { copies = bud.copies ++ copy ∷ [] }) buds
