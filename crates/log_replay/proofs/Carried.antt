-- A leaf in a LEB that the log doesn't name stands there since it was found: what nodes set stands in LEBs that it names.
use Rattle.std.proofs.Common.{◌≡◌, ◌⊎◌, ℕ, Bool, true, false, cond, not, List, [], ◌∷◌, refl, sym, ◌∙◌, inl, inr}
use Rattle.std.specs.Prelude.{◌==◌, ◌&&◌, ◌||◌, nat_le, filter}
use Rattle.std.specs.List.{AllByRecursion, list_any}
use Rattle.std.proofs.lemmas.Bool.{false≢true}
use Rattle.fs_model.specs.declared.change.Change.TheVariants.{DropInode}
use Rattle.leaf_map.specs.After.{is_gone, kept_after}
use Rattle.leaf_map.specs.Kept.{Kept, Placed, kept_at, shown_by}
use Rattle.leaf_map.specs.Parts.{Named, in_bud, is_named}
use Rattle.leaf_map.specs.Recovered.{is_unlinked, leaves_after, without_orphan}
use Rattle.journal_scan.specs.Places.{HasNamedPlace}
use Rattle.index_tree.specs.declared.leaf.Leaf.{Leaf}
use Rattle.log_replay.specs.Told.{without_orphans}
use Rattle.log_replay.proofs.Places.{kept_all}

-- one of these leaves
abbrev pub IsAmong : Kept → List Kept → Type 0
IsAmong x [] = ⊥
IsAmong x (y ∷ found) = (x ≡ y) ⊎ IsAmong x found

-- a leaf that stands in a LEB that isn't named is one of these
abbrev pub IsCarried : List Named → List Kept → Kept → Type 0
IsCarried named found x = is_named named x.leaf.lnum ≡ false → IsAmong x found

all_carried : (named : List Named) (found more : List Kept) → ((x : Kept) → IsAmong x found → IsAmong x more) → AllByRecursion (IsCarried named more) found
all_carried named [] more h = tt
all_carried named (x ∷ found) more h = ((λ e. h x (inl refl)), all_carried named found more (λ y a. h y (inr a)))

pub start_carried : (named : List Named) (found : List Kept) → AllByRecursion (IsCarried named found) found
start_carried named found = all_carried named found found (λ x a. a)

-- a place in a bud is in a LEB that is named
pub bud_named : (named : List Named) (leaf : Leaf) → in_bud named leaf ≡ true → is_named named leaf.lnum ≡ true
bud_named [] leaf h = h
bud_named (b ∷ named) leaf h = by (b.lnum == leaf.lnum) (nat_le b.from leaf.offs) h (bud_named named leaf)
  where
    by : (e f : Bool) → ((e && f) || in_bud named leaf) ≡ true → (in_bud named leaf ≡ true → is_named named leaf.lnum ≡ true) → (e || is_named named leaf.lnum) ≡ true
    by true f g more = refl
    by false f g more = more g

pub node_carried : (named : List Named) (found kept : List Kept) (new : Placed) → HasNamedPlace named new → AllByRecursion (IsCarried named found) kept → AllByRecursion (IsCarried named found) (kept_after kept new)
node_carried named found kept new h all = kept_all (IsCarried named found) kept new all (λ e. absurd (false≢true (sym e ∙ bud_named named (kept_at new).leaf h)))

pub nodes_carried : (named : List Named) (found kept : List Kept) (nodes : List Placed) → AllByRecursion (HasNamedPlace named) nodes → AllByRecursion (IsCarried named found) kept
    → AllByRecursion (IsCarried named found) (leaves_after kept nodes)
nodes_carried named found kept [] h all = all
nodes_carried named found kept (new ∷ nodes) h all = nodes_carried named found (kept_after kept new) nodes h.1 (node_carried named found kept new h.0 all)

left_carried : (named : List Named) (found : List Kept) (p : Kept → Bool) (kept : List Kept) → AllByRecursion (IsCarried named found) kept → AllByRecursion (IsCarried named found) (filter p kept)
left_carried named found p [] all = tt
left_carried named found p (x ∷ kept) all = by (p x) (left_carried named found p kept all.1)
  where
    by : (b : Bool) → AllByRecursion (IsCarried named found) (filter p kept) → AllByRecursion (IsCarried named found) (cond b (x ∷ filter p kept) (filter p kept))
    by true more = (all.0, more)
    by false more = more

orphan_carried : (named : List Named) (found kept : List Kept) (ino : ℕ) → AllByRecursion (IsCarried named found) kept → AllByRecursion (IsCarried named found) (without_orphan kept ino)
orphan_carried named found kept ino all = by (list_any (λ x. is_unlinked ino (shown_by x)) kept)
  where
    by : (b : Bool) → AllByRecursion (IsCarried named found) (cond b (filter (λ x. not (is_gone (DropInode ino) x)) kept) kept)
    by true = left_carried named found (λ x. not (is_gone (DropInode ino) x)) kept all
    by false = all

pub orphans_carried : (named : List Named) (found kept : List Kept) (listed : List ℕ) → AllByRecursion (IsCarried named found) kept → AllByRecursion (IsCarried named found) (without_orphans kept listed)
orphans_carried named found kept [] all = all
orphans_carried named found kept (ino ∷ listed) all = orphans_carried named found (without_orphan kept ino) listed (orphan_carried named found kept ino all)
