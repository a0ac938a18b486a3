-- The four ways in which a committed leaf is found.
use Rattle.std.proofs.Common.{◌≡◌, List, [], ◌∷◌, ◌++◌, not, refl, Option, Some, None}
use Rattle.std.specs.Prelude.{filter}
use Rattle.media_leaf.specs.LeafNode.{LeafNode}
use Rattle.leaf_map.specs.Kept.{Kept, Placed, kept_at, shown}
use Rattle.leaf_map.specs.LeafMap.{shows_same}
use Rattle.leaf_map.specs.Parts.{Committed, Named, own_node}
use Rattle.leaf_map.specs.Recovered.{copies_left, copy_of_key, found_leaves, leaf_found_for, stand_in}

-- the copies but for those of what a copy shows
abbrev pub left : Placed → List Placed → List Placed
left d copies = filter (λ c. not (shows_same (shown d.node) (shown c.node))) copies

abbrev pub own_leaf : Committed → Placed → Kept
own_leaf c n = record { leaf = c.leaf; sqnum = n.sqnum; node = n.node }

abbrev pub stand_leaf : Committed → LeafNode → Kept
stand_leaf c m = record { leaf = c.leaf; sqnum = 0; node = m }

-- what holds of the leaves that are found, by what is found for each
pub record Walk (named : List Named) (Pair : Kept → Committed → Type 0) (P : List Placed → List Kept → List Committed → List Kept → Type 0) : Type 0 where
  pub done : (copies : List Placed) → P copies [] [] []
  pub own : (copies : List Placed) (ks : List Kept) (cs : List Committed) (x : Kept) (c : Committed) (n : Placed) → Pair x c → own_node named c ≡ Some n
      → P copies ks cs (found_leaves named copies cs) → P copies (x ∷ ks) (c ∷ cs) (own_leaf c n ∷ found_leaves named copies cs)
  pub copy : (copies : List Placed) (ks : List Kept) (cs : List Committed) (x : Kept) (c : Committed) (d : Placed) → Pair x c → own_node named c ≡ None → copy_of_key c.leaf copies ≡ Some d
      → P (left d copies) ks cs (found_leaves named (left d copies) cs) → P copies (x ∷ ks) (c ∷ cs) (kept_at d ∷ found_leaves named (left d copies) cs)
  pub stand : (copies : List Placed) (ks : List Kept) (cs : List Committed) (x : Kept) (c : Committed) (m : LeafNode) → Pair x c → own_node named c ≡ None → copy_of_key c.leaf copies ≡ None → stand_in c.leaf.key ≡ Some m
      → P copies ks cs (found_leaves named copies cs) → P copies (x ∷ ks) (c ∷ cs) (stand_leaf c m ∷ found_leaves named copies cs)
  pub gone : (copies : List Placed) (ks : List Kept) (cs : List Committed) (x : Kept) (c : Committed) → Pair x c → own_node named c ≡ None → copy_of_key c.leaf copies ≡ None → stand_in c.leaf.key ≡ None
      → P copies ks cs (found_leaves named copies cs) → P copies (x ∷ ks) (c ∷ cs) (found_leaves named copies cs)

abbrev pub Pairs : (Kept → Committed → Type 0) → List Kept → List Committed → Type 0
Pairs Pair [] [] = Unit {0}
Pairs Pair [] (c ∷ cs) = ⊥
Pairs Pair (x ∷ ks) [] = ⊥
Pairs Pair (x ∷ ks) (c ∷ cs) = Pair x c × Pairs Pair ks cs

pub walk : {named : List Named} {Pair : Kept → Committed → Type 0} {P : List Placed → List Kept → List Committed → List Kept → Type 0} → Walk named Pair P
    → (copies : List Placed) (ks : List Kept) (cs : List Committed) → Pairs Pair ks cs → P copies ks cs (found_leaves named copies cs)
walk w copies [] [] h = w.done copies
walk w copies [] (c ∷ cs) h = absurd h
walk w copies (x ∷ ks) [] h = absurd h
walk {named} {Pair} {P} w copies (x ∷ ks) (c ∷ cs) (pair, more) = by (λ copies. walk w copies ks cs more) (own_node named c) refl
  where
    by_stand : P copies ks cs (found_leaves named copies cs) → own_node named c ≡ None → copy_of_key c.leaf copies ≡ None → (m : Option LeafNode) → stand_in c.leaf.key ≡ m → P copies (x ∷ ks) (c ∷ cs) (leaf_found_for copies c None ++ found_leaves named (copies_left copies c None) cs)
    by_stand rest e f (Some m) g = rw (f, g) (w.stand copies ks cs x c m pair e f g rest)
    by_stand rest e f None g = rw (f, g) (w.gone copies ks cs x c pair e f g rest)

    by_copy : ((copies : List Placed) → P copies ks cs (found_leaves named copies cs)) → own_node named c ≡ None → (d : Option Placed) → copy_of_key c.leaf copies ≡ d → P copies (x ∷ ks) (c ∷ cs) (leaf_found_for copies c None ++ found_leaves named (copies_left copies c None) cs)
    by_copy rest e (Some d) f = rw f (w.copy copies ks cs x c d pair e f (rest (left d copies)))
    by_copy rest e None f = by_stand (rest copies) e f (stand_in c.leaf.key) refl

    by : ((copies : List Placed) → P copies ks cs (found_leaves named copies cs)) → (o : Option Placed) → own_node named c ≡ o → P copies (x ∷ ks) (c ∷ cs) (leaf_found_for copies c o ++ found_leaves named (copies_left copies c o) cs)
    by rest (Some n) e = w.own copies ks cs x c n pair e (rest copies)
    by rest None e = by_copy rest e (copy_of_key c.leaf copies) refl
