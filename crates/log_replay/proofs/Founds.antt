-- The committed leaves as they are found: own nodes, copies, and what stands for a node that nobody can read.
use Rattle.std.proofs.Common.{◌≡◌, ◌^◌, Bool, true, false, List, [], ◌∷◌, ◌++◌, map, refl, sym, ap, subst, ◌∙◌, Option, Some, None}
use Rattle.std.specs.List.{AllByRecursion}
use Rattle.std.specs.Option.{option_map}
use Rattle.std.proofs.lemmas.Bool.{lt-ltb}
use Rattle.std.proofs.lemmas.List.Elements.{recursion_from_All}
use Rattle.ubifs_base.specs.R5.{r5_of}
use Rattle.ubifs_base.specs.declared.key.Key.{Key}
use Rattle.ubifs_base.specs.declared.key.Key.TheVariants.{Ino, Block, Dent, Xent}
use Rattle.ubifs_base.specs.Key.{IsKey}
use Rattle.media_leaf.specs.LeafNode.{LeafNode}
use Rattle.index_tree.specs.declared.leaf.Leaf.{Leaf}
use Rattle.index_tree.specs.Keyed.{HasKey, HaveKeys}
use Rattle.index_tree.specs.Order.{leaf_rank}
use Rattle.fs_model.specs.declared.change.Change.{Change}
use Rattle.fs_model.specs.declared.change.Change.TheVariants.{SetInode, SetEntry, SetBlock}
use Rattle.group_nodes.specs.FitLaws.{r5_small}
use Rattle.leaf_map.specs.Kept.{Kept, Placed, kept_at, shown_by}
use Rattle.leaf_map.specs.LeafMap.{HasKeyOf, IsKeyed}
use Rattle.leaf_map.specs.Parts.{Committed, Parts, own_node}
use Rattle.leaf_map.specs.RankLaws.{key_of_place}
use Rattle.leaf_map.specs.Recovered.{copies_left, copy_of_key, found_leaves, leaf_found_for, stand_in}
use Rattle.log_replay.specs.Placing.{LeafFound, IsFoundWell, IsLeafSound, is_key, pair_found, pair_told, present_leaves}
use Rattle.log_replay.specs.Settling.{kept_of, read_as, settled_at, settled_of, settled_one}
use Rattle.log_replay.specs.Told.{told_leaf}
use Rattle.log_replay.proofs.Ranked.{found_rank}

-- as what a leaf is found, where these copies are left
abbrev pub at_copy : Committed → Option Placed → Option Kept
at_copy c None = kept_of c None
at_copy c (Some d) = Some (kept_at d)

abbrev pub found_as : List Placed → Committed → Option Placed → Option Kept
found_as left c (Some own) = kept_of c (Some own)
found_as left c None = at_copy c (copy_of_key c.leaf left)

abbrev pub founds : Parts → List Placed → List Committed → List LeafFound
founds parts left [] = []
founds parts left (c ∷ cs) = record { leaf = c.leaf; kept = found_as left c (own_node parts.named c) } ∷ founds parts (copies_left left c (own_node parts.named c)) cs

-- a leaf that is found among others
abbrev pub with_one : Option Kept → List Kept → List Kept
with_one None kept = kept
with_one (Some x) kept = x ∷ kept

pub leaf_found : (left : List Placed) (c : Committed) (own : Option Placed) (rest : List Kept) → with_one (found_as left c own) rest ≡ leaf_found_for left c own ++ rest
leaf_found left c (Some own) rest = refl
leaf_found left c None rest = by (copy_of_key c.leaf left) refl
  where
    stand : (s : Option LeafNode) → stand_in c.leaf.key ≡ s → copy_of_key c.leaf left ≡ None → with_one (kept_of c None) rest ≡ leaf_found_for left c None ++ rest
    stand None s f = rw (f, s) refl
    stand (Some node) s f = rw (f, s) refl

    by : (d : Option Placed) → copy_of_key c.leaf left ≡ d → with_one (at_copy c (copy_of_key c.leaf left)) rest ≡ leaf_found_for left c None ++ rest
    by (Some d) f = rw f refl
    by None f = ap (λ (z : Option Placed). with_one (at_copy c z) rest) f ∙ stand (stand_in c.leaf.key) refl f

pub present_one : (f : LeafFound) (fs : List LeafFound) → present_leaves (f ∷ fs) ≡ with_one f.kept (present_leaves fs)
present_one f fs = by f.kept
  where
    by : (k : Option Kept) → present_leaves (record { leaf = f.leaf; kept = k } ∷ fs) ≡ with_one k (present_leaves fs)
    by None = refl
    by (Some x) = refl

pub found_present : (parts : Parts) (left : List Placed) (cs : List Committed) → present_leaves (founds parts left cs) ≡ found_leaves parts.named left cs
found_present parts left [] = refl
found_present parts left (c ∷ cs) =
    let own = own_node parts.named c in
    present_one (record { leaf = c.leaf; kept = found_as left c own }) (founds parts (copies_left left c own) cs)
    ∙ ap (with_one (found_as left c own)) (found_present parts (copies_left left c own) cs) ∙ leaf_found left c own (found_leaves parts.named (copies_left left c own) cs)

pub found_places : (parts : Parts) (left : List Placed) (cs : List Committed) → map (λ f. f.leaf) (founds parts left cs) ≡ map (λ c. c.leaf) cs
found_places parts left [] = refl
found_places parts left (c ∷ cs) = ap (λ z. c.leaf ∷ z) (found_places parts (copies_left left c (own_node parts.named c)) cs)

read_pair : (parts : Parts) (leaf : Leaf) (own : Bool) (k : Option Kept) → pair_told (read_as parts leaf own k) ≡ (leaf, option_map told_leaf k)
read_pair parts leaf own None = refl
read_pair parts leaf own (Some k) = refl

pair_is : (parts : Parts) (left : List Placed) (c : Committed) (own : Option Placed) → own_node parts.named c ≡ own → pair_told (settled_one parts left c own) ≡ (c.leaf, option_map told_leaf (found_as left c own))
pair_is parts left c (Some own) e = rw e (read_pair parts c.leaf true (kept_of c (Some own)))
pair_is parts left c None e = by (copy_of_key c.leaf left)
  where
    by : (d : Option Placed) → pair_told (settled_at parts c d) ≡ (c.leaf, option_map told_leaf (at_copy c d))
    by (Some d) = refl
    by None = rw e (read_pair parts c.leaf false (kept_of c None))

pub found_pairs : (parts : Parts) (left : List Placed) (cs : List Committed) → map pair_told (settled_of parts left cs) ≡ map pair_found (founds parts left cs)
found_pairs parts left [] = refl
found_pairs parts left (c ∷ cs) = rw (pair_is parts left c (own_node parts.named c) refl, found_pairs parts (copies_left left c (own_node parts.named c)) cs) refl

key_fits : (k : Key) → IsKey k → is_key k ≡ true
key_fits (Ino ino) h = refl
key_fits (Block ino n) h = let small = h.1 in lt-ltb n (2 ^ 29) small
key_fits (Dent dir n) h = let small = h.1 in lt-ltb n (2 ^ 29) small
key_fits (Xent ino n) h = let small = h.1 in lt-ltb n (2 ^ 29) small

pub fits : (leaf : Leaf) (s : Option Change) → HasKeyOf leaf s → is_key leaf.key ≡ true
fits leaf (Some (SetInode ino x)) h = ap is_key h
fits leaf (Some (SetBlock ino n x)) h = let small = h.1 in ap is_key h.0 ∙ lt-ltb n (2 ^ 29) small
fits leaf (Some (SetEntry e)) h = ap is_key h ∙ lt-ltb (r5_of e.name) (2 ^ 29) (r5_small e.name)
fits leaf s h = absurd h

-- the key of each committed leaf is one
abbrev pub HaveTrueKeys : List Committed → Type 0
HaveTrueKeys cs = AllByRecursion (λ c. IsKey c.leaf.key) cs

pub true_keys : (cs : List Committed) (xs : List Leaf) → xs ≡ map (λ c. c.leaf) cs → HaveKeys xs → HaveTrueKeys cs
true_keys cs xs e h = by cs (recursion_from_All HasKey (map (λ c. c.leaf) cs) (subst HaveKeys e h))
  where
    by : (cs : List Committed) → AllByRecursion HasKey (map (λ c. c.leaf) cs) → HaveTrueKeys cs
    by [] a = tt
    by (c ∷ cs) a = (a.0, by cs a.1)

one_well : (left : List Placed) (c : Committed) (own : Option Placed) → IsKey c.leaf.key → (x : Kept) → IsKeyed x → found_as left c own ≡ Some x → IsLeafSound c.leaf x
one_well left c own t x k e = record { keyed = k; key = by own e; is_key = key_fits c.leaf.key t }
  where
    stand : (s : Option LeafNode) → option_map (λ (node : LeafNode). record { leaf = c.leaf; sqnum = 0; node = node }) s ≡ Some x → x.leaf.key ≡ c.leaf.key
    stand None f = absurd cc
    stand (Some node) f = let same : record { leaf = c.leaf; sqnum = 0; node = node } ≡ x = cc in ap (λ (y : Kept). y.leaf.key) (sym same)

    copy : (d : Option Placed) → copy_of_key c.leaf left ≡ d → at_copy c d ≡ Some x → x.leaf.key ≡ c.leaf.key
    copy None f g = stand (stand_in c.leaf.key) g
    copy (Some d) f g =
        let same : kept_at d ≡ x = cc in
        let rank : leaf_rank x.leaf ≡ leaf_rank c.leaf = ap (λ (y : Kept). leaf_rank y.leaf) (sym same) ∙ found_rank (leaf_rank c.leaf) left d f in
        key_of_place x.leaf (shown_by x) c.leaf.key k t rank

    by : (own : Option Placed) → found_as left c own ≡ Some x → x.leaf.key ≡ c.leaf.key
    by (Some own) f = let same : record { leaf = c.leaf; sqnum = own.sqnum; node = own.node } ≡ x = cc in ap (λ (y : Kept). y.leaf.key) (sym same)
    by None f = copy (copy_of_key c.leaf left) refl f

pub found_well : (parts : Parts) (left : List Placed) (cs : List Committed) → HaveTrueKeys cs → AllByRecursion IsKeyed (present_leaves (founds parts left cs)) → AllByRecursion IsFoundWell (founds parts left cs)
found_well parts left [] t k = tt
found_well parts left (c ∷ cs) t k = by (λ a. found_well parts (copies_left left c (own_node parts.named c)) cs t.1 a) (found_as left c own) refl (subst (AllByRecursion IsKeyed) (present_one (record { leaf = c.leaf; kept = found_as left c own }) rest) k)
  where
    own : Option Placed
    own = own_node parts.named c

    rest : List LeafFound
    rest = founds parts (copies_left left c own) cs

    by : (AllByRecursion IsKeyed (present_leaves rest) → AllByRecursion IsFoundWell rest) → (k : Option Kept) → found_as left c own ≡ k → AllByRecursion IsKeyed (with_one k (present_leaves rest)) → AllByRecursion IsFoundWell (record { leaf = c.leaf; kept = found_as left c own } ∷ rest)
    by more None e a = (rw e tt, more a)
    by more (Some x) e a = (rw e (one_well left c own t.0 x a.0 e), more a.1)
