-- The nodes that a mount reads carry the changes of the groups, both in order of number.
use Rattle.std.proofs.Common.{arith, ◌≡◌, ℕ, zero, suc, ◌-◌, Bool, true, false, cond, List, [], ◌∷◌, ◌++◌, length, take, drop, map, refl, sym, ap, subst, ◌∙◌, append_assoc, append-nil, Option, Some, None}
use Rattle.std.specs.Prelude.{◌==◌, nat_lt, fold}
use Rattle.std.specs.List.{AllByRecursion, flat_map}
use Rattle.std.specs.Option.{option_map}
use Rattle.std.proofs.lemmas.Bool.{eqb-true}
use Rattle.std.proofs.lemmas.Grind.{flat_map-append}
use Rattle.std.proofs.lemmas.List.{map-append, take-append-drop}
use Rattle.std.proofs.lemmas.List.Sums.{fold-append}
use Rattle.media_leaf.specs.LeafNode.{LeafNode, inode, block, entry, truncation}
use Rattle.media_leaf.specs.declared.dent_node.DentNode.{DentNode}
use Rattle.media_leaf.specs.declared.ino_node.InoNode.{InoNode}
use Rattle.fs_model.specs.declared.change.Change.{Change}
use Rattle.fs_model.specs.declared.change.Change.TheVariants.{SetInode, SetEntry, DropEntry, SetBlock, CutBlocks, DropInode}
use Rattle.fs_model.specs.declared.inode.Inode.{Inode}
use Rattle.fs_model.specs.declared.inode.Kind.{Kind}
use Rattle.fs_model.specs.Recovery.{Numbered, as_replayed, by_number, placed}
use Rattle.group_nodes.specs.Nodes.{bits_of, change_of, inode_of, kind_of_bits, kind_of_type}
use Rattle.leaf_map.specs.After.{ShowsChange}
use Rattle.leaf_map.specs.Allowed.{AreRead}
use Rattle.leaf_map.specs.Kept.{Placed}
use Rattle.leaf_map.specs.Parts.{Parts}
use Rattle.leaf_map.specs.Recovered.{nodes_in_order, placed_node}
use Rattle.store_model.specs.Fits.{Faced, FitsFaced, nodes_of_groups, read_nodes}
use Rattle.store_model.specs.Heads.{groups_of_head, numbered_group}
use Rattle.store_model.specs.Invariant.{AreChangesCarried, all_carried, are_other, head_numbers}
use Rattle.store_model.specs.Legal.{IsCarried}
use Rattle.store_model.specs.Recovery.{read_changes}
use Rattle.store_model.specs.Store.{Bud, Carried}
use Rattle.store_model.proofs.Sorting.{others_left, others_right, sorted_turned}

-- ---- nodes in order of number carry the changes in order of number
read_placed : (nodes : List Placed) (changes : Numbered) (x : Placed) (c : ℕ × Change) → AreRead nodes changes → AreRead (x ∷ []) (c ∷ []) → AreRead (placed_node nodes x) (placed changes c)
read_placed [] [] x c r one = one
read_placed [] (d ∷ changes) x c r one = absurd r
read_placed (y ∷ nodes) [] x c r one = absurd r
read_placed (y ∷ nodes) (d ∷ changes) x c (first, of, told, more) one =
    subst (λ b. AreRead (cond b (x ∷ y ∷ nodes) (y ∷ placed_node nodes x)) (cond (nat_lt c.0 d.0) (c ∷ d ∷ changes) (d ∷ placed changes c))) (sym same)
    (by (nat_lt c.0 d.0) (read_placed nodes changes x c more one))
  where
    same : nat_lt x.sqnum y.sqnum ≡ nat_lt c.0 d.0
    same = ap (λ n. nat_lt n y.sqnum) one.1 ∙ ap (nat_lt c.0) of

    by : (b : Bool) → AreRead (placed_node nodes x) (placed changes c) → AreRead (cond b (x ∷ y ∷ nodes) (y ∷ placed_node nodes x)) (cond b (c ∷ d ∷ changes) (d ∷ placed changes c))
    by true rest = (one.0, one.1, one.2, (first, of, told, more))
    by false rest = (first, of, told, rest)

read_fold : (nodes : List Placed) (changes : Numbered) (sorted : List Placed) (ordered : Numbered) → AreRead nodes changes → AreRead sorted ordered → AreRead (fold placed_node sorted nodes) (fold placed ordered changes)
read_fold [] [] sorted ordered r s = s
read_fold [] (c ∷ changes) sorted ordered r s = absurd r
read_fold (x ∷ nodes) [] sorted ordered r s = absurd r
read_fold (x ∷ nodes) (c ∷ changes) sorted ordered (leaf, number, read, more) s =
    read_fold nodes changes (placed_node sorted x) (placed ordered c) more (read_placed sorted ordered x c s (leaf, number, read, tt))

-- ---- what shows a change carries what recovery makes of it
inode_reads : (node : InoNode) (k : Option Kind) (c : Change) → option_map (λ kind. SetInode node.ino (inode_of node kind)) k ≡ Some c
    → cond (node.nlink == 0) (Some (DropInode node.ino)) (option_map (λ kind. SetInode node.ino (inode_of node kind)) k) ≡ Some (as_replayed c)
inode_reads node None c e = absurd cc
inode_reads node (Some kind) c e =
    let same : SetInode node.ino (inode_of node kind) ≡ c = cc in
    subst (λ (d : Change). cond (node.nlink == 0) (Some (DropInode node.ino)) (Some (SetInode node.ino (inode_of node kind))) ≡ Some (as_replayed d)) same (by (node.nlink == 0))
  where
    by : (b : Bool) → cond b (Some (DropInode node.ino)) (Some (SetInode node.ino (inode_of node kind))) ≡ Some (cond b (DropInode node.ino) (SetInode node.ino (inode_of node kind)))
    by true = refl
    by false = refl

-- an entry's node shows no inode
no_inode : (node : DentNode) (a z : Bool) (k : Option Kind) (ino : ℕ) (x : Inode)
    → cond a None (cond z (Some (DropEntry node.dir node.name)) (option_map (λ kind. SetEntry (record { dir = node.dir; name = node.name; ino = node.inum; kind = kind })) k)) ≡ Some (SetInode ino x) → ⊥
no_inode node true z k ino x e = absurd cc
no_inode node false true k ino x e = absurd cc
no_inode node false false None ino x e = absurd cc
no_inode node false false (Some kind) ino x e = absurd cc

carries_replayed : (c : Change) (node : LeafNode) → ShowsChange c node → change_of node ≡ Some (as_replayed c)
carries_replayed (DropInode ino) node e = e
carries_replayed (SetInode ino x) (inode node) e = inode_reads node (kind_of_bits (bits_of node.mode)) (SetInode ino x) e
carries_replayed (SetInode ino x) (block node) e = absurd cc
carries_replayed (SetInode ino x) (entry node) e = absurd (no_inode node node.attribute (node.inum == 0) (kind_of_type node.kind) ino x e)
carries_replayed (SetInode ino x) (truncation node) e = absurd cc
carries_replayed (SetEntry x) (inode node) e = inode_reads node (kind_of_bits (bits_of node.mode)) (SetEntry x) e
carries_replayed (SetEntry x) (block node) e = e
carries_replayed (SetEntry x) (entry node) e = e
carries_replayed (SetEntry x) (truncation node) e = e
carries_replayed (DropEntry dir name) (inode node) e = inode_reads node (kind_of_bits (bits_of node.mode)) (DropEntry dir name) e
carries_replayed (DropEntry dir name) (block node) e = e
carries_replayed (DropEntry dir name) (entry node) e = e
carries_replayed (DropEntry dir name) (truncation node) e = e
carries_replayed (SetBlock ino number bytes) (inode node) e = inode_reads node (kind_of_bits (bits_of node.mode)) (SetBlock ino number bytes) e
carries_replayed (SetBlock ino number bytes) (block node) e = e
carries_replayed (SetBlock ino number bytes) (entry node) e = e
carries_replayed (SetBlock ino number bytes) (truncation node) e = e
carries_replayed (CutBlocks ino old new) (inode node) e = inode_reads node (kind_of_bits (bits_of node.mode)) (CutBlocks ino old new) e
carries_replayed (CutBlocks ino old new) (block node) e = e
carries_replayed (CutBlocks ino old new) (entry node) e = e
carries_replayed (CutBlocks ino old new) (truncation node) e = e

-- ---- what was read, with its changes, in the order of the log
abbrev in_groups : {X : Type 0} → List (List X) → List X
in_groups groups = flat_map (λ group. group) groups

abbrev read_carried : List Bud → ℕ → ℕ → List Carried
read_carried [] base other = []
read_carried (bud ∷ buds) base other =
    cond (bud.head == 1) (in_groups (take base bud.groups) ++ read_carried buds (base - length bud.groups) other)
    (cond (bud.head == 2) (in_groups (take other bud.groups) ++ read_carried buds base (other - length bud.groups)) (read_carried buds base other))

abbrev nodes_of : List Carried → List Placed
nodes_of cs = map (λ c. c.placed) cs

group_nodes : (groups : List (List Carried)) → nodes_of_groups groups ≡ nodes_of (in_groups groups)
group_nodes [] = refl
group_nodes (group ∷ groups) = ap (λ z. nodes_of group ++ z) (group_nodes groups) ∙ sym (map-append (λ (c : Carried). c.placed) group (in_groups groups))

nodes_read : (buds : List Bud) (base other : ℕ) → read_nodes buds base other ≡ nodes_of (read_carried buds base other)
nodes_read [] base other = refl
nodes_read (bud ∷ buds) base other = by (λ n k. nodes_read buds n k) (bud.head == 1) (bud.head == 2)
  where
    joined : (n : ℕ) (rest : List Placed) (cs : List Carried) → rest ≡ nodes_of cs → nodes_of_groups (take n bud.groups) ++ rest ≡ nodes_of (in_groups (take n bud.groups) ++ cs)
    joined n rest cs e =
        ap (λ z. z ++ rest) (group_nodes (take n bud.groups)) ∙ ap (λ z. nodes_of (in_groups (take n bud.groups)) ++ z) e
        ∙ sym (map-append (λ (c : Carried). c.placed) (in_groups (take n bud.groups)) cs)

    by : ((n k : ℕ) → read_nodes buds n k ≡ nodes_of (read_carried buds n k)) → (one two : Bool)
        → cond one (nodes_of_groups (take base bud.groups) ++ read_nodes buds (base - length bud.groups) other)
        (cond two (nodes_of_groups (take other bud.groups) ++ read_nodes buds base (other - length bud.groups)) (read_nodes buds base other))
        ≡ nodes_of (cond one (in_groups (take base bud.groups) ++ read_carried buds (base - length bud.groups) other)
        (cond two (in_groups (take other bud.groups) ++ read_carried buds base (other - length bud.groups)) (read_carried buds base other)))
    by rest true two = joined base (read_nodes buds (base - length bud.groups) other) (read_carried buds (base - length bud.groups) other) (rest (base - length bud.groups) other)
    by rest false true = joined other (read_nodes buds base (other - length bud.groups)) (read_carried buds base (other - length bud.groups)) (rest base (other - length bud.groups))
    by rest false false = rest base other

-- what is so of all is so of the first ones
pub both_parts : {X : Type 0} (P : X → Type 0) (xs ys : List X) → AllByRecursion P (xs ++ ys) → AllByRecursion P xs × AllByRecursion P ys
both_parts P [] ys h = (tt, h)
both_parts P (x ∷ xs) ys h = let rest = both_parts P xs ys h.1 in ((h.0, rest.0), rest.1)

pub both_join : {X : Type 0} (P : X → Type 0) (xs ys : List X) → AllByRecursion P xs → AllByRecursion P ys → AllByRecursion P (xs ++ ys)
both_join P [] ys h g = g
both_join P (x ∷ xs) ys h g = (h.0, both_join P xs ys h.1 g)

first_groups : (P : Carried → Type 0) (n : ℕ) (groups : List (List Carried)) → AllByRecursion P (in_groups groups) → AllByRecursion P (in_groups (take n groups))
first_groups P zero groups h = tt
first_groups P (suc n) [] h = tt
first_groups P (suc n) (group ∷ groups) h =
    let p = both_parts P group (in_groups groups) h in both_join P group (in_groups (take n groups)) p.0 (first_groups P n groups p.1)

carried_read : (buds : List Bud) (base other : ℕ) → AllByRecursion IsCarried (all_carried buds) → AllByRecursion IsCarried (read_carried buds base other)
carried_read [] base other h = tt
carried_read (bud ∷ buds) base other h = let p = both_parts IsCarried (in_groups bud.groups) (all_carried buds) h in by (λ n k. carried_read buds n k p.1) p.0 (bud.head == 1) (bud.head == 2)
  where
    by : ((n k : ℕ) → AllByRecursion IsCarried (read_carried buds n k)) → AllByRecursion IsCarried (in_groups bud.groups) → (one two : Bool)
        → AllByRecursion IsCarried (cond one (in_groups (take base bud.groups) ++ read_carried buds (base - length bud.groups) other)
        (cond two (in_groups (take other bud.groups) ++ read_carried buds base (other - length bud.groups)) (read_carried buds base other)))
    by rest these true two = both_join IsCarried (in_groups (take base bud.groups)) (read_carried buds (base - length bud.groups) other) (first_groups IsCarried base bud.groups these) (rest (base - length bud.groups) other)
    by rest these false true = both_join IsCarried (in_groups (take other bud.groups)) (read_carried buds base (other - length bud.groups)) (first_groups IsCarried other bud.groups these) (rest base (other - length bud.groups))
    by rest these false false = rest base other

all_read : (cs : List Carried) → AllByRecursion IsCarried cs → AreRead (nodes_of cs) (numbered_group cs)
all_read [] h = tt
all_read (c ∷ cs) h = (h.0.node, refl, carries_replayed c.change c.placed.node h.0.carries, all_read cs h.1)

-- ---- in order of number it is what the heads had
-- the first groups of a head, so many
abbrev first : ℕ → ℕ → List Bud → Numbered
first head n buds = in_groups (take n (map numbered_group (groups_of_head head buds)))

none_less : (n : ℕ) → n ≡ n - 0
none_less n = omega arith

less_none : (n : ℕ) → 0 ≡ 0 - n
less_none n = omega arith

both_less : (n k : ℕ) → n - k ≡ suc n - suc k
both_less n k = omega arith

take_joined : {X : Type 0} (n : ℕ) (xs ys : List X) → take n (xs ++ ys) ≡ take n xs ++ take (n - length xs) ys
take_joined zero [] ys = ap (λ k. take k ys) (none_less zero)
take_joined (suc n) [] ys = ap (λ k. take k ys) (none_less (suc n))
take_joined zero (x ∷ xs) ys = ap (λ k. take k ys) (less_none (length (x ∷ xs)))
take_joined (suc n) (x ∷ xs) ys = ap (λ z. x ∷ z) (take_joined n xs ys ∙ ap (λ k. take n xs ++ take k ys) (both_less n (length xs)))

take_map : {X Y : Type 0} (f : X → Y) (n : ℕ) (xs : List X) → take n (map f xs) ≡ map f (take n xs)
take_map f zero xs = refl
take_map f (suc n) [] = refl
take_map f (suc n) (x ∷ xs) = ap (λ z. f x ∷ z) (take_map f n xs)

length_map : {X Y : Type 0} (f : X → Y) (xs : List X) → length (map f xs) ≡ length xs
length_map f [] = refl
length_map f (x ∷ xs) = ap suc (length_map f xs)

group_numbers : (groups : List (List Carried)) → numbered_group (in_groups groups) ≡ in_groups (map numbered_group groups)
group_numbers [] = refl
group_numbers (group ∷ groups) =
    map-append (λ (c : Carried). (c.placed.sqnum, c.change)) group (in_groups groups) ∙ ap (λ z. numbered_group group ++ z) (group_numbers groups)

-- a bud of that head has the first of them
first_here : (head n : ℕ) (bud : Bud) (buds : List Bud) → (bud.head == head) ≡ true
    → first head n (bud ∷ buds) ≡ numbered_group (in_groups (take n bud.groups)) ++ first head (n - length bud.groups) buds
first_here head n bud buds here =
    let rest : List (List Carried) = groups_of_head head buds in
    let opened : groups_of_head head (bud ∷ buds) ≡ bud.groups ++ rest = rw here refl in
    ap (λ (gs : List (List Carried)). in_groups (take n (map numbered_group gs))) opened
    ∙ ap (λ (gs : List Numbered). in_groups (take n gs)) (map-append numbered_group bud.groups rest)
    ∙ ap in_groups (take_joined n (map numbered_group bud.groups) (map numbered_group rest))
    ∙ flat_map-append (λ (g : Numbered). g) (take n (map numbered_group bud.groups)) (take (n - length (map numbered_group bud.groups)) (map numbered_group rest))
    ∙ ap (λ (k : ℕ). in_groups (take n (map numbered_group bud.groups)) ++ in_groups (take (n - k) (map numbered_group rest))) (length_map numbered_group bud.groups)
    ∙ ap (λ (z : Numbered). z ++ first head (n - length bud.groups) buds) (ap in_groups (take_map numbered_group n bud.groups) ∙ sym (group_numbers (take n bud.groups)))

-- one of another head has none
first_past : (head n : ℕ) (bud : Bud) (buds : List Bud) → (bud.head == head) ≡ false → first head n (bud ∷ buds) ≡ first head n buds
first_past head n bud buds away = rw away refl

not_both : (n : ℕ) → (n == 1) ≡ true → (n == 2) ≡ false
not_both n h = ap (λ k. k == 2) (eqb-true n 1 h)

abbrev Sorts : List Bud → ℕ → ℕ → Type 0
Sorts buds base other = (l : Numbered) → fold placed l (numbered_group (read_carried buds base other)) ≡ fold placed l (first 1 base buds ++ first 2 other buds)

-- groups of a head, in front of what the others are in order of number
numbers_join : (xs ys : List Carried) → numbered_group (xs ++ ys) ≡ numbered_group xs ++ numbered_group ys
numbers_join xs ys = map-append (λ (c : Carried). (c.placed.sqnum, c.change)) xs ys

in_front : (xs ys : List Carried) (a b l : Numbered) → fold placed (fold placed l (numbered_group xs)) (numbered_group ys) ≡ fold placed (fold placed l (numbered_group xs)) (a ++ b)
    → fold placed l (numbered_group (xs ++ ys)) ≡ fold placed l ((numbered_group xs ++ a) ++ b)
in_front xs ys a b l e =
    ap (fold placed l) (numbers_join xs ys) ∙ fold-append placed l (numbered_group xs) (numbered_group ys) ∙ e
    ∙ sym (fold-append placed l (numbered_group xs) (a ++ b)) ∙ ap (fold placed l) (sym (append_assoc (numbered_group xs) a b))

past_the_other : (xs ys : List Carried) (a b l : Numbered) → are_other a (numbered_group xs) ≡ true → fold placed (fold placed l (numbered_group xs)) (numbered_group ys) ≡ fold placed (fold placed l (numbered_group xs)) (a ++ b)
    → fold placed l (numbered_group (xs ++ ys)) ≡ fold placed l (a ++ (numbered_group xs ++ b))
past_the_other xs ys a b l apart e =
    ap (fold placed l) (numbers_join xs ys) ∙ fold-append placed l (numbered_group xs) (numbered_group ys) ∙ e ∙ fold-append placed (fold placed l (numbered_group xs)) a b
    ∙ ap (λ (z : Numbered). fold placed z b) (sym (sorted_turned a (numbered_group xs) l apart)) ∙ sym (fold-append placed (fold placed l a) (numbered_group xs) b) ∙ sym (fold-append placed l a (numbered_group xs ++ b))

sorts : (buds : List Bud) (base other : ℕ) → are_other (first 1 base buds) (first 2 other buds) ≡ true → Sorts buds base other
sorts [] base other apart l = by base other
  where
    by : (n k : ℕ) → l ≡ fold placed l (first 1 n [] ++ first 2 k [])
    by zero zero = refl
    by zero (suc k) = refl
    by (suc n) zero = refl
    by (suc n) (suc k) = refl
sorts (bud ∷ buds) base other apart l = by (λ n k h z. sorts buds n k h z) (bud.head == 1) refl (bud.head == 2) refl
  where
    ones : List Carried
    ones = in_groups (take base bud.groups)

    twos : List Carried
    twos = in_groups (take other bud.groups)

    by : ((n k : ℕ) → are_other (first 1 n buds) (first 2 k buds) ≡ true → Sorts buds n k) → (one : Bool) → (bud.head == 1) ≡ one → (two : Bool) → (bud.head == 2) ≡ two
        → fold placed l (numbered_group (cond one (ones ++ read_carried buds (base - length bud.groups) other) (cond two (twos ++ read_carried buds base (other - length bud.groups)) (read_carried buds base other))))
        ≡ fold placed l (first 1 base (bud ∷ buds) ++ first 2 other (bud ∷ buds))
    by rest true here two second =
        let away = not_both bud.head here in
        let split = first_here 1 base bud buds here in
        let same = first_past 2 other bud buds away in
        let a : Numbered = first 1 (base - length bud.groups) buds in
        let b : Numbered = first 2 other buds in
        let h : are_other (numbered_group ones ++ a) b ≡ true = subst (λ (z : Numbered). are_other z b ≡ true) split (subst (λ (z : Numbered). are_other (first 1 base (bud ∷ buds)) z ≡ true) same apart) in
        in_front ones (read_carried buds (base - length bud.groups) other) a b l (rest (base - length bud.groups) other (others_left (numbered_group ones) a b h).1 (fold placed l (numbered_group ones)))
        ∙ ap (fold placed l) (ap (λ (z : Numbered). z ++ b) (sym split) ∙ ap (λ (z : Numbered). first 1 base (bud ∷ buds) ++ z) (sym same))
    by rest false first_away true here =
        let split = first_here 2 other bud buds here in
        let same = first_past 1 base bud buds first_away in
        let a : Numbered = first 1 base buds in
        let b : Numbered = first 2 (other - length bud.groups) buds in
        let h : are_other a (numbered_group twos ++ b) ≡ true = subst (λ (z : Numbered). are_other a z ≡ true) split (subst (λ (z : Numbered). are_other z (first 2 other (bud ∷ buds)) ≡ true) same apart) in
        let p = others_right a (numbered_group twos) b h in
        past_the_other twos (read_carried buds base (other - length bud.groups)) a b l p.0 (rest base (other - length bud.groups) p.1 (fold placed l (numbered_group twos)))
        ∙ ap (fold placed l) (ap (λ (z : Numbered). z ++ (numbered_group twos ++ b)) (sym same) ∙ ap (λ (z : Numbered). first 1 base (bud ∷ buds) ++ z) (sym split))
    by rest false first_away false second_away =
        let one = first_past 1 base bud buds first_away in
        let two = first_past 2 other bud buds second_away in
        let h = subst (λ (z : Numbered). are_other (first 1 base buds) z ≡ true) two (subst (λ (z : Numbered). are_other z (first 2 other (bud ∷ buds)) ≡ true) one apart) in
        rest base other h l ∙ ap (fold placed l) (ap (λ (z : Numbered). z ++ first 2 other buds) (sym one) ∙ ap (λ (z : Numbered). first 1 base (bud ∷ buds) ++ z) (sym two))

-- the first groups are among all
numbers_are : (groups : List (List Carried)) → flat_map numbered_group groups ≡ in_groups (map numbered_group groups)
numbers_are [] = refl
numbers_are (group ∷ groups) = ap (λ z. numbered_group group ++ z) (numbers_are groups)

head_split : (head n : ℕ) (buds : List Bud) → head_numbers buds head ≡ first head n buds ++ in_groups (drop n (map numbered_group (groups_of_head head buds)))
head_split head n buds =
    let groups : List Numbered = map numbered_group (groups_of_head head buds) in
    numbers_are (groups_of_head head buds) ∙ ap in_groups (sym (take-append-drop n groups)) ∙ flat_map-append (λ (g : Numbered). g) (take n groups) (drop n groups)

firsts_apart : (buds : List Bud) (base other : ℕ) → are_other (head_numbers buds 1) (head_numbers buds 2) ≡ true → are_other (first 1 base buds) (first 2 other buds) ≡ true
firsts_apart buds base other h =
    let left = subst (λ (z : Numbered). are_other z (head_numbers buds 2) ≡ true) (head_split 1 base buds) h in
    let one = (others_left (first 1 base buds) (in_groups (drop base (map numbered_group (groups_of_head 1 buds)))) (head_numbers buds 2) left).0 in
    let right = subst (λ (z : Numbered). are_other (first 1 base buds) z ≡ true) (head_split 2 other buds) one in
    (others_right (first 1 base buds) (first 2 other buds) (in_groups (drop other (map numbered_group (groups_of_head 2 buds)))) right).0

pub nodes_carry : (f : Faced) (parts : Parts) → AreChangesCarried f.view → are_other (head_numbers f.view.buds 1) (head_numbers f.view.buds 2) ≡ true → (fits : FitsFaced f parts)
    → AreRead (nodes_in_order parts.nodes) (by_number (read_changes f parts fits))
nodes_carry f parts carried apart fits =
    let buds : List Bud = f.view.buds in
    let cs : List Carried = read_carried buds fits.base fits.data_groups in
    let read = read_fold (nodes_of cs) (numbered_group cs) [] [] (all_read cs (carried_read buds fits.base fits.data_groups carried)) tt in
    let order = sorts buds fits.base fits.data_groups (firsts_apart buds fits.base fits.data_groups apart) [] in
    let end = ap (λ (z : Numbered). by_number (first 1 fits.base buds ++ z)) (sym (append-nil (first 2 fits.data_groups buds))) in
    subst (λ (nodes : List Placed). AreRead (nodes_in_order nodes) (by_number (read_changes f parts fits))) (sym (fits.nodes ∙ nodes_read buds fits.base fits.data_groups))
    (subst (AreRead (nodes_in_order (nodes_of cs))) (order ∙ end) read)
