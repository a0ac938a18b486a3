-- The nodes of texts stand at places of their own, which the log names.
use Rattle.std.proofs.Common.{◌≡◌, ℕ, suc, ◌+◌, ◌≤◌, ◌==◌, ◌&&◌, nat_le, min, Bool, true, false, cond, List, [], ◌∷◌, ◌++◌, length, length-take, take, drop, map, refl, ap, sym, ◌∙◌, subst, arith}
use Rattle.std.specs.List.{AllByRecursion}
use Rattle.std.proofs.lemmas.Bool.{and_from, and_right, eqb-true, eq-eqb, le-leb, or_left, or_right}
use Rattle.ubifs_base.specs.Node.{IsNode, node_bytes}
use Rattle.media_leaf.specs.LeafNode.{IsLeaf}
use Rattle.leb_scan.specs.Text.{AnyNode, IsAnyNode, StandsAt, Stand, behind, leaf, system, nodes_of, up_to_8}
use Rattle.leb_scan.specs.declared.found.Found.{Found}
use Rattle.leb_scan.specs.declared.item.Item.{Item}
use Rattle.leb_scan.specs.declared.item.Item.TheVariants.{Node, Padding, Word}
use Rattle.ubifs_base.specs.declared.journal_head.JournalHead.{JournalHead}
use Rattle.ubifs_base.specs.declared.journal_head.JournalHead.TheVariants.{Collector, Base, Data}
use Rattle.leaf_map.specs.Kept.{Placed, kept_at}
use Rattle.leaf_map.specs.Parts.{Named, in_bud}
use Rattle.journal_scan.specs.Journal.{AreLeaves, BudRead, IsBudRead, IsLeafAt, copies_in, if_changes, if_copies, is_unfinished, journal_nodes_in, nodes_taken_of, whole_groups}
use Rattle.journal_scan.specs.Places.{AreToldOnce, HasNamedPlace, HavePlaces, IsElsewhere, StandApart, at_one_place, named_by}
use Rattle.journal_scan.specs.declared.bud_text.BudText.{BudText}

-- ---- a node has a length
node_long : (sqnum kind group : ℕ) (padding body : List ℕ) → length padding ≡ 2 → 1 ≤ length (node_bytes sqnum kind group padding body)
unfolding node_bytes
node_long sqnum kind group [] body h = absurd (omega (arith, h))
node_long sqnum kind group (a ∷ []) body h = absurd (omega (arith, h))
node_long sqnum kind group (a ∷ b ∷ []) body h = omega arith
node_long sqnum kind group (a ∷ b ∷ c ∷ more) body h = absurd (omega (arith, h))

framed_long : (bytes : List ℕ) (sqnum kind group : ℕ) (body : List ℕ) → IsNode bytes sqnum kind group body → 1 ≤ length bytes
framed_long bytes sqnum kind group body h = subst (λ b. 1 ≤ length b) (sym h.spelled) (node_long sqnum kind group h.padding body h.two)

any_long : (bytes : List ℕ) (sqnum group : ℕ) (node : AnyNode) → IsAnyNode bytes sqnum group node → 1 ≤ length bytes
any_long bytes sqnum group (leaf node) h = framed_long bytes sqnum _ group h.body h.framed
any_long bytes sqnum group (system node) h = framed_long bytes sqnum _ group h.body h.framed

found_long : (leb : List ℕ) (place : ℕ) (found : Found) (node : AnyNode) → StandsAt leb place found node → 1 ≤ found.len
found_long leb place found node h =
    let long = any_long (take found.len (drop place leb)) found.sqnum found.group node h.is in
    let most = length-take found.len (drop place leb) in
    omega (arith, long, most)

-- ---- places rise
abbrev RiseFrom : ℕ → List Found → Type 0
RiseFrom low [] = Unit {0}
RiseFrom low (found ∷ founds) = (low ≤ found.offs) × RiseFrom (suc found.offs) founds

lower : (a b : ℕ) (founds : List Found) → a ≤ b → RiseFrom b founds → RiseFrom a founds
lower a b [] h r = tt
lower a b (found ∷ founds) h r = let first = r.0 in (omega (arith, h, first), r.1)

behind_node : (place len all : ℕ) → 1 ≤ len → place + len ≤ all → suc place ≤ min (up_to_8 (place + len)) all
behind_node place len all some room = omega (arith, some, room)

rises : (leb : List ℕ) (place end : ℕ) (items : List Item) → Stand leb place items end → RiseFrom place (nodes_of items)
rises leb place end [] h = tt
rises leb place end (Node found ∷ items) h =
    let here = h.0.stands.here in
    let next = behind_node place found.len (length leb) (found_long leb place found h.0.node h.0.stands) h.0.stands.room in
    (omega (arith, here), lower (suc found.offs) (behind leb place (Node found)) (nodes_of items) (omega (arith, here, next)) (rises leb (behind leb place (Node found)) end items h.1))
rises leb place end (Padding found pad_len ∷ items) h =
    let here = h.0.stands.here in
    (omega (arith, here), lower (suc found.offs) (behind leb place (Padding found pad_len)) (nodes_of items) (omega (arith, here)) (rises leb (behind leb place (Padding found pad_len)) end items h.1))
rises leb place end (Word ∷ items) h = lower place (behind leb place Word) (nodes_of items) (omega arith) (rises leb (behind leb place Word) end items h.1)

-- the leaf nodes of a LEB: in it, and at places that rise
abbrev InLeb : BudText → ℕ → List Placed → Type 0
InLeb bud low [] = Unit {0}
InLeb bud low (x ∷ nodes) = ((x.lnum ≡ bud.lnum) × (low ≤ x.offs) × IsLeaf x.node) × InLeb bud (suc x.offs) nodes

lower_in : (bud : BudText) (a b : ℕ) (nodes : List Placed) → a ≤ b → InLeb bud b nodes → InLeb bud a nodes
lower_in bud a b [] h r = tt
lower_in bud a b (x ∷ nodes) h r = let first = r.0.1 in ((r.0.0, omega (arith, h, first), r.0.2), r.1)

leaves_in : (bud : BudText) (low : ℕ) (founds : List Found) (nodes : List Placed) → RiseFrom low founds → AreLeaves bud founds nodes → InLeb bud low nodes
leaves_in bud low [] nodes r h = subst (InLeb bud low) (sym h) tt
leaves_in bud low (found ∷ founds) nodes r (own, rest, here, others, is) =
    subst (InLeb bud low) (sym is) (by own here (leaves_in bud (suc found.offs) founds rest r.1 others))
  where
    by : (own : List Placed) → IsLeafAt bud found own → InLeb bud (suc found.offs) rest → InLeb bud low (own ++ rest)
    by [] here more = let first = r.0 in lower_in bud low (suc found.offs) rest (omega (arith, first)) more
    by (x ∷ []) here more =
        let lnum : x.lnum ≡ bud.lnum = ap (λ (z : Placed). z.lnum) here.1 in
        let offs : x.offs ≡ found.offs = ap (λ (z : Placed). z.offs) here.1 in
        let first = r.0 in
        ((lnum, omega (arith, first, offs), here.0.is.is), lower_in bud (suc x.offs) (suc found.offs) rest (omega (arith, offs)) more)
    by (x ∷ y ∷ more_own) here more = absurd here

-- ---- one LEB
other_place : (x y : Placed) → suc x.offs ≤ y.offs → at_one_place x y ≡ false
other_place x y h = and_right (y.lnum == x.lnum) (y.offs == x.offs) (by (y.offs == x.offs) refl)
  where
    by : (b : Bool) → (y.offs == x.offs) ≡ b → b ≡ false
    by true e = let same = eqb-true y.offs x.offs e in absurd (omega (arith, h, same))
    by false e = refl

elsewhere : (bud : BudText) (x : Placed) (low : ℕ) (nodes : List Placed) → suc x.offs ≤ low → InLeb bud low nodes → IsElsewhere x nodes
elsewhere bud x low [] h r = tt
elsewhere bud x low (y ∷ nodes) h r =
    let first = r.0.1 in
    (other_place x y (omega (arith, h, first)), elsewhere bud x (suc y.offs) nodes (omega (arith, h, first)) r.1)

apart_in : (bud : BudText) (low : ℕ) (nodes : List Placed) → InLeb bud low nodes → StandApart nodes
apart_in bud low [] r = tt
apart_in bud low (x ∷ nodes) r = (elsewhere bud x (suc x.offs) nodes (omega arith) r.1, apart_in bud (suc x.offs) nodes r.1)

-- a leaf node stands in a LEB, from the offset on that the log names
abbrev IsIn : BudText → Placed → Type 0
IsIn bud x = (x.lnum ≡ bud.lnum) × (bud.from ≤ x.offs) × IsLeaf x.node

all_in : (bud : BudText) (low : ℕ) (nodes : List Placed) → bud.from ≤ low → InLeb bud low nodes → AllByRecursion (IsIn bud) nodes
all_in bud low [] h r = tt
all_in bud low (x ∷ nodes) h r = let first = r.0.1 in ((r.0.0, omega (arith, h, first), r.0.2), all_in bud (suc x.offs) nodes (omega (arith, h, first)) r.1)

-- ---- whole groups are some of the nodes
whole_all : (Q : Placed → Type 0) (nodes : List Placed) → AllByRecursion Q nodes → AllByRecursion Q (whole_groups nodes)
whole_all Q [] a = tt
whole_all Q (x ∷ nodes) a = by (is_unfinished (x ∷ nodes)) (whole_all Q nodes a.1)
  where
    by : (b : Bool) → AllByRecursion Q (whole_groups nodes) → AllByRecursion Q (cond b [] (x ∷ whole_groups nodes))
    by true more = tt
    by false more = (a.0, more)

whole_apart : (nodes : List Placed) → StandApart nodes → StandApart (whole_groups nodes)
whole_apart [] a = tt
whole_apart (x ∷ nodes) a = by (is_unfinished (x ∷ nodes)) (whole_apart nodes a.1)
  where
    by : (b : Bool) → StandApart (whole_groups nodes) → StandApart (cond b [] (x ∷ whole_groups nodes))
    by true more = tt
    by false more = (whole_all (λ y. at_one_place x y ≡ false) nodes a.0, more)

-- what is taken of a LEB stands in it, apart
record IsTakenOf (bud : BudText) (nodes : List Placed) : Type 0 where
  inside : AllByRecursion (IsIn bud) nodes
  apart : StandApart nodes

none_taken : (bud : BudText) → IsTakenOf bud []
none_taken bud = record { inside = tt; apart = tt }

of_text : (read : BudRead) → IsBudRead read → IsTakenOf read.bud read.nodes
of_text read is =
    let r = leaves_in read.bud read.bud.from (nodes_of is.items) read.nodes (rises read.bud.bytes read.bud.from is.end is.items is.text.stand) is.leaves in
    record { inside = all_in read.bud read.bud.from read.nodes (omega arith) r; apart = apart_in read.bud read.bud.from read.nodes r }

whole_taken : (bud : BudText) (nodes : List Placed) → IsTakenOf bud nodes → IsTakenOf bud (whole_groups nodes)
whole_taken bud nodes t = record { inside = whole_all (IsIn bud) nodes t.inside; apart = whole_apart nodes t.apart }

copies_taken : (bud : BudText) (head : JournalHead) (nodes : List Placed) → IsTakenOf bud nodes → IsTakenOf bud (if_copies head (nodes_taken_of head nodes))
copies_taken bud Collector nodes t = t
copies_taken bud Base nodes t = none_taken bud
copies_taken bud Data nodes t = none_taken bud

nodes_taken : (bud : BudText) (head : JournalHead) (nodes : List Placed) → IsTakenOf bud nodes → IsTakenOf bud (if_changes head (nodes_taken_of head nodes))
nodes_taken bud Collector nodes t = none_taken bud
nodes_taken bud Base nodes t = whole_taken bud nodes t
nodes_taken bud Data nodes t = whole_taken bud nodes t

-- of one LEB nodes are copies, or none is
one_kind : (head : JournalHead) (nodes : List Placed) → AllByRecursion (λ x. IsElsewhere x (if_changes head (nodes_taken_of head nodes))) (if_copies head (nodes_taken_of head nodes))
one_kind Collector nodes = nothing nodes
  where
    nothing : (xs : List Placed) → AllByRecursion (λ x. IsElsewhere x []) xs
    nothing [] = tt
    nothing (x ∷ xs) = (tt, nothing xs)
one_kind Base nodes = tt
one_kind Data nodes = tt

-- ---- all LEBs
-- some nodes of each LEB, one behind another
abbrev Pick : Type 0
Pick = BudRead → List Placed

abbrev picked : Pick → List BudRead → List Placed
picked pick [] = []
picked pick (x ∷ reads) = pick x ++ picked pick reads

abbrev pick_copies : Pick
pick_copies x = if_copies x.bud.head (nodes_taken_of x.bud.head x.nodes)

abbrev pick_nodes : Pick
pick_nodes x = if_changes x.bud.head (nodes_taken_of x.bud.head x.nodes)

copies_picked : (reads : List BudRead) → copies_in reads ≡ picked pick_copies reads
copies_picked [] = refl
copies_picked (x ∷ reads) = ap (λ zs. pick_copies x ++ zs) (copies_picked reads)

nodes_picked : (reads : List BudRead) → journal_nodes_in reads ≡ picked pick_nodes reads
nodes_picked [] = refl
nodes_picked (x ∷ reads) = ap (λ zs. pick_nodes x ++ zs) (nodes_picked reads)

all_append : (Q : Placed → Type 0) (xs ys : List Placed) → AllByRecursion Q xs → AllByRecursion Q ys → AllByRecursion Q (xs ++ ys)
all_append Q [] ys a b = b
all_append Q (x ∷ xs) ys a b = (a.0, all_append Q xs ys a.1 b)

-- no node of these LEBs stands in this one
abbrev AreOthers : BudText → List BudRead → Type 0
AreOthers bud [] = Unit {0}
AreOthers bud (x ∷ reads) = ((x.bud.lnum == bud.lnum) ≡ false) × AreOthers bud reads

others_of : (bud : BudText) (reads : List BudRead) → AllByRecursion (λ (other : BudText). (other.lnum == bud.lnum) ≡ false) (map (λ (x : BudRead). x.bud) reads) → AreOthers bud reads
others_of bud [] h = tt
others_of bud (x ∷ reads) h = (h.0, others_of bud reads h.1)

-- of each LEB what is taken stands in it
abbrev AreTaken : Pick → List BudRead → Type 0
AreTaken pick [] = Unit {0}
AreTaken pick (x ∷ reads) = IsTakenOf x.bud (pick x) × AreTaken pick reads

apart_lebs : (a b : BudText) (x y : Placed) → (b.lnum == a.lnum) ≡ false → IsIn a x → IsIn b y → at_one_place x y ≡ false
apart_lebs a b x y h i j = by (y.lnum == x.lnum) refl
  where
    by : (c : Bool) → (y.lnum == x.lnum) ≡ c → (c && (y.offs == x.offs)) ≡ false
    by true e =
        let same = eqb-true y.lnum x.lnum e in
        let is : b.lnum ≡ a.lnum = sym j.0 ∙ same ∙ i.0 in
        absurd (not_both (b.lnum == a.lnum) h (eq-eqb b.lnum a.lnum is))
      where
        not_both : (d : Bool) → d ≡ false → d ≡ true → ⊥
        not_both true e f = absurd cc
        not_both false e f = absurd cc
    by false e = refl

from_other : (a b : BudText) (x : Placed) (ys : List Placed) → (b.lnum == a.lnum) ≡ false → IsIn a x → AllByRecursion (IsIn b) ys → IsElsewhere x ys
from_other a b x [] h i j = tt
from_other a b x (y ∷ ys) h i j = (apart_lebs a b x y h i j.0, from_other a b x ys h i j.1)

from_others : (pick : Pick) (bud : BudText) (x : Placed) (reads : List BudRead) → AreOthers bud reads → IsIn bud x → AreTaken pick reads → IsElsewhere x (picked pick reads)
from_others pick bud x [] h i t = tt
from_others pick bud x (r ∷ reads) h i t = all_append (λ y. at_one_place x y ≡ false) (pick r) (picked pick reads) (from_other bud r.bud x (pick r) h.0 i t.0.inside) (from_others pick bud x reads h.1 i t.1)

all_elsewhere : (pick : Pick) (bud : BudText) (xs : List Placed) (reads : List BudRead) → AreOthers bud reads → AllByRecursion (IsIn bud) xs → AreTaken pick reads → AllByRecursion (λ x. IsElsewhere x (picked pick reads)) xs
all_elsewhere pick bud [] reads h i t = tt
all_elsewhere pick bud (x ∷ xs) reads h i t = (from_others pick bud x reads h i.0 t, all_elsewhere pick bud xs reads h i.1 t)

apart_append : (xs ys : List Placed) → StandApart xs → AllByRecursion (λ x. IsElsewhere x ys) xs → StandApart ys → StandApart (xs ++ ys)
apart_append [] ys a e b = b
apart_append (x ∷ xs) ys a e b = (all_append (λ y. at_one_place x y ≡ false) xs ys a.0 e.0, apart_append xs ys a.1 e.1 b)

-- each LEB is another
abbrev Differ : List BudRead → Type 0
Differ [] = Unit {0}
Differ (x ∷ reads) = AreOthers x.bud reads × Differ reads

differ_of : (reads : List BudRead) → AreToldOnce (map (λ (x : BudRead). x.bud) reads) → Differ reads
differ_of [] h = tt
differ_of (x ∷ reads) h = (others_of x.bud reads h.0, differ_of reads h.1)

picked_apart : (pick : Pick) (reads : List BudRead) → Differ reads → AreTaken pick reads → StandApart (picked pick reads)
picked_apart pick [] d t = tt
picked_apart pick (x ∷ reads) d t =
    apart_append (pick x) (picked pick reads) t.0.apart (all_elsewhere pick x.bud (pick x) reads d.0 t.0.inside t.1) (picked_apart pick reads d.1 t.1)

-- ---- copies beside other nodes
turned : (x y : Placed) → at_one_place x y ≡ at_one_place y x
turned x y = ap (λ b. b && (y.offs == x.offs)) (same y.lnum x.lnum) ∙ ap (λ b. (x.lnum == y.lnum) && b) (same y.offs x.offs)
  where
    same : (a b : ℕ) → (a == b) ≡ (b == a)
    same a b = by (a == b) refl (b == a) refl
      where
        by : (c : Bool) → (a == b) ≡ c → (d : Bool) → (b == a) ≡ d → c ≡ d
        by true e true f = refl
        by true e false f = let no : true ≡ false = sym (eq-eqb b a (sym (eqb-true a b e))) ∙ f in absurd cc
        by false e true f = let no : true ≡ false = sym (eq-eqb a b (sym (eqb-true b a f))) ∙ e in absurd cc
        by false e false f = refl

all_with : (Q : Placed → Type 0) (R : Placed → Type 0) → ((x : Placed) → Q x → R x) → (xs : List Placed) → AllByRecursion Q xs → AllByRecursion R xs
all_with Q R f [] a = tt
all_with Q R f (x ∷ xs) a = (f x a.0, all_with Q R f xs a.1)

-- each of the first stands elsewhere than each of the second
abbrev Beside : List Placed → List Placed → Type 0
Beside xs ys = AllByRecursion (λ x. IsElsewhere x ys) xs

beside_first : (x : Placed) (xs ys : List Placed) → Beside xs ys → AllByRecursion (λ y. at_one_place y x ≡ false) xs → Beside xs (x ∷ ys)
beside_first x [] ys b a = tt
beside_first x (z ∷ xs) ys b a = ((a.0, b.0), beside_first x xs ys b.1 a.1)

none_beside : (xs : List Placed) → Beside xs []
none_beside [] = tt
none_beside (x ∷ xs) = (tt, none_beside xs)

beside_turned : (xs ys : List Placed) → Beside xs ys → Beside ys xs
beside_turned [] ys b = none_beside ys
beside_turned (x ∷ xs) ys b = beside_first x ys xs (beside_turned xs ys b.1) (all_with (λ y. at_one_place x y ≡ false) (λ y. at_one_place y x ≡ false) (λ y e. sym (turned x y) ∙ e) ys b.0)

beside_append : (xs ys zs : List Placed) → Beside xs ys → Beside xs zs → Beside xs (ys ++ zs)
beside_append [] ys zs a b = tt
beside_append (x ∷ xs) ys zs a b = (all_append (λ y. at_one_place x y ≡ false) ys zs a.0 b.0, beside_append xs ys zs a.1 b.1)

all_beside : (xs ys zs : List Placed) → Beside xs zs → Beside ys zs → Beside (xs ++ ys) zs
all_beside xs ys zs a b = all_append (λ x. IsElsewhere x zs) xs ys a b

picked_beside : (reads : List BudRead) → Differ reads → AreTaken pick_copies reads → AreTaken pick_nodes reads → Beside (picked pick_copies reads) (picked pick_nodes reads)
picked_beside [] d s t = tt
picked_beside (x ∷ reads) d s t =
    let here : Beside (pick_copies x) (pick_nodes x) = one_kind x.bud.head x.nodes in
    let later : Beside (pick_copies x) (picked pick_nodes reads) = all_elsewhere pick_nodes x.bud (pick_copies x) reads d.0 s.0.inside t.1 in
    let earlier : Beside (picked pick_copies reads) (pick_nodes x) = beside_turned (pick_nodes x) (picked pick_copies reads) (all_elsewhere pick_copies x.bud (pick_nodes x) reads d.0 t.0.inside s.1) in
    all_beside (pick_copies x) (picked pick_copies reads) (pick_nodes x ++ picked pick_nodes reads)
    (beside_append (pick_copies x) (pick_nodes x) (picked pick_nodes reads) here later)
    (beside_append (picked pick_copies reads) (pick_nodes x) (picked pick_nodes reads) earlier (picked_beside reads d.1 s.1 t.1))

-- ---- places that the log names
named_first : (bud : BudText) (named : List Named) (x : Placed) → IsIn bud x → HasNamedPlace (named_by bud ∷ named) x
named_first bud named x i =
    or_left ((bud.lnum == x.lnum) && nat_le bud.from x.offs) (in_bud named (kept_at x).leaf)
    (and_from (bud.lnum == x.lnum) (nat_le bud.from x.offs) (eq-eqb bud.lnum x.lnum (sym i.0)) (le-leb bud.from x.offs i.1))

named_later : (bud : BudText) (named : List Named) (x : Placed) → HasNamedPlace named x → HasNamedPlace (named_by bud ∷ named) x
named_later bud named x h = or_right ((bud.lnum == x.lnum) && nat_le bud.from x.offs) (in_bud named (kept_at x).leaf) h

picked_named : (pick : Pick) (reads : List BudRead) → AreTaken pick reads → AllByRecursion (HasNamedPlace (map named_by (map (λ (x : BudRead). x.bud) reads))) (picked pick reads)
picked_named pick [] t = tt
picked_named pick (x ∷ reads) t =
    let named : List Named = map named_by (map (λ (y : BudRead). y.bud) reads) in
    all_append (HasNamedPlace (named_by x.bud ∷ named)) (pick x) (picked pick reads)
    (all_with (IsIn x.bud) (HasNamedPlace (named_by x.bud ∷ named)) (named_first x.bud named) (pick x) t.0.inside)
    (all_with (HasNamedPlace named) (HasNamedPlace (named_by x.bud ∷ named)) (named_later x.bud named) (picked pick reads) (picked_named pick reads t.1))

picked_leaves : (pick : Pick) (reads : List BudRead) → AreTaken pick reads → AllByRecursion (λ x. IsLeaf x.node) (picked pick reads)
picked_leaves pick [] t = tt
picked_leaves pick (x ∷ reads) t = all_append (λ y. IsLeaf y.node) (pick x) (picked pick reads) (all_with (IsIn x.bud) (λ y. IsLeaf y.node) (λ y i. i.2) (pick x) t.0.inside) (picked_leaves pick reads t.1)

-- ---- all of it
all_copies : (reads : List BudRead) → AllByRecursion IsBudRead reads → AreTaken pick_copies reads
all_copies [] a = tt
all_copies (x ∷ reads) a = (copies_taken x.bud x.bud.head x.nodes (of_text x a.0), all_copies reads a.1)

all_nodes : (reads : List BudRead) → AllByRecursion IsBudRead reads → AreTaken pick_nodes reads
all_nodes [] a = tt
all_nodes (x ∷ reads) a = (nodes_taken x.bud x.bud.head x.nodes (of_text x a.0), all_nodes reads a.1)

pub have_places : (buds : List BudText) (reads : List BudRead) → AreToldOnce buds → map (λ (x : BudRead). x.bud) reads ≡ buds → AllByRecursion IsBudRead reads → HavePlaces (map named_by buds) (copies_in reads) (journal_nodes_in reads)
have_places buds reads once of_buds texts =
    let differ = differ_of reads (subst AreToldOnce (sym of_buds) once) in
    let s = all_copies reads texts in
    let t = all_nodes reads texts in
    let cs : picked pick_copies reads ≡ copies_in reads = sym (copies_picked reads) in
    let ns : picked pick_nodes reads ≡ journal_nodes_in reads = sym (nodes_picked reads) in
    subst (λ (bs : List BudText). HavePlaces (map named_by bs) (copies_in reads) (journal_nodes_in reads)) of_buds
    (subst (λ (xs : List Placed). HavePlaces (map named_by (map (λ (x : BudRead). x.bud) reads)) xs (journal_nodes_in reads)) cs
    (subst (λ (ys : List Placed). HavePlaces (map named_by (map (λ (x : BudRead). x.bud) reads)) (picked pick_copies reads) ys) ns (record {
      copies_apart = picked_apart pick_copies reads differ s;
      nodes_apart = picked_apart pick_nodes reads differ t;
      beside = picked_beside reads differ s t;
      copies_named = picked_named pick_copies reads s;
      nodes_named = picked_named pick_nodes reads t;
      leaf_nodes = picked_leaves pick_nodes reads t;
    })))

pub are_leaves : (reads : List BudRead) → AllByRecursion IsBudRead reads → AllByRecursion (λ x. IsLeaf x.node) (journal_nodes_in reads)
are_leaves reads texts = subst (λ (xs : List Placed). AllByRecursion (λ x. IsLeaf x.node) xs) (sym (nodes_picked reads)) (picked_leaves pick_nodes reads (all_nodes reads texts))
