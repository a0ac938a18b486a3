-- What the marks of a LEB say of lists.
use Rattle.std.proofs.Common.{◌≡◌, ℕ, Bool, true, false, List, [], ◌∷◌, map, refl, ap, sym, ◌∙◌}
use Rattle.std.specs.Prelude.{◌==◌, ◌&&◌, ◌||◌, not, fold, if◌then◌else◌}
use Rattle.std.specs.List.{list_all, list_any}
use Rattle.ubifs_base.specs.JournalHead.{head_number}
use Rattle.media_sys.specs.declared.branch.Branch.{Branch}
use Rattle.media_sys.specs.declared.ref_node.RefNode.{RefNode}
use Rattle.index_tree.specs.declared.leaf.Leaf.{Leaf}
use Rattle.image_space.specs.Uses.{leaf_seen, node_seen, reference_seen, unused, use_of}
use Rattle.image_space.specs.declared.leb_use.LebUse.{LebUse}

-- ---- of lists
-- one of them is in a LEB
abbrev pub any_node : ℕ → List Branch → Bool
any_node lnum nodes = list_any (λ (node : Branch). node.lnum == lnum) nodes

abbrev pub any_leaf : ℕ → List Leaf → Bool
any_leaf lnum leaves = list_any (λ (leaf : Leaf). leaf.lnum == lnum) leaves

-- one of them names a LEB
abbrev pub any_reference : ℕ → List RefNode → Bool
any_reference lnum references = list_any (λ (node : RefNode). node.lnum == lnum) references

-- one of them names it for another head than that of number 0
abbrev pub any_other : ℕ → List RefNode → Bool
any_other lnum references = list_any (λ (node : RefNode). (node.lnum == lnum) && not (head_number node.head == 0)) references

pub any_map : {X Y : Type 0} (p : Y → Bool) (f : X → Y) (xs : List X) → list_any p (map f xs) ≡ list_any (λ x. p (f x)) xs
any_map p f [] = refl
any_map p f (x ∷ xs) = ap (λ (b : Bool). p (f x) || b) (any_map p f xs)

or_none : (b : Bool) → (b || false) ≡ b
or_none true = refl
or_none false = refl

or_all : (b : Bool) → (b || true) ≡ true
or_all true = refl
or_all false = refl

or_assoc : (a b c : Bool) → ((a || b) || c) ≡ (a || (b || c))
or_assoc true b c = refl
or_assoc false b c = refl

-- ---- what a run over a list makes of marks
seen_node : (lnum : ℕ) (seen : LebUse) (node : Branch) → node_seen lnum seen node ≡ record seen { indexed = seen.indexed || (node.lnum == lnum) }
seen_node lnum seen node = by (node.lnum == lnum)
  where
    by : (b : Bool) → (if b then record seen { indexed = true } else seen) ≡ record seen { indexed = seen.indexed || b }
    by true = ap (λ (x : Bool). record seen { indexed = x }) (sym (or_all seen.indexed))
    by false = ap (λ (x : Bool). record seen { indexed = x }) (sym (or_none seen.indexed))

nodes_fold : (lnum : ℕ) (seen : LebUse) (nodes : List Branch) → fold (node_seen lnum) seen nodes ≡ record seen { indexed = seen.indexed || any_node lnum nodes }
nodes_fold lnum seen [] = ap (λ (x : Bool). record seen { indexed = x }) (sym (or_none seen.indexed))
nodes_fold lnum seen (node ∷ nodes) =
    ap (λ (u : LebUse). fold (node_seen lnum) u nodes) (seen_node lnum seen node) ∙ nodes_fold lnum (record seen { indexed = seen.indexed || (node.lnum == lnum) }) nodes
    ∙ ap (λ (x : Bool). record seen { indexed = x }) (or_assoc seen.indexed (node.lnum == lnum) (any_node lnum nodes))

seen_leaf : (lnum : ℕ) (seen : LebUse) (leaf : Leaf) → leaf_seen lnum seen leaf ≡ record seen { filled = seen.filled || (leaf.lnum == lnum) }
seen_leaf lnum seen leaf = by (leaf.lnum == lnum)
  where
    by : (b : Bool) → (if b then record seen { filled = true } else seen) ≡ record seen { filled = seen.filled || b }
    by true = ap (λ (x : Bool). record seen { filled = x }) (sym (or_all seen.filled))
    by false = ap (λ (x : Bool). record seen { filled = x }) (sym (or_none seen.filled))

leaves_fold : (lnum : ℕ) (seen : LebUse) (leaves : List Leaf) → fold (leaf_seen lnum) seen leaves ≡ record seen { filled = seen.filled || any_leaf lnum leaves }
leaves_fold lnum seen [] = ap (λ (x : Bool). record seen { filled = x }) (sym (or_none seen.filled))
leaves_fold lnum seen (leaf ∷ leaves) =
    ap (λ (u : LebUse). fold (leaf_seen lnum) u leaves) (seen_leaf lnum seen leaf) ∙ leaves_fold lnum (record seen { filled = seen.filled || (leaf.lnum == lnum) }) leaves
    ∙ ap (λ (x : Bool). record seen { filled = x }) (or_assoc seen.filled (leaf.lnum == lnum) (any_leaf lnum leaves))

seen_reference : (lnum : ℕ) (seen : LebUse) (node : RefNode)
    → reference_seen lnum seen node ≡ record seen { named = seen.named || (node.lnum == lnum); for_others = seen.for_others || ((node.lnum == lnum) && not (head_number node.head == 0)) }
seen_reference lnum seen node = by (node.lnum == lnum)
  where
    by : (b : Bool) → (if b then record seen { named = true; for_others = seen.for_others || not (head_number node.head == 0) } else seen) ≡ record seen { named = seen.named || b; for_others = seen.for_others || (b && not (head_number node.head == 0)) }
    by true = ap (λ (x : Bool). record seen { named = x; for_others = seen.for_others || not (head_number node.head == 0) }) (sym (or_all seen.named))
    by false = ap (λ (x : Bool). record seen { named = x }) (sym (or_none seen.named)) ∙ ap (λ (x : Bool). record seen { named = seen.named || false; for_others = x }) (sym (or_none seen.for_others))

references_fold : (lnum : ℕ) (seen : LebUse) (references : List RefNode)
    → fold (reference_seen lnum) seen references ≡ record seen { named = seen.named || any_reference lnum references; for_others = seen.for_others || any_other lnum references }
references_fold lnum seen [] = ap (λ (x : Bool). record seen { named = x }) (sym (or_none seen.named)) ∙ ap (λ (x : Bool). record seen { named = seen.named || false; for_others = x }) (sym (or_none seen.for_others))
references_fold lnum seen (node ∷ references) =
    ap (λ (u : LebUse). fold (reference_seen lnum) u references) (seen_reference lnum seen node)
    ∙ references_fold lnum (record seen { named = seen.named || (node.lnum == lnum); for_others = seen.for_others || ((node.lnum == lnum) && not (head_number node.head == 0)) }) references
    ∙ ap (λ (x : Bool). record seen { named = x; for_others = (seen.for_others || ((node.lnum == lnum) && not (head_number node.head == 0))) || any_other lnum references }) (or_assoc seen.named (node.lnum == lnum) (any_reference lnum references))
    ∙ ap (λ (x : Bool). record seen { named = seen.named || any_reference lnum (node ∷ references); for_others = x }) (or_assoc seen.for_others ((node.lnum == lnum) && not (head_number node.head == 0)) (any_other lnum references))

-- the marks of a LEB, one by one
abbrev pub facts_of : ℕ → List Branch → List RefNode → List Leaf → LebUse
facts_of lnum nodes references leaves = record { indexed = any_node lnum nodes; filled = any_leaf lnum leaves; named = any_reference lnum references; for_others = any_other lnum references }

pub use_facts : (lnum : ℕ) (nodes : List Branch) (references : List RefNode) (leaves : List Leaf) → use_of nodes references leaves lnum ≡ facts_of lnum nodes references leaves
use_facts lnum nodes references leaves =
    ap (λ (u : LebUse). fold (reference_seen lnum) (fold (leaf_seen lnum) u leaves) references) (nodes_fold lnum unused nodes)
    ∙ ap (λ (u : LebUse). fold (reference_seen lnum) u references) (leaves_fold lnum (record unused { indexed = any_node lnum nodes }) leaves)
    ∙ references_fold lnum (record unused { indexed = any_node lnum nodes; filled = any_leaf lnum leaves }) references

-- ---- the collector's
-- all references to a LEB are for the head of number 0 if none is for another
pub collectors_all : (lnum : ℕ) (references : List RefNode) → list_all (λ (node : RefNode). not (node.lnum == lnum) || (head_number node.head == 0)) references ≡ not (any_other lnum references)
collectors_all lnum [] = refl
collectors_all lnum (node ∷ references) =
    ap (λ (b : Bool). (not (node.lnum == lnum) || (head_number node.head == 0)) && b) (collectors_all lnum references) ∙ de_morgan (node.lnum == lnum) (head_number node.head == 0) (any_other lnum references)
  where
    de_morgan : (a b c : Bool) → ((not a || b) && not c) ≡ not ((a && not b) || c)
    de_morgan true true c = refl
    de_morgan true false c = refl
    de_morgan false b c = refl
