-- Each node of a text stands in the LEB, and a node of a master's type is a master.
use Rattle.std.proofs.Common.{◌≡◌, ℕ, List, [], ◌∷◌, ◌++◌, take, drop, ap, sym, ◌∙◌, subst, arith}
use Rattle.media_sys.specs.SystemNode.{padding, superblock, master, reference, index, commit_start, orphans, IsMaster}
use Rattle.media_sys.specs.declared.master.Master.{Master}
use Rattle.ubifs_base.specs.NodeType.{type_number}
use Rattle.ubifs_base.specs.declared.node_type.NodeType.TheVariants as types
use Rattle.leb_scan.specs.Text.{AnyNode, leaf, system, StandsAt, Stand, behind, nodes_of}
use Rattle.leb_scan.specs.TypeLaws.{leaf_low}
use Rattle.leb_scan.specs.declared.found.Found.{Found}
use Rattle.leb_scan.specs.declared.item.Item.{Item}
use Rattle.leb_scan.specs.declared.item.Item.TheVariants.{Node, Padding, Word}

-- a node that stands at the place that it tells
abbrev pub Stands : List ℕ → Found → Type 0
Stands leb found = (node : AnyNode) × StandsAt leb found.offs found node

placed : (leb : List ℕ) (place : ℕ) (first found : Found) (node : AnyNode) → first ≡ found → StandsAt leb place first node → Stands leb found
placed leb place first found node same stands =
    let P : ℕ → Type 0 = λ p. StandsAt leb p first node in
    let Q : Found → Type 0 = λ f. Stands leb f in
    subst Q same (node, subst P (sym stands.here) stands)

pub head_of : {X : Type 0} (x y : X) (xs ys : List X) → x ∷ xs ≡ y ∷ ys → (x ≡ y) × (xs ≡ ys)
head_of x y xs ys h = (cc, cc)

-- one of the nodes of items that stand there
pub stands_in : (leb : List ℕ) (items : List Item) (place end : ℕ) (before behind_it : List Found) (found : Found) → Stand leb place items end → nodes_of items ≡ before ++ (found ∷ behind_it) → Stands leb found
stands_in leb [] place end [] rest found h e = absurd cc
stands_in leb [] place end (b ∷ before) rest found h e = absurd cc
stands_in leb (Word ∷ items) place end before rest found h e = stands_in leb items (behind leb place Word) end before rest found h.1 e
stands_in leb (Node first ∷ items) place end [] rest found h e = placed leb place first found h.0.node (head_of first found (nodes_of items) rest e).0 h.0.stands
stands_in leb (Node first ∷ items) place end (b ∷ before) rest found h e =
    stands_in leb items (behind leb place (Node first)) end before rest found h.1 (head_of first b (nodes_of items) (before ++ (found ∷ rest)) e).1
stands_in leb (Padding first pad_len ∷ items) place end [] rest found h e = placed leb place first found _ (head_of first found (nodes_of items) rest e).0 h.0.stands
stands_in leb (Padding first pad_len ∷ items) place end (b ∷ before) rest found h e =
    stands_in leb items (behind leb place (Padding first pad_len)) end before rest found h.1 (head_of first b (nodes_of items) (before ++ (found ∷ rest)) e).1

-- a node of the type of masters is a master
pub master_there : (leb : List ℕ) (found : Found) → found.kind ≡ types.Master → Stands leb found → (node : Master) × IsMaster (take found.len (drop found.offs leb)) found.sqnum found.group node
master_there leb found kind (leaf node, h) = let k = ap type_number (sym h.kind ∙ kind) in let l = leaf_low node in absurd (omega (arith, k, l))
master_there leb found kind (system (master node), h) = (node, h.is)
master_there leb found kind (system (padding node), h) = let k = h.kind in absurd cc
master_there leb found kind (system (superblock node), h) = let k = h.kind in absurd cc
master_there leb found kind (system (reference node), h) = let k = h.kind in absurd cc
master_there leb found kind (system (index node), h) = let k = h.kind in absurd cc
master_there leb found kind (system (commit_start node), h) = let k = h.kind in absurd cc
master_there leb found kind (system (orphans node), h) = let k = h.kind in absurd cc
