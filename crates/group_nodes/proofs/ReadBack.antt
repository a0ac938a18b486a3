-- Where the bytes of a group stand, its nodes stand.
use Rattle.std.proofs.Common.{◌≡◌, ℕ, suc, ◌+◌, ◌-◌, ◌%◌, ◌^◌, ◌<◌, ◌≤◌, Bool, true, false, cond, ◌&&◌, List, [], ◌∷◌, ◌++◌, length, take, drop, replicate, refl, ap, sym, ◌∙◌, subst, arith, length-append, length-drop, length-take, drop-drop}
use Rattle.std.specs.Prelude.{◌==◌}
use Rattle.std.specs.Bool.{IsTrue}
use Rattle.std.specs.List.{list_all}
use Rattle.std.proofs.lemmas.List.{take-take, drop-take}
use Rattle.std.proofs.Math.Seq.{take-append_seam, drop-append_seam}
use Rattle.ubifs_base.specs.NodeType.{type_number}
use Rattle.node_fields.specs.FormLaws.{written_is}
use Rattle.media_leaf.specs.LeafNode.{LeafNode, inode, block, entry, truncation, leaf_form, written, IsLeafNode}
use Rattle.leb_scan.specs.declared.found.Found.{Found}
use Rattle.leb_scan.specs.declared.item.Item.{Item}
use Rattle.leb_scan.specs.declared.item.Item.TheVariants.{Node}
use Rattle.leb_scan.specs.TypeLaws.{leaf_low}
use Rattle.leb_scan.specs.Text.{leaf, leaf_type, StandsAt, IsNodeAt, Stand, behind, nodes_of}
use Rattle.fs_model.specs.declared.change.Change.{Change}
use Rattle.fs_model.specs.Backing.{is_node}
use Rattle.fs_model.specs.Cover.{round_8}
use Rattle.group_nodes.specs.Nodes.{node_of}
use Rattle.group_nodes.specs.NodeLaws.{leaf_of_node, node_carries}
use Rattle.group_nodes.specs.Texts.{leaf_len, leaf_text}
use Rattle.group_nodes.specs.TextLaws.{width, length-written, length-leaf_text}
use Rattle.group_nodes.specs.Groups.{group_type, texts_from, group_text, AreCarried, IsGroupAt}
use Rattle.group_nodes.proofs.Fits.{node_fits, node_short, node_type}

-- these bytes stand at this place
abbrev There : List ℕ → ℕ → List ℕ → Type 0
There leb place bytes = take (length bytes) (drop place leb) ≡ bytes

-- two pieces that stand behind one another
front_there : (leb : List ℕ) (place : ℕ) (front back : List ℕ) → There leb place (front ++ back) → There leb place front
front_there leb place front back h =
    let both = length-append front back in
    sym (take-take (length front) (length (front ++ back)) (drop place leb) (omega (arith, both)))
    ∙ ap (take (length front)) h
    ∙ take-append_seam front back

back_there : (leb : List ℕ) (place : ℕ) (front back : List ℕ) → There leb place (front ++ back) → There leb (place + length front) back
back_there leb place front back h =
    let rest = drop place leb in
    ap (take (length back)) (sym (drop-drop (length front) place leb))
    ∙ sym (drop-take (length front) (length back) rest)
    ∙ ap (λ (n : ℕ). drop (length front) (take n rest)) (sym (length-append front back))
    ∙ ap (drop (length front)) h
    ∙ drop-append_seam front back

-- they are inside
inside : (leb : List ℕ) (place : ℕ) (bytes : List ℕ) → 1 ≤ length bytes → There leb place bytes → place + length bytes ≤ length leb
inside leb place bytes some h =
    let all = ap length h in
    let cut = length-take (length bytes) (drop place leb) in
    let rest = length-drop place leb in
    omega (arith, some, all, cut, rest)

group_type-known : (n i : ℕ) → group_type n i ≤ 2
group_type-known n i = by (n == 1) (suc i == n)
  where
    by : (only last : Bool) → cond only 0 (cond last 2 1) ≤ 2
    by true last = omega arith
    by false true = omega arith
    by false false = omega arith

-- what is found of the node of a change
abbrev found_of : ℕ → ℕ → ℕ → LeafNode → Found
found_of place sqnum group node = record { offs = place; len = leaf_len node; kind = leaf_type node; group = group; sqnum = sqnum }

least_len : (node : LeafNode) → 48 ≤ leaf_len node
least_len (inode node) = omega arith
least_len (block node) = omega arith
least_len (entry node) = omega arith
least_len (truncation node) = omega arith

text_front : (leb : List ℕ) (place sqnum group : ℕ) (node : LeafNode) → There leb place (leaf_text sqnum group node) → There leb place (written sqnum group node)
unfolding leaf_text
text_front leb place sqnum group node h =
    let bytes = written sqnum group node in
    front_there leb place bytes (replicate (round_8 (length bytes) - length bytes) 0xCE) h

in_grammar : (change : Change) (sqnum group : ℕ) → IsTrue (is_node change) → sqnum < 2 ^ 64 → group ≤ 2 → IsLeafNode (written sqnum group (node_of change)) sqnum group (node_of change)
in_grammar change sqnum group is fits known =
    let node = node_of change in
    let type = node_type change in
    let short = node_short change is in
    let wide = width node in
    written_is leaf_form sqnum group node fits known (omega (arith, type)) (node_fits change is) (omega (arith, short, wide)) (leaf_of_node change is)

-- one node
stands : (leb : List ℕ) (place sqnum group : ℕ) (change : Change) → IsTrue (is_node change) → sqnum < 2 ^ 64 → group ≤ 2 → There leb place (leaf_text sqnum group (node_of change))
    → StandsAt leb place (found_of place sqnum group (node_of change)) (leaf (node_of change))
stands leb place sqnum group change is fits known h =
    let node = node_of change in
    let bytes = written sqnum group node in
    let front : There leb place bytes = text_front leb place sqnum group node h in
    let len : length bytes ≡ leaf_len node = length-written sqnum group node in
    let least = least_len node in
    let room = inside leb place bytes (omega (arith, len, least)) front in
    let there : take (leaf_len node) (drop place leb) ≡ bytes = ap (λ (n : ℕ). take n (drop place leb)) (sym len) ∙ front in
    let P : List ℕ → Type 0 = λ b. IsLeafNode b sqnum group node in
    record { here = refl; room = omega (arith, room, len); kind = refl; is = subst P (sym there) (in_grammar change sqnum group is fits known) }

node_at : (leb : List ℕ) (place sqnum group : ℕ) (change : Change) → IsTrue (is_node change) → sqnum < 2 ^ 64 → group ≤ 2 → There leb place (leaf_text sqnum group (node_of change))
    → IsNodeAt leb place (found_of place sqnum group (node_of change))
node_at leb place sqnum group change is fits known h =
    let type = leaf_low (node_of change) in
    record { node = leaf (node_of change); stands = stands leb place sqnum group change is fits known h; other = λ e. let five = ap type_number e in omega (arith, five, type) }

ends_at : (leb : List ℕ) (place sqnum group : ℕ) (node : LeafNode) → place % 8 ≡ 0 → There leb place (leaf_text sqnum group node)
    → behind leb place (Node (found_of place sqnum group node)) ≡ place + length (leaf_text sqnum group node)
ends_at leb place sqnum group node even h =
    let len = length-leaf_text sqnum group node in
    let least = least_len node in
    let room = inside leb place (leaf_text sqnum group node) (omega (arith, len, least)) h in
    omega (arith, even, len, room)

-- ---- the nodes of changes
record AreFrom (leb : List ℕ) (place n i sqnum : ℕ) (changes : List Change) : Type 0 where
  pub items : List Item
  pub stand : Stand leb place items (place + length (texts_from n i sqnum changes))
  pub carried : AreCarried leb (nodes_of items) n i sqnum changes

and_first : (a b : Bool) → IsTrue (a && b) → IsTrue a
and_first true b h = refl
and_first false b h = h

and_second : (a b : Bool) → IsTrue (a && b) → IsTrue b
and_second true b h = h
and_second false b h = absurd cc

-- the first of changes that are nodes is a node
pub first_is : (changes : List Change) (first : Change) (rest : List Change) → IsTrue (list_all is_node changes) → changes ≡ first ∷ rest → IsTrue (is_node first)
first_is changes first rest h is = let P : List Change → Type 0 = λ all. IsTrue (list_all is_node all) in and_first (is_node first) (list_all is_node rest) (subst P is h)

more_from : (leb : List ℕ) (place n i sqnum : ℕ) (change : Change) (changes : List Change) → place % 8 ≡ 0 → sqnum + 1 < 2 ^ 64 → IsTrue (is_node change)
    → There leb place (texts_from n i sqnum (change ∷ changes))
    → AreFrom leb (place + length (leaf_text (sqnum + 1) (group_type n i) (node_of change))) n (suc i) (sqnum + 1) changes
    → AreFrom leb place n i sqnum (change ∷ changes)
more_from leb place n i sqnum change changes even fits is h more =
    let number = sqnum + 1 in
    let group = group_type n i in
    let node = node_of change in
    let text = leaf_text number group node in
    let rest = texts_from n (suc i) number changes in
    let found = found_of place number group node in
    let front : There leb place text = front_there leb place text rest h in
    let both = length-append text rest in
    let next : place + length text ≡ behind leb place (Node found) = sym (ends_at leb place number group node even front) in
    let last : place + length text + length rest ≡ place + length (text ++ rest) = omega (arith, both) in
    let P : ℕ → Type 0 = λ p. Stand leb p more.items (place + length (text ++ rest)) in
    let Q : ℕ → Type 0 = λ e. Stand leb (place + length text) more.items e in
    record {
      items = Node found ∷ more.items;
      stand = (node_at leb place number group change is fits (group_type-known n i) front, subst P next (subst Q last more.stand));
      carried = (
        record {
          node = node;
          stands = stands leb place number group change is fits (group_type-known n i) front;
          carries = node_carries change is;
          sqnum = refl;
          group_is = refl;
        },
        more.carried,
      );
    }

from : (leb : List ℕ) (place n i sqnum : ℕ) (changes : List Change) → place % 8 ≡ 0 → sqnum + length changes < 2 ^ 64 → IsTrue (list_all is_node changes)
    → There leb place (texts_from n i sqnum changes) → AreFrom leb place n i sqnum changes
from leb place n i sqnum [] even fits are h = record { items = []; stand = omega arith; carried = tt }
from leb place n i sqnum (change ∷ changes) even fits are h =
    let number = sqnum + 1 in
    let text = leaf_text number (group_type n i) (node_of change) in
    let len = length-leaf_text number (group_type n i) (node_of change) in
    more_from leb place n i sqnum change changes even (omega (arith, fits)) (and_first (is_node change) (list_all is_node changes) are) h
    (from leb (place + length text) n (suc i) number changes (omega (arith, even, len)) (omega (arith, fits)) (and_second (is_node change) (list_all is_node changes) are)
    (back_there leb place text (texts_from n (suc i) number changes) h))

pub read_back : (leb : List ℕ) (place sqnum : ℕ) (group : List Change) → place % 8 ≡ 0 → sqnum + length group < 2 ^ 64 → IsTrue (list_all is_node group)
    → take (length (group_text sqnum group)) (drop place leb) ≡ group_text sqnum group → IsGroupAt leb place sqnum group
read_back leb place sqnum group even fits are h =
    let all = from leb place (length group) 0 sqnum group even fits are h in
    record { items = all.items; stand = all.stand; carried = all.carried }
