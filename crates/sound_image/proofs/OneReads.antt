-- Contents say one list of committed leaves, one of orphans, and one text of each bud.
use Rattle.std.proofs.Common.{◌≡◌, ℕ, zero, suc, ◌+◌, Bool, true, false, List, [], ◌∷◌, ◌++◌, Option, Some, None, take, drop, refl, ap, sym, ◌∙◌, subst, inl, inr}
use Rattle.std.specs.Prelude.{if◌then◌else◌}
use Rattle.std.specs.List.{AllByRecursion}
use Rattle.ubifs_base.specs.NodeLaws.{IsBytes}
use Rattle.ubifs_base.specs.declared.node_type.NodeType.TheVariants as types
use Rattle.media_leaf.specs.LeafNode.{IsLeafNode, LeafNode, inode, block, entry, truncation, type_of}
use Rattle.media_sys.specs.Orphans.{Orphans}
use Rattle.media_sys.specs.SystemNode.{node_type, orphans, padding}
use Rattle.leb_scan.specs.Text.{AnyNode, Stand, StandsAt, behind, leaf, nodes_of, system}
use Rattle.leb_scan.specs.declared.found.Found.{Found}
use Rattle.leb_scan.specs.declared.item.Item.{Item}
use Rattle.leb_scan.specs.declared.item.Item.TheVariants.{Node, Padding, Word}
use Rattle.small_areas.specs.MasterLaws.{OneNode, OneText}
use Rattle.small_areas.specs.Orphans.{AreListed, AreOrphans, HasOrphans, IsOrphansAt}
use Rattle.bud_log.specs.Bytes.{bytes_drop, bytes_take}
use Rattle.index_tree.specs.declared.leaf.Leaf.{Leaf}
use Rattle.journal_scan.specs.Stands.{HasNode}
use Rattle.leaf_map.specs.Kept.{Placed}
use Rattle.leaf_map.specs.Parts.{Committed}
use Rattle.sound_image.specs.Leaves.{AreCommitted, IsFoundAt, IsPlaceOf, IsPlacedIn}
use Rattle.sound_image.proofs.KnownNodes.{one_frame}

-- bytes are at most one leaf node
abbrev pub OneLeaf : Type 0
OneLeaf = (bytes : List ℕ) (s1 g1 s2 g2 : ℕ) (n1 n2 : LeafNode) → IsBytes bytes → IsLeafNode bytes s1 g1 n1 → IsLeafNode bytes s2 g2 n2 → (s1 ≡ s2) × (g1 ≡ g2) × (n1 ≡ n2)

pub part_bytes : (n from : ℕ) (leb : List ℕ) → IsBytes leb → IsBytes (take n (drop from leb))
part_bytes n from leb fits = bytes_take n (drop from leb) (bytes_drop from leb fits)

-- ---- committed leaves
placed_same : (n1 n2 : LeafNode) (s1 s2 g1 g2 l1 l2 o1 o2 e1 e2 : ℕ) → n1 ≡ n2 → s1 ≡ s2 → g1 ≡ g2 → l1 ≡ l2 → o1 ≡ o2 → e1 ≡ e2
    → let a : Placed = record { node = n1; sqnum = s1; group = g1; lnum = l1; offs = o1; len = e1 } in
    let b : Placed = record { node = n2; sqnum = s2; group = g2; lnum = l2; offs = o2; len = e2 } in
    a ≡ b
placed_same n1 n2 s1 s2 g1 g2 l1 l2 o1 o2 e1 e2 n s g l o e = rw (n, s, g, l, o, e) refl

one_placed_node : OneLeaf → (contents : ℕ → List ℕ) (leaf : Leaf) (a b : Placed) → ((k : ℕ) → IsBytes (contents k)) → IsPlaceOf leaf a → IsPlacedIn contents a → IsPlaceOf leaf b → IsPlacedIn contents b → a ≡ b
one_placed_node one contents place a b fits x p y q =
    let lnum = x.lnum ∙ sym y.lnum in
    let offs = x.offs ∙ sym y.offs in
    let len = x.len ∙ sym y.len in
    let P : ℕ → Type 0 = λ n. IsLeafNode (take n (drop a.offs (contents a.lnum))) a.sqnum a.group a.node in
    let Q : ℕ → Type 0 = λ n. IsLeafNode (take b.len (drop n (contents a.lnum))) a.sqnum a.group a.node in
    let R : ℕ → Type 0 = λ n. IsLeafNode (take b.len (drop b.offs (contents n))) a.sqnum a.group a.node in
    let same = one (take b.len (drop b.offs (contents b.lnum))) a.sqnum a.group b.sqnum b.group a.node b.node (part_bytes b.len b.offs (contents b.lnum) (fits b.lnum)) (subst R lnum (subst Q offs (subst P len p.is))) q.is in
    placed_same a.node b.node a.sqnum b.sqnum a.group b.group a.lnum b.lnum a.offs b.offs a.len b.len same.2 same.0 same.1 lnum offs len

one_found : OneLeaf → (contents : ℕ → List ℕ) (leaf : Leaf) (a b : Option Placed) → ((k : ℕ) → IsBytes (contents k)) → IsFoundAt contents leaf a → IsFoundAt contents leaf b → a ≡ b
one_found one contents place None None fits h k = refl
one_found one contents place None (Some b) fits h k = absurd (h b k.0 k.1)
one_found one contents place (Some a) None fits h k = absurd (k a h.0 h.1)
one_found one contents place (Some a) (Some b) fits h k = ap Some (one_placed_node one contents place a b fits h.0 h.1 k.0 k.1)

committed_same : (l1 l2 : Leaf) (f1 f2 : Option Placed) → l1 ≡ l2 → f1 ≡ f2
    → let a : Committed = record { leaf = l1; found = f1 } in
    let b : Committed = record { leaf = l2; found = f2 } in
    a ≡ b
committed_same l1 l2 f1 f2 l f = rw (l, f) refl

pub one_committed : OneLeaf → (contents : ℕ → List ℕ) (leaves : List Leaf) (a b : List Committed) → ((k : ℕ) → IsBytes (contents k)) → AreCommitted contents leaves a → AreCommitted contents leaves b → a ≡ b
one_committed one contents [] [] [] fits h k = refl
one_committed one contents [] [] (y ∷ b) fits h k = absurd k
one_committed one contents [] (x ∷ a) b fits h k = absurd h
one_committed one contents (place ∷ leaves) [] b fits h k = absurd h
one_committed one contents (place ∷ leaves) (x ∷ a) [] fits h k = absurd k
one_committed one contents (place ∷ leaves) (x ∷ a) (y ∷ b) fits h k =
    let same = committed_same x.leaf y.leaf x.found y.found (h.0 ∙ sym k.0) (one_found one contents place x.found y.found fits h.1 k.1) in
    ap (λ (z : Committed). z ∷ a) same ∙ ap (λ (zs : List Committed). y ∷ zs) (one_committed one contents leaves a b fits h.2 k.2)

-- ---- orphans
orphans_same : (m n : Orphans) → orphans m ≡ orphans n → m ≡ n
orphans_same m n h = cc

three_or_two : (attribute : Bool) → ◌≡◌ {A = ℕ} (if attribute then 3 else 2) 11 → ⊥
three_or_two true e = absurd cc
three_or_two false e = absurd cc

-- no leaf is an orphan node
no_orphans : (node : LeafNode) → type_of node ≡ 11 → ⊥
no_orphans (inode node) e = absurd cc
no_orphans (block node) e = absurd cc
no_orphans (entry node) e = three_or_two node.attribute e
no_orphans (truncation node) e = absurd cc

-- where an orphan node is read, one was found
orphans_found : OneNode → (leb : List ℕ) (found : Found) (n : Orphans) → IsBytes leb → HasNode leb found → IsOrphansAt leb found n → found.kind ≡ types.Orphans
orphans_found one leb found n fits (system node, stands) at =
    let same = (one (take found.len (drop found.offs leb)) found.sqnum found.group at.sqnum at.group node (orphans n) (part_bytes found.len found.offs leb fits) stands.is at.is).2 in
    stands.kind ∙ ap node_type same
orphans_found one leb found n fits (leaf node, stands) at =
    absurd (no_orphans node (one_frame (drop found.offs leb) stands.is.body at.is.body found.len found.len found.sqnum at.sqnum (type_of node) 11 found.group at.group (bytes_drop found.offs leb fits) stands.is.framed at.is.framed).0)

one_listed : OneNode → (leb : List ℕ) (nodes : List Found) (a b : List ℕ) → IsBytes leb → AllByRecursion (HasNode leb) nodes → AreListed leb nodes a → AreListed leb nodes b → a ≡ b
one_listed one leb [] a b fits there h k = h ∙ sym k
one_listed one leb (found ∷ nodes) a b fits there (inl (other, h)) (inl (again, k)) = one_listed one leb nodes a b fits there.1 h k
one_listed one leb (found ∷ nodes) a b fits there (inr (m, rest, is, h, e)) (inr (n, more, also, k, f)) =
    let same = orphans_same m n (one (take found.len (drop found.offs leb)) is.sqnum is.group also.sqnum also.group (orphans m) (orphans n) (part_bytes found.len found.offs leb fits) is.is also.is).2 in
    e ∙ ap (λ (x : Orphans). x.inos ++ rest) same ∙ ap (λ (x : List ℕ). n.inos ++ x) (one_listed one leb nodes rest more fits there.1 h k) ∙ sym f
one_listed one leb (found ∷ nodes) a b fits there (inl (other, h)) (inr (n, more, also, k, f)) = absurd (other (orphans_found one leb found n fits there.0 also))
one_listed one leb (found ∷ nodes) a b fits there (inr (m, rest, is, h, e)) (inl (other, k)) = absurd (other (orphans_found one leb found m fits there.0 is))

-- each node that was found stands there
there_at : (leb : List ℕ) (place : ℕ) (found : Found) (node : AnyNode) → StandsAt leb place found node → HasNode leb found
there_at leb place found node h = let P : ℕ → Type 0 = λ n. StandsAt leb n found node in (node, subst P (sym h.here) h)

all_there : (leb : List ℕ) (items : List Item) (place end : ℕ) → Stand leb place items end → AllByRecursion (HasNode leb) (nodes_of items)
all_there leb [] place end h = tt
all_there leb (Node found ∷ items) place end h = (there_at leb place found h.0.node h.0.stands, all_there leb items (behind leb place (Node found)) end h.1)
all_there leb (Padding found pad_len ∷ items) place end h = (there_at leb place found (system (padding (record { pad_len = pad_len }))) h.0.stands, all_there leb items (behind leb place (Padding found pad_len)) end h.1)
all_there leb (Word ∷ items) place end h = all_there leb items (behind leb place Word) end h.1

one_orphans : OneNode → OneText → (leb : List ℕ) (a b : List ℕ) → IsBytes leb → HasOrphans leb a → HasOrphans leb b → a ≡ b
one_orphans one text leb a b fits x y =
    let same = ap nodes_of (text leb 0 x.end y.end x.items y.items x.tail y.tail fits x.is_text y.is_text).0 in
    let P : List Found → Type 0 = λ nodes. AreListed leb nodes a in
    one_listed one leb (nodes_of y.items) a b fits (all_there leb y.items 0 y.end y.is_text.stand) (subst P same x.listed) y.listed

pub one_list_of_orphans : OneNode → OneText → (contents : ℕ → List ℕ) (first n : ℕ) (a b : List ℕ) → ((k : ℕ) → IsBytes (contents k)) → AreOrphans contents first n a → AreOrphans contents first n b → a ≡ b
one_list_of_orphans one text contents first zero a b fits h k = h ∙ sym k
one_list_of_orphans one text contents first (suc n) a b fits (front, here, x, is, e) (before, there, y, also, f) =
    e ∙ ap (λ (z : List ℕ). z ++ here) (one_list_of_orphans one text contents first n front before fits x y) ∙ ap (λ (z : List ℕ). before ++ z) (one_orphans one text (contents (first + n)) here there (fits (first + n)) is also) ∙ sym f
