-- Of each bud one text is read.
use Rattle.std.proofs.Common.{◌≡◌, ℕ, ◌≤◌, Bool, true, false, List, [], ◌∷◌, ◌++◌, take, drop, refl, ap, sym, ◌∙◌, subst, arith}
use Rattle.std.specs.Prelude.{if◌then◌else◌, map}
use Rattle.std.specs.List.{AllByRecursion}
use Rattle.std.proofs.lemmas.Bool.{leb-true}
use Rattle.ubifs_base.specs.NodeLaws.{IsBytes}
use Rattle.media_leaf.specs.LeafNode.{LeafNode, inode, block, entry, truncation, type_of as leaf_number}
use Rattle.media_sys.specs.SystemNode.{SystemNode, padding, superblock, master, reference, index, commit_start, orphans, type_of as system_number}
use Rattle.leb_scan.specs.Text.{IsText, StandsAt, leaf, nodes_of, system}
use Rattle.leb_scan.specs.declared.found.Found.{Found}
use Rattle.leb_scan.specs.declared.tail.Tail.{Tail}
use Rattle.small_areas.specs.MasterLaws.{OneText}
use Rattle.bud_log.specs.Bytes.{bytes_drop}
use Rattle.bud_log.specs.declared.head_at.HeadAt.{HeadAt}
use Rattle.journal_scan.specs.Journal.{AreLeaves, BudRead, IsBudRead, IsLeafAt, greatest_number_found, placed_at}
use Rattle.journal_scan.specs.declared.bud_text.BudText.{BudText}
use Rattle.leaf_map.specs.Kept.{Placed}
use Rattle.sound_image.specs.Buds.{HasBuds, IsSoundBud, bud_text}
use Rattle.sound_image.proofs.KnownNodes.{one_frame}
use Rattle.sound_image.proofs.OneReads.{OneLeaf, part_bytes}
use Rattle.sound_image.proofs.Lists.{cons_parts}

-- types of leaves are below 5, and those of system nodes aren't
entry_low : (attribute : Bool) → (if attribute then 3 else 2) ≤ 4
entry_low true = leb-true 3 4 refl
entry_low false = leb-true 2 4 refl

leaf_low : (node : LeafNode) → leaf_number node ≤ 4
leaf_low (inode node) = leb-true 0 4 refl
leaf_low (block node) = leb-true 1 4 refl
leaf_low (entry node) = entry_low node.attribute
leaf_low (truncation node) = leb-true 4 4 refl

system_high : (node : SystemNode) → 5 ≤ system_number node
system_high (padding node) = leb-true 5 5 refl
system_high (superblock node) = leb-true 5 6 refl
system_high (master node) = leb-true 5 7 refl
system_high (reference node) = leb-true 5 8 refl
system_high (index node) = leb-true 5 9 refl
system_high (commit_start node) = leb-true 5 10 refl
system_high (orphans node) = leb-true 5 11 refl

-- what stands is a leaf or a system node, and not both
leaf_or_system : (leb : List ℕ) (found : Found) (a : LeafNode) (b : SystemNode) → IsBytes leb → StandsAt leb found.offs found (leaf a) → StandsAt leb found.offs found (system b) → ⊥
leaf_or_system leb found a b fits x y =
    let same = (one_frame (drop found.offs leb) x.is.body y.is.body found.len found.len found.sqnum found.sqnum (leaf_number a) (system_number b) found.group found.group (bytes_drop found.offs leb fits) x.is.framed y.is.framed).0 in
    let low = leaf_low a in
    let high = system_high b in
    omega (arith, same, low, high)

one_leaf_at : OneLeaf → (bud : BudText) (found : Found) (a b : List Placed) → IsBytes bud.bytes → IsLeafAt bud found a → IsLeafAt bud found b → a ≡ b
one_leaf_at one bud found [] [] fits h k = refl
one_leaf_at one bud found [] (y ∷ []) fits h k = absurd (leaf_or_system bud.bytes found y.node h.0 fits k.0 h.1)
one_leaf_at one bud found (x ∷ []) [] fits h k = absurd (leaf_or_system bud.bytes found x.node k.0 fits h.0 k.1)
one_leaf_at one bud found (x ∷ []) (y ∷ []) fits h k =
    let same = (one (take found.len (drop found.offs bud.bytes)) found.sqnum found.group found.sqnum found.group x.node y.node (part_bytes found.len found.offs bud.bytes fits) h.0.is k.0.is).2 in
    ap (λ (z : Placed). z ∷ []) (h.1 ∙ ap (placed_at bud found) same ∙ sym k.1)
one_leaf_at one bud found [] (y ∷ (z ∷ more)) fits h k = absurd k
one_leaf_at one bud found (x ∷ []) (y ∷ (z ∷ more)) fits h k = absurd k
one_leaf_at one bud found (x ∷ (z ∷ more)) b fits h k = absurd h

one_leaves : OneLeaf → (bud : BudText) (founds : List Found) (a b : List Placed) → IsBytes bud.bytes → AreLeaves bud founds a → AreLeaves bud founds b → a ≡ b
one_leaves one bud [] a b fits h k = h ∙ sym k
one_leaves one bud (found ∷ founds) a b fits (own, rest, is, more, e) (there, others, also, again, f) =
    e ∙ ap (λ (xs : List Placed). xs ++ rest) (one_leaf_at one bud found own there fits is also) ∙ ap (λ (xs : List Placed). there ++ xs) (one_leaves one bud founds rest others fits more again) ∙ sym f

read_same : (b1 b2 : BudText) (n1 n2 : List Placed) (s1 s2 : ℕ) (t1 t2 : Tail) → b1 ≡ b2 → n1 ≡ n2 → s1 ≡ s2 → t1 ≡ t2
    → let a : BudRead = record { bud = b1; nodes = n1; sqnum = s1; tail = t1 } in
    let b : BudRead = record { bud = b2; nodes = n2; sqnum = s2; tail = t2 } in
    a ≡ b
read_same b1 b2 n1 n2 s1 s2 t1 t2 e f g h = rw (e, f, g, h) refl

-- the text of another spelling of one bud
other_text : (a b : BudRead) (h : IsBudRead a) → a.bud ≡ b.bud → IsText b.bud.bytes b.bud.from h.items h.end a.tail
other_text a b h e = let P : BudText → Type 0 = λ t. IsText t.bytes t.from h.items h.end a.tail in subst P e h.text

one_read : OneText → OneLeaf → (a b : BudRead) → IsBytes b.bud.bytes → a.bud ≡ b.bud → IsBudRead a → IsBudRead b → a ≡ b
one_read text one a b fits e h k =
    let same = text b.bud.bytes b.bud.from h.end k.end h.items k.items a.tail b.tail fits (other_text a b h e) k.text in
    let P : BudText → Type 0 = λ t. AreLeaves t (nodes_of h.items) a.nodes in
    let Q : List Found → Type 0 = λ founds. AreLeaves b.bud founds a.nodes in
    let nodes = ap nodes_of same.0 in
    read_same a.bud b.bud a.nodes b.nodes a.sqnum b.sqnum a.tail b.tail e (one_leaves one b.bud (nodes_of k.items) a.nodes b.nodes fits (subst Q nodes (subst P e h.leaves)) k.leaves) (h.sqnum ∙ ap greatest_number_found nodes ∙ sym k.sqnum) same.2

pub all_read : (reads : List BudRead) → AllByRecursion IsSoundBud reads → AllByRecursion IsBudRead reads
all_read [] h = tt
all_read (read ∷ reads) h = (h.0.is_read, all_read reads h.1)

pub reads_same : OneText → OneLeaf → (contents : ℕ → List ℕ) (buds : List HeadAt) (a b : List BudRead) → ((k : ℕ) → IsBytes (contents k)) → map (λ x. x.bud) a ≡ map (bud_text contents) buds → map (λ x. x.bud) b ≡ map (bud_text contents) buds
    → AllByRecursion IsBudRead a → AllByRecursion IsBudRead b → a ≡ b
reads_same text one contents [] [] [] fits e f h k = refl
reads_same text one contents [] (x ∷ a) b fits e f h k = absurd cc
reads_same text one contents [] [] (y ∷ b) fits e f h k = absurd cc
reads_same text one contents (bud ∷ buds) [] b fits e f h k = absurd cc
reads_same text one contents (bud ∷ buds) (x ∷ a) [] fits e f h k = absurd cc
reads_same text one contents (bud ∷ buds) (x ∷ a) (y ∷ b) fits e f h k =
    let p = cons_parts x.bud (bud_text contents bud) (map (λ z. z.bud) a) (map (bud_text contents) buds) e in
    let q = cons_parts y.bud (bud_text contents bud) (map (λ z. z.bud) b) (map (bud_text contents) buds) f in
    let P : BudText → Type 0 = λ t. IsBytes t.bytes in
    ap (λ (z : BudRead). z ∷ a) (one_read text one x y (subst P (sym q.0) (fits bud.lnum)) (p.0 ∙ sym q.0) h.0 k.0)
    ∙ ap (λ (zs : List BudRead). y ∷ zs) (reads_same text one contents buds a b fits p.1 q.1 h.1 k.1)

pub one_journal : OneText → OneLeaf → (contents : ℕ → List ℕ) (buds : List HeadAt) (a b : List BudRead) → ((k : ℕ) → IsBytes (contents k)) → HasBuds contents buds a → HasBuds contents buds b → a ≡ b
one_journal text one contents buds a b fits h k = reads_same text one contents buds a b fits h.of_buds k.of_buds (all_read a h.sound) (all_read b k.sound)
