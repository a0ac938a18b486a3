-- The nodes that were read of buds stand in their LEBs, whole.
use Rattle.std.proofs.Common.{◌≡◌, ℕ, ◌≤◌, ◌+◌, Bool, true, false, cond, List, [], ◌∷◌, ◌++◌, map, length, take, drop, refl, sym, subst}
use Rattle.std.specs.List.{AllByRecursion}
use Rattle.ubifs_base.specs.declared.journal_head.JournalHead.{JournalHead}
use Rattle.ubifs_base.specs.declared.journal_head.JournalHead.TheVariants.{Collector, Base, Data}
use Rattle.bud_log.specs.declared.head_at.HeadAt.{HeadAt}
use Rattle.leb_scan.specs.Text.{nodes_of}
use Rattle.leb_scan.specs.declared.found.Found.{Found}
use Rattle.media_leaf.specs.LeafNode.{IsLeaf, IsLeafNode}
use Rattle.leaf_map.specs.Kept.{Placed}
use Rattle.journal_scan.specs.Journal.{AreLeaves, BudRead, IsLeafAt, copies_in, if_changes, if_copies, is_unfinished, journal_nodes_in, nodes_taken_of, whole_groups}
use Rattle.journal_scan.specs.declared.bud_text.BudText.{BudText}
use Rattle.sound_image.specs.Buds.{HasBuds, IsSoundBud, bud_text}
use Rattle.sound_image.specs.Leaves.{IsPlacedIn}

-- a bud's bytes are those of its LEB
abbrev HasBytes : (ℕ → List ℕ) → BudText → Type 0
HasBytes contents bud = bud.bytes ≡ contents bud.lnum

texts_have : (contents : ℕ → List ℕ) (buds : List HeadAt) → AllByRecursion (HasBytes contents) (map (bud_text contents) buds)
texts_have contents [] = tt
texts_have contents (at ∷ buds) = (refl, texts_have contents buds)

own_stands : (contents : ℕ → List ℕ) (bud : BudText) (found : Found) (own : List Placed) → HasBytes contents bud → IsLeafAt bud found own → AllByRecursion (IsPlacedIn contents) own
own_stands contents bud found [] e is = tt
own_stands contents bud found (x ∷ []) e is =
    let P : Placed → Type 0 = λ y. IsPlacedIn contents y in
    let room : found.offs + found.len ≤ length (contents bud.lnum) = subst (λ (leb : List ℕ). found.offs + found.len ≤ length leb) e is.0.room in
    let node : IsLeafNode (take found.len (drop found.offs (contents bud.lnum))) found.sqnum found.group x.node = subst (λ (leb : List ℕ). IsLeafNode (take found.len (drop found.offs leb)) found.sqnum found.group x.node) e is.0.is in
    (subst P (sym is.1) (record { room = room; is = node }), tt)
own_stands contents bud found (x ∷ (y ∷ more)) e is = absurd is

both_all : (Q : Placed → Type 0) (xs ys : List Placed) → AllByRecursion Q xs → AllByRecursion Q ys → AllByRecursion Q (xs ++ ys)
both_all Q [] ys a b = b
both_all Q (x ∷ xs) ys a b = (a.0, both_all Q xs ys a.1 b)

leaves_stand : (contents : ℕ → List ℕ) (bud : BudText) (founds : List Found) (nodes : List Placed) → HasBytes contents bud → AreLeaves bud founds nodes → AllByRecursion (IsPlacedIn contents) nodes
leaves_stand contents bud [] nodes e is = let P : List Placed → Type 0 = λ xs. AllByRecursion (IsPlacedIn contents) xs in subst P (sym is) tt
leaves_stand contents bud (found ∷ founds) nodes e (own, rest, is, more, all) =
    let P : List Placed → Type 0 = λ xs. AllByRecursion (IsPlacedIn contents) xs in
    subst P (sym all) (both_all (IsPlacedIn contents) own rest (own_stands contents bud found own e is) (leaves_stand contents bud founds rest e more))

whole_all : (Q : Placed → Type 0) (nodes : List Placed) → AllByRecursion Q nodes → AllByRecursion Q (whole_groups nodes)
whole_all Q [] a = tt
whole_all Q (x ∷ nodes) a = by (is_unfinished (x ∷ nodes)) (whole_all Q nodes a.1)
  where
    by : (b : Bool) → AllByRecursion Q (whole_groups nodes) → AllByRecursion Q (cond b [] (x ∷ whole_groups nodes))
    by true more = tt
    by false more = (a.0, more)

copies_of : (Q : Placed → Type 0) (head : JournalHead) (nodes : List Placed) → AllByRecursion Q nodes → AllByRecursion Q (if_copies head (nodes_taken_of head nodes))
copies_of Q Collector nodes a = a
copies_of Q Base nodes a = tt
copies_of Q Data nodes a = tt

changes_of : (Q : Placed → Type 0) (head : JournalHead) (nodes : List Placed) → AllByRecursion Q nodes → AllByRecursion Q (if_changes head (nodes_taken_of head nodes))
changes_of Q Collector nodes a = tt
changes_of Q Base nodes a = whole_all Q nodes a
changes_of Q Data nodes a = whole_all Q nodes a

all_copies : (Q : Placed → Type 0) (reads : List BudRead) → AllByRecursion (λ (r : BudRead). AllByRecursion Q r.nodes) reads → AllByRecursion Q (copies_in reads)
all_copies Q [] a = tt
all_copies Q (r ∷ reads) a = both_all Q (if_copies r.bud.head (nodes_taken_of r.bud.head r.nodes)) (copies_in reads) (copies_of Q r.bud.head r.nodes a.0) (all_copies Q reads a.1)

all_changes : (Q : Placed → Type 0) (reads : List BudRead) → AllByRecursion (λ (r : BudRead). AllByRecursion Q r.nodes) reads → AllByRecursion Q (journal_nodes_in reads)
all_changes Q [] a = tt
all_changes Q (r ∷ reads) a = both_all Q (if_changes r.bud.head (nodes_taken_of r.bud.head r.nodes)) (journal_nodes_in reads) (changes_of Q r.bud.head r.nodes a.0) (all_changes Q reads a.1)

reads_stand : (contents : ℕ → List ℕ) (reads : List BudRead) → AllByRecursion (HasBytes contents) (map (λ x. x.bud) reads) → AllByRecursion IsSoundBud reads → AllByRecursion (λ (r : BudRead). AllByRecursion (IsPlacedIn contents) r.nodes) reads
reads_stand contents [] e s = tt
reads_stand contents (r ∷ reads) e s = (leaves_stand contents r.bud (nodes_of s.0.is_read.items) r.nodes e.0 s.0.is_read.leaves, reads_stand contents reads e.1 s.1)

all_stand : (contents : ℕ → List ℕ) (buds : List HeadAt) (reads : List BudRead) → HasBuds contents buds reads → AllByRecursion (λ (r : BudRead). AllByRecursion (IsPlacedIn contents) r.nodes) reads
all_stand contents buds reads h =
    let P : List BudText → Type 0 = λ ts. AllByRecursion (HasBytes contents) ts in
    reads_stand contents reads (subst P (sym h.of_buds) (texts_have contents buds)) h.sound

pub copies_stand : (contents : ℕ → List ℕ) (buds : List HeadAt) (reads : List BudRead) → HasBuds contents buds reads → AllByRecursion (IsPlacedIn contents) (copies_in reads)
copies_stand contents buds reads h = all_copies (IsPlacedIn contents) reads (all_stand contents buds reads h)

pub nodes_stand : (contents : ℕ → List ℕ) (buds : List HeadAt) (reads : List BudRead) → HasBuds contents buds reads → AllByRecursion (IsPlacedIn contents) (journal_nodes_in reads)
nodes_stand contents buds reads h = all_changes (IsPlacedIn contents) reads (all_stand contents buds reads h)

-- and so they are of the grammar
pub placed_grammar : (contents : ℕ → List ℕ) (nodes : List Placed) → AllByRecursion (IsPlacedIn contents) nodes → AllByRecursion (λ (x : Placed). IsLeaf x.node) nodes
placed_grammar contents [] h = tt
placed_grammar contents (x ∷ nodes) h = (h.0.is.is, placed_grammar contents nodes h.1)
