-- Whether buds hold a node.
use Rattle.std.proofs.Common.{◌≡◌, ℕ, Bool, true, false, List, [], ◌∷◌, ◌++◌, map, refl, ap, sym, subst, ◌∙◌, inl, inr}
use Rattle.std.specs.Prelude.{All, ◌&&◌, if◌then◌else◌}
use Rattle.std.specs.List.{AllByRecursion, list_all}
use Rattle.std.proofs.lemmas.List.Elements.{All-head, All-tail}
use Rattle.std.proofs.lemmas.List.Folds.{list_all-append}
use Rattle.ubifs_base.specs.NodeLaws.{IsBytes}
use Rattle.ubifs_base.specs.declared.node_type.NodeType.{NodeType}
use Rattle.ubifs_base.specs.declared.node_type.NodeType.TheVariants as types
use Rattle.media_leaf.specs.LeafNode.{LeafNode, inode, block, entry, truncation}
use Rattle.media_sys.specs.SystemNode.{SystemNode, padding, superblock, master, reference, index, commit_start, orphans, node_type}
use Rattle.fs_model.specs.Path.{is_empty}
use Rattle.leb_scan.specs.Gathered.{IsGathered, gathered_end}
use Rattle.leb_scan.specs.Text.{IsLast, IsText, leaf_type, nodes_of, tail_at}
use Rattle.leb_scan.specs.declared.found.Found.{Found}
use Rattle.leb_scan.specs.declared.item.Item.{Item}
use Rattle.small_areas.specs.MasterLaws.{OneText}
use Rattle.leaf_map.specs.Kept.{Placed}
use Rattle.journal_scan.specs.Journal.{AreLeaves, BudRead, IsLeafAt}
use Rattle.journal_scan.specs.declared.bud_text.BudText.{BudText}
use Rattle.sound_image.specs.Buds.{IsSoundBud, MayStandInBud}
use Rattle.sound_image.specs.WrongLaws.{first_of_equal}
use Rattle.bud_check.specs.Found.{hold_none, is_padding}

-- ---- one node
-- whether a node that was found is padding
abbrev pub is_pad : Found → Bool
is_pad found = is_padding found.kind

-- a leaf's type isn't padding
leaf_no_pad : (node : LeafNode) → is_padding (leaf_type node) ≡ false
leaf_no_pad (inode node) = refl
leaf_no_pad (block node) = refl
leaf_no_pad (entry node) = entry_no_pad node.attribute
  where
    entry_no_pad : (b : Bool) → is_padding (if b then types.Attribute else types.Entry) ≡ false
    entry_no_pad true = refl
    entry_no_pad false = refl
leaf_no_pad (truncation node) = refl

-- of the system nodes padding alone may stand in a bud
system_pad : (node : SystemNode) → MayStandInBud (node_type node) → is_padding (node_type node) ≡ true
system_pad (padding node) may = refl
system_pad (superblock node) (inl e) = absurd cc
system_pad (superblock node) (inr e) = absurd cc
system_pad (master node) (inl e) = absurd cc
system_pad (master node) (inr e) = absurd cc
system_pad (reference node) (inl e) = absurd cc
system_pad (reference node) (inr e) = absurd cc
system_pad (index node) (inl e) = absurd cc
system_pad (index node) (inr e) = absurd cc
system_pad (commit_start node) (inl e) = absurd cc
system_pad (commit_start node) (inr e) = absurd cc
system_pad (orphans node) (inl e) = absurd cc
system_pad (orphans node) (inr e) = absurd cc

-- what a node gives is none exactly if it is padding
own_pad : (bud : BudText) (found : Found) (own : List Placed) → IsLeafAt bud found own → MayStandInBud found.kind → is_pad found ≡ is_empty own
own_pad bud found [] h may = let P : NodeType → Type 0 = λ t. MayStandInBud t in ap is_padding h.1.kind ∙ system_pad h.0 (subst P h.1.kind may)
own_pad bud found (x ∷ []) h may = ap is_padding h.0.kind ∙ leaf_no_pad x.node
own_pad bud found (x ∷ y ∷ more) h may = absurd h

-- ---- the nodes of a text
both_empty : {X : Type 0} (xs ys : List X) → is_empty (xs ++ ys) ≡ (is_empty xs && is_empty ys)
both_empty [] ys = refl
both_empty (x ∷ xs) ys = refl

all_pad : (bud : BudText) (founds : List Found) (nodes : List Placed) → AreLeaves bud founds nodes → All (λ (found : Found). MayStandInBud found.kind) founds → list_all is_pad founds ≡ is_empty nodes
all_pad bud [] nodes h may = sym (ap is_empty h)
all_pad bud (found ∷ founds) nodes (own, rest, here, behind, is) may =
    ap (λ (b : Bool). b && list_all is_pad founds) (own_pad bud found own here (All-head (λ (f : Found). MayStandInBud f.kind) found founds may))
    ∙ ap (λ (b : Bool). is_empty own && b) (all_pad bud founds rest behind (All-tail (λ (f : Found). MayStandInBud f.kind) found founds may))
    ∙ sym (both_empty own rest) ∙ sym (ap is_empty is)

-- ---- a text, node by node
pub pads_next : (nodes : List Found) (found : Found) (clean next : Bool) → clean ≡ list_all is_pad nodes → next ≡ (clean && is_pad found) → next ≡ list_all is_pad (nodes ++ found ∷ [])
pads_next nodes found clean next before e = e ∙ ap (λ (b : Bool). b && is_pad found) before ∙ one_more (list_all is_pad nodes) (is_pad found) ∙ sym (list_all-append is_pad nodes (found ∷ []))
  where
    one_more : (a b : Bool) → (a && b) ≡ (a && (b && true))
    one_more true true = refl
    one_more true false = refl
    one_more false b = refl

pub text_clean : OneText → (bud : BudText) (place end : ℕ) (nodes : List Found) (clean : Bool) → IsBytes bud.bytes → IsGathered bud.bytes bud.from place nodes → IsLast bud.bytes place end (tail_at bud.bytes end) → clean ≡ list_all is_pad nodes
    → (read : BudRead) → read.bud ≡ bud → IsSoundBud read → clean ≡ is_empty read.nodes
text_clean one bud place end nodes clean fits gathered last is read of sound =
    let text = gathered_end bud.bytes bud.from place end end nodes (tail_at bud.bytes end) gathered last refl refl in
    let items = sound.is_read.items in
    let P : BudText → Type 0 = λ b. IsText b.bytes b.from items sound.is_read.end read.tail in
    let same = one bud.bytes bud.from end sound.is_read.end text.0 items (tail_at bud.bytes end) read.tail fits text.1 (subst P of sound.is_read.text) in
    is ∙ ap (list_all is_pad) text.2 ∙ ap (λ (xs : List Item). list_all is_pad (nodes_of xs)) same.0 ∙ all_pad read.bud (nodes_of items) read.nodes sound.is_read.leaves sound.kinds

-- ---- text by text
-- of sound buds with these texts, those of the texts that are left tell whether any holds a node
abbrev pub AreCleanSoFar : List BudText → List BudText → Type 0
AreCleanSoFar left texts =
    (reads : List BudRead) → map (λ x. x.bud) reads ≡ texts → AllByRecursion IsSoundBud reads → (rest : List BudRead) × (map (λ x. x.bud) rest ≡ left) × AllByRecursion IsSoundBud rest × (hold_none rest ≡ hold_none reads)

pub so_far_start : (texts : List BudText) → AreCleanSoFar texts texts
so_far_start texts = λ reads of sound. (reads, of, sound, refl)

-- the first of those that are left
pub record BeginsWith (text : BudText) (behind : List BudText) (rest : List BudRead) : Type 0 where
  pub read : BudRead
  pub more : List BudRead
  pub is : rest ≡ read ∷ more
  pub of : read.bud ≡ text
  pub sound : IsSoundBud read
  pub behind_of : map (λ x. x.bud) more ≡ behind
  pub behind_sound : AllByRecursion IsSoundBud more

begins : (text : BudText) (behind : List BudText) (rest : List BudRead) → map (λ x. x.bud) rest ≡ text ∷ behind → AllByRecursion IsSoundBud rest → BeginsWith text behind rest
begins text behind [] e h = absurd cc
begins text behind (read ∷ more) e h =
    let parts = first_of_equal read.bud text (map (λ x. x.bud) more) behind e in
    record { read = read; more = more; is = refl; of = parts.0; sound = h.0; behind_of = parts.1; behind_sound = h.1 }

pub so_far_next : (left texts behind : List BudText) (text : BudText) (clean : Bool) → left ≡ text ∷ behind → ((read : BudRead) → read.bud ≡ text → IsSoundBud read → clean ≡ is_empty read.nodes) → clean ≡ true → AreCleanSoFar left texts → AreCleanSoFar behind texts
so_far_next left texts behind text clean cut tells none before = λ reads of sound.
    let now = before reads of sound in
    let b = begins text behind now.0 (now.1 ∙ cut) now.2 in
    let own = sym (tells b.read b.of b.sound) ∙ none in
    (b.more, b.behind_of, b.behind_sound, sym (ap (λ (e : Bool). e && hold_none b.more) own) ∙ sym (ap hold_none b.is) ∙ now.3)

pub so_far_stop : (left texts behind : List BudText) (text : BudText) (clean : Bool) → left ≡ text ∷ behind → ((read : BudRead) → read.bud ≡ text → IsSoundBud read → clean ≡ is_empty read.nodes) → clean ≡ false → AreCleanSoFar left texts
    → (reads : List BudRead) → map (λ x. x.bud) reads ≡ texts → AllByRecursion IsSoundBud reads → false ≡ hold_none reads
so_far_stop left texts behind text clean cut tells some before = λ reads of sound.
    let now = before reads of sound in
    let b = begins text behind now.0 (now.1 ∙ cut) now.2 in
    let own = sym (tells b.read b.of b.sound) ∙ some in
    sym (ap (λ (e : Bool). e && hold_none b.more) own) ∙ sym (ap hold_none b.is) ∙ now.3

pub so_far_end : (left texts : List BudText) → left ≡ [] → AreCleanSoFar left texts → (reads : List BudRead) → map (λ x. x.bud) reads ≡ texts → AllByRecursion IsSoundBud reads → true ≡ hold_none reads
so_far_end left texts done before = λ reads of sound. let now = before reads of sound in nothing now.0 (now.1 ∙ done) ∙ now.3
  where
    nothing : (rest : List BudRead) → map (λ x. x.bud) rest ≡ [] → true ≡ hold_none rest
    nothing [] e = refl
    nothing (read ∷ rest) e = absurd cc
