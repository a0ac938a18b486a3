-- A bud of plain leaf nodes and padding is sound.
use Rattle.std.proofs.Common.{◌≡◌, ℕ, ◌≤◌, List, [], ◌∷◌, drop, refl, subst, inl, inr, arith}
use Rattle.std.specs.Prelude.{All}
use Rattle.std.specs.List.{AllByRecursion}
use Rattle.std.proofs.lemmas.Bool.{leb-true}
use Rattle.std.proofs.lemmas.List.Elements.{All-nil, All-cons}
use Rattle.ubifs_base.specs.NodeLaws.{IsBytes}
use Rattle.ubifs_base.specs.NodeType.{type_number}
use Rattle.ubifs_base.specs.declared.node_type.NodeType.{NodeType}
use Rattle.ubifs_base.specs.declared.node_type.NodeType.TheVariants as types
use Rattle.media_leaf.specs.LeafNode.{LeafNode}
use Rattle.media_sys.specs.SystemNode.{SystemNode, padding, superblock, master, reference, index, commit_start, orphans, node_type}
use Rattle.leb_scan.specs.Text.{IsTail, StandsAt, leaf, nodes_of, system}
use Rattle.leb_scan.specs.declared.found.Found.{Found}
use Rattle.leb_scan.specs.declared.tail.Tail.{Tail}
use Rattle.leb_scan.specs.declared.tail.Tail.TheVariants.{Clean}
use Rattle.leaf_map.specs.Kept.{Placed}
use Rattle.journal_scan.specs.Journal.{AreLeaves, BudRead, IsBudRead}
use Rattle.journal_scan.specs.declared.bud_text.BudText.{BudText}
use Rattle.sound_image.specs.Buds.{IsSoundBud, MayStandInBud}
use Rattle.sound_image.specs.Frames.{HasFrameAt, IsKnownAt}
use Rattle.sound_image.specs.Laid.{IsPlainLeaf}
use Rattle.sound_image.proofs.KnownNodes.{blank_known, bytes_drop, one_frame, plain_known}

-- a leaf node needs none
known_leaf : (bytes : List ℕ) (found : Found) (node : LeafNode) → IsBytes bytes → StandsAt bytes found.offs found (leaf node) → IsPlainLeaf node → IsKnownAt bytes found.offs
known_leaf bytes found node fits h plain =
    plain_known (λ lnum. bytes) (record { node = node; sqnum = found.sqnum; group = found.group; lnum = 0; offs = found.offs; len = found.len }) fits (record { room = h.room; is = h.is }) plain

-- and no system node does, whose type is higher
system_high : (node : SystemNode) → 5 ≤ type_number (node_type node)
system_high (padding node) = leb-true 5 5 refl
system_high (superblock node) = leb-true 5 6 refl
system_high (master node) = leb-true 5 7 refl
system_high (reference node) = leb-true 5 8 refl
system_high (index node) = leb-true 5 9 refl
system_high (commit_start node) = leb-true 5 10 refl
system_high (orphans node) = leb-true 5 11 refl

system_frame : (bytes body : List ℕ) (found : Found) (node : SystemNode) (type : NodeType) → IsBytes bytes → StandsAt bytes found.offs found (system node) → HasFrameAt bytes found.offs type body → type_number (node_type node) ≡ type_number type
system_frame bytes body found node type fits h frame =
    (one_frame (drop found.offs bytes) h.is.body body found.len frame.len found.sqnum frame.sqnum (type_number (node_type node)) (type_number type) found.group frame.group
    (bytes_drop found.offs bytes fits) h.is.framed frame.framed).0

pub known_system : (bytes : List ℕ) (found : Found) (node : SystemNode) → IsBytes bytes → StandsAt bytes found.offs found (system node) → IsKnownAt bytes found.offs
known_system bytes found node fits h what (inl (is, body, frame, c)) =
    let own : type_number (node_type node) ≡ 1 = system_frame bytes body found node types.Data fits h frame in
    let high = system_high node in
    omega (arith, own, high)
known_system bytes found node fits h what (inr (is, body, inl frame)) =
    let own : type_number (node_type node) ≡ 3 = system_frame bytes body found node types.Attribute fits h frame in
    let high = system_high node in
    omega (arith, own, high)
known_system bytes found node fits h what (inr (is, body, inr (frame, a))) =
    let own : type_number (node_type node) ≡ 0 = system_frame bytes body found node types.Inode fits h frame in
    let high = system_high node in
    omega (arith, own, high)

-- so the nodes of a text need none whose leaves are plain
abbrev ArePlain : List Placed → Type 0
ArePlain nodes = AllByRecursion (λ x. IsPlainLeaf x.node) nodes

all_known : (bud : BudText) (founds : List Found) (nodes : List Placed) → IsBytes bud.bytes → AreLeaves bud founds nodes → ArePlain nodes → All (λ (found : Found). IsKnownAt bud.bytes found.offs) founds
all_known bud [] nodes fits h plain = All-nil (λ (found : Found). IsKnownAt bud.bytes found.offs)
all_known bud (found ∷ founds) nodes fits ([], rest, (node, stands), more, e) plain =
    All-cons (λ (f : Found). IsKnownAt bud.bytes f.offs) found founds (known_system bud.bytes found node fits stands) (all_known bud founds rest fits more (subst ArePlain e plain))
all_known bud (found ∷ founds) nodes fits (x ∷ [], rest, (stands, is), more, e) plain =
    let parts = subst ArePlain e plain in
    All-cons (λ (f : Found). IsKnownAt bud.bytes f.offs) found founds (known_leaf bud.bytes found x.node fits stands parts.0) (all_known bud founds rest fits more parts.1)
all_known bud (found ∷ founds) nodes fits (x ∷ (y ∷ others), rest, one, more, e) plain = absurd one

pub plain_bud : (x : BudRead) (h : IsBudRead x) → IsBytes x.bud.bytes → x.tail ≡ Clean → All (λ (found : Found). MayStandInBud found.kind) (nodes_of h.items) → AllByRecursion (λ (p : Placed). IsPlainLeaf p.node) x.nodes → IsSoundBud x
plain_bud x h fits clean kinds plain =
    let P : Tail → Type 0 = λ tail. IsTail x.bud.bytes h.end tail in
    record {
      is_read = h;
      kinds = kinds;
      known = all_known x.bud (nodes_of h.items) x.nodes fits h.leaves plain;
      tail = blank_known x.bud.bytes h.end (subst P clean h.text.ends);
    }
