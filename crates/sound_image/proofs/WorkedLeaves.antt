-- Damaged images whose index or leaf is lost.
use Rattle.std.proofs.Common.{◌≡◌, ℕ, zero, suc, ◌^◌, true, List, [], ◌∷◌, ◌++◌, Some, None, take, drop, refl, ap, sym, ◌∙◌, subst, inl, inr, arith}
use Rattle.std.proofs.lemmas.Bool.{leb-true, ltb-true}
use Rattle.ubifs_base.specs.Node.{IsNode}
use Rattle.ubifs_base.specs.NodeLaws.{IsBytes}
use Rattle.media_leaf.specs.LeafNode.{type_of}
use Rattle.ubifs_base.specs.R5.{r5_of}
use Rattle.media_sys.specs.Index.{Index}
use Rattle.leb_scan.specs.Text.{is_blank}
use Rattle.leb_scan.specs.declared.tail.Tail.TheVariants.{Clean}
use Rattle.small_areas.specs.MasterLaws.{OneNode}
use Rattle.bud_log.specs.LogText.{LogText}
use Rattle.index_tree.specs.Order.{key_rank}
use Rattle.index_tree.specs.Removal.{same_leaf}
use Rattle.index_tree.specs.declared.leaf.Leaf.{Leaf}
use Rattle.index_media.specs.PlacedRow.{branch_to}
use Rattle.index_media.specs.Stored.{IsIndexNodeAt}
use Rattle.leaf_map.specs.Kept.{Placed}
use Rattle.leaf_map.specs.Lost.{missing_leaves}
use Rattle.sound_image.specs.Breaches.{IsFirstBreach}
use Rattle.sound_image.specs.Frames.{IsKnownAt}
use Rattle.sound_image.specs.Image.{Image, parts_of}
use Rattle.sound_image.specs.IndexBreaches.{IsWanted, LacksIndexNode, NodeWanted, index_misfit, root_wanted}
use Rattle.sound_image.specs.LeafBreaches.{HasLeafNodeOf, IsLeafMisfit, IsWrongLeaf}
use Rattle.sound_image.specs.Leaves.{IsPlaceOf, IsPlacedIn, IsSoundLeaf, leaves_recovered}
use Rattle.sound_image.specs.Worked.{IsLeastWith, LacksItsLeaf, least_branch, least_geometry, least_image, least_master, least_props, sample_root_leaf, unmarked_props}
use Rattle.sound_image.specs.Wrong.{IsFirstWrong, Misfit, Wrong, differs, type_byte}
use Rattle.sound_image.specs.declared.breach.Breach.TheVariants.{Damaged}
use Rattle.sound_image.specs.declared.rule.Rule.TheVariants as rules
use Rattle.sound_image.proofs.Broken.{blank_byte}
use Rattle.sound_image.proofs.BrokenIndex.{lacks_none, one_said}
use Rattle.sound_image.proofs.FreshLog.{has_fresh_log}
use Rattle.sound_image.proofs.KnownNodes.{blank_known, no_node}
use Rattle.sound_image.proofs.LeastImage.{has_index, least_placed, least_text, least_with}
use Rattle.sound_image.proofs.Lists.{cons_parts, none_of}
use Rattle.sound_image.proofs.WorkedRows.{before_index, before_leaves, least_super_has, not_before}

-- ---- the root of the index stands in a LEB that isn't marked
abbrev root_said : Index
root_said = record { level = 0; branches = branch_to sample_root_leaf ∷ [] }

-- the master names the place of the root, and so does the branch to it
at_root : (contents : ℕ → List ℕ) (said : Index) → IsIndexNodeAt contents (root_wanted least_master).branch said → IsIndexNodeAt contents least_branch said
at_root contents said h = record { sqnum = h.sqnum; group = h.group; room = h.room; is = h.is }

from_root : (contents : ℕ → List ℕ) (said : Index) → IsIndexNodeAt contents least_branch said → IsIndexNodeAt contents (root_wanted least_master).branch said
from_root contents said h = record { sqnum = h.sqnum; group = h.group; room = h.room; is = h.is }

misfit_same : (a b : Misfit) → Some a ≡ Some b → a ≡ b
misfit_same a b h = cc

-- nothing is wanted below a wrong root
none_below : OneNode → (contents : ℕ → List ℕ) (depth : ℕ) (wanted : NodeWanted) → ((k : ℕ) → IsBytes (contents k)) → IsIndexNodeAt contents least_branch root_said → IsWanted contents least_geometry least_master unmarked_props (suc depth) wanted → ⊥
none_below one contents zero wanted fits root (above, said, is, stands, right, some, before, behind, e, level, most) =
    let P : NodeWanted → Type 0 = λ w. IsIndexNodeAt contents w.branch said in
    let Q : NodeWanted → Type 0 = λ w. index_misfit least_geometry unmarked_props w said ≡ None in
    let here : IsIndexNodeAt contents least_branch said = at_root contents said (subst P is stands) in
    let same = one_said one contents least_branch said root_said fits here root in
    let no : Some (differs 1 0) ≡ None = ap (index_misfit least_geometry unmarked_props (root_wanted least_master)) (sym same) ∙ subst Q is right in
    absurd cc
none_below one contents (suc depth) wanted fits root (above, said, is, stands, right, some, before, behind, e, level, most) = none_below one contents depth above fits root is

root_alone : OneNode → (contents : ℕ → List ℕ) (depth : ℕ) (wanted : NodeWanted) → ((k : ℕ) → IsBytes (contents k)) → IsIndexNodeAt contents least_branch root_said → IsWanted contents least_geometry least_master unmarked_props depth wanted → wanted ≡ root_wanted least_master
root_alone one contents zero wanted fits root is = is
root_alone one contents (suc depth) wanted fits root is = absurd (none_below one contents depth wanted fits root is)

pub unmarked_row : OneNode → (contents : ℕ → List ℕ) → IsLeastWith contents unmarked_props 0 → IsFirstBreach contents (Damaged rules.Index 11 0 1 0)
unmarked_row one contents h =
    let at : Wrong = record { lnum = 11; offs = 0; misfit = differs 1 0 } in (
      least_with unmarked_props [],
      before_index contents (least_with unmarked_props []) (least_super_has contents h.begins.super) (record { is_latest = h.begins.masters; in_areas = least_placed }) h.properties,
      record {
        wrong = record { depth = 0; node = root_wanted least_master; wanted = refl; lnum = refl; offs = refl; wrong = inr (root_said, from_root contents root_said h.index, refl) };
        least = λ other wrong.
            let root = root_alone one contents wrong.depth wrong.node h.begins.bytes h.index wrong.wanted in
            let lnum : other.lnum ≡ 11 = wrong.lnum ∙ ap (λ (w : NodeWanted). w.branch.lnum) root in
            let misfit : other.misfit ≡ differs 1 0 = elim wrong.wrong [
              | inl lacks ↦
                  let P : NodeWanted → Type 0 = λ w. LacksIndexNode contents w.branch other.misfit in
                  absurd (lacks_none contents (root_wanted least_master).branch root_said other.misfit h.begins.bytes (from_root contents root_said h.index) (subst P root lacks))
              | inr (said, stands, e) ↦
                  let P : NodeWanted → Type 0 = λ w. IsIndexNodeAt contents w.branch said in
                  let Q : NodeWanted → Type 0 = λ w. index_misfit least_geometry unmarked_props w said ≡ Some other.misfit in
                  let same = one_said one contents least_branch said root_said h.begins.bytes (at_root contents said (subst P root stands)) h.index in
                  misfit_same other.misfit (differs 1 0) (sym (subst Q root e) ∙ ap (index_misfit least_geometry unmarked_props (root_wanted least_master)) same)
            ] in
            not_before other at (omega (arith, lnum)) (λ e. omega arith) (λ e f. misfit);
      },
    )

-- ---- the leaf is erased
abbrev lost_image : List LogText → Image
lost_image log = record (least_image log) { committed = record { leaf = sample_root_leaf; found = None } ∷ [] }

lost_recovered : leaves_recovered (parts_of (lost_image [])) ≡ sample_root_leaf ∷ []
unfolding key_rank same_leaf r5_of
lost_recovered = refl

none_missing : missing_leaves (parts_of (lost_image [])) ≡ []
unfolding key_rank same_leaf r5_of
none_missing = refl

-- a node that is placed where the root's leaf says
root_frame : (contents : ℕ → List ℕ) (node : Placed) → IsPlaceOf sample_root_leaf node → (stands : IsPlacedIn contents node) → IsNode (take 160 (drop 0 (contents 10))) node.sqnum (type_of node.node) node.group stands.is.body
root_frame contents node place stands =
    let L : ℕ → Type 0 = λ n. IsNode (take n (drop node.offs (contents node.lnum))) node.sqnum (type_of node.node) node.group stands.is.body in
    let O : ℕ → Type 0 = λ n. IsNode (take 160 (drop n (contents node.lnum))) node.sqnum (type_of node.node) node.group stands.is.body in
    let P : ℕ → Type 0 = λ n. IsNode (take 160 (drop 0 (contents n))) node.sqnum (type_of node.node) node.group stands.is.body in
    subst P place.lnum (subst O place.offs (subst L place.len stands.is.framed))

no_leaf_node : (contents : ℕ → List ℕ) (len : ℕ) → is_blank (contents 10) ≡ true → HasLeafNodeOf contents sample_root_leaf len → ⊥
no_leaf_node contents len blank h = no_node (contents 10) h.is.body 0 len h.sqnum (type_of h.node) h.group blank h.is.framed

one_alone : (leaf : Leaf) (before behind : List Leaf) → sample_root_leaf ∷ [] ≡ before ++ (leaf ∷ behind) → sample_root_leaf ≡ leaf
one_alone leaf [] behind h = (cons_parts sample_root_leaf leaf [] behind h).0
one_alone leaf (b ∷ before) behind h = let none = (cons_parts sample_root_leaf b [] (before ++ (leaf ∷ behind)) h).1 in absurd (none_of leaf (before ++ (leaf ∷ behind)) (before, behind, refl) (sym none))

no_feature : (contents : ℕ → List ℕ) → is_blank (contents 10) ≡ true → IsKnownAt (contents 10) 0
no_feature contents blank = blank_known (contents 10) 0 blank

leaf_misfit : (contents : ℕ → List ℕ) (misfit : Misfit) → is_blank (contents 10) ≡ true → IsLeafMisfit contents sample_root_leaf misfit → misfit ≡ differs 0 (type_byte (contents 10) 0)
leaf_misfit contents misfit blank (inl (what, needs, e)) = absurd (no_feature contents blank what needs)
leaf_misfit contents misfit blank (inr (known, inl (none, e))) = e
leaf_misfit contents misfit blank (inr (known, inr (len, has, e))) = absurd (no_leaf_node contents len blank has)

erased_byte : (contents : ℕ → List ℕ) → is_blank (contents 10) ≡ true → type_byte (contents 10) 0 ≡ 255
erased_byte contents blank = blank_byte (contents 10) 20 blank

lost_first : (contents : ℕ → List ℕ) (log : List LogText) → is_blank (contents 10) ≡ true → parts_of (lost_image log) ≡ parts_of (lost_image []) → IsFirstWrong (IsWrongLeaf contents least_geometry least_props (parts_of (lost_image log))) (record { lnum = 10; offs = 0; misfit = differs 0 255 })
lost_first contents log blank same =
    let at : Wrong = record { lnum = 10; offs = 0; misfit = differs 0 255 } in
    let leaves : leaves_recovered (parts_of (lost_image log)) ≡ sample_root_leaf ∷ [] = ap leaves_recovered same ∙ lost_recovered in
    let none : missing_leaves (parts_of (lost_image log)) ≡ [] = ap missing_leaves same ∙ none_missing in
    let told : IsLeafMisfit contents sample_root_leaf (differs 0 255) = inr (no_feature contents blank, inl (λ len has. no_leaf_node contents len blank has, ap (differs 0) (sym (erased_byte contents blank)))) in
    let unsound : IsSoundLeaf contents least_geometry least_props sample_root_leaf → ⊥ = λ sound. no_node (contents 10) sound.0.stands.is.body 0 160 sound.0.node.sqnum (type_of sound.0.node.node) sound.0.node.group blank (root_frame contents sound.0.node sound.0.placed sound.0.stands) in
    record {
      wrong = record { leaf = sample_root_leaf; lnum = refl; offs = refl; wrong = inr ([], [], leaves, inl unsound); misfit = told };
      least = λ other wrong.
          let own : sample_root_leaf ≡ wrong.leaf = elim wrong.wrong [
            | inl missing ↦ absurd (none_of wrong.leaf (missing_leaves (parts_of (lost_image log))) missing none)
            | inr (before, behind, e, bad) ↦ one_alone wrong.leaf before behind (sym leaves ∙ e)
          ] in
          let lnum : other.lnum ≡ 10 = wrong.lnum ∙ ap (λ (x : Leaf). x.lnum) (sym own) in
          let P : Leaf → Type 0 = λ leaf. IsLeafMisfit contents leaf other.misfit in
          let misfit : other.misfit ≡ differs 0 255 = leaf_misfit contents other.misfit blank (subst P (sym own) wrong.misfit) ∙ ap (differs 0) (erased_byte contents blank) in
          not_before other at (omega (arith, lnum)) (λ e. omega arith) (λ e f. misfit);
    }

pub lost_leaf_row : (contents : ℕ → List ℕ) → LacksItsLeaf contents → IsFirstBreach contents (Damaged rules.Leaves 10 0 0 255)
lost_leaf_row contents h =
    let log : List LogText = least_text h.log.start.gap ∷ [] in (
      lost_image log,
      before_leaves contents (lost_image log) (record {
        superblock = least_super_has contents h.begins.super;
        masters = record { is_latest = h.begins.masters; in_areas = least_placed };
        properties = h.properties;
        index = has_index contents least_props refl h.index;
      }) (has_fresh_log contents least_geometry least_master 1 (leb-true 3 4 refl) (ltb-true 1 (2 ^ 64) refl) (ltb-true 0 (2 ^ 64) refl) h.log) (record { of_buds = refl; sound = tt }),
      record {
        committed = record { leaf = sample_root_leaf; found = None } ∷ [];
        listed = [];
        are_committed = (refl, (λ node place stands. no_node (contents 10) stands.is.body 0 160 node.sqnum (type_of node.node) node.group h.leaf (root_frame contents node place stands)), tt);
        are_listed = ([], [], refl, record { items = []; end = 0; tail = Clean; is_text = record { stand = refl; ends = h.orphans }; listed = refl }, refl);
        first = lost_first contents log h.leaf refl;
      },
    )
