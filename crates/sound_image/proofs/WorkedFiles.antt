-- A damaged image whose inode 1 is a file.
use Rattle.std.proofs.Common.{◌≡◌, ℕ, ◌^◌, true, false, List, [], ◌∷◌, ◌++◌, Some, refl, ap, sym, ◌∙◌, subst, inl, inr, arith}
use Rattle.std.specs.Prelude.{All, map}
use Rattle.std.specs.List.{list_any}
use Rattle.std.proofs.lemmas.Bool.{leb-true, ltb-true}
use Rattle.std.proofs.lemmas.List.Elements.{All-nil, All-cons}
use Rattle.ubifs_base.specs.R5.{r5_of}
use Rattle.bud_log.specs.LogText.{LogText}
use Rattle.index_tree.specs.Order.{key_rank}
use Rattle.index_tree.specs.Removal.{holds, same_leaf}
use Rattle.index_tree.specs.declared.leaf.Leaf.{Leaf}
use Rattle.index_media.specs.PlacedRow.{are_disjoint, branch_to}
use Rattle.fs_model.specs.declared.inode.Inode.{Inode}
use Rattle.fs_model.specs.Files.{inode_at}
use Rattle.leaf_map.specs.Kept.{Kept, shown_by}
use Rattle.leaf_map.specs.LeafMap.{shows_same}
use Rattle.leaf_map.specs.Lost.{empty_names, missing_leaves}
use Rattle.leaf_map.specs.Parts.{Parts}
use Rattle.leaf_map.specs.Recovered.{leaves_found, recovered_of, tree_found}
use Rattle.sound_image.specs.Breaches.{IsFirstBreach, IsWrongInTree, is_misfit, inode_number_of}
use Rattle.sound_image.specs.Image.{Image, parts_of}
use Rattle.sound_image.specs.Leaves.{HasItsNode, HasLeaves, IsSoundLeaf, leaves_recovered}
use Rattle.sound_image.specs.OrphanLists.{HasOrphanLists}
use Rattle.sound_image.specs.Rules.{MeetsBefore}
use Rattle.sound_image.specs.Worked.{HasRootFile, file_placed, least_geometry, least_image, least_master, least_props, sample_root_leaf}
use Rattle.sound_image.specs.Wrong.{IsFirstWrong, Wrong, comes_before, differs}
use Rattle.sound_image.specs.declared.breach.Breach.TheVariants.{Damaged}
use Rattle.sound_image.specs.declared.rule.Rule.TheVariants as rules
use Rattle.sound_image.proofs.FreshLog.{has_fresh_log}
use Rattle.sound_image.proofs.KnownNodes.{plain_known}
use Rattle.sound_image.proofs.LeastImage.{has_ends, has_index, has_sums, least_placed, least_text, no_orphans, orphans_at}
use Rattle.sound_image.proofs.Lists.{cons_parts, none_of}
use Rattle.sound_image.proofs.WorkedEnds.{before_ends, before_orphans}
use Rattle.sound_image.proofs.WorkedRows.{before_sums, least_super_has, not_before}

pub before_tree : (contents : ℕ → List ℕ) (image : Image) → MeetsBefore contents image rules.Orphans → HasOrphanLists contents image.geo → MeetsBefore contents image rules.Tree
before_tree contents image h orphans rules.Superblock n = h rules.Superblock (ltb-true 1 10 refl)
before_tree contents image h orphans rules.Masters n = h rules.Masters (ltb-true 2 10 refl)
before_tree contents image h orphans rules.Properties n = h rules.Properties (ltb-true 3 10 refl)
before_tree contents image h orphans rules.Index n = h rules.Index (ltb-true 4 10 refl)
before_tree contents image h orphans rules.Log n = h rules.Log (ltb-true 5 10 refl)
before_tree contents image h orphans rules.Buds n = h rules.Buds (ltb-true 6 10 refl)
before_tree contents image h orphans rules.Leaves n = h rules.Leaves (ltb-true 7 10 refl)
before_tree contents image h orphans rules.Sums n = h rules.Sums (ltb-true 8 10 refl)
before_tree contents image h orphans rules.Ends n = h rules.Ends (ltb-true 9 10 refl)
before_tree contents image h orphans rules.Orphans n = orphans
before_tree contents image h orphans rules.Tree n = absurd (omega (arith, n))
before_tree contents image h orphans rules.Links n = absurd (omega (arith, n))

abbrev file_image : List LogText → Image
file_image log = record (least_image log) { committed = record { leaf = sample_root_leaf; found = Some file_placed } ∷ [] }

abbrev file_kept : Kept
file_kept = record { leaf = sample_root_leaf; sqnum = 2; node = file_placed.node }

abbrev file_parts : Parts
file_parts = parts_of (file_image [])

file_recovered : (recovered_of file_parts).kept ≡ file_kept ∷ []
unfolding key_rank same_leaf r5_of
file_recovered = refl

file_found : leaves_found file_parts ≡ file_kept ∷ []
unfolding key_rank same_leaf r5_of
file_found = refl

file_leaves : leaves_recovered file_parts ≡ sample_root_leaf ∷ []
unfolding key_rank same_leaf r5_of
file_leaves = refl

none_missing : missing_leaves file_parts ≡ []
unfolding key_rank same_leaf r5_of
none_missing = refl

none_empty : empty_names file_parts ≡ []
unfolding key_rank same_leaf r5_of
none_empty = refl

out_of_place : is_misfit (tree_found file_parts) (shown_by file_kept) ≡ true
unfolding key_rank same_leaf r5_of
out_of_place = refl

file_root : (inode : Inode) × (inode_at (tree_found file_parts) 1 ≡ Some inode)
unfolding key_rank same_leaf r5_of
file_root = (_, refl)

file_node : (contents : ℕ → List ℕ) → HasRootFile contents → HasItsNode contents sample_root_leaf
file_node contents h = record {
  node = file_placed;
  placed = record { lnum = refl; offs = refl; len = refl };
  stands = h.leaf;
  key = refl;
  known = plain_known contents file_placed (h.begins.bytes 10) h.leaf (refl, refl);
}

has_file : (contents : ℕ → List ℕ) (log : List LogText) → HasRootFile contents → parts_of (file_image log) ≡ file_parts → HasLeaves contents (file_image log)
has_file contents log h same =
    let P : Leaf → Type 0 = λ leaf. IsSoundLeaf contents least_geometry least_props leaf in
    let leaves : leaves_recovered (parts_of (file_image log)) ≡ sample_root_leaf ∷ [] = ap leaves_recovered same ∙ file_leaves in
    let Q : List Leaf → Type 0 = λ xs. All P xs in
    let D : List Leaf → Type 0 = λ xs. are_disjoint (map branch_to xs) ≡ true in
    record {
      committed = (refl, (record { lnum = refl; offs = refl; len = refl }, h.leaf), tt);
      listed = no_orphans contents h.orphans;
      sound = subst Q (sym leaves) (All-cons P sample_root_leaf [] (file_node contents h, refl) (All-nil P));
      replaced = ap missing_leaves same ∙ none_missing;
      apart = subst D (sym leaves) refl;
    }

pub one_alone : {X : Type 0} (a x : X) (before behind : List X) → a ∷ [] ≡ before ++ (x ∷ behind) → (before ≡ []) × (a ≡ x)
one_alone a x [] behind h = (refl, (cons_parts a x [] behind h).0)
one_alone a x (b ∷ before) behind h = absurd (none_of x (before ++ (x ∷ behind)) (before, behind, refl) (sym (cons_parts a b [] (before ++ (x ∷ behind)) h).1))

abbrev at_root : Wrong
at_root = record { lnum = 10; offs = 0; misfit = differs 1 0 }

itself : (other : Wrong) → other ≡ at_root → comes_before other at_root ≡ false
itself other e =
    let lnum : other.lnum ≡ 10 = ap (λ (w : Wrong). w.lnum) e in
    not_before other at_root (omega (arith, lnum)) (λ f. omega arith) (λ f g. ap (λ (w : Wrong). w.misfit) e)

none_there : {X : Type 0} (x : X) (before behind : List X) → [] ≡ before ++ (x ∷ behind) → ⊥
none_there {X = X} x before behind e = none_of x [] (before, behind, e) refl

file_least : (contents : ℕ → List ℕ) (other : Wrong) → IsWrongInTree contents least_master file_parts other → comes_before other at_root ≡ false
file_least contents other (inl (x, inl ((before, behind, e), none), is)) = absurd (none_there x before behind e)
file_least contents other (inl (x, inr ((before, behind, e), none), is)) = absurd (none_there x before behind e)
file_least contents other (inr (inl (leaf, before, behind, e, again, is))) =
    let f : true ≡ false = sym again ∙ ap (holds leaf) (one_alone sample_root_leaf leaf before behind e).0 in
    absurd cc
file_least contents other (inr (inr (inl (x, before, behind, e, again, is)))) =
    let own = one_alone file_kept x before behind (sym file_found ∙ e) in
    let f : true ≡ false = sym again ∙ ap (list_any (λ y. shows_same (shown_by y) (shown_by x))) own.0 in
    absurd cc
file_least contents other (inr (inr (inr (inl (x, (before, behind, e), is, there))))) =
    let own = (one_alone file_kept x before behind (sym file_recovered ∙ e)).1 in
    itself other (is ∙ ap (λ (k : Kept). record { lnum = k.leaf.lnum; offs = k.leaf.offs; misfit = differs (inode_number_of k) 0 }) (sym own))
file_least contents other (inr (inr (inr (inr (inl (leaf, one, is)))))) = absurd (none_of leaf (empty_names file_parts) one none_empty)
file_least contents other (inr (inr (inr (inr (inr (none, is)))))) = let e = sym none ∙ file_root.1 in absurd cc

file_first : (contents : ℕ → List ℕ) → IsFirstWrong (IsWrongInTree contents least_master file_parts) at_root
file_first contents = record { wrong = inr (inr (inr (inl (file_kept, ([], [], file_recovered), refl, inr (inl out_of_place))))); least = file_least contents }

pub root_file_row : (contents : ℕ → List ℕ) → HasRootFile contents → IsFirstBreach contents (Damaged rules.Tree 10 0 1 0)
root_file_row contents h =
    let log : List LogText = least_text h.log.start.gap ∷ [] in
    let image : Image = file_image log in
    let P : Parts → Type 0 = λ parts. IsFirstWrong (IsWrongInTree contents least_master parts) at_root in
    let same : parts_of image ≡ file_parts = refl in (
      image,
      before_tree contents image (before_orphans contents image (before_ends contents image (before_sums contents image (record {
        superblock = least_super_has contents h.begins.super;
        masters = record { is_latest = h.begins.masters; in_areas = least_placed };
        properties = h.properties;
        index = has_index contents least_props refl h.index;
      }) (has_fresh_log contents least_geometry least_master 1 (leb-true 3 4 refl) (ltb-true 1 (2 ^ 64) refl) (ltb-true 0 (2 ^ 64) refl) h.log) (record { of_buds = refl; sound = tt }) (has_file contents log h refl)) has_sums)
          (λ no_bud lnum prop has some not_all other. has_ends contents h.behind lnum prop has other)) (orphans_at contents h.orphans),
      subst P (sym same) (file_first contents),
    )
