-- A damaged image in which no name leads to a file.
use Rattle.std.proofs.Common.{◌≡◌, ℕ, zero, suc, ◌+◌, ◌-◌, ◌^◌, ◌≤◌, nat_lt, Bool, true, false, List, [], ◌∷◌, ◌++◌, Some, None, length, slice_get, drop, refl, ap, sym, ◌∙◌, subst, inl, inr, arith}
use Rattle.std.specs.Prelude.{◌≢◌, ◌⊎◌, All, IsSome, cond, map}
use Rattle.std.specs.List.{IsDistinct}
use Rattle.std.specs.Int.Count.{count_leading_zeros}
use Rattle.std.proofs.Math.Nat.{le_refl}
use Rattle.std.proofs.lemmas.Bool.{leb-true, ltb-false, ltb-true}
use Rattle.std.proofs.lemmas.List.Elements.{All-nil, All-cons}
use Rattle.ubifs_base.specs.Properties.{fls}
use Rattle.ubifs_base.specs.R5.{r5_of}
use Rattle.ubifs_base.specs.declared.key.Key.TheVariants.{Ino}
use Rattle.media_lpt.specs.declared.lprop.Lprop.{Lprop}
use Rattle.small_areas.specs.Addresses.{addresses_of, first_past}
use Rattle.leb_scan.specs.Text.{is_blank}
use Rattle.bud_log.specs.LogText.{LogText}
use Rattle.index_tree.specs.Distinct.{AreDistinct}
use Rattle.index_tree.specs.Order.{key_rank}
use Rattle.index_tree.specs.Removal.{same_leaf}
use Rattle.index_tree.specs.declared.leaf.Leaf.{Leaf}
use Rattle.index_media.specs.PlacedRow.{are_disjoint, branch_to, ended, leaf_at}
use Rattle.index_media.specs.Stored.{AreStored, IsIndexNodeAt}
use Rattle.fs_model.specs.declared.change.Change.TheVariants.{SetInode}
use Rattle.fs_model.specs.declared.inode.Inode.{Inode}
use Rattle.fs_model.specs.declared.inode.Kind.TheVariants.{Dir, File}
use Rattle.fs_model.specs.Proper.{names_of}
use Rattle.group_nodes.specs.Nodes.{change_of, inode_of}
use Rattle.leaf_map.specs.Kept.{Kept, Placed, shown_by}
use Rattle.leaf_map.specs.Lost.{missing_leaves}
use Rattle.leaf_map.specs.Parts.{Parts}
use Rattle.leaf_map.specs.Recovered.{recovered_of, tree_found}
use Rattle.sound_image.specs.Breaches.{IsFirstBreach, IsWrongLink}
use Rattle.sound_image.specs.Image.{Image, parts_of}
use Rattle.sound_image.specs.Index.{HasIndex}
use Rattle.sound_image.specs.Leaves.{HasItsNode, HasLeaves, IsSoundLeaf, leaves_recovered}
use Rattle.sound_image.specs.Properties.{is_marked_index, prop_of}
use Rattle.sound_image.specs.Rules.{MeetsBefore}
use Rattle.sound_image.specs.Space.{committed_bytes}
use Rattle.sound_image.specs.Tree.{HasTree, IsCopy, ShowsItsNode, has_its_links}
use Rattle.sound_image.specs.Worked.{HasLoneFile, least_geometry, lone_branch, lone_index, lone_inode, lone_latest, lone_leaf, lone_placed, lone_props, sample_root_inode, root_kept, sample_root_leaf, sample_root_placed}
use Rattle.sound_image.specs.Wrong.{IsFirstWrong, Wrong, comes_before, differs}
use Rattle.sound_image.specs.declared.breach.Breach.TheVariants.{Damaged}
use Rattle.sound_image.specs.declared.rule.Rule.TheVariants as rules
use Rattle.sound_image.proofs.FreshLog.{has_fresh_log}
use Rattle.sound_image.proofs.KnownNodes.{plain_known}
use Rattle.sound_image.proofs.LeastImage.{least_text, no_orphans, orphans_at}
use Rattle.sound_image.proofs.Lists.{cons_parts}
use Rattle.sound_image.proofs.WorkedEnds.{before_ends, before_orphans}
use Rattle.sound_image.proofs.WorkedFiles.{before_tree, one_alone}
use Rattle.sound_image.proofs.WorkedRows.{before_sums, least_super_has, not_before}

before_links : (contents : ℕ → List ℕ) (image : Image) → MeetsBefore contents image rules.Tree → HasTree contents (parts_of image) → MeetsBefore contents image rules.Links
before_links contents image h tree rules.Superblock n = h rules.Superblock (ltb-true 1 11 refl)
before_links contents image h tree rules.Masters n = h rules.Masters (ltb-true 2 11 refl)
before_links contents image h tree rules.Properties n = h rules.Properties (ltb-true 3 11 refl)
before_links contents image h tree rules.Index n = h rules.Index (ltb-true 4 11 refl)
before_links contents image h tree rules.Log n = h rules.Log (ltb-true 5 11 refl)
before_links contents image h tree rules.Buds n = h rules.Buds (ltb-true 6 11 refl)
before_links contents image h tree rules.Leaves n = h rules.Leaves (ltb-true 7 11 refl)
before_links contents image h tree rules.Sums n = h rules.Sums (ltb-true 8 11 refl)
before_links contents image h tree rules.Ends n = h rules.Ends (ltb-true 9 11 refl)
before_links contents image h tree rules.Orphans n = h rules.Orphans (ltb-true 10 11 refl)
before_links contents image h tree rules.Tree n = tree
before_links contents image h tree rules.Links n = absurd (omega (arith, n))

-- ---- what it says
abbrev lone_image : List LogText → Image
lone_image log = record {
  geo = least_geometry;
  latest = lone_latest;
  props = lone_props;
  placed = lone_index;
  log = log;
  buds = [];
  committed = record { leaf = sample_root_leaf; found = Some sample_root_placed } ∷ record { leaf = lone_leaf; found = Some lone_placed } ∷ [];
  listed = [];
}

abbrev lone_parts : Parts
lone_parts = parts_of (lone_image [])

abbrev lone_kept : Kept
lone_kept = record { leaf = lone_leaf; sqnum = 3; node = lone_placed.node }

lone_recovered : (recovered_of lone_parts).kept ≡ root_kept ∷ lone_kept ∷ []
unfolding key_rank same_leaf r5_of
lone_recovered = refl

lone_leaves : leaves_recovered lone_parts ≡ sample_root_leaf ∷ lone_leaf ∷ []
unfolding key_rank same_leaf r5_of
lone_leaves = refl

none_missing : missing_leaves lone_parts ≡ []
unfolding key_rank same_leaf r5_of
none_missing = refl

masters_placed : first_past (addresses_of least_geometry lone_latest.master) ≡ None
unfolding fls count_leading_zeros
masters_placed = refl

-- ---- its index
stored : (contents : ℕ → List ℕ) → IsIndexNodeAt contents lone_branch (record { level = 0; branches = branch_to sample_root_leaf ∷ branch_to lone_leaf ∷ [] }) → AreStored contents 1 lone_index
unfolding AreStored
stored contents h = (ltb-true 0 1 refl, h, (refl, (refl, tt)), tt)

has_index : (contents : ℕ → List ℕ) → HasLoneFile contents → HasIndex contents least_geometry lone_latest.master lone_props lone_index
unfolding key_rank
has_index contents h = record {
  key = sample_root_leaf.key;
  index = record {
    children = leaf_at sample_root_leaf (leaf_at lone_leaf ended);
    whole = refl;
    levels = 1;
    stored = stored contents h.index;
    fits = refl;
    bounded = (leb-true 0 (key_rank (Ino 1)) refl, tt, (le_refl (key_rank (Ino 1)), tt, (leb-true (key_rank (Ino 1)) (key_rank (Ino 65)) refl, tt, tt)), tt);
  };
  first = refl;
  marked = All-cons (λ (lnum : ℕ). is_marked_index least_geometry lone_props lnum ≡ true) 11 [] refl (All-nil (λ (lnum : ℕ). is_marked_index least_geometry lone_props lnum ≡ true));
}

-- ---- its leaves
root_there : (contents : ℕ → List ℕ) → HasLoneFile contents → HasItsNode contents sample_root_leaf
root_there contents h = record { node = sample_root_placed; placed = record { lnum = refl; offs = refl; len = refl }; stands = h.root; key = refl; known = plain_known contents sample_root_placed (h.begins.bytes 10) h.root (refl, refl) }

file_there : (contents : ℕ → List ℕ) → HasLoneFile contents → HasItsNode contents lone_leaf
file_there contents h = record { node = lone_placed; placed = record { lnum = refl; offs = refl; len = refl }; stands = h.file; key = refl; known = plain_known contents lone_placed (h.begins.bytes 10) h.file (refl, refl) }

has_leaves : (contents : ℕ → List ℕ) (log : List LogText) → HasLoneFile contents → parts_of (lone_image log) ≡ lone_parts → HasLeaves contents (lone_image log)
has_leaves contents log h same =
    let P : Leaf → Type 0 = λ leaf. IsSoundLeaf contents least_geometry lone_props leaf in
    let leaves : leaves_recovered (parts_of (lone_image log)) ≡ sample_root_leaf ∷ lone_leaf ∷ [] = ap leaves_recovered same ∙ lone_leaves in
    let Q : List Leaf → Type 0 = λ xs. All P xs in
    let D : List Leaf → Type 0 = λ xs. are_disjoint (map branch_to xs) ≡ true in
    record {
      committed = (refl, (record { lnum = refl; offs = refl; len = refl }, h.root), (refl, (record { lnum = refl; offs = refl; len = refl }, h.file), tt));
      listed = no_orphans contents h.orphans;
      sound = subst Q (sym leaves) (All-cons P sample_root_leaf (lone_leaf ∷ []) (root_there contents h, refl) (All-cons P lone_leaf [] (file_there contents h, refl) (All-nil P)));
      replaced = ap missing_leaves same ∙ none_missing;
      apart = subst D (sym leaves) refl;
    }

-- ---- its tree
both_distinct : AreDistinct (sample_root_leaf ∷ lone_leaf ∷ [])
unfolding IsDistinct same_leaf key_rank
both_distinct = ((refl, tt), (tt, tt))

has_tree : (contents : ℕ → List ℕ) → HasLoneFile contents → HasTree contents lone_parts
unfolding key_rank same_leaf r5_of
has_tree contents h = record {
  changes = All-nil (λ (x : Placed). IsSome (change_of x.node));
  copies = All-nil (IsCopy lone_parts);
  distinct = both_distinct;
  named = refl;
  found = refl;
  shown = All-cons (ShowsItsNode contents) root_kept (lone_kept ∷ []) (record { sqnum = 2; group = 0; is = h.root.is; shown = refl }) (All-cons (ShowsItsNode contents) lone_kept [] (record { sqnum = 3; group = 0; is = h.file.is; shown = refl }) (All-nil (ShowsItsNode contents)));
  apart = refl;
  root = refl;
  entries = refl;
  dirs = refl;
}

-- ---- its sums
prop_same : (a b : Lprop) → Some a ≡ Some b → a ≡ b
prop_same a b e = cc

abbrev IsOneOfBoth : ℕ → Lprop → Type 0
IsOneOfBoth lnum prop = ((lnum ≡ 10) × (record { free = 16064; dirty = 0; index = false } ≡ prop)) ⊎ ((lnum ≡ 11) × (record { free = 16312; dirty = 0; index = true } ≡ prop))

both_at : (i lnum : ℕ) (prop : Lprop) → 10 ≤ lnum → lnum - 10 ≡ i → slice_get lone_props i ≡ Some prop → IsOneOfBoth lnum prop
both_at zero lnum prop low e has = inl (omega (arith, low, e), prop_same _ prop has)
both_at (suc zero) lnum prop low e has = inr (omega (arith, low, e), prop_same _ prop has)
both_at (suc (suc i)) lnum prop low e has = absurd cc

both_by : (lnum : ℕ) (prop : Lprop) (below : Bool) → nat_lt lnum 10 ≡ below → cond below None (slice_get lone_props (lnum - 10)) ≡ Some prop → IsOneOfBoth lnum prop
both_by lnum prop true e has = absurd cc
both_by lnum prop false e has = both_at (lnum - 10) lnum prop (ltb-false lnum 10 e) refl has

one_of_both : (lnum : ℕ) (prop : Lprop) → prop_of least_geometry lone_props lnum ≡ Some prop → IsOneOfBoth lnum prop
one_of_both lnum prop has = both_by lnum prop (nat_lt lnum 10) refl has

has_sums : (lnum : ℕ) (prop : Lprop) → prop_of least_geometry lone_props lnum ≡ Some prop → prop.free + prop.dirty + committed_bytes lone_index lnum ≡ 16384
has_sums lnum prop has = elim (one_of_both lnum prop has) [
  | inl (here, is) ↦
      let P : ℕ → Type 0 = λ k. prop.free + prop.dirty + committed_bytes lone_index k ≡ 16384 in
      let Q : Lprop → Type 0 = λ p. p.free + p.dirty + committed_bytes lone_index 10 ≡ 16384 in
      subst P (sym here) (subst Q is refl)
  | inr (here, is) ↦
      let P : ℕ → Type 0 = λ k. prop.free + prop.dirty + committed_bytes lone_index k ≡ 16384 in
      let Q : Lprop → Type 0 = λ p. p.free + p.dirty + committed_bytes lone_index 11 ≡ 16384 in
      subst P (sym here) (subst Q is refl)
]

has_ends : (contents : ℕ → List ℕ) → is_blank (drop 320 (contents 10)) ≡ true → (lnum : ℕ) (prop : Lprop) → prop_of least_geometry lone_props lnum ≡ Some prop → lnum ≢ 11 → is_blank (drop (16384 - prop.free) (contents lnum)) ≡ true
has_ends contents h lnum prop has other = elim (one_of_both lnum prop has) [
  | inl (here, is) ↦
      let P : ℕ → Type 0 = λ k. is_blank (drop (16384 - prop.free) (contents k)) ≡ true in
      let Q : Lprop → Type 0 = λ p. is_blank (drop (16384 - p.free) (contents 10)) ≡ true in
      subst P (sym here) (subst Q is h)
  | inr (here, is) ↦ absurd (other here)
]

-- ---- its links
no_name : has_its_links (tree_found lone_parts) (65, inode_of lone_inode File) ≡ false
unfolding key_rank same_leaf r5_of
no_name = refl

no_names : length (names_of (tree_found lone_parts) 65) ≡ 0
unfolding key_rank same_leaf r5_of
no_names = refl

root_fine : has_its_links (tree_found lone_parts) (1, inode_of sample_root_inode Dir) ≡ true
unfolding key_rank same_leaf r5_of
root_fine = refl

shown_same : (a b : ℕ) (x y : Inode) → Some (SetInode a x) ≡ Some (SetInode b y) → (a ≡ b) × (x ≡ y)
shown_same a b x y e = (cc, cc)

abbrev at_file : Wrong
at_file = record { lnum = 10; offs = 160; misfit = differs 0 1 }

-- where the node of a leaf is one of these two
two_there : (a b x : Kept) (before behind : List Kept) → a ∷ b ∷ [] ≡ before ++ (x ∷ behind) → (a ≡ x) ⊎ (b ≡ x)
two_there a b x [] behind e = inl (cons_parts a x (b ∷ []) behind e).0
two_there a b x (c ∷ before) behind e = inr (one_alone b x before behind (cons_parts a c (b ∷ []) (before ++ (x ∷ behind)) e).1).1

lone_least : (other : Wrong) → IsWrongLink lone_parts other → comes_before other at_file ≡ false
lone_least other wrong =
    let parts : root_kept ∷ lone_kept ∷ [] ≡ wrong.one.0 ++ (wrong.x ∷ wrong.one.1) = sym lone_recovered ∙ wrong.one.2 in
    let S : Kept → Type 0 = λ k. shown_by k ≡ Some (SetInode wrong.ino wrong.inode) in
    elim (two_there root_kept lone_kept wrong.x wrong.one.0 wrong.one.1 parts) [
      | inl own ↦
          let is = shown_same 1 wrong.ino (inode_of sample_root_inode Dir) wrong.inode (subst S (sym own) wrong.shows) in
          let e : true ≡ false = sym root_fine ∙ ap (λ (n : ℕ). has_its_links (tree_found lone_parts) (n, inode_of sample_root_inode Dir)) is.0 ∙ ap (λ (i : Inode). has_its_links (tree_found lone_parts) (wrong.ino, i)) is.1 ∙ wrong.other in
          absurd cc
      | inr own ↦
          let is = shown_same 65 wrong.ino (inode_of lone_inode File) wrong.inode (subst S (sym own) wrong.shows) in
          let lnum : other.lnum ≡ 10 = ap (λ (w : Wrong). w.lnum) wrong.is ∙ ap (λ (k : Kept). k.leaf.lnum) (sym own) in
          let offs : other.offs ≡ 160 = ap (λ (w : Wrong). w.offs) wrong.is ∙ ap (λ (k : Kept). k.leaf.offs) (sym own) in
          let misfit : other.misfit ≡ differs 0 1 = ap (λ (w : Wrong). w.misfit) wrong.is ∙ ap (λ (n : ℕ). differs (length (names_of (tree_found lone_parts) n)) wrong.inode.nlink) (sym is.0) ∙ ap (λ (n : ℕ). differs n wrong.inode.nlink) no_names
          ∙ ap (λ (i : Inode). differs 0 i.nlink) (sym is.1) in
          not_before other at_file (omega (arith, lnum)) (λ e. omega (arith, offs)) (λ e f. misfit)
    ]

lone_first : IsFirstWrong (IsWrongLink lone_parts) at_file
lone_first = record {
  wrong = record {
    x = lone_kept;
    one = (root_kept ∷ [], [], lone_recovered);
    ino = 65;
    inode = inode_of lone_inode File;
    shows = refl;
    other = no_name;
    is = ap (λ (n : ℕ). record { lnum = 10; offs = 160; misfit = differs n 1 }) (sym no_names);
  };
  least = lone_least;
}

pub lone_file_row : (contents : ℕ → List ℕ) → HasLoneFile contents → IsFirstBreach contents (Damaged rules.Links 10 160 0 1)
lone_file_row contents h =
    let log : List LogText = least_text h.log.start.gap ∷ [] in
    let image : Image = lone_image log in
    let P : Parts → Type 0 = λ parts. IsFirstWrong (IsWrongLink parts) at_file in
    let T : Parts → Type 0 = λ parts. HasTree contents parts in
    let same : parts_of image ≡ lone_parts = refl in (
      image,
      before_links contents image (before_tree contents image (before_orphans contents image (before_ends contents image (before_sums contents image (record {
        superblock = least_super_has contents h.begins.super;
        masters = record { is_latest = h.begins.masters; in_areas = masters_placed };
        properties = h.properties;
        index = has_index contents h;
      }) (has_fresh_log contents least_geometry lone_latest.master 1 (leb-true 3 4 refl) (ltb-true 1 (2 ^ 64) refl) (ltb-true 0 (2 ^ 64) refl) h.log) (record { of_buds = refl; sound = tt }) (has_leaves contents log h refl)) has_sums)
          (λ no_bud lnum prop has some not_all other. has_ends contents h.behind lnum prop has other)) (orphans_at contents h.orphans)) (subst T (sym same) (has_tree contents h)),
      subst P (sym same) lone_first,
    )
