-- Which listed inodes may go, by what is told and by what was read.
use Rattle.std.proofs.Common.{◌≡◌, ℕ, ◌+◌, ◌<◌, Bool, true, false, cond, not, ◌&&◌, ◌||◌, List, [], ◌∷◌, ◌++◌, map, length, get_or, drop, refl, sym, ap, ◌∙◌, Option, Some, None, append_assoc, add-one, drop-cons}
use Rattle.std.specs.Prelude.{◌==◌, filter, is_some}
use Rattle.std.specs.BTreeMap.{BTreeMap, is_at}
use Rattle.std.specs.List.{list_any}
use Rattle.std.specs.Option.{option_map, option_map_or}
use Rattle.std.specs.Ordering.{nat_cmp}
use Rattle.std.proofs.lemmas.List.Elements.{filter_agree}
use Rattle.ubifs_base.specs.R5.{r5_of}
use Rattle.ubifs_base.specs.declared.key.Key.TheVariants.{Ino, Xent}
use Rattle.media_leaf.specs.LeafNode.{LeafNode, inode, block, entry, truncation}
use Rattle.media_leaf.specs.declared.dent_node.DentNode.{DentNode}
use Rattle.media_leaf.specs.declared.ino_node.InoNode.{InoNode}
use Rattle.index_tree.specs.declared.leaf.Leaf.{Leaf}
use Rattle.index_tree.specs.Removal.{same_leaf}
use Rattle.fs_model.specs.declared.change.Change.TheVariants.{SetInode}
use Rattle.fs_model.specs.declared.inode.Kind.{Kind}
use Rattle.group_nodes.specs.Nodes.{bits_of, inode_of, kind_of_bits}
use Rattle.leaf_map.specs.Kept.{Placed}
use Rattle.leaf_map.specs.Parts.{Committed, Named, Parts, in_bud, is_linked_unknown, is_shown}
use Rattle.leaf_map.specs.Recovered.{listed_left}
use Rattle.journal_scan.specs.Content.{told}
use Rattle.journal_scan.specs.declared.node_content.NodeContent.TheVariants.{Inode, Entry, Unknown}
use Rattle.log_replay.specs.Changes.{place_of_node}
use Rattle.log_replay.specs.Named.{in_named}
use Rattle.log_replay.specs.Replay.{told_committed}
use Rattle.log_replay.specs.Spared.{is_spared_by_map, spared_by, unspared}
use Rattle.log_replay.specs.Standing.{leaf_of_key}
use Rattle.log_replay.proofs.Noted.{number_at}

-- ---- leaf by leaf
or_turned : (s o r : Bool) → ((s || o) || r) ≡ (o || (s || r))
or_turned true true r = refl
or_turned true false r = refl
or_turned false true r = refl
or_turned false false r = refl

pub any_on : {A : Type 0} (test : A → Bool) (before rest all : List A) (first : A) (old new : Bool) → before ≡ first ∷ rest → (old || list_any test before) ≡ list_any test all → new ≡ (test first || old) → (new || list_any test rest) ≡ list_any test all
any_on {A} test before rest all first old new split i n =
    ap (λ (b : Bool). b || list_any test rest) n ∙ or_turned (test first) old (list_any test rest) ∙ ap (λ (xs : List A). old || list_any test xs) (sym split) ∙ i

pub kept_on : (test : ℕ → Bool) (xs all done next : List ℕ) (i : ℕ) → i < length xs → done ++ filter (λ x. not (test x)) (drop i xs) ≡ all → next ≡ cond (test (get_or xs i 0)) done (done ++ get_or xs i 0 ∷ [])
    → next ++ filter (λ x. not (test x)) (drop (i + 1) xs) ≡ all
kept_on test xs all done next i h e n =
    ap (λ (ys : List ℕ). ys ++ filter (λ x. not (test x)) (drop (i + 1) xs)) n
    ∙ step (test (get_or xs i 0)) refl
    ∙ ap (λ (ys : List ℕ). done ++ filter (λ x. not (test x)) ys) (sym split) ∙ e
  where
    split : drop i xs ≡ get_or xs i 0 ∷ drop (i + 1) xs
    split = rw (add-one, drop-cons xs i 0)

    step : (b : Bool) → test (get_or xs i 0) ≡ b
        → cond b done (done ++ get_or xs i 0 ∷ []) ++ filter (λ x. not (test x)) (drop (i + 1) xs) ≡ done ++ filter (λ x. not (test x)) (get_or xs i 0 ∷ drop (i + 1) xs)
    step true t = rw t refl
    step false t = rw (t, append_assoc) refl

-- ---- a node that is found
module _ (named : List Named) (m : BTreeMap ℕ ℕ) (same : (leaf : Leaf) → in_named m leaf ≡ in_bud named leaf) (q : ℕ) where
  abbrev spares : Leaf → Placed → Bool
  spares leaf p = is_spared_by_map m q (told_committed (record { leaf = leaf; found = Some p }))

  abbrev is_linked : Leaf → Placed → Bool
  is_linked leaf p = is_linked_unknown named q (record { leaf = leaf; found = Some p })

  never : (a : Bool) → (a && false) ≡ false
  never true = refl
  never false = refl

  -- by what is told of an inode
  inode_spares : (leaf : Leaf) (p : Placed) (node : InoNode) (l : Bool) (k : Option Kind)
      → option_map_or (λ spared. is_at (nat_cmp spared) q) (spared_by m (record { leaf = leaf; found = Some (record (told p) { content = cond (is_some k) (Inode node.ino l) (Unknown (Ino node.ino) l) }) })) false
      ≡ (((node.ino == q) && l) && (not (in_bud named leaf) && (not (is_shown (option_map (λ kind. SetInode node.ino (inode_of node kind)) k)) && same_leaf leaf (leaf_of_key (Ino node.ino) (place_of_node (told p))))))
  inode_spares leaf p node l (Some kind) = sym (by (in_bud named leaf) ((node.ino == q) && l))
    where
      by : (b c : Bool) → (c && (not b && false)) ≡ false
      by true c = never c
      by false c = never c
  inode_spares leaf p node false None = sym (by (node.ino == q) (not (in_bud named leaf) && same_leaf leaf (leaf_of_key (Ino node.ino) (place_of_node (told p)))))
    where
      by : (b c : Bool) → ((b && false) && c) ≡ false
      by true c = refl
      by false c = refl
  inode_spares leaf p node true None =
      ap (λ (b : Bool). option_map_or (λ spared. is_at (nat_cmp spared) q) (cond (not b && same_leaf leaf (leaf_of_key (Ino node.ino) (place_of_node (told p)))) (Some node.ino) None) false) (same leaf)
      ∙ by (not (in_bud named leaf)) (same_leaf leaf (leaf_of_key (Ino node.ino) (place_of_node (told p))))
    where
      out : (b : Bool) → b ≡ ((b && true) && true)
      out true = refl
      out false = refl

      no : (b : Bool) → false ≡ ((b && true) && false)
      no true = refl
      no false = refl

      by : (a s : Bool) → option_map_or (λ (spared : ℕ). is_at (nat_cmp spared) q) (cond (a && s) (Some node.ino) None) false ≡ (((node.ino == q) && true) && (a && s))
      by true true = sym (number_at node.ino q) ∙ out (node.ino == q)
      by true false = no (node.ino == q)
      by false s = no (node.ino == q)

  entry_spares : (leaf : Leaf) (p : Placed) (node : DentNode) (a l : Bool)
      → option_map_or (λ spared. is_at (nat_cmp spared) q) (spared_by m (record { leaf = leaf; found = Some (record (told p) { content = cond a (Unknown (Xent node.dir (r5_of node.name)) true) (Entry node.dir node.name l) }) })) false ≡ false
  entry_spares leaf p node true l = refl
  entry_spares leaf p node false l = refl

  at : (leaf : Leaf) (p : Placed) (node : LeafNode) → p.node ≡ node → spares leaf p ≡ is_linked leaf p
  at leaf p (inode node) e = rw e (inode_spares leaf (record p { node = inode node }) node (not (node.nlink == 0)) (kind_of_bits (bits_of node.mode)))
  at leaf p (block node) e = rw e refl
  at leaf p (entry node) e = rw e (entry_spares leaf (record p { node = entry node }) node node.attribute (not (node.inum == 0)))
  at leaf p (truncation node) e = rw e refl

  spared_is : (c : Committed) → is_spared_by_map m q (told_committed c) ≡ is_linked_unknown named q c
  spared_is c = by c.found
    where
      by : (found : Option Placed) → is_spared_by_map m q (told_committed (record { leaf = c.leaf; found = found })) ≡ is_linked_unknown named q (record { leaf = c.leaf; found = found })
      by None = refl
      by (Some p) = at c.leaf p p.node refl

  pub any_spared : (cs : List Committed) → list_any (is_linked_unknown named q) cs ≡ list_any (is_spared_by_map m q) (map told_committed cs)
  any_spared [] = refl
  any_spared (c ∷ cs) = rw (spared_is c, any_spared cs) refl

-- ---- the list
pub left_told : (parts : Parts) (m : BTreeMap ℕ ℕ) → ((leaf : Leaf) → in_named m leaf ≡ in_bud parts.named leaf) → listed_left parts ≡ unspared m (map told_committed parts.committed) parts.listed
left_told parts m same =
    filter_agree (λ ino. not (list_any (is_linked_unknown parts.named ino) parts.committed)) (λ ino. not (list_any (is_spared_by_map m ino) (map told_committed parts.committed))) (λ ino. ap not (any_spared parts.named m same ino parts.committed)) parts.listed
