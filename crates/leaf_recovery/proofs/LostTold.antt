-- What is told of leaves and nodes tells which leaves are lost, and which of them the journal has replaced.
use Rattle.std.proofs.Common.{◌≡◌, ℕ, Bool, true, false, cond, not, ◌&&◌, List, [], ◌∷◌, ◌++◌, map, refl, sym, ap, subst, ◌∙◌, Option, Some, None}
use Rattle.std.specs.Prelude.{◌==◌, filter, is_some}
use Rattle.std.specs.List.{list_any}
use Rattle.std.specs.Option.{option_map, option_map_or}
use Rattle.ubifs_base.specs.R5.{r5_of}
use Rattle.ubifs_base.specs.declared.key.Key.{Key}
use Rattle.ubifs_base.specs.declared.key.Key.TheVariants.{Ino, Dent, Xent}
use Rattle.media_leaf.specs.LeafNode.{LeafNode, inode, block, entry, truncation}
use Rattle.media_leaf.specs.declared.dent_node.DentNode.{DentNode}
use Rattle.media_leaf.specs.declared.ino_node.InoNode.{InoNode}
use Rattle.media_sys.specs.declared.ref_node.RefNode.{RefNode}
use Rattle.index_tree.specs.declared.leaf.Leaf.{Leaf}
use Rattle.index_tree.specs.Order.{key_rank, leaf_rank}
use Rattle.index_tree.specs.Removal.{same_leaf}
use Rattle.fs_model.specs.declared.change.Change.TheVariants.{SetInode}
use Rattle.fs_model.specs.declared.inode.Kind.{Kind}
use Rattle.fs_model.specs.Path.{is_empty, is_same_name}
use Rattle.group_nodes.specs.Nodes.{bits_of, inode_of, kind_of_bits, leaf_key}
use Rattle.leaf_map.specs.Kept.{Kept, Placed, kept_at, shown}
use Rattle.leaf_map.specs.Lost.{have_same_name, is_read_name, is_renamed, lost_leaves, names_left, stands_for, unnamed}
use Rattle.leaf_map.specs.Parts.{Committed, Named, Parts, has_links, in_bud, is_linked_unknown, is_shown, own_node, shows_nothing}
use Rattle.leaf_map.specs.Recovered.{copies_left, leaf_found_for}
use Rattle.journal_scan.specs.Content.{node_content_of}
use Rattle.journal_scan.specs.declared.node_content.NodeContent.{NodeContent}
use Rattle.journal_scan.specs.declared.node_content.NodeContent.TheVariants.{Inode, Block, Entry, Truncation, Unknown}
use Rattle.journal_scan.specs.declared.journal_node.JournalNode.{JournalNode}
use Rattle.log_replay.specs.Replay.{told_committed}
use Rattle.log_replay.specs.Settling.{HasGrammar}
use Rattle.log_replay.specs.declared.committed_leaf.CommittedLeaf.{CommittedLeaf}
use Rattle.leaf_recovery.specs.declared.lost_leaf.LostLeaf.{LostLeaf}
use Rattle.leaf_recovery.specs.declared.recovered_leaf.RecoveredLeaf.{RecoveredLeaf}
use Rattle.leaf_recovery.specs.Applied.{is_spared_by, is_unknown_told}
use Rattle.leaf_recovery.specs.Found.{copies_left_told, leaf_found_told, lost_leaves_told, own_node_told}
use Rattle.leaf_recovery.specs.Lost.{empty_told, has_rank_told, is_renamed_told, is_taken_told, lost_leaf_told, names_left_told, reads_name_told, shows_nothing_told, spare_names_told, stands_for_told, unnamed_told}
use Rattle.leaf_recovery.specs.Named.{named_by_reference}
use Rattle.leaf_recovery.specs.Things.{same_name_told}
use Rattle.leaf_recovery.specs.Told.{Pairwise}
use Rattle.leaf_recovery.proofs.FoundTold.{empty_is, found_pair, leaf_found, left_pair}
use Rattle.leaf_recovery.proofs.Pairs.{IfBoth, any_pairs, append_pairs, filter_pairs, find_pairs, map_pairs}
use Rattle.leaf_recovery.proofs.Rough.{shown_of}
use Rattle.leaf_recovery.proofs.Telling.{KeptTold, LeafTold, NodeTold, in_bud_is, own_pair, thing_shown, told_leaf_is}

-- ---- names
no_name : (k : Bool) (ino : ℕ) (key : Key) (l : Bool) (d : NodeContent) → same_name_told (cond k (Inode ino l) (Unknown key l)) d ≡ false
no_name true ino key l d = refl
no_name false ino key l d = refl

entry_inode : (a : DentNode) (x m : Bool) (k : Bool) (ino : ℕ) (key : Key) (l : Bool)
    → same_name_told (cond x (Unknown (Xent a.dir (r5_of a.name)) true) (Entry a.dir a.name m)) (cond k (Inode ino l) (Unknown key l)) ≡ false
entry_inode a true m k ino key l = refl
entry_inode a false m true ino key l = refl
entry_inode a false m false ino key l = refl

entry_block : (a : DentNode) (x m : Bool) (ino number : ℕ) → same_name_told (cond x (Unknown (Xent a.dir (r5_of a.name)) true) (Entry a.dir a.name m)) (Block ino number) ≡ false
entry_block a true m ino number = refl
entry_block a false m ino number = refl

entry_cut : (a : DentNode) (x m : Bool) (ino size : ℕ) → same_name_told (cond x (Unknown (Xent a.dir (r5_of a.name)) true) (Entry a.dir a.name m)) (Truncation ino size) ≡ false
entry_cut a true m ino size = refl
entry_cut a false m ino size = refl

entry_entry : (a b : DentNode) (x y m n : Bool)
    → same_name_told (cond x (Unknown (Xent a.dir (r5_of a.name)) true) (Entry a.dir a.name m)) (cond y (Unknown (Xent b.dir (r5_of b.name)) true) (Entry b.dir b.name n))
    ≡ (not x && not y && ((a.dir == b.dir) && is_same_name a.name b.name))
entry_entry a b true y m n = refl
entry_entry a b false true m n = refl
entry_entry a b false false m n = refl

pub name_is : (a b : LeafNode) → same_name_told (node_content_of a) (node_content_of b) ≡ have_same_name a b
name_is (inode a) b = no_name (is_some (kind_of_bits (bits_of a.mode))) a.ino (Ino a.ino) (not (a.nlink == 0)) (node_content_of b)
name_is (block a) b = refl
name_is (truncation a) b = refl
name_is (entry a) (inode b) = entry_inode a a.attribute (not (a.inum == 0)) (is_some (kind_of_bits (bits_of b.mode))) b.ino (Ino b.ino) (not (b.nlink == 0))
name_is (entry a) (block b) = entry_block a a.attribute (not (a.inum == 0)) b.ino b.block
name_is (entry a) (truncation b) = entry_cut a a.attribute (not (a.inum == 0)) b.ino b.new_size
name_is (entry a) (entry b) = entry_entry a b a.attribute b.attribute (not (a.inum == 0)) (not (b.inum == 0))

-- of contents that are told
pub told_name : (c d : NodeContent) (a b : LeafNode) → c ≡ node_content_of a → d ≡ node_content_of b → have_same_name a b ≡ same_name_told c d
told_name c d a b e f = sym (ap (λ z. same_name_told z d) e ∙ ap (same_name_told (node_content_of a)) f ∙ name_is a b)

-- ---- keys
inode_rank : (rank ino : ℕ) (k l : Bool) → has_rank_told rank (cond k (Inode ino l) (Unknown (Ino ino) l)) ≡ (key_rank (Ino ino) == rank)
inode_rank rank ino true l = refl
inode_rank rank ino false l = refl

entry_rank : (rank : ℕ) (a : DentNode) (x l : Bool)
    → has_rank_told rank (cond x (Unknown (Xent a.dir (r5_of a.name)) true) (Entry a.dir a.name l)) ≡ (key_rank (cond x (Xent a.dir (r5_of a.name)) (Dent a.dir (r5_of a.name))) == rank)
entry_rank rank a true l = refl
entry_rank rank a false l = refl

pub rank_is : (rank : ℕ) (a : LeafNode) → has_rank_told rank (node_content_of a) ≡ option_map_or (λ key. key_rank key == rank) (leaf_key a) false
rank_is rank (inode a) = inode_rank rank a.ino (is_some (kind_of_bits (bits_of a.mode))) (not (a.nlink == 0))
rank_is rank (block a) = refl
rank_is rank (entry a) = entry_rank rank a a.attribute (not (a.inum == 0))
rank_is rank (truncation a) = refl

node_content : (parts : Parts) (p : Placed) (j : JournalNode) → NodeTold parts p j → j.content ≡ node_content_of p.node
node_content parts p j t = ap (λ (n : JournalNode). n.content) t.is

-- ---- a leaf that is lost
three : (a b c : Bool) → ((not a && b) && c) ≡ (not a && (b && c))
three true b c = refl
three false b c = refl

turned : (a b : Bool) → (a && b) ≡ (b && a)
turned true true = refl
turned true false = refl
turned false true = refl
turned false false = refl

-- this is kept of a leaf that is lost
pub record LostTold (named : List Named) (nodes : List Placed) (c : Committed) (l : LostLeaf) : Type 0 where
  pub leaf : l.leaf ≡ c.leaf
  pub empty : l.is_empty ≡ shows_nothing named c
  pub renamed : l.is_renamed ≡ is_renamed nodes c

module _ (parts : Parts) (references : List RefNode) where
  abbrev pub named : List Named
  named = map named_by_reference references

  -- ---- which are lost
  some_pair : (o : Option Kept) (p : Option RecoveredLeaf) → IfBoth (KeptTold parts) o p → is_some o ≡ is_some p
  some_pair None None h = refl
  some_pair None (Some j) h = absurd h
  some_pair (Some c) None h = absurd h
  some_pair (Some c) (Some j) h = refl

  if_lost : (x : Committed) (k : CommittedLeaf) → LeafTold parts x k → (a b : Bool) → not b ≡ a → Pairwise (LeafTold parts) (cond a (x ∷ []) []) (cond b [] (k ∷ []))
  if_lost x k t true false e = (t, tt)
  if_lost x k t false true e = tt
  if_lost x k t true true e = absurd cc
  if_lost x k t false false e = absurd cc

  pub lost_all : (xs : List Committed) (ls : List CommittedLeaf) (cs : List Placed) (js : List JournalNode) → Pairwise (LeafTold parts) xs ls → Pairwise (NodeTold parts) cs js
      → Pairwise (LeafTold parts) (lost_leaves named cs xs) (lost_leaves_told references js ls)
  lost_all [] [] cs js l h = tt
  lost_all [] (k ∷ ls) cs js l h = absurd l
  lost_all (x ∷ xs) [] cs js l h = absurd l
  lost_all (x ∷ xs) (k ∷ ls) cs js l h =
      subst (λ (z : CommittedLeaf). Pairwise (LeafTold parts) (lost_leaves named cs (x ∷ xs)) (lost_leaves_told references js (z ∷ ls))) (sym l.0.is)
      (step (own_node named x) (own_node_told references (told_committed x)) (own_pair parts references x l.0.grammar l.0.read) (lost_all xs ls))
    where
      here : LeafTold parts x (told_committed x)
      here = record { is = refl; grammar = l.0.grammar; read = l.0.read }

      step : (own : Option Placed) (own' : Option JournalNode) → IfBoth (NodeTold parts) own own'
          → ((ds : List Placed) (ks : List JournalNode) → Pairwise (LeafTold parts) xs ls → Pairwise (NodeTold parts) ds ks → Pairwise (LeafTold parts) (lost_leaves named ds xs) (lost_leaves_told references ks ls))
          → Pairwise (LeafTold parts) (cond (is_empty (leaf_found_for cs x own)) (x ∷ []) [] ++ lost_leaves named (copies_left cs x own) xs)
          (cond (is_some (leaf_found_told js (told_committed x) own')) [] (told_committed x ∷ []) ++ lost_leaves_told references (copies_left_told js (told_committed x) own') ls)
      step own own' o more =
          append_pairs (LeafTold parts) (cond (is_empty (leaf_found_for cs x own)) (x ∷ []) []) (cond (is_some (leaf_found_told js (told_committed x) own')) [] (told_committed x ∷ []))
          (lost_leaves named (copies_left cs x own) xs) (lost_leaves_told references (copies_left_told js (told_committed x) own') ls)
          (if_lost x (told_committed x) here (is_empty (leaf_found_for cs x own)) (is_some (leaf_found_told js (told_committed x) own'))
          (ap not (sym (some_pair (leaf_found cs x own) (leaf_found_told js (told_committed x) own') (found_pair parts references x own own' cs js o h))) ∙ sym (empty_is cs x own)))
          (more (copies_left cs x own) (copies_left_told js (told_committed x) own') l.1 (left_pair parts references x own own' cs js o h))

  -- ---- what is kept of them
  nothing_is : (x : Committed) → HasGrammar x → shows_nothing_told references (told_committed x) ≡ shows_nothing named x
  nothing_is x g = by x.found g
    where
      by : (found : Option Placed) → HasGrammar (record { leaf = x.leaf; found = found }) → shows_nothing_told references (told_committed (record { leaf = x.leaf; found = found })) ≡ shows_nothing named (record { leaf = x.leaf; found = found })
      by None g = refl
      by (Some p) g =
          rw (in_bud_is references x.leaf, thing_shown (node_content_of p.node) (shown p.node) (shown_of p.node g), told_leaf_is p) (three (in_bud named x.leaf) (not (is_shown (shown p.node))) (same_leaf x.leaf (kept_at p).leaf))

  -- ---- which inodes are spared
  module _ (q : ℕ) where
    unknown_inode : (node : InoNode) (l : Bool) (k : Option Kind) (b s : Bool)
        → (is_unknown_told q (cond (is_some k) (Inode node.ino l) (Unknown (Ino node.ino) l)) && (b && (not (is_shown (option_map (λ kind. SetInode node.ino (inode_of node kind)) k)) && s)))
        ≡ (((node.ino == q) && l) && (b && (not (is_shown (option_map (λ kind. SetInode node.ino (inode_of node kind)) k)) && s)))
    unknown_inode node l (Some kind) b s = by ((node.ino == q) && l) b
      where
        by : (a b : Bool) → false ≡ (a && (b && false))
        by true true = refl
        by true false = refl
        by false b = refl
    unknown_inode node l None b s = refl

    no_entry : (a : DentNode) (x l c : Bool) → (is_unknown_told q (cond x (Unknown (Xent a.dir (r5_of a.name)) true) (Entry a.dir a.name l)) && c) ≡ false
    no_entry a true l c = refl
    no_entry a false l c = refl

    unknown_is : (node : LeafNode) (b s : Bool) → (is_unknown_told q (node_content_of node) && (b && (not (is_shown (shown node)) && s))) ≡ (has_links q node && (b && (not (is_shown (shown node)) && s)))
    unknown_is (inode node) b s = unknown_inode node (not (node.nlink == 0)) (kind_of_bits (bits_of node.mode)) b s
    unknown_is (block node) b s = refl
    unknown_is (entry node) b s = no_entry node node.attribute (not (node.inum == 0)) (b && (not (is_shown (shown (entry node))) && s))
    unknown_is (truncation node) b s = refl

    spared_is : (x : Committed) → HasGrammar x → is_spared_by references q (told_committed x) ≡ is_linked_unknown named q x
    spared_is x g = by x.found g
      where
        by : (found : Option Placed) → HasGrammar (record { leaf = x.leaf; found = found }) → is_spared_by references q (told_committed (record { leaf = x.leaf; found = found })) ≡ is_linked_unknown named q (record { leaf = x.leaf; found = found })
        by None g = refl
        by (Some p) g =
            ap (λ (b : Bool). is_unknown_told q (node_content_of p.node) && b) (nothing_is (record { leaf = x.leaf; found = Some p }) g)
            ∙ unknown_is p.node (not (in_bud named x.leaf)) (same_leaf x.leaf (kept_at p).leaf)

    pub any_spared : (xs : List Committed) (ls : List CommittedLeaf) → Pairwise (LeafTold parts) xs ls → list_any (is_linked_unknown named q) xs ≡ list_any (is_spared_by references q) ls
    any_spared xs ls h = any_pairs (LeafTold parts) (is_linked_unknown named q) (is_spared_by references q) (λ x l t. sym (ap (is_spared_by references q) t.is ∙ spared_is x t.grammar)) xs ls h

  module _ (ns : List Placed) (js : List JournalNode) (nodes : Pairwise (NodeTold parts) ns js) where
    renamed_is : (x : Committed) → is_renamed_told js (told_committed x) ≡ is_renamed ns x
    renamed_is x = by x.found
      where
        by : (found : Option Placed) → is_renamed_told js (told_committed (record { leaf = x.leaf; found = found })) ≡ is_renamed ns (record { leaf = x.leaf; found = found })
        by None = refl
        by (Some p) =
            sym (any_pairs (NodeTold parts) (λ y. have_same_name p.node y.node) (λ j. same_name_told (node_content_of p.node) j.content) (λ y j t. told_name (node_content_of p.node) j.content p.node y.node refl (node_content parts y j t)) ns js nodes)

    one_lost : (x : Committed) (k : CommittedLeaf) → LeafTold parts x k → LostTold named ns x (lost_leaf_told references js k)
    one_lost x k t =
        subst (λ (z : CommittedLeaf). LostTold named ns x (lost_leaf_told references js z)) (sym t.is) (record { leaf = refl; empty = nothing_is x t.grammar; renamed = renamed_is x })

    map_id : {A : Type 0} (xs : List A) → map (λ x. x) xs ≡ xs
    map_id [] = refl
    map_id (x ∷ xs) = ap (λ z. x ∷ z) (map_id xs)

    pub lost_kept : (xs : List Committed) (ls : List CommittedLeaf) → Pairwise (LeafTold parts) xs ls → Pairwise (LostTold named ns) xs (map (lost_leaf_told references js) ls)
    lost_kept xs ls h = subst (λ (zs : List Committed). Pairwise (LostTold named ns) zs (map (lost_leaf_told references js) ls)) (map_id xs)
        (map_pairs (LeafTold parts) (LostTold named ns) (λ x. x) (lost_leaf_told references js) one_lost xs ls h)

    -- ---- which nodes may stand for names
    module _ (xs : List Committed) (ls : List CommittedLeaf) (leaves : Pairwise (LeafTold parts) xs ls) (ks : List Kept) (rs : List RecoveredLeaf) (found : Pairwise (KeptTold parts) ks rs) where
      reads_is : (y : Placed) (j : JournalNode) → NodeTold parts y j → (x : Committed) (k : CommittedLeaf) → LeafTold parts x k
          → (not (in_bud named x.leaf) && option_map_or (λ (p : Placed). have_same_name p.node y.node) x.found false) ≡ reads_name_told references j.content k
      reads_is y j t x k l = subst (λ (z : CommittedLeaf). (not (in_bud named x.leaf) && option_map_or (λ (p : Placed). have_same_name p.node y.node) x.found false) ≡ reads_name_told references j.content z) (sym l.is) (by x.found)
        where
          no : (b : Bool) → (b && false) ≡ false
          no true = refl
          no false = refl

          by : (o : Option Placed) → (not (in_bud named x.leaf) && option_map_or (λ (p : Placed). have_same_name p.node y.node) o false) ≡ reads_name_told references j.content (told_committed (record { leaf = x.leaf; found = o }))
          by None = no (not (in_bud named x.leaf))
          by (Some p) =
              turned (not (in_bud named x.leaf)) (have_same_name p.node y.node)
              ∙ ap (λ (b : Bool). b && not (in_bud named x.leaf)) (told_name (node_content_of p.node) j.content p.node y.node refl (node_content parts y j t))
              ∙ ap (λ (b : Bool). same_name_told (node_content_of p.node) j.content && not b) (sym (in_bud_is references x.leaf))

      taken_is : (y : Placed) (j : JournalNode) → NodeTold parts y j
          → (not (is_read_name named xs y) && not (list_any (λ k. have_same_name k.node y.node) ks)) ≡ not (is_taken_told references ls rs j)
      taken_is y j t =
          by (is_read_name named xs y) (list_any (reads_name_told references j.content) ls)
          (any_pairs (LeafTold parts) (λ x. not (in_bud named x.leaf) && option_map_or (λ (p : Placed). have_same_name p.node y.node) x.found false) (reads_name_told references j.content) (reads_is y j t) xs ls leaves)
          (list_any (λ k. have_same_name k.node y.node) ks) (list_any (λ r. same_name_told r.content j.content) rs)
          (any_pairs (KeptTold parts) (λ k. have_same_name k.node y.node) (λ r. same_name_told r.content j.content) (λ k r h. told_name r.content j.content k.node y.node h.told.content (node_content parts y j t)) ks rs found)
        where
          by : (a b : Bool) → a ≡ b → (u v : Bool) → u ≡ v → (not a && not u) ≡ not (cond b true v)
          by true true e u v f = refl
          by false false e u v f = ap not f
          by true false e u v f = absurd cc
          by false true e u v f = absurd cc

      pub names_pairs : Pairwise (NodeTold parts) (filter (λ y. not (is_read_name named xs y) && not (list_any (λ k. have_same_name k.node y.node) ks)) ns) (spare_names_told references ls rs js)
      names_pairs = filter_pairs (NodeTold parts) (λ y. not (is_read_name named xs y) && not (list_any (λ k. have_same_name k.node y.node) ks)) (λ j. not (is_taken_told references ls rs j)) taken_is ns js nodes

    -- ---- which leaves have no name in the journal
    stands_pair : (leaf : Leaf) (ys : List Placed) (zs : List JournalNode) → Pairwise (NodeTold parts) ys zs → IfBoth (NodeTold parts) (stands_for ys leaf) (stands_for_told zs leaf)
    stands_pair leaf ys zs h =
        find_pairs (NodeTold parts) (λ y. option_map_or (λ key. key_rank key == leaf_rank leaf) (leaf_key y.node) false) (λ z. has_rank_told (leaf_rank leaf) z.content)
        (λ y z t. sym (ap (has_rank_told (leaf_rank leaf)) (node_content parts y z t) ∙ rank_is (leaf_rank leaf) y.node)) ys zs h

    some_node : (o : Option Placed) (p : Option JournalNode) → IfBoth (NodeTold parts) o p → is_some o ≡ is_some p
    some_node None None h = refl
    some_node None (Some j) h = absurd h
    some_node (Some c) None h = absurd h
    some_node (Some c) (Some j) h = refl

    left_names : (o : Option Placed) (p : Option JournalNode) (ys : List Placed) (zs : List JournalNode) → IfBoth (NodeTold parts) o p → Pairwise (NodeTold parts) ys zs → Pairwise (NodeTold parts) (names_left ys o) (names_left_told p zs)
    left_names None None ys zs o h = h
    left_names None (Some j) ys zs o h = absurd o
    left_names (Some c) None ys zs o h = absurd o
    left_names (Some c) (Some j) ys zs o h =
        filter_pairs (NodeTold parts) (λ y. not (have_same_name c.node y.node)) (λ z. not (same_name_told j.content z.content))
        (λ y z t. ap not (told_name j.content z.content c.node y.node (node_content parts c j o) (node_content parts y z t))) ys zs h

    pub unnamed_is : (xs : List Committed) (ls : List LostLeaf) → Pairwise (LostTold named ns) xs ls → (ys : List Placed) (zs : List JournalNode) → Pairwise (NodeTold parts) ys zs → unnamed_told zs ls ≡ unnamed named ys xs
    unnamed_is [] [] l ys zs h = refl
    unnamed_is [] (k ∷ ls) l ys zs h = absurd l
    unnamed_is (x ∷ xs) [] l ys zs h = absurd l
    unnamed_is (x ∷ xs) (k ∷ ls) l ys zs h =
        by k.is_empty (shows_nothing named x) l.0.empty (unnamed_is xs ls l.1 ys zs h)
        (step k.leaf x.leaf l.0.leaf (unnamed_is xs ls l.1 (names_left ys (stands_for ys x.leaf)) (names_left_told (stands_for_told zs x.leaf) zs) (left_names (stands_for ys x.leaf) (stands_for_told zs x.leaf) ys zs (stands_pair x.leaf ys zs h) h)))
      where
        step : (a b : Leaf) → a ≡ b → unnamed_told (names_left_told (stands_for_told zs b) zs) ls ≡ unnamed named (names_left ys (stands_for ys b)) xs
            → (cond (is_some (stands_for_told zs a)) [] (a ∷ []) ++ unnamed_told (names_left_told (stands_for_told zs a) zs) ls) ≡ (cond (is_some (stands_for ys b)) [] (b ∷ []) ++ unnamed named (names_left ys (stands_for ys b)) xs)
        step a b e more =
            ap (λ (z : Leaf). cond (is_some (stands_for_told zs z)) [] (z ∷ []) ++ unnamed_told (names_left_told (stands_for_told zs z) zs) ls) e
            ∙ ap (λ (c : Bool). cond c [] (b ∷ []) ++ unnamed_told (names_left_told (stands_for_told zs b) zs) ls) (sym (some_node (stands_for ys b) (stands_for_told zs b) (stands_pair b ys zs h)))
            ∙ ap (λ z. cond (is_some (stands_for ys b)) [] (b ∷ []) ++ z) more

        by : (a b : Bool) → a ≡ b → unnamed_told zs ls ≡ unnamed named ys xs → {s t : List Leaf} → s ≡ t → cond a (unnamed_told zs ls) s ≡ cond b (unnamed named ys xs) t
        by true true e more more' = more
        by false false e more more' = more'
        by true false e more more' = absurd cc
        by false true e more more' = absurd cc

    pub empty_names_is : (xs : List Committed) (ls : List LostLeaf) → Pairwise (LostTold named ns) xs ls → empty_told ls ≡ map (λ x. x.leaf) (filter (λ x. shows_nothing named x && not (is_renamed ns x)) xs)
    empty_names_is [] [] l = refl
    empty_names_is [] (k ∷ ls) l = absurd l
    empty_names_is (x ∷ xs) [] l = absurd l
    empty_names_is (x ∷ xs) (k ∷ ls) l = by (k.is_empty && not k.is_renamed) (shows_nothing named x && not (is_renamed ns x)) (ap (λ (b : Bool). b && not k.is_renamed) l.0.empty ∙ ap (λ (b : Bool). shows_nothing named x && not b) l.0.renamed) (empty_names_is xs ls l.1)
      where
        by : (a b : Bool) → a ≡ b → empty_told ls ≡ map (λ y. y.leaf) (filter (λ y. shows_nothing named y && not (is_renamed ns y)) xs)
            → map (λ (y : LostLeaf). y.leaf) (cond a (k ∷ filter (λ y. y.is_empty && not y.is_renamed) ls) (filter (λ y. y.is_empty && not y.is_renamed) ls))
            ≡ map (λ (y : Committed). y.leaf) (cond b (x ∷ filter (λ y. shows_nothing named y && not (is_renamed ns y)) xs) (filter (λ y. shows_nothing named y && not (is_renamed ns y)) xs))
        by true true e more = ap (λ z. k.leaf ∷ z) more ∙ ap (λ (z : Leaf). z ∷ map (λ (y : Committed). y.leaf) (filter (λ y. shows_nothing named y && not (is_renamed ns y)) xs)) l.0.leaf
        by false false e more = more
        by true false e more = absurd cc
        by false true e more = absurd cc
