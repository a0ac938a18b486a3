-- Which node is a leaf's own, and with what a leaf is read.
use Rattle.std.proofs.Common.{◌≡◌, ℕ, Bool, true, false, cond, not, ◌&&◌, List, [], ◌∷◌, map, refl, sym, ap, subst, ◌∙◌, Option, Some, None}
use Rattle.std.specs.Prelude.{◌==◌}
use Rattle.std.specs.BTreeMap.{BTreeMap}
use Rattle.std.specs.List.{AllByRecursion}
use Rattle.std.specs.Option.{option_map}
use Rattle.std.proofs.lemmas.Bool.{false≢true, and_parts, eqb-true}
use Rattle.ubifs_base.specs.declared.key.Key.{Key}
use Rattle.ubifs_base.specs.declared.key.Key.TheVariants.{Ino, Block, Dent, Xent}
use Rattle.media_leaf.specs.LeafNode.{LeafNode, IsLeaf, inode, block}
use Rattle.index_tree.specs.declared.leaf.Leaf.{Leaf}
use Rattle.index_tree.specs.Order.{leaf_rank}
use Rattle.index_tree.specs.Removal.{same_leaf}
use Rattle.group_nodes.specs.Nodes.{gone_inode, inode_node}
use Rattle.leaf_map.specs.Kept.{Kept, Placed, kept_at, node_key, shown, shown_by}
use Rattle.leaf_map.specs.Parts.{Committed, Named, Parts, in_bud, is_own, is_shown, own_node}
use Rattle.leaf_map.specs.Recovered.{stand_in}
use Rattle.journal_scan.specs.Content.{node_content_of, told}
use Rattle.journal_scan.specs.declared.journal_node.JournalNode.{JournalNode}
use Rattle.log_replay.specs.Copies.{Ranked}
use Rattle.log_replay.specs.KeyToldLaws.{if_set, told_key}
use Rattle.log_replay.specs.Named.{in_named}
use Rattle.log_replay.specs.Reading.{own_told, read_told, stand_in_told, unread_told, with_told}
use Rattle.log_replay.specs.Replay.{told_committed}
use Rattle.log_replay.specs.Settling.{HasCopies, HasGrammar, read_as, leaf_read_of}
use Rattle.log_replay.specs.Things.{is_at_leaf, key_told}
use Rattle.log_replay.specs.Told.{IsSetting, told_leaf}
use Rattle.log_replay.proofs.Ranked.{KeyIs, RankIs, copy_told, rank_itself, rank_of_key}

-- one place, of one length
pub record IsOne (x y : Leaf) : Type 0 where
  pub rank : leaf_rank x ≡ leaf_rank y
  pub lnum : x.lnum ≡ y.lnum
  pub offs : x.offs ≡ y.offs
  pub len : x.len ≡ y.len

pub is_one : (x y : Leaf) → same_leaf x y ≡ true → IsOne x y
unfolding same_leaf
is_one x y h = by (leaf_rank x == leaf_rank y) refl (x.lnum == y.lnum) refl (x.offs == y.offs) refl (x.len == y.len) refl h
  where
    by : (a : Bool) → (leaf_rank x == leaf_rank y) ≡ a → (b : Bool) → (x.lnum == y.lnum) ≡ b → (c : Bool) → (x.offs == y.offs) ≡ c → (d : Bool) → (x.len == y.len) ≡ d → cond a (cond b (cond c d false) false) false ≡ true → IsOne x y
    by true i true e true f true g t = record { rank = eqb-true (leaf_rank x) (leaf_rank y) i; lnum = eqb-true x.lnum y.lnum e; offs = eqb-true x.offs y.offs f; len = eqb-true x.len y.len g }
    by true i true e true f false g t = absurd (false≢true t)
    by true i true e false f d g t = absurd (false≢true t)
    by true i false e c f d g t = absurd (false≢true t)
    by false i b e c f d g t = absurd (false≢true t)

-- a leaf's own node
pub record Owns (named : List Named) (c : Committed) (own : Placed) : Type 0 where
  pub outside : in_bud named c.leaf ≡ false
  pub setting : IsSetting own.node
  pub one : IsOne c.leaf (kept_at own).leaf

pub owns : (named : List Named) (c : Committed) (own : Placed) → HasGrammar c → own_node named c ≡ Some own → Owns named c own
owns named c own g e = by c.found g e
  where
    no : (b : Bool) → not b ≡ true → b ≡ false
    no true h = absurd (false≢true h)
    no false h = refl

    test : (found : Placed) → IsLeaf found.node → (b : Bool) → is_own named c.leaf found ≡ b → cond b (Some found) None ≡ Some own → Owns named c own
    test found leaf false o f = absurd cc
    test found leaf true o f =
        let same : found ≡ own = cc in
        let p = and_parts (not (in_bud named c.leaf) && is_shown (shown found.node)) (same_leaf c.leaf (kept_at found).leaf) o in
        let q = and_parts (not (in_bud named c.leaf)) (is_shown (shown found.node)) p.0 in
        subst (Owns named c) same (record { outside = no (in_bud named c.leaf) q.0; setting = record { leaf = leaf; shown = q.1 }; one = is_one c.leaf (kept_at found).leaf p.1 })

    by : (found : Option Placed) → HasGrammar (record { leaf = c.leaf; found = found }) → own_node named (record { leaf = c.leaf; found = found }) ≡ Some own → Owns named c own
    by None g f = absurd cc
    by (Some found) g f = test found g (is_own named c.leaf found) refl f

-- the own node is told
tests : (b s l : Bool) (found : JournalNode) (by : Bool) → by ≡ (s && l) → cond (not b && by) (Some found) None ≡ cond ((not b && s) && l) (Some found) None
tests true s l found by h = refl
tests false true l found by h = rw h refl
tests false false l found by h = rw h refl

pub own_is_told : (named : List Named) (m : BTreeMap ℕ ℕ) (c : Committed) → HasGrammar c → ((leaf : Leaf) → in_named m leaf ≡ in_bud named leaf) → own_told m (told_committed c) ≡ option_map told (own_node named c)
own_is_told named m c g h = by c.found g
  where
    at : (found : Placed) (s : Bool) → key_told (node_content_of found.node) ≡ if_set s (node_key found.node) → is_at_leaf c.leaf (told found) ≡ (s && same_leaf c.leaf (kept_at found).leaf)
    at found true e = rw e refl
    at found false e = rw e refl

    out : (found : Placed) (b : Bool) → cond b (Some (told found)) None ≡ option_map told (cond b (Some found) None)
    out found true = refl
    out found false = refl

    by : (found : Option Placed) → HasGrammar (record { leaf = c.leaf; found = found }) → own_told m (told_committed (record { leaf = c.leaf; found = found })) ≡ option_map told (own_node named (record { leaf = c.leaf; found = found }))
    by None g = refl
    by (Some found) g =
        ap (λ (b : Bool). cond (not b && is_at_leaf c.leaf (told found)) (Some (told found)) None) (h c.leaf)
        ∙ tests (in_bud named c.leaf) (is_shown (shown found.node)) (same_leaf c.leaf (kept_at found).leaf) (told found) (is_at_leaf c.leaf (told found)) (at found (is_shown (shown found.node)) (told_key found.node g))
        ∙ out found (is_own named c.leaf found)

-- what is told of an own node is told of the leaf
pub told_own : (named : List Named) (c : Committed) (own : Placed) → Owns named c own → told own ≡ told_leaf (record { leaf = c.leaf; sqnum = own.sqnum; node = own.node })
told_own named c own o = rw (o.one.lnum, o.one.offs, o.one.len) refl

pub own_rank : (named : List Named) (c : Committed) (own : Placed) → Owns named c own → RankIs (leaf_rank c.leaf) own.node
own_rank named c own o = subst (λ (n : ℕ). RankIs n own.node) (sym o.one.rank) (rank_itself own o.setting)

-- what stands for a node that nobody can read
pub record StandsIn (leaf : Leaf) (node : LeafNode) : Type 0 where
  pub is_set : is_shown (shown node) ≡ true
  pub key : KeyIs leaf (shown node)
  pub in_told : stand_in_told leaf ≡ Some (told_leaf (record { leaf = leaf; sqnum = 0; node = node }))

pub stands_in : (leaf : Leaf) (node : LeafNode) → stand_in leaf.key ≡ Some node → StandsIn leaf node
stands_in leaf node e = by leaf.key refl e
  where
    by : (k : Key) → leaf.key ≡ k → stand_in k ≡ Some node → StandsIn leaf node
    by (Ino ino) h s =
        let same : inode (inode_node ino gone_inode) ≡ node = cc in
        subst (StandsIn leaf) same (record { is_set = refl; key = h; in_told = rw h refl })
    by (Block ino number) h s =
        let same : block (record { ino = ino; block = number; bytes = [] }) ≡ node = cc in
        subst (StandsIn leaf) same (record { is_set = refl; key = h; in_told = rw h refl })
    by (Dent dir hash) h s = absurd cc
    by (Xent dir hash) h s = absurd cc

none_in : (leaf : Leaf) → stand_in leaf.key ≡ None → stand_in_told leaf ≡ None
none_in leaf e = by leaf.key refl e
  where
    by : (k : Key) → leaf.key ≡ k → stand_in k ≡ None → stand_in_told leaf ≡ None
    by (Ino ino) h s = absurd cc
    by (Block ino number) h s = absurd cc
    by (Dent dir hash) h s = rw h refl
    by (Xent dir hash) h s = rw h refl

-- ---- a leaf that is read
pub read_is_told : (parts : Parts) (m : BTreeMap ℕ ℕ) (ranked : Ranked) (c : Committed) → HasGrammar c → AllByRecursion (λ c. IsSetting c.node) parts.copies
    → ((leaf : Leaf) → in_named m leaf ≡ in_bud parts.named leaf) → HasCopies parts.copies ranked → read_told m ranked (told_committed c) ≡ leaf_read_of parts c
read_is_told parts m ranked c g copies h has = by (own_node parts.named c) refl (own_is_told parts.named m c g h)
  where
    with : (own : Bool) (k : Kept) (leaf : Leaf) → is_shown (shown_by k) ≡ true → RankIs (leaf_rank leaf) k.node → with_told ranked leaf own (Some (told_leaf k)) ≡ read_as parts leaf own (Some k)
    with own k leaf s r = rw (has (leaf_rank leaf), copy_told k (leaf_rank leaf) parts.copies s r copies) refl

    unread : (s : Option LeafNode) → stand_in c.leaf.key ≡ s → unread_told ranked c.leaf ≡ read_as parts c.leaf false (option_map (λ (node : LeafNode). record { leaf = c.leaf; sqnum = 0; node = node }) s)
    unread None e = ap (with_told ranked c.leaf false) (none_in c.leaf e)
    unread (Some node) e =
        let i = stands_in c.leaf node e in
        ap (with_told ranked c.leaf false) i.in_told ∙ with false (record { leaf = c.leaf; sqnum = 0; node = node }) c.leaf i.is_set (rank_of_key c.leaf node i.key)

    by : (own : Option Placed) → own_node parts.named c ≡ own → own_told m (told_committed c) ≡ option_map told own → read_told m ranked (told_committed c) ≡ leaf_read_of parts c
    by None e t = rw (t, e) (unread (stand_in c.leaf.key) refl)
    by (Some own) e t =
        let o = owns parts.named c own g e in
        rw (t, e) (ap (λ (n : JournalNode). with_told ranked c.leaf true (Some n)) (told_own parts.named c own o) ∙ with true (record { leaf = c.leaf; sqnum = own.sqnum; node = own.node }) c.leaf o.setting.shown (own_rank parts.named c own o))

pub reads_are_told : (parts : Parts) (m : BTreeMap ℕ ℕ) (ranked : Ranked) (cs : List Committed) → AllByRecursion HasGrammar cs → AllByRecursion (λ c. IsSetting c.node) parts.copies
    → ((leaf : Leaf) → in_named m leaf ≡ in_bud parts.named leaf) → HasCopies parts.copies ranked → map (read_told m ranked) (map told_committed cs) ≡ map (leaf_read_of parts) cs
reads_are_told parts m ranked [] g copies h has = refl
reads_are_told parts m ranked (c ∷ cs) g copies h has = rw (read_is_told parts m ranked c g.0 copies h has, reads_are_told parts m ranked cs g.1 copies h has) refl
