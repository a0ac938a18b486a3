-- What is kept of the leaves that were found is what they show.
use Rattle.std.proofs.Common.{◌≡◌, ℕ, Bool, true, false, cond, not, List, [], ◌∷◌, ◌++◌, map, append_assoc, append-nil, refl, sym, ap, subst, ◌∙◌, Option, Some, None}
use Rattle.std.specs.Prelude.{◌==◌, is_some}
use Rattle.std.specs.BTreeMap.{is_at}
use Rattle.std.specs.List.{AllByRecursion, find}
use Rattle.std.specs.Option.{option_map}
use Rattle.std.specs.Ordering.{nat_cmp}
use Rattle.std.proofs.lemmas.Bool.{eq-eqb, false≢true}
use Rattle.ubifs_base.specs.R5.{r5_of}
use Rattle.ubifs_base.specs.declared.key.Key.{Key}
use Rattle.ubifs_base.specs.declared.key.Key.TheVariants.{Dent, Ino, Xent}
use Rattle.media_leaf.specs.LeafNode.{LeafNode, inode, block, entry, truncation}
use Rattle.media_leaf.specs.declared.dent_node.DentNode.{DentNode}
use Rattle.media_leaf.specs.declared.ino_node.InoNode.{InoNode}
use Rattle.index_tree.specs.declared.leaf.Leaf.{Leaf}
use Rattle.fs_model.specs.declared.change.Change.{Change}
use Rattle.fs_model.specs.declared.change.Change.TheVariants.{SetInode, SetEntry, SetBlock, DropEntry}
use Rattle.fs_model.specs.declared.inode.Entry.{Entry as AnEntry}
use Rattle.fs_model.specs.declared.inode.Inode.{Inode as AnInode}
use Rattle.fs_model.specs.declared.inode.Kind.{Kind}
use Rattle.fs_model.specs.Files.{name_cmp}
use Rattle.group_nodes.specs.Nodes.{bits_of, inode_of, kind_of_bits, kind_of_type}
use Rattle.leaf_map.specs.After.{is_inode}
use Rattle.leaf_map.specs.Kept.{Kept, shown, shown_by}
use Rattle.leaf_map.specs.LeafMap.{HasKeyOf, IsKeyed}
use Rattle.journal_scan.specs.Content.{node_content_of}
use Rattle.journal_scan.specs.declared.node_content.NodeContent.{NodeContent}
use Rattle.journal_scan.specs.declared.node_content.NodeContent.TheVariants.{Inode, Block, Entry, Unknown}
use Rattle.journal_scan.specs.declared.journal_node.JournalNode.{JournalNode}
use Rattle.log_replay.specs.declared.application.Place.{Place}
use Rattle.log_replay.specs.declared.standing.Standing.{Standing}
use Rattle.log_replay.specs.Noting.{Notes, NotesBy, Says}
use Rattle.log_replay.specs.Standing.{is_linked_inode, is_name_shown, leaf_of_key, links_among, leaf_of_name}
use Rattle.log_replay.specs.Told.{told_leaf}
use Rattle.log_replay.proofs.OneNode.{same_links, same_places}
use Rattle.log_replay.proofs.Tests.{key, key_other, key_same, name_here, name_other, number_other, number_same, other_number}

-- ---- what is told of a leaf that shows an inode, a block or a name
abbrev number_of : Option Change → ℕ
number_of (Some (SetInode ino set)) = ino
number_of other = 0

inode_told : (node : InoNode) (ino : ℕ) (set : AnInode) (k : Option Kind) → option_map (λ kind. SetInode node.ino (inode_of node kind)) k ≡ Some (SetInode ino set)
    → cond (is_some k) (Inode node.ino (not (node.nlink == 0))) (Unknown (Ino node.ino) (not (node.nlink == 0))) ≡ Inode ino (is_linked_inode (Some (SetInode ino set)))
inode_told node ino set None e = absurd cc
inode_told node ino set (Some kind) e = ap (λ (i : ℕ). Inode i (not (node.nlink == 0))) (ap number_of e) ∙ ap (λ (b : Bool). Inode ino b) (ap is_linked_inode e)

-- an entry's node shows a name, if anything
abbrev may_be_name : Option Change → Bool
may_be_name None = true
may_be_name (Some (SetEntry e)) = true
may_be_name (Some (DropEntry dir name)) = true
may_be_name (Some change) = false

entry_shows : (node : DentNode) (a z : Bool) (k : Option Kind)
    → may_be_name (cond a None (cond z (Some (DropEntry node.dir node.name)) (option_map (λ kind. SetEntry (record { dir = node.dir; name = node.name; ino = node.inum; kind = kind })) k))) ≡ true
entry_shows node true z k = refl
entry_shows node false true k = refl
entry_shows node false false None = refl
entry_shows node false false (Some kind) = refl

entry_named : (node : DentNode) (s : Option Change) → shown (entry node) ≡ s → may_be_name s ≡ false → ⊥
entry_named node s e h = false≢true (sym h ∙ sym (ap may_be_name e) ∙ entry_shows node node.attribute (node.inum == 0) (kind_of_type node.kind))

pub content_inode : (node : LeafNode) (ino : ℕ) (set : AnInode) → shown node ≡ Some (SetInode ino set) → node_content_of node ≡ Inode ino (is_linked_inode (Some (SetInode ino set)))
content_inode (inode node) ino set e = inode_told node ino set (kind_of_bits (bits_of node.mode)) e
content_inode (block node) ino set e = absurd cc
content_inode (entry node) ino set e = absurd (entry_named node (Some (SetInode ino set)) e refl)
content_inode (truncation node) ino set e = absurd cc

abbrev is_set_inode : Change → Bool
is_set_inode (SetInode ino set) = true
is_set_inode change = false

abbrev tested : Option Change → Bool
tested None = false
tested (Some change) = is_set_inode change

no_set : (node : InoNode) (change : Change) (k : Option Kind) → option_map (λ kind. SetInode node.ino (inode_of node kind)) k ≡ Some change → is_set_inode change ≡ false → ⊥
no_set node change None e h = absurd cc
no_set node change (Some kind) e h = false≢true (sym h ∙ sym (ap tested e))

-- the name that is shown
abbrev name_told : Option Change → NodeContent
name_told (Some (SetEntry e)) = Entry e.dir e.name true
name_told other = Unknown (Ino 0) true

entry_told : (node : DentNode) (q : AnEntry) (a z : Bool) (k : Option Kind) → (node.inum == 0) ≡ z
    → cond a None (cond z (Some (DropEntry node.dir node.name)) (option_map (λ kind. SetEntry (record { dir = node.dir; name = node.name; ino = node.inum; kind = kind })) k)) ≡ Some (SetEntry q)
    → cond a (Unknown (Xent node.dir (r5_of node.name)) true) (Entry node.dir node.name (not (node.inum == 0))) ≡ Entry q.dir q.name true
entry_told node q true z k h e = absurd cc
entry_told node q false true k h e = absurd cc
entry_told node q false false None h e = absurd cc
entry_told node q false false (Some kind) h e = ap (λ (b : Bool). Entry node.dir node.name (not b)) h ∙ ap name_told e

pub content_entry : (node : LeafNode) (q : AnEntry) → shown node ≡ Some (SetEntry q) → node_content_of node ≡ Entry q.dir q.name true
content_entry (inode node) q e = absurd (no_set node (SetEntry q) (kind_of_bits (bits_of node.mode)) e refl)
content_entry (block node) q e = absurd cc
content_entry (entry node) q e = entry_told node q node.attribute (node.inum == 0) (kind_of_type node.kind) refl e
content_entry (truncation node) q e = absurd cc

-- the block that is shown
abbrev block_told : Option Change → NodeContent
block_told (Some (SetBlock ino number bytes)) = Block ino number
block_told other = Unknown (Ino 0) true

pub content_block : (node : LeafNode) (ino number : ℕ) (bytes : List ℕ) → shown node ≡ Some (SetBlock ino number bytes) → node_content_of node ≡ Block ino number
content_block (inode node) ino number bytes e = absurd (no_set node (SetBlock ino number bytes) (kind_of_bits (bits_of node.mode)) e refl)
content_block (block node) ino number bytes e = ap block_told e
content_block (entry node) ino number bytes e = absurd (entry_named node (Some (SetBlock ino number bytes)) e refl)
content_block (truncation node) ino number bytes e = absurd cc

-- ---- one leaf more
pub number_at : (a b : ℕ) → (a == b) ≡ is_at (nat_cmp a) b
number_at a b = by (is_at (nat_cmp a) b) refl
  where
    by : (c : Bool) → is_at (nat_cmp a) b ≡ c → (a == b) ≡ c
    by true e = eq-eqb a b (number_same a b e)
    by false e = other_number a b (number_other a b e)

name_at : (q : ℕ × List ℕ) (e : AnEntry) → is_name_shown q (Some (SetEntry e)) ≡ is_at (name_cmp (key e)) q
name_at q e = by (is_at (name_cmp (key e)) q) refl
  where
    by : (c : Bool) → is_at (name_cmp (key e)) q ≡ c → is_name_shown q (Some (SetEntry e)) ≡ c
    by true f = name_here q e (key_same (key e) q f)
    by false f = name_other q e (key_other (key e) q f)

abbrev at_leaf : Leaf → Place
at_leaf leaf = record { lnum = leaf.lnum; offs = leaf.offs; len = leaf.len }

links_more : (x : Kept) (kept : List Kept) (q : ℕ) (b : Bool) → is_inode q (shown_by x) ≡ b → links_among (x ∷ kept) q ≡ cond b (Some (is_linked_inode (shown_by x))) (links_among kept q)
links_more x kept q b e = rw e (by b)
  where
    by : (c : Bool) → option_map (λ y. is_linked_inode (shown_by y)) (cond c (Some x) (find (λ y. is_inode q (shown_by y)) kept)) ≡ cond c (Some (is_linked_inode (shown_by x))) (links_among kept q)
    by true = refl
    by false = refl

place_more : (x : Kept) (kept : List Kept) (q : ℕ × List ℕ) (b : Bool) → is_name_shown q (shown_by x) ≡ b → leaf_of_name (x ∷ kept) q ≡ cond b (Some x.leaf) (leaf_of_name kept q)
place_more x kept q b e = rw e (by b)
  where
    by : (c : Bool) → option_map (λ y. y.leaf) (cond c (Some x) (find (λ y. is_name_shown q (shown_by y)) kept)) ≡ cond c (Some x.leaf) (leaf_of_name kept q)
    by true = refl
    by false = refl

pub says_more : (x : Kept) (kept : List Kept) (s t : Standing) → IsKeyed x → Says kept s → Notes (told_leaf x) s t → Says (x ∷ kept) t
says_more x kept s t keyed says notes = by (shown_by x) refl keyed
  where
    by : (c : Option Change) → shown_by x ≡ c → HasKeyOf x.leaf c → Says (x ∷ kept) t
    by (Some (SetInode ino set)) e h =
        let d = subst (λ (n : NodeContent). NotesBy n (at_leaf x.leaf) s t) (content_inode x.node ino set e) notes in
        record {
          inodes = λ q. d.inodes q ∙ ap (λ (z : Option Bool). cond (is_at (nat_cmp ino) q) (Some (is_linked_inode (Some (SetInode ino set)))) z) (says.inodes q)
              ∙ ap (λ (b : Bool). cond (is_at (nat_cmp ino) q) (Some b) (links_among kept q)) (sym (ap is_linked_inode e))
              ∙ sym (links_more x kept q (is_at (nat_cmp ino) q) (ap (is_inode q) e ∙ number_at ino q));
          names = λ q. same_places s t d.names q ∙ says.names q ∙ sym (place_more x kept q false (ap (is_name_shown q) e));
        }
    by (Some (SetEntry q)) e h =
        let d = subst (λ (n : NodeContent). NotesBy n (at_leaf x.leaf) s t) (content_entry x.node q e) notes in
        let here : leaf_of_key (Dent q.dir (r5_of q.name)) (at_leaf x.leaf) ≡ x.leaf = ap (λ (k : Key). leaf_of_key k (at_leaf x.leaf)) (sym h) in
        record {
          inodes = λ i. same_links s t d.inodes i ∙ says.inodes i ∙ sym (links_more x kept i false (ap (is_inode i) e));
          names = λ p. d.names p ∙ ap (λ (z : Option Leaf). cond (is_at (name_cmp (key q)) p) (Some (leaf_of_key (Dent q.dir (r5_of q.name)) (at_leaf x.leaf))) z) (says.names p)
              ∙ ap (λ (z : Leaf). cond (is_at (name_cmp (key q)) p) (Some z) (leaf_of_name kept p)) here
              ∙ sym (place_more x kept p (is_at (name_cmp (key q)) p) (ap (is_name_shown p) e ∙ name_at p q));
        }
    by (Some (SetBlock ino number bytes)) e h =
        let d = subst (λ (n : NodeContent). NotesBy n (at_leaf x.leaf) s t) (content_block x.node ino number bytes e) notes in
        let more : Says (x ∷ kept) s = record {
          inodes = λ i. says.inodes i ∙ sym (links_more x kept i false (ap (is_inode i) e));
          names = λ p. says.names p ∙ sym (place_more x kept p false (ap (is_name_shown p) e));
        } in
        subst (Says (x ∷ kept)) (sym d) more
    by c e h = absurd h

-- ---- from the last leaf to the first
record Unsnoc (front : List Kept) (items : List JournalNode) (node : JournalNode) : Type 0 where
  first : List Kept
  last : Kept
  split : front ≡ first ++ (last ∷ [])
  told : items ≡ map told_leaf first
  one : node ≡ told_leaf last

unsnoc : (front : List Kept) (items : List JournalNode) (node : JournalNode) → items ++ (node ∷ []) ≡ map told_leaf front → Unsnoc front items node
unsnoc [] [] node h = absurd cc
unsnoc [] (i ∷ items) node h = absurd cc
unsnoc (x ∷ []) [] node h = let e : node ≡ told_leaf x = cc in record { first = []; last = x; split = refl; told = refl; one = e }
unsnoc (x ∷ y ∷ front) [] node h = absurd cc
unsnoc (x ∷ front) (i ∷ items) node h =
    let e : i ≡ told_leaf x = cc in
    let f : items ++ (node ∷ []) ≡ map told_leaf front = cc in
    let u = unsnoc front items node f in
    record { first = x ∷ u.first; last = u.last; split = ap (λ (xs : List Kept). x ∷ xs) u.split; told = by u.first e u.told; one = u.one }
  where
    by : (first : List Kept) → i ≡ told_leaf x → items ≡ map told_leaf first → i ∷ items ≡ told_leaf x ∷ map told_leaf first
    by first e t = cc

-- what is kept is that of the last leaves, and the others are left
pub record Noted (kept : List Kept) (items : List JournalNode) (s : Standing) : Type 0 where
  pub front : List Kept
  pub back : List Kept
  pub split : kept ≡ front ++ back
  pub told : items ≡ map told_leaf front
  pub says : Says back s

middle : (front back : List Kept) (x : Kept) → AllByRecursion IsKeyed (front ++ (x ∷ back)) → IsKeyed x
middle [] back x all = all.0
middle (y ∷ front) back x all = middle front back x all.1

pub note_on : (kept : List Kept) (before items : List JournalNode) (node : JournalNode) (s t : Standing) → AllByRecursion IsKeyed kept → before ≡ items ++ (node ∷ []) → Noted kept before s → Notes node s t → Noted kept items t
note_on kept before items node s t all pop n notes =
    let u = unsnoc n.front items node (sym pop ∙ n.told) in
    let split : kept ≡ u.first ++ (u.last ∷ n.back) = n.split ∙ ap (λ (xs : List Kept). xs ++ n.back) u.split ∙ append_assoc u.first (u.last ∷ []) n.back in
    record {
      front = u.first;
      back = u.last ∷ n.back;
      split = split;
      told = u.told;
      says = says_more u.last n.back s t (middle u.first n.back u.last (subst (AllByRecursion IsKeyed) split all)) n.says (subst (λ (m : JournalNode). Notes m s t) u.one notes);
    }

pub note_start : (kept : List Kept) (items : List JournalNode) (s : Standing) → items ≡ map told_leaf kept → Says [] s → Noted kept items s
note_start kept items s told says = record { front = kept; back = []; split = sym (append-nil kept); told = told; says = says }

pub note_end : (kept : List Kept) (items : List JournalNode) (s : Standing) → items ≡ [] → Noted kept items s → Says kept s
note_end kept items s e n = by n.front n.split (sym e ∙ n.told)
  where
    by : (front : List Kept) → kept ≡ front ++ n.back → [] ≡ map told_leaf front → Says kept s
    by [] split t = subst (λ (ks : List Kept). Says ks s) (sym split) n.says
    by (x ∷ front) split t = absurd cc
