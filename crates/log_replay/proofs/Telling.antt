-- What is told of nodes says which leaf they make, and which nodes make the leaf of one inode, block or name.
use Rattle.std.proofs.Common.{◌≡◌, true, false, refl, sym, ap, ◌∙◌, Option, Some, None}
use Rattle.std.proofs.lemmas.Bool.{false≢true}
use Rattle.media_leaf.specs.LeafNode.{LeafNode, IsLeaf}
use Rattle.fs_model.specs.declared.change.Change.{Change}
use Rattle.fs_model.specs.declared.change.Change.TheVariants.{SetInode, SetEntry, SetBlock, DropEntry, CutBlocks, DropInode}
use Rattle.leaf_map.specs.Kept.{Placed, kept_at, node_key, shown}
use Rattle.leaf_map.specs.KeyedLaws.{node_keyed}
use Rattle.leaf_map.specs.LeafMap.{HasKeyOf, shows_same}
use Rattle.leaf_map.specs.Parts.{is_shown}
use Rattle.journal_scan.specs.Content.{node_content_of}
use Rattle.journal_scan.specs.declared.node_content.NodeContent.{NodeContent}
use Rattle.journal_scan.specs.declared.node_content.NodeContent.TheVariants.{Inode, Block, Entry, Truncation, Unknown}
use Rattle.log_replay.specs.KeyToldLaws.{if_set, told_key}
use Rattle.log_replay.specs.Things.{is_same_told, key_told}
use Rattle.log_replay.specs.Told.{IsSetting}
use Rattle.log_replay.proofs.Noted.{content_block, content_entry, content_inode}

pub set_key : (node : LeafNode) → IsSetting node → key_told (node_content_of node) ≡ Some (node_key node)
set_key node is = told_key node is.leaf ∙ ap (λ b. if_set b (node_key node)) is.shown

-- what sets nothing is the same as nothing
none_same : (c d : NodeContent) → key_told d ≡ None → is_same_told c d ≡ false
none_same c (Inode ino linked) h = absurd cc
none_same c (Block ino number) h = absurd cc
none_same c (Entry dir name true) h = absurd cc
none_same (Inode a l) (Entry dir name false) h = refl
none_same (Block a n) (Entry dir name false) h = refl
none_same (Entry a n true) (Entry dir name false) h = refl
none_same (Entry a n false) (Entry dir name false) h = refl
none_same (Truncation a n) (Entry dir name false) h = refl
none_same (Unknown a l) (Entry dir name false) h = refl
none_same (Inode a l) (Truncation ino size) h = refl
none_same (Block a n) (Truncation ino size) h = refl
none_same (Entry a n true) (Truncation ino size) h = refl
none_same (Entry a n false) (Truncation ino size) h = refl
none_same (Truncation a n) (Truncation ino size) h = refl
none_same (Unknown a l) (Truncation ino size) h = refl
none_same (Inode a l) (Unknown ino linked) h = refl
none_same (Block a n) (Unknown ino linked) h = refl
none_same (Entry a n true) (Unknown ino linked) h = refl
none_same (Entry a n false) (Unknown ino linked) h = refl
none_same (Truncation a n) (Unknown ino linked) h = refl
none_same (Unknown a l) (Unknown ino linked) h = refl

-- what sets nothing isn't the same as what sets something
unshown_same : (c : Change) (t : Option Change) → is_shown (Some c) ≡ true → is_shown t ≡ false → shows_same (Some c) t ≡ false
unshown_same (SetInode a x) None s h = refl
unshown_same (SetInode a x) (Some (SetInode b y)) s h = absurd (false≢true (sym h))
unshown_same (SetInode a x) (Some t) s h = refl
unshown_same (SetBlock a n x) None s h = refl
unshown_same (SetBlock a n x) (Some (SetBlock b m y)) s h = absurd (false≢true (sym h))
unshown_same (SetBlock a n x) (Some t) s h = refl
unshown_same (SetEntry e) None s h = refl
unshown_same (SetEntry e) (Some (SetEntry f)) s h = absurd (false≢true (sym h))
unshown_same (SetEntry e) (Some t) s h = refl
unshown_same c t s h = absurd (false≢true s)

-- whether two nodes set the same inode, block or name is told
pub told_same : (a b : LeafNode) → is_shown (shown a) ≡ true → IsLeaf b → is_same_told (node_content_of a) (node_content_of b) ≡ shows_same (shown a) (shown b)
told_same a b set leaf = first (shown a) refl set
  where
    other : (c : Change) → shown a ≡ Some c → is_shown (Some c) ≡ true → is_shown (shown b) ≡ false → is_same_told (node_content_of a) (node_content_of b) ≡ shows_same (shown a) (shown b)
    other c e s h =
        none_same (node_content_of a) (node_content_of b) (told_key b leaf ∙ ap (λ z. if_set z (node_key b)) h)
        ∙ sym (ap (λ z. shows_same z (shown b)) e ∙ unshown_same c (shown b) s h)

    second : (c : Change) → shown a ≡ Some c → is_shown (Some c) ≡ true → (t : Option Change) → shown b ≡ t → is_same_told (node_content_of a) (node_content_of b) ≡ shows_same (shown a) (shown b)
    second (SetInode i x) e s (Some (SetInode j y)) f = rw (content_inode a i x e, content_inode b j y f, e, f) refl
    second (SetInode i x) e s (Some (SetBlock j n y)) f = rw (content_inode a i x e, content_block b j n y f, e, f) refl
    second (SetInode i x) e s (Some (SetEntry q)) f = rw (content_inode a i x e, content_entry b q f, e, f) refl
    second (SetBlock i m x) e s (Some (SetInode j y)) f = rw (content_block a i m x e, content_inode b j y f, e, f) refl
    second (SetBlock i m x) e s (Some (SetBlock j n y)) f = rw (content_block a i m x e, content_block b j n y f, e, f) refl
    second (SetBlock i m x) e s (Some (SetEntry q)) f = rw (content_block a i m x e, content_entry b q f, e, f) refl
    second (SetEntry p) e s (Some (SetInode j y)) f = rw (content_entry a p e, content_inode b j y f, e, f) refl
    second (SetEntry p) e s (Some (SetBlock j n y)) f = rw (content_entry a p e, content_block b j n y f, e, f) refl
    second (SetEntry p) e s (Some (SetEntry q)) f = rw (content_entry a p e, content_entry b q f, e, f) refl
    second c e s None f = other c e s (ap is_shown f)
    second c e s (Some (DropEntry dir name)) f = other c e s (ap is_shown f)
    second c e s (Some (CutBlocks ino old new)) f = other c e s (ap is_shown f)
    second c e s (Some (DropInode ino)) f = other c e s (ap is_shown f)
    second (DropEntry dir name) e s t f = absurd (false≢true s)
    second (CutBlocks ino old new) e s t f = absurd (false≢true s)
    second (DropInode ino) e s t f = absurd (false≢true s)

    first : (s : Option Change) → shown a ≡ s → is_shown s ≡ true → is_same_told (node_content_of a) (node_content_of b) ≡ shows_same (shown a) (shown b)
    first None e h = absurd (false≢true h)
    first (Some c) e h = second c e h (shown b) refl

-- a node that sets something has the key of what it shows
pub has_key : (x : Placed) → IsSetting x.node → HasKeyOf (kept_at x).leaf (shown x.node)
has_key x is = by (shown x.node) refl is.shown
  where
    by : (s : Option Change) → shown x.node ≡ s → is_shown s ≡ true → HasKeyOf (kept_at x).leaf s
    by None e h = absurd (false≢true h)
    by (Some c) e h = node_keyed x.node (kept_at x).leaf c refl is.leaf e h
