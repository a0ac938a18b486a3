-- Which places a node of the journal touches.
use Rattle.std.proofs.Common.{◌≡◌, ◌<◌, ◌≤◌, ◌+◌, ◌*◌, ◌/◌, ◌^◌, ◌||◌, ℕ, Bool, true, false, cond, List, [], ◌∷◌, refl, sym, ap, ◌∙◌, arith}
use Rattle.std.specs.Prelude.{◌==◌, IsTrue, nat_le, nat_lt}
use Rattle.std.specs.BTreeMap.{is_at}
use Rattle.std.specs.Ordering.{nat_cmp}
use Rattle.std.proofs.lemmas.Bool.{false≢true, and_from, and_parts, eqb-true, le-leb, leb-true, lt-ltb, ltb-true}
use Rattle.ubifs_base.specs.Key.{key_words}
use Rattle.ubifs_base.specs.R5.{r5_of}
use Rattle.ubifs_base.specs.declared.key.Key.TheVariants.{Ino, Block as BlockKey, Dent}
use Rattle.index_tree.specs.Order.{key_rank, leaf_rank}
use Rattle.fs_model.specs.Path.{is_same_name}
use Rattle.journal_scan.specs.declared.node_content.NodeContent.{NodeContent}
use Rattle.journal_scan.specs.declared.node_content.NodeContent.TheVariants.{Inode, Block, Entry, Truncation, Unknown}
use Rattle.log_replay.specs.Things.{is_inode_told}
use Rattle.leaf_recovery.specs.declared.recovered_leaf.RecoveredLeaf.{RecoveredLeaf}
use Rattle.leaf_recovery.specs.Ranked.{AreInKeyOrder, HasKeyShown, first_ended, fits_key, is_between, leaves_with_rank, past_ended}
use Rattle.leaf_recovery.specs.Things.{becomes_leaf, ends_told, has_inode_told, is_cut_told, is_part_told, node_key_told, rank_of_shown}
use Rattle.leaf_recovery.proofs.Ranking.{at_place}
use Rattle.leaf_recovery.proofs.Seeing.{text_is}

-- ---- numbers
inode_rank : (ino : ℕ) → key_rank (Ino ino) ≡ ino * 2 ^ 33
unfolding key_rank
inode_rank ino = omega arith

block_rank : (ino number : ℕ) → key_rank (BlockKey ino number) ≡ ino * 2 ^ 33 + (2 ^ 29 + number)
unfolding key_rank
block_rank ino number = omega arith

between_is : (first past r : ℕ) → first ≤ r → r < past → is_between first past r ≡ true
between_is first past r l h = and_from (nat_le first r) (nat_lt r past) (le-leb first r l) (lt-ltb r past h)

inode_within : (a b r : ℕ) → b ≡ a → r ≡ key_rank (Ino b) → is_between (key_rank (Ino a)) (key_rank (Ino a) + 2 ^ 30) r ≡ true
inode_within a b r e h =
    let i = inode_rank a in
    let j = inode_rank b in
    between_is (key_rank (Ino a)) (key_rank (Ino a) + 2 ^ 30) r (omega (arith, e, h, i, j)) (omega (arith, e, h, i, j))

block_within : (a b n r : ℕ) → b ≡ a → n < 2 ^ 29 → r ≡ key_rank (BlockKey b n) → is_between (key_rank (Ino a)) (key_rank (Ino a) + 2 ^ 30) r ≡ true
block_within a b n r e s h =
    let i = inode_rank a in
    let j = block_rank b n in
    between_is (key_rank (Ino a)) (key_rank (Ino a) + 2 ^ 30) r (omega (arith, e, s, h, i, j)) (omega (arith, e, s, h, i, j))

-- ---- a leaf that goes for another one
pub ended_there : (c d : NodeContent) (r : ℕ) → r ≡ rank_of_shown d → becomes_leaf c ≡ true → ends_told c d ≡ true → r ≡ key_rank (node_key_told c)
ended_there (Inode a true) (Inode q m) r o s h = o ∙ ap (λ (n : ℕ). key_rank (Ino n)) (eqb-true q a h)
ended_there (Inode a true) (Block q m) r o s h = absurd (false≢true h)
ended_there (Inode a true) (Entry q m k) r o s h = absurd (false≢true h)
ended_there (Inode a true) (Truncation q m) r o s h = absurd (false≢true h)
ended_there (Inode a true) (Unknown q m) r o s h = absurd (false≢true h)
ended_there (Inode a false) d r o s h = absurd (false≢true s)
ended_there (Block a n) (Block q m) r o s h =
    let p = and_parts (q == a) (m == n) h in
    o ∙ ap (λ (z : ℕ). key_rank (BlockKey z m)) (eqb-true q a p.0) ∙ ap (λ (z : ℕ). key_rank (BlockKey a z)) (eqb-true m n p.1)
ended_there (Block a n) (Inode q m) r o s h = absurd (false≢true h)
ended_there (Block a n) (Entry q m k) r o s h = absurd (false≢true h)
ended_there (Block a n) (Truncation q m) r o s h = absurd (false≢true h)
ended_there (Block a n) (Unknown q m) r o s h = absurd (false≢true h)
ended_there (Entry dir name l) (Entry q m true) r o s h =
    let p = and_parts (q == dir) (is_same_name m name) h in
    o ∙ ap (λ (z : ℕ). key_rank (Dent z (r5_of m))) (eqb-true q dir p.0) ∙ ap (λ (z : List ℕ). key_rank (Dent dir (r5_of z))) (text_is m name p.1)
ended_there (Entry dir name l) (Entry q m false) r o s h = absurd (false≢true h)
ended_there (Entry dir name l) (Inode q m) r o s h = absurd (false≢true h)
ended_there (Entry dir name l) (Block q m) r o s h = absurd (false≢true h)
ended_there (Entry dir name l) (Truncation q m) r o s h = absurd (false≢true h)
ended_there (Entry dir name l) (Unknown q m) r o s h = absurd (false≢true h)
ended_there (Truncation a n) d r o s h = absurd (false≢true s)
ended_there (Unknown key l) d r o s h = absurd (false≢true s)

-- ---- leaves that go
part_within : (a : ℕ) (d : NodeContent) (r : ℕ) → r ≡ rank_of_shown d → IsTrue (fits_key d) → is_part_told a d ≡ true → is_between (key_rank (Ino a)) (key_rank (Ino a) + 2 ^ 30) r ≡ true
part_within a (Inode q m) r o f h = inode_within a q r (eqb-true q a h) o
part_within a (Block q m) r o f h = block_within a q m r (eqb-true q a h) (ltb-true m (2 ^ 29) f) o
part_within a (Entry q m k) r o f h = absurd (false≢true h)
part_within a (Truncation q m) r o f h = absurd (false≢true h)
part_within a (Unknown q m) r o f h = absurd (false≢true h)

cut_block : (a size m r : ℕ) → size ≤ 4096 * m → m < 2 ^ 29 → r ≡ key_rank (BlockKey a m) → is_between (key_rank (BlockKey a (size / 4096))) (key_rank (Ino a) + 2 ^ 30) r ≡ true
cut_block a size m r cut s h =
    let i = inode_rank a in
    let j = block_rank a m in
    let k = block_rank a (size / 4096) in
    between_is (key_rank (BlockKey a (size / 4096))) (key_rank (Ino a) + 2 ^ 30) r (omega (arith, cut, h, j, k)) (omega (arith, s, h, i, j))

cut_within : (a size : ℕ) (d : NodeContent) (r : ℕ) → r ≡ rank_of_shown d → IsTrue (fits_key d) → is_cut_told a size d ≡ true → is_between (key_rank (BlockKey a (size / 4096))) (key_rank (Ino a) + 2 ^ 30) r ≡ true
cut_within a size (Block q m) r o f h =
    let p = and_parts (q == a) (nat_le size (4096 * m)) h in
    cut_block a size m r (leb-true size (4096 * m) p.1) (ltb-true m (2 ^ 29) f) (o ∙ ap (λ (z : ℕ). key_rank (BlockKey z m)) (eqb-true q a p.0))
cut_within a size (Inode q m) r o f h = absurd (false≢true h)
cut_within a size (Entry q m k) r o f h = absurd (false≢true h)
cut_within a size (Truncation q m) r o f h = absurd (false≢true h)
cut_within a size (Unknown q m) r o f h = absurd (false≢true h)

one_between : (n r : ℕ) → r ≡ n → is_between n (n + 1) r ≡ true
one_between n r e = between_is n (n + 1) r (omega (arith, e)) (omega (arith, e))

name_within : (dir : ℕ) (name : List ℕ) (d : NodeContent) (r : ℕ) → r ≡ rank_of_shown d → ends_told (Entry dir name false) d ≡ true → is_between (key_rank (Dent dir (r5_of name))) (key_rank (Dent dir (r5_of name)) + 1) r ≡ true
name_within dir name d r o h = one_between (key_rank (Dent dir (r5_of name))) r (ended_there (Entry dir name true) d r o refl h)

ended_within : (c d : NodeContent) (r : ℕ) → r ≡ rank_of_shown d → IsTrue (fits_key d) → becomes_leaf c ≡ false → ends_told c d ≡ true → is_between (first_ended c) (past_ended c) r ≡ true
ended_within (Inode a true) d r o f s h = absurd (false≢true (sym s))
ended_within (Inode a false) d r o f s h = part_within a d r o f h
ended_within (Block a n) d r o f s h = absurd (false≢true (sym s))
ended_within (Entry dir name true) d r o f s h = absurd (false≢true (sym s))
ended_within (Entry dir name false) d r o f s h = name_within dir name d r o h
ended_within (Truncation a n) d r o f s h = cut_within a n d r o f h
ended_within (Unknown key true) d r o f s h = absurd (false≢true h)
ended_within (Unknown key false) d r o f s h = part_within (key_words key).0 d r o f h

pub leaf_ended_there : (c : NodeContent) → becomes_leaf c ≡ true → (x : RecoveredLeaf) → HasKeyShown x → ends_told c x.content ≡ true → leaf_rank x.leaf ≡ key_rank (node_key_told c)
leaf_ended_there c s x own h = ended_there c x.content (leaf_rank x.leaf) own.0 s h

pub leaf_ended_within : (c : NodeContent) → becomes_leaf c ≡ false → (x : RecoveredLeaf) → HasKeyShown x → ends_told c x.content ≡ true → is_between (first_ended c) (past_ended c) (leaf_rank x.leaf) ≡ true
leaf_ended_within c s x own h = ended_within c x.content (leaf_rank x.leaf) own.0 own.1 s h

-- what becomes a leaf shows what has its key
pub becomes_shown : (c : NodeContent) → becomes_leaf c ≡ true → key_rank (node_key_told c) ≡ rank_of_shown c
becomes_shown (Inode a l) s = refl
becomes_shown (Block a n) s = refl
becomes_shown (Entry dir name l) s = refl
becomes_shown (Truncation a n) s = absurd (false≢true s)
becomes_shown (Unknown key l) s = refl

-- ---- whether an inode is there
inode_shown : (ino : ℕ) (d : NodeContent) → is_inode_told ino d ≡ true → rank_of_shown d ≡ key_rank (Ino ino)
inode_shown ino (Inode q m) h = ap (λ (n : ℕ). key_rank (Ino n)) (eqb-true q ino h)
inode_shown ino (Block q m) h = absurd (false≢true h)
inode_shown ino (Entry q m k) h = absurd (false≢true h)
inode_shown ino (Truncation q m) h = absurd (false≢true h)
inode_shown ino (Unknown q m) h = absurd (false≢true h)

pub inode_at : (ino low : ℕ) (leaves : List RecoveredLeaf) → AreInKeyOrder low leaves → has_inode_told (leaves_with_rank (key_rank (Ino ino)) leaves) ino ≡ has_inode_told leaves ino
inode_at ino low [] h = refl
inode_at ino low (x ∷ leaves) h = by (is_at (nat_cmp (leaf_rank x.leaf)) (key_rank (Ino ino))) refl (is_inode_told ino x.content) refl (inode_at ino (leaf_rank x.leaf) leaves h.2)
  where
    at : ℕ
    at = key_rank (Ino ino)

    by : (t : Bool) → is_at (nat_cmp (leaf_rank x.leaf)) at ≡ t → (b : Bool) → is_inode_told ino x.content ≡ b → has_inode_told (leaves_with_rank at leaves) ino ≡ has_inode_told leaves ino
        → has_inode_told (cond t (x ∷ leaves_with_rank at leaves) (leaves_with_rank at leaves)) ino ≡ (b || has_inode_told leaves ino)
    by true g b e more = ap (λ (z : Bool). z || has_inode_told (leaves_with_rank at leaves) ino) e ∙ ap (λ (z : Bool). b || z) more
    by false g false e more = more
    by false g true e more = absurd (false≢true (sym g ∙ at_place (leaf_rank x.leaf) at (h.0.0 ∙ inode_shown ino x.content e)))
