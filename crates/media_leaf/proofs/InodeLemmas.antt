-- The body of an inode node is read exactly where it is spelled.
use Rattle.std.proofs.Common.{◌≡◌, ℕ, ◌+◌, ◌-◌, ◌≤◌, ◌==◌, ◌&&◌, not, nat_lt, Bool, true, false, List, length, drop, refl, sym, ◌∙◌, arith, length-drop}
use Rattle.std.proofs.lemmas.Bool.{ltb-false, le-ltb, eqb-true, eq-eqb, not-false}
use Rattle.std.proofs.Math.Bool.{and-false, and-true}
use Rattle.byteorder.specs.Endian.{little_number}
use Rattle.ubifs_base.specs.NodeLaws.{IsBytes}
use Rattle.media_leaf.specs.declared.ino_node.InoNode.{InoNode}
use Rattle.node_fields.specs.FieldLaws.{IsRead, reads_back, spelled, length-read}
use Rattle.media_leaf.specs.Inode.{inode_at, inode_fields, is_inode, may_hold_data, read_inode}
use Rattle.media_leaf.specs.LeafNode.{leaf_form, inode}
use Rattle.node_fields.specs.Form.{IsBody}
use Rattle.node_fields.specs.FormLaws.{IsReader}
use Rattle.media_leaf.proofs.BodyTests.{IsTest, past, reader_of}

no_data : (n : ℕ) (b : Bool) → (b ≡ false → n ≡ 0) → (not (n == 0) && not b) ≡ false
no_data n true h = and-false (not (n == 0))
no_data n false h = let e : n ≡ 0 = h refl in rw e refl

without_data : (n : ℕ) (b : Bool) → (not (n == 0) && not b) ≡ false → b ≡ false → n ≡ 0
without_data n true h e = absurd cc
without_data n false h e = eqb-true n 0 (not-false (n == 0) (sym (and-true (not (n == 0))) ∙ h))

not-true : (b : Bool) → not b ≡ true → b ≡ false
not-true true h = absurd cc
not-true false h = refl

at_fields : (node : InoNode) (body : List ℕ) → IsRead 0 (inode_fields node) node.bytes body → inode_at body ≡ node
unfolding inode_at
at_fields node body h =
    let n = h.numbers in
    let rest = h.rest in
    let n2 = n.1.1 in
    let n4 = n2.1.1 in
    let n6 = n4.1.1 in
    let n8 = n6.1.1 in
    let n10 = n8.1.1 in
    let n12 = n10.1.1 in
    let n14 = n12.1.1 in
    rw (n.0, n2.0, n2.1.0, n4.0, n4.1.0, n6.0, n6.1.0, n8.0, n8.1.0, n10.0, n12.0, n12.1.0, n14.0, rest) refl

passes : (kind : ℕ) (body : List ℕ) (node : InoNode) → IsBody leaf_form kind body (inode node) → is_inode kind body ≡ true
unfolding is_inode
passes kind body node h =
    let numbered = h.is.numbered in
    let most = h.is.most in
    let size = length node.bytes in
    let back = reads_back 0 (inode_fields node) node.bytes body (omega arith) h.spelled in
    let ino = back.numbers.0 in
    let second = back.numbers.1.0 in
    let n2 = back.numbers.1.1 in
    let n9 = n2.1.1.1.1.1.1.1 in
    let mode = n9.0 in
    let data_len = n9.1.1.0 in
    let long : length body ≡ 136 + size = length-read (inode_fields node) node.bytes body back in
    let t0 : (kind == 0) ≡ true = eq-eqb kind 0 h.kind_is in
    let t1 : nat_lt (length body) 136 ≡ false = le-ltb (length body) 136 (omega (arith, long)) in
    let t2 : nat_lt node.ino 1 ≡ false = le-ltb node.ino 1 numbered in
    let t3 : nat_lt 4096 size ≡ false = le-ltb 4096 size most in
    let t4 : (length body - 136 == size) ≡ true = eq-eqb (length body - 136) size (omega (arith, long)) in
    let t5 : (not (size == 0) && not (may_hold_data node.mode)) ≡ false = no_data size (may_hold_data node.mode) h.is.plain in
    rw (t0, t1, second, ino, t2, data_len, t3, t4, mode, t5) refl

reads : (kind : ℕ) (body : List ℕ) (node : InoNode) → IsBody leaf_form kind body (inode node) → inode_at body ≡ node
reads kind body node h = at_fields node body (reads_back 0 (inode_fields node) node.bytes body (omega arith) h.spelled)

spells : (kind : ℕ) (body : List ℕ) → IsBytes body → is_inode kind body ≡ true → IsBody leaf_form kind body (inode (inode_at body))
unfolding is_inode inode_at
spells kind body fits h =
    let mode = little_number 4 (drop 80 body) in
    let size = little_number 4 (drop 88 body) in
    let read = inode_at body in
    let g0 = past (not (kind == 0)) _ h in
    let g1 = past (nat_lt (length body) 136) _ g0.1 in
    let g2 = past (not (little_number 4 (drop 4 body) == 0)) _ g1.1 in
    let g3 = past (nat_lt (little_number 4 body) 1) _ g2.1 in
    let g4 = past (nat_lt 4096 size) _ g3.1 in
    let g5 = past (not (length body - 136 == size)) (not (not (size == 0) && not (may_hold_data mode))) g4.1 in
    let g6 = not-true (not (size == 0) && not (may_hold_data mode)) g5.1 in
    let long : 136 ≤ length body = ltb-false (length body) 136 g1.0 in
    let second : little_number 4 (drop 4 body) ≡ 0 = eqb-true (little_number 4 (drop 4 body)) 0 (not-false (little_number 4 (drop 4 body) == 0) g2.0) in
    let numbered : 1 ≤ little_number 4 body = ltb-false (little_number 4 body) 1 g3.0 in
    let most : size ≤ 4096 = ltb-false 4096 size g4.0 in
    let whole : length body - 136 ≡ size = eqb-true (length body - 136) size (not-false (length body - 136 == size) g5.0) in
    let wide : length (drop 136 body) ≡ size = length-drop 136 body ∙ whole in
    record {
      kind_is = eqb-true kind 0 (not-false (kind == 0) g0.0);
      spelled = spelled 0 (inode_fields read) body fits long
          (refl, (second, (refl, (refl, (refl, (refl, (refl, (refl, (refl, (refl, (refl, (sym wide, (refl, (refl, (refl, tt)))))))))))))));
      is = record { numbered = numbered; most = rw wide most; plain = λ e. wide ∙ without_data size (may_hold_data mode) g6 e };
    }

pub inode_test : IsTest leaf_form inode is_inode (λ kind. inode_at)
inode_test = record { passes = passes; reads = reads; spells = spells }

pub inode_reader : IsReader leaf_form inode read_inode
unfolding read_inode
inode_reader = reader_of leaf_form inode is_inode (λ kind. inode_at) inode_test
