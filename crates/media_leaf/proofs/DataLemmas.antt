-- The body of a data node is read exactly where it is spelled.
use Rattle.std.proofs.Common.{◌≡◌, ℕ, ◌+◌, ◌-◌, ◌/◌, ◌%◌, ◌^◌, ◌≤◌, ◌==◌, not, nat_lt, true, false, List, length, drop, refl, sym, ◌∙◌, arith, length-drop}
use Rattle.std.proofs.lemmas.Bool.{ltb-false, le-ltb, eqb-true, eq-eqb, not-false}
use Rattle.byteorder.specs.Endian.{little_number}
use Rattle.ubifs_base.specs.NodeLaws.{IsBytes}
use Rattle.media_leaf.specs.declared.data_node.DataNode.{DataNode}
use Rattle.media_leaf.specs.Data.{data_fields, data_at, is_data, read_data}
use Rattle.node_fields.specs.FieldLaws.{reads_back, spelled, length-read}
use Rattle.media_leaf.specs.LeafNode.{leaf_form, block}
use Rattle.node_fields.specs.Form.{IsBody}
use Rattle.node_fields.specs.FormLaws.{IsReader}
use Rattle.media_leaf.proofs.BodyTests.{IsTest, past, reader_of}

passes : (kind : ℕ) (body : List ℕ) (node : DataNode) → IsBody leaf_form kind body (block node) → is_data kind body ≡ true
unfolding is_data
passes kind body node h =
    let fits = h.is.block_fits in
    let some = h.is.some in
    let most = h.is.most in
    let back = reads_back 0 (data_fields node) node.bytes body (omega arith) h.spelled in
    let second = back.numbers.1.0 in
    let size = back.numbers.1.1.0 in
    let plain = back.numbers.1.1.1.0 in
    let long : length body ≡ 24 + length node.bytes = length-read (data_fields node) node.bytes body back in
    let t0 : (kind == 1) ≡ true = eq-eqb kind 1 h.kind_is in
    let t1 : nat_lt (length body) 24 ≡ false = le-ltb (length body) 24 (omega (arith, long)) in
    let high : (2 ^ 29 + node.block) / 2 ^ 29 ≡ 1 = omega (arith, fits) in
    let t2 : nat_lt (length node.bytes) 1 ≡ false = le-ltb (length node.bytes) 1 some in
    let t3 : nat_lt 4096 (length node.bytes) ≡ false = le-ltb 4096 (length node.bytes) most in
    let t4 : (length body - 24 == length node.bytes) ≡ true = eq-eqb (length body - 24) (length node.bytes) (omega (arith, long)) in
    rw (t0, t1, second, high, plain, size, t2, t3, t4) refl

reads : (kind : ℕ) (body : List ℕ) (node : DataNode) → IsBody leaf_form kind body (block node) → data_at body ≡ node
unfolding data_at
reads kind body node h =
    let fits = h.is.block_fits in
    let back = reads_back 0 (data_fields node) node.bytes body (omega arith) h.spelled in
    let low : (2 ^ 29 + node.block) % 2 ^ 29 ≡ node.block = omega (arith, fits) in
    rw (back.numbers.0, back.numbers.1.0, low, back.rest) refl

spells : (kind : ℕ) (body : List ℕ) → IsBytes body → is_data kind body ≡ true → IsBody leaf_form kind body (block (data_at body))
unfolding is_data data_at
spells kind body fits h =
    let second = little_number 4 (drop 4 body) in
    let size = little_number 4 (drop 16 body) in
    let read : DataNode = data_at body in
    let g0 = past (not (kind == 1)) _ h in
    let g1 = past (nat_lt (length body) 24) _ g0.1 in
    let g2 = past (not (second / 2 ^ 29 == 1)) _ g1.1 in
    let g3 = past (not (little_number 2 (drop 20 body) == 0)) _ g2.1 in
    let g4 = past (nat_lt size 1) _ g3.1 in
    let g5 = past (nat_lt 4096 size) (length body - 24 == size) g4.1 in
    let long : 24 ≤ length body = ltb-false (length body) 24 g1.0 in
    let high : second / 2 ^ 29 ≡ 1 = eqb-true (second / 2 ^ 29) 1 (not-false (second / 2 ^ 29 == 1) g2.0) in
    let plain : little_number 2 (drop 20 body) ≡ 0 = eqb-true (little_number 2 (drop 20 body)) 0 (not-false (little_number 2 (drop 20 body) == 0) g3.0) in
    let some : 1 ≤ size = ltb-false size 1 g4.0 in
    let most : size ≤ 4096 = ltb-false 4096 size g5.0 in
    let whole : length body - 24 ≡ size = eqb-true (length body - 24) size g5.1 in
    let wide : length (drop 24 body) ≡ size = length-drop 24 body ∙ whole in
    let word : second ≡ 2 ^ 29 + second % 2 ^ 29 = omega (arith, high) in
    record {
      kind_is = eqb-true kind 1 (not-false (kind == 1) g0.0);
      spelled = spelled 0 (data_fields read) body fits long (refl, (word, (sym wide, (plain, tt))));
      is = record { block_fits = omega arith; some = rw wide some; most = rw wide most };
    }

pub data_test : IsTest leaf_form block is_data (λ kind. data_at)
data_test = record { passes = passes; reads = reads; spells = spells }

pub data_reader : IsReader leaf_form block read_data
unfolding read_data
data_reader = reader_of leaf_form block is_data (λ kind. data_at) data_test
