-- The body of a truncation node is read exactly where it is spelled.
use Rattle.std.proofs.Common.{◌≡◌, ℕ, ◌==◌, not, true, List, [], length, drop, refl, subst, arith}
use Rattle.std.proofs.lemmas.Bool.{eqb-true, eq-eqb, not-false}
use Rattle.std.proofs.lemmas.List.{drop_all}
use Rattle.ubifs_base.specs.NodeLaws.{IsBytes}
use Rattle.media_leaf.specs.declared.trun_node.TrunNode.{TrunNode}
use Rattle.node_fields.specs.Fields.{Spells}
use Rattle.node_fields.specs.FieldLaws.{reads_back, spelled, length-read}
use Rattle.media_leaf.specs.LeafNode.{leaf_form, truncation}
use Rattle.media_leaf.specs.Truncation.{is_truncation, read_truncation, truncation_at, truncation_fields}
use Rattle.node_fields.specs.Form.{IsBody}
use Rattle.node_fields.specs.FormLaws.{IsReader}
use Rattle.media_leaf.proofs.BodyTests.{IsTest, past, reader_of}

passes : (kind : ℕ) (body : List ℕ) (node : TrunNode) → IsBody leaf_form kind body (truncation node) → is_truncation kind body ≡ true
unfolding is_truncation
passes kind body node h =
    let back = reads_back 0 (truncation_fields node) [] body (omega arith) h.spelled in
    let e : length body ≡ 32 = length-read (truncation_fields node) [] body back in
    let t0 : (kind == 4) ≡ true = eq-eqb kind 4 h.kind_is in
    let t1 : (length body == 32) ≡ true = eq-eqb (length body) 32 e in
    rw (t0, t1) refl

reads : (kind : ℕ) (body : List ℕ) (node : TrunNode) → IsBody leaf_form kind body (truncation node) → truncation_at body ≡ node
unfolding truncation_at
reads kind body node h =
    let n = (reads_back 0 (truncation_fields node) [] body (omega arith) h.spelled).numbers in
    rw (n.0, n.1.0, n.1.1.0) refl

spells : (kind : ℕ) (body : List ℕ) → IsBytes body → is_truncation kind body ≡ true → IsBody leaf_form kind body (truncation (truncation_at body))
unfolding is_truncation truncation_at
spells kind body fits h =
    let read : TrunNode = truncation_at body in
    let g0 = past (not (kind == 4)) (length body == 32) h in
    let long : length body ≡ 32 = eqb-true (length body) 32 g0.1 in
    let none : drop 32 body ≡ [] = drop_all 32 body (omega (arith, long)) in
    let Q : List ℕ → Type 0 = λ t. Spells (truncation_fields read) t body in
    record {
      kind_is = eqb-true kind 4 (not-false (kind == 4) g0.0);
      spelled = subst Q none (spelled 0 (truncation_fields read) body fits (omega (arith, long)) (refl, (refl, (refl, tt))));
      is = tt;
    }

pub truncation_test : IsTest leaf_form truncation is_truncation (λ kind. truncation_at)
truncation_test = record { passes = passes; reads = reads; spells = spells }

pub truncation_reader : IsReader leaf_form truncation read_truncation
unfolding read_truncation
truncation_reader = reader_of leaf_form truncation is_truncation (λ kind. truncation_at) truncation_test
