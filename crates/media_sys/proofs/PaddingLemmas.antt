-- The body of a padding node is tested and read exactly where it is spelled.
use Rattle.std.proofs.Common.{◌≡◌, ℕ, ◌==◌, true, List, [], length, refl, arith}
use Rattle.std.proofs.lemmas.Bool.{eqb-true, eq-eqb}
use Rattle.ubifs_base.specs.NodeLaws.{IsBytes}
use Rattle.node_fields.specs.FieldLaws.{reads_back, length-read}
use Rattle.node_fields.specs.Form.{IsBody}
use Rattle.media_sys.specs.declared.pad_node.PadNode.{PadNode}
use Rattle.media_sys.specs.Padding.{padding_fields, is_padding, padding_at}
use Rattle.media_sys.specs.SystemNode.{system_form, padding}
use Rattle.media_sys.proofs.TestLemmas.{IsTest, both, each, all_spelled}

takes : (kind : ℕ) (body : List ℕ) (node : PadNode) → IsBody system_form kind body (padding node) → (is_padding kind body ≡ true) × (padding_at body ≡ node)
unfolding is_padding padding_at
takes kind body node h =
    let back = reads_back 0 (padding_fields node) [] body (omega arith) h.spelled in
    let long : length body ≡ 4 = length-read (padding_fields node) [] body back in
    (both (kind == 5) (length body == 4) (eq-eqb kind 5 h.kind_is) (eq-eqb (length body) 4 long), rw (back.numbers.0) refl)

gives : (kind : ℕ) (body : List ℕ) → IsBytes body → is_padding kind body ≡ true → IsBody system_form kind body (padding (padding_at body))
unfolding is_padding padding_at
gives kind body fits h =
    let t = each (kind == 5) (length body == 4) h in
    record {
      kind_is = eqb-true kind 5 t.0;
      spelled = all_spelled (padding_fields (padding_at body)) body fits (eqb-true (length body) 4 t.1) (refl, tt);
      is = tt;
    }

pub padding_test : IsTest system_form padding is_padding padding_at
padding_test = record { takes = takes; gives = gives }
