-- The body of a reference node is tested and read exactly where it is spelled.
use Rattle.std.proofs.Common.{◌≡◌, ◌≤◌, ℕ, zero, suc, ◌&&◌, ◌==◌, nat_le, true, List, [], length, drop, refl, arith, ap, sym, ◌∙◌}
use Rattle.std.proofs.lemmas.Bool.{eqb-true, eq-eqb, leb-true, le-leb}
use Rattle.byteorder.specs.Endian.{little_number}
use Rattle.ubifs_base.specs.JournalHead.{head_number}
use Rattle.ubifs_base.specs.NodeLaws.{IsBytes}
use Rattle.ubifs_base.specs.declared.journal_head.JournalHead.{JournalHead}
use Rattle.ubifs_base.specs.declared.journal_head.JournalHead.TheVariants.{Collector, Base, Data}
use Rattle.node_fields.specs.FieldLaws.{reads_back, length-read}
use Rattle.node_fields.specs.Form.{IsBody}
use Rattle.media_sys.specs.declared.ref_node.RefNode.{RefNode}
use Rattle.media_sys.specs.Reference.{reference_fields, is_reference, head_of, head_at, reference_at}
use Rattle.media_sys.specs.SystemNode.{system_form, reference}
use Rattle.media_sys.proofs.TestLemmas.{IsTest, each, all_spelled}

-- a head is that of its number
head_back : (head : JournalHead) → head_of (head_number head) ≡ head
head_back Collector = refl
head_back Base = refl
head_back Data = refl

low : (head : JournalHead) → head_number head ≤ 2
low Collector = omega arith
low Base = omega arith
low Data = omega arith

-- and a number up to 2 is that of its head
number_back : (n : ℕ) → n ≤ 2 → head_number (head_of n) ≡ n
number_back zero h = refl
number_back (suc zero) h = refl
number_back (suc (suc zero)) h = refl
number_back (suc (suc (suc n))) h = absurd (omega (arith, h))

takes : (kind : ℕ) (body : List ℕ) (node : RefNode) → IsBody system_form kind body (reference node) → (is_reference kind body ≡ true) × (reference_at body ≡ node)
unfolding is_reference reference_at head_at
takes kind body node h =
    let back = reads_back 0 (reference_fields node) [] body (omega arith) h.spelled in
    let n = back.numbers in
    let head = n.1.1.0 in
    let long : length body ≡ 40 = length-read (reference_fields node) [] body back in
    let t0 : (kind == 8) ≡ true = eq-eqb kind 8 h.kind_is in
    let t1 : (length body == 40) ≡ true = eq-eqb (length body) 40 long in
    let t2 : nat_le (head_number node.head) 2 ≡ true = le-leb (head_number node.head) 2 (low node.head) in
    let whose : head_of (little_number 4 (drop 8 body)) ≡ node.head = ap head_of head ∙ head_back node.head in
    (rw (t0, t1, head, t2) refl, rw (n.0, n.1.0, whose) refl)

gives : (kind : ℕ) (body : List ℕ) → IsBytes body → is_reference kind body ≡ true → IsBody system_form kind body (reference (reference_at body))
unfolding is_reference reference_at head_at
gives kind body fits h =
    let head = little_number 4 (drop 8 body) in
    let t0 = each (kind == 8) (length body == 40 && nat_le head 2) h in
    let t1 = each (length body == 40) (nat_le head 2) t0.1 in
    record {
      kind_is = eqb-true kind 8 t0.0;
      spelled = all_spelled (reference_fields (reference_at body)) body fits (eqb-true (length body) 40 t1.0) (refl, (refl, (sym (number_back head (leb-true head 2 t1.1)), tt)));
      is = tt;
    }

pub reference_test : IsTest system_form reference is_reference reference_at
reference_test = record { takes = takes; gives = gives }
