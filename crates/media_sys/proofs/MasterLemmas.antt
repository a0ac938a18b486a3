-- The body of a master node is tested and read exactly where it is spelled.
use Rattle.std.proofs.Common.{◌≡◌, ℕ, ◌^◌, ◌&&◌, ◌==◌, nat_lt, true, List, [], length, refl, arith}
use Rattle.std.proofs.lemmas.Bool.{eqb-true, eq-eqb, ltb-true, lt-ltb}
use Rattle.byteorder.specs.Endian.{little_number}
use Rattle.ubifs_base.specs.NodeLaws.{IsBytes}
use Rattle.node_fields.specs.FieldLaws.{IsRead, reads_back, length-read}
use Rattle.node_fields.specs.Form.{IsBody}
use Rattle.media_sys.specs.declared.master.Master.{Master}
use Rattle.media_sys.specs.Master.{master_fields, is_master, master_at}
use Rattle.media_sys.specs.SystemNode.{system_form, master}
use Rattle.media_sys.proofs.TestLemmas.{IsTest, each, all_spelled}

at_fields : (node : Master) (body : List ℕ) → IsRead 0 (master_fields node) [] body → master_at body ≡ node
unfolding master_at
at_fields node body h =
    let n0 = h.numbers in
    let n4 = n0.1.1.1.1 in
    let n8 = n4.1.1.1.1 in
    let n12 = n8.1.1.1.1 in
    let n16 = n12.1.1.1.1 in
    let n20 = n16.1.1.1.1 in
    let n24 = n20.1.1.1.1 in
    rw (
      n0.0,
      n0.1.0,
      n0.1.1.0,
      n0.1.1.1.0,
      n4.0,
      n4.1.0,
      n4.1.1.0,
      n4.1.1.1.0,
      n8.0,
      n8.1.0,
      n8.1.1.0,
      n8.1.1.1.0,
      n12.0,
      n12.1.0,
      n12.1.1.0,
      n12.1.1.1.0,
      n16.0,
      n16.1.0,
      n16.1.1.0,
      n16.1.1.1.0,
      n20.0,
      n20.1.0,
      n20.1.1.0,
      n20.1.1.1.0,
      n24.0,
      n24.1.0,
      n24.1.1.0,
      n24.1.1.1.0,
    ) refl

takes : (kind : ℕ) (body : List ℕ) (node : Master) → IsBody system_form kind body (master node) → (is_master kind body ≡ true) × (master_at body ≡ node)
unfolding is_master
takes kind body node h =
    let back = reads_back 0 (master_fields node) [] body (omega arith) h.spelled in
    let highest : little_number 8 body ≡ node.highest_inum = back.numbers.0 in
    let long : length body ≡ 488 = length-read (master_fields node) [] body back in
    let t0 : (kind == 7) ≡ true = eq-eqb kind 7 h.kind_is in
    let t1 : (length body == 488) ≡ true = eq-eqb (length body) 488 long in
    let t2 : nat_lt node.highest_inum (2 ^ 32) ≡ true = lt-ltb node.highest_inum (2 ^ 32) h.is.highest_fits in
    (rw (t0, t1, highest, t2) refl, at_fields node body back)

gives : (kind : ℕ) (body : List ℕ) → IsBytes body → is_master kind body ≡ true → IsBody system_form kind body (master (master_at body))
unfolding is_master master_at
gives kind body fits h =
    let highest = little_number 8 body in
    let t0 = each (kind == 7) (length body == 488 && nat_lt highest (2 ^ 32)) h in
    let t1 = each (length body == 488) (nat_lt highest (2 ^ 32)) t0.1 in
    record {
      kind_is = eqb-true kind 7 t0.0;
      spelled = all_spelled (master_fields (master_at body)) body fits (eqb-true (length body) 488 t1.0)
          (refl, (refl, (refl, (refl, (refl, (refl, (refl, (refl, (refl, (refl, (refl, (refl, (refl, (refl, (refl, (refl, (refl, (refl, (refl, (refl, (refl, (refl, (refl, (refl, (refl, (refl, (refl, (refl, tt))))))))))))))))))))))))))));
      is = record { highest_fits = ltb-true highest (2 ^ 32) t1.1 };
    }

pub master_test : IsTest system_form master is_master master_at
master_test = record { takes = takes; gives = gives }
