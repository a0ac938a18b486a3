-- The body of a commit start node is tested and read exactly where it is spelled.
use Rattle.std.proofs.Common.{◌≡◌, ℕ, ◌==◌, true, List, [], length, refl, arith}
use Rattle.std.proofs.lemmas.Bool.{eqb-true, eq-eqb}
use Rattle.ubifs_base.specs.NodeLaws.{IsBytes}
use Rattle.node_fields.specs.FieldLaws.{reads_back, length-read}
use Rattle.node_fields.specs.Form.{IsBody}
use Rattle.media_sys.specs.declared.commit_start.CommitStart.{CommitStart}
use Rattle.media_sys.specs.CommitStart.{commit_start_fields, is_commit_start, commit_start_at}
use Rattle.media_sys.specs.SystemNode.{system_form, commit_start}
use Rattle.media_sys.proofs.TestLemmas.{IsTest, both, each, all_spelled}

takes : (kind : ℕ) (body : List ℕ) (node : CommitStart) → IsBody system_form kind body (commit_start node) → (is_commit_start kind body ≡ true) × (commit_start_at body ≡ node)
unfolding is_commit_start commit_start_at
takes kind body node h =
    let back = reads_back 0 (commit_start_fields node) [] body (omega arith) h.spelled in
    let long : length body ≡ 8 = length-read (commit_start_fields node) [] body back in
    (both (kind == 10) (length body == 8) (eq-eqb kind 10 h.kind_is) (eq-eqb (length body) 8 long), rw (back.numbers.0) refl)

gives : (kind : ℕ) (body : List ℕ) → IsBytes body → is_commit_start kind body ≡ true → IsBody system_form kind body (commit_start (commit_start_at body))
unfolding is_commit_start commit_start_at
gives kind body fits h =
    let t = each (kind == 10) (length body == 8) h in
    record {
      kind_is = eqb-true kind 10 t.0;
      spelled = all_spelled (commit_start_fields (commit_start_at body)) body fits (eqb-true (length body) 8 t.1) (refl, tt);
      is = tt;
    }

pub commit_start_test : IsTest system_form commit_start is_commit_start commit_start_at
commit_start_test = record { takes = takes; gives = gives }
