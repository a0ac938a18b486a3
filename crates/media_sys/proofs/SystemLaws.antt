-- A body is at most one node of any kind, and the tests say whether there is one.
use Rattle.std.proofs.Common.{◌≡◌, ℕ, ◌==◌, ◌||◌, ◌⊎◌, inl, inr, Bool, true, false, List, ◌++◌, length, refl, sym, ◌∙◌}
use Rattle.std.specs.Prelude.{if◌then◌else◌}
use Rattle.ubifs_base.specs.NodeLaws.{IsBytes}
use Rattle.node_fields.specs.Form.{IsBody}
use Rattle.node_fields.specs.FormLaws.{one_of, whole_of}
use Rattle.media_sys.specs.CommitStart.{is_commit_start, commit_start_at}
use Rattle.media_sys.specs.Index.{is_index, index_at}
use Rattle.media_sys.specs.Master.{is_master, master_at}
use Rattle.media_sys.specs.Orphans.{is_orphans, orphans_at}
use Rattle.media_sys.specs.Padding.{is_padding, padding_at}
use Rattle.media_sys.specs.Reference.{is_reference, reference_at}
use Rattle.media_sys.specs.Superblock.{is_super, super_at}
use Rattle.media_sys.specs.SystemNode.{SystemNode, padding, superblock, master, reference, index, commit_start, orphans, system_form, IsSystemNode, is_system}
use Rattle.media_sys.proofs.CommitStartLemmas.{commit_start_test}
use Rattle.media_sys.proofs.IndexLemmas.{index_test}
use Rattle.media_sys.proofs.MasterLemmas.{master_test}
use Rattle.media_sys.proofs.OrphanLemmas.{orphans_test}
use Rattle.media_sys.proofs.PaddingLemmas.{padding_test}
use Rattle.media_sys.proofs.ReferenceLemmas.{reference_test}
use Rattle.media_sys.proofs.SuperLemmas.{super_test}

-- what is taken from a body of this type
abbrev node_at : ℕ → List ℕ → SystemNode
node_at kind body =
    if kind == 5 then padding (padding_at body)
    else if kind == 6 then superblock (super_at body)
    else if kind == 7 then master (master_at body)
    else if kind == 8 then reference (reference_at body)
    else if kind == 9 then index (index_at body)
    else if kind == 10 then commit_start (commit_start_at body)
    else orphans (orphans_at body)

is_taken : (kind : ℕ) (body : List ℕ) (node : SystemNode) → IsBody system_form kind body node → node_at kind body ≡ node
is_taken kind body (padding node) h = let e = h.kind_is in let t = (padding_test.takes kind body node h).1 in rw (e, t) refl
is_taken kind body (superblock node) h = let e = h.kind_is in let t = (super_test.takes kind body node h).1 in rw (e, t) refl
is_taken kind body (master node) h = let e = h.kind_is in let t = (master_test.takes kind body node h).1 in rw (e, t) refl
is_taken kind body (reference node) h = let e = h.kind_is in let t = (reference_test.takes kind body node h).1 in rw (e, t) refl
is_taken kind body (index node) h = let e = h.kind_is in let t = (index_test.takes kind body node h).1 in rw (e, t) refl
is_taken kind body (commit_start node) h = let e = h.kind_is in let t = (commit_start_test.takes kind body node h).1 in rw (e, t) refl
is_taken kind body (orphans node) h = let e = h.kind_is in let t = (orphans_test.takes kind body node h).1 in rw (e, t) refl

same : (kind : ℕ) (body : List ℕ) (m n : SystemNode) → IsBody system_form kind body m → IsBody system_form kind body n → m ≡ n
same kind body m n hm hn = sym (is_taken kind body m hm) ∙ is_taken kind body n hn

pub one : (bytes : List ℕ) (s1 g1 s2 g2 : ℕ) (n1 n2 : SystemNode) → IsBytes bytes → IsSystemNode bytes s1 g1 n1 → IsSystemNode bytes s2 g2 n2
    → (s1 ≡ s2) × (g1 ≡ g2) × (n1 ≡ n2)
one = one_of system_form same

pub whole : (a x b : List ℕ) (s1 g1 s2 g2 : ℕ) (n1 n2 : SystemNode) → IsBytes a → IsBytes b → IsSystemNode a s1 g1 n1 → IsSystemNode b s2 g2 n2
    → a ++ x ≡ b → length a ≡ length b
whole = whole_of system_form system_form

left : (a b : Bool) → a ≡ true → (a || b) ≡ true
left a b h = rw h refl

right : (a b : Bool) → b ≡ true → (a || b) ≡ true
right true b h = refl
right false b h = h

either : (a b : Bool) → (a || b) ≡ true → (a ≡ true) ⊎ (b ≡ true)
either true b h = inl refl
either false b h = inr h

-- one of the tests holds where there is a node
pub node-tested : (kind : ℕ) (body : List ℕ) (node : SystemNode) → IsBody system_form kind body node → is_system kind body ≡ true
unfolding is_system
node-tested kind body node h =
    let t1 = is_padding kind body in
    let t2 = is_super kind body in
    let t3 = is_master kind body in
    let t4 = is_reference kind body in
    let t5 = is_index kind body in
    let t6 = is_commit_start kind body in
    let r6 = t6 || is_orphans kind body in
    let r5 = t5 || r6 in
    let r4 = t4 || r5 in
    let r3 = t3 || r4 in
    let r2 = t2 || r3 in
    elim node as (λ n. IsBody system_form kind body n → (t1 || r2) ≡ true) [
      | padding n ↦ λ h. left t1 r2 (padding_test.takes kind body n h).0
      | superblock n ↦ λ h. right t1 r2 (left t2 r3 (super_test.takes kind body n h).0)
      | master n ↦ λ h. right t1 r2 (right t2 r3 (left t3 r4 (master_test.takes kind body n h).0))
      | reference n ↦ λ h. right t1 r2 (right t2 r3 (right t3 r4 (left t4 r5 (reference_test.takes kind body n h).0)))
      | index n ↦ λ h. right t1 r2 (right t2 r3 (right t3 r4 (right t4 r5 (left t5 r6 (index_test.takes kind body n h).0))))
      | commit_start n ↦ λ h. right t1 r2 (right t2 r3 (right t3 r4 (right t4 r5 (right t5 r6 (left t6 (is_orphans kind body) (commit_start_test.takes kind body n h).0)))))
      | orphans n ↦ λ h. right t1 r2 (right t2 r3 (right t3 r4 (right t4 r5 (right t5 r6 (right t6 (is_orphans kind body) (orphans_test.takes kind body n h).0)))))
    ] h

-- and there is a node where one of them holds
pub tested-node : (kind : ℕ) (body : List ℕ) → IsBytes body → is_system kind body ≡ true → (node : SystemNode) × IsBody system_form kind body node
unfolding is_system
tested-node kind body fits h =
    let t6 = is_commit_start kind body in
    let r6 = t6 || is_orphans kind body in
    let r5 = is_index kind body || r6 in
    let r4 = is_reference kind body || r5 in
    let r3 = is_master kind body || r4 in
    let r2 = is_super kind body || r3 in
    elim (either (is_padding kind body) r2 h) [
      | inl t ↦ (padding (padding_at body), padding_test.gives kind body fits t)
      | inr h2 ↦ elim (either (is_super kind body) r3 h2) [
        | inl t ↦ (superblock (super_at body), super_test.gives kind body fits t)
        | inr h3 ↦ elim (either (is_master kind body) r4 h3) [
          | inl t ↦ (master (master_at body), master_test.gives kind body fits t)
          | inr h4 ↦ elim (either (is_reference kind body) r5 h4) [
            | inl t ↦ (reference (reference_at body), reference_test.gives kind body fits t)
            | inr h5 ↦ elim (either (is_index kind body) r6 h5) [
              | inl t ↦ (index (index_at body), index_test.gives kind body fits t)
              | inr h6 ↦ elim (either t6 (is_orphans kind body) h6) [
                | inl t ↦ (commit_start (commit_start_at body), commit_start_test.gives kind body fits t)
                | inr t ↦ (orphans (orphans_at body), orphans_test.gives kind body fits t)
              ]
            ]
          ]
        ]
      ]
    ]
