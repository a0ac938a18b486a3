-- A node of the journal makes of the leaves of each place what it makes of all.
use Rattle.std.proofs.Common.{◌≡◌, ℕ, Bool, true, false, cond, not, length, List, [], ◌∷◌, refl, sym, ap, subst, ◌∙◌, arith}
use Rattle.std.specs.Prelude.{IsTrue, fold}
use Rattle.std.specs.BTreeMap.{is_at}
use Rattle.std.specs.Ordering.{nat_cmp}
use Rattle.ubifs_base.specs.declared.key.Key.TheVariants.{Ino}
use Rattle.index_tree.specs.Order.{key_rank, leaf_rank}
use Rattle.journal_scan.specs.declared.node_content.NodeContent.{NodeContent}
use Rattle.journal_scan.specs.declared.node_content.NodeContent.TheVariants.{Inode, Block, Entry, Truncation, Unknown}
use Rattle.journal_scan.specs.declared.journal_node.JournalNode.{JournalNode}
use Rattle.leaf_recovery.specs.declared.recovered_leaf.RecoveredLeaf.{RecoveredLeaf}
use Rattle.leaf_recovery.specs.Applied.{kept_after_told, put_leaf_told, without_ended}
use Rattle.leaf_recovery.specs.Found.{leaf_at_node}
use Rattle.leaf_recovery.specs.Ranked.{AreByRank, DoFitKeys, first_ended, fits_key, HasKeyShown, is_between, is_idle_ranked, LeavesByRank, leaves_at_rank, past_ended}
use Rattle.leaf_recovery.specs.Things.{becomes_leaf, ends_told, has_inode_told, is_idle_told}
use Rattle.leaf_recovery.proofs.Ranking.{dropped_at, order_left, put_at, put_in_order}
use Rattle.leaf_recovery.proofs.Touching.{becomes_shown, inode_at, leaf_ended_there, leaf_ended_within}

idle_is : (ranked : LeavesByRank) (leaves : List RecoveredLeaf) → AreByRank ranked leaves → (c : NodeContent) → is_idle_told leaves c ≡ is_idle_ranked ranked c
idle_is ranked leaves h (Block ino number) = sym (ap (λ (z : List RecoveredLeaf). not (has_inode_told z ino)) (h.at (key_rank (Ino ino))) ∙ ap not (inode_at ino 0 leaves h.ordered))
idle_is ranked leaves h (Inode ino linked) = refl
idle_is ranked leaves h (Entry dir name linked) = refl
idle_is ranked leaves h (Truncation ino size) = refl
idle_is ranked leaves h (Unknown key linked) = refl

module _ (node : JournalNode) (leaves : List RecoveredLeaf) (old : LeavesByRank) (h : AreByRank old leaves) where
  -- what a node makes, by its two tests
  abbrev made : Bool → Bool → List RecoveredLeaf
  made idle sets = cond idle leaves (cond sets (put_leaf_told node.content (leaf_at_node node) leaves) (without_ended node.content leaves))

  made_is : (idle sets : Bool) → is_idle_ranked old node.content ≡ idle → becomes_leaf node.content ≡ sets → made idle sets ≡ kept_after_told leaves node
  made_is idle sets e f = ap (λ (t : Bool). made t sets) (sym (idle_is old leaves h node.content ∙ e)) ∙ ap (λ (t : Bool). made (is_idle_told leaves node.content) t) (sym f)

  pub idle_step : is_idle_ranked old node.content ≡ true → AreByRank old (kept_after_told leaves node)
  idle_step e = subst (AreByRank old) (made_is true (becomes_leaf node.content) e refl) h

  pub put_step : (new : LeavesByRank) → IsTrue (fits_key node.content) → is_idle_ranked old node.content ≡ false → becomes_leaf node.content ≡ true
      → ((r : ℕ) → leaves_at_rank new r ≡ cond (is_at (nat_cmp (leaf_rank (leaf_at_node node).leaf)) r) (put_leaf_told node.content (leaf_at_node node) (leaves_at_rank old r)) (leaves_at_rank old r))
      → AreByRank new (kept_after_told leaves node)
  put_step new fits e f step =
      let own : HasKeyShown (leaf_at_node node) = (becomes_shown node.content f, fits) in
      let ends = leaf_ended_there node.content f in
      subst (AreByRank new) (made_is false true e f) (record {
        ordered = put_in_order node.content (leaf_at_node node) own ends 0 leaves (omega arith) h.ordered;
        at = λ r.
            step r
            ∙ ap (λ (z : List RecoveredLeaf). cond (is_at (nat_cmp (leaf_rank (leaf_at_node node).leaf)) r) (put_leaf_told node.content (leaf_at_node node) z) z) (h.at r)
            ∙ put_at node.content (leaf_at_node node) own ends r 0 leaves h.ordered;
      })

  pub drop_step : (new : LeavesByRank) → is_idle_ranked old node.content ≡ false → becomes_leaf node.content ≡ false
      → ((r : ℕ) → leaves_at_rank new r ≡ cond (is_between (first_ended node.content) (past_ended node.content) r) (without_ended node.content (leaves_at_rank old r)) (leaves_at_rank old r))
      → AreByRank new (kept_after_told leaves node)
  drop_step new e f step =
      let ends = leaf_ended_within node.content f in
      subst (AreByRank new) (made_is false false e f) (record {
        ordered = order_left (λ x. not (ends_told node.content x.content)) 0 leaves h.ordered;
        at = λ r.
            step r
            ∙ ap (λ (z : List RecoveredLeaf). cond (is_between (first_ended node.content) (past_ended node.content) r) (without_ended node.content z) z) (h.at r)
            ∙ dropped_at node.content (first_ended node.content) (past_ended node.content) ends r 0 leaves h.ordered;
      })

-- ---- one node after another
-- what the leaves are after the nodes so far
abbrev pub StillByRank : LeavesByRank → List JournalNode → List RecoveredLeaf → Type 0
StillByRank ranked left end = (now : List RecoveredLeaf) × DoFitKeys left × AreByRank ranked now × (fold kept_after_told now left ≡ end)

pub still_next : (old new : LeavesByRank) (left rest : List JournalNode) (node : JournalNode) (end : List RecoveredLeaf) → left ≡ node ∷ rest
    → ((leaves : List RecoveredLeaf) → IsTrue (fits_key node.content) → AreByRank old leaves → AreByRank new (kept_after_told leaves node)) → StillByRank old left end → StillByRank new rest end
still_next old new left rest node end is step still =
    let P : List JournalNode → Type 0 = λ z. StillByRank old z end in
    let here : StillByRank old (node ∷ rest) end = subst P is still in
    (kept_after_told here.0 node, here.1.1, step here.0 here.1.0 here.2, here.3)

pub still_end : (ranked : LeavesByRank) (left : List JournalNode) (end : List RecoveredLeaf) → length left ≡ 0 → StillByRank ranked left end → AreByRank ranked end
still_end ranked [] end e still = subst (AreByRank ranked) still.3 still.2
still_end ranked (x ∷ left) end e still = absurd (omega (arith, e))
