use Rattle.std.proofs.Common.{◌≡◌, ◌∙◌, ℕ, cond, sym, subst}
use Rattle.std.specs.BTreeMap.{is_at}
use Rattle.std.specs.Ordering.{nat_cmp}
use Rattle.index_tree.specs.Order.{leaf_rank}
use Rattle.leaf_recovery.specs.declared.recovered_leaf.RecoveredLeaf.{RecoveredLeaf}
use Rattle.leaf_recovery.specs.Applied.{put_leaf_told, without_ended}
use Rattle.leaf_recovery.specs.Ranked.{is_between, leaves_at_rank, past_ended}
use Rattle.leaf_recovery.proofs.Stepping.{drop_step, idle_step, put_step}
use Rattle.leaf_recovery.proofs.after_nodes.apply_node_ranked.Goals as goal

pub returns-then-is_idle_ranked : goal.returns-then-is_idle_ranked
returns-then-is_idle_ranked c = λ leaves fits h. idle_step c.args.node.now leaves c.args.ranked.now h (sym c.is_idle_ranked.ensures ∙ c.if-is_idle_ranked.true)

pub returns-then-becomes_leaf : goal.returns-then-becomes_leaf
returns-then-becomes_leaf c =
    let content = c.args.node.now.content in
    let new = c.put_ranked.new.ranked in
    let old = c.args.ranked.now in
    let P : RecoveredLeaf → Type 0 = λ x. (r : ℕ) → leaves_at_rank new r ≡ cond (is_at (nat_cmp (leaf_rank x.leaf)) r) (put_leaf_told content x (leaves_at_rank old r)) (leaves_at_rank old r) in
    let step = subst P c.in_ok-new.ensures c.in_ok-put_ranked.ensures in
    λ leaves fits h. put_step c.args.node.now leaves old h new fits (sym c.is_idle_ranked.ensures ∙ c.if-is_idle_ranked.false) (sym c.becomes_leaf.ensures ∙ c.if-becomes_leaf.true) step

pub returns : goal.returns
returns c =
    let content = c.args.node.now.content in
    let new = c.drop_between.new.ranked in
    let old = c.args.ranked.now in
    let P : ℕ → ℕ → Type 0 = λ first past. (r : ℕ) → leaves_at_rank new r ≡ cond (is_between first past r) (without_ended content (leaves_at_rank old r)) (leaves_at_rank old r) in
    let step = subst (P c.first_ended.result) c.past_ended.ensures c.in_ok-drop_between.ensures in
    let told = subst (λ (first : ℕ). P first (past_ended content)) c.first_ended.ensures step in
    λ leaves fits h. drop_step c.args.node.now leaves old h new (sym c.is_idle_ranked.ensures ∙ c.if-is_idle_ranked.false) (sym c.becomes_leaf.ensures ∙ c.if-becomes_leaf.false) told
