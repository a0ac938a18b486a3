use Rattle.std.proofs.Common.{◌≡◌, ℕ, suc, ◌+◌, ◌-◌, ◌*◌, List, [], ◌∷◌, ◌++◌, refl, sym, ap, ◌∙◌, arith, append_assoc, append-nil}
use Rattle.media_sys.specs.declared.branch.Branch.{Branch}
use Rattle.media_sys.specs.Index.{branch_at, branches_at}
use Rattle.media_sys.proofs.idx_node.branches_at.Goals as goal

-- one branch, and those behind it
step : (n m p q : ℕ) (body : List ℕ) → n ≡ suc m → p + 20 ≡ q → branches_at n p body ≡ branch_at p body ∷ branches_at m q body
unfolding branches_at
step n m p q body more next = ap (λ k. branches_at k p body) more ∙ ap (λ r. branch_at p body ∷ branches_at m r body) next

ends : (n p : ℕ) (body : List ℕ) → n ≡ 0 → branches_at n p body ≡ []
unfolding branches_at
ends n p body e = rw e refl

pub loop-i-preserved : goal.loop-i-preserved
loop-i-preserved c =
    let i = c.loop-i.i in
    let body = c.args.body.now in
    let done = c.loop-i.branches.items in
    let rest = branches_at (c.args.count - (i + 1)) (4 + 20 * (i + 1)) body in
    let more : c.args.count - i ≡ suc (c.args.count - (i + 1)) = omega arith in
    let next : 4 + 20 * i + 20 ≡ 4 + 20 * (i + 1) = omega arith in
    ap (λ (b : List Branch). b ++ rest) c.in_ok-push.ensures.items ∙ append_assoc done (c.branch_at.result ∷ []) rest
    ∙ ap (λ (x : Branch). done ++ (x ∷ rest)) c.branch_at.ensures
    ∙ ap (λ (b : List Branch). done ++ b) (sym (step (c.args.count - i) (c.args.count - (i + 1)) (4 + 20 * i) (4 + 20 * (i + 1)) body more next)) ∙ c.loop-i.invariant

pub returns : goal.returns
returns c =
    let i = c.loop-i.i in
    let done = c.loop-i.branches.items in
    let none : c.args.count - i ≡ 0 = omega arith in
    sym (append-nil done) ∙ ap (λ (b : List Branch). done ++ b) (sym (ends (c.args.count - i) (4 + 20 * i) c.args.body.now none)) ∙ c.loop-i.invariant
