use Rattle.std.proofs.Common.{◌≡◌, ℕ, suc, ◌+◌, ◌-◌, ◌*◌, ◌^◌, ◌<◌, nat_lt, true, List, [], ◌∷◌, ◌++◌, drop, refl, sym, ap, ◌∙◌, arith, append_assoc, append-nil}
use Rattle.std.proofs.lemmas.Bool.{ltb-true}
use Rattle.byteorder.specs.Endian.{little_number}
use Rattle.media_sys.specs.Orphans.{inos_fit, inos_at}
use Rattle.media_sys.proofs.OrphanLemmas.{fit-step}
use Rattle.media_sys.proofs.TestLemmas.{each}
use Rattle.media_sys.proofs.orph_node.inos_at.Goals as goal

-- one inode number, and those behind it
step : (n m p q : ℕ) (body : List ℕ) → n ≡ suc m → p + 8 ≡ q → inos_at n p body ≡ little_number 8 (drop p body) ∷ inos_at m q body
unfolding inos_at
step n m p q body more next = ap (λ k. inos_at k p body) more ∙ ap (λ r. little_number 8 (drop p body) ∷ inos_at m r body) next

ends : (n p : ℕ) (body : List ℕ) → n ≡ 0 → inos_at n p body ≡ []
unfolding inos_at
ends n p body e = rw e refl

fit-parts : (n m p q : ℕ) (body : List ℕ) → n ≡ suc m → p + 8 ≡ q → inos_fit n p body ≡ true → (little_number 8 (drop p body) < 2 ^ 32) × (inos_fit m q body ≡ true)
fit-parts n m p q body more next h =
    let ino = little_number 8 (drop p body) in
    let t = each (nat_lt ino (2 ^ 32)) (inos_fit m q body) (sym (fit-step n m p q body more next) ∙ h) in
    (ltb-true ino (2 ^ 32) t.0, t.1)

pub overflow_cast-u64_at : goal.overflow_cast-u64_at
overflow_cast-u64_at c =
    let i = c.loop-i.i in
    let more : c.args.count - i ≡ suc (c.args.count - (i + 1)) = omega arith in
    let next : 8 + 8 * i + 8 ≡ 8 + 8 * (i + 1) = omega arith in
    let below = (fit-parts (c.args.count - i) (c.args.count - (i + 1)) (8 + 8 * i) (8 + 8 * (i + 1)) c.args.body.now more next c.loop-i.invariant.fit).0 in
    omega (arith, below, c.u64_at.ensures)

pub loop-i-preserved : goal.loop-i-preserved
loop-i-preserved c =
    let i = c.loop-i.i in
    let body = c.args.body.now in
    let done = c.loop-i.inos.items in
    let rest = inos_at (c.args.count - (i + 1)) (8 + 8 * (i + 1)) body in
    let more : c.args.count - i ≡ suc (c.args.count - (i + 1)) = omega arith in
    let next : 8 + 8 * i + 8 ≡ 8 + 8 * (i + 1) = omega arith in
    record {
      read = ap (λ (b : List ℕ). b ++ rest) c.in_ok-push.ensures.items ∙ append_assoc done (c.u64_at.result ∷ []) rest
          ∙ ap (λ x. done ++ (x ∷ rest)) c.u64_at.ensures
          ∙ ap (λ (b : List ℕ). done ++ b) (sym (step (c.args.count - i) (c.args.count - (i + 1)) (8 + 8 * i) (8 + 8 * (i + 1)) body more next)) ∙ c.loop-i.invariant.read;
      fit = (fit-parts (c.args.count - i) (c.args.count - (i + 1)) (8 + 8 * i) (8 + 8 * (i + 1)) body more next c.loop-i.invariant.fit).1;
    }

pub returns : goal.returns
returns c =
    let i = c.loop-i.i in
    let done = c.loop-i.inos.items in
    let none : c.args.count - i ≡ 0 = omega arith in
    sym (append-nil done) ∙ ap (λ (b : List ℕ). done ++ b) (sym (ends (c.args.count - i) (8 + 8 * i) c.args.body.now none)) ∙ c.loop-i.invariant.read
