use Rattle.std.proofs.Common.{◌≡◌, ℕ, suc, ◌+◌, ◌-◌, ◌*◌, ◌^◌, nat_lt, true, false, List, drop, refl, sym, ◌∙◌, arith}
use Rattle.std.proofs.lemmas.Bool.{le-ltb, lt-ltb}
use Rattle.byteorder.specs.Endian.{little_number}
use Rattle.media_sys.specs.Orphans.{inos_fit}
use Rattle.media_sys.proofs.OrphanLemmas.{fit-step}
use Rattle.media_sys.proofs.orph_node.inos_fit.Goals as goal

wrong : (n m p q : ℕ) (body : List ℕ) → n ≡ suc m → p + 8 ≡ q → nat_lt (little_number 8 (drop p body)) (2 ^ 32) ≡ false → inos_fit n p body ≡ false
wrong n m p q body more next h = fit-step n m p q body more next ∙ rw h refl

right : (n m p q : ℕ) (body : List ℕ) → n ≡ suc m → p + 8 ≡ q → nat_lt (little_number 8 (drop p body)) (2 ^ 32) ≡ true → inos_fit n p body ≡ inos_fit m q body
right n m p q body more next h = fit-step n m p q body more next ∙ rw h refl

ends : (n p : ℕ) (body : List ℕ) → n ≡ 0 → inos_fit n p body ≡ true
unfolding inos_fit
ends n p body e = rw e refl

pub returns-then-u64_at : goal.returns-then-u64_at
returns-then-u64_at c =
    let i = c.loop-i.i in
    let body = c.args.body.now in
    let more : c.args.count - i ≡ suc (c.args.count - (i + 1)) = omega arith in
    let next : 8 + 8 * i + 8 ≡ 8 + 8 * (i + 1) = omega arith in
    let is : c.u64_at.result ≡ little_number 8 (drop (8 + 8 * i) body) = c.u64_at.ensures in
    let large : nat_lt (little_number 8 (drop (8 + 8 * i) body)) (2 ^ 32) ≡ false = le-ltb (little_number 8 (drop (8 + 8 * i) body)) (2 ^ 32) (omega (arith, is)) in
    sym (c.loop-i.invariant ∙ wrong (c.args.count - i) (c.args.count - (i + 1)) (8 + 8 * i) (8 + 8 * (i + 1)) body more next large)

pub loop-i-preserved : goal.loop-i-preserved
loop-i-preserved c =
    let i = c.loop-i.i in
    let body = c.args.body.now in
    let more : c.args.count - i ≡ suc (c.args.count - (i + 1)) = omega arith in
    let next : 8 + 8 * i + 8 ≡ 8 + 8 * (i + 1) = omega arith in
    let is : c.u64_at.result ≡ little_number 8 (drop (8 + 8 * i) body) = c.u64_at.ensures in
    let small : nat_lt (little_number 8 (drop (8 + 8 * i) body)) (2 ^ 32) ≡ true = lt-ltb (little_number 8 (drop (8 + 8 * i) body)) (2 ^ 32) (omega (arith, is)) in
    c.loop-i.invariant ∙ right (c.args.count - i) (c.args.count - (i + 1)) (8 + 8 * i) (8 + 8 * (i + 1)) body more next small

pub returns : goal.returns
returns c =
    let i = c.loop-i.i in
    let none : c.args.count - i ≡ 0 = omega arith in
    sym (c.loop-i.invariant ∙ ends (c.args.count - i) (8 + 8 * i) c.args.body.now none)
