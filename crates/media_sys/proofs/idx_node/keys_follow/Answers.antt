use Rattle.std.proofs.Common.{◌≡◌, ℕ, suc, ◌+◌, ◌-◌, ◌*◌, ◌&&◌, true, false, List, drop, Option, Some, None, is_some, refl, sym, ap, ◌∙◌, arith}
use Rattle.ubifs_base.specs.Key.{key_of}
use Rattle.ubifs_base.specs.declared.key.Key.{Key}
use Rattle.media_sys.specs.Index.{may_follow, key_at, keys_follow}
use Rattle.media_sys.proofs.idx_node.keys_follow.Goals as goal

-- one key, and those behind it
step : (n m : ℕ) (before : Option Key) (p q : ℕ) (body : List ℕ) → n ≡ suc m → p + 20 ≡ q
    → keys_follow n before p body ≡ (is_some (key_of (drop p body)) && (may_follow before (key_at p body) && keys_follow m (Some (key_at p body)) q body))
unfolding keys_follow
step n m before p q body more next =
    ap (λ k. keys_follow k before p body) more
    ∙ ap (λ r. is_some (key_of (drop p body)) && (may_follow before (key_at p body) && keys_follow m (Some (key_at p body)) r body)) next

none : (before : Option Key) (n m p q : ℕ) (body : List ℕ) → n ≡ suc m → p + 20 ≡ q → key_of (drop p body) ≡ None → keys_follow n before p body ≡ false
none before n m p q body more next e = step n m before p q body more next ∙ rw e refl

wrong : (before : Option Key) (key : Key) (n m p q : ℕ) (body : List ℕ) → n ≡ suc m → p + 20 ≡ q → key_of (drop p body) ≡ Some key → may_follow before key ≡ false → keys_follow n before p body ≡ false
wrong before key n m p q body more next e h = step n m before p q body more next ∙ rw (e, h) refl

right : (before : Option Key) (key : Key) (n m p q : ℕ) (body : List ℕ) → n ≡ suc m → p + 20 ≡ q → key_of (drop p body) ≡ Some key → may_follow before key ≡ true
    → keys_follow n before p body ≡ keys_follow m (Some key) q body
right before key n m p q body more next e h = step n m before p q body more next ∙ rw (e, h) refl

ends : (n : ℕ) (before : Option Key) (p : ℕ) (body : List ℕ) → n ≡ 0 → keys_follow n before p body ≡ true
unfolding keys_follow
ends n before p body e = rw e refl

pub returns-in_default : goal.returns-in_default
returns-in_default c =
    let i = c.loop-i.i in
    let more : c.args.count - i ≡ suc (c.args.count - (i + 1)) = omega arith in
    let next : 16 + 20 * i + 20 ≡ 16 + 20 * (i + 1) = omega arith in
    sym (c.loop-i.invariant.rest ∙ none c.loop-i.before (c.args.count - i) (c.args.count - (i + 1)) (16 + 20 * i) (16 + 20 * (i + 1)) c.args.body.now more next (sym c.key_at.ensures.exact ∙ c.in_default.is))

pub returns-then-not-may_follow : goal.returns-then-not-may_follow
returns-then-not-may_follow c =
    let i = c.loop-i.i in
    let more : c.args.count - i ≡ suc (c.args.count - (i + 1)) = omega arith in
    let next : 16 + 20 * i + 20 ≡ 16 + 20 * (i + 1) = omega arith in
    sym (c.loop-i.invariant.rest ∙ wrong c.loop-i.before c.in-Some.key (c.args.count - i) (c.args.count - (i + 1)) (16 + 20 * i) (16 + 20 * (i + 1)) c.args.body.now more next
    (sym c.key_at.ensures.exact ∙ c.in-Some.is) (sym c.may_follow.ensures ∙ c.if-not-may_follow.true))

pub loop-i-preserved : goal.loop-i-preserved
loop-i-preserved c =
    let i = c.loop-i.i in
    let more : c.args.count - i ≡ suc (c.args.count - (i + 1)) = omega arith in
    let next : 16 + 20 * i + 20 ≡ 16 + 20 * (i + 1) = omega arith in
    record {
      rest = c.loop-i.invariant.rest ∙ right c.loop-i.before c.in-Some.key (c.args.count - i) (c.args.count - (i + 1)) (16 + 20 * i) (16 + 20 * (i + 1)) c.args.body.now more next
          (sym c.key_at.ensures.exact ∙ c.in-Some.is) (sym c.may_follow.ensures ∙ c.if-not-may_follow.false);
      fits = c.in-Some.ensures.fits;
    }

pub returns : goal.returns
returns c =
    let i = c.loop-i.i in
    let none : c.args.count - i ≡ 0 = omega arith in
    sym (c.loop-i.invariant.rest ∙ ends (c.args.count - i) c.loop-i.before (16 + 20 * i) c.args.body.now none)
