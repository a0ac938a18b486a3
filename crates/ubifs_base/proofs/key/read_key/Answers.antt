use Rattle.std.proofs.Common.{◌≡◌, ◌≢◌, ◌∙◌, sym, ap, refl, IfSome, IfNone, Option, Some, None, arith, length}
use Rattle.ubifs_base.specs.Key.{IsKey, key_spelled, key_of}
use Rattle.ubifs_base.specs.KeyLaws.{key_of-some, key_of-spelled}
use Rattle.ubifs_base.specs.declared.key.Key.{Key}
use Rattle.ubifs_base.proofs.key.read_key.Goals as goal

if_some : (o : Option Key) (P : Key → Type 0) → ((k : Key) → o ≡ Some k → P k) → IfSome o P
if_some None P h = tt
if_some (Some k) P h = h k refl

if_none : (o : Option Key) (P : Type 0) → (o ≡ None → P) → IfNone o P
if_none None P h = h refl
if_none (Some k) P h = tt

reads : (c : goal.After-key_from_words) → c.key_from_words.result ≡ key_of c.args.bytes.now
unfolding key_of
reads c = rw (c.key_from_words.ensures, c.read_u32-ino.ensures, c.read_u32-second.ensures, c.split_at.ensures.back) refl

pub returns-clause-found : goal.returns-clause-found
returns-clause-found c =
    let bytes = c.args.bytes.now in
    if_some c.key_from_words.result (λ k. IsKey k × (key_spelled k ≡ bytes))
    (λ k is. let long : length bytes ≡ 8 = omega arith in key_of-some bytes k c.fits-bytes long (sym (reads c) ∙ is))

pub returns-clause-none : goal.returns-clause-none
returns-clause-none c =
    let bytes = c.args.bytes.now in
    if_none c.key_from_words.result ((k : Key) → IsKey k → key_spelled k ≢ bytes)
    (λ is k fits spelled. let known = key_of-spelled k fits in let read = reads c in let same = ap key_of spelled in let none : None ≡ Some k = cc in absurd (cc none))
