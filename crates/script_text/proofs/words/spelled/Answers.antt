use Rattle.std.proofs.Common.{rules, sym, subst, ◌≡◌, ◌++◌, ◌∷◌, [], List, ℕ}
use Rattle.script_text.specs.Words.{IsWordSpelled}
use Rattle.script_text.proofs.Spelling.{whole_more, only_more, none_more, whole_end, only_end, nothing}
use Rattle.script_text.proofs.words.spelled.Goals as goal

pub returns-in_default-clause-none : goal.returns-in_default-clause-none
returns-in_default-clause-none c =
    let some : c.loop-rest.rest.now ≡ [] → ⊥ = search rules in
    none_more c.args.word.now c.loop-rest.rest.now c.loop-rest.bytes.items some c.in_default.ensures.none c.loop-rest.invariant.only

pub loop-rest-preserved : goal.loop-rest-preserved
loop-rest-preserved c =
    let pushed : c.push.new.self.items ≡ c.loop-rest.bytes.items ++ (c.in-Some.byte ∷ []) = c.in_ok-push.ensures.items in
    let P : List ℕ → Type 0 = λ b. (tail : List ℕ) → IsWordSpelled c.in-Some.more.now tail → IsWordSpelled c.args.word.now (b ++ tail) in
    let Q : List ℕ → Type 0 = λ b. (all : List ℕ) → IsWordSpelled c.args.word.now all → (tail : List ℕ) × IsWordSpelled c.in-Some.more.now tail × (all ≡ b ++ tail) in
    record {
      whole = subst P (sym pushed) (whole_more c.args.word.now c.loop-rest.rest.now c.in-Some.more.now c.loop-rest.bytes.items c.in-Some.byte c.in-Some.ensures.found c.loop-rest.invariant.whole);
      only = subst Q (sym pushed) (only_more c.args.word.now c.loop-rest.rest.now c.in-Some.more.now c.loop-rest.bytes.items c.in-Some.byte c.in-Some.ensures.found c.loop-rest.invariant.only);
    }

pub returns-clause-found : goal.returns-clause-found
returns-clause-found c =
    let P : List ℕ → Type 0 = λ b. IsWordSpelled c.args.word.now b in
    subst P (sym c.from_vec.ensures) (whole_end c.args.word.now c.loop-rest.rest.now c.loop-rest.bytes.items (nothing c.loop-rest.rest.now c.is_empty.result c.is_empty.ensures c.loop-rest-test.false) c.loop-rest.invariant.whole)

pub returns-clause-only : goal.returns-clause-only
returns-clause-only c =
    let P : List ℕ → Type 0 = λ b. (others : List ℕ) → IsWordSpelled c.args.word.now others → b ≡ others in
    subst P (sym c.from_vec.ensures) (only_end c.args.word.now c.loop-rest.rest.now c.loop-rest.bytes.items (nothing c.loop-rest.rest.now c.is_empty.result c.is_empty.ensures c.loop-rest-test.false) c.loop-rest.invariant.only)
