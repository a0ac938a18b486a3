use Rattle.std.proofs.Common.{[], ◌∷◌, arith}
use Rattle.script_text.specs.Words.{Mode, Number, Path}
use Rattle.script_text.proofs.Made.{file_none, one_length}
use Rattle.script_text.proofs.Sentences.{split, uncut}
use Rattle.script_text.proofs.manifest_line.file_line.Goals as goal

pub returns-in_default-clause-none : goal.returns-in_default-clause-none
returns-in_default-clause-none c = file_none c.args.words.now (λ path mode len byte h few.
    uncut (Path path) (Mode mode) (Number 32 len ∷ Number 8 byte ∷ []) c.args.words.now c.in_default.ensures.none h)

pub returns-in_default-2-clause-none : goal.returns-in_default-2-clause-none
returns-in_default-2-clause-none c = file_none c.args.words.now (λ path mode len byte h few.
    let s = split (Path path) (Mode mode) (Number 32 len ∷ Number 8 byte ∷ []) c.args.words.now c.in-Some.first.now c.in-Some.rest.now tt c.in-Some.ensures.first c.in-Some.ensures.found h in
    let none = rw c.in_default-2.is at c.in_ok-path.ensures.none in none path s.0)

pub returns-in_default-mode_and_bytes-clause-none : goal.returns-in_default-mode_and_bytes-clause-none
returns-in_default-mode_and_bytes-clause-none c = file_none c.args.words.now (λ path mode len byte h few.
    let s = split (Path path) (Mode mode) (Number 32 len ∷ Number 8 byte ∷ []) c.args.words.now c.in-Some.first.now c.in-Some.rest.now tt c.in-Some.ensures.first c.in-Some.ensures.found h in
    let none = c.in_default-mode_and_bytes.ensures.none in none mode len byte s.1)

pub returns-then-len-gt-FILE_BYTES-clause-none : goal.returns-then-len-gt-FILE_BYTES-clause-none
returns-then-len-gt-FILE_BYTES-clause-none c = file_none c.args.words.now (λ path mode len byte h few.
    let s = split (Path path) (Mode mode) (Number 32 len ∷ Number 8 byte ∷ []) c.args.words.now c.in-Some.first.now c.in-Some.rest.now tt c.in-Some.ensures.first c.in-Some.ensures.found h in
    let same = one_length c.in-Some.rest.now mode len byte c.in-Some-mode_and_bytes.mode c.in-Some-mode_and_bytes.len c.in-Some-mode_and_bytes.byte s.1 c.in-Some-mode_and_bytes.ensures.found in
    omega (arith, same, few))
