-- A page that is written whole isn't read.
use Rattle.std.proofs.Common.{◌≡◌, ℕ, ◌+◌, ◌-◌, ◌*◌, ◌≤◌, List, ◌++◌, length, min, sym, ap, ◌∙◌, arith, append-nil}
use Rattle.std.specs.Prelude.{replicate}
use Rattle.std.proofs.lemmas.List.{drop_all}
use Rattle.fs_model.specs.Files.{Blocks, block_at, overlaid, page_written}

-- a page that is written whole is the same whatever it was
overlaid_whole : (old : List ℕ) (from to byte : ℕ) → from ≡ 0 → length old ≤ to → replicate (to - from) byte ≡ overlaid old from to byte
overlaid_whole old from to byte none short = rw none (sym (append-nil (replicate (to - 0) byte)) ∙ ap (λ (xs : List ℕ). replicate (to - 0) byte ++ xs) (sym (drop_all to old short)))

pub whole_written : (blocks : Blocks) (ino place n byte page from to : ℕ) (new : List ℕ) → length (block_at blocks ino page) ≤ 4096 → from ≡ place - 4096 * page → to ≡ min (place + n - 4096 * page) 4096 → to - from ≡ 4096
    → new ≡ replicate (to - from) byte → new ≡ page_written blocks ino place n byte page
whole_written blocks ino place n byte page from to new short first last whole is =
    let none : from ≡ 0 = omega (arith, last, whole) in
    let all : to ≡ 4096 = omega (arith, last, whole) in
    let old = block_at blocks ino page in
    is ∙ overlaid_whole old from to byte none (omega (arith, all, short)) ∙ ap (λ k. overlaid old k to byte) first ∙ ap (λ k. overlaid old (place - 4096 * page) k byte) last
