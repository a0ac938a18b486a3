use Rattle.std.proofs.Common.{◌≡◌, ℕ, List, ◌++◌, ◌+◌, ◌∷◌, [], length, drop, ap, ◌∙◌, arith}
use Rattle.std.proofs.lemmas.List.{drop_all}
use Rattle.node_fields.proofs.fields.put_name.Goals as goal

-- nothing stands behind the zero byte
pub returns : goal.returns
returns c =
    let name = c.args.name.now in
    let end = c.args.at + length name in
    let none : drop (end + 1) c.args.body.now ≡ [] = drop_all (end + 1) c.args.body.now (omega arith) in
    c.put_bytes.ensures ∙ ap (λ (b : List ℕ). name ++ b) (c.put_u8.ensures.place ∙ ap (λ (b : List ℕ). 0 ∷ b) none)
