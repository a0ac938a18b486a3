-- Lines of operations of which each has one.
use Rattle.std.proofs.Common.{◌≡◌, inl, inr, ℕ, ◌+◌, ◌≤◌, List, [], ◌∷◌, length, map, All, refl, sym, ap, subst, ◌∙◌, arith}
use Rattle.std.proofs.lemmas.List.Elements.{All-cons, All-nil}
use Rattle.fs_model.specs.declared.op.Op.{Op}
use Rattle.fs_model.specs.declared.trace.TraceLine.{TraceLine}
use Rattle.writeback.specs.Runs.{AreCalls}

-- there are no more lines than operations
few_calls : (caller now made : ℕ) (ops : List Op) (lines : List TraceLine) → AreCalls caller now made ops lines → length lines ≤ length ops
few_calls caller now made [] lines is = omega (arith, ap length is)
few_calls caller now made (op ∷ ops) lines (inl more) = let few = few_calls caller now made ops lines more in omega (arith, few)
few_calls caller now made (op ∷ ops) lines (inr (reply, rest, is, more)) = let few = few_calls caller now (made + 1) ops rest more in omega (arith, few, ap length is)

abbrev pub op_in : TraceLine → Op
op_in line = line.op

abbrev pub IsAt : ℕ → TraceLine → Type 0
IsAt now line = line.now ≡ now

-- if there are as many, each operation has its line, in order
pub all_called : (caller now made : ℕ) (ops : List Op) (lines : List TraceLine) → AreCalls caller now made ops lines → length lines ≡ length ops → (map op_in lines ≡ ops) × All (IsAt now) lines
all_called caller now made [] lines is many = (ap (map op_in) is, subst (All (IsAt now)) (sym is) (All-nil (IsAt now)))
all_called caller now made (op ∷ ops) lines (inl more) many = let few = few_calls caller now made ops lines more in absurd (omega (arith, few, many))
all_called caller now made (op ∷ ops) lines (inr (reply, rest, is, more)) many =
    let others = all_called caller now (made + 1) ops rest more (omega (arith, many, ap length is)) in
    let first : TraceLine = record { caller = caller; number = made + 1; now = now; op = op; reply = reply } in (
      ap (map op_in) is ∙ ap (λ (o : List Op). op ∷ o) others.0,
      subst (All (IsAt now)) (sym is) (All-cons (IsAt now) first rest refl others.1),
    )
