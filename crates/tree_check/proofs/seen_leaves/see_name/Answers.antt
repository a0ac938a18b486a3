use Rattle.std.proofs.Common.{◌≡◌, ℕ, List, subst}
use Rattle.std.specs.Prelude.{◌||◌, is_some}
use Rattle.std.specs.BTreeMap.{get, is_at}
use Rattle.fs_model.specs.Files.{name_cmp}
use Rattle.tree_check.proofs.SeenMore.{name_noted}
use Rattle.tree_check.proofs.seen_leaves.see_name.Goals as goal

pub returns-clause-was : goal.returns-clause-was
returns-clause-was c =
    let P : ℕ × List ℕ → Type 0 = λ key. c.in_ok-was.was' ≡ is_some (get name_cmp c.args.seen.now.names key) in
    subst P c.in_ok-key.ensures c.in_ok-was.ensures.was

pub returns-clause-noted : goal.returns-clause-noted
returns-clause-noted c =
    let P : ℕ × List ℕ → Type 0 = λ key. (q : ℕ × List ℕ) → is_some (get name_cmp c.note.new.set q) ≡ (is_some (get name_cmp c.args.seen.now.names q) || is_at (name_cmp key) q) in
    name_noted c.args.seen.now c.args.dir c.args.name.now c.note.new.set (subst P c.in_ok-key.ensures c.in_ok-was.ensures.noted)
