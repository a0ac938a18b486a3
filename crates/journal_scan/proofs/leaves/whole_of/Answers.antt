use Rattle.std.proofs.Common.{◌≡◌, List, map, take, ap, sym, ◌∙◌, subst, inl, inr}
use Rattle.std.proofs.lemmas.List.{take-map}
use Rattle.ubifs_base.specs.declared.journal_head.JournalHead.{JournalHead}
use Rattle.leaf_map.specs.Kept.{Placed}
use Rattle.journal_scan.specs.Content.{told}
use Rattle.journal_scan.specs.Journal.{nodes_taken_of, whole_groups}
use Rattle.journal_scan.proofs.leaves.whole_of.Goals as goal

pub returns-in-Base : goal.returns-in-Base
returns-in-Base c =
    let P : JournalHead → Type 0 = λ head. (nodes : List Placed) → c.args.leaves.nodes.items ≡ map told nodes → whole_groups nodes ≡ take c.args.leaves.whole nodes → c.truncate.new.self.items ≡ map told (nodes_taken_of head nodes) in
    let whole : (nodes : List Placed) → c.args.leaves.nodes.items ≡ map told nodes → whole_groups nodes ≡ take c.args.leaves.whole nodes → c.truncate.new.self.items ≡ map told (whole_groups nodes) =
    λ nodes e w. c.truncate.ensures.items ∙ ap (take c.args.leaves.whole) e ∙ take-map told c.args.leaves.whole nodes ∙ ap (map told) (sym w) in
    elim c.in-Base.is [ inl base ↦ subst P (sym base) whole | inr other ↦ subst P (sym other) whole ]
