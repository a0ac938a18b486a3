use Rattle.std.proofs.Common.{not, ap, ◌∙◌}
use Rattle.std.specs.Prelude.{is_some}
use Rattle.std.specs.BTreeMap.{get}
use Rattle.std.specs.List.{list_any}
use Rattle.std.specs.Ordering.{nat_cmp}
use Rattle.std.proofs.lemmas.List.Elements.{filter_agree}
use Rattle.log_replay.specs.Spared.{is_spared_by_map}
use Rattle.log_replay.proofs.spared.unspared.Goals as goal

pub returns : goal.returns
returns c =
    c.in_ok-left.ensures
    ∙ filter_agree (λ ino. not (is_some (get nat_cmp c.in_ok-spared.spared ino))) (λ ino. not (list_any (is_spared_by_map c.args.named.now ino) c.args.leaves.now)) (λ ino. ap not (c.in_ok-spared.ensures ino)) c.args.listed.now
