use Rattle.std.proofs.Common.{◌≡◌, []}
use Rattle.std.specs.Prelude.{fold}
use Rattle.std.specs.BTreeMap.{insert_entry}
use Rattle.ubifs_base.specs.R5.{r5_of}
use Rattle.fs_model.specs.Files.{name_cmp}
use Rattle.op_groups.proofs.rows.sorted.Given as goal

abbrev pub invariant-loop-entry : goal.invariant-loop-entry
invariant-loop-entry l = l.sorted.entries ≡ fold (λ sorted e. insert_entry name_cmp sorted (r5_of e.name, e.name) e) [] l.yielded
