use Rattle.std.proofs.Common.{◌≡◌, ◌++◌, List, ℕ, length}
use Rattle.std.specs.Prelude.{false}
use Rattle.script_text.specs.Script.{Leads, AreLinesOf}
use Rattle.script_text.proofs.script.read_script.Given as goal

abbrev pub invariant-loop-before : goal.invariant-loop-before
invariant-loop-before l = record {
  text : (good : List ℕ) × AreLinesOf l.parts.items good × (l.bytes ≡ good ++ l.rest);
  order : Leads false l.parts.items l.mounted;
  count : length l.parts.items ≡ l.before;
}
