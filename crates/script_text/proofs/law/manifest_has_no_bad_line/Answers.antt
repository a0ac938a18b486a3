use Rattle.script_text.proofs.ManifestLaws.{manifest_no_bad}
use Rattle.script_text.proofs.law.manifest_has_no_bad_line.Goals as goal

pub returns : goal.returns
returns c = manifest_no_bad
