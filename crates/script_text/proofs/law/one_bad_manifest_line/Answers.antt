use Rattle.script_text.proofs.ManifestLaws.{manifest_bad_once}
use Rattle.script_text.proofs.law.one_bad_manifest_line.Goals as goal

pub returns : goal.returns
returns c = manifest_bad_once
