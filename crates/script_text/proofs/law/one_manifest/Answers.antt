use Rattle.script_text.proofs.ManifestLaws.{manifest_once}
use Rattle.script_text.proofs.law.one_manifest.Goals as goal

pub returns : goal.returns
returns c = manifest_once
