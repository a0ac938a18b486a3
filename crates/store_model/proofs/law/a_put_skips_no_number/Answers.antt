use Rattle.store_model.proofs.PutProper.{put_numbered}
use Rattle.store_model.proofs.law.a_put_skips_no_number.Goals as goal

pub returns : goal.returns
returns c = λ m p can. put_numbered m p can.parts
