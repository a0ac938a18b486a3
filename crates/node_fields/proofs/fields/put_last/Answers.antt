use Rattle.node_fields.specs.PlaceLaws.{drop_front}
use Rattle.std.proofs.Common.{◌∙◌}
use Rattle.node_fields.proofs.fields.put_last.Goals as goal

pub returns : goal.returns
returns c = drop_front c.args.at c.split_at_mut.result.0.now c.copy_from_slice.new.self c.split_at_mut.ensures.front_len ∙ c.copy_from_slice.ensures.after
