use Rattle.std.proofs.Common.{◌≡◌, ◌-◌, length, ◌∙◌, arith}
use Rattle.node_fields.specs.PlaceLaws.{drop_front}
use Rattle.media_sys.proofs.FieldLemmas.{spelling-zeros}
use Rattle.media_sys.proofs.zeros.put_zeros.Goals as goal

pub returns : goal.returns
returns c =
    let back = c.split_at_mut.ensures.back_len in
    let long : length c.split_at_mut.result.1.now ≡ length c.args.body.now - c.args.at = omega (arith, back) in
    drop_front c.args.at c.split_at_mut.result.0.now c.set_all_to_zero.new.bytes c.split_at_mut.ensures.front_len ∙ c.set_all_to_zero.ensures
    ∙ spelling-zeros (length c.split_at_mut.result.1.now) (length c.args.body.now - c.args.at) long
