use Rattle.std.proofs.Common.{ap, length, take, ◌∙◌, arith}
use Rattle.std.proofs.lemmas.List.{take_all}
use Rattle.buffered_files.proofs.Taking.{not_filled}
use Rattle.buffered_files.proofs.put.taken_page.Goals as goal

pub returns-in-Err-clause-err : goal.returns-in-Err-clause-err
returns-in-Err-clause-err c =
    let own = c.in-Some-exchange.bytes in
    let same = c.in-Err.ensures.err ∙ c.into_vec-bytes.ensures in
    let n = c.len-len.ensures in
    not_filled c.args.kept.now c.args.ticket.now c.from_vec.result own c.exchange.new.self c.exchange.result c.in-Some-exchange.is c.exchange.ensures.bytes c.exchange.ensures.pages
    (take c.len-len.result c.fill.new.bytes.items)
    (ap (take c.len-len.result) same ∙ take_all c.len-len.result own (omega (arith, n, ap length c.into_vec-bytes.ensures))) c.give_back.new.kept c.give_back.ensures
