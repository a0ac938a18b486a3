use Rattle.std.proofs.Common.{◌++◌, ℕ, List, ap, refl, ◌∙◌}
use Rattle.script_text.specs.Reply.{reply_line}
use Rattle.script_run.specs.Reading.{Reading, number_after}
use Rattle.script_run.specs.Readers.{seen_over}
use Rattle.script_run.proofs.reader.read_served.Goals as goal

pub returns-clause-closed : goal.returns-clause-closed
returns-clause-closed c = c.in_ok-reply.ensures.closed

pub returns-clause-part : goal.returns-clause-part
returns-clause-part c =
    let reader = c.args.reader.now in
    let fs = c.read_replied.new.fs in
    let reply = c.in_ok-reply.reply in (
      reply_line c.args.caller (number_after reader.numbers c.args.caller) reply,
      record {
        reply = reply;
        replied = c.in_ok-reply.ensures.replied reader.mounted reader.numbers;
        printed = refl;
        rest = ap (λ (ns : List ℕ). let r : Reading = record { files = seen_over fs.backing fs.kept; mounted = reader.mounted; now = reader.now; numbers = ns } in r) c.in_ok-number.ensures.numbers;
      },
      c.in_ok-write_reply.ensures.ok ∙ ap (λ (n : ℕ). c.args.text.now.items ++ reply_line c.args.caller n reply) c.in_ok-number.ensures.number,
    )
