use Rattle.std.proofs.Common.{◌+◌, refl, sym, ◌∙◌}
use Rattle.std.proofs.lemmas.Bool.{false≢true}
use Rattle.ubifs_base.specs.RawOf.{raw_of}
use Rattle.script_text.specs.Reply.{reply_line}
use Rattle.script_run.specs.Sessions.{mounted_over}
use Rattle.script_run.proofs.Running.{replied_in}
use Rattle.script_run.proofs.session.serve.Goals as goal

pub returns-clause-part : goal.returns-clause-part
returns-clause-part c =
    let session = c.args.session.now in
    let reply = c.in_ok-reply.reply in
    let was = mounted_over session.fs.backing session.fs.kept session.now in
    let here = mounted_over c.replied.new.fs.backing c.replied.new.fs.kept session.now in (
      reply_line c.args.caller (session.number + 1) reply,
      record {
        reply = reply;
        replied = replied_in (raw_of session.fs.backing.geo) was here session.mounted session.mounted session.number (session.number + 1) session.workers session.workers c.args.caller c.args.op reply c.in_ok-reply.ensures.replied;
        printed = refl;
        rest = refl;
      },
      c.in_ok-write_reply.ensures.ok,
    )

pub returns-clause-session : goal.returns-clause-session
returns-clause-session c = record { geometry = c.requires.session.geometry; steady = c.in_ok-reply.ensures.steady; bare = λ none. absurd (false≢true (sym none ∙ c.requires.mounted)) }
