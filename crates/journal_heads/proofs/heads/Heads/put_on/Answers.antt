use Rattle.std.proofs.Common.{ℕ, List, length}
use Rattle.journal_heads.specs.Heads.{IsOn, PutUnderWay, buffer_of}
use Rattle.write_buffer.specs.Buffer.{lnum_of}
use Rattle.journal_heads.proofs.OpenHeads.{adds_on, on_number, open_after}
use Rattle.journal_heads.proofs.heads.Heads.put_on.Goals as goal

pub append_on-requires-clause-open_there : goal.append_on-requires-clause-open_there
append_on-requires-clause-open_there g c =
    let x = c.args.self.now in
    c.requires.open_there.each c.args.head (lnum_of (buffer_of x c.args.head)) (on_number (buffer_of x c.args.head).leb c.requires.fits.attached)

pub returns-in_err-append_on-in-Some-clause-adds : goal.returns-in_err-append_on-in-Some-clause-adds
returns-in_err-append_on-in-Some-clause-adds g c =
    let x = c.args.self.now in
    let on : IsOn x c.args.head (lnum_of (buffer_of x c.args.head)) = on_number (buffer_of x c.args.head).leb c.requires.fits.attached in
    adds_on (g.V.Volume.state c.args.volume.now) (g.V.Volume.state c.append_on.new.volume) x c.append_on.new.self c.args.head (lnum_of (buffer_of x c.args.head)) c.args.nodes.now on
    c.append_on.ensures.stands c.append_on.ensures.buffers c.append_on.ensures.size c.append_on.ensures.shape

pub returns-in_ok-append_on-in-Some-clause-adds : goal.returns-in_ok-append_on-in-Some-clause-adds
returns-in_ok-append_on-in-Some-clause-adds g c =
    let x = c.args.self.now in
    let on : IsOn x c.args.head (lnum_of (buffer_of x c.args.head)) = on_number (buffer_of x c.args.head).leb c.requires.fits.attached in
    adds_on (g.V.Volume.state c.args.volume.now) (g.V.Volume.state c.append_on.new.volume) x c.append_on.new.self c.args.head (lnum_of (buffer_of x c.args.head)) c.args.nodes.now on
    c.append_on.ensures.stands c.append_on.ensures.buffers c.append_on.ensures.size c.append_on.ensures.shape

pub returns-in_ok-append_on-in-Some-clause-done : goal.returns-in_ok-append_on-in-Some-clause-done
returns-in_ok-append_on-in-Some-clause-done g c =
    let a = g.V.Volume.state c.args.volume.now in
    let b = g.V.Volume.state c.append_on.new.volume in
    let x = c.args.self.now in
    let y = c.append_on.new.self in
    let head = c.args.head in
    let lnum = lnum_of (buffer_of x head) in
    let on : IsOn x head lnum = on_number (buffer_of x head).leb c.requires.fits.attached in
    let D : List ℕ → Type 0 = PutUnderWay a (buffer_of x head) (length c.args.nodes.now) in
    let done = c.in_ok-append_on-in-Some.ensures.done in
    record {
      appended = done;
      open_after = open_after a b x y head lnum D c.requires.open_there on c.append_on.ensures.works c.append_on.ensures.shape c.append_on.ensures.buffers c.append_on.ensures.size done.open_after;
    }
