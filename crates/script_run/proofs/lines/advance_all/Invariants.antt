use Rattle.script_run.specs.Sessions.{state_in}
use Rattle.script_run.proofs.PlayedLines.{Playing, place_of}
use Rattle.script_run.proofs.lines.advance_all.Given as goal

-- a run of the lines that are left, from here on, is one of all lines
abbrev pub invariant-loop-part : goal.invariant-loop-part
invariant-loop-part g l =
    Playing (state_in l.fn.gathered.session).geometry (place_of l.fn.gathered.session l.fn.gathered.lines.items) l.fn.parts.items l.fn.text.items l.gathered.session l.gathered.lines.items l.part-iterator.rest.items l.text.items
