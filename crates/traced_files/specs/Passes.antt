-- A pass's fields, as contracts see them.
use Rattle.std.specs.Prelude.{◌≡◌}
use Rattle.trace_word.specs.Knowledge.{lines_of}
use Rattle.traced_files.specs.declared.pass.Pass.TheInside.{Inside}
use Rattle.traced_files.specs.States.{TracedPassState}

abbrev pub traced_pass_state : Inside → TracedPassState
traced_pass_state p = record { word = p.ticket.word; pool = p.stock.pool; caller = p.caller; made = p.made; last = p.last; seen = p.ticket.known.seen }

-- The ticket is the caller's, and has claimed the calls that were made. These are the caller's lines in what was seen. The stock is the caller's, and holds nothing.
pub record IsPassInside (p : Inside) : Type 0 where
  pub caller : p.ticket.caller ≡ p.caller
  pub claimed : p.ticket.claim ≡ p.made
  pub lines : lines_of p.caller p.ticket.known.seen ≡ p.made
  pub stock : (p.stock.caller ≡ p.caller) × (p.stock.held ≡ 0)
