use Rattle.std.proofs.Common.{arith, sym, ◌∙◌, ◌++◌, List, ℕ, ap}
use Rattle.script_text.proofs.Lines.{volume_bytes, behind_number, behind_volume, leb_size_bytes, min_io_bytes, main_bytes, fanout_bytes}
use Rattle.script_text.proofs.manifest.volume.Goals as goal

pub returns-in_err-words-clause-none : goal.returns-in_err-words-clause-none
returns-in_err-words-clause-none c = rw c.from_residual.ensures (λ m rest r e.
    c.in_err-words.ensures.none (leb_size_bytes m rest) (e ∙ volume_bytes m rest ∙ sym (ap (λ (t : List ℕ). t ++ leb_size_bytes m rest) c.as_slice.ensures)))

pub returns-in_err-min_io-clause-none : goal.returns-in_err-min_io-clause-none
returns-in_err-min_io-clause-none c = rw c.from_residual-in_err-min_io.ensures (λ m rest r e.
    let w0 = behind_volume c.args.bytes.now c.as_slice.result.now c.in_ok-words.words.now m rest c.as_slice.ensures c.in_ok-words.ensures.found e in
    let w1 = behind_number 32 c.in_ok-leb_size.leb_size m.leb_size c.in_ok-words.words.now c.in_ok-leb_size.words.now (min_io_bytes m rest) (omega arith) (omega (arith, c.in_ok-leb_size.ensures.within)) (omega arith) c.in_ok-leb_size.ensures.found w0 in
    c.in_err-min_io.ensures.none m.min_io (main_bytes m rest) (omega arith) w1)

pub returns-in_err-main-clause-none : goal.returns-in_err-main-clause-none
returns-in_err-main-clause-none c = rw c.from_residual-in_err-main.ensures (λ m rest r e.
    let w0 = behind_volume c.args.bytes.now c.as_slice.result.now c.in_ok-words.words.now m rest c.as_slice.ensures c.in_ok-words.ensures.found e in
    let w1 = behind_number 32 c.in_ok-leb_size.leb_size m.leb_size c.in_ok-words.words.now c.in_ok-leb_size.words.now (min_io_bytes m rest) (omega arith) (omega (arith, c.in_ok-leb_size.ensures.within)) (omega arith) c.in_ok-leb_size.ensures.found w0 in
    let w2 = behind_number 32 c.in_ok-min_io.min_io m.min_io c.in_ok-leb_size.words.now c.in_ok-min_io.words.now (main_bytes m rest) (omega arith) (omega (arith, c.in_ok-min_io.ensures.within)) (omega arith) c.in_ok-min_io.ensures.found w1 in
    c.in_err-main.ensures.none m.main (fanout_bytes m rest) (omega arith) w2)

pub returns-in_err-fanout-clause-none : goal.returns-in_err-fanout-clause-none
returns-in_err-fanout-clause-none c = rw c.from_residual-in_err-fanout.ensures (λ m rest r e.
    let w0 = behind_volume c.args.bytes.now c.as_slice.result.now c.in_ok-words.words.now m rest c.as_slice.ensures c.in_ok-words.ensures.found e in
    let w1 = behind_number 32 c.in_ok-leb_size.leb_size m.leb_size c.in_ok-words.words.now c.in_ok-leb_size.words.now (min_io_bytes m rest) (omega arith) (omega (arith, c.in_ok-leb_size.ensures.within)) (omega arith) c.in_ok-leb_size.ensures.found w0 in
    let w2 = behind_number 32 c.in_ok-min_io.min_io m.min_io c.in_ok-leb_size.words.now c.in_ok-min_io.words.now (main_bytes m rest) (omega arith) (omega (arith, c.in_ok-min_io.ensures.within)) (omega arith) c.in_ok-min_io.ensures.found w1 in
    let w3 = behind_number 32 c.in_ok-main.main m.main c.in_ok-min_io.words.now c.in_ok-main.words.now (fanout_bytes m rest) (omega arith) (omega (arith, c.in_ok-main.ensures.within)) (omega arith) c.in_ok-main.ensures.found w2 in
    c.in_err-fanout.ensures.none m.fanout m.packed rest (omega arith) w3)
