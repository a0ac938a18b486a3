-- The trace is computed, line by line.
use Rattle.std.proofs.Common.{refl, inl, inr, [], ◌∷◌, arith}
use Rattle.fs_model.specs.declared.refusal.Refusal.TheVariants.{Enospc}
use Rattle.fs_model.specs.Legal.{behind}
use Rattle.fs_model.specs.WorkedTrace.{tight, first_line, second_line, at_second, most_sides, with_first}
use Rattle.fs_model.proofs.worked.a_trace_is_judged.Goals as goal

pub returns-clause-legal : goal.returns-clause-legal
returns-clause-legal c = record {
  first = first_line ∷ second_line ∷ [];
  rest = [];
  all = refl;
  middle = behind at_second second_line with_first;
  last = behind at_second second_line with_first;
  opened = (
    refl,
    with_first,
    inl (record { done = refl; told = refl; left = refl }),
    (
      refl,
      with_first,
      inr (record { refusal = Enospc most_sides; told = refl; why = ((_, refl), record { exceeds = omega arith; need = omega arith; room = omega arith }); same = refl }),
      refl,
    ),
  );
  closed = refl;
  files = record { inodes = refl; blocks = refl; entries = refl; highest = refl; handles = refl };
  mode = inl refl;
  refused = refl;
  counts = refl;
  faults = refl;
  sure = λ sure. inr (sure, refl);
}

pub returns-clause-need : goal.returns-clause-need
returns-clause-need c sides = omega (arith, sides.need)

pub returns-clause-room : goal.returns-clause-room
returns-clause-room c sides = omega (arith, sides.room)
