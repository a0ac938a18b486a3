-- Lines of two callers on a small store, worked by hand: a file is made, and for the second one there is no room.
use Rattle.std.specs.Prelude.{ℕ, false, None, Ok, List, [], ◌∷◌, codes}
use Rattle.ubifs_base.specs.declared.raw_geometry.RawGeometry.{RawGeometry}
use Rattle.fs_model.specs.declared.backing_answers.Mode.TheVariants.{ReadWrite}
use Rattle.fs_model.specs.declared.op.Op.TheVariants.{Create}
use Rattle.fs_model.specs.declared.refusal.NoSpace.{NoSpace}
use Rattle.fs_model.specs.declared.refusal.Refusal.TheVariants.{Enospc}
use Rattle.fs_model.specs.declared.reply.Reply.TheVariants.{Ino, Refused}
use Rattle.fs_model.specs.declared.trace.TraceLine.{TraceLine}
use Rattle.fs_model.specs.Files.{Files}
use Rattle.fs_model.specs.Legal.{Opening, Place, Present}
use Rattle.fs_model.specs.Operation.{outcome_of, files_in}
use Rattle.fs_model.specs.Worked.{fresh}

-- LEBs of 16,384 bytes in units of 512, of which 10,080 bytes count; 85 index nodes a LEB
abbrev pub small_geometry : RawGeometry
small_geometry = record { leb_size = 16384; min_io = 512; log_lebs = 3; lpt_lebs = 2; orph_lebs = 1; leb_cnt = 32; max_leb_cnt = 32; fanout = 8; lsave_cnt = 256; big = false }

-- 23 LEBs, of which ten are kept; a page is dirty, and the index weighs 37
abbrev pub tight : Opening
tight = record {
  geometry = small_geometry;
  callers = 2;
  files = fresh;
  space = record { used = 160; held = 0; credits = 0; empty = 21; index = 1; weight = 37; main = 23 };
  dirty = 1;
  orphan_room = 2;
  orphan_limit = 2;
  mode = ReadWrite;
  faults = 0;
  outlook = record { sure = Unit {0}; spent = ⊥; strike = None };
}

-- the first caller makes a file
abbrev pub first_line : TraceLine
first_line = record { caller = 1; number = 1; now = 0; op = Create (codes "/f") 420; reply = Ino 65 }

abbrev pub with_first : Files
with_first = files_in fresh (outcome_of fresh 1 0 (Create (codes "/f") 420))

-- Leaves take 384 bytes, 17 credits of 4,304 and the 384 of a group are asked for; the index weighs 49 at most, and 86 with what is asked for: of seven LEBs that are left 70,560 bytes count.
abbrev pub most_sides : NoSpace
most_sides = record { need = 73936; room = 70560 }

-- for the second caller's there is no room
abbrev pub second_line : TraceLine
second_line = record { caller = 2; number = 1; now = 0; op = Create (codes "/g") 420; reply = Refused (Enospc most_sides) }

abbrev pub at_second : Place
at_second = record { before = first_line ∷ []; files = with_first; orphans = 0 }

abbrev pub then : Present
then = record { files = with_first; refused = most_sides ∷ []; mode = ReadWrite; faults = 0; outlook = tight.outlook }

-- sides that no history gives: a byte more is needed, or a byte less is the room
abbrev pub too_much : NoSpace
too_much = record { need = 73937; room = 70560 }

abbrev pub too_little : NoSpace
too_little = record { need = 73936; room = 70559 }
