-- How heavy the index may be behind the lines of a script, at most.
use Rattle.std.specs.Prelude.{ℕ, ◌+◌, ◌*◌, max, List, [], ◌∷◌, codes, sum_by}
use Rattle.ubifs_base.specs.declared.raw_geometry.RawGeometry.{RawGeometry}
use Rattle.ubifs_base.specs.Areas.{main_lebs}
use Rattle.ubifs_base.specs.Geometry.{plain_geometry}
use Rattle.fs_model.specs.declared.op.Op.TheVariants.{Create}
use Rattle.fs_model.specs.declared.space.Space.{Space}
use Rattle.fs_model.specs.Cover.{index_lebs, tree_bytes}
use Rattle.fs_model.specs.Legal.{pages_in}
use Rattle.script_text.specs.declared.part.Part.{Part}
use Rattle.script_text.specs.declared.part.Part.TheVariants.{Line, Mount}
use Rattle.script_run.specs.Run.{ScriptRunning}

-- a caller's line adds five nodes at most, and two for each page that it touches
abbrev pub most_added : Part → ℕ
most_added (Line caller op) = 5 + 2 * pages_in op
most_added part = 0

abbrev pub heaviest_weight : ScriptRunning → List Part → ℕ
heaviest_weight first parts = first.weight + sum_by most_added parts

-- what admission reckons with at most behind these lines, where no page is dirty: the bytes of the files then, and the heaviest index
abbrev pub heaviest_space : RawGeometry → ScriptRunning → List Part → ScriptRunning → Space
heaviest_space geo first parts last =
    record { used = tree_bytes last.files.tree; held = 0; credits = 0; empty = 0; index = max first.index (2 * index_lebs geo (heaviest_weight first parts)); weight = heaviest_weight first parts; main = main_lebs geo }

-- 64 main LEBs of 16,384 bytes, and a script that makes a file
abbrev pub worked_geometry : RawGeometry
worked_geometry = plain_geometry 16384 512 64 8

abbrev pub one_create : List Part
one_create = Mount ∷ Line 1 (Create (codes "/f") 420) ∷ []
