use Rattle.std.proofs.Common.{◌≡◌, ◌*◌, length, drop}
use Rattle.ubi_volume.specs.Lebs.{AreLoaded}
use Rattle.ubi_volume.proofs.loading.loaded_lebs.Given as goal

-- the LEBs so far are loaded, and the rest of the bytes is left
abbrev pub invariant-loop-lnum : goal.invariant-loop-lnum
invariant-loop-lnum l =
    (length l.lebs.items ≡ l.lnum) × (l.rest ≡ drop (l.lnum * l.shape.leb_size) l.bytes)
    × AreLoaded l.shape.leb_size l.shape.min_io l.bytes l.lebs.items
