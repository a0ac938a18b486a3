-- The group of an operation under a grant of what it asks for.
use Rattle.std.proofs.Common.{◌≡◌, ℕ, ◌<◌, ◌≤◌, ◌^◌, true, List, [], ◌∷◌, length, arith}
use Rattle.std.specs.Prelude.{sum_by}
use Rattle.std.specs.List.{list_all}
use Rattle.fs_model.specs.declared.change.Change.{Change}
use Rattle.fs_model.specs.declared.op.Op.{Op}
use Rattle.fs_model.specs.declared.op.Op.TheVariants.{Unlink, Rmdir, Truncate}
use Rattle.fs_model.specs.declared.space.Class.{Class}
use Rattle.fs_model.specs.declared.space.Class.TheVariants.{Ordinary, Removal}
use Rattle.fs_model.specs.declared.space.Grant.{Grant}
use Rattle.fs_model.specs.Backing.{FitsGroup, IsModest}
use Rattle.fs_model.specs.Files.{Files}
use Rattle.fs_model.specs.Need.{change_bytes, group_need, truncation_need, need_of}
use Rattle.fs_model.specs.Operation.{group_of}
use Rattle.fs_model.specs.Proper.{are_bytes}
use Rattle.fs_laws.specs.Sound.{IsSound, KeepsSound, Pays, given}
use Rattle.fs_laws.proofs.Operations.{group_keeps}
use Rattle.fs_laws.proofs.Sizes.{group_within, group_long}
use Rattle.fs_laws.proofs.Truncates.{truncated_keeps}

fits_from : (files : Files) (grant : Grant) (group : List Change) → KeepsSound files group → length group ≤ grant.nodes → sum_by (change_bytes files.tree) group ≤ grant.bytes → FitsGroup files.tree grant group
fits_from files grant group keeps nodes bytes = record { are_nodes = keeps.nodes; nodes = nodes; bytes = bytes; limit = keeps.limit; revives_none = keeps.revives_none; drops = keeps.drops; proper = keeps.proper }

pub group_fits : (files : Files) (caller now : ℕ) (op : Op) (grant : Grant) → IsSound files → now < 2 ^ 64 → list_all are_bytes (given op) ≡ true → Pays grant (need_of files caller now op) → FitsGroup files.tree grant (group_of files caller now op)
group_fits files caller now (Truncate slot size) grant sound moment bytes pays =
    let group : List Change = group_of files caller now (Truncate slot size) in
    let it = truncated_keeps files caller now slot size sound moment in
    let within = group_within files.tree group sound.proper.inode_nodes it.keeps.nodes in
    let few = it.bytes in
    let paid = pays.bytes in
    let some = it.nodes in
    let more = pays.nodes in
    fits_from files grant group it.keeps (omega (arith, some, more)) (omega (arith, within, few, paid))
group_fits files caller now op grant sound moment bytes pays = fits_from files grant (group_of files caller now op) (group_keeps files caller now op sound moment bytes) pays.nodes pays.bytes

truncation_modest : (group : List Change) → IsModest (truncation_need group)
truncation_modest [] = record { credits = omega arith; bytes = omega arith; nodes = omega arith }
truncation_modest (set ∷ []) = record { credits = omega arith; bytes = omega arith; nodes = omega arith }
truncation_modest (set ∷ cut ∷ rest) = record { credits = omega arith; bytes = omega arith; nodes = omega arith }

group_modest : (files : Files) (group : List Change) (class : Class) → KeepsSound files group → IsModest (group_need files.tree group class)
group_modest files group class keeps =
    let few = keeps.limit in
    let long = group_long files.tree group in
    record { credits = omega arith; bytes = omega (arith, few); nodes = omega (arith, few, long) }

-- what an operation asks for is within what admission takes
pub need_modest : (files : Files) (caller now : ℕ) (op : Op) → IsSound files → now < 2 ^ 64 → list_all are_bytes (given op) ≡ true → IsModest (need_of files caller now op)
need_modest files caller now (Truncate slot size) sound moment bytes = truncation_modest (group_of files caller now (Truncate slot size))
need_modest files caller now (Unlink path) sound moment bytes = group_modest files (group_of files caller now (Unlink path)) Removal (group_keeps files caller now (Unlink path) sound moment bytes)
need_modest files caller now (Rmdir path) sound moment bytes = group_modest files (group_of files caller now (Rmdir path)) Removal (group_keeps files caller now (Rmdir path) sound moment bytes)
need_modest files caller now op sound moment bytes = group_modest files (group_of files caller now op) Ordinary (group_keeps files caller now op sound moment bytes)
