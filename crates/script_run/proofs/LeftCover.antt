-- What a covered backing has is covered too without what has no name.
use Rattle.std.proofs.Common.{◌≡◌, ℕ, ◌≤◌, Option, Some, None, List, [], ◌∷◌, refl, sym, ap, subst, ◌∙◌, arith}
use Rattle.std.specs.Prelude.{fold}
use Rattle.ubifs_base.specs.declared.raw_geometry.RawGeometry.{RawGeometry}
use Rattle.ubifs_base.specs.Areas.{main_lebs}
use Rattle.fs_model.specs.declared.space.Grant.{Grant}
use Rattle.fs_model.specs.declared.space.Need.{Need}
use Rattle.fs_model.specs.declared.space.Space.{Space}
use Rattle.fs_model.specs.Cover.{tree_bytes}
use Rattle.fs_model.specs.Change.{without_inode}
use Rattle.fs_model.specs.Files.{Tree}
use Rattle.fs_model.specs.Orphan.{nameless, without_nameless}
use Rattle.fs_model.specs.Proper.{IsProper}
use Rattle.fs_model.specs.Settled.{nothing}
use Rattle.space_sums.specs.Spaces.{AsksNoLess, HasRoom}
use Rattle.plain_backing.specs.declared.backing.PlainBacking.{PlainBacking}
use Rattle.plain_backing.specs.Covering.{IsCovering, granted_need, leaf_count}
use Rattle.plain_backing.proofs.Covers.{bytes_less, leaves_less}
use Rattle.plain_backing.specs.PlainBacking.{Covers, backing_state_of}
use Rattle.script_run.specs.Played.{IsCoveredIn}

-- what is left without some inodes
fewer_bytes : (inos : List ℕ) (tree : Tree) → tree_bytes (fold without_inode tree inos) ≤ tree_bytes tree
fewer_bytes [] tree = omega arith
fewer_bytes (ino ∷ inos) tree =
    let rest = fewer_bytes inos (without_inode tree ino) in
    let one = bytes_less tree ino in
    omega (arith, rest, one)

fewer_leaves : (inos : List ℕ) (tree : Tree) → leaf_count (fold without_inode tree inos) ≤ leaf_count tree
fewer_leaves [] tree = omega arith
fewer_leaves (ino ∷ inos) tree =
    let rest = fewer_leaves inos (without_inode tree ino) in
    let one = leaves_less tree ino in
    omega (arith, rest, one)

-- the least that can be granted
grants_more : (grant : Option Grant) (less more : Space) → less.used ≤ more.used → less.held ≤ more.held → less.credits ≤ more.credits → less.index ≤ more.index → less.weight ≤ more.weight → more.main ≤ less.main
    → AsksNoLess less nothing more (granted_need grant)
grants_more None less more used held credits index weight main =
    record { used = used; held = held; credits = omega (arith, credits); bytes = omega arith; nodes = omega arith; index = index; weight = weight; main = main; reserve = omega arith }
grants_more (Some grant) less more used held credits index weight main =
    record { used = used; held = held; credits = omega (arith, credits); bytes = omega arith; nodes = omega arith; index = index; weight = weight; main = main; reserve = omega arith }

named_covers_in : (geo : RawGeometry) (tree : Tree) (space : Space) (grant : Option Grant) → space.used ≡ tree_bytes tree
    → ((g : RawGeometry) (less more : Space) (asked asked_more : Need) → AsksNoLess less asked more asked_more → HasRoom g more asked_more → HasRoom g less asked)
    → IsProper (without_nameless tree) → IsCovering geo tree space grant
    → IsCovering geo (without_nameless tree) (record space { used = tree_bytes (without_nameless tree); held = 0 }) None
named_covers_in geo tree space grant used law proper h =
    let bytes = fewer_bytes (nameless tree) tree in
    let leaves = fewer_leaves (nameless tree) tree in
    let weighed = h.weighed in
    let less : Space = record space { used = tree_bytes (without_nameless tree); held = 0 } in
    record {
      proper = proper;
      room = law geo less space nothing (granted_need grant) (grants_more grant less space (omega (arith, bytes, used)) (omega arith) (omega arith) (omega arith) (omega arith) (omega arith)) h.room;
      weighed = omega (arith, leaves, weighed);
    }

-- a backing all of whose promises have room, mounted again without what has no name
pub named_covers : (geo : RawGeometry) (backing : PlainBacking) (space : Space) (tree named : Tree) → (backing_state_of backing).geometry ≡ geo → space ≡ (backing_state_of backing).space → tree ≡ (backing_state_of backing).tree → named ≡ without_nameless tree
    → ((g : RawGeometry) (less more : Space) (asked asked_more : Need) → AsksNoLess less asked more asked_more → HasRoom g more asked_more → HasRoom g less asked)
    → IsProper named → Covers (backing_state_of backing) → IsCovering geo named (record space { used = tree_bytes named; held = 0 }) None
named_covers geo backing space tree named same is stored gone law proper covers =
    let state = backing_state_of backing in
    let all : named ≡ without_nameless state.tree = gone ∙ ap without_nameless stored in
    let P : Tree → Type 0 = λ t. IsProper t in
    let Q : RawGeometry → Type 0 = λ g. IsCovering g (without_nameless state.tree) (record state.space { used = tree_bytes (without_nameless state.tree); held = 0 }) None in
    let R : Tree → Type 0 = λ t. IsCovering geo t (record state.space { used = tree_bytes t; held = 0 }) None in
    let S : Space → Type 0 = λ s. IsCovering geo named (record s { used = tree_bytes named; held = 0 }) None in
    subst S (sym is) (subst R (sym all) (subst Q same (named_covers_in state.geometry state.tree state.space state.grant refl law (subst P all proper) covers)))

-- a tree without what has no name has room, with the space that its backing had
pub named_in : (geo : RawGeometry) (backing : PlainBacking) (tree named : Tree) → (backing_state_of backing).geometry ≡ geo → tree ≡ (backing_state_of backing).tree → named ≡ without_nameless tree
    → ((g : RawGeometry) (less more : Space) (asked asked_more : Need) → AsksNoLess less asked more asked_more → HasRoom g more asked_more → HasRoom g less asked)
    → IsProper named → Covers (backing_state_of backing) → IsCoveredIn geo named
named_in geo backing tree named same stored gone law proper covers =
    let space = (backing_state_of backing).space in
    let main : space.main ≡ main_lebs geo = ap main_lebs same in
    record { space = record space { used = tree_bytes named; held = 0 }; main = main; used = refl; covers = named_covers geo backing space tree named same refl stored gone law proper covers }
