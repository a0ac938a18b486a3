-- The sides of a refusal for want of room: no more is needed than the files and all credits come to, and there is no less room than beside the heaviest index.
use Rattle.std.proofs.Common.{◌≡◌, ℕ, zero, suc, ◌+◌, ◌*◌, ◌/◌, ◌≤◌, ◌<◌, Bool, true, false, ◌||◌, List, [], ◌∷◌, ◌++◌, length, refl, sym, ap, ◌∙◌, arith}
use Rattle.std.specs.Prelude.{◌-◌, if◌then◌else◌, max, sum_by}
use Rattle.std.specs.List.{list_all}
use Rattle.std.specs.Map.{values_of}
use Rattle.std.proofs.Math.Nat.{div-zero, div-mul-le_self, mul-le-mul_right}
use Rattle.std.proofs.lemmas.Bool.{and_parts}
use Rattle.std.proofs.lemmas.List.{length-map}
use Rattle.std.proofs.lemmas.List.Sums.{sum_by-cons}
use Rattle.std.proofs.lemmas.Nat.{le-div}
use Rattle.ubifs_base.specs.declared.raw_geometry.RawGeometry.{RawGeometry}
use Rattle.ubifs_base.specs.Geometry.{index_nodes_per_leb, leb_reserve}
use Rattle.fs_model.specs.declared.space.Need.{Need}
use Rattle.fs_model.specs.declared.space.Space.{Space}
use Rattle.fs_model.specs.Cover.{block_bytes, entry_bytes, index_lebs, index_room, inode_bytes, needed, reserve, room_for, tree_bytes}
use Rattle.fs_model.specs.Files.{Blocks, Entries, Inodes, Tree}
use Rattle.fs_model.specs.declared.op.Op.{Op}
use Rattle.fs_model.specs.declared.refusal.NoSpace.{NoSpace}
use Rattle.fs_model.specs.declared.trace.TraceLine.{TraceLine}
use Rattle.fs_model.specs.Backing.{BackingState}
use Rattle.fs_model.specs.Legal.{AreSides, Opening, Place, least_room, most_asked, most_weight, pages_in, whole_bytes}
use Rattle.fs_model.specs.Proper.{IsProper, is_block_node}
use Rattle.fs_model.specs.Same.{trimmed, trimmed_blocks}
use Rattle.vfs_ops.specs.Operations.{has_group}
use Rattle.vfs_ops.specs.Steps.{is_write}
use Rattle.traced_files.specs.History.{grown_weight, index_growth_by}

div_mono : (q m n : ℕ) → m ≤ n → m / q ≤ n / q
div_mono zero m n le = rw (div-zero m, div-zero n) (omega arith)
div_mono (suc q) m n le = let below : m / suc q * suc q ≤ n = omega (arith, le, div-mul-le_self m (suc q)) in le-div (m / suc q) n (suc q) (omega arith) below

-- a greater weight takes no fewer LEBs
pub lebs_mono : (geo : RawGeometry) (a b : ℕ) → a ≤ b → index_lebs geo a ≤ index_lebs geo b
lebs_mono geo a b le = let q : ℕ = index_nodes_per_leb geo in div_mono q (a + q - 1) (b + q - 1) (omega (arith, le))

pub room_mono : (geo : RawGeometry) (present other weight heavier : ℕ) → present ≤ other → weight ≤ heavier → index_room geo present weight ≤ index_room geo other heavier
room_mono geo present other weight heavier le lighter = by (index_lebs geo weight) (index_lebs geo heavier) (lebs_mono geo weight heavier lighter)
  where
    by : (a b : ℕ) → a ≤ b → max (3 * a) (present + a) ≤ max (3 * b) (other + b)
    by a b lebs = omega (arith, lebs, le)

-- a block takes at most 4,144 bytes
pub block_short : (bytes : List ℕ) → length bytes ≤ 4096 → block_bytes bytes ≤ 4144
block_short bytes few = omega (arith, few)

pub blocks_short : (blocks : Blocks) → list_all is_block_node blocks ≡ true → sum_by block_bytes (values_of blocks) ≤ 4144 * length blocks
blocks_short [] nodes = omega arith
blocks_short (b ∷ blocks) nodes =
    let parts = and_parts (is_block_node b) (list_all is_block_node blocks) nodes in
    let rest = blocks_short blocks parts.1 in
    let few : length b.1 ≤ 4096 = grind (arith, parts.0) in
    let one = block_short b.1 few in
    let sum = sum_by-cons block_bytes b.1 (values_of blocks) in
    omega (arith, rest, one, sum)

-- blocks that are told the same are as many
pub as_many : (a b : Blocks) → trimmed_blocks a ≡ trimmed_blocks b → length a ≡ length b
as_many a b same = sym (length-map a (λ (x : (ℕ × ℕ) × List ℕ). (x.0, trimmed x.1))) ∙ ap length same ∙ length-map b (λ (x : (ℕ × ℕ) × List ℕ). (x.0, trimmed x.1))

-- more credits and a heavier index leave no more room
pub room_least : (geo : RawGeometry) (space most : Space) (need greatest : Need) → space.main ≡ most.main → space.index ≤ most.index → space.weight ≤ most.weight → space.credits + need.credits ≤ most.credits + greatest.credits
    → need.nodes ≡ greatest.nodes → need.class ≡ greatest.class → room_for geo most greatest ≤ room_for geo space need
room_least geo space most need greatest main index weight credits nodes class =
    let room = room_mono geo space.index most.index (space.weight + 2 * (space.credits + need.credits) + need.nodes) (most.weight + 2 * (most.credits + greatest.credits) + greatest.nodes) index (omega (arith, weight, credits, nodes)) in
    let same : reserve need.class ≡ reserve greatest.class = ap reserve class in
    mul-le-mul_right (geo.leb_size - leb_reserve geo) (omega (arith, room, main, same))

-- the bytes of a tree are no more than with each block whole; those of another tree with as many blocks
pub whole_most : (tree other : Tree) → IsProper tree → other.inodes ≡ tree.inodes → other.entries ≡ tree.entries → trimmed_blocks other.blocks ≡ trimmed_blocks tree.blocks → tree_bytes tree ≤ whole_bytes other
whole_most tree other proper inodes entries blocks =
    let short = blocks_short tree.blocks proper.block_nodes in
    let many = as_many other.blocks tree.blocks blocks in
    let i : sum_by inode_bytes (values_of other.inodes) ≡ sum_by inode_bytes (values_of tree.inodes) = ap (λ (x : Inodes). sum_by inode_bytes (values_of x)) inodes in
    let e : sum_by entry_bytes (values_of other.entries) ≡ sum_by entry_bytes (values_of tree.entries) = ap (λ (x : Entries). sum_by entry_bytes (values_of x)) entries in
    omega (arith, short, many, i, e)

-- no operation adds more than five nodes and two for each page
growth_few : (op : Op) → index_growth_by op ≤ 5 + 2 * pages_in op
growth_few op = by (is_write op || has_group op)
  where
    by : (b : Bool) → (if b then 5 + 2 * pages_in op else 0) ≤ 5 + 2 * pages_in op
    by true = omega arith
    by false = omega arith

all_growth_few : (lines : List TraceLine) → sum_by (λ line. index_growth_by line.op) lines ≤ sum_by (λ line. 5 + 2 * pages_in line.op) lines
all_growth_few [] = omega arith
all_growth_few (line ∷ lines) =
    let f : TraceLine → ℕ = λ l. index_growth_by l.op in
    let g : TraceLine → ℕ = λ l. 5 + 2 * pages_in l.op in
    let a = sum_by-cons f line lines in
    let b = sum_by-cons g line lines in
    let one = growth_few line.op in
    let more = all_growth_few lines in
    omega (arith, a, b, one, more)

-- so the lines make the index no heavier than that
grown_few : (opening : Opening) (lines : List TraceLine) → grown_weight opening lines ≤ most_weight opening lines
grown_few opening lines = let few = all_growth_few lines in omega (arith, few)

-- a heavier index leaves no more room
least_mono : (opening : Opening) (light heavy : ℕ) (need : Need) → light ≤ heavy → least_room opening heavy need ≤ least_room opening light need
least_mono opening light heavy need le =
    let lebs = lebs_mono opening.geometry light heavy le in
    let less : Space = record opening.space { credits = 0; weight = light; index = max opening.space.index (2 * index_lebs opening.geometry light) } in
    let more : Space = record opening.space { credits = 0; weight = heavy; index = max opening.space.index (2 * index_lebs opening.geometry heavy) } in
    room_least opening.geometry less more need need refl (omega (arith, lebs)) le (omega arith) refl refl

-- What is known of a refusal for want of room: its sides, on a store that holds no bytes and is no heavier than the lines make it.
pub record IsFull (opening : Opening) (place : Place) (line : TraceLine) (sides : NoSpace) (new : BackingState) (need : Need) : Type 0 where
  pub need_is : sides.need ≡ needed new.space need
  pub room_is : sides.room ≡ room_for new.geometry new.space need
  pub exceeds : sides.room < sides.need
  pub held : new.space.held ≡ 0
  pub used : new.space.used ≤ whole_bytes place.files.tree
  pub geometry : new.geometry ≡ opening.geometry
  pub main : new.space.main ≡ opening.space.main
  pub credits : new.space.credits + need.credits ≤ (most_asked opening place line).credits
  pub bytes : need.bytes ≡ (most_asked opening place line).bytes
  pub nodes : need.nodes ≡ (most_asked opening place line).nodes
  pub class : need.class ≡ (most_asked opening place line).class
  pub weight : new.space.weight ≤ grown_weight opening (place.before ++ line ∷ [])
  pub index : new.space.index ≤ max opening.space.index (2 * index_lebs opening.geometry (grown_weight opening (place.before ++ line ∷ [])))

-- there is no less room than beside an index as heavy as the lines make it
pub room_told : (opening : Opening) (place : Place) (line : TraceLine) (sides : NoSpace) (new : BackingState) (need : Need) → IsFull opening place line sides new need
    → least_room opening (grown_weight opening (place.before ++ line ∷ [])) (most_asked opening place line) ≤ sides.room
room_told opening place line sides new need h =
    let heaviest : ℕ = grown_weight opening (place.before ++ line ∷ []) in
    let most : Space = record opening.space { credits = 0; weight = heaviest; index = max opening.space.index (2 * index_lebs opening.geometry heaviest) } in
    let asked : Need = most_asked opening place line in
    let least : room_for opening.geometry most asked ≤ room_for opening.geometry new.space need =
    room_least opening.geometry new.space most need asked h.main h.index h.weight (omega (arith, h.credits)) h.nodes h.class in
    let room : room_for new.geometry new.space need ≡ room_for opening.geometry new.space need = ap (λ (geo : RawGeometry). room_for geo new.space need) h.geometry in
    let is = h.room_is in
    omega (arith, least, room, is)

pub are_sides : (opening : Opening) (place : Place) (line : TraceLine) (sides : NoSpace) (new : BackingState) (need : Need) → IsFull opening place line sides new need → AreSides opening place line sides
are_sides opening place line sides new need h =
    let lines : List TraceLine = place.before ++ line ∷ [] in
    let told = room_told opening place line sides new need h in
    let least = least_mono opening (grown_weight opening lines) (most_weight opening lines) (most_asked opening place line) (grown_few opening lines) in
    let needs = h.need_is in
    let held = h.held in
    let used = h.used in
    let credits = h.credits in
    let bytes = h.bytes in
    record { exceeds = h.exceeds; need = omega (arith, needs, held, used, credits, bytes); room = omega (arith, least, told) }
