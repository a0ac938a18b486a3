-- What stands in the LEB that a tree is laid for.
use Rattle.std.proofs.Common.{◌≡◌, ◌≢◌, ℕ, ◌+◌, ◌-◌, ◌*◌, ◌<◌, ◌≤◌, List, [], ◌∷◌, ◌++◌, length, take, drop, replicate, ap, sym, ◌∙◌, arith, subst, refl, length-append, append_assoc}
use Rattle.std.proofs.lemmas.List.{length-take-le, take_at, drop_at, replicate-append-replicate, length-replicate}
use Rattle.ubifs_base.specs.Areas.{lpt_first, orph_first, main_lebs}
use Rattle.ubifs_base.specs.Geometry.{IsGeometry}
use Rattle.ubifs_base.specs.Properties.{quarter, pnode_len, nnode_len, ltab_len, pnode_count, tree_len, tree_height}
use Rattle.ubifs_base.specs.declared.raw_geometry.RawGeometry.{RawGeometry}
use Rattle.ubi_volume.specs.Volume.{filled}
use Rattle.media_lpt.specs.Nodes.{IsLtabBytes}
use Rattle.media_lpt.specs.declared.lprop.Lprop.{Lprop}
use Rattle.media_lpt.specs.declared.nnode.LptPlace.{LptPlace}
use Rattle.lpt_area.specs.Laid.{places, fours, IsLaid, ArePnodesLaid, AreLevelsLaid, past_main}
use Rattle.lpt_area.specs.Tree.{HasPnode, IsBelow, empty_leb, alone, row_len}
use Rattle.lpt_area.specs.Written.{AreProps, IsTreeLeb, in_units, ltab_rows}
use Rattle.lpt_area.proofs.Counts.{row_len-pnodes, root_alone, level_nodes-mono, level_nodes-some, main-some}
use Rattle.lpt_area.proofs.Growing.{alone_extends, below_grows, row_grows, pnode_grows}
use Rattle.lpt_area.proofs.LaidItems.{place_of}
use Rattle.lpt_area.proofs.LevelSteps.{pnodes_up}

one_place : (lnum offs len : ℕ) → places lnum offs len 1 ≡ place_of lnum offs ∷ []
unfolding places
one_place lnum offs len = refl

pub tree_leb : (geo : RawGeometry) (lnum : ℕ) (props : List Lprop) (first second third bytes : List ℕ) (offs ltab_offs end : ℕ) → IsGeometry geo → AreProps geo props → lpt_first geo ≤ lnum → lnum < orph_first geo
    → ArePnodesLaid geo props first (pnode_count geo) → AreLevelsLaid geo lnum first second offs (nnode_len geo) 1 (tree_height (pnode_count geo)) → ltab_offs ≡ offs + nnode_len geo
    → IsLaid (λ bs. IsLtabBytes geo bs (ltab_rows geo lnum)) second third ltab_offs (ltab_len geo) → length third ≡ geo.leb_size
    → bytes ≡ take (ltab_offs + ltab_len geo) third ++ replicate (end - (ltab_offs + ltab_len geo)) 255 → end ≡ in_units geo.min_io (ltab_offs + ltab_len geo) → ltab_offs + ltab_len geo ≤ end → end ≤ geo.leb_size
    → IsTreeLeb geo lnum props (filled geo.leb_size bytes) (record { lnum = lnum; offs = offs; ltab_lnum = lnum; ltab_offs = ltab_offs; nhead_lnum = lnum; nhead_offs = end })
tree_leb geo lnum props first second third bytes offs ltab_offs end h are low high pnodes levels at ltab size is is_end more fits =
    let P = pnode_count geo in
    let base = P * pnode_len geo in
    let top = tree_height P in
    let used = ltab_offs + ltab_len geo in
    let levels_end = levels.end in
    let root_end : offs + 1 * nnode_len geo ≡ ltab_offs = omega (arith, at) in
    let whole_len : used ≡ tree_len geo = omega (arith, at, levels_end) in
    let F : List ℕ = take ltab_offs second in
    let tb : List ℕ = ltab.bytes in
    let pad : List ℕ = replicate (end - used) 255 in
    let rest : List ℕ = replicate (geo.leb_size - length bytes) 255 in
    let leb : List ℕ = filled geo.leb_size bytes in
    let second_size = ltab.size in
    let F_len = length-take-le ltab_offs second (omega (arith, second_size, size, more, fits)) in
    let tb_len = ltab.long in
    let both_len : length (F ++ tb) ≡ used = length-append F tb ∙ omega (arith, F_len, tb_len) in
    let body : bytes ≡ (F ++ tb) ++ pad = is ∙ ap (λ (f : List ℕ). f ++ pad) ltab.front in
    let pad_len = length-replicate {A = ℕ} (end - used) 255 in
    let bytes_len : length bytes ≡ end = ap length body ∙ length-append (F ++ tb) pad ∙ omega (arith, both_len, pad_len, more) in
    let tail : pad ++ rest ≡ replicate (geo.leb_size - used) 255 =
    replicate-append-replicate (end - used) (geo.leb_size - length bytes) 255 ∙ (let e : end - used + (geo.leb_size - length bytes) ≡ geo.leb_size - used = omega (arith, bytes_len, more, fits) in ap (λ (n : ℕ). replicate n 255) e) in
    let whole : leb ≡ (F ++ tb) ++ (pad ++ rest) = ap (λ (b : List ℕ). b ++ rest) body ∙ append_assoc (F ++ tb) pad rest in
    let whole_second : leb ≡ F ++ (tb ++ (pad ++ rest)) = whole ∙ append_assoc F tb (pad ++ rest) in
    let same_F : take (offs + 1 * nnode_len geo) second ≡ F = ap (λ (n : ℕ). take n second) root_end in
    let grown = levels.grown in
    let is_F : F ≡ take base first ++ grown.more = sym same_F ∙ grown.front in
    let whole_first : leb ≡ take base first ++ (grown.more ++ (tb ++ (pad ++ rest))) = whole_second ∙ ap (λ (f : List ℕ). f ++ (tb ++ (pad ++ rest))) is_F ∙ append_assoc (take base first) grown.more (tb ++ (pad ++ rest)) in
    let some : lnum ≢ 0 = omega (arith, low) in
    let row = pnodes lnum some in
    let fewer = row_len-pnodes geo h in
    let below = pnodes_up geo (alone lnum (take base first)) P (places lnum 0 (pnode_len geo) P) props fewer are.count row in
    let said = levels.tree props below in
    let most = root_alone geo h in
    let among = level_nodes-mono (quarter (main_lebs geo)) P top fewer in
    let least = level_nodes-some (quarter (main_lebs geo)) top (main-some geo h) in
    let one : row_len geo top ≡ 1 = omega (arith, most, among, least) in
    let root : take (row_len geo top) (places lnum offs (nnode_len geo) 1) ≡ place_of lnum offs ∷ [] = ap (λ (n : ℕ). take n (places lnum offs (nnode_len geo) 1)) one ∙ ap (take 1) (one_place lnum offs (nnode_len geo)) in
    let R : List LptPlace → Type 0 = λ r. IsBelow geo (alone lnum leb) top r props in
    let whole_levels : leb ≡ take (offs + 1 * nnode_len geo) second ++ (tb ++ (pad ++ rest)) = whole_second ∙ ap (λ (f : List ℕ). f ++ (tb ++ (pad ++ rest))) (sym same_F) in
    record {
      tree = record {
        low = low;
        high = high;
        below = subst R root (below_grows geo (alone lnum (take (offs + 1 * nnode_len geo) second)) (alone lnum leb) top (take (row_len geo top) (places lnum offs (nnode_len geo) 1)) props
            (alone_extends lnum (take (offs + 1 * nnode_len geo) second) leb (tb ++ (pad ++ rest)) whole_levels) said);
      };
      pnodes = row_grows (HasPnode geo) (empty_leb geo) (alone lnum (take base first)) (alone lnum leb) (places lnum 0 (pnode_len geo) P) (fours past_main P props) (pnode_grows geo)
          (alone_extends lnum (take base first) leb (grown.more ++ (tb ++ (pad ++ rest))) whole_first) row;
      ltab =
          let Q : List ℕ → Type 0 = λ bs. IsLtabBytes geo bs (ltab_rows geo lnum) in
          let here : take (ltab_len geo) (drop ltab_offs leb) ≡ tb =
          ap (λ (b : List ℕ). take (ltab_len geo) (drop ltab_offs b)) whole_second ∙ ap (take (ltab_len geo)) (drop_at F (tb ++ (pad ++ rest)) ltab_offs F_len) ∙ take_at tb (pad ++ rest) (ltab_len geo) tb_len in
          subst Q (sym here) ltab.node;
      blank = ap (drop (tree_len geo)) whole ∙ drop_at (F ++ tb) (pad ++ rest) (tree_len geo) (both_len ∙ whole_len) ∙ tail ∙ ap (λ (n : ℕ). replicate (geo.leb_size - n) 255) whole_len;
      lnum = refl;
      offs = sym at;
      ltab_lnum = refl;
      ltab_offs = whole_len;
      nhead_lnum = refl;
      nhead_offs = is_end ∙ ap (in_units geo.min_io) whole_len;
    }
