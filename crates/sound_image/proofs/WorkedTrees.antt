-- A damaged image whose tree of properties is erased.
use Rattle.std.proofs.Common.{◌≡◌, ℕ, zero, suc, ◌-◌, ◌/◌, ◌%◌, ◌^◌, ◌<◌, List, [], take, drop, replicate, refl, ap, sym, ◌∙◌, subst, inl, inr, arith}
use Rattle.std.specs.Int.Count.{count_leading_zeros}
use Rattle.std.proofs.lemmas.Bool.{ltb-true}
use Rattle.ubifs_base.specs.Crc.{crc16_of, crc_bits}
use Rattle.ubifs_base.specs.Properties.{fls, height_from, nnode_len, tree_height}
use Rattle.media_lpt.specs.Nodes.{nnode_fields}
use Rattle.media_lpt.specs.Packed.{bytes_number}
use Rattle.media_lpt.specs.PackedLaws.{packed-framed}
use Rattle.media_lpt.specs.declared.nnode.LptPlace.{LptPlace}
use Rattle.lpt_area.specs.Tree.{HasNnode, row_len}
use Rattle.sound_image.specs.Breaches.{IsFirstBreach}
use Rattle.sound_image.specs.Properties.{lpt_root}
use Rattle.sound_image.specs.PropertyBreaches.{IsPlaceBelow, lpt_misfit, pnode_depth}
use Rattle.sound_image.specs.Worked.{LacksItsProperties, least_geometry, least_image, least_master}
use Rattle.sound_image.specs.Wrong.{Wrong, differs}
use Rattle.sound_image.specs.declared.breach.Breach.TheVariants.{Damaged}
use Rattle.sound_image.specs.declared.rule.Rule.TheVariants as rules
use Rattle.sound_image.proofs.LeastImage.{least_placed}
use Rattle.sound_image.proofs.OneReads.{part_bytes}
use Rattle.sound_image.proofs.WorkedRows.{before_properties, least_super_has, not_before}

abbrev root : LptPlace
root = lpt_root least_master

long : nnode_len least_geometry ≡ 11
unfolding fls count_leading_zeros
long = refl

deep : pnode_depth least_geometry ≡ 1
unfolding tree_height height_from
deep = refl

erased_misfit : lpt_misfit 1 (replicate 11 255) ≡ differs 32782 65535
unfolding crc16_of crc_bits bytes_number
erased_misfit = refl

no_checksum : bytes_number (replicate 11 255) % 2 ^ 16 ≡ crc16_of (drop 2 (replicate 11 255)) → ⊥
unfolding crc16_of crc_bits bytes_number
no_checksum h = let e : 65535 ≡ 32782 = h in omega (arith, e)

-- the bytes where the root should stand
bytes_there : (contents : ℕ → List ℕ) → LacksItsProperties contents → take (nnode_len least_geometry) (drop 15 (contents 7)) ≡ replicate 11 255
bytes_there contents h = ap (λ (n : ℕ). take n (drop 15 (contents 7))) long ∙ h.properties

no_root : (contents : ℕ → List ℕ) (four : List LptPlace) → LacksItsProperties contents → HasNnode least_geometry (contents 7) 15 four → ⊥
no_root contents four h node =
    let framed = packed-framed (take (nnode_len least_geometry) (drop 15 (contents 7))) 1 (nnode_fields least_geometry node.node) (part_bytes (nnode_len least_geometry) 15 (contents 7) (h.begins.bytes 7)) (ltb-true 1 16 refl) node.is.is.fit node.is.packed in
    let P : List ℕ → Type 0 = λ bytes. bytes_number bytes % 2 ^ 16 ≡ crc16_of (drop 2 bytes) in
    no_checksum (subst P (bytes_there contents h) framed.0.checksum)

-- nothing stands below a root that isn't there
none_below : (contents : ℕ → List ℕ) (depth number : ℕ) (place : LptPlace) → LacksItsProperties contents → IsPlaceBelow least_geometry (contents 7) root (suc depth) number place → ⊥
none_below contents zero number place h (above, four, is, same, node, get) =
    let P : LptPlace → Type 0 = λ p. HasNnode least_geometry (contents 7) p.offs four in
    no_root contents four h (subst P is.1 node)
none_below contents (suc depth) number place h (above, four, is, same, node, get) = none_below contents depth (number / 4) above h is

root_alone : (contents : ℕ → List ℕ) (depth number : ℕ) (place : LptPlace) → LacksItsProperties contents → IsPlaceBelow least_geometry (contents 7) root depth number place → (depth ≡ 0) × (place ≡ root)
root_alone contents zero number place h is = (refl, is.1)
root_alone contents (suc depth) number place h is = absurd (none_below contents depth number place h is)

over_main : 0 < row_len least_geometry (pnode_depth least_geometry - 0)
unfolding tree_height height_from
over_main = ltb-true 0 1 refl

pub erased_tree_row : (contents : ℕ → List ℕ) → LacksItsProperties contents → IsFirstBreach contents (Damaged rules.Properties 7 15 32782 65535)
erased_tree_row contents h =
    let at : Wrong = record { lnum = 7; offs = 15; misfit = differs 32782 65535 } in
    let depth = deep in
    let told : differs 32782 65535 ≡ lpt_misfit 1 (take (nnode_len least_geometry) (drop 15 (contents 7))) = sym (ap (lpt_misfit 1) (bytes_there contents h) ∙ erased_misfit) in (
      least_image [],
      before_properties contents (least_image []) (least_super_has contents h.begins.super) (record { is_latest = h.begins.masters; in_areas = least_placed }),
      record {
        wrong = record {
          depth = 0;
          number = 0;
          place = root;
          in_tree = omega arith;
          over_main = over_main;
          leads = (refl, refl);
          some = λ e. absurd cc;
          lnum = refl;
          offs = refl;
          wrong = inl (inr (omega (arith, depth), λ four node. no_root contents four h node, told));
        };
        least = λ other wrong.
            let own = root_alone contents wrong.depth wrong.number wrong.place h wrong.leads in
            let none = own.0 in
            let lnum : other.lnum ≡ 7 = wrong.lnum ∙ ap (λ (p : LptPlace). p.lnum) own.1 in
            let offs : other.offs ≡ 15 = wrong.offs ∙ ap (λ (p : LptPlace). p.offs) own.1 in
            let misfit : other.misfit ≡ differs 32782 65535 = elim wrong.wrong [
              | inl (inl (bottom, no_pnode, values)) ↦ absurd (omega (arith, bottom, none, depth))
              | inl (inr (high, no_nnode, values)) ↦ values ∙ ap (λ (p : LptPlace). lpt_misfit 1 (take (nnode_len least_geometry) (drop p.offs (contents p.lnum)))) own.1 ∙ sym told
              | inr (elsewhere, stands, values) ↦ absurd (elsewhere (ap (λ (p : LptPlace). p.lnum) own.1))
            ] in
            not_before other at (omega (arith, lnum)) (λ e. omega (arith, offs)) (λ e f. misfit);
      },
    )
