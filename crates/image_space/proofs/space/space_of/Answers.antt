use Rattle.std.proofs.Common.{List, ℕ, length, ap, subst, refl, ◌∙◌}
use Rattle.std.specs.Prelude.{filter}
use Rattle.std.specs.List.{range_with_len}
use Rattle.ubifs_base.specs.Areas.{main_first}
use Rattle.ubifs_base.specs.RawOf.{raw_of}
use Rattle.image_space.specs.Uses.{AreUses, counts_in, is_indexed_in}
use Rattle.image_space.specs.declared.leb_use.LebUse.{LebUse}
use Rattle.image_space.proofs.Spaces.{space_made}
use Rattle.image_space.proofs.space.space_of.Goals as goal

pub returns : goal.returns
returns c =
    let geo = raw_of c.args.geometry.now in
    let uses = c.in_ok-uses.uses.items in
    let first = c.main_first-first.ensures in
    let U : ℕ → Type 0 = λ n. AreUses n c.main_lebs.result c.args.nodes.now c.args.references.now c.args.leaves.now uses in
    let V : ℕ → Type 0 = λ n. AreUses (main_first geo) n c.args.nodes.now c.args.references.now c.args.leaves.now uses in
    record {
      space = λ image told.
          space_made c.lengths_tell_the_weight.ensures geo c.args.nodes.now c.args.references.now c.args.leaves.now c.args.applied _ image told (record {
            uses = uses;
            are = subst V c.main_lebs.ensures (subst U first c.in_ok-uses.ensures);
            used = c.in_ok-used.ensures;
            held = refl;
            credits = refl;
            empty = c.empty_lebs-empty.ensures ∙ ap (λ (xs : List LebUse). length (filter (counts_in c.main_first-first.result xs) (range_with_len c.main_first-first.result (length xs)))) c.deref.ensures.value
                ∙ ap (λ (n : ℕ). length (filter (counts_in n uses) (range_with_len n (length uses)))) first;
            index = c.index_lebs-index.ensures ∙ ap (λ (xs : List LebUse). length (filter (is_indexed_in c.main_first-first.result xs) (range_with_len c.main_first-first.result (length xs)))) c.deref-2.ensures.value
                ∙ ap (λ (n : ℕ). length (filter (is_indexed_in n uses) (range_with_len n (length uses)))) first;
            weight = c.in_ok-weight.ensures;
            main = c.main_lebs-2.ensures;
          });
    }
