use Rattle.std.proofs.Common.{arith}
use Rattle.ubifs_base.specs.Areas.{main_first}
use Rattle.image_maker.specs.Leaves.{live_leaves}
use Rattle.image_maker.specs.Places.{placed_rows}
use Rattle.laid_tree.proofs.Laid.{laid_nodes_of, next_number, room_left, stay_laid, unwritten_lebs}
use Rattle.laid_tree.proofs.leaves.laid_leaves_stand.Goals as goal

pub returns : goal.returns
returns c = record {
  stand = λ geo tree contents laid is h.
      let unit = is.min_io.1 in
      (placed_rows (main_first geo) h.rows, laid_nodes_of geo tree contents laid (omega (arith, unit)) h, h.leaves_are, next_number geo tree contents laid h);
  unwritten = λ geo tree contents laid h. unwritten_lebs geo (live_leaves tree) contents laid h;
  room = λ geo tree contents laid h. let few = h.few in let number = h.sqnum in (room_left geo (live_leaves tree) contents laid h, omega (arith, few, number));
  kept = stay_laid;
}
