use Rattle.std.proofs.Common.{◌≡◌, length}
use Rattle.io_edges.specs.Pieces.{SamePieces, first_pieces}
use Rattle.io_edges.proofs.mem_keeper.gathered.Given as goal

-- the pieces are as they were at first, the room is that of one, and those so far stand one behind another
abbrev pub invariant-loop-number : goal.invariant-loop-number
invariant-loop-number g l = record {
  same : SamePieces (g.P.Pieces.pieces l.fn.pieces) (g.P.Pieces.pieces l.pieces);
  long : length l.piece.items ≡ (g.P.Pieces.pieces l.fn.pieces).size;
  done : l.bytes.items ≡ first_pieces (g.P.Pieces.pieces l.fn.pieces).piece l.number;
}
