use Rattle.std.proofs.Common.{◌≡◌, length}
use Rattle.io_edges.specs.Pieces.{SamePieces}
use Rattle.io_edges.proofs.file_keeper.write_file.Given as goal

-- the pieces are as they were at first, and the room is that of one
abbrev pub invariant-loop-number : goal.invariant-loop-number
invariant-loop-number g l = record {
  same : SamePieces (g.P.Pieces.pieces l.fn.pieces) (g.P.Pieces.pieces l.pieces);
  long : length l.piece.items ≡ (g.P.Pieces.pieces l.fn.pieces).size;
}
