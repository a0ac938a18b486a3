use Rattle.std.proofs.Common.{List, ℕ, ◌++◌, ap, ◌∙◌}
use Rattle.fs_model.specs.Files.{block_at, piece_of}
use Rattle.buffered_files.proofs.Clean.{kept_read_below, read_back}
use Rattle.buffered_files.proofs.Ends.{stored_short}
use Rattle.buffered_files.proofs.Reading.{Reads-tree}
use Rattle.buffered_files.proofs.reads.push_stored.Goals as goal

pub returns-then-stored-gt0-clause-bytes : goal.returns-then-stored-gt0-clause-bytes
returns-then-stored-gt0-clause-bytes g c =
    let tree = (g.B.Backing.state c.args.backing.now).tree in
    let block = block_at tree.blocks c.args.ino c.args.block in
    let read = read_back block c.read_block.new.out c.in_ok-stored.field-0 (stored_short tree.blocks c.args.ino c.args.block c.requires.kept.proper.block_nodes) c.in_ok-stored.ensures.found in
    let whole : List ℕ → List ℕ = λ bytes. c.args.out.now.items ++ piece_of bytes c.args.from c.args.count in
    c.in_ok-push_piece.ensures ∙ ap whole read

pub returns-then-stored-gt0-clause-kept : goal.returns-then-stored-gt0-clause-kept
returns-then-stored-gt0-clause-kept g c =
    let tree = (g.B.Backing.state c.args.backing.now).tree in
    let block = block_at tree.blocks c.args.ino c.args.block in
    let read = read_back block c.read_block.new.out c.in_ok-stored.field-0 (stored_short tree.blocks c.args.ino c.args.block c.requires.kept.proper.block_nodes) c.in_ok-stored.ensures.found in
    kept_read_below c.keep_page.result tree (g.B.Backing.state c.read_block.new.self).tree c.args.kept.now c.keep_page.new.kept c.args.ino c.args.block _ read (Reads-tree (g.B.Backing.state c.args.backing.now) (g.B.Backing.state c.read_block.new.self) c.read_block.ensures.reads) c.requires.kept c.keep_page.ensures.ok c.keep_page.ensures.err
