use Rattle.std.proofs.Common.{ℕ, List, [], length, sym, ap, ◌∙◌, arith}
use Rattle.fs_model.specs.Files.{block_at}
use Rattle.buffered_files.specs.Present.{filled}
use Rattle.buffered_files.proofs.Reading.{seen, seen_at, seen_high, seen_short, seen_stored, block_stored, block_bytes}
use Rattle.buffered_files.proofs.reads.read_page.Goals as goal

pub returns-then-block-clause-stored : goal.returns-then-block-clause-stored
returns-then-block-clause-stored g c =
    let high = c.if-block.true in
    ap (λ (bytes : List ℕ). length bytes) (sym (seen_high (g.B.Backing.state c.args.backing.now).tree c.args.kept.now c.args.ino c.args.block c.requires.kept (omega (arith, high))))

pub returns-then-block-clause-bytes : goal.returns-then-block-clause-bytes
returns-then-block-clause-bytes g c =
    let high = c.if-block.true in
    c.fill_with.ensures ∙ ap (λ n. filled [] n) c.requires.out
    ∙ ap (λ bytes. filled bytes 4096) (sym (seen_high (g.B.Backing.state c.args.backing.now).tree c.args.kept.now c.args.ino c.args.block c.requires.kept (omega (arith, high))))

pub fill_with-requires-in-Some : goal.fill_with-requires-in-Some
fill_with-requires-in-Some g c =
    let tree = (g.B.Backing.state c.args.backing.now).tree in
    let is = seen_at tree c.args.kept.now c.args.ino c.args.block c.in-Some.page.now c.requires.kept c.dirty-dirty.ensures.cache.dirty_once (sym c.in-Some.ensures) in
    let short = seen_short tree c.args.kept.now c.args.ino c.args.block c.requires.kept in
    let n = ap (λ (bytes : List ℕ). length bytes) (c.as_slice-bytes.ensures ∙ sym is) in
    let out = c.requires.out in
    omega (arith, n, short, out)

pub returns-in-Some-clause-stored : goal.returns-in-Some-clause-stored
returns-in-Some-clause-stored g c =
    let tree = (g.B.Backing.state c.args.backing.now).tree in
    ap (λ (bytes : List ℕ). length bytes) (c.as_slice-bytes.ensures ∙ sym (seen_at tree c.args.kept.now c.args.ino c.args.block c.in-Some.page.now c.requires.kept c.dirty-dirty.ensures.cache.dirty_once (sym c.in-Some.ensures)))

pub returns-in-Some-clause-bytes : goal.returns-in-Some-clause-bytes
returns-in-Some-clause-bytes g c =
    let tree = (g.B.Backing.state c.args.backing.now).tree in
    c.fill_with-in-Some.ensures ∙ ap (λ n. filled c.as_slice-bytes.result.now n) c.requires.out
    ∙ ap (λ bytes. filled bytes 4096) (c.as_slice-bytes.ensures ∙ sym (seen_at tree c.args.kept.now c.args.ino c.args.block c.in-Some.page.now c.requires.kept c.dirty-dirty.ensures.cache.dirty_once (sym c.in-Some.ensures)))

pub returns-in-None-clause-stored : goal.returns-in-None-clause-stored
returns-in-None-clause-stored g c =
    let tree = (g.B.Backing.state c.args.backing.now).tree in
    let seen_as = seen_stored tree c.args.kept.now c.args.ino c.args.block c.dirty-dirty.ensures.cache.dirty_once (sym c.in-None.ensures) in
    let short = seen_short tree c.args.kept.now c.args.ino c.args.block c.requires.kept in
    block_stored c.read_block.result (block_at tree.blocks c.args.ino c.args.block) (block_at (seen tree c.args.kept.now) c.args.ino c.args.block) c.read_block.new.out seen_as short c.read_block.ensures.found

pub returns-in-None-clause-bytes : goal.returns-in-None-clause-bytes
returns-in-None-clause-bytes g c =
    let tree = (g.B.Backing.state c.args.backing.now).tree in
    let seen_as = seen_stored tree c.args.kept.now c.args.ino c.args.block c.dirty-dirty.ensures.cache.dirty_once (sym c.in-None.ensures) in
    let short = seen_short tree c.args.kept.now c.args.ino c.args.block c.requires.kept in
    block_bytes c.read_block.result (block_at tree.blocks c.args.ino c.args.block) (block_at (seen tree c.args.kept.now) c.args.ino c.args.block) c.read_block.new.out seen_as short c.read_block.ensures.found
