use Rattle.std.proofs.Common.{◌/◌, sym, subst, ◌∙◌, arith}
use Rattle.buffered_files.proofs.Clean.{used_fits}
use Rattle.buffered_files.proofs.Reading.{kept_part, stored_part_of, high_part}
use Rattle.buffered_files.specs.declared.kept.Kept.{Kept}
use Rattle.buffered_files.specs.Present.{IsKept}
use Rattle.buffered_files.proofs.reads.push_bytes.Goals as goal

pub returns-then-block-clause-bytes : goal.returns-then-block-clause-bytes
returns-then-block-clause-bytes g c =
    let high = c.if-block.true in
    c.in_ok-push_piece.ensures ∙ high_part (g.B.Backing.state c.args.backing.now).tree c.args.kept.now c.args.ino c.args.place c.args.count c.args.out.now.items c.requires.kept c.requires.page (omega (arith, high))

pub returns-in_err-push_kept-clause-kept : goal.returns-in_err-push_kept-clause-kept
returns-in_err-push_kept-clause-kept g c =
    let tree = (g.B.Backing.state c.args.backing.now).tree in
    subst (λ (k : Kept). IsKept tree k) (sym c.push_kept.ensures.used) (used_fits tree c.args.kept.now c.args.ino (c.args.place / 4096) c.requires.kept)

pub returns-then-branch-clause-bytes : goal.returns-then-branch-clause-bytes
returns-then-branch-clause-bytes g c =
    c.in_ok-push_kept.ensures.bytes
    ∙ kept_part (g.B.Backing.state c.args.backing.now).tree c.args.kept.now c.args.ino c.args.place c.args.count c.args.out.now.items c.requires.kept c.push_kept.ensures.once c.requires.page (sym c.in_ok-push_kept.ensures.found ∙ c.if-branch.true)

pub returns-then-branch-clause-kept : goal.returns-then-branch-clause-kept
returns-then-branch-clause-kept g c =
    let tree = (g.B.Backing.state c.args.backing.now).tree in
    subst (λ (k : Kept). IsKept tree k) (sym c.push_kept.ensures.used) (used_fits tree c.args.kept.now c.args.ino (c.args.place / 4096) c.requires.kept)

pub push_stored-requires-clause-kept : goal.push_stored-requires-clause-kept
push_stored-requires-clause-kept g c =
    let tree = (g.B.Backing.state c.args.backing.now).tree in
    subst (λ (k : Kept). IsKept tree k) (sym c.push_kept.ensures.used) (used_fits tree c.args.kept.now c.args.ino (c.args.place / 4096) c.requires.kept)

pub returns-clause-bytes : goal.returns-clause-bytes
returns-clause-bytes g c =
    stored_part_of c.push_stored.result (g.B.Backing.state c.args.backing.now).tree c.args.kept.now c.args.ino c.args.place c.args.count c.args.out.now.items c.push_kept.new.out.items c.push_stored.new.out.items c.push_kept.ensures.once c.requires.page
    (sym c.in_ok-push_kept.ensures.found ∙ c.if-branch.false) c.in_ok-push_kept.ensures.bytes c.push_stored.ensures.bytes
