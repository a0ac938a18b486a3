use Rattle.std.proofs.Common.{subst, inl}
use Rattle.ubifs_tools.specs.Making.{IsCopiedAs}
use Rattle.ubifs_tools.specs.declared.mkfs.Copied.{Copied}
use Rattle.ubifs_tools.proofs.Making.{bad_tree}
use Rattle.ubifs_tools.proofs.Performing.{bad_script, copy_unread, no_error}
use Rattle.ubifs_tools.proofs.perform.perform_on_manifest.Goals as goal

pub returns-in-Err-clause-ran : goal.returns-in-Err-clause-ran
returns-in-Err-clause-ran g c = inl (
  c.requires,
  bad_tree c.in-Err.fault c.args.manifest.now c.in_ok-line-in-Err.line.items c.as_slice.result.now c.as_slice.ensures c.in-Err.ensures.line c.in_ok-line-in-Err.ensures.line
      (λ e. no_error c.bad_text_line.result c.in_ok-line-in-Err.line c.in_ok-line-in-Err.was (c.bad_text_line.ensures.memory e)),
)

pub returns-in-Err-read_script-clause-ran : goal.returns-in-Err-read_script-clause-ran
returns-in-Err-read_script-clause-ran g c = bad_script c.in-Err-read_script.fault c.args.manifest.now c.args.script.now c.in_ok-line-in-Err-read_script.line.items c.as_slice-in-Err-read_script.result.now
    c.as_slice-in-Err-read_script.ensures (λ begins. (c.in-Ok.named.volume, c.in-Ok.named.copied.items, c.in-Ok.named.tree, c.in-Ok.ensures.named)) c.in-Err-read_script.ensures.line c.in_ok-line-in-Err-read_script.ensures.line
    (λ e. no_error c.bad_text_line-in-Err-read_script.result c.in_ok-line-in-Err-read_script.line c.in_ok-line-in-Err-read_script.was (c.bad_text_line-in-Err-read_script.ensures.memory e))

pub returns-in-Unread-clause-ran : goal.returns-in-Unread-clause-ran
returns-in-Unread-clause-ran g c =
    let old = g.K.Keeper.state c.args.keeper.now in
    let new = g.K.Keeper.state c.fill_named.new.keeper in
    let P : Copied → Type 0 = λ x. IsCopiedAs old new c.args.manifest.now x in
    copy_unread old new c.args.manifest.now c.args.script.now c.in-Unread.line.items c.in-Ok-read_script.script.parts.items c.requires c.in-Ok-read_script.ensures.ok
    (subst P c.in-Unread.is (c.in_ok-line.ensures.copied c.args.manifest.now c.in-Ok.ensures.named))

pub run_made-requires-clause-proper : goal.run_made-requires-clause-proper
run_made-requires-clause-proper g c κs within =
    let P : Copied → Type 0 = λ x. IsCopiedAs (g.K.Keeper.state c.args.keeper.now) (g.K.Keeper.state c.fill_named.new.keeper) c.args.manifest.now x in
    (subst P c.in-Made.is (c.in_ok-line.ensures.copied c.args.manifest.now c.in-Ok.ensures.named)).1

pub run_made-requires-clause-main : goal.run_made-requires-clause-main
run_made-requires-clause-main g c κs within =
    let P : Copied → Type 0 = λ x. IsCopiedAs (g.K.Keeper.state c.args.keeper.now) (g.K.Keeper.state c.fill_named.new.keeper) c.args.manifest.now x in
    (subst P c.in-Made.is (c.in_ok-line.ensures.copied c.args.manifest.now c.in-Ok.ensures.named)).0.is.is.listed.range.2

pub run_made-requires-clause-range : goal.run_made-requires-clause-range
run_made-requires-clause-range g c κs within = c.parts_are_in_range.ensures c.args.script.now c.in-Ok-read_script.script.parts.items c.in-Ok-read_script.ensures.ok

pub returns-in-Made-clause-ran : goal.returns-in-Made-clause-ran
returns-in-Made-clause-ran g c =
    let old = g.K.Keeper.state c.args.keeper.now in
    let new = g.K.Keeper.state c.fill_named.new.keeper in
    let P : Copied → Type 0 = λ x. IsCopiedAs old new c.args.manifest.now x in
    c.run_made.ensures old new c.args.manifest.now c.args.script.now c.requires (subst P c.in-Made.is (c.in_ok-line.ensures.copied c.args.manifest.now c.in-Ok.ensures.named)).0 c.in-Ok-read_script.ensures.ok
