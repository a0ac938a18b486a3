use Rattle.ubifs_tools.proofs.perform.perform.Goals as goal

pub returns-else-begins_as_manifest-clause-ran : goal.returns-else-begins_as_manifest-clause-ran
returns-else-begins_as_manifest-clause-ran g c = c.perform_on_image.ensures (g.K.Keeper.state c.args.keeper.now) (g.K.Keeper.state c.args.keeper.now)
