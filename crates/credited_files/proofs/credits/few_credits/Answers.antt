use Rattle.credited_files.proofs.credits.few_credits.Goals as goal

pub returns : goal.returns
returns g c = (g.met.B.Backing.small c.args.fs.now.backing c.args.fs.now.ready.kept_fits.proper).credits
