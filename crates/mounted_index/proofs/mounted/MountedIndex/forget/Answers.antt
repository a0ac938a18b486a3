use Rattle.mounted_index.proofs.mounted.MountedIndex.forget.Goals as goal

pub returns-clause-shown : goal.returns-clause-shown
returns-clause-shown g c = λ before row others kept taken. record { nodes = taken; kept = c.forget.ensures.kept before (g.V.Volume.state c.args.volume.now).holds others kept }

pub returns-clause-staged : goal.returns-clause-staged
returns-clause-staged g c = λ before staged row others kept shown. record { nodes = shown; kept = c.forget.ensures.kept before (g.V.Volume.state c.args.volume.now).holds others kept }
