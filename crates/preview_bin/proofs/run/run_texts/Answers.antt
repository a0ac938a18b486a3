use Rattle.preview_bin.proofs.run.run_texts.Goals as goal

pub run_files-requires-clause-range : goal.run_files-requires-clause-range
run_files-requires-clause-range g c κs within = c.parts_are_in_range.ensures c.args.script.now c.in-Ok-read_script.script.parts.items c.in-Ok-read_script.ensures.ok
