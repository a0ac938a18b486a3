use Rattle.credited_files.proofs.stock.Stock.take.Given as goal

-- the pool that was told
abbrev pub ghost-tell_of : goal.ghost-tell_of
ghost-tell_of a = λ x. x.value
