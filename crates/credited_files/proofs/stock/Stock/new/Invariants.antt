use Rattle.credited_files.proofs.stock.Stock.new.Given as goal

-- the pool itself
abbrev pub ghost-tell_of : goal.ghost-tell_of
ghost-tell_of a = λ x. x
