use Rattle.table_nodes.proofs.seen.tell_again.Given as goal

abbrev pub ghost-tell_of : goal.ghost-tell_of
ghost-tell_of a = λ told. told.value.value
