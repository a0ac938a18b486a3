use Rattle.std.specs.Prelude.{None}
use Rattle.index_commit.proofs.KeysApart.{apart_in_order, change_apart, first_keys_apart, kept_apart}
use Rattle.index_commit.proofs.laws.changes_keep_keys_apart.Goals as goal

pub returns-clause-in_order : goal.returns-clause-in_order
returns-clause-in_order c = λ row keys apart. apart_in_order None row keys apart

pub returns-clause-changed : goal.returns-clause-changed
returns-clause-changed c = λ fanout change row one is free bounded apart. change_apart fanout change row one is free bounded apart

pub returns-clause-places : goal.returns-clause-places
returns-clause-places c = λ old new kept apart. kept_apart None old new kept apart

pub returns-clause-first_keys : goal.returns-clause-first_keys
returns-clause-first_keys c = λ row first leaves. first_keys_apart None row first leaves
