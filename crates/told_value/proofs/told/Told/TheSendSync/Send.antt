-- A told value owns nothing, so it may go to another thread.
use denote.RattleType.{RattleType}
use denote.Param.Send.{IsSend, owning_send, sendable}
use Rattle.told_value.specs.contracts.told.Told.{the_row, the_type}

pub send : (S : RattleType) → IsSend (the_row S)
send S = owning_send (the_type S) (search sendable, tt) (λ d. tt) (λ k x w. tt)
