use Rattle.space_sums.proofs.Admitted.{covered_with_room, has_room_once_granted, has_room_after_page, covered_after_page, covered_after_group}
use Rattle.space_sums.proofs.grants.what_was_admitted_can_be_put.Goals as goal

pub returns-clause-covered : goal.returns-clause-covered
returns-clause-covered c = covered_with_room

pub returns-clause-granted : goal.returns-clause-granted
returns-clause-granted c = has_room_once_granted

pub returns-clause-page : goal.returns-clause-page
returns-clause-page c = has_room_after_page

pub returns-clause-page_covered : goal.returns-clause-page_covered
returns-clause-page_covered c = covered_after_page

pub returns-clause-group : goal.returns-clause-group
returns-clause-group c = covered_after_group
