use Rattle.sound_image.proofs.WorkedRows.{commit_row, feature_row, misplaced_row, no_master_row, sum_row, super_row}
use Rattle.sound_image.proofs.laws.damaged_images_are_told.Goals as goal

pub returns-clause-feature : goal.returns-clause-feature
returns-clause-feature c = feature_row

pub returns-clause-field : goal.returns-clause-field
returns-clause-field c = super_row

pub returns-clause-none : goal.returns-clause-none
returns-clause-none c = no_master_row

pub returns-clause-root : goal.returns-clause-root
returns-clause-root c = misplaced_row c.one_node.ensures c.one_text.ensures

pub returns-clause-commit : goal.returns-clause-commit
returns-clause-commit c = commit_row c.one_node.ensures c.one_text.ensures

pub returns-clause-sum : goal.returns-clause-sum
returns-clause-sum c = sum_row
