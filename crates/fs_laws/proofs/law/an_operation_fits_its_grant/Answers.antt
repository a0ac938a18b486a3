use Rattle.fs_laws.proofs.Grants.{group_fits}
use Rattle.fs_laws.proofs.law.an_operation_fits_its_grant.Goals as goal

pub returns : goal.returns
returns c files caller now op grant = group_fits files caller now op grant
