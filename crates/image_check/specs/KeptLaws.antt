-- A volume that is only read: what lpt_area says of it.
pub use Rattle.lpt_area.specs.KeptLaws.{IsKept, kept_start, stays_sure, sure_of_area, sure_of_one, kept_next}
