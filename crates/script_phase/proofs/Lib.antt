pub mod AfterPhase
pub mod Called
pub mod Found
pub mod NewJobs
pub mod TraceLines
