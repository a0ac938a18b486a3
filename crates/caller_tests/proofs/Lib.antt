pub mod FreshJobs
pub mod GivenBytes
