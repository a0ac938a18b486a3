pub mod CutsTold
pub mod GivenBytes
pub mod SampleFits
