pub mod TwoHeads
