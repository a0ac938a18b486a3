pub mod Contents
pub mod OneTold
pub mod OneFault
pub mod Laid
