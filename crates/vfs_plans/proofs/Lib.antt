pub mod Asking
pub mod FewLinks
pub mod Plans
pub mod Removals
pub mod Sizes
pub mod Walking
