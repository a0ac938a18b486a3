pub mod Added
pub mod Calls
pub mod Judged
pub mod LogTexts
pub mod NewerLebs
pub mod OneText
pub mod TakenReferences
