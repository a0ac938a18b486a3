pub mod Escapes
pub mod Words
pub mod Script
pub mod Verbs
pub mod Manifest
pub mod ManifestLines
pub mod MadeNames
pub mod Reply
