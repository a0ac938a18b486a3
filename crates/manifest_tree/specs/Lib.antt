pub mod ManifestTree
pub mod CopiedFiles
pub mod Places
