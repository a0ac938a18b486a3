pub mod LogChecks
