pub mod Fields
pub mod FieldLaws
pub mod PlaceLaws
pub mod Opening
pub mod Form
pub mod FormLaws
