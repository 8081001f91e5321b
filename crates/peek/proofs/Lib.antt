pub mod Numbers
pub mod FieldLaws
