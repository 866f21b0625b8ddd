pub mod TableLaws
pub mod RunLaws
