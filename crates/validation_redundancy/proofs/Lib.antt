pub mod MaskLaws
pub mod TableLaws
pub mod CoverLaws
