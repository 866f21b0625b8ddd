pub mod ReaderLaws
pub mod Rest
