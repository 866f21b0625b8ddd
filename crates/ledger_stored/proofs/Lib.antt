pub mod Mapping
pub mod Entries
pub mod StoredLaws
