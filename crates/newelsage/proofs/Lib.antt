pub mod LibraryLaws
pub mod ListLaws
pub mod WalkLaws
