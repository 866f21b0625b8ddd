pub mod Requests
pub mod Fresh
pub mod MinuteLaws
pub mod ConflictLaws
pub mod BaselineLaws
pub mod InclusionLaws
pub mod Exact
