pub mod Selection
pub mod Matching
pub mod Nothing
pub mod Lowest
pub mod Places
