pub mod BaselineTests
pub mod ConflictTests
