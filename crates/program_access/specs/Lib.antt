pub mod Arguments
pub mod Words
pub mod Table
pub mod Promises
