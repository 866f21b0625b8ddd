pub mod Answers
pub mod Library
pub mod Lists
