pub mod Tokens
pub mod Emergency
