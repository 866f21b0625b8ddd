pub mod Register
pub mod Tree
pub mod Roles
pub mod Records
pub mod Form
