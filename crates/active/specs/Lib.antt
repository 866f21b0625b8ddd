pub mod Active
pub mod Changes
