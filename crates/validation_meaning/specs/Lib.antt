pub mod Requests
pub mod Meaning
pub mod Search
pub mod Judgement
pub mod Searched
pub mod Active
