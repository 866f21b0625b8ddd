pub mod Runs
pub mod Counts
pub mod Demands
pub mod Foresight
pub mod Folder
