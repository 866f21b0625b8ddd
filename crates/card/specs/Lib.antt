pub mod Answer
pub mod Form
pub mod Grammar
pub mod Reading
pub mod Writing
pub mod Promises
