pub mod State
pub mod Answer
pub mod Opening
pub mod Invariant
pub mod Enrolment
pub mod Promises
