pub mod TreeLaws
pub mod CoverLaws
pub mod ReachLaws
pub mod ArrayLaws
pub mod RecordLaws
pub mod CallLaws
pub mod FormLaws
