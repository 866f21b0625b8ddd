pub mod Beginning
pub mod CallLaws
pub mod AdmitLaws
pub mod EnrolLaws
pub mod AskLaws
