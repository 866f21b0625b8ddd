pub mod MatchLaws
pub mod SelectLaws
pub mod LowestLaws
pub mod MetLaws
