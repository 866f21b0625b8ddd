pub mod BriefLaws
pub mod TokenLaws
