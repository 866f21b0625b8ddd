pub mod DecimalLaws
pub mod TextLaws
pub mod Examples
