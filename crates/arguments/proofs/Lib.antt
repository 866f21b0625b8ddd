pub mod HexadecimalLaws
pub mod Examples
