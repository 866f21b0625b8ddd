pub mod Quantifiers
pub mod Bits
pub mod Numbers
pub mod RecordSets
