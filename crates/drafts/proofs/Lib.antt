pub mod FormLaws
pub mod EditionLaws
