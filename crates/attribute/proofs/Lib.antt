pub mod CodeLaws
pub mod PlainLaws
