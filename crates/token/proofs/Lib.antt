pub mod Agree
pub mod DebugLaws
pub mod FitLaws
pub mod OldLaws
pub mod PlainLaws
pub mod SearchLaws
pub mod Spelled
pub mod TextsLaws
