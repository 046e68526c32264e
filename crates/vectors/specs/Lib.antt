pub mod Counts
pub mod Judged
