pub mod Shown
pub mod Measure
