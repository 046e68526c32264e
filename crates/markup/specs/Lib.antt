pub mod Print
pub mod Fronts
pub mod Examples
pub mod Own
pub mod Nest
pub mod NestExamples
