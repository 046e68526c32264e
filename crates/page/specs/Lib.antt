pub mod Page
pub mod Run
pub mod Marks
pub mod Words
pub mod Demand
pub mod Examples
