pub mod Program
pub mod Demand
pub mod Examples
