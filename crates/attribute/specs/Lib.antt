pub mod Names
pub mod Codes
