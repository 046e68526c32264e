pub mod Places
pub mod Dollars
pub mod Search
