pub mod Utf8
pub mod Follow
pub mod Text
pub mod Plain
pub mod Any
pub mod Put
pub mod Xml
pub mod Examples
