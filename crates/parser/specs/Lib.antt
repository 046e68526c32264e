pub mod State
pub mod Environment
pub mod Marks
pub mod Parse
pub mod Sound
pub mod Built
pub mod Examples
