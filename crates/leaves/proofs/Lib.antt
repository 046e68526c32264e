pub mod LeafLaws
pub mod LengthLaws
