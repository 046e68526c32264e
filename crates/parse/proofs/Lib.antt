pub mod RoomLaws
pub mod SeqLaws
pub mod WayLaws
pub mod LeafLaws
pub mod LoopLaws
pub mod GroupLaws
pub mod BodyLaws
