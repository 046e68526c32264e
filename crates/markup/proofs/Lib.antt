pub mod FrontLaws
pub mod PlainLaws
pub mod PrintLaws
pub mod ShortLaws
pub mod OwnLaws
pub mod NestLaws
pub mod StrictLaws
