pub mod LineEndLaws
pub mod BreakLaws
pub mod CutLaws
pub mod PieceLaws
pub mod CountLaws
