pub mod ProgramLaws
pub mod DemandLaws
