pub mod CallLaws
pub mod DemandLaws
