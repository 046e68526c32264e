pub mod PieceLaws
pub mod ShownLaws
pub mod PartsLaws
pub mod RowLaws
pub mod TreeLaws
pub mod FineLaws
pub mod MeasureLaws
