pub mod Meets
pub mod Hears
pub mod RowCounts
pub mod Rows
pub mod Rest
pub mod Barrier
pub mod PlanOrder
