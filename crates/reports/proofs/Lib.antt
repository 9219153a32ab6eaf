pub mod ReportLaws
pub mod InOrder
pub mod TheReport
