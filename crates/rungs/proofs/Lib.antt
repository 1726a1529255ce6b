pub mod RungLaws
pub mod RungSearch
pub mod RungTable
