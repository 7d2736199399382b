pub mod Endings
pub mod GetRuns
pub mod Lines
pub mod Numbers
pub mod PutRuns
pub mod RawLabel
pub mod TakenInput
