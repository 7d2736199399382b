pub mod OrderedLists
pub mod OrderedSearch
pub mod OrderedUpdates
pub mod OrderedLaws
pub mod OrderedNumbers
pub mod Taking
pub mod Writing
