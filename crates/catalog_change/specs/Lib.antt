pub mod Resources
pub mod Changes
pub mod Catalogues
pub mod Subjects
