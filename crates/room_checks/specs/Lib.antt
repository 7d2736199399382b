pub mod OpenSets
