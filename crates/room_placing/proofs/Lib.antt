mod Lying
mod Pushing
mod Placed
mod Between
