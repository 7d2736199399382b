mod Finding
mod Loading
mod Putting
mod Emptying
mod Relabelling
mod Asking
