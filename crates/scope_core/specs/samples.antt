pub mod Trees
mod Hidden
mod Grouped
mod Operators
mod Seen
mod Refused
