pub mod Read
mod Operators
mod Predicates
mod Conditions
mod Joins
