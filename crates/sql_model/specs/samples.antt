pub mod Forms
mod SetOperators
mod Scope
mod Subqueries
mod Groups
mod Views
mod Constraints
