mod Queries
mod Conditions
mod Groups
