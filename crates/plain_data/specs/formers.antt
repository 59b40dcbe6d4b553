pub mod boxed
pub mod list
pub mod shared
pub mod shared_list
