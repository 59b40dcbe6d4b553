pub mod reading
pub mod answers
pub mod spelled
pub mod texts
pub mod writing
