pub mod Standing
pub mod Led
pub mod InRooms
pub mod IntoAggregates
pub mod ValuesLed
