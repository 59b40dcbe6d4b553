pub mod Chosen
pub mod Known
pub mod Rows
pub mod BodiesLed
pub mod StandingBodies
pub mod Sides
pub mod OnePlainStep
