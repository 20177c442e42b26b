-- Laws of the circle.
pub mod Circle
