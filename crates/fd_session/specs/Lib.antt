pub mod Held
pub mod Machine
pub mod Moves
pub mod Near
pub mod Redraw
pub mod Reversing
pub mod Switch
