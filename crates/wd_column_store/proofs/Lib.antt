pub mod Places
pub mod Positions
pub mod Pushes
pub mod RowsAlong
pub mod Rooms
pub mod Beside
pub mod Copied
