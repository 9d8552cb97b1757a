pub mod Finding
pub mod Heads
pub mod NumberedRows
pub mod SeatMoves
pub mod Seatings
