pub mod Chunks
pub mod ExamplesProved
pub mod LimitWritten
pub mod NjoinPieces
pub mod SideTold
pub mod Told
