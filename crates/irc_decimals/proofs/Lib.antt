pub mod NumbersWritten
