pub mod ChangesParted
pub mod LimitsKept
