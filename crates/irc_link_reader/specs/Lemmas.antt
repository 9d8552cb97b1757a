pub mod EffectRows
pub mod SaidSo
