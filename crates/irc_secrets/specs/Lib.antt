pub mod ButForOne
pub mod Outside
pub mod Laws
