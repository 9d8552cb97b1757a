pub mod Examples
pub mod ProxyFronts
pub mod ProxyHeaders
pub mod ProxyPast
pub mod ProxyWords
pub mod RangesRead
