-- What an engine returns.
pub mod Engine
