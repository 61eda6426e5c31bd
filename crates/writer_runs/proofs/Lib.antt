pub mod Names
pub mod Composed
pub mod Agreeing
pub mod Calm
pub mod Used
pub mod Alike
pub mod Standing
pub mod Shown
