mod Yields
mod Groups
mod Gives
mod Answered
