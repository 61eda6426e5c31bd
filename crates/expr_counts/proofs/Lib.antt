mod Most
mod Counted
