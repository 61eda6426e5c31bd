pub mod Plans
pub mod Lines
pub mod Words
pub mod Numbers
pub mod Settings
pub mod LineFaults
pub mod Reading
pub mod Examples
