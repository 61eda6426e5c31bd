pub mod Traces
pub mod ControlStatements
pub mod Origins
pub mod Laws
pub mod Examples
