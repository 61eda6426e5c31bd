mod OfKind
mod Alike
