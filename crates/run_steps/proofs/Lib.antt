pub mod Folders
pub mod LoadedTables
pub mod TablesLaws
