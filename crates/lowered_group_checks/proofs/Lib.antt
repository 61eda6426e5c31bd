pub mod Used
pub mod FoldsUsed
pub mod GroupsUsed
pub mod Shaped
pub mod FoldsPass
pub mod GroupsPass
pub mod FoldingsPass
pub mod WholePass
