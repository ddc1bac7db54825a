pub mod KeyLists
pub mod Slots
pub mod Dues
pub mod Ties
