pub mod Words
pub mod inner
pub mod Part
pub mod Multi
pub mod Ref
pub mod RefMut
pub mod Entry
pub mod EntryCases
