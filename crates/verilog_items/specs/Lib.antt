pub mod Notes
pub mod Items
pub mod Following
