pub mod Origins
pub mod Items
pub mod Claims
pub mod Points
