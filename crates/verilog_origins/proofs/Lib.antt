pub mod Origins
pub mod Placing
pub mod Claims
pub mod Pointing
