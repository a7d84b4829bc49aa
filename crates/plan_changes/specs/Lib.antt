pub mod Scene
pub mod Changes
