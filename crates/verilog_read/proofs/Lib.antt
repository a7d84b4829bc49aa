pub mod Turns
pub mod Wholes
pub mod Judging
pub mod Bodies
pub mod Renumbered
pub mod Texts
pub mod Sheets
pub mod Compiled
