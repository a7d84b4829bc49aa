pub mod FirstValues
