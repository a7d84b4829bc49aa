pub mod Numbers
pub mod Buffer
