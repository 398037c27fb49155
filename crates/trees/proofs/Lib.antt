pub mod Ring
pub mod Forest
