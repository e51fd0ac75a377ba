pub mod Asked
pub mod Cells
pub mod Chosen
pub mod Declarations
pub mod Fill
pub mod Grid
pub mod Laid
pub mod Parts
