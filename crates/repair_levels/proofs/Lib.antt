-- Laws of cells that are counted: by the chunks that they name, in a level, in a table.
pub mod Names
pub mod Parts
pub mod Levels
