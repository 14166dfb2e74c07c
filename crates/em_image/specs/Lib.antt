pub use Rattle.em_tree.specs.Trees
pub mod Image
pub mod Parts
pub mod Reading
pub mod Headers
pub mod Faults
