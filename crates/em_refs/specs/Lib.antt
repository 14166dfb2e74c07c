pub use Rattle.em_base.specs.Spans
pub mod Parts
pub mod Steps
pub mod Nesting
