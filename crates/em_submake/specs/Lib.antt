pub use Rattle.em_script.specs.Strands
pub mod Ways
pub mod Submakes
pub mod Climbing
