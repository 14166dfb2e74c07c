pub use Rattle.em_glob.specs.Patterns
pub mod Parts
pub mod Forms
pub mod Cuts
