pub use Rattle.em_run.specs.Runs
pub use Rattle.em_script.specs.Strands
pub mod Nested
pub mod Alike
