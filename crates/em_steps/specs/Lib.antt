pub use Rattle.em_exec.specs.Subs
pub use Rattle.em_script.specs.Strands
pub mod Laps
pub mod Turns
pub mod Pausing
