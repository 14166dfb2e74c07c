pub use Rattle.em_exec.specs.Exec
pub use Rattle.em_exec.specs.Subs
pub mod Lines
pub mod Strands
