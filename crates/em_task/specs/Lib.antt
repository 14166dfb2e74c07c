pub use Rattle.em_vars.specs.Entries
pub mod Endings
pub mod Handed
