pub use Rattle.em_glob.specs.Patterns
pub mod Walking
