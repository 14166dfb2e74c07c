pub use Rattle.em_base.specs.Blanks
pub use Rattle.em_base.specs.Spans
pub mod Words
pub mod Stems
