pub use Rattle.em_base.specs.Blanks
pub mod Marks
pub mod Commands
pub mod Messages
pub mod Automatic
