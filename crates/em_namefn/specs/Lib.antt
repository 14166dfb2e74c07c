pub use Rattle.em_wordlist.specs.Words
pub use Rattle.em_pathname.specs.Walking
pub mod Names
pub mod Functions
pub mod Wildcards
