pub mod Waited
