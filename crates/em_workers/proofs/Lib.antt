mod Turning
mod Noting
pub mod Saying
mod Lending
mod Committing
mod Building
