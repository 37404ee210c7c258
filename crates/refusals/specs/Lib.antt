-- The refusals that code names.
pub mod Fault
