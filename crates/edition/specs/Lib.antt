-- The editions of iCalendar text.
--     Edition      the editions, and the values of parameters in them
--     Computing    opens these, for examples that compute
--     Examples     computed
--     laws         laws of these, and what proofs need
pub mod Edition
pub mod Computing
pub mod Examples
pub mod laws
