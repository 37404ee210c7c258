-- xCal (RFC 6321).
-- What documents state, and where they are refused:
--     Layout           children in a fixed order, and names with capitals
--     ValueNodes       the elements of a value
--     ParameterNodes   the elements of the parameters
--     PropertyNodes    the elements of a property
--     ComponentNodes   the elements of components, up to the root
--     ReadDocument     the answer for a document
-- What is written:
--     WriteXml         the canonical XML of a calendar
-- and
--     Computing        opens all definitions, for examples that compute
pub mod Layout
pub mod ValueNodes
pub mod ParameterNodes
pub mod PropertyNodes
pub mod ComponentNodes
pub mod ReadDocument
pub mod WriteXml
pub mod Computing
