-- The schema as tables: what may stand where, how often, with which parameters and types.
-- "The schema" is the RELAX NG schema of RFC 6321, errata 3042, 3050 and 3314 applied; lines are counted from its heading, `# RELAX NG Schema for iCalendar in XML`.
-- `tools/check-schema.py` compares the tables with it.
--     Types       the value types by name
--     Parameters  parameters: type, whether listed, whether quoted, closed sets
--     Properties  the one table of properties: types, parameters, whether listed, how often by which list; closed sets
--     Components  components: subcomponents, and how often each property stands
--     Counts      the tallies of a component compared with its list (refusal 9)
--     Numbers     names by their numbers, and the rows of numbers
--     Property    the numbers of properties by name
--     Halving     a name found by halving
--     Coded       the one table as the code has it
--     Packs       the numbers by which code finds names
--     Cells       tables that a definition fills
--     Columns     what the tables say, by numbers
--     Sets        closed sets, by numbers
--     Arrays      the tallies of a component in an array
--     Completing  counts over that array
--     Computing   opens all of these, for examples that compute
--     Examples    the tables computed
--     laws        laws of these, and what proofs need
pub mod Types
pub mod Parameters
pub mod Properties
pub mod Components
pub mod Counts
pub mod Numbers
pub mod Property
pub mod Halving
pub mod Coded
pub mod Packs
pub mod Cells
pub mod Columns
pub mod Sets
pub mod Arrays
pub mod Completing
pub mod Computing
pub mod Examples
pub mod laws
