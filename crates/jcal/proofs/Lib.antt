-- Laws and theorems. jCal (RFC 7265), beside xCal: where RFC 7265 is silent, names, parameters and values are read and written as in XML.
--     laws             laws of these
pub mod laws
