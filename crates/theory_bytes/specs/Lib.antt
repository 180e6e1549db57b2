-- The grammar of RFC 3629 as a relation.
pub mod Octets
