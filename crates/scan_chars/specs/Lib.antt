-- What the code asks of a line of RFC 3629's table.
pub mod Lines
