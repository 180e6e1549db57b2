-- The words that stand for numbers among a node's facts and for its kind.
pub mod Words
