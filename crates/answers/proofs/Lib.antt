-- What is known of the layout: a table lent in the words in which it was told.
pub mod Table
