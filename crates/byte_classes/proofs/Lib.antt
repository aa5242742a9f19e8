-- Laws that the proofs of the table and of its users cite.
pub mod Table
