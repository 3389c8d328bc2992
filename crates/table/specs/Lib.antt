-- Tables of residues, their images and the refusals of a conversion.
pub mod Table
