-- What the loops of this crate have in common: the size of products.
mod Product
