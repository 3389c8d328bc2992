-- One word of the lower words of all multiples: the laws of its loops.
pub mod Blocks
pub mod Planes
