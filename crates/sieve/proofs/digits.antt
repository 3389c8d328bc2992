-- Powers of p and digits: the laws of their loops.
pub mod Turns
