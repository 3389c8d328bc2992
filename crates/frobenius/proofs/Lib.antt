-- What the eigenvector decides; the laws of the loops stand beside their functions.
pub mod KernelAnswer
